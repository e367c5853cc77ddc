-- A query that is answered is valid.
use Rattle.std.proofs.Common.{◌≡◌, ◌<◌, ◌≤◌, ◌+◌, ℕ, zero, suc, List, [], ◌∷◌, ◌++◌, Bool, true, false, Option, Some, None, Result, Ok, Err, length, refl, sym, subst, inl, inr, arith, if◌then◌else◌, length-append}
use Rattle.std.specs.Prelude.{nat_lt, ◌==◌, min, bytes_eq, map}
use Rattle.std.specs.List.{list_any}
use Rattle.std.proofs.lemmas.Bool.{ltb-true}
use Rattle.std.proofs.lemmas.Slice.Eq.{bytes_eq-Decides}
use Rattle.grammar_model.specs.Parsers.{Reads, Done, Rejected}
use Rattle.rdf_terms.specs.Lists.{IsIn, Apart}
use Rattle.rdf_terms.proofs.Adding.{in_any}
use Rattle.rdf_terms.proofs.Members.{in_either, from_map, apart_push}
use Rattle.rows_core.specs.declared.pattern.TriplePattern.{TriplePattern}
use Rattle.expr_eval.specs.declared.expr.Expr.{Expr}
use Rattle.algebra_core.specs.declared.algebra.Algebra.{Algebra}
use Rattle.algebra_core.specs.declared.query.Key.{Key}
use Rattle.algebra_core.specs.declared.query.Query.{Query}
use Rattle.algebra_core.specs.Meaning.{patterns_in, expressions_in}
use Rattle.algebra_core.specs.Query.{IsValid, is_whole, key_expr}
use Rattle.algebra_translation.specs.Translation.{with_once, once_from, stands_in, in_scope_from}
use Rattle.terminals.specs.Texts.{plain, variable_text}
use Rattle.sparql_lexer.specs.declared.kind.QueryKind.{QueryKind}
use Rattle.sparql_lexer.specs.declared.kind.QueryKind.TheVariants as lexed
use Rattle.sparql_lexer.specs.declared.token.QueryToken.{QueryToken}
use Rattle.sparql_resolve.specs.declared.kind.Kind.{Kind}
use Rattle.sparql_resolve.specs.declared.kind.Kind.TheVariants as kinds
use Rattle.sparql_resolve.specs.Names.{most_names}
use Rattle.sparql_resolve.specs.Resolving.{names_from, name_from, with_name, bytes_of, resolving, names_of, width_of, tokens_of, stop_of}
use Rattle.sparql_parser.specs.declared.fault.QueryFault.{QueryFault}
use Rattle.sparql_parser.specs.Grammar.{E, Request, QueryUnit, body, sparql}
use Rattle.sparql_parser.specs.Answer.{selected, query, answer_by, IsRead, is_answer_by, IsAnswer, most_bytes}
use Rattle.sparql_parser.proofs.Fitting.{Each, each_push, FitsKey}
use Rattle.sparql_parser.proofs.Numbers.{Counts, all_counted}
use Rattle.sparql_parser.proofs.Sound.{FitsKind, FitsToken, FitsSelect, FitsRequest, request_fits}

-- ---- names

lt_true : (a b : ℕ) → nat_lt a b ≡ true → a < b
lt_true a b h = ltb-true a b h

pub record FitNames (names : List (List ℕ)) : Type 0 where
  pub few : length names ≤ 65535
  pub apart : Apart names

same_self : (xs : List ℕ) → bytes_eq xs xs ≡ true
same_self xs = grind (arith, bytes_eq-Decides)

not_in : (names : List (List ℕ)) (name : List ℕ) → list_any (bytes_eq name) names ≡ false → IsIn names name → ⊥
not_in names name e i = let h : list_any (bytes_eq name) names ≡ true = in_any (bytes_eq name) names name i (same_self name) in absurd (cc)

put_new : (d : Bool) (names : List (List ℕ)) (name : List ℕ) → list_any (bytes_eq name) names ≡ d → length names < 65535 → FitNames names → FitNames (if d then names else names ++ name ∷ [])
put_new true names name e lt h = h
put_new false names name e lt h = record { few = let l = length-append names (name ∷ []) in omega (arith, l, lt); apart = apart_push names name h.apart (not_in names name e) }

put_if_few : (c : Bool) (names : List (List ℕ)) (name : List ℕ) → nat_lt (length names) most_names ≡ c → FitNames names
    → FitNames (if c then (if list_any (bytes_eq name) names then names else names ++ name ∷ []) else names)
put_if_few true names name e h = put_new (list_any (bytes_eq name) names) names name refl (lt_true (length names) most_names e) h
put_if_few false names name e h = h

with_name_fits : (o : Option (List ℕ)) (names : List (List ℕ)) → FitNames names → FitNames (with_name o names)
with_name_fits (Some name) names h = put_if_few (nat_lt (length names) most_names) names name refl h
with_name_fits None names h = h

name_fits : (k : QueryKind) (bytes : List ℕ) (names : List (List ℕ)) → FitNames names → FitNames (name_from k bytes names)
name_fits lexed.Var bytes names h = with_name_fits (plain (variable_text bytes)) names h
name_fits k bytes names h = h

names_fit : (names : List (List ℕ)) (bytes : List ℕ) (ts : List QueryToken) → FitNames names → FitNames (names_from names bytes ts)
unfolding names_from
names_fit names bytes [] h = h
names_fit names bytes (t ∷ ts) h = names_fit (name_from t.kind (bytes_of bytes t) names) bytes ts (name_fits t.kind (bytes_of bytes t) names h)

all_names_fit : (bytes : List ℕ) (ts : List QueryToken) → FitNames (names_of bytes ts)
all_names_fit bytes ts = names_fit [] bytes ts (record { few = omega arith; apart = tt })

-- ---- tokens

below_least : (n a : ℕ) → n < a → n < 65535 → n < min a most_names
below_least n a h g = grind (arith, h, g)

kind_fits : (names : List (List ℕ)) (blanks : ℕ) (k : Kind) → Counts names blanks k → FitsKind (length names) (min (length names + blanks) most_names) k
kind_fits names blanks (kinds.Var n) h = h.written
kind_fits names blanks (kinds.Label n) h = below_least n (length names + blanks) h.made h.few
kind_fits names blanks (kinds.OpenSquare n) h = below_least n (length names + blanks) h.made h.few
kind_fits names blanks k h = tt

tokens_fit : (bytes : List ℕ) (ts : List QueryToken) → Each (FitsToken (length (names_of bytes ts)) (width_of bytes ts)) (tokens_of bytes ts)
tokens_fit bytes ts t i = kind_fits (names_of bytes ts) (resolving bytes ts).blanks t.kind ((all_counted (names_of bytes ts) bytes ts).tokens t i)

least_above : (a b : ℕ) → a ≤ 65535 → a ≤ min (a + b) most_names
least_above a b h = grind (arith, h)

-- ---- selection

self_equal : (n : ℕ) → (n == n) ≡ true
self_equal n = grind arith

not_among : (seen : List ℕ) (v : ℕ) → list_any (λ w. w == v) seen ≡ false → IsIn seen v → ⊥
not_among seen v e i = let h : list_any (λ w. w == v) seen ≡ true = in_any (λ w. w == v) seen v i (self_equal v) in absurd (cc)

record FitSelect (names : ℕ) (all : List ℕ) : Type 0 where
  named : (v : ℕ) → IsIn all v → v < names
  apart : Apart all

add_fits : (names : ℕ) (c : Bool) (seen : List ℕ) (v : ℕ) → list_any (λ w. w == v) seen ≡ c → v < names → FitSelect names seen → FitSelect names (if c then seen else seen ++ v ∷ [])
add_fits names true seen v e lt h = h
add_fits names false seen v e lt h = record { named = each_push (λ w. w < names) seen v h.named lt; apart = apart_push seen v h.apart (not_among seen v e) }

once_fits : (names : ℕ) (seen vs : List ℕ) → FitSelect names seen → ((v : ℕ) → IsIn vs v → v < names) → FitSelect names (once_from seen vs)
once_fits names seen [] h f = h
once_fits names seen (v ∷ vs) h f = once_fits names (with_once seen v) vs (add_fits names (list_any (λ w. w == v) seen) seen v refl (f v (inl refl)) h) (λ w i. f w (inr i))

-- the variables from a number on, so many at most
record Between (v n : ℕ) (all : List ℕ) : Type 0 where
  from : (w : ℕ) → IsIn all w → v ≤ w
  to : (w : ℕ) → IsIn all w → w < v + n
  apart : Apart all

standing_if : (c : Bool) (v n : ℕ) (rest : List ℕ) → Between (v + 1) n rest → Between v (suc n) (if c then v ∷ rest else rest)
standing_if true v n rest h =
    record {
      from = λ w i. elim i [ inl e ↦ (let q : v ≡ w = e in omega (arith, q)) | inr j ↦ (let q = h.from w j in omega (arith, q)) ];
      to = λ w i. elim i [ inl e ↦ (let q : v ≡ w = e in omega (arith, q)) | inr j ↦ (let q = h.to w j in omega (arith, q)) ];
      apart = (λ i. (let q = h.from v i in omega (arith, q)), h.apart);
    }
standing_if false v n rest h =
    record { from = λ w i. (let q = h.from w i in omega (arith, q)); to = λ w i. (let q = h.to w i in omega (arith, q)); apart = h.apart }

standing_between : (v n : ℕ) (ps : List TriplePattern) → Between v n (in_scope_from v n ps)
standing_between v zero ps = record { from = λ w i. absurd i; to = λ w i. absurd i; apart = tt }
standing_between v (suc n) ps = standing_if (stands_in v ps) v n (in_scope_from (v + 1) n ps) (standing_between (v + 1) n ps)

selected_fits : (names : ℕ) (s : Option (List ℕ)) (a : Algebra) (width : ℕ) → FitsSelect names width s → FitSelect names (selected names s a)
selected_fits names (Some all) a width h = once_fits names [] all (record { named = λ v i. absurd i; apart = tt }) h
selected_fits names None a width h = let b = standing_between 0 names (patterns_in a) in record { named = λ v i. (let q = b.to v i in omega (arith, q)); apart = b.apart }

-- ---- the query

keys_fit : (width : ℕ) (ks : List Key) → Each (FitsKey width) ks → (e : Expr) → IsIn (map key_expr ks) e → is_whole width e ≡ true
keys_fit width ks h e i = let k = from_map key_expr ks e i in let P : Expr → Type 0 = λ x. is_whole width x ≡ true in subst P k.2 (h k.0 k.1)

query_valid : (names : List (List ℕ)) (width : ℕ) (r : Request) → FitNames names → length names ≤ width → FitsRequest (length names) width r → IsValid (query names width r)
query_valid names width r n le f =
    let s = selected_fits (length names) r.select r.body width f.select in
    record {
      names_differ = n.apart;
      names_fit = le;
      selected = s.named;
      selected_once = s.apart;
      patterns_below = f.body.patterns;
      expressions_whole = λ e i. elim (in_either (expressions_in r.body) (map key_expr r.order) e i) [ inl j ↦ f.body.expressions e j | inr k ↦ keys_fit width r.order f.order e k ];
    }

abbrev Valid : Result Query QueryFault → Type 0
Valid (Ok q) = IsValid q
Valid (Err e) = Unit {0}

answer_valid : (bytes : List ℕ) (ts : List QueryToken) (o : E QueryUnit) → Reads (sparql (stop_of bytes ts)) QueryUnit (body QueryUnit) (tokens_of bytes ts) o → Valid (answer_by (names_of bytes ts) (width_of bytes ts) o)
answer_valid bytes ts (Done r us) d =
    let n = all_names_fit bytes ts in
    let le = least_above (length (names_of bytes ts)) (resolving bytes ts).blanks n.few in
    query_valid (names_of bytes ts) (width_of bytes ts) r n le (request_fits (length (names_of bytes ts)) (width_of bytes ts) le (stop_of bytes ts) (tokens_of bytes ts) us r d (tokens_fit bytes ts))
answer_valid bytes ts (Rejected x) d = tt

read_valid : (bytes : List ℕ) (ts : List QueryToken) (a : Result Query QueryFault) → IsRead bytes ts a → Valid a
read_valid bytes ts a h = subst Valid (sym h.2) (answer_valid bytes ts h.0 h.1)

by_length : (long : Bool) (bytes : List ℕ) (q : Query) → is_answer_by long bytes (Ok q) → IsValid q
by_length true bytes q h = absurd (cc)
by_length false bytes q h = read_valid bytes h.0 (Ok q) h.2

-- a query that is an answer is valid
pub valid_answer : (bytes : List ℕ) (q : Query) → IsAnswer bytes (Ok q) → IsValid q
valid_answer bytes q h = by_length (nat_lt most_bytes (length bytes)) bytes q h
