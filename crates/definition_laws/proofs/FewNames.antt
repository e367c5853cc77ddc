-- A query's text has two symbols or more for each name of a variable, so that its names stay below the limit.
use Rattle.std.proofs.Common.{◌≡◌, ℕ, zero, suc, ◌+◌, ◌*◌, ◌<◌, ◌≤◌, List, [], ◌∷◌, length, drop, true, false, Bool, Option, Some, None, cond, arith, length-append, length-drop, bytes_eq, nat_lt}
use Rattle.std.specs.List.{list_any}
use Rattle.std.proofs.lemmas.Bool.{cond_both}
use Rattle.terminals.specs.Utf8.{Symbol, decoded, symbol_by, symbols_of, symbols_upto}
use Rattle.terminals.specs.Groups.{is_label_first}
use Rattle.terminals.specs.Rules.{Never, Nothing, One, Then, Many, both, may_end}
use Rattle.terminals.specs.Tokens.{IsLongest, lexes_end, lexes_white, lexes_hash, lexes_comment, lexes_ill, lexes_token, lexes_bad}
use Rattle.terminals.specs.Texts.{plain, variable_text}
use Rattle.sparql_lexer.specs.declared.kind.QueryKind.{QueryKind}
use Rattle.sparql_lexer.specs.declared.kind.QueryKind.TheVariants as kinds
use Rattle.sparql_lexer.specs.declared.token.QueryToken.{QueryToken}
use Rattle.sparql_lexer.specs.Rules.{rule_of, is_var, is_var_mark}
use Rattle.sparql_lexer.specs.Tokens.{LexesQuery, QueryTokens, skipped, token_of}
use Rattle.sparql_resolve.specs.Names.{most_names}
use Rattle.sparql_resolve.specs.Resolving.{bytes_of, name_from, names_from, names_of, with_name}

-- ---- a text has no more symbols than bytes

pub symbols_within : (n : ℕ) (bytes : List ℕ) → length (symbols_upto n bytes) ≤ n
unfolding symbols_upto
symbols_within zero bytes = omega arith
symbols_within (suc n) [] = omega arith
symbols_within (suc n) (b ∷ bytes) = omega (arith, symbols_within n (drop (suc (symbol_by (decoded (b ∷ bytes))).extra) (b ∷ bytes)))

-- ---- a token adds one name at most, and only a variable of two symbols or more does

one_more : (names : List (List ℕ)) (name : Option (List ℕ)) → length (with_name name names) ≤ suc (length names)
one_more names None = omega arith
one_more names (Some name) =
    let P : List (List ℕ) → Type 0 = λ x. length x ≤ suc (length names) in
    cond_both (nat_lt (length names) most_names) _ _ P (λ _. cond_both (list_any (bytes_eq name) names) _ _ P (λ _. omega arith) (λ _. omega (arith, length-append names (name ∷ [])))) (λ _. omega arith)

no_mark_alone : (b : Bool) → may_end (both (cond b Nothing Never) (Then (One is_label_first) (Many (One is_var)))) ≡ true → ⊥
no_mark_alone true e = absurd cc
no_mark_alone false e = absurd cc

pub names_by_token : (k : QueryKind) (n : ℕ) (xs : List Symbol) (bytes : List ℕ) (names : List (List ℕ)) → IsLongest rule_of xs k n → 2 * length (name_from k bytes names) ≤ 2 * length names + n
names_by_token kinds.Var zero xs bytes names longest = absurd (let e = longest.allowed in cc)
names_by_token kinds.Var (suc zero) [] bytes names longest = absurd (let w = longest.within in omega arith)
names_by_token kinds.Var (suc zero) (x ∷ xs) bytes names longest = absurd (no_mark_alone (is_var_mark x.class) longest.allowed)
names_by_token kinds.Var (suc (suc n)) xs bytes names longest = omega (arith, one_more names (plain (variable_text bytes)))
names_by_token _ n xs bytes names longest = omega arith

-- ---- so the names take no more than half of the symbols

pub names_by_symbols : (c : Bool) (at : ℕ) (xs : List Symbol) (ts : List QueryToken) (bytes : List ℕ) (names : List (List ℕ)) → LexesQuery c at xs ts → 2 * length (names_from names bytes ts) ≤ 2 * length names + length xs
unfolding names_from
names_by_symbols c at [] _ bytes names lexes_end = omega arith
names_by_symbols false at (x ∷ xs) _ bytes names (lexes_white {ts} is r) = omega (arith, names_by_symbols false _ xs ts bytes names r)
names_by_symbols false at (x ∷ xs) _ bytes names (lexes_hash {ts} is r) = omega (arith, names_by_symbols true _ xs ts bytes names r)
names_by_symbols true at (x ∷ xs) _ bytes names (lexes_comment {ts} is r) = omega (arith, names_by_symbols _ _ xs ts bytes names r)
names_by_symbols true at (x ∷ xs) _ bytes names (lexes_ill is) = omega arith
names_by_symbols false at (x ∷ xs) _ bytes names (lexes_token {to} {k} {n} {ts} no_white no_hash longest is r) =
    let of : List ℕ = bytes_of bytes (token_of k at to) in
    let within = longest.within in
    omega (arith, names_by_symbols false to (drop n (x ∷ xs)) ts bytes (name_from k of names) r, names_by_token k n (x ∷ xs) of names longest, length-drop n (x ∷ xs))
names_by_symbols false at (x ∷ xs) _ bytes names (lexes_bad no_white no_hash none) = omega arith

-- ---- and stay below the limit

pub few_names : (bytes : List ℕ) (ts : List QueryToken) → QueryTokens bytes ts → length bytes ≤ 65536 → length (names_of bytes ts) < most_names
few_names bytes ts are within =
    let behind : List ℕ = drop (skipped bytes) bytes in
    omega (arith, names_by_symbols false (skipped bytes) (symbols_of behind) ts bytes [] are, symbols_within (length behind) behind, length-drop (skipped bytes) bytes)
