-- A query's text has two symbols or more for each name and each blank node, but for the brackets that are open, so that both together stay below the limit.
use Rattle.std.proofs.Common.{◌≡◌, ℕ, zero, suc, ◌+◌, ◌*◌, ◌<◌, ◌≤◌, List, [], ◌∷◌, ◌++◌, length, drop, true, false, Bool, Option, Some, None, Result, Ok, Err, cond, arith, length-drop, bytes_eq, nat_lt, eqb}
use Rattle.std.specs.Map.{lookup}
use Rattle.std.proofs.lemmas.Bool.{cond_both, ltb-true}
use Rattle.terminals.specs.Utf8.{Symbol, symbols_of}
use Rattle.terminals.specs.Groups.{is_underscore, is_colon, is_label_first, is_name}
use Rattle.terminals.specs.Rules.{Never, Nothing, One, Then, both, may_end}
use Rattle.terminals.specs.Terminals.{with_dots}
use Rattle.terminals.specs.Texts.{plain}
use Rattle.terminals.specs.Values.{iri_text, label_text, local_text, prefix_text}
use Rattle.terminals.specs.Tokens.{IsLongest, lexes_end, lexes_white, lexes_hash, lexes_comment, lexes_ill, lexes_token, lexes_bad}
use Rattle.sparql_lexer.specs.declared.kind.QueryKind.{QueryKind}
use Rattle.sparql_lexer.specs.declared.kind.QueryKind.TheVariants as lexed
use Rattle.sparql_lexer.specs.declared.token.QueryToken.{QueryToken}
use Rattle.sparql_lexer.specs.Rules.{rule_of}
use Rattle.sparql_lexer.specs.Tokens.{LexesQuery, QueryTokens, skipped, token_of}
use Rattle.sparql_resolve.specs.declared.fault.Fault.{Fault}
use Rattle.sparql_resolve.specs.declared.kind.Kind.{Kind}
use Rattle.sparql_resolve.specs.declared.kind.Kind.TheVariants as kinds
use Rattle.sparql_resolve.specs.declared.kind.Token.{Token}
use Rattle.sparql_resolve.specs.declared.state.Before.{Before}
use Rattle.sparql_resolve.specs.declared.state.Before.TheVariants as before
use Rattle.sparql_resolve.specs.Iris.{iri_of}
use Rattle.sparql_resolve.specs.Names.{most_names}
use Rattle.sparql_resolve.specs.Marks.{mark_kind}
use Rattle.sparql_resolve.specs.Words.{word_kind}
use Rattle.sparql_resolve.specs.Resolving.{State, Step, Resolving, begin, blank_number, bytes_of, declared, iri_ref, is_empty, kind_by, label, label_by, long_name, mark_by, most_groups, most_open, name, name_by, name_from, names_from, names_of, needed, open_brace, open_bracket, open_square, resolve_from, resolving, resolving_by, step, still, then', token, word_by}
use Rattle.definition_laws.proofs.FewNames.{names_by_symbols, names_by_token, symbols_within}

-- ---- what n symbols may add: half a name or a blank node each, and half a blank node more for each bracket that they leave open

abbrev Grows : (a b n : ℕ) → State → State → Type 0
Grows a b n s next = (2 * b + 2 * next.blanks + s.open' ≤ 2 * a + 2 * s.blanks + next.open' + n) × (next.open' ≤ most_open)

abbrev StepGrows : (a b n : ℕ) → State → Step → Type 0
StepGrows a b n s (Ok x) = Grows a b n s x.1
StepGrows a b n s (Err x) = Unit {0}

grows_then : {A : Type 0} (a b n : ℕ) (s : State) (f : A → Step) (r : Result A Fault) → ((x : A) → StepGrows a b n s (f x)) → StepGrows a b n s (then' f r)
grows_then a b n s f (Ok x) h = h x
grows_then a b n s f (Err x) h = tt

grows_still : (a b n : ℕ) (s : State) (r : Result Kind Fault) → 2 * b ≤ 2 * a + n → s.open' ≤ most_open → StepGrows a b n s (still s r)
grows_still a b n s (Ok k) h few = (omega arith, few)
grows_still a b n s (Err x) h few = tt

grows_if : (a b n : ℕ) (s : State) (test : Bool) (r : Step) (fault : Fault) → (test ≡ true → StepGrows a b n s r) → StepGrows a b n s (cond test r (Err fault))
grows_if a b n s test r fault h = cond_both test _ _ (StepGrows a b n s) h (λ _. tt)

-- ---- a mark of one symbol or more opens or shuts one bracket at most

grows_bracket : (a n : ℕ) (k : Kind) (from : ℕ) (s : State) → StepGrows a a n s (open_bracket k from s)
grows_bracket a n k from s = grows_if a a n s (nat_lt s.open' most_open) _ _ (λ e. (omega arith, omega (arith, ltb-true s.open' most_open e)))

grows_brace : (a n from : ℕ) (s : State) → StepGrows a a n s (open_brace from s)
grows_brace a n from s =
    grows_if a a n s (nat_lt s.open' most_open) _ _ (λ e. grows_if a a n s (nat_lt s.groups most_groups) _ _ (λ _. (omega arith, omega (arith, ltb-true s.open' most_open e))))

grows_square : (a n names from : ℕ) (s : State) → 1 ≤ n → StepGrows a a n s (open_square names from s)
grows_square a n names from s some =
    grows_if a a n s (nat_lt s.open' most_open) _ _ (λ e. grows_then a a n s _ (blank_number names s.blanks from) (λ i. (omega arith, omega (arith, ltb-true s.open' most_open e))))

grows_mark : (a n : ℕ) (k : Kind) (names from : ℕ) (s : State) → s.open' ≤ most_open → 1 ≤ n → StepGrows a a n s (mark_by k names from s)
grows_mark a n kinds.OpenBrace names from s few some = grows_brace a n from s
grows_mark a n (kinds.OpenSquare i) names from s few some = grows_square a n names from s some
grows_mark a n kinds.OpenParen names from s few some = grows_bracket a n kinds.OpenParen from s
grows_mark a n kinds.ShutBrace names from s few some = (omega arith, omega arith)
grows_mark a n kinds.ShutSquare names from s few some = (omega arith, omega arith)
grows_mark a n kinds.ShutParen names from s few some = (omega arith, omega arith)
grows_mark a n k names from s few some = (omega arith, few)

-- ---- a new label adds a blank node

grows_label_by : (a n : ℕ) (use' : Option (ℕ × ℕ)) (l : List ℕ) (names from : ℕ) (s : State) → s.open' ≤ most_open → 2 ≤ n → StepGrows a a n s (label_by use' l names from s)
grows_label_by a n (Some use') l names from s few two = grows_if a a n s (eqb use'.1 s.brace) _ _ (λ _. (omega arith, few))
grows_label_by a n None l names from s few two = grows_then a a n s _ (blank_number names s.blanks from) (λ i. (omega arith, few))

grows_label : (a n names : ℕ) (bytes : List ℕ) (from : ℕ) (s : State) → s.open' ≤ most_open → 2 ≤ n → StepGrows a a n s (label names bytes from s)
grows_label a n names bytes from s few two =
    grows_then a a n s _ (needed (plain (label_text bytes)) from) (λ l. grows_label_by a n (lookup (bytes_eq l) s.labels) l names from s few two)

-- ---- no other token adds one

grows_word : (a n : ℕ) (k : Kind) (s : State) → s.open' ≤ most_open → StepGrows a a n s (word_by k s)
grows_word a n kinds.Base s few = (omega arith, few)
grows_word a n k s few = (omega arith, few)

grows_declared : (a n : ℕ) (b : Before) (iri : List ℕ) (s : State) → s.open' ≤ most_open → Grows a a n s (declared b iri s)
grows_declared a n before.Base iri s few = (omega arith, few)
grows_declared a n b iri s few = (omega arith, few)

grows_iri : (a n : ℕ) (b : Before) (bytes : List ℕ) (from : ℕ) (s : State) → s.open' ≤ most_open → StepGrows a a n s (iri_ref b bytes from s)
grows_iri a n b bytes from s few =
    grows_then a a n s _ (needed (plain (iri_text bytes)) from) (λ t. grows_then a a n s _ (needed (iri_of s.base t) from) (λ iri. grows_declared a n b iri s few))

grows_name_by : (a n : ℕ) (b : Before) (prefix local : List ℕ) (from : ℕ) (s : State) → s.open' ≤ most_open → StepGrows a a n s (name_by b prefix local from s)
grows_name_by a n before.Prefix prefix local from s few =
    cond_both (is_empty local) _ _ (StepGrows a a n s) (λ _. (omega arith, few)) (λ _. grows_still a a n s (long_name prefix local from s) (omega arith) few)
grows_name_by a n b prefix local from s few = grows_still a a n s (long_name prefix local from s) (omega arith) few

grows_name : (a n : ℕ) (b : Before) (bytes : List ℕ) (from : ℕ) (s : State) → s.open' ≤ most_open → StepGrows a a n s (name b bytes from s)
grows_name a n b bytes from s few =
    grows_then a a n s _ (needed (plain (prefix_text bytes)) from) (λ prefix. grows_then a a n s _ (needed (plain (local_text bytes)) from) (λ local. grows_name_by a n b prefix local from s few))

-- ---- a mark has one symbol or more, and a label two or more

no_label_alone : (b : Bool) → may_end (both (cond b Nothing Never) (Then (One is_colon) (Then (One is_label_first) (with_dots is_name)))) ≡ true → ⊥
no_label_alone true e = absurd cc
no_label_alone false e = absurd cc

mark_length : (n : ℕ) (xs : List Symbol) → IsLongest rule_of xs lexed.Mark n → 1 ≤ n
mark_length zero xs longest = absurd (let e = longest.allowed in cc)
mark_length (suc n) xs longest = omega arith

label_length : (n : ℕ) (xs : List Symbol) → IsLongest rule_of xs lexed.BlankLabel n → 2 ≤ n
label_length zero xs longest = absurd (let e = longest.allowed in cc)
label_length (suc zero) [] longest = absurd (let w = longest.within in omega arith)
label_length (suc zero) (x ∷ xs) longest = absurd (no_label_alone (is_underscore x.class) longest.allowed)
label_length (suc (suc n)) xs longest = omega arith

-- ---- so each token adds no more than its symbols may

grows_by_token : (k : QueryKind) (n : ℕ) (xs : List Symbol) (acc names : List (List ℕ)) (bytes : List ℕ) (from : ℕ) (b : Before) (touches : Bool) (s : State) → IsLongest rule_of xs k n → s.open' ≤ most_open
    → StepGrows (length acc) (length (name_from k bytes acc)) n s (kind_by k names bytes from b touches s)
grows_by_token lexed.Bad n xs acc names bytes from b touches s longest few = tt
grows_by_token lexed.End n xs acc names bytes from b touches s longest few = (omega arith, few)
grows_by_token lexed.Var n xs acc names bytes from b touches s longest few = grows_still _ _ n s _ (names_by_token lexed.Var n xs bytes acc longest) few
grows_by_token lexed.IriRef n xs acc names bytes from b touches s longest few = grows_iri (length acc) n b bytes from s few
grows_by_token lexed.Name n xs acc names bytes from b touches s longest few = grows_name (length acc) n b bytes from s few
grows_by_token lexed.BlankLabel n xs acc names bytes from b touches s longest few = grows_label (length acc) n (length names) bytes from s few (label_length n xs longest)
grows_by_token lexed.Word n xs acc names bytes from b touches s longest few = grows_word (length acc) n (word_kind bytes) s few
grows_by_token lexed.Mark n xs acc names bytes from b touches s longest few = grows_mark (length acc) n (mark_kind bytes) (length names) from s few (mark_length n xs longest)
grows_by_token _ n xs acc names bytes from b touches s longest few = grows_still _ _ n s _ (omega arith) few

-- ---- and all tokens together no more than the text's symbols may

grows_on : (a b n total left : ℕ) (s : State) (r : Step) (go : Kind → State → Resolving) (out : List Token) → StepGrows a b n s r → s.open' ≤ most_open → 2 * total ≤ 2 * b + left → 2 * b ≤ 2 * a + n
    → ((k : Kind) (next : State) → next.open' ≤ most_open → 2 * total + 2 * (go k next).blanks + next.open' ≤ 2 * b + 2 * next.blanks + left + most_open)
    → 2 * total + 2 * (resolving_by r go out s.blanks).blanks + s.open' ≤ 2 * a + 2 * s.blanks + n + left + most_open
grows_on a b n total left s (Ok x) go out h few names added more = omega (arith, more x.0 x.1 h.1, h.0)
grows_on a b n total left s (Err x) go out h few names added more = omega arith

grows_by_symbols : (c : Bool) (at : ℕ) (xs : List Symbol) (ts : List QueryToken) (bytes : List ℕ) (acc names : List (List ℕ)) (s : State) (out : List Token) → LexesQuery c at xs ts → s.open' ≤ most_open
    → 2 * length (names_from acc bytes ts) + 2 * (resolve_from names bytes s out ts).blanks + s.open' ≤ 2 * length acc + 2 * s.blanks + length xs + most_open
unfolding names_from resolve_from
grows_by_symbols c at [] _ bytes acc names s out lexes_end few = omega arith
grows_by_symbols false at (x ∷ xs) _ bytes acc names s out (lexes_white {ts} is r) few = omega (arith, grows_by_symbols false _ xs ts bytes acc names s out r few)
grows_by_symbols false at (x ∷ xs) _ bytes acc names s out (lexes_hash {ts} is r) few = omega (arith, grows_by_symbols true _ xs ts bytes acc names s out r few)
grows_by_symbols true at (x ∷ xs) _ bytes acc names s out (lexes_comment {ts} is r) few = omega (arith, grows_by_symbols _ _ xs ts bytes acc names s out r few)
grows_by_symbols true at (x ∷ xs) _ bytes acc names s out (lexes_ill is) few = omega arith
grows_by_symbols false at (x ∷ xs) _ bytes acc names s out (lexes_token {to} {k} {n} {ts} no_white no_hash longest is r) few =
    let t : QueryToken = token_of k at to in
    let of : List ℕ = bytes_of bytes t in
    let next : List (List ℕ) = name_from k of acc in
    let rest : List Symbol = drop n (x ∷ xs) in
    let within = longest.within in
    omega (
      arith,
      length-drop n (x ∷ xs),
      grows_on (length acc) (length next) n (length (names_from next bytes ts)) (length rest) s (step names of t s) (λ k' s'. resolve_from names bytes s' (out ++ token k' at ∷ []) ts) out
          (grows_by_token k n (x ∷ xs) acc names of at s.before (eqb s.end at) (record s { before = before.Other; end = to }) longest few) few (names_by_symbols false to rest ts bytes next r) (names_by_token k n (x ∷ xs) of acc longest)
          (λ k' s' few'. grows_by_symbols false to rest ts bytes next names s' (out ++ token k' at ∷ []) r few'),
    )
grows_by_symbols false at (x ∷ xs) _ bytes acc names s out (lexes_bad no_white no_hash none) few = omega arith

-- ---- and stay below the limit

pub few_numbers : (bytes : List ℕ) (ts : List QueryToken) → QueryTokens bytes ts → length bytes ≤ 65536 → length (names_of bytes ts) + (resolving bytes ts).blanks < most_names
few_numbers bytes ts are within =
    let behind : List ℕ = drop (skipped bytes) bytes in
    omega (arith, grows_by_symbols false (skipped bytes) (symbols_of behind) ts bytes [] (names_of bytes ts) begin [] are (omega arith), symbols_within (length behind) behind, length-drop (skipped bytes) bytes)
