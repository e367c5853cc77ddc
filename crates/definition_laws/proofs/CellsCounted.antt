-- The resolver of Turtle counts a cell for exactly the tokens at which, by the brackets before them, one begins.
use Rattle.std.proofs.Common.{◌≡◌, ℕ, ◌+◌, ◌-◌, List, [], ◌∷◌, ◌++◌, length, take, Bool, true, false, not, ◌&&◌, Option, Some, None, Result, Ok, Err, cond, refl, sym, ap, ◌∙◌, arith, append_assoc, append-nil, length-append, bytes_eq, codes, nat_lt}
use Rattle.std.specs.Prelude.{slice_get}
use Rattle.std.specs.Map.{lookup}
use Rattle.std.proofs.lemmas.Bool.{cond_both, le-ltb, lt-ltb}
use Rattle.std.proofs.lemmas.List.{take_at}
use Rattle.iri_core.specs.Iris.{resolved_iri, prefixed_iri}
use Rattle.terminals.specs.Texts.{plain}
use Rattle.terminals.specs.Values.{iri_text, string_text, prefix_text, local_text, label_text, tag_text}
use Rattle.turtle_lexer.specs.declared.kind.TurtleKind.{TurtleKind}
use Rattle.turtle_lexer.specs.declared.kind.TurtleKind.TheVariants as lexed
use Rattle.turtle_lexer.specs.declared.token.Token.{Token as Lexed}
use Rattle.turtle_reader.specs.declared.token_fault.Fault.{Fault}
use Rattle.turtle_reader.specs.declared.kind.Kind.{Kind}
use Rattle.turtle_reader.specs.declared.kind.Kind.TheVariants as kinds
use Rattle.turtle_reader.specs.declared.kind.Token.{Token}
use Rattle.turtle_reader.specs.declared.state.Before.{Before}
use Rattle.turtle_reader.specs.declared.state.Before.TheVariants as before
use Rattle.turtle_reader.specs.declared.state.Bracket.{Bracket}
use Rattle.turtle_reader.specs.declared.state.Bracket.TheVariants as brackets
use Rattle.turtle_reader.specs.declared.words.Word.{Word}
use Rattle.turtle_reader.specs.declared.words.Word.TheVariants as words
use Rattle.turtle_reader.specs.declared.words.Mark.{Mark}
use Rattle.turtle_reader.specs.declared.words.Mark.TheVariants as marks
use Rattle.turtle_reader.specs.Words.{word_of, mark_of, word_begins_object, mark_begins_object}
use Rattle.turtle_reader.specs.Words.{begins_object as can_begin}
use Rattle.turtle_reader.specs.Resolving.{State, Step, begin, at_word, at_word_alone, bytes_of, declared, iri_ref, is_empty, is_paren, item_begun, kind_by, label, label_by, literal, long_name, long_name_by, mark_by, most_open, name, name_by, needed, open_bracket, resolve_from, resolving, resolving_by, step, still, tag, text, then', token, with_blank, word_by}
use Rattle.turtle_reader.specs.Resolving.{is_carets as after_carets, is_in_list as in_list}
use Rattle.definition_laws.specs.Cells.{begins_object, is_carets, is_in_list, behind_first, open_behind, is_cell, cells_from, counts_cell, put_if, unless_fault, cells_resolved}

-- ---- brackets, the innermost first, and the innermost last

abbrev backwards : List Bracket → List Bracket
backwards [] = []
backwards (b ∷ bs) = backwards bs ++ b ∷ []

last_is : (xs : List Bracket) (b : Bracket) → slice_get (xs ++ b ∷ []) (length xs) ≡ Some b
last_is [] b = refl
last_is (x ∷ xs) b = last_is xs b

short : (xs : List Bracket) (b : Bracket) → length (xs ++ b ∷ []) - 1 ≡ length xs
short xs b = omega (arith, length-append xs (b ∷ []))

paren_is : (bs : List Bracket) (b : Bracket) → is_paren (Some b) ≡ is_in_list (b ∷ bs)
paren_is bs brackets.Paren = refl
paren_is bs brackets.Square = refl

innermost : (bs : List Bracket) → is_paren (slice_get (backwards bs) (length (backwards bs) - 1)) ≡ is_in_list bs
innermost [] = refl
innermost (b ∷ bs) = ap (λ n. is_paren (slice_get (backwards bs ++ b ∷ []) n)) (short (backwards bs) b) ∙ ap is_paren (last_is (backwards bs) b) ∙ paren_is bs b

shut : (bs : List Bracket) → take (length (backwards bs) - 1) (backwards bs) ≡ backwards (behind_first bs)
shut [] = refl
shut (b ∷ bs) = ap (λ n. take n (backwards bs ++ b ∷ [])) (short (backwards bs) b) ∙ take_at (backwards bs) (b ∷ []) (length (backwards bs)) refl

-- ---- a kind that is given by itself

abbrev Leaves : Kind → Type 0
Leaves k = (is_carets k ≡ false) × ((bs : List Bracket) → open_behind bs k ≡ bs)

-- an object can begin with it, or can't, and it neither opens nor shuts a bracket
abbrev KindFits : Bool → Result Kind Fault → Type 0
KindFits begun (Ok k) = (begins_object k ≡ begun) × Leaves k
KindFits begun (Err x) = Unit {0}

kind_then : {A : Type 0} (begun : Bool) (f : A → Result Kind Fault) (r : Result A Fault) → ((x : A) → KindFits begun (f x)) → KindFits begun (then' f r)
kind_then begun f (Ok x) h = h x
kind_then begun f (Err x) h = tt

kind_literal : (datatype bytes : List ℕ) (from : ℕ) → KindFits true (literal datatype bytes from)
kind_literal datatype bytes from = kind_then true (λ lexical. Ok (kinds.Literal datatype lexical)) (needed (plain bytes) from) (λ l. (refl, (refl, λ bs. refl)))

kind_tag : (bytes : List ℕ) (from : ℕ) → KindFits false (tag bytes from)
kind_tag bytes from = kind_then false (λ t. Ok (kinds.Tag t)) (needed (plain (tag_text bytes)) from) (λ t. (refl, (refl, λ bs. refl)))

kind_name_by : (iri : Option (List ℕ)) (local : List ℕ) (from : ℕ) → KindFits true (long_name_by iri local from)
kind_name_by (Some iri) local from = kind_then true (λ i. Ok (kinds.Name i)) (needed (prefixed_iri iri local) from) (λ i. (refl, (refl, λ bs. refl)))
kind_name_by None local from = tt

-- ---- a step

abbrev Moves : State → Kind → State → Type 0
Moves s k next = (after_carets next.before ≡ is_carets k) × ((bs : List Bracket) → s.open' ≡ backwards bs → next.open' ≡ backwards (open_behind bs k))

abbrev StepFits : Bool → State → Step → Type 0
StepFits begun s (Ok x) = (begins_object x.0 ≡ begun) × Moves s x.0 x.1
StepFits begun s (Err x) = Unit {0}

-- no `^^` was put down
abbrev IsPlain : State → Type 0
IsPlain s = after_carets s.before ≡ false

step_then : {A : Type 0} (begun : Bool) (s : State) (f : A → Step) (r : Result A Fault) → ((x : A) → StepFits begun s (f x)) → StepFits begun s (then' f r)
step_then begun s f (Ok x) h = h x
step_then begun s f (Err x) h = tt

step_still : (begun : Bool) (s : State) (r : Result Kind Fault) → IsPlain s → KindFits begun r → StepFits begun s (still s r)
step_still begun s (Ok k) p h = (h.0, (p ∙ sym h.1.0, λ bs e. e ∙ ap backwards (sym (h.1.1 bs))))
step_still begun s (Err x) p h = tt

fits_declared : (b : Before) (iri : List ℕ) (s : State) → IsPlain s → Moves s (kinds.IriRef iri) (declared b iri s)
fits_declared before.Other iri s p = (p, λ bs e. e)
fits_declared before.Base iri s p = (p, λ bs e. e)
fits_declared before.Prefix iri s p = (p, λ bs e. e)
fits_declared (before.Named prefix) iri s p = (p, λ bs e. e)
fits_declared before.Text iri s p = (p, λ bs e. e)
fits_declared before.Carets iri s p = (p, λ bs e. e)

fits_iri : (b : Before) (bytes : List ℕ) (from : ℕ) (s : State) → IsPlain s → StepFits true s (iri_ref b bytes from s)
fits_iri b bytes from s p =
    step_then true s (λ t. then' (λ iri. Ok (kinds.IriRef iri, declared b iri s)) (needed (resolved_iri s.base t) from)) (needed (plain (iri_text bytes)) from)
    (λ t. step_then true s (λ iri. Ok (kinds.IriRef iri, declared b iri s)) (needed (resolved_iri s.base t) from) (λ iri. (refl, fits_declared b iri s p)))

fits_long : (prefix local : List ℕ) (from : ℕ) (s : State) → IsPlain s → StepFits true s (still s (long_name prefix local from s))
fits_long prefix local from s p = step_still true s (long_name prefix local from s) p (kind_name_by (lookup (bytes_eq prefix) s.prefixes) local from)

fits_name_by : (b : Before) (prefix local : List ℕ) (from : ℕ) (s : State) → IsPlain s → StepFits true s (name_by b prefix local from s)
fits_name_by before.Prefix prefix local from s p = cond_both (is_empty local) _ _ (StepFits true s) (λ _. (refl, (refl, λ bs e. e))) (λ _. fits_long prefix local from s p)
fits_name_by _ prefix local from s p = fits_long prefix local from s p

fits_name : (b : Before) (bytes : List ℕ) (from : ℕ) (s : State) → IsPlain s → StepFits true s (name b bytes from s)
fits_name b bytes from s p =
    step_then true s (λ prefix. then' (λ local. name_by b prefix local from s) (needed (plain (local_text bytes)) from)) (needed (plain (prefix_text bytes)) from)
    (λ prefix. step_then true s (λ local. name_by b prefix local from s) (needed (plain (local_text bytes)) from) (λ local. fits_name_by b prefix local from s p))

fits_label_by : (n : Option ℕ) (l : List ℕ) (s : State) → IsPlain s → StepFits true s (label_by n l s)
fits_label_by (Some n) l s p = (refl, (p, λ bs e. e))
fits_label_by None l s p = (refl, (p, λ bs e. e))

fits_label : (bytes : List ℕ) (from : ℕ) (s : State) → IsPlain s → StepFits true s (label bytes from s)
fits_label bytes from s p = step_then true s (λ l. label_by (lookup (bytes_eq l) s.labels) l s) (needed (plain (label_text bytes)) from) (λ l. fits_label_by (lookup (bytes_eq l) s.labels) l s p)

fits_alone : (bytes : List ℕ) (from : ℕ) (s : State) → IsPlain s → StepFits false s (at_word_alone bytes from s)
fits_alone bytes from s p =
    cond_both (bytes_eq bytes (codes "@prefix")) _ _ (StepFits false s) (λ _. (refl, (refl, λ bs e. e)))
    (λ _. cond_both (bytes_eq bytes (codes "@base")) _ _ (StepFits false s) (λ _. (refl, (refl, λ bs e. e))) (λ _. step_still false s (tag bytes from) p (kind_tag bytes from)))

fits_at : (b : Before) (bytes : List ℕ) (from : ℕ) (s : State) → IsPlain s → StepFits false s (at_word b bytes from s)
fits_at before.Text bytes from s p = step_still false s (tag bytes from) p (kind_tag bytes from)
fits_at _ bytes from s p = fits_alone bytes from s p

fits_text : (bytes : List ℕ) (from : ℕ) (s : State) → StepFits true s (text bytes from s)
fits_text bytes from s = step_then true s (λ t. Ok (kinds.Text t, record s { before = before.Text })) (needed (plain (string_text bytes)) from) (λ t. (refl, (refl, λ bs e. e)))

fits_word : (w : Word) (bytes : List ℕ) (from : ℕ) (s : State) → IsPlain s → StepFits (word_begins_object w) s (word_by w bytes from s)
fits_word words.A bytes from s p = (refl, (p, λ bs e. e))
fits_word words.True bytes from s p = step_still true s _ p (kind_literal (codes "http://www.w3.org/2001/XMLSchema#boolean") bytes from)
fits_word words.False bytes from s p = step_still true s _ p (kind_literal (codes "http://www.w3.org/2001/XMLSchema#boolean") bytes from)
fits_word words.Prefix bytes from s p = (refl, (refl, λ bs e. e))
fits_word words.Base bytes from s p = (refl, (refl, λ bs e. e))
fits_word words.Unknown bytes from s p = (refl, (p, λ bs e. e))

-- past a bracket that is opened
fits_open : (b : Bracket) (from : ℕ) (s : State) (f : State → Step) → ((next : State) → next.before ≡ s.before → next.open' ≡ s.open' ++ b ∷ [] → StepFits true s (f next)) → StepFits true s (then' f (open_bracket b from s))
fits_open b from s f h = cond_both (nat_lt (length s.open') most_open) _ _ (λ (r : Result State Fault). StepFits true s (then' f r)) (λ _. h (record s { open' = s.open' ++ b ∷ [] }) refl refl) (λ _. tt)

fits_mark : (m : Mark) (from : ℕ) (s : State) → IsPlain s → StepFits (mark_begins_object m) s (mark_by m from s)
fits_mark marks.Dot from s p = (refl, (p, λ bs e. e))
fits_mark marks.Semicolon from s p = (refl, (p, λ bs e. e))
fits_mark marks.Comma from s p = (refl, (p, λ bs e. e))
fits_mark marks.OpenSquare from s p = fits_open brackets.Square from s (λ next. Ok (kinds.OpenSquare next.blanks, with_blank next)) (λ next same more. (refl, (ap after_carets same ∙ p, λ bs e. more ∙ ap (λ l. l ++ brackets.Square ∷ []) e)))
fits_mark marks.ShutSquare from s p = (refl, (p, λ bs e. ap (λ l. take (length l - 1) l) e ∙ shut bs))
fits_mark marks.OpenParen from s p = fits_open brackets.Paren from s (λ next. Ok (kinds.OpenParen, next)) (λ next same more. (refl, (ap after_carets same ∙ p, λ bs e. more ∙ ap (λ l. l ++ brackets.Paren ∷ []) e)))
fits_mark marks.ShutParen from s p = (refl, (p, λ bs e. ap (λ l. take (length l - 1) l) e ∙ shut bs))
fits_mark marks.Carets from s p = (refl, (refl, λ bs e. e))
fits_mark marks.Unknown from s p = (refl, (p, λ bs e. e))

fits_kind : (k : TurtleKind) (bytes : List ℕ) (from : ℕ) (b : Before) (s : State) → IsPlain s → StepFits (can_begin k bytes) s (kind_by k bytes from b s)
fits_kind lexed.Bad bytes from b s p = tt
fits_kind lexed.End bytes from b s p = (refl, (p, λ bs e. e))
fits_kind lexed.IriRef bytes from b s p = fits_iri b bytes from s p
fits_kind lexed.Name bytes from b s p = fits_name b bytes from s p
fits_kind lexed.BlankLabel bytes from b s p = fits_label bytes from s p
fits_kind lexed.At bytes from b s p = fits_at b bytes from s p
fits_kind lexed.Quoted bytes from b s p = fits_text bytes from s
fits_kind lexed.Integer bytes from b s p = step_still true s _ p (kind_literal (codes "http://www.w3.org/2001/XMLSchema#integer") bytes from)
fits_kind lexed.Decimal bytes from b s p = step_still true s _ p (kind_literal (codes "http://www.w3.org/2001/XMLSchema#decimal") bytes from)
fits_kind lexed.Double bytes from b s p = step_still true s _ p (kind_literal (codes "http://www.w3.org/2001/XMLSchema#double") bytes from)
fits_kind lexed.Word bytes from b s p = fits_word (word_of bytes) bytes from s p
fits_kind lexed.Mark bytes from b s p = fits_mark (mark_of bytes) from s p

-- the state that the step begins with, behind the cell if one begins
begun_same : (b : Before) (k : TurtleKind) (bytes : List ℕ) (s : State) → ((item_begun b k bytes s).before ≡ s.before) × ((item_begun b k bytes s).open' ≡ s.open')
begun_same b k bytes s = cond_both (not (after_carets b) && (in_list s && can_begin k bytes)) _ _ (λ (n : State). (n.before ≡ s.before) × (n.open' ≡ s.open')) (λ _. (refl, refl)) (λ _. (refl, refl))

weaken : (begun : Bool) (s old : State) (r : Step) → s.open' ≡ old.open' → StepFits begun s r → StepFits begun old r
weaken begun s old (Ok x) e h = (h.0, (h.1.0, λ bs is. h.1.1 bs (e ∙ is)))
weaken begun s old (Err x) e h = tt

fits_step : (bytes : List ℕ) (t : Lexed) (s : State) → StepFits (can_begin t.kind bytes) s (step bytes t s)
fits_step bytes t s =
    let plain : State = record s { before = before.Other } in
    let same = begun_same s.before t.kind bytes plain in
    weaken (can_begin t.kind bytes) (item_begun s.before t.kind bytes plain) s (step bytes t s) same.1
    (fits_kind t.kind bytes t.from s.before (item_begun s.before t.kind bytes plain) (ap after_carets same.0))

-- ---- a cell is counted where one begins

counted_if : (b : Bool) (s : State) → nat_lt s.blanks (cond b (with_blank s) s).blanks ≡ b
counted_if true s = lt-ltb s.blanks (s.blanks + 1) (omega arith)
counted_if false s = le-ltb s.blanks s.blanks (omega arith)

swap : (a b c : Bool) → not a && (b && c) ≡ c && (not a && b)
swap true true true = refl
swap true true false = refl
swap true false true = refl
swap true false false = refl
swap false true true = refl
swap false true false = refl
swap false false true = refl
swap false false false = refl

counts_is : (bytes : List ℕ) (t : Lexed) (s : State) (bs : List Bracket) (carets : Bool) (k : Kind) → s.open' ≡ backwards bs → after_carets s.before ≡ carets → begins_object k ≡ can_begin t.kind bytes
    → counts_cell bytes t s ≡ is_cell bs carets k
counts_is bytes t s bs carets k open' before' begins =
    let list : in_list s ≡ is_in_list bs = ap (λ l. is_paren (slice_get l (length l - 1))) open' ∙ innermost bs in
    counted_if (not (after_carets s.before) && (in_list s && can_begin t.kind bytes)) s
    ∙ ap (λ a. not a && (in_list s && can_begin t.kind bytes)) before' ∙ ap (λ b. not carets && (b && can_begin t.kind bytes)) list
    ∙ swap carets (is_in_list bs) (can_begin t.kind bytes) ∙ ap (λ c. c && (not carets && is_in_list bs)) (sym begins)

put_is : (b c : Bool) (t : Token) (xs ys : List Token) → b ≡ c → xs ≡ ys → put_if b t xs ≡ cond c (t ∷ ys) ys
put_is true true t xs ys e f = ap (λ l. t ∷ l) f
put_is false false t xs ys e f = f
put_is true false t xs ys e f = absurd cc
put_is false true t xs ys e f = absurd cc

-- the tokens up to the first fault
abbrev tokens_from : List ℕ → State → List Lexed → List Token
tokens_from bytes s [] = []
tokens_from bytes s (t ∷ ts) = unless_fault (step (bytes_of bytes t) t s) (λ k next. token k t.from s.blanks ∷ tokens_from bytes next ts)

resolved_by : (bytes : List ℕ) (s : State) (t : Lexed) (ts : List Lexed) (tokens : List Token) (r : Step) → ((next : State) (more : List Token) → (resolve_from bytes next more ts).tokens ≡ more ++ tokens_from bytes next ts)
    → (resolving_by r (λ k next. resolve_from bytes next (tokens ++ token k t.from s.blanks ∷ []) ts) tokens).tokens ≡ tokens ++ unless_fault r (λ k next. token k t.from s.blanks ∷ tokens_from bytes next ts)
resolved_by bytes s t ts tokens (Ok x) h = h x.1 (tokens ++ token x.0 t.from s.blanks ∷ []) ∙ append_assoc tokens (token x.0 t.from s.blanks ∷ []) (tokens_from bytes x.1 ts)
resolved_by bytes s t ts tokens (Err f) h = sym (append-nil tokens)

resolved_tokens : (bytes : List ℕ) (ts : List Lexed) (s : State) (tokens : List Token) → (resolve_from bytes s tokens ts).tokens ≡ tokens ++ tokens_from bytes s ts
unfolding resolve_from
resolved_tokens bytes [] s tokens = sym (append-nil tokens)
resolved_tokens bytes (t ∷ ts) s tokens = resolved_by bytes s t ts tokens (step (bytes_of bytes t) t s) (λ next more. resolved_tokens bytes ts next more)

counted_by : (bytes : List ℕ) (s : State) (t : Lexed) (ts : List Lexed) (bs : List Bracket) (carets : Bool) (r : Step) → StepFits (can_begin t.kind (bytes_of bytes t)) s r → s.open' ≡ backwards bs → after_carets s.before ≡ carets
    → ((next : State) (after : List Bracket) (c : Bool) → next.open' ≡ backwards after → after_carets next.before ≡ c → cells_resolved bytes next ts ≡ cells_from after c (tokens_from bytes next ts))
    → unless_fault r (λ k next. put_if (counts_cell (bytes_of bytes t) t s) (token k t.from s.blanks) (cells_resolved bytes next ts))
    ≡ cells_from bs carets (unless_fault r (λ k next. token k t.from s.blanks ∷ tokens_from bytes next ts))
counted_by bytes s t ts bs carets (Ok x) fits open' before' h =
    put_is (counts_cell (bytes_of bytes t) t s) (is_cell bs carets x.0) (token x.0 t.from s.blanks) _ _ (counts_is (bytes_of bytes t) t s bs carets x.0 open' before' fits.0)
    (h x.1 (open_behind bs x.0) (is_carets x.0) (fits.1.1 bs open') fits.1.0)
counted_by bytes s t ts bs carets (Err f) fits open' before' h = refl

counted : (bytes : List ℕ) (ts : List Lexed) (s : State) (bs : List Bracket) (carets : Bool) → s.open' ≡ backwards bs → after_carets s.before ≡ carets → cells_resolved bytes s ts ≡ cells_from bs carets (tokens_from bytes s ts)
counted bytes [] s bs carets open' before' = refl
counted bytes (t ∷ ts) s bs carets open' before' =
    counted_by bytes s t ts bs carets (step (bytes_of bytes t) t s) (fits_step (bytes_of bytes t) t s) open' before' (λ next after c is was. counted bytes ts next after c is was)

pub cells_are_counted : (base bytes : List ℕ) (ts : List Lexed) → cells_resolved bytes (begin base) ts ≡ cells_from [] false (resolving base bytes ts).tokens
cells_are_counted base bytes ts = counted bytes ts (begin base) [] false refl refl ∙ sym (ap (λ l. cells_from [] false l) (resolved_tokens bytes ts (begin base) []))
