-- The columns stand in ascending order of their names, so that their cells in turn are a row's members.
use Rattle.std.proofs.Common.{◌≡◌, ℕ, zero, suc, ◌+◌, ◌<◌, ◌≤◌, List, [], ◌∷◌, ◌++◌, Option, Some, None, length, get_or, set, drop, refl, sym, ap, ◌∙◌, subst, arith, add-one, drop-cons, append_assoc}
use Rattle.std.specs.Prelude.{⊤, slice_get}
use Rattle.std.specs.List.{insert}
use Rattle.std.specs.Ordering.{nat_cmp, match_ordering, ordering_reverse, is_eq}
use Rattle.std.specs.Cmp.Lexicographic.{slice_cmp, nat_list_cmp_total, bytes_decides}
use Rattle.std.specs.declared.cmp.Ordering.{Ordering}
use Rattle.std.specs.declared.cmp.Ordering.TheVariants.{Less, Equal, Greater}
use Rattle.std.proofs.lemmas.List.{drop_all}
use Rattle.std.proofs.lemmas.Cmp.{tied_itself}
use Rattle.std.proofs.lemmas.Map.Text.{is_eq-slice_cmp}
use Rattle.json.specs.Token.{Token}
use Rattle.json.specs.Tree.{members_tokens}
use Rattle.serde_json.specs.Data.{Data, Members, no_members, member, put}
use Rattle.serde_json.specs.Written.{members_outline}
use Rattle.rdf_terms.specs.declared.term.Term.{Term}
use Rattle.json_results.specs.Results.{term_data, with_cell, row_members}
use Rattle.json_results.specs.Columns.{Column, single, grown, with_place, with_names, columns_of, later, cell_at, last_bound, cell_of, first_member, columns_members, cell_tokens}

-- ---- names ascend

abbrev name_cmp : List ℕ → List ℕ → Ordering
name_cmp = slice_cmp nat_cmp

-- the name comes before those of all columns
abbrev Before : List ℕ → List Column → Type 0
Before name [] = ⊤
Before name (c ∷ cs) = (name_cmp name c.name ≡ Less) × Before name cs

abbrev Ascend : List Column → Type 0
Ascend [] = ⊤
Ascend (c ∷ cs) = Before c.name cs × Ascend cs

before_lower : (a b : List ℕ) (cs : List Column) → name_cmp a b ≡ Less → Before b cs → Before a cs
before_lower a b [] l h = tt
before_lower a b (c ∷ cs) l h = (nat_list_cmp_total.trans a b c.name l h.0, before_lower a b cs l h.1)

before_cases : (a n : List ℕ) (p : ℕ) (c : Column) (cs more : List Column) (o : Ordering) → name_cmp a n ≡ Less → Before a (c ∷ cs) → Before a more → Before a (match_ordering o (single n p ∷ c ∷ cs) (grown c p ∷ cs) (c ∷ more))
before_cases a n p c cs more Less l h m = (l, h)
before_cases a n p c cs more Equal l h m = (h.0, h.1)
before_cases a n p c cs more Greater l h m = (h.0, m)

before_placed : (a n : List ℕ) (p : ℕ) (cs : List Column) → name_cmp a n ≡ Less → Before a cs → Before a (with_place n p cs)
before_placed a n p [] l h = (l, tt)
before_placed a n p (c ∷ cs) l h = before_cases a n p c cs (with_place n p cs) (name_cmp n c.name) l h (before_placed a n p cs l h.1)

lower : (a b : List ℕ) → name_cmp a b ≡ Greater → name_cmp b a ≡ Less
lower a b g = nat_list_cmp_total.antisymm b a ∙ ap ordering_reverse g

ascend_cases : (n : List ℕ) (p : ℕ) (c : Column) (cs more : List Column) (o : Ordering) → name_cmp n c.name ≡ o → Ascend (c ∷ cs) → (name_cmp c.name n ≡ Less → Before c.name more) → Ascend more → Ascend (match_ordering o (single n p ∷ c ∷ cs) (grown c p ∷ cs) (c ∷ more))
ascend_cases n p c cs more Less e h b m = ((e, before_lower n c.name cs e h.0), h)
ascend_cases n p c cs more Equal e h b m = (h.0, h.1)
ascend_cases n p c cs more Greater e h b m = (b (lower n c.name e), m)

ascend_placed : (n : List ℕ) (p : ℕ) (cs : List Column) → Ascend cs → Ascend (with_place n p cs)
ascend_placed n p [] h = (tt, tt)
ascend_placed n p (c ∷ cs) h = ascend_cases n p c cs (with_place n p cs) (name_cmp n c.name) refl h (λ l. before_placed c.name n p cs l h.0) (ascend_placed n p cs h.1)

-- ---- the members of a row

first_at : (n m : List ℕ) (d : Data) (o : Option Term) (ms : Members) → name_cmp n m ≡ Less → put n d ms ≡ member n d ms → put n d (first_member m o ms) ≡ member n d (first_member m o ms)
first_at n m d None ms l h = h
first_at n m d (Some t) ms l h = ap (λ o. match_ordering o (member n d (member m (term_data t) ms)) (member m d ms) (member m (term_data t) (put n d ms))) l

-- a member goes to the front where its key comes before all columns
put_first : (n : List ℕ) (d : Data) (cs : List Column) (cells : List (Option Term)) → Before n cs → put n d (columns_members cs cells) ≡ member n d (columns_members cs cells)
put_first n d [] cells h = refl
put_first n d (c ∷ cs) cells h = first_at n c.name d (cell_of c cells) (columns_members cs cells) h.0 (put_first n d cs cells h.1)

last_push : (f : Option Term) (ps : List ℕ) (p : ℕ) (cells : List (Option Term)) → last_bound f (ps ++ p ∷ []) cells ≡ later (last_bound f ps cells) (cell_at (slice_get cells p))
last_push f [] p cells = refl
last_push f (q ∷ ps) p cells = last_push (later f (cell_at (slice_get cells q))) ps p cells

new_at : (n : List ℕ) (x : Option Term) (ms : Members) → ((d : Data) → put n d ms ≡ member n d ms) → first_member n (later None x) ms ≡ with_cell n x ms
new_at n None ms h = refl
new_at n (Some t) ms h = sym (h (term_data t))

same_name : (n : List ℕ) → name_cmp n n ≡ Equal
same_name n = tied_itself nat_list_cmp_total n

grown_at : (m : List ℕ) (old x : Option Term) (ms : Members) → ((d : Data) → put m d ms ≡ member m d ms) → first_member m (later old x) ms ≡ with_cell m x (first_member m old ms)
grown_at m old None ms h = refl
grown_at m None (Some t) ms h = sym (h (term_data t))
grown_at m (Some s) (Some t) ms h = sym (ap (λ o. match_ordering o (member m (term_data t) (member m (term_data s) ms)) (member m (term_data t) ms) (member m (term_data s) (put m (term_data t) ms))) (same_name m))

past_at : (n m : List ℕ) (o x : Option Term) (ms : Members) → name_cmp n m ≡ Greater → first_member m o (with_cell n x ms) ≡ with_cell n x (first_member m o ms)
past_at n m o None ms g = refl
past_at n m None (Some t) ms g = refl
past_at n m (Some s) (Some t) ms g = sym (ap (λ o. match_ordering o (member n (term_data t) (member m (term_data s) ms)) (member m (term_data t) ms) (member m (term_data s) (put n (term_data t) ms))) g)

equal_names : (a b : List ℕ) → name_cmp a b ≡ Equal → a ≡ b
equal_names a b e = (bytes_decides a b).0 (sym (is_eq-slice_cmp a b) ∙ ap is_eq e)

placed_cases : (n : List ℕ) (p : ℕ) (c : Column) (cs more : List Column) (cells : List (Option Term)) (o : Ordering) → name_cmp n c.name ≡ o → Ascend (c ∷ cs)
    → columns_members more cells ≡ with_cell n (cell_at (slice_get cells p)) (columns_members cs cells)
    → columns_members (match_ordering o (single n p ∷ c ∷ cs) (grown c p ∷ cs) (c ∷ more)) cells ≡ with_cell n (cell_at (slice_get cells p)) (columns_members (c ∷ cs) cells)
placed_cases n p c cs more cells Less e h m =
    new_at n (cell_at (slice_get cells p)) (columns_members (c ∷ cs) cells) (λ d. put_first n d (c ∷ cs) cells (e, before_lower n c.name cs e h.0))
placed_cases n p c cs more cells Equal e h m =
    let x = cell_at (slice_get cells p) in
    let ms = columns_members cs cells in
    ap (λ (o : Option Term). first_member c.name o ms) (last_push None c.places p cells)
    ∙ (grown_at c.name (cell_of c cells) x ms (λ d. put_first c.name d cs cells h.0)
    ∙ ap (λ (k : List ℕ). with_cell k x (first_member c.name (cell_of c cells) ms)) (sym (equal_names n c.name e)))
placed_cases n p c cs more cells Greater e h m =
    ap (first_member c.name (cell_of c cells)) m ∙ past_at n c.name (cell_of c cells) (cell_at (slice_get cells p)) (columns_members cs cells) e

-- one more place of a name puts its cell
placed : (n : List ℕ) (p : ℕ) (cs : List Column) (cells : List (Option Term)) → Ascend cs → columns_members (with_place n p cs) cells ≡ with_cell n (cell_at (slice_get cells p)) (columns_members cs cells)
placed n p [] cells h = new_at n (cell_at (slice_get cells p)) no_members (λ d. refl)
placed n p (c ∷ cs) cells h = placed_cases n p c cs (with_place n p cs) cells (name_cmp n c.name) refl h (placed n p cs cells h.1)

no_cells : (names : List (List ℕ)) (ms : Members) → row_members names [] ms ≡ ms
unfolding row_members
no_cells [] ms = refl
no_cells (n ∷ names) ms = refl

cell_next : (n : List ℕ) (names : List (List ℕ)) (cells : List (Option Term)) (i : ℕ) (ms : Members) → row_members names (drop (suc i) cells) (with_cell n (cell_at (slice_get cells i)) ms) ≡ row_members (n ∷ names) (drop i cells) ms
unfolding row_members
cell_next n names [] zero ms = no_cells names ms
cell_next n names [] (suc i) ms = no_cells names ms
cell_next n names (c ∷ cells) zero ms = refl
cell_next n names (c ∷ cells) (suc i) ms = cell_next n names cells i ms

cell_step : (n : List ℕ) (names : List (List ℕ)) (cells : List (Option Term)) (i : ℕ) (ms : Members) → row_members names (drop (i + 1) cells) (with_cell n (cell_at (slice_get cells i)) ms) ≡ row_members (n ∷ names) (drop i cells) ms
cell_step n names cells i ms = ap (λ (k : ℕ). row_members names (drop k cells) (with_cell n (cell_at (slice_get cells i)) ms)) (add-one i) ∙ cell_next n names cells i ms

named : (names : List (List ℕ)) (i : ℕ) (cs : List Column) (cells : List (Option Term)) → Ascend cs → columns_members (with_names names i cs) cells ≡ row_members names (drop i cells) (columns_members cs cells)
unfolding row_members with_names
named [] i cs cells h = refl
named (n ∷ names) i cs cells h =
    named names (i + 1) (with_place n i cs) cells (ascend_placed n i cs h)
    ∙ (ap (row_members names (drop (i + 1) cells)) (placed n i cs cells h)
    ∙ cell_step n names cells i (columns_members cs cells))

-- the cells of the columns in turn are the members of the row
pub in_order : (names : List (List ℕ)) (cells : List (Option Term)) → columns_members (columns_of names) cells ≡ row_members names cells no_members
in_order names cells = named names 0 [] cells tt

-- ---- steps of loops

pub named_step : (names : List (List ℕ)) (i : ℕ) (n : List ℕ) (cs : List Column) → i < length names → n ≡ get_or names i n → with_names (drop i names) i cs ≡ with_names (drop (i + 1) names) (i + 1) (with_place n i cs)
unfolding with_names
named_step names i n cs h e =
    let a : drop i names ≡ n ∷ drop (i + 1) names = rw add-one (drop-cons names i n h ∙ ap (λ x. x ∷ drop (suc i) names) (sym e)) in
    ap (λ (l : List (List ℕ)). with_names l i cs) a

pub named_end : (names : List (List ℕ)) (i : ℕ) (cs : List Column) → length names ≤ i → with_names (drop i names) i cs ≡ cs
unfolding with_names
named_end names i cs h = ap (λ (l : List (List ℕ)). with_names l i cs) (drop_all i names h)

pub bound_step : (places : List ℕ) (i p d : ℕ) (f : Option Term) (cells : List (Option Term)) → i < length places → p ≡ get_or places i d → last_bound f (drop i places) cells ≡ last_bound (later f (cell_at (slice_get cells p))) (drop (i + 1) places) cells
bound_step places i p d f cells h e =
    let a : drop i places ≡ p ∷ drop (i + 1) places = rw add-one (drop-cons places i d h ∙ ap (λ x. x ∷ drop (suc i) places) (sym e)) in
    ap (λ (l : List ℕ). last_bound f l cells) a

pub bound_end : (places : List ℕ) (i : ℕ) (f : Option Term) (cells : List (Option Term)) → length places ≤ i → last_bound f (drop i places) cells ≡ f
bound_end places i f cells h = ap (λ (l : List ℕ). last_bound f l cells) (drop_all i places h)

cell_first : (n : List ℕ) (o : Option Term) (ms : Members) → members_tokens (members_outline (first_member n o ms)) ≡ cell_tokens n o ++ members_tokens (members_outline ms)
cell_first n None ms = refl
cell_first n (Some t) ms = refl

-- the tokens of a row from a column on
pub column_step : (cs : List Column) (i : ℕ) (c : Column) (cells : List (Option Term)) (front : List Token) → i < length cs → c ≡ get_or cs i c
    → front ++ members_tokens (members_outline (columns_members (drop i cs) cells)) ≡ (front ++ cell_tokens c.name (cell_of c cells)) ++ members_tokens (members_outline (columns_members (drop (i + 1) cs) cells))
column_step cs i c cells front h e =
    let a : drop i cs ≡ c ∷ drop (i + 1) cs = rw add-one (drop-cons cs i c h ∙ ap (λ x. x ∷ drop (suc i) cs) (sym e)) in
    let rest = columns_members (drop (i + 1) cs) cells in
    ap (λ (l : List Column). front ++ members_tokens (members_outline (columns_members l cells))) a
    ∙ (ap (λ (l : List Token). front ++ l) (cell_first c.name (cell_of c cells) rest)
    ∙ sym (append_assoc front (cell_tokens c.name (cell_of c cells)) (members_tokens (members_outline rest))))

pub column_end : (cs : List Column) (i : ℕ) (cells : List (Option Term)) (front : List Token) → length cs ≤ i
    → front ++ members_tokens (members_outline (columns_members (drop i cs) cells)) ≡ front ++ Token.end_object ∷ []
column_end cs i cells front h = ap (λ (l : List Column). front ++ members_tokens (members_outline (columns_members l cells))) (drop_all i cs h)

-- four writes, one behind the other
pub joined : (w v x y z a b c d : List Token) → v ≡ w ++ a → x ≡ v ++ b → y ≡ x ++ c → z ≡ y ++ d → z ≡ w ++ (a ++ (b ++ (c ++ d)))
joined w v x y z a b c d e f g h =
    rw (h, g, f, e) (append_assoc ((w ++ a) ++ b) c d ∙ (append_assoc (w ++ a) b (c ++ d) ∙ append_assoc w a (b ++ (c ++ d))))

-- ---- where a name stands

-- the name comes after those of the first columns
abbrev pub After : List ℕ → List Column → ℕ → Type 0
After n cs zero = ⊤
After n [] (suc i) = ⊤
After n (c ∷ cs) (suc i) = (name_cmp n c.name ≡ Greater) × After n cs i

after_next : (n : List ℕ) (cs : List Column) (i : ℕ) (c : Column) → i < length cs → c ≡ get_or cs i c → name_cmp n c.name ≡ Greater → After n cs i → After n cs (suc i)
after_next n [] i c h e g a = tt
after_next n (x ∷ cs) zero c h e g a = (subst (λ (y : Column). name_cmp n y.name ≡ Greater) e g, tt)
after_next n (x ∷ cs) (suc i) c h e g a = (a.0, after_next n cs i c (omega arith) e g a.1)

pub after_more : (n : List ℕ) (cs : List Column) (i : ℕ) (c : Column) → i < length cs → c ≡ get_or cs i c → name_cmp n c.name ≡ Greater → After n cs i → After n cs (i + 1)
after_more n cs i c h e g a = subst (After n cs) (sym (add-one i)) (after_next n cs i c h e g a)

by_order : (n : List ℕ) (p : ℕ) (c : Column) (cs : List Column) (o : Ordering) → name_cmp n c.name ≡ o → with_place n p (c ∷ cs) ≡ match_ordering o (single n p ∷ c ∷ cs) (grown c p ∷ cs) (c ∷ with_place n p cs)
by_order n p c cs o e = ap (λ o. match_ordering o (single n p ∷ c ∷ cs) (grown c p ∷ cs) (c ∷ with_place n p cs)) e

pub found_at : (n : List ℕ) (cs : List Column) (i : ℕ) (c d : Column) (p : ℕ) → i < length cs → c ≡ get_or cs i c → name_cmp n c.name ≡ Equal → After n cs i → with_place n p cs ≡ set cs i (grown (get_or cs i d) p)
found_at n [] i c d p h e q a = absurd (omega arith)
found_at n (x ∷ cs) zero c d p h e q a = by_order n p x cs Equal (subst (λ (y : Column). name_cmp n y.name ≡ Equal) e q)
found_at n (x ∷ cs) (suc i) c d p h e q a = by_order n p x cs Greater a.0 ∙ ap (λ (l : List Column). x ∷ l) (found_at n cs i c d p (omega arith) e q a.1)

pub missing_at : (n : List ℕ) (cs : List Column) (i : ℕ) (c : Column) (p : ℕ) → i < length cs → c ≡ get_or cs i c → name_cmp n c.name ≡ Less → After n cs i → with_place n p cs ≡ insert cs i (single n p)
missing_at n [] i c p h e q a = absurd (omega arith)
missing_at n (x ∷ cs) zero c p h e q a = by_order n p x cs Less (subst (λ (y : Column). name_cmp n y.name ≡ Less) e q)
missing_at n (x ∷ cs) (suc i) c p h e q a = by_order n p x cs Greater a.0 ∙ ap (λ (l : List Column). x ∷ l) (missing_at n cs i c p (omega arith) e q a.1)

pub missing_end : (n : List ℕ) (cs : List Column) (i p : ℕ) → length cs ≤ i → After n cs i → with_place n p cs ≡ insert cs (length cs) (single n p)
missing_end n [] i p h a = refl
missing_end n (x ∷ cs) zero p h a = absurd (omega arith)
missing_end n (x ∷ cs) (suc i) p h a = by_order n p x cs Greater a.0 ∙ ap (λ (l : List Column). x ∷ l) (missing_end n cs i p (omega arith) a.1)
