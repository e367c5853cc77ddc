-- Steps of comparisons that go part by part.
use Rattle.std.proofs.Common.{◌≡◌, ◌∙◌, ℕ, zero, suc, ◌+◌, ◌<◌, ◌≤◌, List, [], ◌∷◌, ◌++◌, Option, Ordering, Less, Equal, Greater, refl, sym, ap, ap₂, arith, length, get_or, drop, add-one}
use Rattle.std.specs.Prelude.{slice_get}
use Rattle.std.specs.Ordering.{ordering_then}
use Rattle.std.specs.Cmp.Lexicographic.{slice_cmp}
use Rattle.std.proofs.lemmas.List.{drop_more}
use Rattle.rdf_terms.specs.declared.term.Term.{Term}
use Rattle.rows_core.specs.Rows.{Cells, cell_or_unbound}
use Rattle.expr_eval.specs.Order.{term_order}
use Rattle.algebra_core.specs.declared.query.Key.{Key}
use Rattle.algebra_core.specs.Order.{directed, bindings_cmp, numbers}
use Rattle.algebra_core.specs.Ranks.{first_of, rest_of, values_cmp}

first_drop : (xs : List (Option Term)) (i : ℕ) → first_of (drop i xs) ≡ cell_or_unbound (slice_get xs i)
first_drop [] zero = refl
first_drop [] (suc i) = refl
first_drop (x ∷ xs) zero = refl
first_drop (x ∷ xs) (suc i) = first_drop xs i

rest_drop : (xs : List (Option Term)) (i : ℕ) → rest_of (drop i xs) ≡ drop (suc i) xs
rest_drop [] zero = refl
rest_drop [] (suc i) = refl
rest_drop (x ∷ xs) zero = refl
rest_drop (x ∷ xs) (suc i) = rest_drop xs i

rest_more : (xs : List (Option Term)) (i : ℕ) → rest_of (drop i xs) ≡ drop (i + 1) xs
rest_more xs i = rest_drop xs i ∙ ap (λ (n : ℕ). drop n xs) (sym (add-one i))

pub values_next : (keys : List Key) (xs ys : List (Option Term)) (i : ℕ) (d : Key) → i < length keys
    → values_cmp (drop i keys) (drop i xs) (drop i ys)
    ≡ ordering_then (directed (get_or keys i d).descending term_order (cell_or_unbound (slice_get xs i)) (cell_or_unbound (slice_get ys i))) (values_cmp (drop (i + 1) keys) (drop (i + 1) xs) (drop (i + 1) ys))
values_next keys xs ys i d h =
    ap (λ (ks : List Key). values_cmp ks (drop i xs) (drop i ys)) (drop_more keys i d h)
    ∙ ap₂ (λ (x y : Option Term). ordering_then (directed (get_or keys i d).descending term_order x y) (values_cmp (drop (i + 1) keys) (rest_of (drop i xs)) (rest_of (drop i ys)))) (first_drop xs i) (first_drop ys i)
    ∙ ap₂ (λ (us vs : List (Option Term)). ordering_then (directed (get_or keys i d).descending term_order (cell_or_unbound (slice_get xs i)) (cell_or_unbound (slice_get ys i))) (values_cmp (drop (i + 1) keys) us vs)) (rest_more xs i) (rest_more ys i)

pub first_decides : (o p : Ordering) → (o ≡ Equal → ⊥) → ordering_then o p ≡ o
first_decides Less p n = refl
first_decides Equal p n = absurd (n refl)
first_decides Greater p n = refl

pub first_ties : (o p : Ordering) → o ≡ Equal → ordering_then o p ≡ p
first_ties Less p e = absurd (cc)
first_ties Equal p e = refl
first_ties Greater p e = absurd (cc)

values_step : (keys : List Key) (xs ys : List (Option Term)) (i : ℕ) (k : Key) (o : Ordering) → values_cmp keys xs ys ≡ values_cmp (drop i keys) (drop i xs) (drop i ys) → i < length keys
    → o ≡ directed (get_or keys i k).descending term_order (cell_or_unbound (slice_get xs i)) (cell_or_unbound (slice_get ys i)) → values_cmp keys xs ys ≡ ordering_then o (values_cmp (drop (i + 1) keys) (drop (i + 1) xs) (drop (i + 1) ys))
values_step keys xs ys i k o e h g = e ∙ (values_next keys xs ys i k h ∙ ap (λ (p : Ordering). ordering_then p (values_cmp (drop (i + 1) keys) (drop (i + 1) xs) (drop (i + 1) ys))) (sym g))

pub values_differ : (keys : List Key) (xs ys : List (Option Term)) (i : ℕ) (k : Key) (o : Ordering) → values_cmp keys xs ys ≡ values_cmp (drop i keys) (drop i xs) (drop i ys) → i < length keys
    → o ≡ directed (get_or keys i k).descending term_order (cell_or_unbound (slice_get xs i)) (cell_or_unbound (slice_get ys i)) → (o ≡ Equal → ⊥) → o ≡ values_cmp keys xs ys
values_differ keys xs ys i k o e h g n = sym (values_step keys xs ys i k o e h g ∙ first_decides o _ n)

pub values_tie : (keys : List Key) (xs ys : List (Option Term)) (i : ℕ) (k : Key) (o : Ordering) → values_cmp keys xs ys ≡ values_cmp (drop i keys) (drop i xs) (drop i ys) → i < length keys
    → o ≡ directed (get_or keys i k).descending term_order (cell_or_unbound (slice_get xs i)) (cell_or_unbound (slice_get ys i)) → o ≡ Equal → values_cmp keys xs ys ≡ values_cmp (drop (i + 1) keys) (drop (i + 1) xs) (drop (i + 1) ys)
values_tie keys xs ys i k o e h g n = values_step keys xs ys i k o e h g ∙ first_ties o _ n

pub bindings_next : (places : List ℕ) (a b : Cells) (i : ℕ) (d : ℕ) → i < length places
    → bindings_cmp (drop i places) a b
    ≡ ordering_then (term_order (cell_or_unbound (slice_get a (get_or places i d))) (cell_or_unbound (slice_get b (get_or places i d)))) (bindings_cmp (drop (i + 1) places) a b)
bindings_next places a b i d h = ap (λ (vs : List ℕ). bindings_cmp vs a b) (drop_more places i d h)

pub cells_next : (a b : Cells) (i : ℕ) (d e : Option Term) → i < length a → i < length b
    → slice_cmp term_order (drop i a) (drop i b) ≡ ordering_then (term_order (get_or a i d) (get_or b i e)) (slice_cmp term_order (drop (i + 1) a) (drop (i + 1) b))
cells_next a b i d e h k = ap₂ (λ (xs ys : Cells). slice_cmp term_order xs ys) (drop_more a i d h) (drop_more b i e k)

abbrev no_cells : Cells
no_cells = []

drop_none : (i : ℕ) → drop i (no_cells) ≡ no_cells
drop_none zero = refl
drop_none (suc i) = refl

-- the second row has no cell more
pub cells_past : (a b : Cells) (i : ℕ) → i < length a → length b ≤ i → slice_cmp term_order (drop i a) (drop i b) ≡ Greater
cells_past [] b i h k = absurd (omega arith)
cells_past (x ∷ a) [] zero h k = refl
cells_past (x ∷ a) (y ∷ b) zero h k = absurd (omega arith)
cells_past (x ∷ a) [] (suc i) h k = ap (λ (l : Cells). slice_cmp term_order (drop i a) l) (sym (drop_none i)) ∙ cells_past a [] i (omega arith) (omega arith)
cells_past (x ∷ a) (y ∷ b) (suc i) h k = cells_past a b i (omega arith) (omega arith)

-- the first row has no cell more
pub cells_short : (a b : Cells) (i : ℕ) → i ≡ length a → i < length b → slice_cmp term_order (drop i a) (drop i b) ≡ Less
cells_short [] [] i e h = absurd (omega arith)
cells_short [] (y ∷ b) zero e h = refl
cells_short [] (y ∷ b) (suc i) e h = absurd (omega arith)
cells_short (x ∷ a) b zero e h = absurd (omega arith)
cells_short (x ∷ a) [] (suc i) e h = absurd (omega arith)
cells_short (x ∷ a) (y ∷ b) (suc i) e h = cells_short a b i (omega arith) (omega arith)

-- neither row has a cell more
pub cells_end : (a b : Cells) (i : ℕ) → i ≡ length a → length b ≤ i → slice_cmp term_order (drop i a) (drop i b) ≡ Equal
cells_end [] [] zero e h = refl
cells_end [] [] (suc i) e h = absurd (omega arith)
cells_end [] (y ∷ b) i e h = absurd (omega arith)
cells_end (x ∷ a) b zero e h = absurd (omega arith)
cells_end (x ∷ a) [] (suc i) e h = ap (λ (l : Cells). slice_cmp term_order (drop i a) l) (sym (drop_none i)) ∙ cells_end a [] i (omega arith) (omega arith)
cells_end (x ∷ a) (y ∷ b) (suc i) e h = cells_end a b i (omega arith) (omega arith)

pub numbers_more : (n : ℕ) → numbers (n + 1) ≡ numbers n ++ n ∷ []
numbers_more n = ap numbers (add-one n)
