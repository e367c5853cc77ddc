-- What a table lists, and the rows that it leaves out.
use Rattle.std.proofs.Common.{ℕ, ◌≡◌, ◌+◌, ◌<◌, ◌≤◌, Bool, true, false, cond, List, [], ◌∷◌, ◌++◌, Some, None, refl, sym, ◌∙◌, ap, subst, length, get_or, take, filter, flat_map, append-nil, arith, rules}
use Rattle.std.specs.Prelude.{if◌then◌else◌, ◌||◌, All}
use Rattle.std.proofs.lemmas.List.{take_more, take_all, length-take-le, take-append-le}
use Rattle.std.proofs.lemmas.List.Elements.{All-from_recursion}
use Rattle.std.specs.Map.{lookup}
use Rattle.std.specs.Option.{unwrap_or, IsSome}
use Rattle.indexmap.specs.IndexMap.{IndexMap}
use Rattle.rdf_terms.specs.declared.term.Term.{Term}
use Rattle.rows_core.specs.Rows.{Cells, fits, merged}
use Rattle.symmetric_join.specs.declared.fed.Fed.{Fed}
use Rattle.symmetric_join.specs.declared.fed.Fed.TheVariants.{Left, Right}
use Rattle.symmetric_join.specs.Joins.{joined, met, rows_at}
use Rattle.symmetric_join.specs.Keys.{Key, same_key, key_of, has_key, places, places_at, Lists, merged_places}
use Rattle.symmetric_join.proofs.Keying.{key_Decides, fit_keys}
use Rattle.symmetric_join.proofs.Places.{places_push, places_below, merged_is, rows_at_places}

-- ---- one row more

put_last : (b : Bool) (ps : List ℕ) (n : ℕ) → (if b then ps ++ n ∷ [] else ps) ≡ ps ++ (if b then n ∷ [] else [])
put_last true ps n = refl
put_last false ps n = sym (append-nil ps)

places_more : (vars : List ℕ) (rows : List Cells) (n : ℕ) (d : Cells) (key : Key) → n < length rows
    → places (has_key vars key) (take (n + 1) rows) ≡ (if same_key (key_of vars (get_or rows n d)) key then places (has_key vars key) (take n rows) ++ n ∷ [] else places (has_key vars key) (take n rows))
places_more vars rows n d key h =
    ap (places (has_key vars key)) (take_more rows n d h)
    ∙ (places_push 0 n (has_key vars key) (take n rows) (get_or rows n d) (let e = length-take-le n rows (omega arith) in omega arith)
    ∙ sym (put_last (same_key (key_of vars (get_or rows n d)) key) (places (has_key vars key) (take n rows)) n))

pub lists_more : {S : Type 0} (vars : List ℕ) (rows : List Cells) (n : ℕ) (d : Cells) (mine : Key) (old new : IndexMap Key (List ℕ) S) → Lists vars rows n old → n < length rows → mine ≡ key_of vars (get_or rows n d)
    → ((key : Key) → places_at new key ≡ (if same_key mine key then places_at old key ++ n ∷ [] else places_at old key)) → Lists vars rows (n + 1) new
lists_more vars rows n d mine old new l h e step = record {
  within = omega arith;
  lists = λ key.
      step key ∙ (ap (λ (k : Key). if same_key k key then places_at old key ++ n ∷ [] else places_at old key) e
      ∙ (ap (λ (ps : List ℕ). if same_key (key_of vars (get_or rows n d)) key then ps ++ n ∷ [] else ps) (l.lists key) ∙ sym (places_more vars rows n d key h)));
}

pub lists_same : {S : Type 0} (vars : List ℕ) (rows : List Cells) (n : ℕ) (old new : IndexMap Key (List ℕ) S) → Lists vars rows n old → ((key : Key) → places_at new key ≡ places_at old key) → Lists vars rows n new
lists_same vars rows n old new l same = record { within = l.within; lists = λ key. same key ∙ l.lists key }

-- ---- no row, more rows, and fewer

pub lists_none : {S : Type 0} (vars : List ℕ) (rows : List Cells) (table : IndexMap Key (List ℕ) S) → table.entries ≡ [] → Lists vars rows 0 table
lists_none vars rows table e = record {
  within = omega arith;
  lists = λ key. ap (λ (es : List (Key × List ℕ)). unwrap_or (lookup (same_key key) es) []) e;
}

pub lists_push : {S : Type 0} (vars : List ℕ) (rows : List Cells) (n : ℕ) (row : Cells) (table : IndexMap Key (List ℕ) S) → Lists vars rows n table → Lists vars (rows ++ row ∷ []) n table
lists_push vars rows n row table l = record {
  within = let e = Rattle.std.proofs.lemmas.List.length_push rows row in let w = l.within in omega arith;
  lists = λ key. l.lists key ∙ ap (places (has_key vars key)) (sym (take-append-le n rows (row ∷ []) l.within));
}

pub lists_short : {S : Type 0} (vars : List ℕ) (rows : List Cells) (n len : ℕ) (table : IndexMap Key (List ℕ) S) → n ≤ len → Lists vars rows n table → Lists vars (take len rows) n table
lists_short vars rows n len table h l = record {
  within = let e = Rattle.std.proofs.lemmas.List.length-take len rows in let w = l.within in omega arith;
  lists = λ key. l.lists key ∙ ap (places (has_key vars key)) (sym (Rattle.std.proofs.lemmas.List.take-take n len rows h));
}

-- ---- the rows that are met

unfit : (a b : Cells) (r : Bool) → fits a b ≡ r → (r ≡ true → ⊥) → joined a b ≡ []
unfit a b true e n = absurd (n refl)
unfit a b false e n = ap (λ (t : Bool). if t then merged a b ∷ [] else []) e

never_met : (fed : Fed) (row other : Cells) → (fits row other ≡ true → ⊥) → (fits other row ≡ true → ⊥) → met fed row other ≡ []
never_met Left row other l r = unfit row other (fits row other) refl l
never_met Right row other l r = unfit other row (fits other row) refl r

neither : (a b : Bool) → (a || b) ≡ false → (a ≡ false) × (b ≡ false)
neither true b h = absurd (cc)
neither false b h = (refl, h)

other_key : (k : Key) (m : List Term) → same_key k (Some m) ≡ false → same_key k None ≡ false → (l : List Term) × (k ≡ Some l) × (l ≡ m → ⊥)
other_key None m h g = absurd (cc)
other_key (Some l) m h g = (l, refl, λ e. let z = (key_Decides (Some l) (Some m)).1 (ap (λ (t : List Term). Some t) e) in absurd (cc))

-- the rows with the key, and those that leave a key variable unbound
abbrev pub may_fit : List ℕ → Key → Cells → Bool
may_fit vars key row = has_key vars key row || has_key vars None row

left_out : (fed : Fed) (vars : List ℕ) (row other : Cells) (m : List Term) → key_of vars row ≡ Some m → may_fit vars (Some m) other ≡ false → met fed row other ≡ []
left_out fed vars row other m e h =
    let n = neither (has_key vars (Some m) other) (has_key vars None other) h in
    let o = other_key (key_of vars other) m n.0 n.1 in
    never_met fed row other (λ f. o.2 (sym (fit_keys vars row other m o.0 f e o.1))) (λ f. o.2 (fit_keys vars other row o.0 m f o.1 e))

filtered_flat : {A B : Type 0} (f : A → List B) (p : A → Bool) → ((x : A) → p x ≡ false → f x ≡ []) → (xs : List A) → flat_map f (filter p xs) ≡ flat_map f xs
filtered_flat f p none [] = refl
filtered_flat {A} {B} f p none (x ∷ xs) = go (p x) refl (filtered_flat f p none xs)
  where
    go : (b : Bool) → p x ≡ b → flat_map f (filter p xs) ≡ flat_map f xs → flat_map f (cond b (x ∷ filter p xs) (filter p xs)) ≡ f x ++ flat_map f xs
    go true e more = ap (λ l. f x ++ l) more
    go false e more = more ∙ sym (ap (λ l. l ++ flat_map f xs) (none x e))

not_both : (vars : List ℕ) (m : List Term) (row : Cells) → has_key vars (Some m) row ≡ true → has_key vars None row ≡ false
not_both vars m row h = apart (key_of vars row) h
  where
    apart : (k : Key) → same_key k (Some m) ≡ true → same_key k None ≡ false
    apart None e = absurd (cc)
    apart (Some l) e = refl

-- the places that are tried are those of the rows that may fit
pub tried : {S : Type 0} (vars : List ℕ) (rows : List Cells) (table : IndexMap Key (List ℕ) S) (m : List Term) → Lists vars rows (length rows) table
    → merged_places (places_at table (Some m)) (places_at table None) ≡ places (may_fit vars (Some m)) rows
tried vars rows table m l =
    let whole = take_all (length rows) rows (omega arith) in
    ap (λ (ps : List ℕ). merged_places ps (places_at table None)) (l.lists (Some m) ∙ ap (places (has_key vars (Some m))) whole)
    ∙ (ap (merged_places (places (has_key vars (Some m)) rows)) (l.lists None ∙ ap (places (has_key vars None)) whole)
    ∙ merged_is 0 (has_key vars (Some m)) (has_key vars None) rows (not_both vars m))

-- the same, where the key and the rows go by other names
pub tried_within : {S : Type 0} (vars : List ℕ) (rows xs : List Cells) (n : ℕ) (table : IndexMap Key (List ℕ) S) (key : Key) (ps : List ℕ) → Lists vars rows n table → n ≡ length rows → IsSome key
    → ps ≡ merged_places (places_at table key) (places_at table None) → xs ≡ rows → All (λ p. p < length xs) ps
tried_within vars rows xs n table None ps l e some f g = absurd (search rules)
tried_within vars rows xs n table (Some m) ps l e some f g =
    let whole : Lists vars rows (length rows) table = subst (λ (k : ℕ). Lists vars rows k table) e l in
    let all : All (λ p. p < length rows) (places (may_fit vars (Some m)) rows) = All-from_recursion _ _ (places_below 0 (length rows) (may_fit vars (Some m)) rows (omega arith)) in
    subst (λ (ys : List Cells). All (λ p. p < length ys) ps) (sym g) (subst (λ (qs : List ℕ). All (λ p. p < length rows) qs) (sym (f ∙ tried vars rows table m whole)) all)

pub tried_suffice : {S : Type 0} (fed : Fed) (vars : List ℕ) (rows xs : List Cells) (n : ℕ) (table : IndexMap Key (List ℕ) S) (row : Cells) (key : Key) (ps : List ℕ) → key ≡ key_of vars row → Lists vars rows n table → n ≡ length rows → IsSome key
    → ps ≡ merged_places (places_at table key) (places_at table None) → xs ≡ rows → flat_map (met fed row) (rows_at xs ps) ≡ flat_map (met fed row) rows
tried_suffice fed vars rows xs n table row None ps k l e some f g = absurd (search rules)
tried_suffice fed vars rows xs n table row (Some m) ps k l e some f g =
    let whole : Lists vars rows (length rows) table = subst (λ (j : ℕ). Lists vars rows j table) e l in
    ap (λ (ys : List Cells). flat_map (met fed row) (rows_at ys ps)) g
    ∙ (ap (λ (qs : List ℕ). flat_map (met fed row) (rows_at rows qs)) (f ∙ tried vars rows table m whole)
    ∙ (ap (flat_map (met fed row)) (rows_at_places rows (may_fit vars (Some m)) 0 rows refl)
    ∙ filtered_flat (met fed row) (may_fit vars (Some m)) (λ other h. left_out fed vars row other m (sym k) h) rows))
