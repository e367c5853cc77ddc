-- What a rule allows, part by part, for characters of any kind that have a class.
use Rattle.std.proofs.Common.{◌≡◌, ◌⊎◌, ℕ, zero, suc, List, [], ◌∷◌, ◌++◌, length, map, Bool, true, false, not, ◌&&◌, Option, Some, None, cond, refl, sym, ap, subst, inl, inr}
use Rattle.std.specs.List.{AllByRecursion}
use Rattle.std.proofs.lemmas.Bool.{and_parts, not-true, or_cases}
use Rattle.terminals.specs.declared.class.Class.{Class}
use Rattle.terminals.specs.declared.class.Class.TheVariants as classes
use Rattle.terminals.specs.Groups.{is_hex, hex_value}
use Rattle.terminals.specs.Rules.{Rule, Never, Nothing, One, Then, Either, Many, Number, both, either, may_end, after, number_after, with_digit, allows}

-- texts of this kind, one behind the other
pub data Repeats {A : Type 0} (P : List A → Type 0) : List A → Type 0 where
  no_more : Repeats P []
  one_more : (xs ys : List A) → P xs → Repeats P ys → Repeats P (xs ++ ys)

-- no part of the rule takes a character of this class
abbrev pub lacks : Class → Rule → Bool
lacks bad (One test) = not (test bad)
lacks bad (Then r s) = lacks bad r && lacks bad s
lacks bad (Either r s) = lacks bad r && lacks bad s
lacks bad (Many r) = lacks bad r
lacks bad (Number left fine n) = not (is_hex bad)
lacks bad _ = true

hex_is : (x : Class) (v : ℕ) → hex_value x ≡ Some v → is_hex x ≡ true
hex_is (classes.Digit w) v e = refl
hex_is (classes.HexLetter w) v e = refl
hex_is (classes.HexEscape w) v e = refl
hex_is classes.E v e = refl
hex_is _ v e = absurd cc

module _ {A : Type 0} (class : A → Class) where
  -- the rule allows these characters, seen by its parts
  abbrev pub Matches : Rule → List A → Type 0
  Matches Never xs = ⊥
  Matches Nothing xs = xs ≡ []
  Matches (One test) xs = (x : A) × (xs ≡ x ∷ []) × (test (class x) ≡ true)
  Matches (Then r s) xs = (ys : List A) × (zs : List A) × (xs ≡ ys ++ zs) × Matches r ys × Matches s zs
  Matches (Either r s) xs = Matches r xs ⊎ Matches s xs
  Matches (Many r) xs = Repeats (λ ys. Matches r ys) xs
  Matches (Number left fine n) xs = (length xs ≡ left) × AllByRecursion (λ x. is_hex (class x) ≡ true) xs

  empty : (r : Rule) → may_end r ≡ true → Matches r []
  empty Never e = absurd cc
  empty Nothing e = refl
  empty (One test) e = absurd cc
  empty (Then r s) e = let p = and_parts (may_end r) (may_end s) e in ([], [], refl, empty r p.0, empty s p.1)
  empty (Either r s) e = elim (or_cases (may_end r) (may_end s) e) [ inl h ↦ inl (empty r h) | inr h ↦ inr (empty s h) ]
  empty (Many r) e = no_more
  empty (Number zero fine n) e = (refl, tt)
  empty (Number (suc left) fine n) e = absurd cc

  -- ---- behind the first character

  both_is : (r s : Rule) (xs : List A) → Matches (both r s) xs → Matches (Then r s) xs
  both_is Never s xs m = absurd m
  both_is Nothing s xs m = ([], xs, refl, refl, m)
  both_is r s xs m = m

  either_is : (r s : Rule) (xs : List A) → Matches (either r s) xs → Matches r xs ⊎ Matches s xs
  either_is Never s xs m = inr m
  either_is r Never xs m = inl m
  either_is r s xs m = m

  one_is : (test : Class → Bool) (x : A) (xs : List A) (b : Bool) → test (class x) ≡ b → Matches (cond b Nothing Never) xs → Matches (One test) (x ∷ xs)
  one_is test x xs true e m = (x, ap (λ ys. x ∷ ys) m, e)
  one_is test x xs false e m = absurd m

  last_digit : (x : A) (xs : List A) (v : ℕ) (fine : ℕ → Bool) (n : ℕ) (b : Bool) → hex_value (class x) ≡ Some v → Matches (cond b Nothing Never) xs → Matches (Number 1 fine n) (x ∷ xs)
  last_digit x [] v fine n true e m = (refl, (hex_is (class x) v e, tt))
  last_digit x (y ∷ ys) v fine n true e m = absurd cc
  last_digit x xs v fine n false e m = absurd m

  digit_is : (x : A) (xs : List A) (o : Option ℕ) (left : ℕ) (fine : ℕ → Bool) (n : ℕ) → hex_value (class x) ≡ o → Matches (number_after o left fine n) xs → Matches (Number (suc left) fine n) (x ∷ xs)
  digit_is x xs None left fine n e m = absurd m
  digit_is x xs (Some v) zero fine n e m = last_digit x xs v fine n (fine (with_digit n v)) e m
  digit_is x xs (Some v) (suc left) fine n e m = (ap (λ (k : ℕ). suc k) m.0, (hex_is (class x) v e, m.1))

  then_is : (r s : Rule) (x : A) (xs : List A) → ((ys : List A) → Matches (after (class x) r) ys → Matches r (x ∷ ys)) → Matches (both (after (class x) r) s) xs → Matches (Then r s) (x ∷ xs)
  then_is r s x xs step m = let p = both_is (after (class x) r) s xs m in (x ∷ p.0, p.1, ap (λ ys. x ∷ ys) p.2, step p.0 p.3, p.4)

  may_begin : (r s : Rule) (x : A) (xs : List A) (b : Bool) → may_end r ≡ b → ((ys : List A) → Matches (after (class x) r) ys → Matches r (x ∷ ys)) → (Matches (after (class x) s) xs → Matches s (x ∷ xs))
      → Matches (cond b (either (both (after (class x) r) s) (after (class x) s)) (both (after (class x) r) s)) xs → Matches (Then r s) (x ∷ xs)
  may_begin r s x xs true e first second m = elim (either_is (both (after (class x) r) s) (after (class x) s) xs m) [
    | inl h ↦ then_is r s x xs first h
    | inr h ↦ ([], x ∷ xs, refl, empty r e, second h)
  ]
  may_begin r s x xs false e first second m = then_is r s x xs first m

  more_is : (r : Rule) (x : A) (xs : List A) → Matches (Then r (Many r)) (x ∷ xs) → Matches (Many r) (x ∷ xs)
  more_is r x xs m = subst (λ ys. Repeats (λ zs. Matches r zs) ys) (sym m.2) (one_more m.0 m.1 m.3 m.4)

  step : (r : Rule) (x : A) (xs : List A) → Matches (after (class x) r) xs → Matches r (x ∷ xs)
  step Never x xs m = absurd m
  step Nothing x xs m = absurd m
  step (One test) x xs m = one_is test x xs (test (class x)) refl m
  step (Then r s) x xs m = may_begin r s x xs (may_end r) refl (λ ys h. step r x ys h) (λ h. step s x xs h) m
  step (Either r s) x xs m = elim (either_is (after (class x) r) (after (class x) s) xs m) [ inl h ↦ inl (step r x xs h) | inr h ↦ inr (step s x xs h) ]
  step (Many r) x xs m = more_is r x xs (then_is r (Many r) x xs (λ ys h. step r x ys h) m)
  step (Number zero fine n) x xs m = absurd m
  step (Number (suc left) fine n) x xs m = digit_is x xs (hex_value (class x)) left fine n refl m

  -- what a rule allows matches it
  pub matches : (r : Rule) (xs : List A) → allows r (map class xs) ≡ true → Matches r xs
  matches r [] e = empty r e
  matches r (x ∷ xs) e = step r x xs (matches (after (class x) r) xs e)

  -- ---- where no part of the rule takes a class, no character has it

  abbrev pub Clean : Class → List A → Type 0
  Clean bad xs = AllByRecursion (λ x. class x ≡ bad → ⊥) xs

  clean_append : (bad : Class) (xs ys : List A) → Clean bad xs → Clean bad ys → Clean bad (xs ++ ys)
  clean_append bad [] ys p q = q
  clean_append bad (x ∷ xs) ys p q = (p.0, clean_append bad xs ys p.1 q)

  clean_many : (bad : Class) (P : List A → Type 0) (xs : List A) → ((ys : List A) → P ys → Clean bad ys) → Repeats P xs → Clean bad xs
  clean_many bad P _ h no_more = tt
  clean_many bad P _ h (one_more ys zs p m) = clean_append bad ys zs (h ys p) (clean_many bad P zs h m)

  clean_digits : (bad : Class) (xs : List A) → is_hex bad ≡ false → AllByRecursion (λ x. is_hex (class x) ≡ true) xs → Clean bad xs
  clean_digits bad [] f h = tt
  clean_digits bad (x ∷ xs) f h = ((λ e. let p = h.0 in let q = ap is_hex e in absurd cc), clean_digits bad xs f h.1)

  pub clean : (bad : Class) (r : Rule) (xs : List A) → lacks bad r ≡ true → Matches r xs → Clean bad xs
  clean bad Never xs h m = absurd m
  clean bad Nothing xs h m = subst (λ (l : List A). Clean bad l) (sym m) tt
  clean bad (One test) xs h m = subst (λ (l : List A). Clean bad l) (sym m.1) ((λ e. let p = m.2 in let q = ap test e in let f = not-true (test bad) h in absurd cc), tt)
  clean bad (Then r s) xs h m = let b = and_parts (lacks bad r) (lacks bad s) h in subst (λ (l : List A). Clean bad l) (sym m.2) (clean_append bad m.0 m.1 (clean bad r m.0 b.0 m.3) (clean bad s m.1 b.1 m.4))
  clean bad (Either r s) xs h m = let b = and_parts (lacks bad r) (lacks bad s) h in elim m [ inl p ↦ clean bad r xs b.0 p | inr p ↦ clean bad s xs b.1 p ]
  clean bad (Many r) xs h m = clean_many bad (λ ys. Matches r ys) xs (λ ys p. clean bad r ys h p) m
  clean bad (Number left fine n) xs h m = clean_digits bad xs (not-true (is_hex bad) h) m.1
