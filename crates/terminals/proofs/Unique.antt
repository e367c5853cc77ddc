-- A text has one list of tokens, where no text is of two kinds.
use Rattle.std.proofs.Common.{◌≡◌, ℕ, ◌+◌, List, [], ◌∷◌, take, drop, Bool, true, false, refl, sym, ap, subst, ◌∙◌, arith, inl, inr}
use Rattle.std.proofs.lemmas.Bool.{cases_lt}
use Rattle.terminals.specs.declared.class.Class.{Class}
use Rattle.terminals.specs.declared.class.Class.TheVariants as classes
use Rattle.terminals.specs.Utf8.{Symbol, classes_of, width_of}
use Rattle.terminals.specs.Groups.{is_white, is_hash}
use Rattle.terminals.specs.Rules.{Rule, allows}
use Rattle.terminals.specs.Tokens.{IsLongest, Lexes, lexes_end, lexes_white, lexes_hash, lexes_comment, lexes_ill, lexes_token, lexes_bad}

white_hash : (x : Class) → is_white x ≡ true → is_hash x ≡ true → ⊥
white_hash classes.Hash e h = absurd cc
white_hash _ e h = absurd cc

false_true : (b : Bool) → b ≡ true → b ≡ false → ⊥
false_true b t f = absurd cc

module _ {K T : Type 0} (rule_of : K → Rule) (token : K → ℕ → ℕ → T) (bad last : K) (sole : (xs : List Class) (j k : K) → allows (rule_of j) xs ≡ true → allows (rule_of k) xs ≡ true → j ≡ k) where
  lengths_same : (xs : List Symbol) (j k : K) (m n : ℕ) → IsLongest rule_of xs j m → IsLongest rule_of xs k n → m ≡ n
  lengths_same xs j k m n a b =
      elim (cases_lt m n) [
        | inl lt ↦ absurd (false_true _ b.allowed (a.longest k n lt b.within))
        | inr le ↦ elim (cases_lt n m) [ inl lt ↦ absurd (false_true _ a.allowed (b.longest j m lt a.within)) | inr ge ↦ omega arith ]
      ]

  one_kind : (xs : List Symbol) (j k : K) (m n : ℕ) → IsLongest rule_of xs j m → IsLongest rule_of xs k n → j ≡ k
  one_kind xs j k m n a b =
      let e = lengths_same xs j k m n a b in
      sole (classes_of (take n xs)) j k (subst (λ (i : ℕ). allows (rule_of j) (classes_of (take i xs)) ≡ true) e a.allowed) b.allowed

  pub one_list : (c : Bool) (place : ℕ) (xs : List Symbol) (a b : List T) → Lexes rule_of token bad last c place xs a → Lexes rule_of token bad last c place xs b → a ≡ b
  one_list c place [] _ _ lexes_end lexes_end = refl
  one_list false place (x ∷ xs) _ _ (lexes_white e r) (lexes_white f q) = one_list false _ xs _ _ r q
  one_list false place (x ∷ xs) _ _ (lexes_white e r) (lexes_hash f q) = absurd (white_hash x.class e f)
  one_list false place (x ∷ xs) _ _ (lexes_white e r) (lexes_token w h l t q) = absurd (false_true _ e w)
  one_list false place (x ∷ xs) _ _ (lexes_white e r) (lexes_bad w h n) = absurd (false_true _ e w)
  one_list false place (x ∷ xs) _ _ (lexes_hash e r) (lexes_white f q) = absurd (white_hash x.class f e)
  one_list false place (x ∷ xs) _ _ (lexes_hash e r) (lexes_hash f q) = one_list true _ xs _ _ r q
  one_list false place (x ∷ xs) _ _ (lexes_hash e r) (lexes_token w h l t q) = absurd (false_true _ e h)
  one_list false place (x ∷ xs) _ _ (lexes_hash e r) (lexes_bad w h n) = absurd (false_true _ e h)
  one_list false place (x ∷ xs) _ _ (lexes_token w h l t q) (lexes_white e r) = absurd (false_true _ e w)
  one_list false place (x ∷ xs) _ _ (lexes_token w h l t q) (lexes_hash e r) = absurd (false_true _ e h)
  one_list false place (x ∷ xs) _ _ (lexes_token {to} {k} {n} {ts} w h l t q) (lexes_token {to = to'} {k = k'} {n = n'} {ts = ts'} w' h' l' t' q') =
      let e : n ≡ n' = lengths_same (x ∷ xs) k k' n n' l l' in
      let f : k ≡ k' = one_kind (x ∷ xs) k k' n n' l l' in
      let g : to ≡ to' = t ∙ ap (λ i. place + width_of (take i (x ∷ xs))) e ∙ sym t' in
      let s : ts ≡ ts' = one_list false to (drop n (x ∷ xs)) ts ts' q (subst (λ (i : ℕ). Lexes rule_of token bad last false to (drop i (x ∷ xs)) ts') (sym e) (subst (λ (i : ℕ). Lexes rule_of token bad last false i (drop n' (x ∷ xs)) ts') (sym g) q')) in
      cc
  one_list false place (x ∷ xs) _ _ (lexes_token w h l t q) (lexes_bad w' h' none) = absurd (false_true _ l.allowed (none _ _ l.within))
  one_list false place (x ∷ xs) _ _ (lexes_bad w h none) (lexes_white e r) = absurd (false_true _ e w)
  one_list false place (x ∷ xs) _ _ (lexes_bad w h none) (lexes_hash e r) = absurd (false_true _ e h)
  one_list false place (x ∷ xs) _ _ (lexes_bad w h none) (lexes_token w' h' l t q) = absurd (false_true _ l.allowed (none _ _ l.within))
  one_list false place (x ∷ xs) _ _ (lexes_bad w h none) (lexes_bad w' h' none') = refl
  one_list true place (x ∷ xs) _ _ (lexes_comment e r) (lexes_comment f q) = one_list _ _ xs _ _ r q
  one_list true place (x ∷ xs) _ _ (lexes_comment e r) (lexes_ill f) = absurd (false_true _ f e)
  one_list true place (x ∷ xs) _ _ (lexes_ill e) (lexes_comment f q) = absurd (false_true _ e f)
  one_list true place (x ∷ xs) _ _ (lexes_ill e) (lexes_ill f) = refl
