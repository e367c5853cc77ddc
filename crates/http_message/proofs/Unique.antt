-- Bytes come to one progress.
use Rattle.std.proofs.Common.{◌≡◌, ℕ, List, [], ◌∷◌, take, drop, refl, sym, ap, ◌∙◌, subst, true, false}
use Rattle.std.specs.Prelude.{Option, Some}
use Rattle.httparse.specs.Grammar.{ResponseHead}
use Rattle.httparse.proofs.GrammarLemmas.{response_unique}
use Rattle.http_message.specs.Heads.{IsHead}
use Rattle.http_message.specs.Facts.{is_interim}
use Rattle.http_message.specs.declared.lines.Place.TheVariants.{Front}
use Rattle.http_message.specs.Lines.{end_from, skip_from}
use Rattle.http_message.specs.Body.{Progress}
use Rattle.http_message.specs.Reading.{Found, waiting, no_head, final_head, Finds, Reads, progress_after}

same_len : (o : Option ℕ) (n m : ℕ) → o ≡ Some n → o ≡ Some m → n ≡ m
same_len o n m a b = cc

same_head : (bytes : List ℕ) (n m : ℕ) (h k : ResponseHead) → n ≡ m → IsHead (take n bytes) h → IsHead (take m bytes) k → h ≡ k
same_head bytes n m h k q a b = (response_unique (take m bytes) h k [] [] (subst (λ i. IsHead (take i bytes) h) q a).reads b.reads).0

-- one head is not both interim and final
not_both : (h k : ResponseHead) → h ≡ k → is_interim h ≡ true → is_interim k ≡ false → ⊥
not_both h k q a b = let c : is_interim h ≡ is_interim k = ap is_interim q in cc

pub found_once : (is js : List ResponseHead) (bytes : List ℕ) (f g : Found) → Finds is bytes f → Finds js bytes g → f ≡ g
found_once [] [] bytes waiting waiting a b = refl
found_once [] [] bytes waiting no_head a b = absurd (let q = b.1 in cc)
found_once [] [] bytes waiting (final_head k r) a b = absurd (let q = b.1 in cc)
found_once [] [] bytes no_head waiting a b = absurd (let q = a.1 in cc)
found_once [] [] bytes no_head no_head a b = refl
found_once [] [] bytes no_head (final_head k r) a b = absurd (a.2 k (subst (λ i. IsHead (take i bytes) k) (same_len (end_from Front bytes) b.0 a.0 b.1 a.1) b.2))
found_once [] [] bytes (final_head h q) waiting a b = absurd (let q = a.1 in cc)
found_once [] [] bytes (final_head h q) no_head a b = absurd (b.2 h (subst (λ i. IsHead (take i bytes) h) (same_len (end_from Front bytes) a.0 b.0 a.1 b.1) a.2))
found_once [] [] bytes (final_head h q) (final_head k r) a b =
    let same = same_len (end_from Front bytes) a.0 b.0 a.1 b.1 in
    let heads : h ≡ k = same_head bytes a.0 b.0 h k same a.2 b.2 in
    let rests : q ≡ r = a.4 ∙ ap (λ i. drop i bytes) same ∙ sym b.4 in
    cc
found_once [] (j ∷ js) bytes waiting g a b = absurd (let q = b.1 in cc)
found_once [] (j ∷ js) bytes no_head g a b = absurd (a.2 j (subst (λ i. IsHead (take i bytes) j) (same_len (end_from Front bytes) b.0 a.0 b.1 a.1) b.2))
found_once [] (j ∷ js) bytes (final_head h q) g a b =
    absurd (not_both j h (same_head bytes b.0 a.0 j h (same_len (end_from Front bytes) b.0 a.0 b.1 a.1) b.2 a.2) b.3 a.3)
found_once (i ∷ is) [] bytes f waiting a b = absurd (let q = a.1 in cc)
found_once (i ∷ is) [] bytes f no_head a b = absurd (b.2 i (subst (λ n. IsHead (take n bytes) i) (same_len (end_from Front bytes) a.0 b.0 a.1 b.1) a.2))
found_once (i ∷ is) [] bytes f (final_head h q) a b =
    absurd (not_both i h (same_head bytes a.0 b.0 i h (same_len (end_from Front bytes) a.0 b.0 a.1 b.1) a.2 b.2) a.3 b.3)
found_once (i ∷ is) (j ∷ js) bytes f g a b =
    let same : b.0 ≡ a.0 = same_len (end_from Front bytes) b.0 a.0 b.1 a.1 in
    found_once is js (drop a.0 bytes) f g a.4 (subst (λ n. Finds js (drop n bytes) g) same b.4)

pub reads_once : (limit : ℕ) (bytes : List ℕ) (p q : Progress) → Reads limit bytes p → Reads limit bytes q → p ≡ q
reads_once limit bytes p q a b =
    a.gives ∙ ap (progress_after limit bytes) (found_once a.interims b.interims (skip_from false (take 65536 bytes)) a.found b.found a.finds b.finds) ∙ sym b.gives
