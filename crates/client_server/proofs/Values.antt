-- Values without white space at their ends are trimmed to themselves.
use Rattle.std.proofs.Common.{◌≡◌, ℕ, zero, suc, ◌-◌, ◌<◌, Bool, true, false, List, [], ◌∷◌, length, get_or, take, drop, reverse, refl, ap, ◌∙◌, arith, take_all}
use Rattle.std.specs.Prelude.{not, ◌==◌, ◌&&◌}
use Rattle.std.specs.List.{list_all, prefix_len, suffix_len}
use Rattle.std.proofs.lemmas.Bool.{and_parts, cond-false}
use Rattle.std.proofs.lemmas.Bool.Decides.{nat_tests}
use Rattle.std.proofs.lemmas.List.{length-reverse, get_or-reverse}
use Rattle.std.proofs.lemmas.List.Sums.{suffix_len_is}
use Rattle.std.proofs.Math.Nat.{sub-zero}
use Rattle.httparse.specs.Grammar.{is_ows, skip_ows, trim_ows}
use Rattle.httparse.proofs.TrimLemmas.{trim_ows_space}
use Rattle.link_uri.specs.Heard.{is_blank, trim_front, trim_back}
use Rattle.http_message.specs.Lengths.{trimmed}
use Rattle.site_core.specs.Fields.{is_printable, is_value, is_visible}

-- no white space stands at an end
pub record HasBareEnds (v : List ℕ) : Type 0 where
  pub first : 0 < length v → is_ows (get_or v 0 0) ≡ false
  pub last : 0 < length v → is_ows (get_or v (length v - 1) 0) ≡ false

not_skipped : (v : List ℕ) → (0 < length v → is_ows (get_or v 0 0) ≡ false) → skip_ows v ≡ v
not_skipped [] first = refl
not_skipped (b ∷ bs) first = cond-false _ _ _ (first (omega arith))

last_first : (v : List ℕ) → HasBareEnds v → 0 < length (reverse v) → is_ows (get_or (reverse v) 0 0) ≡ false
last_first v bare inside =
    let some : 0 < length v = omega (arith, length-reverse v) in
    rw (get_or-reverse v 0 0 some, sub-zero) (bare.last some)

-- behind a space, as the grammar of heads trims
pub field_value_is : (v : List ℕ) → HasBareEnds v → trim_ows (32 ∷ v) ≡ v
field_value_is v bare = trim_ows_space v (not_skipped v bare.first) (not_skipped (reverse v) (last_first v bare))

none_in_front : (v : List ℕ) → HasBareEnds v → prefix_len is_blank v ≡ 0
none_in_front [] bare = refl
none_in_front (b ∷ bs) bare = cond-false _ _ _ (bare.first (omega arith))

none_at_end : (v : List ℕ) → HasBareEnds v → suffix_len is_blank v ≡ 0
none_at_end v bare =
    suffix_len_is is_blank v (length v) 0 (omega arith) (λ k above below. absurd (omega (arith, above, below))) bare.last ∙ omega arith

-- as lengths and codings are trimmed
pub trimmed_is : (v : List ℕ) → HasBareEnds v → trimmed v ≡ v
trimmed_is v bare =
    let front : trim_front v ≡ v = ap (λ n. drop n v) (none_in_front v bare) in
    let back : trim_back v ≡ v = ap (λ n. take (length v - n) v) (none_at_end v bare) ∙ ap (λ n. take n v) (sub-zero (length v)) ∙ take_all _ v (omega arith) in
    ap trim_back front ∙ back

pub at : (test : ℕ → Bool) (v : List ℕ) (k : ℕ) → list_all test v ≡ true → k < length v → test (get_or v k 0) ≡ true
at test [] k all within = absurd (omega arith)
at test (b ∷ bs) k all within =
    let parts = and_parts (test b) (list_all test bs) all in
    elim k as (λ j. j < length (b ∷ bs) → test (get_or (b ∷ bs) j 0) ≡ true) [
      | zero ↦ λ _. parts.0
      | suc j ↦ λ less. at test bs j parts.1 (omega (arith, less))
    ] within

no_ows : (b : ℕ) → is_printable b ≡ true → not (b == 32) ≡ true → is_ows b ≡ false
no_ows b printable other = grind (arith, nat_tests)

-- a value of a site file
pub value_bare : (v : List ℕ) → is_value v ≡ true → HasBareEnds v
value_bare v is =
    let outer = and_parts (not (length v == 0)) (list_all is_printable v && (not (get_or v 0 0 == 32) && not (get_or v (length v - 1) 0 == 32))) is in
    let inner = and_parts (list_all is_printable v) (not (get_or v 0 0 == 32) && not (get_or v (length v - 1) 0 == 32)) outer.1 in
    let ends = and_parts (not (get_or v 0 0 == 32)) (not (get_or v (length v - 1) 0 == 32)) inner.1 in
    record {
      first = λ some. no_ows (get_or v 0 0) (at is_printable v 0 inner.0 some) ends.0;
      last = λ some. no_ows (get_or v (length v - 1) 0) (at is_printable v (length v - 1) inner.0 (omega (arith, some))) ends.1;
    }

-- text without white space, be it digits or a host
pub bare_from : (test : ℕ → Bool) (v : List ℕ) → ((b : ℕ) → test b ≡ true → is_ows b ≡ false) → list_all test v ≡ true → HasBareEnds v
bare_from test v none all = record {
  first = λ some. none (get_or v 0 0) (at test v 0 all some);
  last = λ some. none (get_or v (length v - 1) 0) (at test v (length v - 1) all (omega (arith, some)));
}

pub visible_none : (b : ℕ) → is_visible b ≡ true → is_ows b ≡ false
visible_none b visible = grind (arith, nat_tests)
