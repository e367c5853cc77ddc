-- The first of the marks in a text: what a scan from left to right finds.
use Rattle.std.proofs.Common.{◌≡◌, ℕ, ◌+◌, ◌<◌, ◌≤◌, true, false, List, length, drop, get_or, ap, arith, length-drop}
use Rattle.std.proofs.lemmas.List.Sums.{prefix_len-drop_yes, prefix_len-drop_no, prefix_len-drop_all, prefix_len-le-length}
use Rattle.std.specs.Prelude.{not}
use Rattle.iri_core.specs.Reference.{is_among, first_of}

pub first_of_end : (marks text : List ℕ) (at : ℕ) → length text ≤ at → first_of marks text at ≡ at
unfolding first_of
first_of_end marks text at h = let e = prefix_len-drop_all (λ b. not (is_among marks b)) text at h in omega (arith, e)

pub first_of_here : (marks text : List ℕ) (at : ℕ) → at < length text → is_among marks (get_or text at 0) ≡ true → first_of marks text at ≡ at
unfolding first_of
first_of_here marks text at h m = let e = prefix_len-drop_no (λ b. not (is_among marks b)) text at 0 h (ap not m) in omega (arith, e)

pub first_of_more : (marks text : List ℕ) (at : ℕ) → at < length text → is_among marks (get_or text at 0) ≡ false → first_of marks text (at + 1) ≡ first_of marks text at
unfolding first_of
first_of_more marks text at h m = let e = prefix_len-drop_yes (λ b. not (is_among marks b)) text at 0 h (ap not m) in omega (arith, e)

pub first_of_within : (marks text : List ℕ) (at : ℕ) → at ≤ length text → (at ≤ first_of marks text at) × (first_of marks text at ≤ length text)
unfolding first_of
first_of_within marks text at h = let e = prefix_len-le-length (λ b. not (is_among marks b)) (drop at text) in (omega arith, omega (arith, e, length-drop at text))
