-- What a source has left after one read or two, and what a sink holds after one write or two.
use Rattle.std.proofs.Common.{◌≡◌, ℕ, ◌+◌, List, ◌++◌, take, drop, Some, None, refl, ap, sym, ◌∙◌, append_assoc}
use Rattle.std.proofs.Math.Seq.{take-add}
use Rattle.std.proofs.lemmas.List.{take-append-drop, drop-drop}
use Rattle.std.specs.declared.option.Option.{Option}
use Rattle.std.specs.Io.KnownBytes.{prepend_known, append_known}

-- a source over memory moves past the bytes that it gave
pub moves_on : (bytes buf left : List ℕ) (at n : ℕ)
    → left ≡ drop at bytes → take n buf ≡ take n (drop at bytes)
    → Some left ≡ prepend_known (take n buf) (Some (drop (at + n) bytes))
moves_on bytes buf left at n e f =
    rw (e, f, ← drop-drop n at bytes, take-append-drop n (drop at bytes)) refl

-- two reads, one after the other
pub prepend_known-more : (old mid new : Option (List ℕ)) (bs cs : List ℕ)
    → old ≡ prepend_known bs mid → mid ≡ prepend_known cs new → old ≡ prepend_known (bs ++ cs) new
prepend_known-more old mid None bs cs e f = rw (e, f) refl
prepend_known-more old mid (Some x) bs cs e f = rw (e, f) (ap Some (sym (append_assoc bs cs x)))

-- two writes, one after the other, of one text
pub append_known-take : (old mid new : Option (List ℕ)) (text piece : List ℕ) (at n : ℕ)
    → piece ≡ drop at text
    → mid ≡ append_known old (take at text) → new ≡ append_known mid (take n piece)
    → new ≡ append_known old (take (at + n) text)
append_known-take None mid new text piece at n p e f = rw f (rw e refl)
append_known-take (Some x) mid new text piece at n p e f =
    rw f (rw e (rw p (ap Some (append_assoc x _ _ ∙ ap (λ l. x ++ l) (sym (take-add at n text))))))
