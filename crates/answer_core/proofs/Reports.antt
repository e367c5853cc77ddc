-- From what was written to the report to what it received.
use Rattle.std.proofs.Common.{ℕ, ◌≡◌, ◌≢◌, ◌≤◌, ◌+◌, ◌-◌, List, Option, Some, None, inl, inr, refl, sym, ap, subst, ◌∙◌, arith, length}
use Rattle.std.specs.Io.KnownBytes.{append_known}
use Rattle.std.specs.Prelude.{◌^◌, min}
use Rattle.std.proofs.Math.Seq.{take-length}
use Rattle.outer_ports.specs.Causes.{Rose, RoseOnce}
use Rattle.reachability.specs.declared.record.Record.{Record}
use Rattle.answer_core.specs.Headline.{Class, Ended, Halted, Refused, NoMemory, Unreported, class_of, CountsFaults, StatusMatchesRecord, ReceivedInstead, Reported}
use Rattle.answer_core.specs.Reported.{IsTextOf, GrewByPrefix, Received, ReceivedPrefix, memory_line}
use Rattle.answer_core.specs.Running.{failed_by, Is, WroteReport, StatusAfterReport, report_fails}
use Rattle.answer_core.specs.declared.status.Status.{Status}
use Rattle.answer_core.specs.declared.status.Status.TheVariants.{Memory, Report}

whole_prefix : (old new : Option (List ℕ)) (text : List ℕ) → new ≡ append_known old text → GrewByPrefix old new text
whole_prefix old new text e = (length text, omega arith, e ∙ ap (append_known old) (sym (take-length text)))

-- ---- the whole text was received

whole : (k : Class) (P : Status → Type 0) (s : Status) (t : Option Record) (old new : Option (List ℕ)) (failed : Type 0) → k ≢ NoMemory → k ≢ Unreported → Received s t old new → Reported k P s t old new failed
whole Ended P s t old new failed n u x = x
whole Halted P s t old new failed n u x = inl x
whole Refused P s t old new failed n u x = inl x
whole NoMemory P s t old new failed n u x = absurd (n refl)
whole Unreported P s t old new failed n u x = absurd (u refl)

-- ---- writing it failed

least_rise : (a b m : ℕ) → b ≡ min (a + 1) m → min (a + 1) m ≤ b
least_rise a b m e = omega (arith, e)

pub once_rose : (a b : ℕ) → RoseOnce a b → Rose a b
once_rose a b e = least_rise a b (2 ^ 64 - 1) e

replaced : (P : Status → Type 0) (s : Status) (t : Option Record) (old new : Option (List ℕ)) (failed : Type 0) → class_of s ≡ Ended → StatusMatchesRecord s t → ReceivedPrefix s t old new → Reported Unreported P Report t old new failed
replaced P s (Some r) old new failed e m x = subst (λ z. ReceivedPrefix z (Some r) old new) (m.1 e) x
replaced P s None old new failed e m x = tt

prefix : (k : Class) (P : Status → Type 0) (s : Status) (t : Option Record) (old new : Option (List ℕ)) (failed : Type 0) → class_of s ≡ k → k ≢ NoMemory → k ≢ Unreported → StatusMatchesRecord s t → failed → ReceivedPrefix s t old new
    → Reported (class_of (failed_by k s)) P (failed_by k s) t old new failed
prefix Ended P s t old new failed e n u m f x = replaced P s t old new failed e m x
prefix Halted P s t old new failed e n u m f x = subst (λ k. Reported k P s t old new failed) (sym e) (inr (f, x))
prefix Refused P s t old new failed e n u m f x = subst (λ k. Reported k P s t old new failed) (sym e) (inr (f, x))
prefix NoMemory P s t old new failed e n u m f x = absurd (n refl)
prefix Unreported P s t old new failed e n u m f x = absurd (u refl)

pub reported : (s now : Status) (t : Option Record) (text : List ℕ) (old new : Option (List ℕ)) (before after : ℕ) → class_of s ≢ NoMemory → class_of s ≢ Unreported → StatusMatchesRecord s t → IsTextOf s t text
    → WroteReport s now text old new before after → Reported (class_of now) (Is s) now t old new (Rose before after)
reported s now t text old new before after n u m x (inl w) = subst (λ z. Reported (class_of z) (Is s) z t old new (Rose before after)) (sym w.0) (whole (class_of s) (Is s) s t old new (Rose before after) n u (text, x, w.2))
reported s now t text old new before after n u m x (inr (inl w)) =
    subst (λ z. Reported (class_of z) (Is s) z t old new (Rose before after)) (sym w.0) (prefix (class_of s) (Is s) s t old new (Rose before after) refl n u m (once_rose before after w.1.0) (text, x, w.2))
reported s now t text old new before after n u m x (inr (inr w)) =
    subst (λ z. Reported (class_of z) (Is s) z t old new (Rose before after)) (sym w.0) (inr (record { status = s; ran = n; reported = u; shown = refl; begun = (text, x, w.2) }))

-- the line for want of memory
pub reported_memory : (P : Status → Type 0) (now : Status) (t : Option Record) (old new : Option (List ℕ)) (before after : ℕ) → WroteReport Memory now memory_line old new before after → Reported (class_of now) P now t old new (Rose before after)
reported_memory P now t old new before after (inl w) = subst (λ z. Reported (class_of z) P z t old new (Rose before after)) (sym w.0) (inl (whole_prefix old new memory_line w.2))
reported_memory P now t old new before after (inr (inl w)) = subst (λ z. Reported (class_of z) P z t old new (Rose before after)) (sym w.0) (inl w.2)
reported_memory P now t old new before after (inr (inr w)) = subst (λ z. Reported (class_of z) P z t old new (Rose before after)) (sym w.0) (inl w.2)

-- what shows the status that would have come shows it under each name
instead : (P Q : Status → Type 0) (t : Option Record) (old new : Option (List ℕ)) → ((s : Status) → P s → Q s) → ReceivedInstead P t old new → ReceivedInstead Q t old new
instead P Q t old new f x = record { status = x.status; ran = x.ran; reported = x.reported; shown = f x.status x.shown; begun = x.begun }

pub reported_as : (k : Class) (P Q : Status → Type 0) (now : Status) (t : Option Record) (old new : Option (List ℕ)) (failed : Type 0) → ((s : Status) → P s → Q s) → Reported k P now t old new failed → Reported k Q now t old new failed
reported_as Ended P Q now t old new failed f x = x
reported_as Halted P Q now t old new failed f x = x
reported_as Refused P Q now t old new failed f x = x
reported_as NoMemory P Q now t old new failed f (inl w) = inl w
reported_as NoMemory P Q now t old new failed f (inr w) = inr (instead P Q t old new f w)
reported_as Unreported P Q now t old new failed f x = x

-- ---- the counts of its faults

calm : (k : Class) (n m : ℕ) → k ≢ Unreported → m ≡ n → CountsFaults (report_fails k) n m
calm Ended n m u e = e
calm Halted n m u e = inl e
calm Refused n m u e = inl e
calm NoMemory n m u e = inl e
calm Unreported n m u e = absurd (u refl)

rose : (k : Class) (s : Status) (n m : ℕ) → class_of s ≡ k → k ≢ Unreported → RoseOnce n m × (n ≤ m) → CountsFaults (report_fails (class_of (failed_by k s))) n m
rose Ended s n m e u x = x
rose Halted s n m e u x = subst (λ k. CountsFaults (report_fails k) n m) (sym e) (inr x)
rose Refused s n m e u x = subst (λ k. CountsFaults (report_fails k) n m) (sym e) (inr x)
rose NoMemory s n m e u x = subst (λ k. CountsFaults (report_fails k) n m) (sym e) (inr x)
rose Unreported s n m e u x = absurd (u refl)

pub counted : (s now : Status) (text : List ℕ) (old new : Option (List ℕ)) (before after : ℕ) → class_of s ≢ Unreported → WroteReport s now text old new before after → CountsFaults (report_fails (class_of now)) before after
counted s now text old new before after u (inl w) = subst (λ z. CountsFaults (report_fails (class_of z)) before after) (sym w.0) (calm (class_of s) before after u w.1)
counted s now text old new before after u (inr (inl w)) = subst (λ z. CountsFaults (report_fails (class_of z)) before after) (sym w.0) (rose (class_of s) s before after refl u w.1)
counted s now text old new before after u (inr (inr w)) = subst (λ z. CountsFaults (report_fails (class_of z)) before after) (sym w.0) (inl w.1)

-- ---- the status then

failed_after : (k : Class) (s now : Status) → class_of s ≡ k → now ≡ failed_by k s → StatusAfterReport s now
failed_after Ended s now e f = inr (inl (e, f))
failed_after Halted s now e f = inl f
failed_after Refused s now e f = inl f
failed_after NoMemory s now e f = inl f
failed_after Unreported s now e f = inl f

pub after : (s now : Status) (text : List ℕ) (old new : Option (List ℕ)) (n m : ℕ) → WroteReport s now text old new n m → StatusAfterReport s now
after s now text old new n m (inl w) = inl w.0
after s now text old new n m (inr (inl w)) = failed_after (class_of s) s now refl w.0
after s now text old new n m (inr (inr w)) = inr (inr w.0)

-- want of memory before the report stays it
pub after_memory : (s now : Status) (text : List ℕ) (old new : Option (List ℕ)) (n m : ℕ) → WroteReport Memory now text old new n m → StatusAfterReport s now
after_memory s now text old new n m (inl w) = inr (inr w.0)
after_memory s now text old new n m (inr (inl w)) = inr (inr w.0)
after_memory s now text old new n m (inr (inr w)) = inr (inr w.0)
