-- A failure among the entries.
use Rattle.std.proofs.Common.{◌≡◌, ◌≢◌, ℕ, ◌+◌, ◌<◌, ◌≤◌, List, [], Option, Some, None, length, get_or, refl, ap, arith}
use Rattle.std.proofs.lemmas.List.Folds.{length-flat_map-take}
use Rattle.reachability.specs.declared.record.Entry.{Entry}
use Rattle.run_report.specs.Report.{failure_with, failure_of, failure_text, failures}

one_failure : (link : List ℕ) (cause : Option (List ℕ)) → cause ≢ None → length (failure_with link cause) ≡ 1
one_failure link (Some cause) some = refl
one_failure link None some = absurd (some refl)

-- an entry that failed is among the failures
pub some_failure : (entries : List Entry) (i : ℕ) (e : Entry) → i < length entries → e ≡ get_or entries i e → failure_text e.found ≢ None → failures entries ≢ []
some_failure entries i e l is some none =
    let one = one_failure e.link (failure_text e.found) some in
    let here : length (failure_of e) ≤ length (failures entries) = omega (arith, length-flat_map-take failure_of entries i e l, ap (λ x. length (failure_of x)) is) in
    absurd (omega (arith, one, here, ap length none))
