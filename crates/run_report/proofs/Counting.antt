-- Each entry of a record is counted once by the totals of its report.
use Rattle.std.proofs.Common.{ℕ, suc, ◌≡◌, ◌+◌, cond, List, [], ◌∷◌, refl, arith, length}
use Rattle.std.proofs.lemmas.List.Sums.{sum_by-cons}
use Rattle.reachability.specs.declared.outcome.Outcome.TheVariants.{Document, Moved, Refused}
use Rattle.reachability.specs.declared.record.Found.{Found}
use Rattle.reachability.specs.declared.record.Found.TheVariants.{Outcome as Told, Unreachable}
use Rattle.reachability.specs.declared.record.Entry.{Entry}
use Rattle.reachability.specs.Reach.{Text}
use Rattle.run_report.specs.Report.{is_document, is_moved, documents, redirects, failures}

one_more : (link : Text) (found : Found) (es : List Entry) → length es ≡ documents es + (redirects es + length (failures es))
    → length (record { link = link; found = found } ∷ es) ≡ documents (record { link = link; found = found } ∷ es) + (redirects (record { link = link; found = found } ∷ es) + length (failures (record { link = link; found = found } ∷ es)))
one_more link (Told (Document triples)) es h =
    let first : documents (record { link = link; found = Told (Document triples) } ∷ es) ≡ 1 + documents es = sum_by-cons (λ (e : Entry). cond (is_document e.found) 1 0) (record { link = link; found = Told (Document triples) }) es in
    let second : redirects (record { link = link; found = Told (Document triples) } ∷ es) ≡ 0 + redirects es = sum_by-cons (λ (e : Entry). cond (is_moved e.found) 1 0) (record { link = link; found = Told (Document triples) }) es in
    let third : length (failures (record { link = link; found = Told (Document triples) } ∷ es)) ≡ length (failures es) = refl in
    omega (arith, h, first, second, third)
one_more link (Told (Moved to)) es h =
    let first : documents (record { link = link; found = Told (Moved to) } ∷ es) ≡ 0 + documents es = sum_by-cons (λ (e : Entry). cond (is_document e.found) 1 0) (record { link = link; found = Told (Moved to) }) es in
    let second : redirects (record { link = link; found = Told (Moved to) } ∷ es) ≡ 1 + redirects es = sum_by-cons (λ (e : Entry). cond (is_moved e.found) 1 0) (record { link = link; found = Told (Moved to) }) es in
    let third : length (failures (record { link = link; found = Told (Moved to) } ∷ es)) ≡ length (failures es) = refl in
    omega (arith, h, first, second, third)
one_more link (Told (Refused why)) es h =
    let first : documents (record { link = link; found = Told (Refused why) } ∷ es) ≡ 0 + documents es = sum_by-cons (λ (e : Entry). cond (is_document e.found) 1 0) (record { link = link; found = Told (Refused why) }) es in
    let second : redirects (record { link = link; found = Told (Refused why) } ∷ es) ≡ 0 + redirects es = sum_by-cons (λ (e : Entry). cond (is_moved e.found) 1 0) (record { link = link; found = Told (Refused why) }) es in
    let third : length (failures (record { link = link; found = Told (Refused why) } ∷ es)) ≡ suc (length (failures es)) = refl in
    omega (arith, h, first, second, third)
one_more link (Unreachable cause tries) es h =
    let first : documents (record { link = link; found = Unreachable cause tries } ∷ es) ≡ 0 + documents es = sum_by-cons (λ (e : Entry). cond (is_document e.found) 1 0) (record { link = link; found = Unreachable cause tries }) es in
    let second : redirects (record { link = link; found = Unreachable cause tries } ∷ es) ≡ 0 + redirects es = sum_by-cons (λ (e : Entry). cond (is_moved e.found) 1 0) (record { link = link; found = Unreachable cause tries }) es in
    let third : length (failures (record { link = link; found = Unreachable cause tries } ∷ es)) ≡ suc (length (failures es)) = refl in
    omega (arith, h, first, second, third)

pub each_once : (entries : List Entry) → length entries ≡ documents entries + (redirects entries + length (failures entries))
each_once [] = refl
each_once (e ∷ es) = one_more e.link e.found es (each_once es)
