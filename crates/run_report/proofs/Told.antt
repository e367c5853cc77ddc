-- The report has a line for each link that the record says failed, and for no other.
use Rattle.std.proofs.Common.{ℕ, ◌≡◌, ◌≢◌, ◌⊎◌, List, [], ◌∷◌, ◌++◌, Option, Some, None, inl, inr, refl, sym, ap, subst}
use Rattle.std.specs.Prelude.{map, ◌↔◌}
use Rattle.rdf_terms.specs.Lists.{IsIn}
use Rattle.reachability.specs.declared.outcome.Outcome.TheVariants.{Document, Moved, Refused}
use Rattle.reachability.specs.declared.record.Found.{Found}
use Rattle.reachability.specs.declared.record.Found.TheVariants.{Outcome as Told, Unreachable}
use Rattle.reachability.specs.declared.record.Entry.{Entry}
use Rattle.reachability.specs.Reach.{Text}
use Rattle.reachability.specs.Record.{FailedLinks}
use Rattle.run_report.specs.declared.failures.Failure.{Failure}
use Rattle.run_report.specs.Report.{failure_with, failure_text, failures, failed_link}

-- ---- from the record to the lines

first_line : (link : Text) (cause : Option (List ℕ)) (rest : List Failure) → cause ≢ None → IsIn (map failed_link (failure_with link cause ++ rest)) link
first_line link (Some cause) rest n = inl refl
first_line link None rest n = absurd (n refl)

later_line : (link : Text) (cause : Option (List ℕ)) (rest : List Failure) (u : Text) → IsIn (map failed_link rest) u → IsIn (map failed_link (failure_with link cause ++ rest)) u
later_line link (Some cause) rest u i = inr i
later_line link None rest u i = i

line_of : (entries : List Entry) (e : Entry) → IsIn entries e → failure_text e.found ≢ None → IsIn (map failed_link (failures entries)) e.link
line_of [] e i n = absurd i
line_of (x ∷ entries) e (inl same) n = subst (λ y. IsIn (map failed_link (failures (y ∷ entries))) e.link) (sym same) (first_line e.link (failure_text e.found) (failures entries) n)
line_of (x ∷ entries) e (inr i) n = later_line x.link (failure_text x.found) (failures entries) e.link (line_of entries e i n)

told : (entries : List Entry) (u : Text) → FailedLinks entries u → IsIn (map failed_link (failures entries)) u
told entries u (inl refused) = line_of entries (record { link = u; found = Told (Refused refused.0) }) refused.1 (λ e. absurd (cc))
told entries u (inr lost) = line_of entries (record { link = u; found = Unreachable lost.0 lost.1 }) lost.2 (λ e. absurd (cc))

-- ---- from the lines to the record

split_line : (link : Text) (cause : Option (List ℕ)) (rest : List Failure) (u : Text) → IsIn (map failed_link (failure_with link cause ++ rest)) u → ((link ≡ u) × (cause ≢ None)) ⊎ IsIn (map failed_link rest) u
split_line link (Some cause) rest u (inl e) = inl (e, λ z. absurd (cc))
split_line link (Some cause) rest u (inr i) = inr i
split_line link None rest u i = inr i

failed_first : (link : Text) (found : Found) (entries : List Entry) (u : Text) → link ≡ u → failure_text found ≢ None → FailedLinks (record { link = link; found = found } ∷ entries) u
failed_first link (Told (Document triples)) entries u e n = absurd (n refl)
failed_first link (Told (Moved to)) entries u e n = absurd (n refl)
failed_first link (Told (Refused why)) entries u e n = inl (why, inl (ap (λ (l : Text). record { link = l; found = Told (Refused why) }) e))
failed_first link (Unreachable cause tries) entries u e n = inr (cause, tries, inl (ap (λ (l : Text). record { link = l; found = Unreachable cause tries }) e))

failed_later : (x : Entry) (entries : List Entry) (u : Text) → FailedLinks entries u → FailedLinks (x ∷ entries) u
failed_later x entries u (inl refused) = inl (refused.0, inr refused.1)
failed_later x entries u (inr lost) = inr (lost.0, lost.1, inr lost.2)

failed_by : (x : Entry) (entries : List Entry) (u : Text) → (IsIn (map failed_link (failures entries)) u → FailedLinks entries u)
    → ((x.link ≡ u) × (failure_text x.found ≢ None)) ⊎ IsIn (map failed_link (failures entries)) u → FailedLinks (x ∷ entries) u
failed_by x entries u more (inl here) = failed_first x.link x.found entries u here.0 here.1
failed_by x entries u more (inr i) = failed_later x entries u (more i)

failed : (entries : List Entry) (u : Text) → IsIn (map failed_link (failures entries)) u → FailedLinks entries u
failed [] u i = absurd i
failed (x ∷ entries) u i = failed_by x entries u (failed entries u) (split_line x.link (failure_text x.found) (failures entries) u i)

pub both : (entries : List Entry) (u : Text) → FailedLinks entries u ↔ IsIn (map failed_link (failures entries)) u
both entries u = (told entries u, failed entries u)

-- ---- no failure

no_line : (all : List Failure) → ((u : Text) → IsIn (map failed_link all) u → ⊥) → all ≡ []
no_line [] n = refl
no_line (f ∷ all) n = absurd (n f.link (inl refl))

pub none : (entries : List Entry) → (failures entries ≡ []) ↔ ((u : Text) → FailedLinks entries u → ⊥)
none entries = (
  λ e u f. subst (λ (all : List Failure). IsIn (map failed_link all) u) e (told entries u f),
  λ n. no_line (failures entries) (λ u i. n u (failed entries u i)),
)
