-- How the evidence of a status is handed on: to another class, to an output that shows the same, to what is read by a caller, and where there is no record.
use Rattle.std.proofs.Common.{ℕ, ◌≡◌, ◌≢◌, List, [], ◌∷◌, Option, Some, None, inl, inr, refl, sym, subst, length}
use Rattle.std.specs.Prelude.{IfSome}
use Rattle.result_writer.specs.Format.{result_text}
use Rattle.reachability.specs.declared.record.Record.{Record}
use Rattle.reachability.specs.Record.{HasEnded}
use Rattle.traverse_core.specs.Query.{selected_names}
use Rattle.run_report.specs.Report.{failures}
use Rattle.answer_core.specs.Codes.{status_by, ended_status}
use Rattle.answer_core.specs.declared.task.Task.{Task}
use Rattle.answer_core.specs.Headline.{Class, Ended, class_of, Duty, Must, May, Never, Holds, input_fails, output_fails, CountsFaults, Shows, StatusMatchesRecord, Traversed, Wrote, Written, StatusEvidence}
use Rattle.answer_core.specs.Running.{Writing, writing, is_whole}
use Rattle.answer_core.specs.declared.status.Status.{Status}
use Rattle.answer_core.specs.declared.status.Status.TheVariants.{Ok, Usage, Partial, Limit, Query, Site, Input, Output, Memory, Report, NotBuilt}

-- what an object shows, by its two meanings
abbrev pub shows_of : {P : Type 0} → (P → Option (List ℕ)) → (P → ℕ) → Shows P
shows_of bytes faults = record { bytes = bytes; faults = faults }

-- ---- the class of a run that came to its end

ended_by : {X : Type 0} (q : List (List ℕ)) (f : List X) → class_of (status_by q f) ≡ Ended
ended_by [] [] = refl
ended_by [] (x ∷ f) = refl
ended_by (u ∷ q) f = refl

pub ended_class : (r : Record) → class_of (ended_status r) ≡ Ended
ended_class r = ended_by r.queued (failures r.entries)

pub output_by : {X : Type 0} (q : List (List ℕ)) (f : List X) → output_fails (status_by q f) ≡ Never
output_by [] [] = refl
output_by [] (x ∷ f) = refl
output_by (u ∷ q) f = refl

-- ---- what was written, said of another class

pub wrote_same : (c : Task) (j k : Class) (r : Record) (before : List ℕ) (after : Option (List ℕ)) → is_whole j ≡ is_whole k → Wrote c j r before after → Wrote c k r before after
wrote_same c j k r before after e w = record {
  rows = w.rows;
  answers = w.answers;
  count = w.count;
  within = w.within;
  is = w.is;
  head = w.head;
  whole = subst (λ d. Holds d (w.count ≡ length (result_text (selected_names c.query) w.rows))) e w.whole;
}

pub wrote_may : (c : Task) (j k : Class) (r : Record) (before : List ℕ) (after : Option (List ℕ)) → is_whole k ≡ May → Wrote c j r before after → Wrote c k r before after
wrote_may c j k r before after e w = record {
  rows = w.rows;
  answers = w.answers;
  count = w.count;
  within = w.within;
  is = w.is;
  head = w.head;
  whole = subst (λ d. Holds d (w.count ≡ length (result_text (selected_names c.query) w.rows))) (sym e) tt;
}

pub written_same : (c : Task) (j k : Class) (t : Option Record) (old new : Option (List ℕ)) → is_whole j ≡ is_whole k → IfSome t (Written c j old new) → IfSome t (Written c k old new)
written_same c j k (Some r) old new e w = λ before known. wrote_same c j k r before new e (w before known)
written_same c j k None old new e w = tt

pub written_may : (c : Task) (j k : Class) (t : Option Record) (old new : Option (List ℕ)) → is_whole k ≡ May → IfSome t (Written c j old new) → IfSome t (Written c k old new)
written_may c j k (Some r) old new e w = λ before known. wrote_may c j k r before new e (w before known)
written_may c j k None old new e w = tt

pub traversed_same : (c : Task) (j k : Class) (t : Option Record) → is_whole j ≡ is_whole k → IfSome t (Traversed c j) → IfSome t (Traversed c k)
traversed_same c j k (Some r) e x = record { traversed = x.traversed; ordered = x.ordered; ended = subst (λ d. Holds d (HasEnded r c.limit)) e x.ended }
traversed_same c j k None e x = tt

pub traversed_may : (c : Task) (j k : Class) (t : Option Record) → is_whole k ≡ May → IfSome t (Traversed c j) → IfSome t (Traversed c k)
traversed_may c j k (Some r) e x = record { traversed = x.traversed; ordered = x.ordered; ended = subst (λ d. Holds d (HasEnded r c.limit)) (sym e) tt }
traversed_may c j k None e x = tt

-- ---- counts of faults

-- what counts so may count so
pub least : (d : Duty) (n m : ℕ) → CountsFaults d n m → CountsFaults May n m
least Must n m x = inr x
least May n m x = x
least Never n m x = inl x

-- without a record the output's is as it was
same_output : (s : Status) (n : ℕ) → StatusMatchesRecord s None → CountsFaults (output_fails s) n n
same_output Ok n m = absurd m
same_output Usage n m = refl
same_output Partial n m = absurd m
same_output Limit n m = absurd m
same_output (Query at why) n m = refl
same_output (Site at) n m = refl
same_output Input n m = refl
same_output Output n m = absurd m
same_output Memory n m = inl refl
same_output Report n m = absurd m
same_output NotBuilt n m = refl

-- without a fault of it the input's is
pub same_input : (s : Status) (n m : ℕ) → s ≢ Input → m ≡ n → CountsFaults (input_fails s) n m
same_input Ok n m i e = e
same_input Usage n m i e = e
same_input Partial n m i e = e
same_input Limit n m i e = e
same_input (Query at why) n m i e = e
same_input (Site at) n m i e = e
same_input Input n m i e = absurd (i refl)
same_input Output n m i e = e
same_input Memory n m i e = inl e
same_input Report n m i e = e
same_input NotBuilt n m i e = e

-- ---- the evidence, handed on

pub evidence_as : {S : Type 0} (o : Shows S) (A B : Task → Type 0) (P Q : Status → Option Record → Type 0) (t : Option Record) (out new : S) (s : Status)
    → ((c : Task) → B c → A c) → (StatusMatchesRecord s t → P s t → Q s t) → StatusEvidence o A P t out new s → StatusEvidence o B Q t out new s
evidence_as o A B P Q t out new s f g x = record {
  recorded = x.recorded;
  traversed = λ c is. x.traversed c (f c is);
  written = λ c is. x.written c (f c is);
  untouched = x.untouched;
  output_faults = x.output_faults;
  read = g x.recorded x.read;
}

-- of an output that shows the same, where there is a record
pub shown_by : {S : Type 0} (o : Shows S) (A : Task → Type 0) (P : Status → Option Record → Type 0) (t : Option Record) (before : Writing) (out new : S) (s : Status) → t ≢ None → o.bytes out ≡ before.bytes → o.faults out ≡ before.faults
    → StatusEvidence writing A P t before (record { bytes = o.bytes new; faults = o.faults new }) s → StatusEvidence o A P t out new s
shown_by o A P t before out new s some bytes faults x = record {
  recorded = x.recorded;
  traversed = x.traversed;
  written = λ c is. subst (λ b. IfSome t (Written c (class_of s) b (o.bytes new))) (sym bytes) (x.written c is);
  untouched = λ none. absurd (some none);
  output_faults = subst (λ n. CountsFaults (output_fails s) n (o.faults new)) (sym faults) x.output_faults;
  read = x.read;
}

unrecorded_at : {S : Type 0} (o : Shows S) (A : Task → Type 0) (P : Status → Option Record → Type 0) (out : S) (s : Status) → StatusMatchesRecord s None → P s None → StatusEvidence o A P None out out s
unrecorded_at o A P out s m p = record {
  recorded = m;
  traversed = λ c is. tt;
  written = λ c is. tt;
  untouched = λ none. refl;
  output_faults = same_output s (o.faults out) m;
  read = p;
}

-- without a record
pub unrecorded : {S : Type 0} (o : Shows S) (A : Task → Type 0) (P : Status → Option Record → Type 0) (t : Option Record) (out new : S) (s now : Status) → now ≡ s → t ≡ None → new ≡ out → StatusMatchesRecord s None → P s None
    → StatusEvidence o A P t out new now
unrecorded o A P t out new s now e none same m p =
    let at_end : StatusEvidence o A P None out out s = unrecorded_at o A P out s m p in
    let with_status : StatusEvidence o A P None out out now = subst (λ z. StatusEvidence o A P None out out z) (sym e) at_end in
    let with_trace : StatusEvidence o A P t out out now = subst (λ z. StatusEvidence o A P z out out now) (sym none) with_status in
    subst (λ z. StatusEvidence o A P t out z now) (sym same) with_trace
