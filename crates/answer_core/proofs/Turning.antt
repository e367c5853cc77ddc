-- What the report makes of the status, and what is then still said of the run.
use Rattle.std.proofs.Common.{ℕ, ◌≡◌, ◌⊎◌, List, Option, Some, None, inl, inr, refl, sym, ap, subst, ◌∙◌}
use Rattle.reachability.specs.declared.record.Record.{Record}
use Rattle.answer_core.specs.Task.{Asked, Nothing, OverNetwork, OverInput, OverGenerated, Asks}
use Rattle.answer_core.specs.Headline.{Ended, Refused, NoMemory, Unreported, class_of, Never, Holds, input_fails, output_fails, CountsFaults, Shows, StatusMatchesRecord, InputRead, WebRead, IsWebOfGenerated, ReadToEnd, ReadsFor, HasRead, StatusEvidence}
use Rattle.answer_core.specs.Running.{StatusAfterReport, has_record, is_whole}
use Rattle.command_words.specs.declared.command.Settings.{Settings}
use Rattle.answer_core.specs.declared.status.Status.{Status}
use Rattle.answer_core.specs.declared.status.Status.TheVariants.{Ok, Usage, Partial, Limit, Query, Site, Input, Output, Memory, Report, NotBuilt}
use Rattle.answer_core.proofs.Evidence.{least, traversed_same, traversed_may, written_same, written_may}

-- a run that came to its end has no fault of the input or of the output
ended_input : (s : Status) → class_of s ≡ Ended → input_fails s ≡ Never
ended_input Ok e = refl
ended_input Usage e = refl
ended_input Partial e = refl
ended_input Limit e = refl
ended_input (Query at why) e = refl
ended_input (Site at) e = refl
ended_input Input e = absurd (cc)
ended_input Output e = refl
ended_input Memory e = absurd (cc)
ended_input Report e = refl
ended_input NotBuilt e = refl

ended_output : (s : Status) → class_of s ≡ Ended → output_fails s ≡ Never
ended_output Ok e = refl
ended_output Usage e = refl
ended_output Partial e = refl
ended_output Limit e = refl
ended_output (Query at why) e = refl
ended_output (Site at) e = refl
ended_output Input e = refl
ended_output Output e = absurd (cc)
ended_output Memory e = absurd (cc)
ended_output Report e = refl
ended_output NotBuilt e = refl

recorded_report : (s : Status) (t : Option Record) → class_of s ≡ Ended → StatusMatchesRecord s t → StatusMatchesRecord Report t
recorded_report s (Some r) e m = (tt, λ z. absurd (cc))
recorded_report s None e m = subst (λ k. Holds (has_record k) ⊥) e m

recorded_memory : (t : Option Record) → StatusMatchesRecord Memory t
recorded_memory (Some r) = (tt, λ z. absurd (cc))
recorded_memory None = tt

-- ---- what was read

read_report : (a : Settings) (s : Status) (t : Option Record) (bytes : List ℕ) (ended : Type 0) → InputRead a s t bytes ended → InputRead a Report t bytes ended
read_report a s t bytes ended x = record { run = x.run; refusal = tt }

read_memory : (a : Settings) (s : Status) (t : Option Record) (bytes : List ℕ) (ended : Type 0) → InputRead a s t bytes ended → InputRead a Memory t bytes ended
read_memory a s t bytes ended x = record { run = x.run; refusal = tt }

no_refusal : (s u : Status) → class_of s ≡ Ended → class_of u ≡ Refused → (s ≡ u) ⊎ (s ≡ Memory) → ⊥
no_refusal s u e f (inl n) = let z = sym e ∙ (ap class_of n ∙ f) in absurd (cc)
no_refusal s u e f (inr n) = let z = sym e ∙ ap class_of n in absurd (cc)

web_report : (a : Settings) (n : ℕ) (s : Status) (t : Option Record) → WebRead a (IsWebOfGenerated n) s t → WebRead a (IsWebOfGenerated n) Report t
web_report a n s t x = record { run = x.run; refusal = tt }

web_memory : (a : Settings) (n : ℕ) (s : Status) (t : Option Record) → WebRead a (IsWebOfGenerated n) s t → WebRead a (IsWebOfGenerated n) Memory t
web_memory a n s t x = record { run = x.run; refusal = tt }

reads_report : {I : Type 0} (i : Shows I) (ends : I → ℕ) (asked : Asked) (input new : I) (s : Status) (t : Option Record) → class_of s ≡ Ended → ReadsFor i ends asked input new s t → ReadsFor i ends asked input new Report t
reads_report i ends Nothing input new s t e x = absurd (no_refusal s Usage e refl x.0)
reads_report i ends OverNetwork input new s t e x = absurd (no_refusal s NotBuilt e refl x.0)
reads_report i ends (OverInput a) input new s t e x = (x.0, x.1, read_report a s t x.0 (ReadToEnd i ends input new) x.2)
reads_report i ends (OverGenerated n a) input new s t e x = (web_report a n s t x.0, x.1)

reads_memory : {I : Type 0} (i : Shows I) (ends : I → ℕ) (asked : Asked) (input new : I) (s : Status) (t : Option Record) → ReadsFor i ends asked input new s t → ReadsFor i ends asked input new Memory t
reads_memory i ends Nothing input new s t x = (inr refl, x.1, x.2)
reads_memory i ends OverNetwork input new s t x = (inr refl, x.1, x.2)
reads_memory i ends (OverInput a) input new s t x = (x.0, x.1, read_memory a s t x.0 (ReadToEnd i ends input new) x.2)
reads_memory i ends (OverGenerated n a) input new s t x = (web_memory a n s t x.0, x.1)

has_read_report : {I : Type 0} (i : Shows I) (ends : I → ℕ) (asked : Asked) (input new : I) (s : Status) (t : Option Record) → class_of s ≡ Ended → HasRead i ends asked input new s t → HasRead i ends asked input new Report t
has_read_report i ends asked input new s t e x = record {
  reads = reads_report i ends asked input new s t e x.reads;
  input_faults = subst (λ d. CountsFaults d (i.faults input) (i.faults new)) (ended_input s e) x.input_faults;
}

has_read_memory : {I : Type 0} (i : Shows I) (ends : I → ℕ) (asked : Asked) (input new : I) (s : Status) (t : Option Record) → HasRead i ends asked input new s t → HasRead i ends asked input new Memory t
has_read_memory i ends asked input new s t x = record {
  reads = reads_memory i ends asked input new s t x.reads;
  input_faults = least (input_fails s) (i.faults input) (i.faults new) x.input_faults;
}

-- ---- the evidence

evidence_report : {I S : Type 0} (i : Shows I) (ends : I → ℕ) (o : Shows S) (asked : Asked) (input input_new : I) (t : Option Record) (out new : S) (s : Status) → class_of s ≡ Ended
    → StatusEvidence o (Asks asked) (HasRead i ends asked input input_new) t out new s → StatusEvidence o (Asks asked) (HasRead i ends asked input input_new) t out new Report
evidence_report i ends o asked input input_new t out new s e x = record {
  recorded = recorded_report s t e x.recorded;
  traversed = λ c is. traversed_same c (class_of s) Unreported t (ap is_whole e) (x.traversed c is);
  written = λ c is. written_same c (class_of s) Unreported t (o.bytes out) (o.bytes new) (ap is_whole e) (x.written c is);
  untouched = x.untouched;
  output_faults = subst (λ d. CountsFaults d (o.faults out) (o.faults new)) (ended_output s e) x.output_faults;
  read = has_read_report i ends asked input input_new s t e x.read;
}

evidence_memory : {I S : Type 0} (i : Shows I) (ends : I → ℕ) (o : Shows S) (asked : Asked) (input input_new : I) (t : Option Record) (out new : S) (s : Status)
    → StatusEvidence o (Asks asked) (HasRead i ends asked input input_new) t out new s → StatusEvidence o (Asks asked) (HasRead i ends asked input input_new) t out new Memory
evidence_memory i ends o asked input input_new t out new s x = record {
  recorded = recorded_memory t;
  traversed = λ c is. traversed_may c (class_of s) NoMemory t refl (x.traversed c is);
  written = λ c is. written_may c (class_of s) NoMemory t (o.bytes out) (o.bytes new) refl (x.written c is);
  untouched = x.untouched;
  output_faults = least (output_fails s) (o.faults out) (o.faults new) x.output_faults;
  read = has_read_memory i ends asked input input_new s t x.read;
}

pub evidence_after : {I S : Type 0} (i : Shows I) (ends : I → ℕ) (o : Shows S) (asked : Asked) (input input_new : I) (t : Option Record) (out new : S) (s now : Status) → StatusAfterReport s now
    → StatusEvidence o (Asks asked) (HasRead i ends asked input input_new) t out new s → StatusEvidence o (Asks asked) (HasRead i ends asked input input_new) t out new now
evidence_after i ends o asked input input_new t out new s now (inl e) x = subst (StatusEvidence o (Asks asked) (HasRead i ends asked input input_new) t out new) (sym e) x
evidence_after i ends o asked input input_new t out new s now (inr (inl h)) x =
    subst (StatusEvidence o (Asks asked) (HasRead i ends asked input input_new) t out new) (sym h.1) (evidence_report i ends o asked input input_new t out new s h.0 x)
evidence_after i ends o asked input input_new t out new s now (inr (inr e)) x =
    subst (StatusEvidence o (Asks asked) (HasRead i ends asked input input_new) t out new) (sym e) (evidence_memory i ends o asked input input_new t out new s x)
