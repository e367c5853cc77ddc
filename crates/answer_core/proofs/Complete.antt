-- Over a told input that is a site, or over a generated one, and without faults, the run of a task comes to its end, and a query that is refused is answered so;
-- and so is an input that is no site.
use Rattle.std.proofs.Common.{ℕ, ◌≡◌, ◌⊎◌, ◌+◌, ◌≤◌, List, ◌++◌, Option, Some, None, inl, inr, refl, sym, ap, subst, ◌∙◌, arith, length, length-append, append-nil}
use Rattle.outer_ports.specs.Causes.{Rose}
use Rattle.std.specs.Prelude.{is_some, unwrap_or, IfSome}
use Rattle.std.specs.Io.KnownBytes.{prepend_known, IsAtEnd}
use Rattle.std.proofs.lemmas.Bool.{false≢true}
use Rattle.reachability.specs.declared.record.Record.{Record}
use Rattle.site_core.specs.Text.{Entry, SiteText, site_limit}
use Rattle.site_core.specs.Places.{SiteBad}
use Rattle.site_core.proofs.OneAnswer.{never_both}
use Rattle.answer_core.specs.declared.task.Task.{Task}
use Rattle.answer_core.specs.Task.{Asked, Nothing, OverNetwork, OverInput, OverGenerated, Asks, AsksRefused, IsTaskOf}
use Rattle.command_words.specs.declared.command.Settings.{Settings}
use Rattle.answer_core.specs.Headline.{Class, Ended, Halted, NoMemory, Unreported, class_of, Must, Holds, input_fails, output_fails, CountsFaults, Shows, StatusMatchesRecord, RanOver, IsWebOf, IsWebOfGenerated, NoneUnreached, WebRead, InputRead, HasRead, IsReadable, IsUnreadable, IsSiteFault, RanToEnd}
use Rattle.answer_core.specs.Running.{has_record, report_fails}
use Rattle.answer_core.specs.Queries.{IsRefused}
use Rattle.answer_core.proofs.Queries.{not_both, one_place, one_reason}
use Rattle.answer_core.proofs.Reports.{once_rose}
use Rattle.answer_core.specs.declared.status.QueryWhy.{QueryWhy}
use Rattle.answer_core.specs.declared.status.Status.{Status}
use Rattle.answer_core.specs.declared.status.Status.TheVariants.{Ok, Usage, Partial, Limit, Query, Site, Input, Output, Memory, Report, NotBuilt}

-- the bytes that were read to the End are all bytes
all_read : (input bytes : List ℕ) (left : Option (List ℕ)) → Some bytes ≡ prepend_known input left → IsAtEnd left → bytes ≡ input
all_read input bytes None e ended = absurd (false≢true (ap is_some (sym e)))
all_read input bytes (Some rest) e ended = ap (λ o. unwrap_or o bytes) e ∙ (ap (λ (t : List ℕ). input ++ t) ended ∙ append-nil input)

-- no more was read than there is
within : (input bytes : List ℕ) (left : Option (List ℕ)) → Some bytes ≡ prepend_known input left → length input ≤ length bytes
within input bytes None e = absurd (false≢true (ap is_some (sym e)))
within input bytes (Some rest) e =
    let whole : length bytes ≡ length input + length rest = ap length (ap (λ o. unwrap_or o bytes) e) ∙ length-append input rest in
    omega arith

no_site_fault : (site : List Entry) (input bytes : List ℕ) (left : Option (List ℕ)) (counted : Type 0) (at : ℕ) → Some bytes ≡ prepend_known input left → SiteText site bytes → SiteBad input at
    → (counted × IsAtEnd left) ⊎ (length input ≡ site_limit + 1) → ⊥
no_site_fault site input bytes left counted at read text bad (inl ended) = never_both site bytes at text (subst (λ (b : List ℕ). SiteBad b at) (sym (all_read input bytes left read ended.1)) bad)
no_site_fault site input bytes left counted at read text bad (inr long) = absurd (omega (arith, text.within, within input bytes left read, long))

complete_of : (a : Settings) (c : Task) (s : Status) (t : Option Record) (old new : Option (List ℕ)) (counted : Type 0) (i j n m p q : ℕ) (input bytes : List ℕ) (site : List Entry)
    → IsTaskOf a c → old ≡ prepend_known input new → InputRead a s t input (counted × IsAtEnd new)
    → CountsFaults (input_fails s) i j → CountsFaults (output_fails s) n m → CountsFaults (report_fails (class_of s)) p q → old ≡ Some bytes → SiteText site bytes
    → (Rose i j → ⊥) → (Rose n m → ⊥) → (Rose p q → ⊥) → RanToEnd s
complete_of a c Ok t old new e i j n m p q input bytes site of read x f g h known text no_read no_write no_report = inl refl
complete_of a c Usage t old new e i j n m p q input bytes site of read x f g h known text no_read no_write no_report = absurd x.refusal
complete_of a c Partial t old new e i j n m p q input bytes site of read x f g h known text no_read no_write no_report = inl refl
complete_of a c Limit t old new e i j n m p q input bytes site of read x f g h known text no_read no_write no_report = inl refl
complete_of a c (Query at reason) t old new e i j n m p q input bytes site of read x f g h known text no_read no_write no_report = absurd (not_both a.query c.query at reason of.query x.refusal.2)
complete_of a c (Site at) t old new e i j n m p q input bytes site of read x f g h known text no_read no_write no_report = absurd (no_site_fault site input bytes new e at (sym known ∙ read) text x.refusal.0 x.refusal.1)
complete_of a c Input t old new e i j n m p q input bytes site of read x f g h known text no_read no_write no_report = absurd (no_read (once_rose i j f.0))
complete_of a c Output t old new e i j n m p q input bytes site of read x f g h known text no_read no_write no_report = absurd (no_write (once_rose n m g.0))
complete_of a c Memory t old new e i j n m p q input bytes site of read x f g h known text no_read no_write no_report = inr refl
complete_of a c Report t old new e i j n m p q input bytes site of read x f g h known text no_read no_write no_report = absurd (no_report (once_rose p q h.0))
complete_of a c NotBuilt t old new e i j n m p q input bytes site of read x f g h known text no_read no_write no_report = absurd x.refusal

-- over a generated site
complete_made : (a : Settings) (k : ℕ) (c : Task) (s : Status) (t : Option Record) (n m p q : ℕ) → IsTaskOf a c → WebRead a (IsWebOfGenerated k) s t → CountsFaults (output_fails s) n m → CountsFaults (report_fails (class_of s)) p q
    → (Rose n m → ⊥) → (Rose p q → ⊥) → RanToEnd s
complete_made a k c Ok t n m p q of x g h no_write no_report = inl refl
complete_made a k c Usage t n m p q of x g h no_write no_report = absurd x.refusal
complete_made a k c Partial t n m p q of x g h no_write no_report = inl refl
complete_made a k c Limit t n m p q of x g h no_write no_report = inl refl
complete_made a k c (Query at reason) t n m p q of x g h no_write no_report = absurd (not_both a.query c.query at reason of.query x.refusal)
complete_made a k c (Site at) t n m p q of x g h no_write no_report = absurd x.refusal
complete_made a k c Input t n m p q of x g h no_write no_report = absurd x.refusal
complete_made a k c Output t n m p q of x g h no_write no_report = absurd (no_write (once_rose n m g.0))
complete_made a k c Memory t n m p q of x g h no_write no_report = inr refl
complete_made a k c Report t n m p q of x g h no_write no_report = absurd (no_report (once_rose p q h.0))
complete_made a k c NotBuilt t n m p q of x g h no_write no_report = absurd x.refusal

pub complete : {I : Type 0} (i : Shows I) (ends : I → ℕ) (asked : Asked) (c : Task) (s : Status) (t : Option Record) (old new : I) (n m p q : ℕ) → Asks asked c → HasRead i ends asked old new s t
    → CountsFaults (output_fails s) n m → CountsFaults (report_fails (class_of s)) p q → IsReadable i asked old new → (Rose n m → ⊥) → (Rose p q → ⊥) → RanToEnd s
complete i ends Nothing c s t old new n m p q of x g h r no_write no_report = absurd of
complete i ends OverNetwork c s t old new n m p q of x g h r no_write no_report = absurd of
complete i ends (OverInput a) c s t old new n m p q of x g h r no_write no_report =
    complete_of a c s t (i.bytes old) (i.bytes new) (Rose (ends old) (ends new)) (i.faults old) (i.faults new) n m p q x.reads.0 r.0.0 r.0.1 of x.reads.1 x.reads.2 x.input_faults g h r.0.2 r.0.3 r.1 no_write no_report
complete i ends (OverGenerated k a) c s t old new n m p q of x g h r no_write no_report = complete_made a k c s t n m p q of x.reads.0 g h no_write no_report

-- ---- a query that is refused

-- no run is of it
no_run : (a : Settings) (k : Class) (s : Status) (t : Option Record) (F : Record → Type 0) → ((r : Record) → F r → ⊥) → class_of s ≡ k → has_record k ≡ Must → StatusMatchesRecord s t → IfSome t F → ⊥
no_run a k s (Some r) F none e must m x = none r x
no_run a k s None F none e must m x = subst (λ d. Holds d ⊥) (ap has_record e ∙ must) m

not_asked : (a : Settings) (bytes : List ℕ) (E : Type 0) (at : ℕ) (reason : QueryWhy) → IsRefused a.query at reason → (r : Record) → E × RanOver a (IsWebOf bytes) r × NoneUnreached r → ⊥
not_asked a bytes E at reason bad r x = not_both a.query x.1.task.query at reason x.1.asked.query bad

not_made : (a : Settings) (k : ℕ) (at : ℕ) (reason : QueryWhy) → IsRefused a.query at reason → (r : Record) → RanOver a (IsWebOfGenerated k) r × NoneUnreached r → ⊥
not_made a k at reason bad r x = not_both a.query x.0.task.query at reason x.0.asked.query bad

refused_of : (a : Settings) (s : Status) (t : Option Record) (old new : Option (List ℕ)) (counted : Type 0) (i j : ℕ) (input bytes : List ℕ) (site : List Entry) (at : ℕ) (reason : QueryWhy)
    → IsRefused a.query at reason → StatusMatchesRecord s t → old ≡ prepend_known input new → InputRead a s t input (counted × IsAtEnd new) → CountsFaults (input_fails s) i j → old ≡ Some bytes → SiteText site bytes → (Rose i j → ⊥)
    → (s ≡ Query at reason) ⊎ (class_of s ≡ NoMemory)
refused_of a Ok t old new e i j input bytes site at reason bad m read x f known text no_read = absurd (no_run a Ended Ok t _ (not_asked a input (e × IsAtEnd new) at reason bad) refl refl m x.run)
refused_of a Usage t old new e i j input bytes site at reason bad m read x f known text no_read = absurd x.refusal
refused_of a Partial t old new e i j input bytes site at reason bad m read x f known text no_read = absurd (no_run a Ended Partial t _ (not_asked a input (e × IsAtEnd new) at reason bad) refl refl m x.run)
refused_of a Limit t old new e i j input bytes site at reason bad m read x f known text no_read = absurd (no_run a Ended Limit t _ (not_asked a input (e × IsAtEnd new) at reason bad) refl refl m x.run)
refused_of a (Query here why) t old new e i j input bytes site at reason bad m read x f known text no_read =
    inl (λ k. Query (one_place a.query here at why reason x.refusal.2 bad k) (one_reason a.query here at why reason x.refusal.2 bad k))
refused_of a (Site here) t old new e i j input bytes site at reason bad m read x f known text no_read = absurd (no_site_fault site input bytes new e here (sym known ∙ read) text x.refusal.0 x.refusal.1)
refused_of a Input t old new e i j input bytes site at reason bad m read x f known text no_read = absurd (no_read (once_rose i j f.0))
refused_of a Output t old new e i j input bytes site at reason bad m read x f known text no_read = absurd (no_run a Halted Output t _ (not_asked a input (e × IsAtEnd new) at reason bad) refl refl m x.run)
refused_of a Memory t old new e i j input bytes site at reason bad m read x f known text no_read = inr refl
refused_of a Report t old new e i j input bytes site at reason bad m read x f known text no_read = absurd (no_run a Unreported Report t _ (not_asked a input (e × IsAtEnd new) at reason bad) refl refl m x.run)
refused_of a NotBuilt t old new e i j input bytes site at reason bad m read x f known text no_read = absurd x.refusal

-- over a generated site
refused_made : (a : Settings) (k : ℕ) (s : Status) (t : Option Record) (at : ℕ) (reason : QueryWhy) → IsRefused a.query at reason → StatusMatchesRecord s t → WebRead a (IsWebOfGenerated k) s t → (s ≡ Query at reason) ⊎ (class_of s ≡ NoMemory)
refused_made a k Ok t at reason bad m x = absurd (no_run a Ended Ok t _ (not_made a k at reason bad) refl refl m x.run)
refused_made a k Usage t at reason bad m x = absurd x.refusal
refused_made a k Partial t at reason bad m x = absurd (no_run a Ended Partial t _ (not_made a k at reason bad) refl refl m x.run)
refused_made a k Limit t at reason bad m x = absurd (no_run a Ended Limit t _ (not_made a k at reason bad) refl refl m x.run)
refused_made a k (Query here why) t at reason bad m x = inl (λ l. Query (one_place a.query here at why reason x.refusal bad l) (one_reason a.query here at why reason x.refusal bad l))
refused_made a k (Site here) t at reason bad m x = absurd x.refusal
refused_made a k Input t at reason bad m x = absurd x.refusal
refused_made a k Output t at reason bad m x = absurd (no_run a Halted Output t _ (not_made a k at reason bad) refl refl m x.run)
refused_made a k Memory t at reason bad m x = inr refl
refused_made a k Report t at reason bad m x = absurd (no_run a Unreported Report t _ (not_made a k at reason bad) refl refl m x.run)
refused_made a k NotBuilt t at reason bad m x = absurd x.refusal

pub refused : {I : Type 0} (i : Shows I) (ends : I → ℕ) (asked : Asked) (s : Status) (t : Option Record) (old new : I) (at : ℕ) (reason : QueryWhy) → AsksRefused asked at reason → StatusMatchesRecord s t → HasRead i ends asked old new s t
    → IsReadable i asked old new → (s ≡ Query at reason) ⊎ (class_of s ≡ NoMemory)
refused i ends Nothing s t old new at reason bad m x r = absurd bad
refused i ends OverNetwork s t old new at reason bad m x r = absurd bad
refused i ends (OverInput a) s t old new at reason bad m x r =
    refused_of a s t (i.bytes old) (i.bytes new) (Rose (ends old) (ends new)) (i.faults old) (i.faults new) x.reads.0 r.0.0 r.0.1 at reason bad m x.reads.1 x.reads.2 x.input_faults r.0.2 r.0.3 r.1
refused i ends (OverGenerated k a) s t old new at reason bad m x r = refused_made a k s t at reason bad m x.reads.0

-- ---- an input that is no site

-- no run is over it
not_over : (a : Settings) (input bytes : List ℕ) (new : Option (List ℕ)) (counted : Type 0) → Some bytes ≡ prepend_known input new → ((site : List Entry) → SiteText site bytes → ⊥) → (r : Record)
    → (counted × IsAtEnd new) × RanOver a (IsWebOf input) r × NoneUnreached r → ⊥
not_over a input bytes new e read none r x = none x.1.meant.site (subst (SiteText x.1.meant.site) (sym (all_read input bytes new read x.0.1)) x.1.meant.text)

unreadable_of : (a : Settings) (s : Status) (t : Option Record) (old new : Option (List ℕ)) (counted : Type 0) (i j : ℕ) (input bytes : List ℕ) → StatusMatchesRecord s t → old ≡ prepend_known input new → InputRead a s t input (counted × IsAtEnd new)
    → CountsFaults (input_fails s) i j → old ≡ Some bytes → ((site : List Entry) → SiteText site bytes → ⊥) → (Rose i j → ⊥) → IsSiteFault s ⊎ (class_of s ≡ NoMemory)
unreadable_of a Ok t old new e i j input bytes m read x f known none no_read = absurd (no_run a Ended Ok t _ (not_over a input bytes new e (sym known ∙ read) none) refl refl m x.run)
unreadable_of a Usage t old new e i j input bytes m read x f known none no_read = absurd x.refusal
unreadable_of a Partial t old new e i j input bytes m read x f known none no_read = absurd (no_run a Ended Partial t _ (not_over a input bytes new e (sym known ∙ read) none) refl refl m x.run)
unreadable_of a Limit t old new e i j input bytes m read x f known none no_read = absurd (no_run a Ended Limit t _ (not_over a input bytes new e (sym known ∙ read) none) refl refl m x.run)
unreadable_of a (Query at why) t old new e i j input bytes m read x f known none no_read =
    absurd (none x.refusal.1.0 (subst (SiteText x.refusal.1.0) (sym (all_read input bytes new (sym known ∙ read) x.refusal.0.1)) x.refusal.1.1))
unreadable_of a (Site at) t old new e i j input bytes m read x f known none no_read = inl (at, refl)
unreadable_of a Input t old new e i j input bytes m read x f known none no_read = absurd (no_read (once_rose i j f.0))
unreadable_of a Output t old new e i j input bytes m read x f known none no_read = absurd (no_run a Halted Output t _ (not_over a input bytes new e (sym known ∙ read) none) refl refl m x.run)
unreadable_of a Memory t old new e i j input bytes m read x f known none no_read = inr refl
unreadable_of a Report t old new e i j input bytes m read x f known none no_read = absurd (no_run a Unreported Report t _ (not_over a input bytes new e (sym known ∙ read) none) refl refl m x.run)
unreadable_of a NotBuilt t old new e i j input bytes m read x f known none no_read = absurd x.refusal

pub unreadable : {I : Type 0} (i : Shows I) (ends : I → ℕ) (asked : Asked) (s : Status) (t : Option Record) (old new : I) → StatusMatchesRecord s t → HasRead i ends asked old new s t → IsUnreadable i asked old new → IsSiteFault s ⊎ (class_of s ≡ NoMemory)
unreadable i ends Nothing s t old new m x u = absurd u
unreadable i ends OverNetwork s t old new m x u = absurd u
unreadable i ends (OverInput a) s t old new m x u =
    unreadable_of a s t (i.bytes old) (i.bytes new) (Rose (ends old) (ends new)) (i.faults old) (i.faults new) x.reads.0 u.0.0 m x.reads.1 x.reads.2 x.input_faults u.0.1 u.0.2 u.1
unreadable i ends (OverGenerated k a) s t old new m x u = absurd u
