-- From what was read by one part of the top call to what is said of it by the part above.
use Rattle.std.proofs.Common.{ℕ, zero, suc, ◌≡◌, ◌≢◌, ◌⊎◌, ◌+◌, ◌≤◌, List, [], Option, Some, None, inl, inr, refl, sym, ap, subst, ◌∙◌, arith, length}
use Rattle.std.specs.Prelude.{IfSome}
use Rattle.std.specs.Io.KnownBytes.{prepend_known}
use Rattle.reachability.specs.declared.record.Record.{Record}
use Rattle.site_core.specs.Text.{Entry, SiteText, site_limit}
use Rattle.site_core.specs.Places.{SiteBad}
use Rattle.reachability.specs.Web.{heard_at}
use Rattle.web_port.specs.SiteWeb.{web_of_site, site_fetch}
use Rattle.site_core.specs.Generated.{IsGenerated}
use Rattle.traverse_core.specs.Run.{Run}
use Rattle.sparql_parser.specs.Answer.{IsAnswer, UnlessMemoryFault}
use Rattle.sparql_parser.specs.declared.fault.QueryFault.{QueryFault}
use Rattle.sparql_parser.specs.declared.fault.QueryFault.TheVariants as faults
use Rattle.answer_core.specs.Task.{Asked, Nothing, OverNetwork, OverInput, OverGenerated, IsTaskOf}
use Rattle.answer_core.specs.Headline.{class_of, Unreported, input_fails, CountsFaults, Shows, StatusMatchesRecord, RanOver, NoneUnreached, IsWebOf, IsWebOfSite, IsWebOfGenerated, QueryRefusal, WebRead, Refusal, InputRead, ReadToEnd, ReadsFor, HasRead}
use Rattle.answer_core.specs.Running.{BeforeReport, BytesRead, TaskRead, IsOfSite, RunRead, task_of, fault_status}
use Rattle.answer_core.specs.declared.task.Task.{Task}
use Rattle.command_words.specs.declared.command.Settings.{Settings}
use Rattle.answer_core.specs.declared.status.Status.{Status}
use Rattle.answer_core.specs.declared.status.Status.TheVariants.{Ok, Usage, Partial, Limit, Query, Site, Input, Output, Memory, Report, NotBuilt}
use Rattle.answer_core.proofs.Evidence.{same_input}

pub most_or : (n m : ℕ) → n ≤ m + 1 → (n ≤ m) ⊎ (n ≡ m + 1)
most_or zero m l = inl (omega arith)
most_or (suc n) zero l = inr (omega arith)
most_or (suc n) (suc m) l = next (most_or n m (omega arith))
  where
    next : (n ≤ m) ⊎ (n ≡ m + 1) → (suc n ≤ suc m) ⊎ (suc n ≡ suc m + 1)
    next (inl h) = inl (omega arith)
    next (inr e) = inr (omega arith)

-- ---- a run over a site

-- the run of a task
pub task_read : (run : Run) (t : Task) (site : List Entry) (s : Status) (r : Option Record) → t ≡ task_of run → run.fetch ≡ site_fetch site t.tries → BeforeReport (RunRead run) s r → BeforeReport (TaskRead t site) s r
task_read run t site s r same fetch x =
    let over : run.fetch ≡ site_fetch site run.fetch.tries = fetch ∙ ap (λ z. site_fetch site z.tries) same in
    (x.0, (λ none. absurd (x.1.0 none), subst (λ z. IfSome r (IsOfSite z site)) (sym same) (x.1.1 site over)))

-- no run, for want of memory
pub no_task : (t : Task) (site : List Entry) → BeforeReport (TaskRead t site) Memory None
no_task t site = (λ e. absurd (cc), (λ none. refl, tt))

-- a run is no refusal
no_refusal : (a : Settings) (s : Status) (r : Record) → StatusMatchesRecord s (Some r) → QueryRefusal a s
no_refusal a Ok r m = tt
no_refusal a Usage r m = absurd (m.0 tt)
no_refusal a Partial r m = tt
no_refusal a Limit r m = tt
no_refusal a (Query at why) r m = absurd (m.0 tt)
no_refusal a (Site at) r m = absurd (m.0 tt)
no_refusal a Input r m = absurd (m.0 tt)
no_refusal a Output r m = tt
no_refusal a Memory r m = tt
no_refusal a Report r m = tt
no_refusal a NotBuilt r m = absurd (m.0 tt)

-- the query of the settings
pub site_read : (a : Settings) (t : Task) (site : List Entry) (s : Status) (r : Option Record) → IsTaskOf a t → StatusMatchesRecord s r → BeforeReport (TaskRead t site) s r → BeforeReport (WebRead a (IsWebOfSite site)) s r
site_read a t site s (Some r) asked m x =
    (x.0, record { run = (record { task = t; asked = asked; web = heard_at (web_of_site site); meant = refl; of_web = x.1.1.0 }, x.1.1.1); refusal = no_refusal a s r m })
site_read a t site s None asked m x = (x.0, record { run = tt; refusal = subst (QueryRefusal a) (sym (x.1.0 refl)) tt })

-- ---- refusals

pub matches_none : (f : QueryFault) → StatusMatchesRecord (fault_status f) None
matches_none (faults.Syntax at) = λ x. x
matches_none (faults.Unsupported at) = λ x. x
matches_none (faults.Deep at) = λ x. x
matches_none faults.LongQuery = λ x. x
matches_none faults.Memory = tt

-- a query that is refused, or want of memory
pub fault_read : (a : Settings) (f : QueryFault) (site : List Entry) → UnlessMemoryFault (IsAnswer a.query) f → BeforeReport (WebRead a (IsWebOfSite site)) (fault_status f) None
fault_read a (faults.Syntax at) site x = (λ e. absurd (cc), record { run = tt; refusal = x })
fault_read a (faults.Unsupported at) site x = (λ e. absurd (cc), record { run = tt; refusal = x })
fault_read a (faults.Deep at) site x = (λ e. absurd (cc), record { run = tt; refusal = x })
fault_read a faults.LongQuery site x = (λ e. absurd (cc), record { run = tt; refusal = (refl, x) })
fault_read a faults.Memory site x = (λ e. absurd (cc), record { run = tt; refusal = tt })

-- ---- the bytes of the site

over_bytes : (a : Settings) (site : List Entry) (bytes : List ℕ) (r : Record) → SiteText site bytes → RanOver a (IsWebOfSite site) r → RanOver a (IsWebOf bytes) r
over_bytes a site bytes r text x = record { task = x.task; asked = x.asked; web = x.web; meant = record { site = site; text = text; is = x.meant }; of_web = x.of_web }

run_bytes : (a : Settings) (site : List Entry) (bytes : List ℕ) (t : Option Record) → SiteText site bytes → IfSome t (λ r. RanOver a (IsWebOfSite site) r × NoneUnreached r)
    → IfSome t (λ r. (length bytes ≤ site_limit) × RanOver a (IsWebOf bytes) r × NoneUnreached r)
run_bytes a site bytes (Some r) text x = (text.within, over_bytes a site bytes r text x.0, x.1)
run_bytes a site bytes None text x = tt

refusal_bytes : (a : Settings) (site : List Entry) (bytes : List ℕ) (s : Status) → SiteText site bytes → QueryRefusal a s → Refusal a s bytes (length bytes ≤ site_limit)
refusal_bytes a site bytes Ok text x = tt
refusal_bytes a site bytes Usage text x = absurd x
refusal_bytes a site bytes Partial text x = tt
refusal_bytes a site bytes Limit text x = tt
refusal_bytes a site bytes (Query at why) text x = (text.within, (site, text), x)
refusal_bytes a site bytes (Site at) text x = absurd x
refusal_bytes a site bytes Input text x = absurd x
refusal_bytes a site bytes Output text x = tt
refusal_bytes a site bytes Memory text x = tt
refusal_bytes a site bytes Report text x = tt
refusal_bytes a site bytes NotBuilt text x = absurd x

no_input : (a : Settings) (s : Status) → QueryRefusal a s → s ≢ Input
no_input a s x e = subst (QueryRefusal a) e x

pub bytes_read : (a : Settings) (site : List Entry) (bytes : List ℕ) (s : Status) (t : Option Record) → SiteText site bytes → BeforeReport (WebRead a (IsWebOfSite site)) s t → BeforeReport (BytesRead a bytes) s t
bytes_read a site bytes s t text x = (x.0, (no_input a s x.1.refusal, record { run = run_bytes a site bytes t text x.1.run; refusal = refusal_bytes a site bytes s text x.1.refusal }))

pub bad_read : (a : Settings) (at : ℕ) (bytes : List ℕ) → SiteBad bytes at → length bytes ≤ site_limit + 1 → BeforeReport (BytesRead a bytes) (Site at) None
bad_read a at bytes bad most = (λ e. absurd (cc), (λ e. absurd (cc), record { run = tt; refusal = (bad, most_or (length bytes) site_limit most) }))

pub memory_read : (a : Settings) (bytes : List ℕ) → BeforeReport (BytesRead a bytes) Memory None
memory_read a bytes = (λ e. absurd (cc), (λ e. absurd (cc), record { run = tt; refusal = tt }))

-- ---- the input

either : {E F G : Type 0} → (E → F) → E ⊎ G → F ⊎ G
either f (inl e) = inl (f e)
either f (inr g) = inr g

-- the same, with another word for the end
refusal_ended : (a : Settings) (s : Status) (bytes : List ℕ) (E F : Type 0) → (E → F) → Refusal a s bytes E → Refusal a s bytes F
refusal_ended a Ok bytes E F f x = tt
refusal_ended a Usage bytes E F f x = absurd x
refusal_ended a Partial bytes E F f x = tt
refusal_ended a Limit bytes E F f x = tt
refusal_ended a (Query at why) bytes E F f x = (f x.0, x.1, x.2)
refusal_ended a (Site at) bytes E F f x = (x.0, either f x.1)
refusal_ended a Input bytes E F f x = tt
refusal_ended a Output bytes E F f x = tt
refusal_ended a Memory bytes E F f x = tt
refusal_ended a Report bytes E F f x = tt
refusal_ended a NotBuilt bytes E F f x = absurd x

read_ended : (a : Settings) (s : Status) (t : Option Record) (bytes : List ℕ) (E F : Type 0) → (E → F) → InputRead a s t bytes E → InputRead a s t bytes F
read_ended a s (Some r) bytes E F f x = record { run = (f x.run.0, x.run.1, x.run.2); refusal = refusal_ended a s bytes E F f x.refusal }
read_ended a s None bytes E F f x = record { run = tt; refusal = refusal_ended a s bytes E F f x.refusal }

pub input_read : {I : Type 0} (i : Shows I) (ends : I → ℕ) (a : Settings) (input new : I) (bytes : List ℕ) (s : Status) (t : Option Record) → i.bytes input ≡ prepend_known bytes (i.bytes new) → i.faults new ≡ i.faults input
    → (length bytes ≤ site_limit → ReadToEnd i ends input new) → BeforeReport (BytesRead a bytes) s t → BeforeReport (HasRead i ends (OverInput a) input new) s t
input_read i ends a input new bytes s t read calm ended x = (
  x.0,
  record {
    reads = (bytes, read, read_ended a s t bytes (length bytes ≤ site_limit) (ReadToEnd i ends input new) ended x.1.1);
    input_faults = same_input s (i.faults input) (i.faults new) x.1.0 calm;
  },
)

-- some bytes were read before reading stopped
pub stopped_read : {I : Type 0} (i : Shows I) (ends : I → ℕ) (a : Settings) (input new : I) (s : Status) (bytes : List ℕ) → (s ≡ Input) ⊎ (s ≡ Memory) → i.bytes input ≡ prepend_known bytes (i.bytes new)
    → CountsFaults (input_fails s) (i.faults input) (i.faults new) → BeforeReport (HasRead i ends (OverInput a) input new) s None
stopped_read i ends a input new s bytes is read counts = (reported s is, record { reads = (bytes, read, record { run = tt; refusal = unrefused a s is }); input_faults = counts })
  where
    reported : (s : Status) → (s ≡ Input) ⊎ (s ≡ Memory) → class_of s ≢ Unreported
    reported s (inl e) u = let z = sym (ap class_of e) ∙ u in absurd (cc)
    reported s (inr e) u = let z = sym (ap class_of e) ∙ u in absurd (cc)

    unrefused : (b : Settings) (s : Status) → (s ≡ Input) ⊎ (s ≡ Memory) → Refusal b s bytes (ReadToEnd i ends input new)
    unrefused b s (inl e) = subst (λ z. Refusal b z bytes (ReadToEnd i ends input new)) (sym e) tt
    unrefused b s (inr e) = subst (λ z. Refusal b z bytes (ReadToEnd i ends input new)) (sym e) tt

-- ---- the input unread

-- the words ask for nothing
pub usage_read : {I : Type 0} (i : Shows I) (ends : I → ℕ) (asked : Asked) (input : I) → asked ≡ Nothing → BeforeReport (HasRead i ends asked input input) Usage None
usage_read i ends asked input e = (λ u. absurd (cc), record { reads = subst (λ a. ReadsFor i ends a input input Usage None) (sym e) (inl refl, refl, refl); input_faults = refl })

-- they ask for what isn't built
pub unbuilt_read : {I : Type 0} (i : Shows I) (ends : I → ℕ) (input : I) → BeforeReport (HasRead i ends OverNetwork input input) NotBuilt None
unbuilt_read i ends input = (λ u. absurd (cc), record { reads = (inl refl, refl, refl); input_faults = refl })

unread : (o : Option (List ℕ)) → o ≡ prepend_known [] o
unread None = refl
unread (Some xs) = refl

nothing_reads : {I : Type 0} (i : Shows I) (ends : I → ℕ) (asked : Asked) (input : I) → ReadsFor i ends asked input input Memory None
nothing_reads i ends Nothing input = (inr refl, refl, refl)
nothing_reads i ends OverNetwork input = (inr refl, refl, refl)
nothing_reads i ends (OverInput a) input = ([], unread (i.bytes input), record { run = tt; refusal = tt })
nothing_reads i ends (OverGenerated n a) input = (record { run = tt; refusal = tt }, refl)

-- want of memory before anything was read
pub nothing_read : {I : Type 0} (i : Shows I) (ends : I → ℕ) (asked : Asked) (input : I) → BeforeReport (HasRead i ends asked input input) Memory None
nothing_read i ends asked input = (λ e. absurd (cc), record { reads = nothing_reads i ends asked input; input_faults = inl refl })

-- ---- a generated site

over_generated : (a : Settings) (n : ℕ) (site : List Entry) (r : Record) → IsGenerated n 0 site → RanOver a (IsWebOfSite site) r → RanOver a (IsWebOfGenerated n) r
over_generated a n site r made x = record { task = x.task; asked = x.asked; web = x.web; meant = record { site = site; made = made; is = x.meant }; of_web = x.of_web }

run_generated : (a : Settings) (n : ℕ) (site : List Entry) (t : Option Record) → IsGenerated n 0 site → IfSome t (λ r. RanOver a (IsWebOfSite site) r × NoneUnreached r) → IfSome t (λ r. RanOver a (IsWebOfGenerated n) r × NoneUnreached r)
run_generated a n site (Some r) made x = (over_generated a n site r made x.0, x.1)
run_generated a n site None made x = tt

pub generated_read : (a : Settings) (n : ℕ) (site : List Entry) (s : Status) (t : Option Record) → IsGenerated n 0 site → BeforeReport (WebRead a (IsWebOfSite site)) s t → BeforeReport (WebRead a (IsWebOfGenerated n)) s t
generated_read a n site s t made x = (x.0, record { run = run_generated a n site t made x.1.run; refusal = x.1.refusal })

pub no_site : (a : Settings) (n : ℕ) → BeforeReport (WebRead a (IsWebOfGenerated n)) Memory None
no_site a n = (λ e. absurd (cc), record { run = tt; refusal = tt })

pub unread_generated : {I : Type 0} (i : Shows I) (ends : I → ℕ) (n : ℕ) (a : Settings) (input : I) (s : Status) (t : Option Record) → BeforeReport (WebRead a (IsWebOfGenerated n)) s t → BeforeReport (HasRead i ends (OverGenerated n a) input input) s t
unread_generated i ends n a input s t x = (x.0, record { reads = (x.1, refl); input_faults = same_input s (i.faults input) (i.faults input) (no_input a s x.1.refusal) refl })
