-- What `answer` and `answer_alone` promise, on one page. Six words of it are said elsewhere, after the public standards or by the formats, and may be taken
-- as given: `HasQuery` (the text is of a query), `HasSite` (the bytes are of a site), `IsGenerated` (the site is the one that is made of a number),
-- `outcome_of` (what a look-up in a web comes to), `IsReachable` (links lead from a seed to a link) and `Answers` (rows answer a query over a graph).
use Rattle.std.specs.Prelude.{ℕ, ◌≡◌, ◌≢◌, ◌<◌, ◌≤◌, ◌+◌, ◌⊎◌, List, [], ◌++◌, Option, Some, None, IfSome, length, take}
use Rattle.std.specs.Io.KnownBytes.{prepend_known, IsAtEnd}
use Rattle.outer_ports.specs.Causes.{Rose, RoseOnce}
use Rattle.rows_core.specs.Rows.{Cells}
use Rattle.rdf_terms.specs.Lists.{IsIn, Apart}
use Rattle.link_uri.specs.declared.link.Link.{Link}
use Rattle.result_writer.specs.Format.{head_text, result_text}
use Rattle.algebra_core.specs.Query.{Answers}
use Rattle.site_core.specs.Text.{Entry, site_limit}
use Rattle.reachability.specs.declared.outcome.Outcome.{Outcome}
use Rattle.reachability.specs.declared.record.Record.{Record}
use Rattle.reachability.specs.Web.{ToldWeb, heard_at}
use Rattle.reachability.specs.Reach.{Text, Rule, IsReachable, HasOutcome}
use Rattle.reachability.specs.Record.{IsTraversed, IsFaithful, HasEnded, LooksUpReachable, Unreached, merged_graph}
use Rattle.doc_reader.specs.Outcome.{outcome_of}
use Rattle.web_port.specs.SiteWeb.{web_of_site}
use Rattle.site_core.specs.Generated.{IsGenerated}
use Rattle.traverse_core.specs.Query.{selected_names}
use Rattle.traverse_core.specs.Order.{IsOrdered}
use Rattle.answer_core.specs.declared.task.Task.{Task}
use Rattle.answer_core.specs.Codes.{ended_status}
use Rattle.answer_core.specs.Task.{Asked, Nothing, OverNetwork, OverInput, OverGenerated, Asks, AsksRefused, IsTaskOf, rule_of, seeds_of}
use Rattle.answer_core.specs.Queries.{IsRefused}
use Rattle.answer_core.specs.Sites.{Entries, FirstFault, HasSite}
use Rattle.answer_core.specs.Reported.{GrewByPrefix, Received, ReceivedPrefix, memory_line}
use Rattle.command_words.specs.declared.command.Settings.{Settings}
use Rattle.answer_core.specs.declared.status.QueryWhy.{QueryWhy}
use Rattle.answer_core.specs.declared.status.Status.{Status}
use Rattle.answer_core.specs.declared.status.Status.TheVariants.{Ok, Usage, Partial, Limit, Query, Site, Input, Output, Memory, Report, NotBuilt}

-- ---- how a run ends, in five classes

-- it came to its end; the output failed; the words, the input, the site or the query were refused; memory ran out; it came to its end, and the report failed
pub data Class : Type 0 where
  Ended : Class
  Halted : Class
  Refused : Class
  NoMemory : Class
  Unreported : Class

abbrev pub class_of : Status → Class
class_of Ok = Ended
class_of Partial = Ended
class_of Limit = Ended
class_of Output = Halted
class_of Usage = Refused
class_of (Query at why) = Refused
class_of (Site at) = Refused
class_of Input = Refused
class_of NotBuilt = Refused
class_of Memory = NoMemory
class_of Report = Unreported

pub data Duty : Type 0 where
  Must : Duty
  May : Duty
  Never : Duty

abbrev pub Holds : Duty → Type 0 → Type 0
Holds Must fact = fact
Holds May fact = Unit {0}
Holds Never fact = fact → ⊥

-- there is a record; the whole answer is written, over a record that has ended; the faults of the report rose
pub record Row : Type 0 where
  pub has_record : Duty
  pub is_whole : Duty
  pub report_fails : Duty

abbrev pub row : Class → Row
row Ended = record { has_record = Must; is_whole = Must; report_fails = Never }
row Halted = record { has_record = Must; is_whole = May; report_fails = May }
row Refused = record { has_record = Never; is_whole = Never; report_fails = May }
row NoMemory = record { has_record = May; is_whole = May; report_fails = May }
row Unreported = record { has_record = Must; is_whole = Must; report_fails = Must }

-- the faults of the input rose, and those of the output
abbrev pub input_fails : Status → Duty
input_fails Input = Must
input_fails Memory = May
input_fails status = Never

abbrev pub output_fails : Status → Duty
output_fails Output = Must
output_fails Memory = May
output_fails status = Never

-- a count of the calls that failed: it rose by exactly one, may have risen so, or is unchanged. So a port that failed is not called again
abbrev pub CountsFaults : Duty → ℕ → ℕ → Type 0
CountsFaults Must before now = RoseOnce before now × (before ≤ now)
CountsFaults May before now = (now ≡ before) ⊎ (RoseOnce before now × (before ≤ now))
CountsFaults Never before now = now ≡ before

-- ---- the record, and what was written

-- by the class there is a record or there is none, and the status of a run that ended is the one that its record says
abbrev pub StatusMatchesRecord : Status → Option Record → Type 0
StatusMatchesRecord status (Some r) = Holds ((row (class_of status)).has_record) (Unit {0}) × (class_of status ≡ Ended → status ≡ ended_status r)
StatusMatchesRecord status None = Holds ((row (class_of status)).has_record) ⊥

-- the record has the seeds and each link that the criterion finds in its documents, looked up or queued, and no other; each entry is of a link that was
-- known before it, and the queued links stand in the order in which they became known; where the run came to its end nothing is queued or the limit is reached
pub record Traversed (t : Task) (class : Class) (r : Record) : Type 0 where
  pub traversed : IsTraversed r (seeds_of t) (rule_of t) t.limit
  pub ordered : IsOrdered r t.seeds (rule_of t)
  pub ended : Holds ((row class).is_whole) (HasEnded r t.limit)

-- behind what the output held stand the first `count` bytes of the text of rows that answer the query over the merged graph of the record: the
-- whole text where the run came to its end, and no more than its head as long as the record hasn't ended
pub record Wrote (t : Task) (class : Class) (r : Record) (before : List ℕ) (after : Option (List ℕ)) : Type 0 where
  pub rows : List Cells
  pub answers : Answers t.query (merged_graph r.entries) rows
  pub count : ℕ
  pub within : count ≤ length (result_text (selected_names t.query) rows)
  pub is : after ≡ Some (before ++ take count (result_text (selected_names t.query) rows))
  pub head : HasEnded r t.limit ⊎ (count ≤ length (head_text (selected_names t.query)))
  pub whole : Holds ((row class).is_whole) (count ≡ length (result_text (selected_names t.query) rows))

-- the same, of an output that says what it holds
abbrev pub Written : Task → Class → Option (List ℕ) → Option (List ℕ) → Record → Type 0
Written t class old new r = (before : List ℕ) → old ≡ Some before → Wrote t class r before new

-- ---- the web

-- more links are reachable than may be looked up
pub record IsBeyond (out : Link → Option Outcome) (r : Record) (seeds : List Text) (rule : Rule) (limit : ℕ) : Type 0 where
  pub links : List Text
  pub apart : Apart links
  pub reachable : (u : Text) → IsIn links u → IsReachable (HasOutcome out) (Unreached r.entries) seeds rule u
  pub more : limit < length links

-- each entry says what the web answers for its link; where nothing is queued the links looked up are exactly the reachable ones, which are no
-- more than the limit; and where the limit is reached and a link is queued they are more
pub record IsOfWeb (t : Task) (web : ToldWeb) (r : Record) : Type 0 where
  pub faithful : IsFaithful (outcome_of web t.body) r
  pub exactly : r.queued ≡ [] → LooksUpReachable (outcome_of web t.body) r (seeds_of t) (rule_of t)
  pub within : r.queued ≡ [] → IsBeyond (outcome_of web t.body) r (seeds_of t) (rule_of t) t.limit → ⊥
  pub beyond : r.queued ≢ [] → length r.entries ≡ t.limit → IsBeyond (outcome_of web t.body) r (seeds_of t) (rule_of t) t.limit

-- the text of the settings is of the query of a task, and the record is of a run of it over the web that is meant
pub record RanOver (s : Settings) (IsMeant : ToldWeb → Type 0) (r : Record) : Type 0 where
  pub task : Task
  pub asked : IsTaskOf s task
  pub web : ToldWeb
  pub meant : IsMeant web
  pub of_web : IsOfWeb task web r

-- the web is that of the site
abbrev pub IsWebOfSite : List Entry → ToldWeb → Type 0
IsWebOfSite site web = web ≡ heard_at (web_of_site site)

-- the bytes are a site, and the web is that of the site
pub record IsWebOf (bytes : List ℕ) (web : ToldWeb) : Type 0 where
  pub site : List Entry
  pub text : HasSite bytes (Entries site)
  pub is : IsWebOfSite site web

-- the web is that of the site that is made of the number
pub record IsWebOfGenerated (n : ℕ) (web : ToldWeb) : Type 0 where
  pub site : List Entry
  pub made : IsGenerated n 0 site
  pub is : IsWebOfSite site web

-- no link of the record is unreachable
abbrev pub NoneUnreached : Record → Type 0
NoneUnreached r = (u : Text) → Unreached r.entries u → ⊥

-- ---- what was read

-- what is refused, where no input is read: the text of the query. Each status is named, so that a new one does not come without its cause
abbrev pub QueryRefusal : Settings → Status → Type 0
QueryRefusal s Usage = ⊥
QueryRefusal s (Query at why) = IsRefused s.query at why
QueryRefusal s (Site at) = ⊥
QueryRefusal s Input = ⊥
QueryRefusal s NotBuilt = ⊥
QueryRefusal s Ok = Unit {0}
QueryRefusal s Partial = Unit {0}
QueryRefusal s Limit = Unit {0}
QueryRefusal s Output = Unit {0}
QueryRefusal s Memory = Unit {0}
QueryRefusal s Report = Unit {0}

-- there is a record of a run over the web that is meant, or the query is refused
pub record WebRead (s : Settings) (IsMeant : ToldWeb → Type 0) (status : Status) (trace : Option Record) : Type 0 where
  pub run : IfSome trace (λ r. RanOver s IsMeant r × NoneUnreached r)
  pub refusal : QueryRefusal s status

-- what is refused, and where; `ended` is that the input was read to its End
abbrev pub Refusal : Settings → Status → List ℕ → Type 0 → Type 0
Refusal s Usage bytes ended = ⊥
Refusal s (Query at why) bytes ended = ended × ((site : List Entry) × HasSite bytes (Entries site)) × IsRefused s.query at why
Refusal s (Site at) bytes ended = HasSite bytes (FirstFault at) × (ended ⊎ (length bytes ≡ site_limit + 1))
Refusal s NotBuilt bytes ended = ⊥
Refusal s Ok bytes ended = Unit {0}
Refusal s Partial bytes ended = Unit {0}
Refusal s Limit bytes ended = Unit {0}
Refusal s Input bytes ended = Unit {0}
Refusal s Output bytes ended = Unit {0}
Refusal s Memory bytes ended = Unit {0}
Refusal s Report bytes ended = Unit {0}

-- these bytes were read: all where there is a record, which is of a run over their site
pub record InputRead (s : Settings) (status : Status) (trace : Option Record) (bytes : List ℕ) (ended : Type 0) : Type 0 where
  pub run : IfSome trace (λ r. ended × RanOver s (IsWebOf bytes) r × NoneUnreached r)
  pub refusal : Refusal s status bytes ended

-- what an input or an output shows of itself: the bytes left in it or those that it holds, where it says so, and how often it failed
pub record Shows (P : Type 0) : Type 0 where
  pub bytes : P → Option (List ℕ)
  pub faults : P → ℕ

-- the input was read to its End in this call
abbrev pub ReadToEnd : {I : Type 0} → Shows I → (I → ℕ) → I → I → Type 0
ReadToEnd i ends old new = Rose (ends old) (ends new) × IsAtEnd (i.bytes new)

-- by what the words ask for: words that ask for nothing, and those for the network, are answered so, or for want of memory, and nothing is read; the
-- site of the input is read from it; and a generated one leaves it unread
abbrev pub ReadsFor : {I : Type 0} → Shows I → (I → ℕ) → Asked → I → I → Status → Option Record → Type 0
ReadsFor i ends Nothing old new status trace = ((status ≡ Usage) ⊎ (status ≡ Memory)) × (trace ≡ None) × (new ≡ old)
ReadsFor i ends OverNetwork old new status trace = ((status ≡ NotBuilt) ⊎ (status ≡ Memory)) × (trace ≡ None) × (new ≡ old)
ReadsFor i ends (OverInput s) old new status trace = (bytes : List ℕ) × (i.bytes old ≡ prepend_known bytes (i.bytes new)) × InputRead s status trace bytes (ReadToEnd i ends old new)
ReadsFor i ends (OverGenerated n s) old new status trace = WebRead s (IsWebOfGenerated n) status trace × (new ≡ old)

pub record HasRead {I : Type 0} (i : Shows I) (ends : I → ℕ) (asked : Asked) (old new : I) (status : Status) (trace : Option Record) : Type 0 where
  pub reads : ReadsFor i ends asked old new status trace
  pub input_faults : CountsFaults (input_fails status) (i.faults old) (i.faults new)

-- the site of the input is known, and reading it doesn't fail, where the words ask for it
abbrev pub IsReadable : {I : Type 0} → Shows I → Asked → I → I → Type 0
IsReadable i (OverInput s) old new = ((bytes : List ℕ) × (site : List Entry) × (i.bytes old ≡ Some bytes) × HasSite bytes (Entries site)) × (Rose (i.faults old) (i.faults new) → ⊥)
IsReadable i asked old new = Unit {0}

-- the input is known to be no site, and reading it doesn't fail
abbrev pub IsUnreadable : {I : Type 0} → Shows I → Asked → I → I → Type 0
IsUnreadable i (OverInput s) old new = ((bytes : List ℕ) × (i.bytes old ≡ Some bytes) × ((site : List Entry) → HasSite bytes (Entries site) → ⊥)) × (Rose (i.faults old) (i.faults new) → ⊥)
IsUnreadable i asked old new = ⊥

-- ---- all of it

-- what stands behind a status: the record, what was written, and what was read, of which `Read` says all
pub record StatusEvidence {S : Type 0} (o : Shows S) (asks : Task → Type 0) (Read : Status → Option Record → Type 0) (trace : Option Record) (old new : S) (status : Status) : Type 0 where
  pub recorded : StatusMatchesRecord status trace
  pub traversed : (t : Task) → asks t → IfSome trace (Traversed t (class_of status))
  pub written : (t : Task) → asks t → IfSome trace (Written t (class_of status) (o.bytes old) (o.bytes new))
  pub untouched : trace ≡ None → new ≡ old
  pub output_faults : CountsFaults (output_fails status) (o.faults old) (o.faults new)
  pub read : Read status trace

-- memory ran out while the text of this status was written, of which a prefix stands
pub record ReceivedInstead (evidence : Status → Type 0) (trace : Option Record) (old new : Option (List ℕ)) : Type 0 where
  pub status : Status
  pub ran : class_of status ≢ NoMemory
  pub reported : class_of status ≢ Unreported
  pub shown : evidence status
  pub begun : ReceivedPrefix status trace old new

-- what the report received: the text of the status, or of the one in whose place it stands; `failed` is that the report failed
abbrev pub Reported : Class → (Status → Type 0) → Status → Option Record → Option (List ℕ) → Option (List ℕ) → Type 0 → Type 0
Reported Ended evidence status trace old new failed = Received status trace old new
Reported Halted evidence status trace old new failed = Received status trace old new ⊎ (failed × ReceivedPrefix status trace old new)
Reported Refused evidence status trace old new failed = Received status trace old new ⊎ (failed × ReceivedPrefix status trace old new)
Reported NoMemory evidence status trace old new failed = GrewByPrefix old new memory_line ⊎ ReceivedInstead evidence trace old new
Reported Unreported evidence status trace old new failed = IfSome trace (λ r. ReceivedPrefix (ended_status r) trace old new)

-- it came to its end and was reported, or memory ran out
abbrev pub RanToEnd : Status → Type 0
RanToEnd status = (class_of status ≡ Ended) ⊎ (class_of status ≡ NoMemory)

-- the input is refused, at some place
abbrev pub IsSiteFault : Status → Type 0
IsSiteFault status = (at : ℕ) × (status ≡ Site at)

-- all that the top calls promise of what the words ask for. Over an input that is known to be a site, or over a generated one, and without faults, the run of
-- a task comes to its end (`complete`); where its query is refused that is answered, at the place of its first fault (`refused`); and an input that is
-- known to be no site is answered so (`unreadable`)
pub record Promised {I S R : Type 0} (i : Shows I) (ends : I → ℕ) (o : Shows S) (p : Shows R) (asked : Asked) (status : Status) (trace : Option Record) (input_old input_new : I) (out_old out_new : S) (report_old report_new : R) : Type 0 where
  pub evidence : StatusEvidence o (Asks asked) (HasRead i ends asked input_old input_new) trace out_old out_new status
  pub report : Reported (class_of status) (StatusEvidence o (Asks asked) (HasRead i ends asked input_old input_new) trace out_old out_new) status trace (p.bytes report_old) (p.bytes report_new) (Rose (p.faults report_old) (p.faults report_new))
  pub report_faults : CountsFaults ((row (class_of status)).report_fails) (p.faults report_old) (p.faults report_new)
  pub complete : (t : Task) → Asks asked t → IsReadable i asked input_old input_new → (Rose (o.faults out_old) (o.faults out_new) → ⊥) → (Rose (p.faults report_old) (p.faults report_new) → ⊥) → RanToEnd status
  pub refused : (at : ℕ) (why : QueryWhy) → AsksRefused asked at why → IsReadable i asked input_old input_new → (status ≡ Query at why) ⊎ (class_of status ≡ NoMemory)
  pub unreadable : IsUnreadable i asked input_old input_new → IsSiteFault status ⊎ (class_of status ≡ NoMemory)
