-- What a run is of, and what its look-ups may find.
use Rattle.std.specs.Prelude.{ℕ, ◌≡◌, List, [], ◌∷◌, Option, Some, None, IfSome, IsSome, true, false}
use Rattle.link_uri.specs.declared.link.Link.{Link}
use Rattle.link_uri.specs.declared.link.Scheme.TheVariants.{Https}
use Rattle.link_uri.specs.Links.{texts}
use Rattle.reach_criteria.specs.declared.criterion.Criterion.{Criterion}
use Rattle.reach_criteria.specs.declared.criterion.Criterion.TheVariants.{All}
use Rattle.reach_criteria.specs.Follow.{links_of}
use Rattle.algebra_core.specs.declared.algebra.Algebra.{Bgp}
use Rattle.reachability.specs.declared.outcome.Outcome.TheVariants.{Document, Moved, Refused}
use Rattle.reachability.specs.declared.outcome.Why.TheVariants as why
use Rattle.reachability.specs.declared.record.Cause.{Cause}
use Rattle.reachability.specs.declared.record.Found.{Found}
use Rattle.reachability.specs.declared.record.Found.TheVariants.{Outcome as Told, Unreachable}
use Rattle.reachability.specs.Web.{ToldWeb, Fetch, NeverHeard}
use Rattle.reachability.specs.Reach.{Rule, Text}
use Rattle.doc_reader.specs.Outcome as documents
use Rattle.algebra_core.specs.declared.query.Query.{Query}
use Rattle.traverse_core.specs.Query.{patterns_of}

-- what a run is of: its query, seeds, criterion and limits; what its fetchers share; and what its
-- output tells when it is opened
pub record Run : Type 0 where
  pub query : Query
  pub seeds : List Link
  pub criterion : Criterion
  pub limit : ℕ
  pub body : ℕ
  pub fetch : Fetch
  pub content : Option (List ℕ)
  pub faults : ℕ

-- some run, for the name of a run before one is picked
abbrev pub no_run : Run
no_run = record {
  query = record { names = []; width = 0; select = []; distinct = false; body = Bgp []; order = [] };
  seeds = [];
  criterion = All;
  limit = 0;
  body = 0;
  fetch = record { web = None; tries = 0; sure = false };
  content = None;
  faults = 0;
}

-- which links of documents the run follows
abbrev pub rule_of : Run → Rule
rule_of run = record { criterion = run.criterion; patterns = patterns_of run.query }

-- the texts of the seeds
abbrev pub seeds_of : Run → List Text
seeds_of run = texts run.seeds

-- the link in what was found, where it has one, is the link of its own text
abbrev pub HasLinks : Found → Type 0
HasLinks (Told outcome) = documents.HasLinks outcome
HasLinks (Unreachable cause tries) = Unit {0}

-- what is sure tells its web
abbrev pub TellsIfSure : Fetch → Type 0
TellsIfSure fetch = fetch.sure ≡ true → IsSome fetch.web

-- what was found is what a look-up in the web comes to, or the link couldn't be reached
abbrev pub AgreesAt : ToldWeb → ℕ → Link → Found → Type 0
AgreesAt web body link (Told outcome) = documents.outcome_of web body link ≡ Some outcome
AgreesAt web body link (Unreachable cause tries) = Unit {0}

-- what a look-up of the link may find: where a web is told, what it answers; an https link is
-- refused; an unreachable link took the run's tries, and in a sure run the told web never answers for it
pub record MayFind (run : Run) (link : Link) (found : Found) : Type 0 where
  pub agrees : IfSome run.fetch.web (λ web. AgreesAt web run.body link found)
  pub https : link.scheme ≡ Https → found ≡ Told (Refused why.Scheme)
  pub tried : (cause : Cause) (tries : ℕ) → found ≡ Unreachable cause tries → tries ≡ run.fetch.tries
  pub sure : (cause : Cause) (tries : ℕ) → run.fetch.sure ≡ true → found ≡ Unreachable cause tries → NeverHeard run.fetch.web link.text

-- the links that what was found leads to, each once, in order of first appearance
abbrev pub targets : Rule → Found → List Link
targets rule (Told (Document triples)) = links_of rule.criterion rule.patterns triples
targets rule (Told (Moved link)) = link ∷ []
targets rule (Told (Refused why)) = []
targets rule (Unreachable cause tries) = []
