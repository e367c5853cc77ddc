-- What the words ask for, and the task of a run.
use Rattle.std.specs.Prelude.{ℕ, ◌≡◌, ◌==◌, List, [], ◌∷◌, Option, Some, None, Ok, codes, if◌then◌else◌}
use Rattle.link_uri.specs.declared.link.Link.{Link}
use Rattle.link_uri.specs.declared.link.Scheme.TheVariants as scheme
use Rattle.link_uri.specs.Links.{texts}
use Rattle.reach_criteria.specs.declared.criterion.Criterion.TheVariants as criterion
use Rattle.reachability.specs.Reach.{Text, Rule}
use Rattle.traverse_core.specs.Query.{patterns_of}
use Rattle.algebra_core.specs.declared.query.Query.{Query}
use Rattle.command_words.specs.declared.command.Command.{Command}
use Rattle.command_words.specs.declared.command.Command.TheVariants.{Site, Web, Generated}
use Rattle.command_words.specs.declared.command.Settings.{Settings}
use Rattle.answer_core.specs.declared.task.Task.{Task}
use Rattle.answer_core.specs.Queries.{HasQuery, IsRefused}
use Rattle.answer_core.specs.declared.status.QueryWhy.{QueryWhy}

-- ---- what the words ask for

-- nothing that is answered; a run over the network; a run over the site of the input; a run over the site that is made of a number
pub data Asked : Type 0 where
  Nothing : Asked
  OverNetwork : Asked
  OverInput : Settings → Asked
  OverGenerated : ℕ → Settings → Asked

-- the query of a run over a generated site
abbrev pub generated_query : List ℕ
generated_query = codes "PREFIX v: <http://self.test/v#> SELECT DISTINCT ?m WHERE { ?a v:next ?b . ?b v:next ?c . ?c v:mark ?m . FILTER (?m < 10) } ORDER BY ?m"

-- the link that it begins with, of `http://self.test/d0#it`
abbrev pub generated_link : Link
generated_link = record { text = codes "http://self.test/d0"; scheme = scheme.Http; host = codes "self.test"; port = 80; target = codes "/d0" }

-- its settings: links of matching triples are followed, up to the most links that may be looked up, with the defaults of a look-up
abbrev pub generated_settings : ℕ → Settings
generated_settings workers = record {
  query = generated_query;
  seeds = generated_link ∷ [];
  criterion = criterion.Match;
  limit = 100000;
  workers = workers;
  fetch = record { lanes = 8; tries = 3; body = 1048576; via = None };
}

-- of all commands
abbrev pub asked_of : Option Command → Asked
asked_of (Some (Site s)) = OverInput s
asked_of (Some (Web s)) = OverNetwork
asked_of (Some (Generated n workers)) = OverGenerated n (generated_settings workers)
asked_of None = Nothing

abbrev pub without_workers : ℕ → Settings → Asked
without_workers workers s = if workers == 0 then OverInput s else Nothing

-- of a site without workers alone
abbrev pub asked_alone : Option Command → Asked
asked_alone (Some (Site s)) = without_workers s.workers s
asked_alone (Some (Web s)) = Nothing
asked_alone (Some (Generated n workers)) = Nothing
asked_alone None = Nothing

-- ---- the task of a run

-- with a query in the place of its text
abbrev pub task_with : Settings → Query → Task
task_with s query = record { query = query; seeds = s.seeds; criterion = s.criterion; limit = s.limit; body = s.fetch.body; tries = s.fetch.tries }

-- the task has the query that the text is of, and the rest as the settings have it; there is at most one
pub record IsTaskOf (s : Settings) (t : Task) : Type 0 where
  pub query : HasQuery s.query (Ok t.query)
  pub is : t ≡ task_with s t.query

-- the words ask for a run of the task
abbrev pub Asks : Asked → Task → Type 0
Asks Nothing t = ⊥
Asks OverNetwork t = ⊥
Asks (OverInput s) t = IsTaskOf s t
Asks (OverGenerated n s) t = IsTaskOf s t

-- the text of the query that they ask for is refused, there and for that reason
abbrev pub AsksRefused : Asked → ℕ → QueryWhy → Type 0
AsksRefused Nothing at why = ⊥
AsksRefused OverNetwork at why = ⊥
AsksRefused (OverInput s) at why = IsRefused s.query at why
AsksRefused (OverGenerated n s) at why = IsRefused s.query at why

-- the links that its run begins with
abbrev pub seeds_of : Task → List Text
seeds_of t = texts t.seeds

-- which links of documents it follows
abbrev pub rule_of : Task → Rule
rule_of t = record { criterion = t.criterion; patterns = patterns_of t.query }
