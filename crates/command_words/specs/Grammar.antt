-- The words of each command, as `clap` reads them (docs/FORMATS.md, "Words").
use Rattle.std.specs.Prelude.{List, [], ◌∷◌, codes, true, Option, Some, None}
use Rattle.clap.specs.Words.{App, Row, Rule, Text, fault_of, matches_of, new_app, new_rule, with_rule}
use Rattle.clap.specs.Kinds.{Kinds}
use Rattle.clap.specs.declared.builder.ArgAction.{ArgAction}
use Rattle.clap.specs.declared.builder.ArgAction.TheVariants.{Append, Set}

-- `--name VALUE`, at most once
abbrev pub option : Text → Rule
option name = record (new_rule name) { long = Some name; action = Some Set }

-- a word that is wanted, by its place, or with `Append` one or more
abbrev pub place : Text → ArgAction → Rule
place name action = record (new_rule name) { action = Some action; required = true }

-- `[--criterion C] [--limit N]`
abbrev pub with_reach_options : App → App
with_reach_options app = with_rule (with_rule app (option (codes "criterion"))) (option (codes "limit"))

-- `[--criterion C] [--limit N] [--body N] [--workers N]`
abbrev pub with_run_options : App → App
with_run_options app = with_rule (with_rule (with_reach_options app) (option (codes "body"))) (option (codes "workers"))

-- `[--lanes N] [--tries N] [--via HOST:PORT]`
abbrev pub with_fetch_options : App → App
with_fetch_options app = with_rule (with_rule (with_rule app (option (codes "lanes"))) (option (codes "tries"))) (option (codes "via"))

-- `QUERY SEED...`
abbrev pub with_places : App → App
with_places app = with_rule (with_rule app (place (codes "query") Set)) (place (codes "seed") Append)

-- `site [--criterion C] [--limit N] [--body N] [--workers N] QUERY SEED...`
abbrev pub site : App
site = with_places (with_run_options (new_app (codes "site")))

-- `web`, with the words of `site` and `[--lanes N] [--tries N] [--via HOST:PORT]`
abbrev pub web : App
web = with_places (with_fetch_options (with_run_options (new_app (codes "web"))))

-- `self [--workers N] N`
abbrev pub generated : App
generated = with_rule (with_rule (new_app (codes "self")) (option (codes "workers"))) (place (codes "n") Set)

-- what was found, unless the words are refused
abbrev pub unless_refused : Kinds → List Row → Option (List Row)
unless_refused [] rows = Some rows
unless_refused (kind ∷ kinds) rows = None

-- what `clap` finds in the words, whose first is the command's own, and none where it refuses them, as it does where they ask for help
unfoldable pub rows_if : App → List Text → Option (List Row)
rows_if app words = unless_refused (fault_of app words) (matches_of app words)
