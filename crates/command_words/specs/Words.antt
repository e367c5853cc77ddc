-- The command that the words of a command line stand for (docs/FORMATS.md, "Words").
use Rattle.std.specs.Prelude.{ℕ, List, [], ◌∷◌, codes, bytes_eq, Option, Some, None, option_map, option_and_then, if◌then◌else◌}
use Rattle.clap.specs.Words.{Row, Text, first_of}
use Rattle.link_uri.specs.declared.link.Link.{Link}
use Rattle.reach_criteria.specs.declared.criterion.Criterion.{Criterion}
use Rattle.web_port.specs.declared.settings.FetchSettings.{FetchSettings}
use Rattle.command_words.specs.Grammar as grammar
use Rattle.command_words.specs.Grammar.{rows_if}
use Rattle.command_words.specs.Values.{count_of, criterion_of, fetch_of, limit_of, seeds_of, workers_of}
use Rattle.command_words.specs.declared.command.Command.{Command}
use Rattle.command_words.specs.declared.command.Command.TheVariants.{Site, Web, Generated}
use Rattle.command_words.specs.declared.command.Settings.{Settings}

abbrev pub settings_with : Option Criterion → Option ℕ → Option ℕ → Option Text → Option FetchSettings → Option (List Link) → Option Settings
settings_with (Some criterion) (Some limit) (Some workers) (Some query) (Some fetch) (Some seeds) =
    Some (record { query = query; seeds = seeds; criterion = criterion; limit = limit; workers = workers; fetch = fetch })
settings_with _ _ _ _ _ _ = None

-- what `site` and `web` are asked for, where each value has its form and is in its range
abbrev pub settings_of : List Row → Option Settings
settings_of rows = settings_with (criterion_of rows) (limit_of rows) (workers_of rows) (first_of (codes "query") rows) (fetch_of rows) (seeds_of rows)

abbrev pub generated_with : Option ℕ → Option ℕ → Option Command
generated_with (Some workers) (Some n) = Some (Generated n workers)
generated_with _ _ = None

-- what `self` is asked for
abbrev pub generated_of : List Row → Option Command
generated_of rows = generated_with (workers_of rows) (count_of rows)

-- what the words stand for, the first of which is this one
abbrev pub command_named : Text → List Text → Option Command
command_named name words =
    if bytes_eq name (codes "site") then option_map Site (option_and_then settings_of (rows_if grammar.site words))
    else if bytes_eq name (codes "web") then option_map Web (option_and_then settings_of (rows_if grammar.web words))
    else if bytes_eq name (codes "self") then option_and_then generated_of (rows_if grammar.generated words)
    else None

-- the command that the words stand for, if they stand for one
unfoldable pub command_of : List (List ℕ) → Option Command
command_of [] = None
command_of (name ∷ rest) = command_named name (name ∷ rest)
