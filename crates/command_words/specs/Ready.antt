-- The commands that can be carried out.
use Rattle.std.specs.Prelude.{◌<◌, ◌≤◌}
use Rattle.link_uri.specs.Links.{AreLinks}
use Rattle.command_words.specs.declared.command.Command.{Command}
use Rattle.command_words.specs.declared.command.Command.TheVariants.{Site, Web, Generated}
use Rattle.command_words.specs.declared.command.Settings.{Settings}

-- the seeds are links, the limit is in its range, and there is a lane and a first try
pub record IsReadySettings (s : Settings) : Type 0 where
  pub links : AreLinks s.seeds
  pub least : 1 ≤ s.limit
  pub most : s.limit ≤ 100000
  pub lanes : 0 < s.fetch.lanes
  pub tries : 0 < s.fetch.tries

-- the settings are so, and a generated site has 1 to 2,000 documents
abbrev pub IsReady : Command → Type 0
IsReady (Site s) = IsReadySettings s
IsReady (Web s) = IsReadySettings s
IsReady (Generated n workers) = (1 ≤ n) × (n ≤ 2000)
