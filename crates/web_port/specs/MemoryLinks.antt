-- The contents of what makes fetchers over a web in memory.
use Rattle.std.specs.Prelude.{ℕ}
use Rattle.reachability.specs.declared.web.Web.{Web}
use Rattle.web_port.specs.declared.losses.Losses.{Losses}
use Rattle.web_port.specs.MemoryWeb.{Fails}

-- the web, the links that fail to connect, the call that fails, how many calls were made, the
-- faults, and what came back
pub record Linking : Type 0 where
  pub web : Web
  pub fails : Fails
  pub refuse : ℕ
  pub calls : ℕ
  pub faults : ℕ
  pub spent : ℕ
  pub lost : Losses
