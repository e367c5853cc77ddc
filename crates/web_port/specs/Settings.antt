-- Which settings a fetcher may be made with.
use Rattle.std.specs.Prelude.{◌<◌}
use Rattle.web_port.specs.declared.settings.FetchSettings.{FetchSettings}

-- there is a lane, and a first try
pub record AreSettings (settings : FetchSettings) : Type 0 where
  pub lanes : 0 < settings.lanes
  pub tries : 0 < settings.tries
