-- A site as a web: its replies at its links, and a 404 everywhere else (RFC 9110, section 15.5.5).
use Rattle.std.specs.Prelude.{ℕ, List, [], ◌∷◌, None, map, true, Some}
use Rattle.link_uri.specs.declared.heard.Heard.{Heard}
use Rattle.link_uri.specs.declared.heard.Heard.TheVariants.{Reply}
use Rattle.link_uri.specs.declared.heard.Reply.{Reply as AReply}
use Rattle.reachability.specs.declared.web.Web.{Web}
use Rattle.reachability.specs.Web.{Fetch, heard_at}
use Rattle.site_core.specs.Text.{Entry}
use Rattle.web_port.specs.declared.flight.Flight.{Flight}
use Rattle.web_port.specs.declared.losses.Losses.{Losses}
use Rattle.web_port.specs.declared.fetcher.Got.TheVariants.{Heard as Told}
use Rattle.web_port.specs.declared.fetcher.Polled.{Polled}
use Rattle.web_port.specs.declared.fetcher.Polled.TheVariants.{Settled, Idle}
use Rattle.web_port.specs.Lanes.{Flying, answered}

-- a 404 without fields and body
abbrev pub not_found : AReply
not_found = record { status = 404; media = None; coding = None; location = None; body = [] }

abbrev pub told_entry : Entry → List ℕ × Heard
told_entry entry = (entry.0, Reply entry.1)

-- the web that a site is
abbrev pub web_of_site : List Entry → Web
web_of_site site = record { entries = map told_entry site; otherwise = Reply not_found }

-- ---- what fetches it

-- the site, what came back with its fetchers
pub record SiteLinking : Type 0 where
  pub site : List Entry
  pub spent : ℕ
  pub lost : Losses

-- the site, the number of lanes and of tries, and what is open
pub record SiteFetching : Type 0 where
  pub site : List Entry
  pub lanes : ℕ
  pub tries : ℕ
  pub flying : Flying

-- all that such fetchers share: they are sure
abbrev pub site_fetch : List Entry → ℕ → Fetch
site_fetch site tries = record { web = Some (heard_at (web_of_site site)); tries = tries; sure = true }

-- a poll answers the link that was started first
abbrev pub site_polled : Web → List Flight → Polled
site_polled web [] = Idle
site_polled web (x ∷ xs) = Settled x.number (Told (heard_at web x.link))

abbrev pub after_site_poll : Flying → List Flight → Flying
after_site_poll o [] = o
after_site_poll o (x ∷ xs) = answered o 0
