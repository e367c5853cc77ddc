-- What the bytes of an input say (docs/FORMATS.md, "Site file").
use Rattle.std.specs.Prelude.{ℕ, List}
use Rattle.site_core.specs.Text.{Entry, SiteText}
use Rattle.site_core.specs.Places.{SiteBad}

-- the entries of a site, or the place of the first fault of what is none
pub data SiteAnswer : Type 0 where
  Entries : (site : List Entry) → SiteAnswer
  FirstFault : (at : ℕ) → SiteAnswer

-- what the bytes are: those of the site, or those with their first fault at this place
abbrev pub HasSite : List ℕ → SiteAnswer → Type 0
HasSite bytes (Entries site) = SiteText site bytes
HasSite bytes (FirstFault at) = SiteBad bytes at
