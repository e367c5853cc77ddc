-- Which lines of a site file may stand where (docs/FORMATS.md, "Site file").
use Rattle.std.specs.Prelude.{ℕ, List, [], ◌∷◌, codes, bytes_eq, ◌&&◌, Option, Some, None, option_map, option_and_then, if◌then◌else◌}
use Rattle.std.specs.Option.{option_or, is_none}
use Rattle.link_uri.specs.declared.heard.Reply.{Reply}
use Rattle.site_core.specs.Fields.{behind, is_site_link, is_status, is_value, number_of}
use Rattle.site_core.specs.Text.{Entry, comes_after}
use Rattle.site_core.specs.declared.expected.Field.{Field}
use Rattle.site_core.specs.declared.expected.Field.TheVariants.{Media, Coding, Location, Size}
use Rattle.site_core.specs.declared.expected.Expected.{Expected}
use Rattle.site_core.specs.declared.expected.Expected.TheVariants.{First, Between, Named, Headed}
use Rattle.site_core.specs.declared.expected.Step.{Step}
use Rattle.site_core.specs.declared.expected.Step.TheVariants.{Misfit, Next, Finished, Body}

-- the link of the last of the entries, or the one before them
abbrev pub last_link : Option (List ℕ) → List Entry → Option (List ℕ)
last_link before [] = before
last_link before (e ∷ es) = last_link (Some e.0) es

-- a reply of which the status line has been read
abbrev pub bare : ℕ → Reply
bare n = record { status = n; media = None; coding = None; location = None; body = [] }

-- the value behind a word
abbrev pub value_behind : List ℕ → List ℕ → Option (List ℕ)
value_behind word line = option_and_then (λ value. if is_value value then Some value else None) (behind word line)

-- the field that a line behind the status line is
abbrev pub field_of : List ℕ → Option Field
field_of line = option_or (option_map Media (value_behind (codes "type ") line)) (option_or (option_map Coding (value_behind (codes "coding ") line)) (option_or (option_map Location (value_behind (codes "location ") line)) (option_map Size (option_and_then number_of (behind (codes "body ") line)))))

-- a field stands once, type before coding before location before the body
abbrev pub with_field : List ℕ → Reply → Option Field → Step
with_field link reply None = Misfit
with_field link reply (Some (Media value)) = if is_none reply.media && (is_none reply.coding && is_none reply.location) then Next (Headed link (record reply { media = Some value })) else Misfit
with_field link reply (Some (Coding value)) = if is_none reply.coding && is_none reply.location then Next (Headed link (record reply { coding = Some value })) else Misfit
with_field link reply (Some (Location value)) = if is_none reply.location then Next (Headed link (record reply { location = Some value })) else Misfit
with_field link reply (Some (Size n)) = Body link reply n

abbrev pub with_link : List Entry → Option (List ℕ) → Step
with_link done None = Misfit
with_link done (Some text) = if comes_after (last_link None done) text && is_site_link text then Next (Named text) else Misfit

abbrev pub with_status : List ℕ → Option ℕ → Step
with_status link None = Misfit
with_status link (Some n) = if is_status n then Next (Headed link (bare n)) else Misfit

-- what a line without its end does at a spot, behind these entries; a misfit isn't allowed there
abbrev pub step : List Entry → Expected → List ℕ → Step
step done First line = if bytes_eq line (codes "site 1") then Next Between else Misfit
step done Between line = if bytes_eq line (codes "end") then Finished else with_link done (behind (codes "link ") line)
step done (Named link) line = with_status link (option_and_then number_of (behind (codes "status ") line))
step done (Headed link reply) line = with_field link reply (field_of line)
