-- The values of the words: their forms, ranges and defaults (docs/FORMATS.md, "Words").
use Rattle.std.specs.Prelude.{ℕ, ◌*◌, ◌==◌, List, [], ◌∷◌, length, codes, Bool, not, ◌&&◌, ◌||◌, nat_le, bytes_eq, Option, Some, None, option_map, option_and_then, if◌then◌else◌}
use Rattle.std.specs.List.{list_all, before_first, after_first}
use Rattle.std.specs.Option.{option_map_or}
use Rattle.std.specs.Str.Parse.{digits_value}
use Rattle.clap.specs.Words.{Row, Text, all_of, first_of}
use Rattle.link_uri.specs.declared.link.Link.{Link}
use Rattle.link_uri.specs.Links.{link_of}
use Rattle.reach_criteria.specs.declared.criterion.Criterion.{Criterion}
use Rattle.reach_criteria.specs.declared.criterion.Criterion.TheVariants as criterion
use Rattle.site_core.specs.Fields.{is_digit}
use Rattle.web_port.specs.declared.settings.FetchSettings.{FetchSettings}
use Rattle.web_port.specs.declared.settings.Via.{Via}

-- ---- numbers

-- one or more digits; leading zeros are allowed
abbrev pub is_number : Text → Bool
is_number text = not (length text == 0) && list_all is_digit text

abbrev pub in_range : ℕ → ℕ → ℕ → Option ℕ
in_range least most n = if nat_le least n && nat_le n most then Some n else None

-- the number that a word writes, where it writes one of the range
abbrev pub number_in : ℕ → ℕ → Text → Option ℕ
number_in least most text = if is_number text then in_range least most (digits_value 10 text) else None

-- the number of an option, or its default where the words don't name it
abbrev pub number_or : Text → ℕ → ℕ → ℕ → List Row → Option ℕ
number_or id default least most rows = option_map_or (number_in least most) (first_of id rows) (Some default)

-- `--limit`: the most links to look up
abbrev pub limit_of : List Row → Option ℕ
limit_of = number_or (codes "limit") 500 1 100000

-- `--body`: the most bytes of a body, named in MiB
abbrev pub body_of : List Row → Option ℕ
body_of rows = option_map (λ n. n * 1048576) (number_or (codes "body") 1 1 16 rows)

-- `--workers`
abbrev pub workers_of : List Row → Option ℕ
workers_of = number_or (codes "workers") 4 0 16

-- `--lanes`: the look-ups of a worker at a time
abbrev pub lanes_of : List Row → Option ℕ
lanes_of = number_or (codes "lanes") 8 1 32

-- `--tries`: how often a look-up is tried
abbrev pub tries_of : List Row → Option ℕ
tries_of = number_or (codes "tries") 3 1 10

-- the documents of a generated site
abbrev pub count_of : List Row → Option ℕ
count_of rows = option_and_then (number_in 1 2000) (first_of (codes "n") rows)

-- ---- the criterion

abbrev pub criterion_named : Text → Option Criterion
criterion_named name = if bytes_eq name (codes "all") then Some criterion.All else if bytes_eq name (codes "none") then Some criterion.None else if bytes_eq name (codes "match") then Some criterion.Match else None

-- `--criterion`: which links are followed
abbrev pub criterion_of : List Row → Option Criterion
criterion_of rows = option_map_or criterion_named (first_of (codes "criterion") rows) (Some criterion.Match)

-- ---- the host to connect to

-- an ASCII letter or digit, `.` or `-`
abbrev pub is_host_byte : ℕ → Bool
is_host_byte byte = nat_le 48 byte && nat_le byte 57 || (nat_le 65 byte && nat_le byte 90 || (nat_le 97 byte && nat_le byte 122 || ((byte == 46) || (byte == 45))))

abbrev pub is_host : Text → Bool
is_host text = not (length text == 0) && list_all is_host_byte text

abbrev pub is_colon : ℕ → Bool
is_colon byte = byte == 58

abbrev pub via_with : Text → Text → Option Via
via_with host port = if is_host host then option_map (λ number. record { host = host; port = number }) (number_in 1 65535 port) else None

-- `HOST:PORT`: a host, the first colon, and the number of a port. Where there is no colon, there is no number behind it
abbrev pub via_named : Text → Option Via
via_named text = via_with (before_first is_colon text) (after_first is_colon text)

-- a host where there is a text, which must be of that form
abbrev pub via_of : Option Text → Option (Option Via)
via_of (Some text) = option_map Some (via_named text)
via_of None = Some None

abbrev pub fetch_with : Option ℕ → Option ℕ → Option ℕ → Option (Option Via) → Option FetchSettings
fetch_with (Some lanes) (Some tries) (Some body) (Some via) = Some (record { lanes = lanes; tries = tries; body = body; via = via })
fetch_with _ _ _ _ = None

-- how links are looked up
abbrev pub fetch_of : List Row → Option FetchSettings
fetch_of rows = fetch_with (lanes_of rows) (tries_of rows) (body_of rows) (via_of (first_of (codes "via") rows))

-- ---- the seeds

abbrev pub with_link : Option Link → Option (List Link) → Option (List Link)
with_link (Some link) (Some more) = Some (link ∷ more)
with_link (Some link) None = None
with_link None more = None

-- the links of the texts, in order, where each has one
abbrev pub links_of : List Text → Option (List Link)
links_of [] = Some []
links_of (text ∷ texts) = with_link (link_of text) (links_of texts)

-- one to a thousand seeds
abbrev pub are_counted : List Text → Bool
are_counted texts = nat_le 1 (length texts) && nat_le (length texts) 1000

abbrev pub counted_links : List Text → Option (List Link)
counted_links texts = if are_counted texts then links_of texts else None

-- the links of the seeds, in order, where they are not too many and each has one
abbrev pub seeds_of : List Row → Option (List Link)
seeds_of rows = option_and_then counted_links (all_of (codes "seed") rows)
