-- What a site is, and the one text of a site (docs/FORMATS.md, "Site file").
use Rattle.std.specs.Prelude.{◌≡◌, ◌≤◌, ℕ, List, [], ◌∷◌, ◌++◌, length, decimal, codes, Bool, true, ◌&&◌, Option, Some, None}
use Rattle.std.specs.List.{flat_map}
use Rattle.std.specs.Cmp.Lexicographic.{slice_cmp}
use Rattle.std.specs.Ordering.{nat_cmp, is_lt}
use Rattle.link_uri.specs.declared.heard.Reply.{Reply}
use Rattle.site_core.specs.Fields.{is_site_link, is_status, is_value}

-- a link text with what is answered for it
abbrev pub Entry : Type 0
Entry = List ℕ × Reply

-- ---- which lists are sites

-- no value, or a value that may stand in a line
abbrev pub may_be_value : Option (List ℕ) → Bool
may_be_value None = true
may_be_value (Some value) = is_value value

abbrev pub is_reply : Reply → Bool
is_reply reply = is_status reply.status && (may_be_value reply.media && (may_be_value reply.coding && may_be_value reply.location))

-- the link comes after the one before it, if there is one, by the bytes of their texts
abbrev pub comes_after : Option (List ℕ) → List ℕ → Bool
comes_after None link = true
comes_after (Some before) link = is_lt (slice_cmp nat_cmp before link)

-- each link is a site link that comes after the one before, and each reply may stand in a site
abbrev pub is_site_from : Option (List ℕ) → List Entry → Bool
is_site_from before [] = true
is_site_from before (e ∷ es) = (comes_after before e.0 && (is_site_link e.0 && is_reply e.1)) && is_site_from (Some e.0) es

-- ---- the text

-- a line with its end
abbrev pub ended : List ℕ → List ℕ
ended line = line ++ 10 ∷ []

-- the line of a value, where there is one
abbrev pub value_line : List ℕ → Option (List ℕ) → List ℕ
value_line word None = []
value_line word (Some value) = ended (word ++ value)

-- the lines from the status on to before the body's
abbrev pub head_text : Reply → List ℕ
head_text reply = ended (codes "status " ++ decimal reply.status) ++ (value_line (codes "type ") reply.media ++ (value_line (codes "coding ") reply.coding ++ value_line (codes "location ") reply.location))

abbrev pub body_text : List ℕ → List ℕ
body_text body = ended (codes "body " ++ decimal (length body)) ++ ended body

abbrev pub block_text : Entry → List ℕ
block_text e = ended (codes "link " ++ e.0) ++ (head_text e.1 ++ body_text e.1.body)

abbrev pub site_text : List Entry → List ℕ
site_text entries = ended (codes "site 1") ++ (flat_map block_text entries ++ ended (codes "end"))

-- the most bytes that a site file has
abbrev pub site_limit : ℕ
site_limit = 67108864

-- the entries are a site, and the bytes its text
pub record SiteText (entries : List Entry) (bytes : List ℕ) : Type 0 where
  pub site : is_site_from None entries ≡ true
  pub text : bytes ≡ site_text entries
  pub within : length bytes ≤ site_limit
