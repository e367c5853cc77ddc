-- The parts of a reference, after RFC 3986, appendix B. The marks between them are ASCII, so that
-- bytes tell the parts of an IRI reference (RFC 3987, section 2.2) as well.
use Rattle.std.specs.Prelude.{ℕ, ◌+◌, ◌≤◌, ◌==◌, ◌&&◌, List, Bool, Option, None, Some, is_some, nat_lt, if◌then◌else◌, length, drop, slice_index, codes}
use Rattle.std.specs.Option.{ForSome}
use Rattle.std.specs.List.{list_any, position_or_len}
use Rattle.std.specs.Str.{IsCharBoundary}
use Rattle.iri_core.specs.declared.parts.Span.{Span}
use Rattle.iri_core.specs.declared.parts.Parts.{Parts}

abbrev pub colon : ℕ
colon = 58

abbrev pub slash : ℕ
slash = 47

abbrev pub question_mark : ℕ
question_mark = 63

abbrev pub number_sign : ℕ
number_sign = 35

-- the byte is one of these
abbrev pub is_among : List ℕ → ℕ → Bool
is_among marks b = list_any (λ m. m == b) marks

-- the place of the first of the marks at or behind `from`, or the text's end
unfoldable pub first_of : List ℕ → List ℕ → ℕ → ℕ
first_of marks text from = from + position_or_len (is_among marks) (drop from text)

-- this byte stands at this place
abbrev pub is_at : List ℕ → ℕ → ℕ → Bool
is_at text at b = nat_lt at (length text) && (slice_index text at == b)

abbrev pub span : ℕ → ℕ → Span
span from to = record { from = from; to = to }

-- the scheme goes up to a colon that isn't the first character and comes before any of / ? #
abbrev pub scheme_by : List ℕ → ℕ → Option Span
scheme_by text end = if nat_lt 0 end && is_at text end colon then Some (span 0 end) else None

unfoldable pub scheme_of : List ℕ → Option Span
scheme_of text = scheme_by text (first_of (codes ":/?#") text 0)

-- where what follows the scheme begins: behind the colon
abbrev pub behind_scheme : Option Span → ℕ
behind_scheme None = 0
behind_scheme (Some s) = s.to + 1

-- the authority stands behind two slashes and goes up to any of / ? #
unfoldable pub authority_at : List ℕ → ℕ → Option Span
authority_at text at =
    if is_at text at slash && is_at text (at + 1) slash then Some (span (at + 2) (first_of (codes "/?#") text (at + 2))) else None

-- where a part ends that would begin here
abbrev pub end_of : Option Span → ℕ → ℕ
end_of None at = at
end_of (Some s) at = s.to

-- the path goes up to any of ? #
unfoldable pub path_at : List ℕ → ℕ → Span
path_at text at = span at (first_of (codes "?#") text at)

-- the query stands behind a question mark and goes up to #
unfoldable pub query_at : List ℕ → ℕ → Option Span
query_at text at = if is_at text at question_mark then Some (span (at + 1) (first_of (codes "#") text (at + 1))) else None

-- the fragment stands behind # and goes up to the end
unfoldable pub fragment_at : List ℕ → ℕ → Option Span
fragment_at text at = if is_at text at number_sign then Some (span (at + 1) (length text)) else None

-- the parts, given those in front
abbrev pub parts_with_query : List ℕ → Option Span → Option Span → Span → Option Span → Parts
parts_with_query text scheme authority path query =
    record { scheme = scheme; authority = authority; path = path; query = query; fragment = fragment_at text (end_of query path.to) }

abbrev pub parts_with_path : List ℕ → Option Span → Option Span → Span → Parts
parts_with_path text scheme authority path = parts_with_query text scheme authority path (query_at text path.to)

abbrev pub parts_with_authority : List ℕ → Option Span → Option Span → Parts
parts_with_authority text scheme authority = parts_with_path text scheme authority (path_at text (end_of authority (behind_scheme scheme)))

abbrev pub parts_with_scheme : List ℕ → Option Span → Parts
parts_with_scheme text scheme = parts_with_authority text scheme (authority_at text (behind_scheme scheme))

-- the parts of a reference
abbrev pub parts_of : List ℕ → Parts
parts_of text = parts_with_scheme text (scheme_of text)

-- the reference has a scheme
abbrev pub has_scheme : List ℕ → Bool
has_scheme text = is_some (scheme_of text)

-- the span is a part of the text that may be cut out
pub record IsCut (text : List ℕ) (s : Span) : Type 0 where
  pub ordered : s.from ≤ s.to
  pub begins : IsCharBoundary text s.from
  pub ends : IsCharBoundary text s.to

-- each part may be cut out
pub record AllCut (text : List ℕ) (p : Parts) : Type 0 where
  pub scheme : ForSome p.scheme (IsCut text)
  pub authority : ForSome p.authority (IsCut text)
  pub path : IsCut text p.path
  pub query : ForSome p.query (IsCut text)
  pub fragment : ForSome p.fragment (IsCut text)
