-- Resolving a reference against a base, after RFC 3986, sections 5.2.2, 5.2.3 and 5.3. A reference
-- with a scheme is kept as written, and a scheme that the base lacks is left out.
use Rattle.std.specs.Prelude.{ℕ, ◌==◌, ◌-◌, ◌&&◌, List, [], ◌∷◌, ◌++◌, Bool, not, Option, None, Some, is_some, is_none, if◌then◌else◌, length, take, slice_range, codes}
use Rattle.std.specs.Option.{option_map, option_or}
use Rattle.std.specs.List.{suffix_len}
use Rattle.iri_core.specs.declared.parts.Span.{Span}
use Rattle.iri_core.specs.declared.parts.Parts.{Parts}
use Rattle.iri_core.specs.Reference.{parts_of, has_scheme, is_at, slash}
use Rattle.iri_core.specs.Dots.{without_dots}

-- the parts of a reference as texts
pub record Components : Type 0 where
  pub scheme : Option (List ℕ)
  pub authority : Option (List ℕ)
  pub path : List ℕ
  pub query : Option (List ℕ)
  pub fragment : Option (List ℕ)

abbrev pub piece_of : List ℕ → Span → List ℕ
piece_of text s = slice_range text s.from s.to

abbrev pub pieces_of : List ℕ → Parts → Components
pieces_of text p =
    record {
      scheme = option_map (piece_of text) p.scheme;
      authority = option_map (piece_of text) p.authority;
      path = piece_of text p.path;
      query = option_map (piece_of text) p.query;
      fragment = option_map (piece_of text) p.fragment;
    }

unfoldable pub components : List ℕ → Components
components text = pieces_of text (parts_of text)

abbrev pub is_empty : List ℕ → Bool
is_empty xs = length xs == 0

-- a path up to its last slash, with it
unfoldable pub up_to_last_slash : List ℕ → List ℕ
up_to_last_slash path = take (length path - suffix_len (λ b. not (b == slash)) path) path

-- what stands in front of a path that is merged with the base's (section 5.2.3)
abbrev pub directory : Components → List ℕ
directory base = if is_some base.authority && is_empty base.path then slash ∷ [] else up_to_last_slash base.path

-- the path of the target (section 5.2.2)
abbrev pub target_path : Components → Components → List ℕ
target_path base r =
    if is_some r.authority then without_dots r.path
    else if is_empty r.path then base.path
    else if is_at r.path 0 slash then without_dots r.path
    else without_dots (directory base ++ r.path)

-- the base's query stays under a reference that has no authority, path or query
abbrev pub target_query : Components → Components → Option (List ℕ)
target_query base r = if is_none r.authority && is_empty r.path && is_none r.query then base.query else r.query

-- the parts of the text that a reference without a scheme stands for (section 5.2.2)
abbrev pub target : Components → Components → Components
target base r =
    record { scheme = base.scheme; authority = option_or r.authority base.authority; path = target_path base r; query = target_query base r; fragment = r.fragment }

-- a part behind its mark, where it is there
abbrev pub behind : List ℕ → Option (List ℕ) → List ℕ
behind mark None = []
behind mark (Some part) = mark ++ part

-- a scheme with its colon, where it is there
abbrev pub scheme_text : Option (List ℕ) → List ℕ
scheme_text None = []
scheme_text (Some scheme) = scheme ++ codes ":"

-- the text of the parts (section 5.3)
abbrev pub recomposed : Components → List ℕ
recomposed c = scheme_text c.scheme ++ behind (codes "//") c.authority ++ c.path ++ behind (codes "?") c.query ++ behind (codes "#") c.fragment

-- the text that a reference stands for under a base
abbrev pub resolved : List ℕ → List ℕ → List ℕ
resolved base text = if has_scheme text then text else recomposed (target (components base) (components text))
