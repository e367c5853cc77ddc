-- What the fields of a reply say of its body: the media type, and whether a coding was applied
-- (RFC 9110, sections 8.3 and 8.4; white space round a part of a field by section 5.6.3).
use Rattle.std.specs.Prelude.{ℕ, ◌-◌, List, map, take, drop, length, codes, bytes_eq, Bool, true, false, ◌||◌, ◌==◌, Option, Some, None}
use Rattle.std.specs.Char.{to_ascii_lowercase}
use Rattle.std.specs.List.{prefix_len, suffix_len, before_first}
use Rattle.link_uri.specs.declared.heard.Reply.{Reply}

-- `b';'`, which parts a media type from its parameters
abbrev pub semicolon : ℕ
semicolon = 59

-- space or tab
abbrev pub is_blank : ℕ → Bool
is_blank b = b == 32 || b == 9

-- the bytes without the blanks at their front
abbrev pub trim_front : List ℕ → List ℕ
trim_front bytes = drop (prefix_len is_blank bytes) bytes

-- the bytes without the blanks at their end
abbrev pub trim_back : List ℕ → List ℕ
trim_back bytes = take (length bytes - suffix_len is_blank bytes) bytes

-- the media type of a field, without parameters, as written
abbrev pub media_type : List ℕ → List ℕ
media_type field = trim_back (trim_front (before_first (λ b. b == semicolon) field))

-- the bytes are the name, in any case of ASCII letters
abbrev pub is_name : List ℕ → List ℕ → Bool
is_name name bytes = bytes_eq (map to_ascii_lowercase bytes) (map to_ascii_lowercase name)

-- there is a field, and its media type has the name
abbrev pub has_media : List ℕ → Option (List ℕ) → Bool
has_media name None = false
has_media name (Some field) = is_name name (media_type field)

-- the reply says that its body is Turtle (RDF 1.1 Turtle, section 8)
abbrev pub is_turtle : Reply → Bool
is_turtle reply = has_media (codes "text/turtle") reply.media

-- the reply says that its body is N-Triples (RDF 1.1 N-Triples, section 7)
abbrev pub is_ntriples : Reply → Bool
is_ntriples reply = has_media (codes "application/n-triples") reply.media

-- no coding is named, or `identity` as a whole
abbrev pub is_plain_coding : Option (List ℕ) → Bool
is_plain_coding None = true
is_plain_coding (Some coding) = is_name (codes "identity") coding

-- the body stands as it is, with no coding applied
abbrev pub is_uncoded : Reply → Bool
is_uncoded reply = is_plain_coding reply.coding
