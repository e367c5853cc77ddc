-- What a final response head says of the message (RFC 9112, section 6.3).
use Rattle.std.specs.Prelude.{ℕ, List, [], ◌∷◌, Bool, ◌&&◌, if◌then◌else◌, nat_le, codes, Option, Some, None, option_map}
use Rattle.link_uri.specs.declared.heard.Reply.{Reply}
use Rattle.link_uri.specs.Heard.{is_name}
use Rattle.httparse.specs.Grammar.{ResponseHead, status_code}
use Rattle.http_header.specs.FieldValue.{FieldValue}
use Rattle.http_header.specs.HeaderMap.{get, get_all}
use Rattle.http_message.specs.declared.framing.Framing.{Framing}
use Rattle.http_message.specs.declared.framing.Framing.TheVariants.{Chunked, Sized, UntilEnd, Bad}
use Rattle.http_message.specs.declared.facts.Facts.{Facts}
use Rattle.http_message.specs.Heads.{Fields, fields_of, joined}
use Rattle.http_message.specs.Lengths.{trimmed, length_of}

-- the first value of a field
abbrev pub first_of : Fields → List ℕ → Option (List ℕ)
first_of fields name = option_map (λ v. v.bytes) (get fields name)

-- all values, joined and trimmed, where there is one
abbrev pub joined_values : List FieldValue → Option (List ℕ)
joined_values [] = None
joined_values (v ∷ vs) = Some (trimmed (joined (v ∷ vs)))

-- the reply that a head begins, with no body yet
abbrev pub reply_of : ℕ → Fields → Reply
reply_of status fields = record {
  status = status;
  media = first_of fields (codes "content-type");
  coding = joined_values (get_all fields (codes "content-encoding"));
  location = first_of fields (codes "location");
  body = [];
}

-- in chunks where the coding is `chunked`, in any case, and nothing else
abbrev pub framing_of_coding : List ℕ → Framing
framing_of_coding coding = if is_name (codes "chunked") coding then Chunked else Bad

-- how a body ends whose head has these values of Transfer-Encoding: there must be one
abbrev pub coded_framing : List FieldValue → Framing
coded_framing (v ∷ []) = framing_of_coding v.bytes
coded_framing vs = Bad

-- the length is known, or the message is malformed
abbrev pub sized_framing : Option ℕ → Framing
sized_framing None = Bad
sized_framing (Some n) = Sized n

-- how a body ends whose head has these values of Content-Length, and no Transfer-Encoding
abbrev pub length_framing : List FieldValue → Framing
length_framing [] = UntilEnd
length_framing (v ∷ vs) = sized_framing (length_of (v ∷ vs))

-- how a body ends: Transfer-Encoding goes before Content-Length
abbrev pub framing_of : Fields → Framing
framing_of fields =
    elim (get_all fields (codes "transfer-encoding")) [
      | [] ↦ length_framing (get_all fields (codes "content-length"))
      | v ∷ vs ↦ coded_framing (v ∷ vs)
    ]

abbrev pub facts_from : ℕ → Fields → Facts
facts_from status fields = record { reply = reply_of status fields; framing = framing_of fields }

-- what the head says
unfoldable pub facts_of : ResponseHead → Facts
facts_of h = facts_from (status_code h) (fields_of h.fields)

-- the statuses of heads that another follows (RFC 9110, section 15.2)
abbrev pub is_interim_status : ℕ → Bool
is_interim_status status = nat_le 100 status && nat_le status 199

-- the head is followed by another
unfoldable pub is_interim : ResponseHead → Bool
is_interim h = is_interim_status (status_code h)
