-- The body of a message, from the end of its head on (RFC 9112, section 6).
use Rattle.std.specs.Prelude.{ℕ, ◌+◌, List, [], ◌++◌, length, take, if◌then◌else◌, nat_lt, nat_le, Option, Some, None, option_map}
use Rattle.link_uri.specs.declared.heard.Reply.{Reply}
use Rattle.link_uri.specs.declared.heard.Heard.{Heard}
use Rattle.link_uri.specs.declared.heard.Heard.TheVariants as heard
use Rattle.link_uri.specs.Wanted.{is_wanted}
use Rattle.http_message.specs.declared.facts.Facts.{Facts}
use Rattle.http_message.specs.declared.framing.Framing.{Framing}
use Rattle.http_message.specs.declared.framing.Framing.TheVariants as framing
use Rattle.http_message.specs.Chunks.{BodyRead, whole_body, bad_body, long_body, part_body, chunked, in_line}

-- what some bytes of a message have come to
pub data Progress : Type 0 where
  -- this is heard, whatever bytes follow
  decided : Heard → Progress
  -- what is heard where the input ends here, or None where the message is cut then
  undecided : Option Heard → Progress

-- a body of n more bytes, of which these have come
abbrev pub sized : ℕ → List ℕ → List ℕ → BodyRead
sized n body bytes = if nat_le n (length bytes) then whole_body (body ++ take n bytes) else part_body None

-- a body up to the end of the input, of which these bytes have come
abbrev pub until_end : ℕ → List ℕ → List ℕ → BodyRead
until_end limit body bytes =
    if nat_lt limit (length body + length bytes) then long_body else part_body (Some (body ++ bytes))

-- what the bytes after a head come to as a body
abbrev pub body_from : Framing → ℕ → List ℕ → BodyRead
body_from framing.Chunked limit bytes = chunked limit (in_line []) [] bytes
body_from (framing.Sized n) limit bytes = if nat_lt limit n then long_body else sized n [] bytes
body_from framing.UntilEnd limit bytes = until_end limit [] bytes
body_from framing.Bad limit bytes = bad_body

-- the reply with this body
abbrev pub replied : Reply → List ℕ → Heard
replied reply body = heard.Reply (record reply { body = body })

abbrev pub with_body : Reply → BodyRead → Progress
with_body reply (whole_body body) = decided (replied reply body)
with_body reply bad_body = decided heard.Malformed
with_body reply long_body = decided heard.TooLong
with_body reply (part_body body) = undecided (option_map (replied reply) body)

-- the message whose final head says these facts, from the end of the head on; one that isn't wanted has no body
abbrev pub message_from : Facts → ℕ → List ℕ → Progress
message_from facts limit bytes =
    with_body facts.reply (if is_wanted facts.reply then body_from facts.framing limit bytes else whole_body [])
