-- Which replies are wanted: those whose body may be a document.
use Rattle.std.specs.Prelude.{Bool, ◌&&◌, ◌||◌, ◌==◌}
use Rattle.link_uri.specs.declared.heard.Reply.{Reply}
use Rattle.link_uri.specs.Heard.{is_uncoded, is_turtle, is_ntriples}

-- status 200 (RFC 9110, section 15.3.1), no coding, and Turtle or N-Triples
abbrev pub is_wanted : Reply → Bool
is_wanted reply = reply.status == 200 && (is_uncoded reply && (is_turtle reply || is_ntriples reply))
