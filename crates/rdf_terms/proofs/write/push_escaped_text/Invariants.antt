use Rattle.std.proofs.Common.{◌≡◌, ◌++◌, string_bytes}
use Rattle.std.specs.Str.{encode_utf8_all}
use Rattle.rdf_terms.specs.NTriplesForm.{escaped_text}
use Rattle.rdf_terms.proofs.write.push_escaped_text.Given as goal

abbrev pub invariant-loop-c : goal.invariant-loop-c
invariant-loop-c l = string_bytes l.out ≡ string_bytes l.initial.out ++ escaped_text (encode_utf8_all l.yielded)
