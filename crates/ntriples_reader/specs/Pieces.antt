-- What the tokens of an N-Triples text stand for (RDF 1.1 N-Triples, sections 2 and 7).
use Rattle.std.specs.Prelude.{ℕ, nat_eq, List, [], ◌∷◌, Bool, ◌&&◌, not, Option, Some, None, is_ok, codes, slice_range, if◌then◌else◌}
use Rattle.std.specs.List.{starts_with}
use Rattle.iri_core.specs.Reference.{has_scheme}
use Rattle.iri_core.specs.Refusal.{checked}
use Rattle.terminals.specs.Values.{iri_text, string_text, label_text, tag_text}
use Rattle.terminals.specs.Texts.{plain}
use Rattle.turtle_lexer.specs.declared.kind.TurtleKind.{TurtleKind}
use Rattle.turtle_lexer.specs.declared.kind.TurtleKind.TheVariants as kinds
use Rattle.turtle_lexer.specs.declared.token.Token.{Token}
use Rattle.ntriples_reader.specs.declared.piece.Piece.{Piece}
use Rattle.ntriples_reader.specs.declared.piece.Piece.TheVariants as pieces
use Rattle.ntriples_reader.specs.declared.piece.Item.{Item}

-- the text is an IRI reference and has a scheme
abbrev pub is_absolute : List ℕ → Bool
is_absolute text = is_ok (checked text) && has_scheme text

-- an IRIREF by its text
abbrev pub iri_piece : Option (List ℕ) → Piece
iri_piece None = pieces.Other
iri_piece (Some text) = if is_absolute text then pieces.Iri text else pieces.Other

abbrev pub label_piece : Option (List ℕ) → Piece
label_piece None = pieces.Other
label_piece (Some label) = pieces.Label label

abbrev pub tag_piece : Option (List ℕ) → Piece
tag_piece None = pieces.Other
tag_piece (Some tag) = pieces.Tag tag

abbrev pub text_piece : Option (List ℕ) → Piece
text_piece None = pieces.Other
text_piece (Some text) = pieces.Text text

-- the string begins with one double quote, and not with three
abbrev pub is_in_one_pair : List ℕ → Bool
is_in_one_pair bytes = starts_with nat_eq bytes (codes "\"") && not (starts_with nat_eq bytes (codes "\"\"\""))

-- STRING_LITERAL_QUOTE, the only string of N-Triples
abbrev pub string_piece : List ℕ → Piece
string_piece bytes = if is_in_one_pair bytes then text_piece (plain (string_text bytes)) else pieces.Other

-- the marks of N-Triples
abbrev pub mark_piece : List ℕ → Piece
mark_piece bytes = if starts_with nat_eq bytes (codes ".") then pieces.Dot else if starts_with nat_eq bytes (codes "^^") then pieces.Carets else pieces.Other

-- what a token of this kind with these bytes stands for
abbrev pub piece_of : TurtleKind → List ℕ → Piece
piece_of kinds.IriRef bytes = iri_piece (plain (iri_text bytes))
piece_of kinds.BlankLabel bytes = label_piece (plain (label_text bytes))
piece_of kinds.Quoted bytes = string_piece bytes
piece_of kinds.At bytes = tag_piece (plain (tag_text bytes))
piece_of kinds.Mark bytes = mark_piece bytes
piece_of _ bytes = pieces.Other

-- a token of the text at its place
unfoldable pub item_of : List ℕ → Token → Item
item_of bytes t = record { piece = piece_of t.kind (slice_range bytes t.from t.to); from = t.from }
