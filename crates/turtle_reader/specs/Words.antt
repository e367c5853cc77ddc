-- Keywords and marks (RDF 1.1 Turtle, section 6.5): `a`, `true` and `false` only as written, PREFIX and BASE in any case.
use Rattle.std.specs.Prelude.{ℕ, ◌==◌, Bool, true, false, List, [], ◌∷◌, codes, bytes_eq, if◌then◌else◌}
use Rattle.terminals.specs.Words.{is_word}
use Rattle.turtle_lexer.specs.declared.kind.TurtleKind.{TurtleKind}
use Rattle.turtle_lexer.specs.declared.kind.TurtleKind.TheVariants as lexed
use Rattle.turtle_reader.specs.declared.words.Word.{Word}
use Rattle.turtle_reader.specs.declared.words.Word.TheVariants as words
use Rattle.turtle_reader.specs.declared.words.Mark.{Mark}
use Rattle.turtle_reader.specs.declared.words.Mark.TheVariants as marks

-- what the bytes of a Word are
abbrev pub word_of : List ℕ → Word
word_of w =
    if bytes_eq w (codes "a") then words.A
    else (if bytes_eq w (codes "true") then words.True
    else (if bytes_eq w (codes "false") then words.False
    else (if is_word w (codes "prefix") then words.Prefix
    else (if is_word w (codes "base") then words.Base
    else words.Unknown))))

abbrev pub short_mark : ℕ → Mark
short_mark b =
    if b == 46 then marks.Dot
    else (if b == 59 then marks.Semicolon
    else (if b == 44 then marks.Comma
    else (if b == 91 then marks.OpenSquare
    else (if b == 93 then marks.ShutSquare
    else (if b == 40 then marks.OpenParen
    else (if b == 41 then marks.ShutParen
    else marks.Unknown))))))

-- what the bytes of a Mark are: of two bytes the lexer has `^^` alone
abbrev pub mark_of : List ℕ → Mark
mark_of [] = marks.Unknown
mark_of (b ∷ []) = short_mark b
mark_of (a ∷ b ∷ []) = marks.Carets
mark_of (a ∷ b ∷ c ∷ bs) = marks.Unknown

abbrev pub word_begins_object : Word → Bool
word_begins_object words.True = true
word_begins_object words.False = true
word_begins_object _ = false

abbrev pub mark_begins_object : Mark → Bool
mark_begins_object marks.OpenSquare = true
mark_begins_object marks.OpenParen = true
mark_begins_object _ = false

-- an object can begin with a token of this kind and these bytes: an IRI, a blank node, a literal, or an opening bracket
abbrev pub begins_object : TurtleKind → List ℕ → Bool
begins_object lexed.IriRef bytes = true
begins_object lexed.Name bytes = true
begins_object lexed.BlankLabel bytes = true
begins_object lexed.Quoted bytes = true
begins_object lexed.Integer bytes = true
begins_object lexed.Decimal bytes = true
begins_object lexed.Double bytes = true
begins_object lexed.Word bytes = word_begins_object (word_of bytes)
begins_object lexed.Mark bytes = mark_begins_object (mark_of bytes)
begins_object _ bytes = false
