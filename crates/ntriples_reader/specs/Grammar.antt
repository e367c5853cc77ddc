-- The grammar of N-Triples (RDF 1.1 N-Triples, sections 2 and 7): a line is empty or a statement, and what does not fit on it
-- is the first token that can't stand where it stands, or else the line's end.
use Rattle.std.specs.Prelude.{ℕ, List, [], ◌∷◌, Bool, true, false, Option, Some, None, Result, Ok, Err, ⊤, if◌then◌else◌}
use Rattle.ntriples_reader.specs.declared.piece.Piece.{Piece}
use Rattle.ntriples_reader.specs.declared.piece.Piece.TheVariants as pieces
use Rattle.ntriples_reader.specs.declared.piece.Item.{Item}
use Rattle.ntriples_reader.specs.declared.statement.Node.{Node}
use Rattle.ntriples_reader.specs.declared.statement.Node.TheVariants as nodes
use Rattle.ntriples_reader.specs.declared.statement.Statement.{Statement}
use Rattle.ntriples_reader.specs.Lines.{Line, Lines, is_empty}

-- a part of a line with the lines behind it, or the place of what does not fit
abbrev pub Reading : Type 0 → Type 0
Reading A = Result (A × Lines) ℕ

abbrev pub then' : {A B : Type 0} → Reading A → (A → Lines → Reading B) → Reading B
then' (Ok x) go = go x.0 x.1
then' (Err at) go = Err at

-- the lines behind the first token
abbrev pub behind : List Item → Lines → Lines
behind xs ls = record { items = xs; end = ls.end; more = ls.more }

-- a token of the line
abbrev pub token_by : List Item → Lines → Reading Item
token_by [] ls = Err ls.end
token_by (x ∷ xs) ls = Ok (x, behind xs ls)

unfoldable pub token : Lines → Reading Item
token ls = token_by ls.items ls

-- iri = IRIREF
abbrev pub iri_by : Piece → ℕ → Lines → Reading (List ℕ)
iri_by (pieces.Iri iri) from ls = Ok (iri, ls)
iri_by _ from ls = Err from

unfoldable pub iri : Lines → Reading (List ℕ)
iri ls = then' (token ls) (λ x ls. iri_by x.piece x.from ls)

-- subject = IRIREF | BLANK_NODE_LABEL
abbrev pub subject_by : Piece → ℕ → Lines → Reading Node
subject_by (pieces.Iri iri) from ls = Ok (nodes.Iri iri, ls)
subject_by (pieces.Label label) from ls = Ok (nodes.Label label, ls)
subject_by _ from ls = Err from

unfoldable pub subject : Lines → Reading Node
subject ls = then' (token ls) (λ x ls. subject_by x.piece x.from ls)

-- the datatype of a literal
abbrev pub typed : List ℕ → Lines → Reading Node
typed text ls = then' (iri ls) (λ datatype ls. Ok (nodes.Typed text datatype, ls))

-- literal = STRING_LITERAL_QUOTE ( LANGTAG | "^^" IRIREF )?
abbrev pub literal_by : List ℕ → Piece → Lines → Lines → Reading Node
literal_by text (pieces.Tag tag) rest ls = Ok (nodes.Tagged text tag, rest)
literal_by text pieces.Carets rest ls = typed text rest
literal_by text _ rest ls = Ok (nodes.Simple text, ls)

abbrev pub literal_at : List ℕ → List Item → Lines → Reading Node
literal_at text [] ls = Ok (nodes.Simple text, ls)
literal_at text (x ∷ xs) ls = literal_by text x.piece (behind xs ls) ls

unfoldable pub literal : List ℕ → Lines → Reading Node
literal text ls = literal_at text ls.items ls

-- object = IRIREF | BLANK_NODE_LABEL | literal
abbrev pub object_by : Piece → ℕ → Lines → Reading Node
object_by (pieces.Iri iri) from ls = Ok (nodes.Iri iri, ls)
object_by (pieces.Label label) from ls = Ok (nodes.Label label, ls)
object_by (pieces.Text text) from ls = literal text ls
object_by _ from ls = Err from

unfoldable pub object : Lines → Reading Node
object ls = then' (token ls) (λ x ls. object_by x.piece x.from ls)

-- "."
abbrev pub dot_by : Piece → ℕ → Lines → Reading ⊤
dot_by pieces.Dot from ls = Ok (tt, ls)
dot_by _ from ls = Err from

unfoldable pub dot : Lines → Reading ⊤
dot ls = then' (token ls) (λ x ls. dot_by x.piece x.from ls)

-- statement = subject iri object "."
unfoldable pub statement : Lines → Reading Statement
statement ls = then' (subject ls) (λ s ls. then' (iri ls) (λ p ls. then' (object ls) (λ o ls. then' (dot ls) (λ _ ls. Ok (record { s = s; p = p; o = o }, ls)))))

-- the place of the next token of the line, or of the line's end
abbrev pub place_by : List Item → ℕ → ℕ
place_by [] end = end
place_by (x ∷ xs) end = x.from

abbrev pub place : Lines → ℕ
place ls = place_by ls.items ls.end

-- nothing stands behind the statement of a line
abbrev pub ended : Statement → Lines → Reading (Option Statement)
ended st ls = if is_empty ls.items then Ok (Some st, ls) else Err (place ls)

-- line = statement?
unfoldable pub line : Lines → Reading (Option Statement)
line ls = if is_empty ls.items then Ok (None, ls) else then' (statement ls) ended

-- the statement of a line, if there is one, before those of the lines behind it
abbrev pub add : Option Statement → List Statement → List Statement
add None sts = sts
add (Some st) sts = st ∷ sts

abbrev pub add_to : Option Statement → Result (List Statement) ℕ → Result (List Statement) ℕ
add_to o (Ok sts) = Ok (add o sts)
add_to o (Err at) = Err at

abbrev pub before_lines : Reading (Option Statement) → Result (List Statement) ℕ → Result (List Statement) ℕ
before_lines (Ok x) rest = add_to x.0 rest
before_lines (Err at) rest = Err at

-- document = line ( end line )*: its statements, or the first place of what does not fit
unfoldable pub document_by : List Item → ℕ → List Line → Result (List Statement) ℕ
document_by items end [] = before_lines (line (record { items = items; end = end; more = [] })) (Ok [])
document_by items end (l ∷ more) = before_lines (line (record { items = items; end = end; more = l ∷ more })) (document_by l.items l.end more)

abbrev pub document : Lines → Result (List Statement) ℕ
document ls = document_by ls.items ls.end ls.more
