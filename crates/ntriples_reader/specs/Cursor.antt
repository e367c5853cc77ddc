-- What a cursor holds: the lines that it stands before.
use Rattle.std.specs.Prelude.{◌≡◌, ◌∷◌, [], Bool, true, false, Result, Ok, Err}
use Rattle.turtle_reader.specs.declared.fault.ReadFault.{ReadFault}
use Rattle.ntriples_reader.specs.declared.cursor.Next.{Next}
use Rattle.ntriples_reader.specs.declared.cursor.Next.TheVariants as nexts
use Rattle.ntriples_reader.specs.declared.cursor.Cursor.{Cursor}
use Rattle.ntriples_reader.specs.Lines.{Lines, first_line, on_line, line_before, last_line, lines_from}
use Rattle.ntriples_reader.specs.Grammar.{Reading}
use Rattle.ntriples_reader.specs.Reading.{Fails}

abbrev pub lines_by : Next → Lines → Lines
lines_by (nexts.Item x) ls = on_line x ls
lines_by (nexts.LineEnd n) ls = line_before n ls
lines_by (nexts.End n) ls = last_line n

abbrev pub view : Cursor → Lines
view c = lines_by c.next (lines_from c.bytes.now c.at c.tokens.now)

-- one cursor stands before the line behind that of the other, where there is one
abbrev pub IsNextLine : Lines → Lines → Bool → Type 0
IsNextLine old new true = old.more ≡ first_line new ∷ new.more
IsNextLine old new false = old.more ≡ []

-- the same lines are behind the line of each
abbrev pub IsSameText : Cursor → Cursor → Type 0
IsSameText old new = (view new).more ≡ (view old).more

-- a cursor is moved on, with a value
abbrev pub Steps : {X : Type 0} → Cursor → Result X ReadFault → Reading X → Type 0
Steps new (Ok x) want = want ≡ Ok (x, view new)
Steps new (Err e) want = Fails e want
