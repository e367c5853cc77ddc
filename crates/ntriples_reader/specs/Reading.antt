-- What an N-Triples text is read as: its triples, or the first place of what does not fit.
use Rattle.std.specs.Prelude.{◌≡◌, ℕ, List, [], Result, Ok, Err, ⊤}
use Rattle.rdf_terms.specs.declared.triple.Triple.{Triple}
use Rattle.turtle_lexer.specs.declared.dialect.Dialect.TheVariants as dialects
use Rattle.turtle_lexer.specs.declared.token.Token.{Token}
use Rattle.turtle_lexer.specs.Tokens.{NTriplesTokens}
use Rattle.turtle_lexer.proofs.Languages.{a_token_list}
use Rattle.turtle_reader.specs.declared.fault.ReadFault.{ReadFault}
use Rattle.turtle_reader.specs.declared.fault.ReadFault.TheVariants as faults
use Rattle.ntriples_reader.specs.Lines.{Lines, lines_of}
use Rattle.ntriples_reader.specs.Grammar.{document}
use Rattle.ntriples_reader.specs.Triples.{numbered}

-- what lines are read as, in a document of this name
unfoldable pub lines_read_as : List ℕ → Lines → Result (List Triple) ℕ
lines_read_as doc ls = numbered doc [] (document ls)

-- what the tokens of a text are read as
abbrev pub read_as : List ℕ → List ℕ → List Token → Result (List Triple) ℕ
read_as doc bytes ts = lines_read_as doc (lines_of bytes ts)

-- the text is read as this
pub record Reads (doc bytes : List ℕ) (r : Result (List Triple) ℕ) : Type 0 where
  pub tokens : List Token
  pub are : NTriplesTokens bytes tokens
  pub is : read_as doc bytes tokens ≡ r

-- the one reading that the text has (`one_reading`): that by its token list (`one_ntriples_token_list`)
abbrev pub ntriples_reading : List ℕ → List ℕ → Result (List Triple) ℕ
ntriples_reading doc bytes = read_as doc bytes (a_token_list dialects.NTriples bytes).0

-- ---- what calls answer

-- a fault is the one that is wanted; N-Triples does not nest
abbrev pub Fails : {Y : Type 0} → ReadFault → Result Y ℕ → Type 0
Fails faults.Memory want = Unit {0}
Fails (faults.Syntax at) want = want ≡ Err at
Fails (faults.Deep at) want = ⊥

abbrev pub Gives : {X Y : Type 0} → (X → Y) → Result X ReadFault → Result Y ℕ → Type 0
Gives see (Ok x) want = want ≡ Ok (see x)
Gives see (Err e) want = Fails e want
