-- What a Turtle text gives: its triples in order, or its first fault.
use Rattle.std.specs.Prelude.{◌≡◌, ℕ, List, [], Result, Ok, Err}
use Rattle.rdf_terms.specs.declared.triple.Triple.{Triple}
use Rattle.grammar_model.specs.Parsers.{Done, Rejected, Reads}
use Rattle.turtle_lexer.specs.declared.dialect.Dialect.TheVariants as dialects
use Rattle.turtle_lexer.specs.declared.token.Token.{Token as Lexed}
use Rattle.turtle_lexer.specs.Tokens.{TurtleTokens}
use Rattle.turtle_lexer.proofs.Languages.{a_token_list}
use Rattle.turtle_reader.specs.declared.token_fault.Fault.{Fault}
use Rattle.turtle_reader.specs.declared.token_fault.Fault.TheVariants.{Syntax, Deep}
use Rattle.turtle_reader.specs.Resolving.{Resolving, resolving}
use Rattle.turtle_reader.specs.declared.token_fault.ResolveError.{ResolveError}
use Rattle.turtle_reader.specs.declared.token_fault.ResolveError.TheVariants as errors
use Rattle.turtle_reader.specs.declared.fault.ReadFault.{ReadFault}
use Rattle.turtle_reader.specs.declared.fault.ReadFault.TheVariants as faults
use Rattle.turtle_reader.specs.Grammar.{E, TurtleDoc, turtle, body, reads}

-- the document that is read, or the fault
abbrev pub answer_of : E (TurtleDoc []) → Result (List Triple) Fault
answer_of (Done triples rest) = Ok triples
answer_of (Rejected x) = Err x

-- The tokens with what they stand for are read by the grammar as a document. Where they were cut at a token that nothing may
-- take, its fault is what comes behind them: so a token that does not fit is found before it, and nothing behind it matters.
abbrev pub ReadsResolved : List ℕ → Resolving → Result (List Triple) Fault → Type 0
ReadsResolved doc s answer = (o : E (TurtleDoc [])) × Reads (turtle doc s.stop) (TurtleDoc []) (body doc (TurtleDoc [])) s.tokens o × (answer ≡ answer_of o)

-- A text under the name of its document and its base at the beginning has this answer: it has tokens, which stand for
-- something under the bases and prefixes in force, and the grammar reads these.
abbrev pub IsTurtle : List ℕ → List ℕ → List ℕ → Result (List Triple) Fault → Type 0
IsTurtle doc base bytes answer = (lexed : List Lexed) × TurtleTokens bytes lexed × ReadsResolved doc (resolving base bytes lexed) answer

-- what the grammar reads in the tokens with what they stand for
abbrev pub resolved_reading : List ℕ → Resolving → Result (List Triple) Fault
resolved_reading doc s = answer_of (reads doc s.stop (TurtleDoc []) s.tokens)

-- the one answer that the text has (`one_answer`): that by its token list, of which it has one (`one_token_list`)
unfoldable pub turtle_reading : List ℕ → List ℕ → List ℕ → Result (List Triple) Fault
turtle_reading doc base bytes = resolved_reading doc (resolving base bytes (a_token_list dialects.Turtle bytes).0)

-- the fault that is reported; of memory nothing is said
abbrev pub IsFault : ReadFault → (Fault → Type 0) → Type 0
IsFault (faults.Syntax at) P = P (Syntax at)
IsFault (faults.Deep at) P = P (Deep at)
IsFault faults.Memory P = Unit {0}

abbrev pub reported_fault : Fault → ReadFault
reported_fault (Syntax at) = faults.Syntax at
reported_fault (Deep at) = faults.Deep at

abbrev pub reported : ResolveError → ReadFault
reported errors.Memory = faults.Memory
reported (errors.Fault x) = reported_fault x
