-- The texts that tokens stand for.
use Rattle.std.specs.Prelude.{◌≢◌, ℕ, List, None}
use Rattle.terminals.specs.Values.{iri_text, string_text, prefix_text, local_text, label_text, tag_text}
use Rattle.terminals.specs.Texts.{plain, variable_text}
use Rattle.turtle_lexer.specs.declared.kind.TurtleKind.{TurtleKind}
use Rattle.turtle_lexer.specs.declared.kind.TurtleKind.TheVariants as turtle
use Rattle.sparql_lexer.specs.declared.kind.QueryKind.{QueryKind}
use Rattle.sparql_lexer.specs.declared.kind.QueryKind.TheVariants as query

-- a token of Turtle or of N-Triples with these bytes stands for a text, where its kind asks for one
abbrev pub HasTurtleText : TurtleKind → List ℕ → Type 0
HasTurtleText turtle.IriRef bytes = plain (iri_text bytes) ≢ None
HasTurtleText turtle.Name bytes = (plain (prefix_text bytes) ≢ None) × (plain (local_text bytes) ≢ None)
HasTurtleText turtle.BlankLabel bytes = plain (label_text bytes) ≢ None
HasTurtleText turtle.At bytes = plain (tag_text bytes) ≢ None
HasTurtleText turtle.Quoted bytes = plain (string_text bytes) ≢ None
HasTurtleText turtle.Integer bytes = plain bytes ≢ None
HasTurtleText turtle.Decimal bytes = plain bytes ≢ None
HasTurtleText turtle.Double bytes = plain bytes ≢ None
HasTurtleText _ bytes = Unit {0}

-- and so does one of a query
abbrev pub HasQueryText : QueryKind → List ℕ → Type 0
HasQueryText query.Var bytes = plain (variable_text bytes) ≢ None
HasQueryText query.IriRef bytes = plain (iri_text bytes) ≢ None
HasQueryText query.Name bytes = (plain (prefix_text bytes) ≢ None) × (plain (local_text bytes) ≢ None)
HasQueryText query.BlankLabel bytes = plain (label_text bytes) ≢ None
HasQueryText query.Tag bytes = plain (tag_text bytes) ≢ None
HasQueryText query.Quoted bytes = plain (string_text bytes) ≢ None
HasQueryText query.Integer bytes = plain bytes ≢ None
HasQueryText query.Decimal bytes = plain bytes ≢ None
HasQueryText query.Double bytes = plain bytes ≢ None
HasQueryText _ bytes = Unit {0}
