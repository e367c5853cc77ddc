-- The rules for the tokens of Turtle, after the terminals of RDF 1.1 Turtle, section 6.5, and of N-Triples.
use Rattle.std.specs.Prelude.{Bool, true, false}
use Rattle.terminals.specs.declared.class.Class.{Class}
use Rattle.terminals.specs.declared.class.Class.TheVariants as classes
use Rattle.terminals.specs.Groups.{is_sign, is_caret, is_underscore, is_colon, is_local_first, is_local}
use Rattle.terminals.specs.Rules.{Rule, Never, One, Then, Either, maybe}
use Rattle.terminals.specs.Terminals.{with_dots, iri_ref, name, blank_label, language_tag, quoted, integer, decimal, double, word}
use Rattle.turtle_lexer.specs.declared.dialect.Dialect.{Dialect}
use Rattle.turtle_lexer.specs.declared.dialect.Dialect.TheVariants as dialects
use Rattle.turtle_lexer.specs.declared.kind.TurtleKind.{TurtleKind}
use Rattle.turtle_lexer.specs.declared.kind.TurtleKind.TheVariants as kinds

-- a mark of one character: one of . [ ] ( ) , ;
abbrev pub is_mark : Class → Bool
is_mark classes.Dot = true
is_mark classes.Square = true
is_mark classes.Separator = true
is_mark _ = false

-- with a sign in front, or without
abbrev pub signed : Rule → Rule
signed r = Then (maybe (One is_sign)) r

-- what a token of each kind is in Turtle
abbrev pub rule_of : TurtleKind → Rule
rule_of kinds.IriRef = iri_ref
rule_of kinds.Name = name
rule_of kinds.BlankLabel = blank_label
rule_of kinds.At = language_tag
rule_of kinds.Quoted = quoted
rule_of kinds.Integer = signed integer
rule_of kinds.Decimal = signed decimal
rule_of kinds.Double = signed double
rule_of kinds.Word = word
rule_of kinds.Mark = Either (One is_mark) (Then (One is_caret) (One is_caret))
rule_of kinds.Bad = Never
rule_of kinds.End = Never

-- BLANK_NODE_LABEL of RDF 1.1 N-Triples, section 7: there PN_CHARS_U, and so PN_CHARS, has the colon
abbrev pub wide_label : Rule
wide_label = Then (One is_underscore) (Then (One is_colon) (Then (One is_local_first) (with_dots is_local)))

-- what a token of each kind is in N-Triples: the marks and words that only Turtle has are tokens too
abbrev pub ntriples_rule_of : TurtleKind → Rule
ntriples_rule_of kinds.BlankLabel = wide_label
ntriples_rule_of k = rule_of k

-- what a token of each kind is in a language
abbrev pub rule_in : Dialect → TurtleKind → Rule
rule_in dialects.Turtle = rule_of
rule_in dialects.NTriples = ntriples_rule_of
