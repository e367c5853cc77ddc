-- The rules for the tokens of queries, after the terminals of SPARQL 1.1, section 19.8.
use Rattle.std.specs.Prelude.{Bool, true, false}
use Rattle.terminals.specs.declared.class.Class.{Class}
use Rattle.terminals.specs.declared.class.Class.TheVariants as classes
use Rattle.terminals.specs.Groups.{is_base, is_label_first, is_caret}
use Rattle.terminals.specs.Rules.{Rule, Never, One, Then, Either, Many}
use Rattle.terminals.specs.Terminals.{iri_ref, name, blank_label, language_tag, quoted, integer, decimal, double, word}
use Rattle.sparql_lexer.specs.declared.kind.QueryKind.{QueryKind}
use Rattle.sparql_lexer.specs.declared.kind.QueryKind.TheVariants as kinds

-- a mark of one character: one of { } ( ) [ ] . ; , * / + - ! = < > | ^ ?
abbrev pub is_mark : Class → Bool
is_mark classes.Brace = true
is_mark classes.Separator = true
is_mark classes.Square = true
is_mark classes.Dot = true
is_mark classes.Operator = true
is_mark classes.Plus = true
is_mark classes.Minus = true
is_mark classes.Bang = true
is_mark classes.Equals = true
is_mark classes.Less = true
is_mark classes.Greater = true
is_mark classes.Bar = true
is_mark classes.Caret = true
is_mark classes.Question = true
is_mark _ = false

-- what makes a mark with an equals sign: one of ! < >
abbrev pub is_before_equals : Class → Bool
is_before_equals classes.Bang = true
is_before_equals classes.Less = true
is_before_equals classes.Greater = true
is_before_equals _ = false

abbrev pub is_equals : Class → Bool
is_equals classes.Equals = true
is_equals _ = false

abbrev pub is_ampersand : Class → Bool
is_ampersand classes.Ampersand = true
is_ampersand _ = false

abbrev pub is_bar : Class → Bool
is_bar classes.Bar = true
is_bar _ = false

-- ? or $
abbrev pub is_var_mark : Class → Bool
is_var_mark classes.Question = true
is_var_mark classes.Dollar = true
is_var_mark _ = false

-- a later character of a variable's name: as in VARNAME
abbrev pub is_var : Class → Bool
is_var classes.Underscore = true
is_var (classes.Digit v) = true
is_var classes.WideMid = true
is_var x = is_base x

abbrev pub variable : Rule
variable = Then (One is_var_mark) (Then (One is_label_first) (Many (One is_var)))

abbrev pub mark : Rule
mark = Either (One is_mark) (Either (Then (One is_before_equals) (One is_equals))
    (Either (Then (One is_ampersand) (One is_ampersand)) (Either (Then (One is_bar) (One is_bar)) (Then (One is_caret) (One is_caret)))))

-- what a token of each kind is
abbrev pub rule_of : QueryKind → Rule
rule_of kinds.IriRef = iri_ref
rule_of kinds.Name = name
rule_of kinds.BlankLabel = blank_label
rule_of kinds.Var = variable
rule_of kinds.Tag = language_tag
rule_of kinds.Quoted = quoted
rule_of kinds.Integer = integer
rule_of kinds.Decimal = decimal
rule_of kinds.Double = double
rule_of kinds.Word = word
rule_of kinds.Mark = mark
rule_of kinds.Bad = Never
rule_of kinds.End = Never
