-- The automaton decides the rules: what a kind still wants in a state is the rule's rest behind a text that leads there.
use Rattle.std.proofs.Common.{◌≡◌, ℕ, zero, suc, List, [], ◌∷◌, Bool, true, false, cond, Option, Some, None, refl, sym, ap, ◌∙◌}
use Rattle.terminals.specs.declared.class.Class.{Class}
use Rattle.terminals.specs.declared.class.Class.TheVariants as classes
use Rattle.terminals.specs.declared.groups.Quote.{Quote}
use Rattle.terminals.specs.declared.groups.Quote.TheVariants as quotes
use Rattle.terminals.specs.Groups.{hex_value, is_iri, is_greater, is_line_text, is_text, is_quote}
use Rattle.terminals.specs.Rules.{Rule, Never, Nothing, One, Then, Either, Many, Number, number_after, both, with_digit, may_end, after, allows}
use Rattle.terminals.specs.Terminals.{iri_escape, string_escape, is_iri_code, is_scalar, few_quotes, three_quotes}
use Rattle.terminals.proofs.Longest.{run, kind_in, Decides}
use Rattle.turtle_lexer.specs.declared.kind.TurtleKind.{TurtleKind}
use Rattle.turtle_lexer.specs.declared.kind.TurtleKind.TheVariants as kinds
use Rattle.turtle_lexer.specs.declared.state.State.{State}
use Rattle.turtle_lexer.specs.declared.state.State.TheVariants as at
use Rattle.turtle_lexer.specs.Rules.{rule_of}
use Rattle.turtle_lexer.specs.State.{when, digit_step, stepped, kind_of, begin, caret_step, number_step, word_step, prefix_step, prefix_dot_step, first_local_step, local_step, label_step, tag_step, iri_step, line_step, long_step, slash_step, escape_step}

-- the class of a quote
abbrev mark_of : Quote → Class
mark_of quotes.Double = classes.Quote
mark_of quotes.Single = classes.Apostrophe

-- a text that leads to a state
abbrev pub path : State → List Class
path at.Start = []
path at.FirstDot = classes.Dot ∷ []
path at.MarkDone = classes.Square ∷ []
path at.FirstCaret = classes.Caret ∷ []
path at.Sign = classes.Plus ∷ []
path at.Point = classes.Plus ∷ classes.Dot ∷ []
path at.Digits = classes.Digit 0 ∷ []
path at.DigitsPoint = classes.Digit 0 ∷ classes.Dot ∷ []
path at.Fraction = classes.Digit 0 ∷ classes.Dot ∷ classes.Digit 0 ∷ []
path at.Exponent = classes.Digit 0 ∷ classes.E ∷ []
path at.ExponentSign = classes.Digit 0 ∷ classes.E ∷ classes.Plus ∷ []
path at.ExponentDigits = classes.Digit 0 ∷ classes.E ∷ classes.Digit 0 ∷ []
path at.Word = classes.Letter ∷ []
path at.Prefix = classes.WideLetter ∷ []
path at.PrefixDot = classes.WideLetter ∷ classes.Dot ∷ []
path at.Colon = classes.Colon ∷ []
path at.FirstPercent = classes.Colon ∷ classes.Percent ∷ []
path at.FirstHex = classes.Colon ∷ classes.Percent ∷ classes.Digit 0 ∷ []
path at.FirstSlash = classes.Colon ∷ classes.Backslash ∷ []
path at.Local = classes.Colon ∷ classes.Letter ∷ []
path at.LocalDot = classes.Colon ∷ classes.Letter ∷ classes.Dot ∷ []
path at.LocalPercent = classes.Colon ∷ classes.Letter ∷ classes.Percent ∷ []
path at.LocalHex = classes.Colon ∷ classes.Letter ∷ classes.Percent ∷ classes.Digit 0 ∷ []
path at.LocalSlash = classes.Colon ∷ classes.Letter ∷ classes.Backslash ∷ []
path at.Underscore = classes.Underscore ∷ []
path at.LabelColon = classes.Underscore ∷ classes.Colon ∷ []
path at.Label = classes.Underscore ∷ classes.Colon ∷ classes.Letter ∷ []
path at.LabelDot = classes.Underscore ∷ classes.Colon ∷ classes.Letter ∷ classes.Dot ∷ []
path at.At = classes.At ∷ []
path at.Tag = classes.At ∷ classes.Letter ∷ []
path at.TagMinus = classes.At ∷ classes.Letter ∷ classes.Minus ∷ []
path at.TagPart = classes.At ∷ classes.Letter ∷ classes.Minus ∷ classes.Letter ∷ []
path at.Iri = classes.Less ∷ []
path at.IriSlash = classes.Less ∷ classes.Backslash ∷ []
path at.IriDone = classes.Less ∷ classes.Greater ∷ []
path (at.FirstQuote q) = mark_of q ∷ []
path (at.SecondQuote q) = mark_of q ∷ mark_of q ∷ []
path (at.Line q) = mark_of q ∷ classes.Letter ∷ []
path (at.LineSlash q) = mark_of q ∷ classes.Backslash ∷ []
path (at.Long q) = mark_of q ∷ mark_of q ∷ mark_of q ∷ []
path (at.LongOne q) = mark_of q ∷ mark_of q ∷ mark_of q ∷ mark_of q ∷ []
path (at.LongTwo q) = mark_of q ∷ mark_of q ∷ mark_of q ∷ mark_of q ∷ mark_of q ∷ []
path (at.LongSlash q) = mark_of q ∷ mark_of q ∷ mark_of q ∷ classes.Backslash ∷ []
path at.QuotedDone = classes.Quote ∷ classes.Letter ∷ classes.Quote ∷ []
path _ = []

abbrev pub after_all : List Class → Rule → Rule
after_all [] r = r
after_all (x ∷ xs) r = after_all xs (after x r)

-- ---- inside an escape by number: what follows what is left of the number

abbrev iri_number : Rule → TurtleKind → Rule
iri_number r kinds.IriRef = both (both r (Many (Either (One is_iri) iri_escape))) (One is_greater)
iri_number r k = Never

abbrev line_number : Quote → Rule → TurtleKind → Rule
line_number q r kinds.Quoted = both (both r (Many (Either (One (is_line_text q)) string_escape))) (One (is_quote q))
line_number q r k = Never

abbrev long_number : Quote → Rule → TurtleKind → Rule
long_number q r kinds.Quoted =
    both (both r (Many (Then (few_quotes q) (Either (One (is_text q)) string_escape)))) (three_quotes q)
long_number q r k = Never

-- what a kind still wants in a state
abbrev pub rest : State → TurtleKind → Rule
rest (at.IriNumber left n) k = iri_number (Number (suc left) is_iri_code n) k
rest (at.LineNumber q left n) k = line_number q (Number (suc left) is_scalar n) k
rest (at.LongNumber q left n) k = long_number q (Number (suc left) is_scalar n) k
rest s k = after_all (path s) (rule_of k)

abbrev pub rest_of : Option State → TurtleKind → Rule
rest_of None k = Never
rest_of (Some s) k = rest s k

module _ (wrap : Rule → Rule) (done : State) (more : ℕ → ℕ → State) (fine : ℕ → Bool) (k : TurtleKind) (never : wrap Never ≡ Never) (nothing : wrap Nothing ≡ rest done k) (number : (left n : ℕ) → wrap (Number (suc left) fine n) ≡ rest (more left n) k) where
  last_digit : (b : Bool) → wrap (cond b Nothing Never) ≡ rest_of (when b done) k
  last_digit true = nothing
  last_digit false = never

  -- one more digit
  digit_derives : (o : Option ℕ) (left n : ℕ) → wrap (number_after o left fine n) ≡ rest_of (digit_step more done fine left n o) k
  digit_derives None left n = never
  digit_derives (Some v) zero n = last_digit (fine (with_digit n v))
  digit_derives (Some v) (suc left) n = number left (with_digit n v)

iri_never : (k : TurtleKind) → iri_number Never k ≡ Never
iri_never kinds.IriRef = refl
iri_never k = refl

iri_nothing : (k : TurtleKind) → iri_number Nothing k ≡ rest at.Iri k
iri_nothing kinds.IriRef = refl
iri_nothing k = refl

iri_after : (k : TurtleKind) (x : Class) (left n : ℕ) → after x (rest (at.IriNumber left n) k) ≡ iri_number (number_after (hex_value x) left is_iri_code n) k
iri_after kinds.IriRef x left n = refl
iri_after k x left n = refl

line_never : (q : Quote) (k : TurtleKind) → line_number q Never k ≡ Never
line_never q kinds.IriRef = refl
line_never q k = refl

line_nothing : (q : Quote) (k : TurtleKind) → line_number q Nothing k ≡ rest (at.Line q) k
line_nothing quotes.Double kinds.IriRef = refl
line_nothing quotes.Double k = refl
line_nothing quotes.Single kinds.IriRef = refl
line_nothing quotes.Single k = refl

line_after : (q : Quote) (k : TurtleKind) (x : Class) (left n : ℕ) → after x (rest (at.LineNumber q left n) k) ≡ line_number q (number_after (hex_value x) left is_scalar n) k
line_after q kinds.IriRef x left n = refl
line_after q k x left n = refl

long_never : (q : Quote) (k : TurtleKind) → long_number q Never k ≡ Never
long_never q kinds.IriRef = refl
long_never q k = refl

long_nothing : (q : Quote) (k : TurtleKind) → long_number q Nothing k ≡ rest (at.Long q) k
long_nothing quotes.Double kinds.IriRef = refl
long_nothing quotes.Double k = refl
long_nothing quotes.Single kinds.IriRef = refl
long_nothing quotes.Single k = refl

long_after : (q : Quote) (k : TurtleKind) (x : Class) (left n : ℕ) → after x (rest (at.LongNumber q left n) k) ≡ long_number q (number_after (hex_value x) left is_scalar n) k
long_after q kinds.IriRef x left n = refl
long_after q k x left n = refl

-- ---- all states

derives_IriRef : (s : State) (x : Class) → after x (rest s kinds.IriRef) ≡ rest_of (stepped s x) kinds.IriRef
unfolding begin caret_step number_step word_step prefix_step prefix_dot_step first_local_step local_step label_step tag_step iri_step line_step long_step slash_step escape_step
derives_IriRef (at.IriNumber left n) x = iri_after kinds.IriRef x left n ∙ digit_derives (λ r. iri_number r kinds.IriRef) at.Iri at.IriNumber is_iri_code kinds.IriRef (iri_never kinds.IriRef) (iri_nothing kinds.IriRef) (λ left n. refl) (hex_value x) left n
derives_IriRef (at.LineNumber q left n) x = line_after q kinds.IriRef x left n ∙ digit_derives (λ r. line_number q r kinds.IriRef) (at.Line q) (at.LineNumber q) is_scalar kinds.IriRef (line_never q kinds.IriRef) (line_nothing q kinds.IriRef) (λ left n. refl) (hex_value x) left n
derives_IriRef (at.LongNumber q left n) x = long_after q kinds.IriRef x left n ∙ digit_derives (λ r. long_number q r kinds.IriRef) (at.Long q) (at.LongNumber q) is_scalar kinds.IriRef (long_never q kinds.IriRef) (long_nothing q kinds.IriRef) (λ left n. refl) (hex_value x) left n
derives_IriRef (at.FirstQuote quotes.Double) (classes.Digit v) = refl
derives_IriRef (at.SecondQuote quotes.Double) (classes.Digit v) = refl
derives_IriRef (at.Line quotes.Double) (classes.Digit v) = refl
derives_IriRef (at.LineSlash quotes.Double) (classes.Digit v) = refl
derives_IriRef (at.Long quotes.Double) (classes.Digit v) = refl
derives_IriRef (at.LongOne quotes.Double) (classes.Digit v) = refl
derives_IriRef (at.LongTwo quotes.Double) (classes.Digit v) = refl
derives_IriRef (at.LongSlash quotes.Double) (classes.Digit v) = refl
derives_IriRef at.Start (classes.Digit v) = refl
derives_IriRef at.Start x = refl
derives_IriRef s (classes.Digit v) = refl
derives_IriRef s x = refl

derives_Name : (s : State) (x : Class) → after x (rest s kinds.Name) ≡ rest_of (stepped s x) kinds.Name
unfolding begin caret_step number_step word_step prefix_step prefix_dot_step first_local_step local_step label_step tag_step iri_step line_step long_step slash_step escape_step
derives_Name (at.IriNumber left n) x = iri_after kinds.Name x left n ∙ digit_derives (λ r. iri_number r kinds.Name) at.Iri at.IriNumber is_iri_code kinds.Name (iri_never kinds.Name) (iri_nothing kinds.Name) (λ left n. refl) (hex_value x) left n
derives_Name (at.LineNumber q left n) x = line_after q kinds.Name x left n ∙ digit_derives (λ r. line_number q r kinds.Name) (at.Line q) (at.LineNumber q) is_scalar kinds.Name (line_never q kinds.Name) (line_nothing q kinds.Name) (λ left n. refl) (hex_value x) left n
derives_Name (at.LongNumber q left n) x = long_after q kinds.Name x left n ∙ digit_derives (λ r. long_number q r kinds.Name) (at.Long q) (at.LongNumber q) is_scalar kinds.Name (long_never q kinds.Name) (long_nothing q kinds.Name) (λ left n. refl) (hex_value x) left n
derives_Name (at.FirstQuote quotes.Double) (classes.Digit v) = refl
derives_Name (at.SecondQuote quotes.Double) (classes.Digit v) = refl
derives_Name (at.Line quotes.Double) (classes.Digit v) = refl
derives_Name (at.LineSlash quotes.Double) (classes.Digit v) = refl
derives_Name (at.Long quotes.Double) (classes.Digit v) = refl
derives_Name (at.LongOne quotes.Double) (classes.Digit v) = refl
derives_Name (at.LongTwo quotes.Double) (classes.Digit v) = refl
derives_Name (at.LongSlash quotes.Double) (classes.Digit v) = refl
derives_Name at.Start (classes.Digit v) = refl
derives_Name at.Start x = refl
derives_Name s (classes.Digit v) = refl
derives_Name s x = refl

derives_BlankLabel : (s : State) (x : Class) → after x (rest s kinds.BlankLabel) ≡ rest_of (stepped s x) kinds.BlankLabel
unfolding begin caret_step number_step word_step prefix_step prefix_dot_step first_local_step local_step label_step tag_step iri_step line_step long_step slash_step escape_step
derives_BlankLabel (at.IriNumber left n) x = iri_after kinds.BlankLabel x left n ∙ digit_derives (λ r. iri_number r kinds.BlankLabel) at.Iri at.IriNumber is_iri_code kinds.BlankLabel (iri_never kinds.BlankLabel) (iri_nothing kinds.BlankLabel) (λ left n. refl) (hex_value x) left n
derives_BlankLabel (at.LineNumber q left n) x = line_after q kinds.BlankLabel x left n ∙ digit_derives (λ r. line_number q r kinds.BlankLabel) (at.Line q) (at.LineNumber q) is_scalar kinds.BlankLabel (line_never q kinds.BlankLabel) (line_nothing q kinds.BlankLabel) (λ left n. refl) (hex_value x) left n
derives_BlankLabel (at.LongNumber q left n) x = long_after q kinds.BlankLabel x left n ∙ digit_derives (λ r. long_number q r kinds.BlankLabel) (at.Long q) (at.LongNumber q) is_scalar kinds.BlankLabel (long_never q kinds.BlankLabel) (long_nothing q kinds.BlankLabel) (λ left n. refl) (hex_value x) left n
derives_BlankLabel (at.FirstQuote quotes.Double) (classes.Digit v) = refl
derives_BlankLabel (at.SecondQuote quotes.Double) (classes.Digit v) = refl
derives_BlankLabel (at.Line quotes.Double) (classes.Digit v) = refl
derives_BlankLabel (at.LineSlash quotes.Double) (classes.Digit v) = refl
derives_BlankLabel (at.Long quotes.Double) (classes.Digit v) = refl
derives_BlankLabel (at.LongOne quotes.Double) (classes.Digit v) = refl
derives_BlankLabel (at.LongTwo quotes.Double) (classes.Digit v) = refl
derives_BlankLabel (at.LongSlash quotes.Double) (classes.Digit v) = refl
derives_BlankLabel at.Start (classes.Digit v) = refl
derives_BlankLabel at.Start x = refl
derives_BlankLabel s (classes.Digit v) = refl
derives_BlankLabel s x = refl

derives_At : (s : State) (x : Class) → after x (rest s kinds.At) ≡ rest_of (stepped s x) kinds.At
unfolding begin caret_step number_step word_step prefix_step prefix_dot_step first_local_step local_step label_step tag_step iri_step line_step long_step slash_step escape_step
derives_At (at.IriNumber left n) x = iri_after kinds.At x left n ∙ digit_derives (λ r. iri_number r kinds.At) at.Iri at.IriNumber is_iri_code kinds.At (iri_never kinds.At) (iri_nothing kinds.At) (λ left n. refl) (hex_value x) left n
derives_At (at.LineNumber q left n) x = line_after q kinds.At x left n ∙ digit_derives (λ r. line_number q r kinds.At) (at.Line q) (at.LineNumber q) is_scalar kinds.At (line_never q kinds.At) (line_nothing q kinds.At) (λ left n. refl) (hex_value x) left n
derives_At (at.LongNumber q left n) x = long_after q kinds.At x left n ∙ digit_derives (λ r. long_number q r kinds.At) (at.Long q) (at.LongNumber q) is_scalar kinds.At (long_never q kinds.At) (long_nothing q kinds.At) (λ left n. refl) (hex_value x) left n
derives_At (at.FirstQuote quotes.Double) (classes.Digit v) = refl
derives_At (at.SecondQuote quotes.Double) (classes.Digit v) = refl
derives_At (at.Line quotes.Double) (classes.Digit v) = refl
derives_At (at.LineSlash quotes.Double) (classes.Digit v) = refl
derives_At (at.Long quotes.Double) (classes.Digit v) = refl
derives_At (at.LongOne quotes.Double) (classes.Digit v) = refl
derives_At (at.LongTwo quotes.Double) (classes.Digit v) = refl
derives_At (at.LongSlash quotes.Double) (classes.Digit v) = refl
derives_At at.Start (classes.Digit v) = refl
derives_At at.Start x = refl
derives_At s (classes.Digit v) = refl
derives_At s x = refl

derives_Quoted : (s : State) (x : Class) → after x (rest s kinds.Quoted) ≡ rest_of (stepped s x) kinds.Quoted
unfolding begin caret_step number_step word_step prefix_step prefix_dot_step first_local_step local_step label_step tag_step iri_step line_step long_step slash_step escape_step
derives_Quoted (at.IriNumber left n) x = iri_after kinds.Quoted x left n ∙ digit_derives (λ r. iri_number r kinds.Quoted) at.Iri at.IriNumber is_iri_code kinds.Quoted (iri_never kinds.Quoted) (iri_nothing kinds.Quoted) (λ left n. refl) (hex_value x) left n
derives_Quoted (at.LineNumber q left n) x = line_after q kinds.Quoted x left n ∙ digit_derives (λ r. line_number q r kinds.Quoted) (at.Line q) (at.LineNumber q) is_scalar kinds.Quoted (line_never q kinds.Quoted) (line_nothing q kinds.Quoted) (λ left n. refl) (hex_value x) left n
derives_Quoted (at.LongNumber q left n) x = long_after q kinds.Quoted x left n ∙ digit_derives (λ r. long_number q r kinds.Quoted) (at.Long q) (at.LongNumber q) is_scalar kinds.Quoted (long_never q kinds.Quoted) (long_nothing q kinds.Quoted) (λ left n. refl) (hex_value x) left n
derives_Quoted (at.FirstQuote quotes.Double) (classes.Digit v) = refl
derives_Quoted (at.SecondQuote quotes.Double) (classes.Digit v) = refl
derives_Quoted (at.Line quotes.Double) (classes.Digit v) = refl
derives_Quoted (at.LineSlash quotes.Double) (classes.Digit v) = refl
derives_Quoted (at.Long quotes.Double) (classes.Digit v) = refl
derives_Quoted (at.LongOne quotes.Double) (classes.Digit v) = refl
derives_Quoted (at.LongTwo quotes.Double) (classes.Digit v) = refl
derives_Quoted (at.LongSlash quotes.Double) (classes.Digit v) = refl
derives_Quoted at.Start (classes.Digit v) = refl
derives_Quoted at.Start x = refl
derives_Quoted s (classes.Digit v) = refl
derives_Quoted s x = refl

derives_Integer : (s : State) (x : Class) → after x (rest s kinds.Integer) ≡ rest_of (stepped s x) kinds.Integer
unfolding begin caret_step number_step word_step prefix_step prefix_dot_step first_local_step local_step label_step tag_step iri_step line_step long_step slash_step escape_step
derives_Integer (at.IriNumber left n) x = iri_after kinds.Integer x left n ∙ digit_derives (λ r. iri_number r kinds.Integer) at.Iri at.IriNumber is_iri_code kinds.Integer (iri_never kinds.Integer) (iri_nothing kinds.Integer) (λ left n. refl) (hex_value x) left n
derives_Integer (at.LineNumber q left n) x = line_after q kinds.Integer x left n ∙ digit_derives (λ r. line_number q r kinds.Integer) (at.Line q) (at.LineNumber q) is_scalar kinds.Integer (line_never q kinds.Integer) (line_nothing q kinds.Integer) (λ left n. refl) (hex_value x) left n
derives_Integer (at.LongNumber q left n) x = long_after q kinds.Integer x left n ∙ digit_derives (λ r. long_number q r kinds.Integer) (at.Long q) (at.LongNumber q) is_scalar kinds.Integer (long_never q kinds.Integer) (long_nothing q kinds.Integer) (λ left n. refl) (hex_value x) left n
derives_Integer (at.FirstQuote quotes.Double) (classes.Digit v) = refl
derives_Integer (at.SecondQuote quotes.Double) (classes.Digit v) = refl
derives_Integer (at.Line quotes.Double) (classes.Digit v) = refl
derives_Integer (at.LineSlash quotes.Double) (classes.Digit v) = refl
derives_Integer (at.Long quotes.Double) (classes.Digit v) = refl
derives_Integer (at.LongOne quotes.Double) (classes.Digit v) = refl
derives_Integer (at.LongTwo quotes.Double) (classes.Digit v) = refl
derives_Integer (at.LongSlash quotes.Double) (classes.Digit v) = refl
derives_Integer at.Start (classes.Digit v) = refl
derives_Integer at.Start x = refl
derives_Integer s (classes.Digit v) = refl
derives_Integer s x = refl

derives_Decimal : (s : State) (x : Class) → after x (rest s kinds.Decimal) ≡ rest_of (stepped s x) kinds.Decimal
unfolding begin caret_step number_step word_step prefix_step prefix_dot_step first_local_step local_step label_step tag_step iri_step line_step long_step slash_step escape_step
derives_Decimal (at.IriNumber left n) x = iri_after kinds.Decimal x left n ∙ digit_derives (λ r. iri_number r kinds.Decimal) at.Iri at.IriNumber is_iri_code kinds.Decimal (iri_never kinds.Decimal) (iri_nothing kinds.Decimal) (λ left n. refl) (hex_value x) left n
derives_Decimal (at.LineNumber q left n) x = line_after q kinds.Decimal x left n ∙ digit_derives (λ r. line_number q r kinds.Decimal) (at.Line q) (at.LineNumber q) is_scalar kinds.Decimal (line_never q kinds.Decimal) (line_nothing q kinds.Decimal) (λ left n. refl) (hex_value x) left n
derives_Decimal (at.LongNumber q left n) x = long_after q kinds.Decimal x left n ∙ digit_derives (λ r. long_number q r kinds.Decimal) (at.Long q) (at.LongNumber q) is_scalar kinds.Decimal (long_never q kinds.Decimal) (long_nothing q kinds.Decimal) (λ left n. refl) (hex_value x) left n
derives_Decimal (at.FirstQuote quotes.Double) (classes.Digit v) = refl
derives_Decimal (at.SecondQuote quotes.Double) (classes.Digit v) = refl
derives_Decimal (at.Line quotes.Double) (classes.Digit v) = refl
derives_Decimal (at.LineSlash quotes.Double) (classes.Digit v) = refl
derives_Decimal (at.Long quotes.Double) (classes.Digit v) = refl
derives_Decimal (at.LongOne quotes.Double) (classes.Digit v) = refl
derives_Decimal (at.LongTwo quotes.Double) (classes.Digit v) = refl
derives_Decimal (at.LongSlash quotes.Double) (classes.Digit v) = refl
derives_Decimal at.Start (classes.Digit v) = refl
derives_Decimal at.Start x = refl
derives_Decimal s (classes.Digit v) = refl
derives_Decimal s x = refl

derives_Double : (s : State) (x : Class) → after x (rest s kinds.Double) ≡ rest_of (stepped s x) kinds.Double
unfolding begin caret_step number_step word_step prefix_step prefix_dot_step first_local_step local_step label_step tag_step iri_step line_step long_step slash_step escape_step
derives_Double (at.IriNumber left n) x = iri_after kinds.Double x left n ∙ digit_derives (λ r. iri_number r kinds.Double) at.Iri at.IriNumber is_iri_code kinds.Double (iri_never kinds.Double) (iri_nothing kinds.Double) (λ left n. refl) (hex_value x) left n
derives_Double (at.LineNumber q left n) x = line_after q kinds.Double x left n ∙ digit_derives (λ r. line_number q r kinds.Double) (at.Line q) (at.LineNumber q) is_scalar kinds.Double (line_never q kinds.Double) (line_nothing q kinds.Double) (λ left n. refl) (hex_value x) left n
derives_Double (at.LongNumber q left n) x = long_after q kinds.Double x left n ∙ digit_derives (λ r. long_number q r kinds.Double) (at.Long q) (at.LongNumber q) is_scalar kinds.Double (long_never q kinds.Double) (long_nothing q kinds.Double) (λ left n. refl) (hex_value x) left n
derives_Double (at.FirstQuote quotes.Double) (classes.Digit v) = refl
derives_Double (at.SecondQuote quotes.Double) (classes.Digit v) = refl
derives_Double (at.Line quotes.Double) (classes.Digit v) = refl
derives_Double (at.LineSlash quotes.Double) (classes.Digit v) = refl
derives_Double (at.Long quotes.Double) (classes.Digit v) = refl
derives_Double (at.LongOne quotes.Double) (classes.Digit v) = refl
derives_Double (at.LongTwo quotes.Double) (classes.Digit v) = refl
derives_Double (at.LongSlash quotes.Double) (classes.Digit v) = refl
derives_Double at.Start (classes.Digit v) = refl
derives_Double at.Start x = refl
derives_Double s (classes.Digit v) = refl
derives_Double s x = refl

derives_Word : (s : State) (x : Class) → after x (rest s kinds.Word) ≡ rest_of (stepped s x) kinds.Word
unfolding begin caret_step number_step word_step prefix_step prefix_dot_step first_local_step local_step label_step tag_step iri_step line_step long_step slash_step escape_step
derives_Word (at.IriNumber left n) x = iri_after kinds.Word x left n ∙ digit_derives (λ r. iri_number r kinds.Word) at.Iri at.IriNumber is_iri_code kinds.Word (iri_never kinds.Word) (iri_nothing kinds.Word) (λ left n. refl) (hex_value x) left n
derives_Word (at.LineNumber q left n) x = line_after q kinds.Word x left n ∙ digit_derives (λ r. line_number q r kinds.Word) (at.Line q) (at.LineNumber q) is_scalar kinds.Word (line_never q kinds.Word) (line_nothing q kinds.Word) (λ left n. refl) (hex_value x) left n
derives_Word (at.LongNumber q left n) x = long_after q kinds.Word x left n ∙ digit_derives (λ r. long_number q r kinds.Word) (at.Long q) (at.LongNumber q) is_scalar kinds.Word (long_never q kinds.Word) (long_nothing q kinds.Word) (λ left n. refl) (hex_value x) left n
derives_Word (at.FirstQuote quotes.Double) (classes.Digit v) = refl
derives_Word (at.SecondQuote quotes.Double) (classes.Digit v) = refl
derives_Word (at.Line quotes.Double) (classes.Digit v) = refl
derives_Word (at.LineSlash quotes.Double) (classes.Digit v) = refl
derives_Word (at.Long quotes.Double) (classes.Digit v) = refl
derives_Word (at.LongOne quotes.Double) (classes.Digit v) = refl
derives_Word (at.LongTwo quotes.Double) (classes.Digit v) = refl
derives_Word (at.LongSlash quotes.Double) (classes.Digit v) = refl
derives_Word at.Start (classes.Digit v) = refl
derives_Word at.Start x = refl
derives_Word s (classes.Digit v) = refl
derives_Word s x = refl

derives_Mark : (s : State) (x : Class) → after x (rest s kinds.Mark) ≡ rest_of (stepped s x) kinds.Mark
unfolding begin caret_step number_step word_step prefix_step prefix_dot_step first_local_step local_step label_step tag_step iri_step line_step long_step slash_step escape_step
derives_Mark (at.IriNumber left n) x = iri_after kinds.Mark x left n ∙ digit_derives (λ r. iri_number r kinds.Mark) at.Iri at.IriNumber is_iri_code kinds.Mark (iri_never kinds.Mark) (iri_nothing kinds.Mark) (λ left n. refl) (hex_value x) left n
derives_Mark (at.LineNumber q left n) x = line_after q kinds.Mark x left n ∙ digit_derives (λ r. line_number q r kinds.Mark) (at.Line q) (at.LineNumber q) is_scalar kinds.Mark (line_never q kinds.Mark) (line_nothing q kinds.Mark) (λ left n. refl) (hex_value x) left n
derives_Mark (at.LongNumber q left n) x = long_after q kinds.Mark x left n ∙ digit_derives (λ r. long_number q r kinds.Mark) (at.Long q) (at.LongNumber q) is_scalar kinds.Mark (long_never q kinds.Mark) (long_nothing q kinds.Mark) (λ left n. refl) (hex_value x) left n
derives_Mark (at.FirstQuote quotes.Double) (classes.Digit v) = refl
derives_Mark (at.SecondQuote quotes.Double) (classes.Digit v) = refl
derives_Mark (at.Line quotes.Double) (classes.Digit v) = refl
derives_Mark (at.LineSlash quotes.Double) (classes.Digit v) = refl
derives_Mark (at.Long quotes.Double) (classes.Digit v) = refl
derives_Mark (at.LongOne quotes.Double) (classes.Digit v) = refl
derives_Mark (at.LongTwo quotes.Double) (classes.Digit v) = refl
derives_Mark (at.LongSlash quotes.Double) (classes.Digit v) = refl
derives_Mark at.Start (classes.Digit v) = refl
derives_Mark at.Start x = refl
derives_Mark s (classes.Digit v) = refl
derives_Mark s x = refl

derives_Bad : (s : State) (x : Class) → after x (rest s kinds.Bad) ≡ rest_of (stepped s x) kinds.Bad
unfolding begin caret_step number_step word_step prefix_step prefix_dot_step first_local_step local_step label_step tag_step iri_step line_step long_step slash_step escape_step
derives_Bad (at.IriNumber left n) x = iri_after kinds.Bad x left n ∙ digit_derives (λ r. iri_number r kinds.Bad) at.Iri at.IriNumber is_iri_code kinds.Bad (iri_never kinds.Bad) (iri_nothing kinds.Bad) (λ left n. refl) (hex_value x) left n
derives_Bad (at.LineNumber q left n) x = line_after q kinds.Bad x left n ∙ digit_derives (λ r. line_number q r kinds.Bad) (at.Line q) (at.LineNumber q) is_scalar kinds.Bad (line_never q kinds.Bad) (line_nothing q kinds.Bad) (λ left n. refl) (hex_value x) left n
derives_Bad (at.LongNumber q left n) x = long_after q kinds.Bad x left n ∙ digit_derives (λ r. long_number q r kinds.Bad) (at.Long q) (at.LongNumber q) is_scalar kinds.Bad (long_never q kinds.Bad) (long_nothing q kinds.Bad) (λ left n. refl) (hex_value x) left n
derives_Bad (at.FirstQuote quotes.Double) (classes.Digit v) = refl
derives_Bad (at.SecondQuote quotes.Double) (classes.Digit v) = refl
derives_Bad (at.Line quotes.Double) (classes.Digit v) = refl
derives_Bad (at.LineSlash quotes.Double) (classes.Digit v) = refl
derives_Bad (at.Long quotes.Double) (classes.Digit v) = refl
derives_Bad (at.LongOne quotes.Double) (classes.Digit v) = refl
derives_Bad (at.LongTwo quotes.Double) (classes.Digit v) = refl
derives_Bad (at.LongSlash quotes.Double) (classes.Digit v) = refl
derives_Bad at.Start (classes.Digit v) = refl
derives_Bad at.Start x = refl
derives_Bad s (classes.Digit v) = refl
derives_Bad s x = refl

derives_End : (s : State) (x : Class) → after x (rest s kinds.End) ≡ rest_of (stepped s x) kinds.End
unfolding begin caret_step number_step word_step prefix_step prefix_dot_step first_local_step local_step label_step tag_step iri_step line_step long_step slash_step escape_step
derives_End (at.IriNumber left n) x = iri_after kinds.End x left n ∙ digit_derives (λ r. iri_number r kinds.End) at.Iri at.IriNumber is_iri_code kinds.End (iri_never kinds.End) (iri_nothing kinds.End) (λ left n. refl) (hex_value x) left n
derives_End (at.LineNumber q left n) x = line_after q kinds.End x left n ∙ digit_derives (λ r. line_number q r kinds.End) (at.Line q) (at.LineNumber q) is_scalar kinds.End (line_never q kinds.End) (line_nothing q kinds.End) (λ left n. refl) (hex_value x) left n
derives_End (at.LongNumber q left n) x = long_after q kinds.End x left n ∙ digit_derives (λ r. long_number q r kinds.End) (at.Long q) (at.LongNumber q) is_scalar kinds.End (long_never q kinds.End) (long_nothing q kinds.End) (λ left n. refl) (hex_value x) left n
derives_End (at.FirstQuote quotes.Double) (classes.Digit v) = refl
derives_End (at.SecondQuote quotes.Double) (classes.Digit v) = refl
derives_End (at.Line quotes.Double) (classes.Digit v) = refl
derives_End (at.LineSlash quotes.Double) (classes.Digit v) = refl
derives_End (at.Long quotes.Double) (classes.Digit v) = refl
derives_End (at.LongOne quotes.Double) (classes.Digit v) = refl
derives_End (at.LongTwo quotes.Double) (classes.Digit v) = refl
derives_End (at.LongSlash quotes.Double) (classes.Digit v) = refl
derives_End at.Start (classes.Digit v) = refl
derives_End at.Start x = refl
derives_End s (classes.Digit v) = refl
derives_End s x = refl

-- what a kind wants behind a character is what it wants in the state that the character leads to
pub derives : (s : State) (x : Class) (k : TurtleKind) → after x (rest s k) ≡ rest_of (stepped s x) k
derives s x kinds.IriRef = derives_IriRef s x
derives s x kinds.Name = derives_Name s x
derives s x kinds.BlankLabel = derives_BlankLabel s x
derives s x kinds.At = derives_At s x
derives s x kinds.Quoted = derives_Quoted s x
derives s x kinds.Integer = derives_Integer s x
derives s x kinds.Decimal = derives_Decimal s x
derives s x kinds.Double = derives_Double s x
derives s x kinds.Word = derives_Word s x
derives s x kinds.Mark = derives_Mark s x
derives s x kinds.Bad = derives_Bad s x
derives s x kinds.End = derives_End s x

-- ---- the automaton decides the rules

abbrev pub is_kind : TurtleKind → Option TurtleKind → Bool
is_kind k None = false
is_kind kinds.IriRef (Some kinds.IriRef) = true
is_kind kinds.Name (Some kinds.Name) = true
is_kind kinds.BlankLabel (Some kinds.BlankLabel) = true
is_kind kinds.At (Some kinds.At) = true
is_kind kinds.Quoted (Some kinds.Quoted) = true
is_kind kinds.Integer (Some kinds.Integer) = true
is_kind kinds.Decimal (Some kinds.Decimal) = true
is_kind kinds.Double (Some kinds.Double) = true
is_kind kinds.Word (Some kinds.Word) = true
is_kind kinds.Mark (Some kinds.Mark) = true
is_kind k (Some j) = false

-- no token is Bad or End
abbrev pub is_read : Option TurtleKind → Bool
is_read (Some kinds.Bad) = false
is_read (Some kinds.End) = false
is_read _ = true

pub all_read : (s : State) → is_read (kind_of s) ≡ true
all_read at.Start = refl
all_read s = refl

pub ends : (s : State) (k : TurtleKind) → may_end (rest s k) ≡ is_kind k (kind_of s)
ends at.Start kinds.IriRef = refl
ends (at.FirstQuote quotes.Double) kinds.IriRef = refl
ends (at.SecondQuote quotes.Double) kinds.IriRef = refl
ends (at.Line quotes.Double) kinds.IriRef = refl
ends (at.LineSlash quotes.Double) kinds.IriRef = refl
ends (at.Long quotes.Double) kinds.IriRef = refl
ends (at.LongOne quotes.Double) kinds.IriRef = refl
ends (at.LongTwo quotes.Double) kinds.IriRef = refl
ends (at.LongSlash quotes.Double) kinds.IriRef = refl
ends at.Start k = refl
ends s kinds.IriRef = refl
ends s k = refl

decided : (xs : List Class) (s : Option State) (k : TurtleKind) → allows (rest_of s k) xs ≡ is_kind k (kind_in stepped kind_of (run stepped kind_of s xs))
decided [] None k = refl
decided [] (Some s) k = ends s k
decided (x ∷ xs) None k = decided xs None k
decided (x ∷ xs) (Some s) k = ap (λ r. allows r xs) (derives s x k) ∙ decided xs (stepped s x) k

pub kind_is : (k : TurtleKind) (o : Option TurtleKind) → is_kind k o ≡ true → o ≡ Some k
kind_is k None e = absurd cc
kind_is kinds.IriRef (Some kinds.IriRef) e = refl
kind_is kinds.Name (Some kinds.Name) e = refl
kind_is kinds.BlankLabel (Some kinds.BlankLabel) e = refl
kind_is kinds.At (Some kinds.At) e = refl
kind_is kinds.Quoted (Some kinds.Quoted) e = refl
kind_is kinds.Integer (Some kinds.Integer) e = refl
kind_is kinds.Decimal (Some kinds.Decimal) e = refl
kind_is kinds.Double (Some kinds.Double) e = refl
kind_is kinds.Word (Some kinds.Word) e = refl
kind_is kinds.Mark (Some kinds.Mark) e = refl
kind_is _ _ e = absurd cc

pub is_kind_self : (k : TurtleKind) → is_read (Some k) ≡ true → is_kind k (Some k) ≡ true
is_kind_self kinds.Bad e = absurd cc
is_kind_self kinds.End e = absurd cc
is_kind_self k e = refl

read_in : (o : Option State) → is_read (kind_in stepped kind_of o) ≡ true
read_in None = refl
read_in (Some s) = all_read s

pub turtle_decides : Decides stepped kind_of rule_of at.Start
turtle_decides = record {
  allowed = λ xs k e. decided xs (Some at.Start) k ∙ ap (is_kind k) e ∙ is_kind_self k (sym (ap is_read e) ∙ read_in (run stepped kind_of (Some at.Start) xs));
  only = λ xs k e. kind_is k _ (sym (decided xs (Some at.Start) k) ∙ e);
}

-- no text is of two kinds
pub sole_kind : (xs : List Class) (j k : TurtleKind) → allows (rule_of j) xs ≡ true → allows (rule_of k) xs ≡ true → j ≡ k
sole_kind xs j k e f = let p = turtle_decides.only xs j e in let q = turtle_decides.only xs k f in cc
