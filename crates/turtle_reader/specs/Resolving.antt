-- The tokens of a text with what they stand for, up to the first that nothing may take.
use Rattle.std.specs.Prelude.{◌≡◌, ℕ, ◌+◌, ◌-◌, ◌&&◌, Bool, true, false, not, nat_lt, List, [], ◌∷◌, ◌++◌, length, take, Option, Some, None, Result, Ok, Err, bytes_eq, slice_get, slice_range, codes, ⊤, if◌then◌else◌}
use Rattle.std.specs.Map.{lookup}
use Rattle.indexmap.specs.IndexMap.{insert_entry}
use Rattle.terminals.specs.Values.{iri_text, string_text, prefix_text, local_text, label_text, tag_text}
use Rattle.terminals.specs.Texts.{plain}
use Rattle.turtle_lexer.specs.declared.kind.TurtleKind.{TurtleKind}
use Rattle.turtle_lexer.specs.declared.kind.TurtleKind.TheVariants as lexed
use Rattle.turtle_lexer.specs.declared.token.Token.{Token as Lexed}
use Rattle.turtle_reader.specs.declared.token_fault.Fault.{Fault}
use Rattle.turtle_reader.specs.declared.token_fault.Fault.TheVariants.{Syntax, Deep}
use Rattle.turtle_reader.specs.declared.token_fault.ResolveError.{ResolveError}
use Rattle.turtle_reader.specs.declared.token_fault.ResolveError.TheVariants as errors
use Rattle.turtle_reader.specs.declared.kind.Kind.{Kind}
use Rattle.turtle_reader.specs.declared.kind.Kind.TheVariants as kinds
use Rattle.turtle_reader.specs.declared.kind.Token.{Token}
use Rattle.turtle_reader.specs.declared.state.Before.{Before}
use Rattle.turtle_reader.specs.declared.state.Before.TheVariants as before
use Rattle.turtle_reader.specs.declared.state.Bracket.{Bracket}
use Rattle.turtle_reader.specs.declared.state.Bracket.TheVariants as brackets
use Rattle.turtle_reader.specs.declared.state.Resolver.{Resolver}
use Rattle.turtle_reader.specs.declared.resolving.Resolved.{Resolved}
use Rattle.turtle_reader.specs.declared.words.Word.{Word}
use Rattle.turtle_reader.specs.declared.words.Word.TheVariants as words
use Rattle.turtle_reader.specs.declared.words.Mark.{Mark}
use Rattle.turtle_reader.specs.declared.words.Mark.TheVariants as marks
use Rattle.iri_core.specs.Iris.{resolved_iri, prefixed_iri}
use Rattle.turtle_reader.specs.Words.{word_of, mark_of, begins_object}

-- how many brackets may be open at once
abbrev pub most_open : ℕ
most_open = 64

-- ---- what is known of the tokens before (RDF 1.1 Turtle, section 7.1)

pub record State : Type 0 where
  -- the base in force
  pub base : List ℕ
  -- each prefix with its IRI
  pub prefixes : List (List ℕ × List ℕ)
  -- what stands before the token, where it matters
  pub before : Before
  -- each label with the number of its blank node
  pub labels : List (List ℕ × ℕ)
  -- how many blank nodes have appeared
  pub blanks : ℕ
  -- the brackets that are open, the innermost last
  pub open' : List Bracket

abbrev pub view : Resolver → State
view s =
    record { base = s.base; prefixes = s.prefixes.entries; before = s.before; labels = s.labels.entries; blanks = s.blanks; open' = s.open.items }

abbrev pub begin : List ℕ → State
begin base = record { base = base; prefixes = []; before = before.Other; labels = []; blanks = 0; open' = [] }

-- ---- what a token stands for by itself

abbrev pub needed : Option (List ℕ) → ℕ → Result (List ℕ) Fault
needed (Some text) from = Ok text
needed None from = Err (Syntax from)

abbrev pub then' : {A B : Type 0} → (A → Result B Fault) → Result A Fault → Result B Fault
then' f (Ok a) = f a
then' f (Err x) = Err x

-- numbers and booleans keep their text
abbrev pub literal : List ℕ → List ℕ → ℕ → Result Kind Fault
literal datatype bytes from = then' (λ lexical. Ok (kinds.Literal datatype lexical)) (needed (plain bytes) from)

abbrev pub tag : List ℕ → ℕ → Result Kind Fault
tag bytes from = then' (λ t. Ok (kinds.Tag t)) (needed (plain (tag_text bytes)) from)

-- ---- steps

abbrev pub Step : Type 0
Step = Result (Kind × State) Fault

-- a kind that changes nothing
abbrev pub still : State → Result Kind Fault → Step
still s (Ok k) = Ok (k, s)
still s (Err x) = Err x

abbrev pub with_blank : State → State
with_blank s = record s { blanks = s.blanks + 1 }

-- the bracket past the limit is too deep
abbrev pub open_bracket : Bracket → ℕ → State → Result State Fault
open_bracket b from s = if nat_lt (length s.open') most_open then Ok (record s { open' = s.open' ++ b ∷ [] }) else Err (Deep from)

-- a blank node appears where `[` stands
abbrev pub open_square : ℕ → State → Step
open_square from s = then' (λ next. Ok (kinds.OpenSquare next.blanks, with_blank next)) (open_bracket brackets.Square from s)

abbrev pub open_paren : ℕ → State → Step
open_paren from s = then' (λ next. Ok (kinds.OpenParen, next)) (open_bracket brackets.Paren from s)

-- the innermost bracket is shut; which kind of bracket may shut is the grammar's affair
abbrev pub shut_bracket : Kind → State → Step
shut_bracket k s = Ok (k, record s { open' = take (length s.open' - 1) s.open' })

abbrev pub mark_by : Mark → ℕ → State → Step
mark_by marks.Dot from s = Ok (kinds.Dot, s)
mark_by marks.Semicolon from s = Ok (kinds.Semicolon, s)
mark_by marks.Comma from s = Ok (kinds.Comma, s)
mark_by marks.OpenSquare from s = open_square from s
mark_by marks.ShutSquare from s = shut_bracket kinds.ShutSquare s
mark_by marks.OpenParen from s = open_paren from s
mark_by marks.ShutParen from s = shut_bracket kinds.ShutParen s
mark_by marks.Carets from s = Ok (kinds.Carets, record s { before = before.Carets })
mark_by marks.Unknown from s = Ok (kinds.Unknown, s)

abbrev pub mark : List ℕ → ℕ → State → Step
mark bytes from s = mark_by (mark_of bytes) from s

-- the words of a declaration matter to the token behind them
abbrev pub word_by : Word → List ℕ → ℕ → State → Step
word_by words.A bytes from s = Ok (kinds.A, s)
word_by words.True bytes from s = still s (literal (codes "http://www.w3.org/2001/XMLSchema#boolean") bytes from)
word_by words.False bytes from s = still s (literal (codes "http://www.w3.org/2001/XMLSchema#boolean") bytes from)
word_by words.Prefix bytes from s = Ok (kinds.Prefix, record s { before = before.Prefix })
word_by words.Base bytes from s = Ok (kinds.Base, record s { before = before.Base })
word_by words.Unknown bytes from s = Ok (kinds.Unknown, s)

abbrev pub word : List ℕ → ℕ → State → Step
word bytes from s = word_by (word_of bytes) bytes from s

-- `@prefix` and `@base` are read only as written
abbrev pub at_word_alone : List ℕ → ℕ → State → Step
at_word_alone bytes from s =
    if bytes_eq bytes (codes "@prefix") then Ok (kinds.AtPrefix, record s { before = before.Prefix })
    else (if bytes_eq bytes (codes "@base") then Ok (kinds.AtBase, record s { before = before.Base })
    else still s (tag bytes from))

-- behind a string each is its tag, since a tag may stand there
abbrev pub at_word : Before → List ℕ → ℕ → State → Step
at_word before.Text bytes from s = still s (tag bytes from)
at_word b bytes from s = at_word_alone bytes from s

abbrev pub text : List ℕ → ℕ → State → Step
text bytes from s = then' (λ t. Ok (kinds.Text t, record s { before = before.Text })) (needed (plain (string_text bytes)) from)

-- a label's blank node appears at its first use
abbrev pub new_label : List ℕ → State → Step
new_label l s = Ok (kinds.Label s.blanks, with_blank (record s { labels = insert_entry bytes_eq s.labels l s.blanks }))

abbrev pub label_by : Option ℕ → List ℕ → State → Step
label_by (Some n) l s = Ok (kinds.Label n, s)
label_by None l s = new_label l s

abbrev pub label : List ℕ → ℕ → State → Step
label bytes from s = then' (λ l. label_by (lookup (bytes_eq l) s.labels) l s) (needed (plain (label_text bytes)) from)

-- what an IRIREF declares, by what stands before it
abbrev pub declared : Before → List ℕ → State → State
declared before.Other iri s = s
declared before.Base iri s = record s { base = iri }
declared before.Prefix iri s = s
declared (before.Named prefix) iri s = record s { prefixes = insert_entry bytes_eq s.prefixes prefix iri }
declared before.Text iri s = s
declared before.Carets iri s = s

abbrev pub iri_ref : Before → List ℕ → ℕ → State → Step
iri_ref b bytes from s =
    then' (λ t. then' (λ iri. Ok (kinds.IriRef iri, declared b iri s)) (needed (resolved_iri s.base t) from)) (needed (plain (iri_text bytes)) from)

-- a prefixed name is refused where its prefix is not declared
abbrev pub long_name_by : Option (List ℕ) → List ℕ → ℕ → Result Kind Fault
long_name_by (Some iri) local from = then' (λ i. Ok (kinds.Name i)) (needed (prefixed_iri iri local) from)
long_name_by None local from = Err (Syntax from)

abbrev pub long_name : List ℕ → List ℕ → ℕ → State → Result Kind Fault
long_name prefix local from s = long_name_by (lookup (bytes_eq prefix) s.prefixes) local from

abbrev pub is_empty : List ℕ → Bool
is_empty [] = true
is_empty _ = false

abbrev pub name_by : Before → List ℕ → List ℕ → ℕ → State → Step
name_by before.Prefix prefix local from s = if is_empty local then Ok (kinds.Namespace, record s { before = before.Named prefix }) else still s (long_name prefix local from s)
name_by b prefix local from s = still s (long_name prefix local from s)

abbrev pub name : Before → List ℕ → ℕ → State → Step
name b bytes from s = then' (λ prefix. then' (λ local. name_by b prefix local from s) (needed (plain (local_text bytes)) from)) (needed (plain (prefix_text bytes)) from)

abbrev pub kind_by : TurtleKind → List ℕ → ℕ → Before → State → Step
kind_by lexed.Bad bytes from b s = Err (Syntax from)
kind_by lexed.End bytes from b s = Ok (kinds.End, s)
kind_by lexed.IriRef bytes from b s = iri_ref b bytes from s
kind_by lexed.Name bytes from b s = name b bytes from s
kind_by lexed.BlankLabel bytes from b s = label bytes from s
kind_by lexed.At bytes from b s = at_word b bytes from s
kind_by lexed.Quoted bytes from b s = text bytes from s
kind_by lexed.Integer bytes from b s = still s (literal (codes "http://www.w3.org/2001/XMLSchema#integer") bytes from)
kind_by lexed.Decimal bytes from b s = still s (literal (codes "http://www.w3.org/2001/XMLSchema#decimal") bytes from)
kind_by lexed.Double bytes from b s = still s (literal (codes "http://www.w3.org/2001/XMLSchema#double") bytes from)
kind_by lexed.Word bytes from b s = word bytes from s
kind_by lexed.Mark bytes from b s = mark bytes from s

abbrev pub step_by : List ℕ → Lexed → Before → State → Step
step_by bytes t b s = kind_by t.kind bytes t.from b s

abbrev pub is_paren : Option Bracket → Bool
is_paren (Some brackets.Paren) = true
is_paren _ = false

-- a list's bracket is the innermost that is open
abbrev pub is_in_list : State → Bool
is_in_list s = is_paren (slice_get s.open' (length s.open' - 1))

abbrev pub is_carets : Before → Bool
is_carets before.Carets = true
is_carets _ = false

-- The cell of a list appears where its item begins: at a token that can begin an object, directly in the list, unless it is the datatype of a literal.
abbrev pub item_begun : Before → TurtleKind → List ℕ → State → State
item_begun b k bytes s = if not (is_carets b) && (is_in_list s && begins_object k bytes) then with_blank s else s

-- what the token with these bytes is, and what is known behind it
abbrev pub step : List ℕ → Lexed → State → Step
step bytes t s = step_by bytes t s.before (item_begun s.before t.kind bytes (record s { before = before.Other }))

-- ---- all tokens

abbrev pub bytes_of : List ℕ → Lexed → List ℕ
bytes_of bytes t = slice_range bytes t.from t.to

-- the tokens up to the first fault, and the fault
pub record Resolving : Type 0 where
  pub tokens : List Token
  pub stop : Fault

abbrev pub token : Kind → ℕ → ℕ → Token
token k from cell = record { kind = k; from = from; cell = cell }

abbrev pub resolving_by : Step → (Kind → State → Resolving) → List Token → Resolving
resolving_by (Ok x) go tokens = go x.0 x.1
resolving_by (Err f) go tokens = record { tokens = tokens; stop = f }

-- a text that is cut short is at fault at its end
unfoldable pub resolve_from : List ℕ → State → List Token → List Lexed → Resolving
resolve_from bytes s tokens [] = record { tokens = tokens; stop = Syntax (length bytes) }
resolve_from bytes s tokens (t ∷ ts) = resolving_by (step (bytes_of bytes t) t s) (λ k next. resolve_from bytes next (tokens ++ token k t.from s.blanks ∷ []) ts) tokens

-- the tokens of a text, which the lexer gave, up to the first fault, under a base
abbrev pub resolving : List ℕ → List ℕ → List Lexed → Resolving
resolving base bytes ts = resolve_from bytes (begin base) [] ts

-- ---- what the code gives

abbrev pub Fails : {Y : Type 0} → ResolveError → Result Y Fault → Type 0
Fails errors.Memory want = Unit {0}
Fails (errors.Fault f) want = want ≡ Err f

abbrev pub Gives : {X Y : Type 0} → (X → Y) → Result X ResolveError → Result Y Fault → Type 0
Gives see (Ok x) want = want ≡ Ok (see x)
Gives see (Err e) want = Fails e want

abbrev pub Steps : Resolver → Result Kind ResolveError → Step → Type 0
Steps new (Ok k) want = want ≡ Ok (k, view new)
Steps new (Err e) want = Fails e want

-- a step that gives no kind
abbrev pub Opens : Resolver → Result ⊤ ResolveError → Result State Fault → Type 0
Opens new (Ok x) want = want ≡ Ok (view new)
Opens new (Err e) want = Fails e want

-- and is never a fault
abbrev pub StepsAlone : Resolver → Result ⊤ ResolveError → State → Type 0
StepsAlone new (Ok x) want = want ≡ view new
StepsAlone new (Err e) want = e ≡ errors.Memory

-- a number for a blank node that appears
abbrev pub Numbers : State → State → Result ℕ ResolveError → Type 0
Numbers old new (Ok n) = (n ≡ old.blanks) × (new ≡ with_blank old)
Numbers old new (Err e) = e ≡ errors.Memory

abbrev pub Begins : List ℕ → Result Resolver ResolveError → Type 0
Begins base (Ok s) = view s ≡ begin base
Begins base (Err e) = e ≡ errors.Memory

abbrev pub resolved : Resolved → Resolving
resolved s = record { tokens = s.tokens.items; stop = s.stop }
