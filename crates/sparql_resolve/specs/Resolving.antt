-- The tokens of a query with what they stand for, up to the first that nothing may take.
use Rattle.std.specs.Prelude.{◌≡◌, ℕ, ◌+◌, ◌-◌, ◌==◌, ◌&&◌, Bool, true, false, not, nat_lt, List, [], ◌∷◌, ◌++◌, length, Option, Some, None, Result, Ok, Err, position, bytes_eq, slice_range, codes, ⊤, min, unwrap_or, if◌then◌else◌}
use Rattle.std.specs.Map.{lookup}
use Rattle.indexmap.specs.IndexMap.{insert_entry}
use Rattle.terminals.specs.Values.{iri_text, string_text, prefix_text, local_text, label_text, tag_text}
use Rattle.terminals.specs.Texts.{plain, variable_text}
use Rattle.sparql_lexer.specs.declared.kind.QueryKind.{QueryKind}
use Rattle.sparql_lexer.specs.declared.kind.QueryKind.TheVariants as lexed
use Rattle.sparql_lexer.specs.declared.token.QueryToken.{QueryToken}
use Rattle.sparql_resolve.specs.declared.fault.Fault.{Fault}
use Rattle.sparql_resolve.specs.declared.fault.Fault.TheVariants.{Syntax, Deep}
use Rattle.sparql_resolve.specs.declared.fault.ResolveError.{ResolveError}
use Rattle.sparql_resolve.specs.declared.fault.ResolveError.TheVariants as errors
use Rattle.sparql_resolve.specs.declared.kind.Kind.{Kind}
use Rattle.sparql_resolve.specs.declared.kind.Kind.TheVariants as kinds
use Rattle.sparql_resolve.specs.declared.kind.Token.{Token}
use Rattle.sparql_resolve.specs.declared.state.Before.{Before}
use Rattle.sparql_resolve.specs.declared.state.Before.TheVariants as before
use Rattle.sparql_resolve.specs.declared.state.Resolver.{Resolver}
use Rattle.sparql_resolve.specs.declared.resolving.Passed.{Passed}
use Rattle.sparql_resolve.specs.declared.resolving.Resolved.{Resolved}
use Rattle.sparql_resolve.specs.Iris.{iri_of}
use Rattle.iri_core.specs.Iris.{prefixed_iri}
use Rattle.sparql_resolve.specs.Marks.{mark_kind}
use Rattle.sparql_resolve.specs.Names.{add_name, most_names}
use Rattle.sparql_resolve.specs.Words.{word_kind}

-- how many brackets may be open at once, and how many groups may stand in a query
abbrev pub most_open : ℕ
most_open = 32

abbrev pub most_groups : ℕ
most_groups = 256

-- ---- what is known of the tokens before

pub record State : Type 0 where
  -- the base, where one is declared
  pub base : Option (List ℕ)
  -- each prefix with its IRI
  pub prefixes : List (List ℕ × List ℕ)
  -- what stands before the token, where it matters
  pub before : Before
  -- where the token before ended
  pub end : ℕ
  -- each label with the number of its variable, and the brace that stands last before its first use
  pub labels : List (List ℕ × (ℕ × ℕ))
  -- the variables that blank nodes have made
  pub blanks : ℕ
  -- the brackets that are open, the groups that have begun, and the place of the last brace
  pub open' : ℕ
  pub groups : ℕ
  pub brace : ℕ

abbrev pub view : Resolver → State
view s =
    record {
      base = s.base;
      prefixes = s.prefixes.entries;
      before = s.before;
      end = s.end;
      labels = s.labels.entries;
      blanks = s.blanks;
      open' = s.open;
      groups = s.groups;
      brace = s.brace;
    }

abbrev pub begin : State
begin = record { base = None; prefixes = []; before = before.Other; end = 0; labels = []; blanks = 0; open' = 0; groups = 0; brace = 0 }

-- ---- what a token stands for by itself

abbrev pub needed : Option (List ℕ) → ℕ → Result (List ℕ) Fault
needed (Some text) from = Ok text
needed None from = Err (Syntax from)

abbrev pub then' : {A B : Type 0} → (A → Result B Fault) → Result A Fault → Result B Fault
then' f (Ok a) = f a
then' f (Err x) = Err x

-- a variable by its place among the names
abbrev pub variable_by : Option ℕ → ℕ → Result Kind Fault
variable_by (Some n) from = if nat_lt n most_names then Ok (kinds.Var n) else Err (Syntax from)
variable_by None from = Err (Syntax from)

abbrev pub variable : List (List ℕ) → List ℕ → ℕ → Result Kind Fault
variable names bytes from = then' (λ name. variable_by (position (bytes_eq name) names) from) (needed (plain (variable_text bytes)) from)

abbrev pub number : List ℕ → List ℕ → Bool → ℕ → Result Kind Fault
number datatype bytes touches from = then' (λ lexical. Ok (kinds.Number datatype lexical touches)) (needed (plain bytes) from)

abbrev pub text : List ℕ → ℕ → Result Kind Fault
text bytes from = then' (λ t. Ok (kinds.Text t)) (needed (plain (string_text bytes)) from)

abbrev pub tag : List ℕ → ℕ → Result Kind Fault
tag bytes from = then' (λ t. Ok (kinds.Tag t)) (needed (plain (tag_text bytes)) from)

-- blank nodes are numbered on from the number of names
abbrev pub blank_number : ℕ → ℕ → ℕ → Result ℕ Fault
blank_number names blanks from = if nat_lt (names + blanks) most_names then Ok (names + blanks) else Err (Syntax from)

-- ---- steps

abbrev pub Step : Type 0
Step = Result (Kind × State) Fault

-- a kind that changes nothing
abbrev pub still : State → Result Kind Fault → Step
still s (Ok k) = Ok (k, s)
still s (Err x) = Err x

-- the bracket past the limit is too deep
abbrev pub open_bracket : Kind → ℕ → State → Step
open_bracket k from s = if nat_lt s.open' most_open then Ok (k, record s { open' = s.open' + 1 }) else Err (Deep from)

-- and so is the group past the limit
abbrev pub open_brace : ℕ → State → Step
open_brace from s =
    if nat_lt s.open' most_open then (if nat_lt s.groups most_groups then Ok (kinds.OpenBrace, record s { open' = s.open' + 1; groups = s.groups + 1; brace = from }) else Err (Deep from)) else Err (Deep from)

abbrev pub open_square : ℕ → ℕ → State → Step
open_square names from s =
    if nat_lt s.open' most_open then then' (λ n. Ok (kinds.OpenSquare n, record s { open' = s.open' + 1; blanks = s.blanks + 1 })) (blank_number names s.blanks from) else Err (Deep from)

abbrev pub shut_bracket : Kind → State → Step
shut_bracket k s = Ok (k, record s { open' = s.open' - 1 })

abbrev pub shut_brace : ℕ → State → Step
shut_brace from s = Ok (kinds.ShutBrace, record s { open' = s.open' - 1; brace = from })

abbrev pub mark_by : Kind → ℕ → ℕ → State → Step
mark_by kinds.OpenBrace names from s = open_brace from s
mark_by (kinds.OpenSquare n) names from s = open_square names from s
mark_by kinds.OpenParen names from s = open_bracket kinds.OpenParen from s
mark_by kinds.ShutBrace names from s = shut_brace from s
mark_by kinds.ShutSquare names from s = shut_bracket kinds.ShutSquare s
mark_by kinds.ShutParen names from s = shut_bracket kinds.ShutParen s
mark_by k names from s = Ok (k, s)

abbrev pub mark : ℕ → List ℕ → ℕ → State → Step
mark names bytes from s = mark_by (mark_kind bytes) names from s

-- the words of a declaration matter to the token behind them
abbrev pub word_by : Kind → State → Step
word_by kinds.Base s = Ok (kinds.Base, record s { before = before.Base })
word_by kinds.Prefix s = Ok (kinds.Prefix, record s { before = before.Prefix })
word_by k s = Ok (k, s)

abbrev pub word : List ℕ → State → Step
word bytes s = word_by (word_kind bytes) s

-- a basic graph pattern ends at a brace: a label stands in one alone where the same brace stands last before each use
abbrev pub new_label : List ℕ → ℕ → ℕ → State → Step
new_label l names from s =
    then' (λ n. Ok (kinds.Label n, record s { labels = insert_entry bytes_eq s.labels l (n, s.brace); blanks = s.blanks + 1 })) (blank_number names s.blanks from)

abbrev pub label_by : Option (ℕ × ℕ) → List ℕ → ℕ → ℕ → State → Step
label_by (Some use') l names from s = if use'.1 == s.brace then Ok (kinds.Label use'.0, s) else Err (Syntax from)
label_by None l names from s = new_label l names from s

abbrev pub label : ℕ → List ℕ → ℕ → State → Step
label names bytes from s = then' (λ l. label_by (lookup (bytes_eq l) s.labels) l names from s) (needed (plain (label_text bytes)) from)

-- what an IRIREF declares, by what stands before it
abbrev pub declared : Before → List ℕ → State → State
declared before.Other iri s = s
declared before.Base iri s = record s { base = Some iri }
declared before.Prefix iri s = s
declared (before.Named prefix) iri s = record s { prefixes = insert_entry bytes_eq s.prefixes prefix iri }

abbrev pub iri_ref : Before → List ℕ → ℕ → State → Step
iri_ref b bytes from s =
    then' (λ t. then' (λ iri. Ok (kinds.IriRef iri, declared b iri s)) (needed (iri_of s.base t) from)) (needed (plain (iri_text bytes)) from)

-- a prefixed name is refused where its prefix is not declared
abbrev pub long_name_by : Option (List ℕ) → List ℕ → ℕ → Result Kind Fault
long_name_by (Some iri) local from = then' (λ i. Ok (kinds.Name i)) (needed (prefixed_iri iri local) from)
long_name_by None local from = Err (Syntax from)

abbrev pub long_name : List ℕ → List ℕ → ℕ → State → Result Kind Fault
long_name prefix local from s = long_name_by (lookup (bytes_eq prefix) s.prefixes) local from

abbrev pub is_empty : List ℕ → Bool
is_empty [] = true
is_empty _ = false

abbrev pub name_by : Before → List ℕ → List ℕ → ℕ → State → Step
name_by before.Prefix prefix local from s = if is_empty local then Ok (kinds.Namespace, record s { before = before.Named prefix }) else still s (long_name prefix local from s)
name_by b prefix local from s = still s (long_name prefix local from s)

abbrev pub name : Before → List ℕ → ℕ → State → Step
name b bytes from s = then' (λ prefix. then' (λ local. name_by b prefix local from s) (needed (plain (local_text bytes)) from)) (needed (plain (prefix_text bytes)) from)

abbrev pub kind_by : QueryKind → List (List ℕ) → List ℕ → ℕ → Before → Bool → State → Step
kind_by lexed.Bad names bytes from b touches s = Err (Syntax from)
kind_by lexed.End names bytes from b touches s = Ok (kinds.End, s)
kind_by lexed.Var names bytes from b touches s = still s (variable names bytes from)
kind_by lexed.IriRef names bytes from b touches s = iri_ref b bytes from s
kind_by lexed.Name names bytes from b touches s = name b bytes from s
kind_by lexed.BlankLabel names bytes from b touches s = label (length names) bytes from s
kind_by lexed.Tag names bytes from b touches s = still s (tag bytes from)
kind_by lexed.Quoted names bytes from b touches s = still s (text bytes from)
kind_by lexed.Integer names bytes from b touches s = still s (number (codes "http://www.w3.org/2001/XMLSchema#integer") bytes touches from)
kind_by lexed.Decimal names bytes from b touches s = still s (number (codes "http://www.w3.org/2001/XMLSchema#decimal") bytes touches from)
kind_by lexed.Double names bytes from b touches s = still s (number (codes "http://www.w3.org/2001/XMLSchema#double") bytes touches from)
kind_by lexed.Word names bytes from b touches s = word bytes s
kind_by lexed.Mark names bytes from b touches s = mark (length names) bytes from s

abbrev pub step_by : List (List ℕ) → List ℕ → QueryToken → Before → Bool → State → Step
step_by names bytes t b touches s = kind_by t.kind names bytes t.from b touches s

-- what the token with these bytes is, and what is known behind it
abbrev pub step : List (List ℕ) → List ℕ → QueryToken → State → Step
step names bytes t s = step_by names bytes t s.before (s.end == t.from) (record s { before = before.Other; end = t.to })

-- ---- all tokens

abbrev pub bytes_of : List ℕ → QueryToken → List ℕ
bytes_of bytes t = slice_range bytes t.from t.to

abbrev pub with_name : Option (List ℕ) → List (List ℕ) → List (List ℕ)
with_name (Some name) names = add_name names name
with_name None names = names

abbrev pub name_from : QueryKind → List ℕ → List (List ℕ) → List (List ℕ)
name_from lexed.Var bytes names = with_name (plain (variable_text bytes)) names
name_from _ bytes names = names

-- the names of the variables among the tokens, behind those that came before
unfoldable pub names_from : List (List ℕ) → List ℕ → List QueryToken → List (List ℕ)
names_from names bytes [] = names
names_from names bytes (t ∷ ts) = names_from (name_from t.kind (bytes_of bytes t) names) bytes ts

-- the tokens up to the first fault, and the fault; and how many variables blank nodes have made
pub record Resolving : Type 0 where
  pub tokens : List Token
  pub stop : Option Fault
  pub blanks : ℕ

abbrev pub token : Kind → ℕ → Token
token k from = record { kind = k; from = from }

abbrev pub resolving_by : Step → (Kind → State → Resolving) → List Token → ℕ → Resolving
resolving_by (Ok x) go tokens blanks = go x.0 x.1
resolving_by (Err f) go tokens blanks = record { tokens = tokens; stop = Some f; blanks = blanks }

unfoldable pub resolve_from : List (List ℕ) → List ℕ → State → List Token → List QueryToken → Resolving
resolve_from names bytes s tokens [] = record { tokens = tokens; stop = None; blanks = s.blanks }
resolve_from names bytes s tokens (t ∷ ts) = resolving_by (step names (bytes_of bytes t) t s) (λ k next. resolve_from names bytes next (tokens ++ token k t.from ∷ []) ts) tokens s.blanks

-- the tokens of a text, which the lexer gave, up to the first fault
abbrev pub resolving : List ℕ → List QueryToken → Resolving
resolving bytes ts = resolve_from (names_from [] bytes ts) bytes begin [] ts

-- the variables' names, and their number with that of blank nodes
abbrev pub names_of : List ℕ → List QueryToken → List (List ℕ)
names_of bytes ts = names_from [] bytes ts

abbrev pub width_of : List ℕ → List QueryToken → ℕ
width_of bytes ts = min (length (names_of bytes ts) + (resolving bytes ts).blanks) most_names

-- the tokens up to the first that nothing may take, and the fault there: Syntax at the text's length where there is none
abbrev pub tokens_of : List ℕ → List QueryToken → List Token
tokens_of bytes ts = (resolving bytes ts).tokens

abbrev pub stop_of : List ℕ → List QueryToken → Fault
stop_of bytes ts = unwrap_or (resolving bytes ts).stop (Syntax (length bytes))

-- all of these
pub record IsResolved (bytes : List ℕ) (ts : List QueryToken) (s : Resolved) : Type 0 where
  pub names : s.names ≡ names_of bytes ts
  pub width : s.width ≡ width_of bytes ts
  pub tokens : s.tokens ≡ tokens_of bytes ts
  pub stop : s.stop ≡ stop_of bytes ts

-- ---- what the code gives

abbrev pub Fails : {Y : Type 0} → ResolveError → Result Y Fault → Type 0
Fails errors.Memory want = Unit {0}
Fails (errors.Fault f) want = want ≡ Err f

abbrev pub Gives : {X Y : Type 0} → (X → Y) → Result X ResolveError → Result Y Fault → Type 0
Gives see (Ok x) want = want ≡ Ok (see x)
Gives see (Err e) want = Fails e want

abbrev pub Steps : Resolver → Result Kind ResolveError → Step → Type 0
Steps new (Ok k) want = want ≡ Ok (k, view new)
Steps new (Err e) want = Fails e want

-- a step without a kind, and without a fault
abbrev pub StepsAlone : Resolver → Result ⊤ ResolveError → State → Type 0
StepsAlone new (Ok x) want = want ≡ view new
StepsAlone new (Err e) want = e ≡ errors.Memory

abbrev pub passed : Passed → Resolving
passed p = record { tokens = p.tokens.items; stop = p.stop; blanks = p.blanks }
