-- Where the cells of lists begin in a document of Turtle (RDF 1.1 Turtle, sections 2.8 and 6.5, production collection).
use Rattle.std.specs.Prelude.{ℕ, List, [], ◌∷◌, ◌++◌, Bool, true, false, not, ◌&&◌, nat_lt, Ok, Err, if◌then◌else◌}
use Rattle.grammar_model.specs.Parsers.{Return, Fail, Advance, Peek, Call, Done, Rejected, Reads, give, misfit, skip, skip_end, look, call, call_not, first_of_list}
use Rattle.turtle_lexer.specs.declared.token.Token.{Token as Lexed}
use Rattle.turtle_reader.specs.declared.token_fault.Fault.{Fault}
use Rattle.turtle_reader.specs.declared.kind.Kind.{Kind}
use Rattle.turtle_reader.specs.declared.kind.Kind.TheVariants as kinds
use Rattle.turtle_reader.specs.declared.kind.Token.{Token}
use Rattle.turtle_reader.specs.declared.state.Bracket.{Bracket}
use Rattle.turtle_reader.specs.declared.state.Bracket.TheVariants as brackets
use Rattle.turtle_reader.specs.Grammar.{Nonterminal, Items, Value, G, E, body, turtle}
use Rattle.turtle_reader.specs.Resolving.{State, Step, bytes_of, item_begun, step, token}

-- ---- by the brackets that are open

-- an object can begin with such a token: a prefix and its colon is a name too
abbrev pub begins_object : Kind → Bool
begins_object (kinds.IriRef i) = true
begins_object (kinds.Name i) = true
begins_object kinds.Namespace = true
begins_object (kinds.Label n) = true
begins_object (kinds.OpenSquare n) = true
begins_object kinds.OpenParen = true
begins_object (kinds.Text lexical) = true
begins_object (kinds.Literal datatype lexical) = true
begins_object _ = false

-- `^^`
abbrev pub is_carets : Kind → Bool
is_carets kinds.Carets = true
is_carets _ = false

-- the innermost of the brackets, which stands first, is a list's
abbrev pub is_in_list : List Bracket → Bool
is_in_list (brackets.Paren ∷ bs) = true
is_in_list _ = false

-- all but the innermost
abbrev pub behind_first : List Bracket → List Bracket
behind_first [] = []
behind_first (b ∷ bs) = bs

-- the brackets that are open behind a token
abbrev pub open_behind : List Bracket → Kind → List Bracket
open_behind bs (kinds.OpenSquare n) = brackets.Square ∷ bs
open_behind bs kinds.OpenParen = brackets.Paren ∷ bs
open_behind bs kinds.ShutSquare = behind_first bs
open_behind bs kinds.ShutParen = behind_first bs
open_behind bs _ = bs

-- a cell begins at a token that can begin an object, directly in a list, unless it is the datatype of a literal
abbrev pub is_cell : List Bracket → Bool → Kind → Bool
is_cell bs carets k = begins_object k && (not carets && is_in_list bs)

-- the tokens at which cells begin, behind these brackets, and maybe behind `^^`
abbrev pub cells_from : List Bracket → Bool → List Token → List Token
cells_from bs carets [] = []
cells_from bs carets (t ∷ ts) =
    if is_cell bs carets t.kind then t ∷ cells_from (open_behind bs t.kind) (is_carets t.kind) ts else cells_from (open_behind bs t.kind) (is_carets t.kind) ts

-- ---- by the resolver

-- it counts a blank node before the token's own, with these bytes
abbrev pub counts_cell : List ℕ → Lexed → State → Bool
counts_cell bytes t s = nat_lt s.blanks (item_begun s.before t.kind bytes s).blanks

-- the token before the others, where it is wanted
abbrev pub put_if : Bool → Token → List Token → List Token
put_if true t ts = t ∷ ts
put_if false t ts = ts

-- what follows a step; nothing behind a fault
abbrev pub unless_fault : Step → (Kind → State → List Token) → List Token
unless_fault (Ok x) go = go x.0 x.1
unless_fault (Err f) go = []

-- the tokens for which it does so
abbrev pub cells_resolved : List ℕ → State → List Lexed → List Token
cells_resolved bytes s [] = []
cells_resolved bytes s (t ∷ ts) =
    unless_fault (step (bytes_of bytes t) t s) (λ k next. put_if (counts_cell (bytes_of bytes t) t s) (token k t.from s.blanks) (cells_resolved bytes next ts))

-- ---- by the grammar

-- an item of a list, and what follows it
abbrev pub is_items : Nonterminal → Bool
is_items (Items cell before) = true
is_items _ = false

-- the first of the tokens, where it is wanted
abbrev pub first_if : Bool → List Token → List Token
first_if true (t ∷ ts) = t ∷ []
first_if _ ts = []

module _ (doc : List ℕ) (stop : Fault) where
  -- the tokens at which the grammar begins to read an item of a list, in their order
  abbrev pub items_begun : (m : Nonterminal) (p : G (Value m)) (ts : List Token) (o : E m) → Reads (turtle doc stop) m p ts o → List Token
  items_begun m (Return v) ts _ give = []
  items_begun m Fail ts _ misfit = []
  items_begun m (Advance p) (t ∷ ts) o (skip r) = items_begun m p ts o r
  items_begun m (Advance p) [] _ skip_end = []
  items_begun m (Peek by') ts o (look r) = items_begun m (by' (first_of_list ts)) ts o r
  items_begun m (Call q k) ts o (call {us} {v} r more) = first_if (is_items q) ts ++ (items_begun q (body doc q) ts (Done v us) r ++ items_begun m (k v) us o more)
  items_begun m (Call q k) ts _ (call_not {x} r) = first_if (is_items q) ts ++ items_begun q (body doc q) ts (Rejected x) r
