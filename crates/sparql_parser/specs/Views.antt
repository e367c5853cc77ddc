-- What the code gives.
use Rattle.std.specs.Prelude.{◌≡◌, Bool, true, false, List, [], ◌∷◌, Option, Some, None, Result, Ok, Err, option_map}
use Rattle.grammar_model.specs.Parsers.{Outcome, Done, Rejected, first_of_list}
use Rattle.algebra_translation.specs.Views.{view, view_group}
use Rattle.sparql_resolve.specs.declared.fault.Fault.{Fault}
use Rattle.sparql_resolve.specs.declared.fault.ResolveError.{ResolveError}
use Rattle.sparql_resolve.specs.declared.fault.ResolveError.TheVariants as errors
use Rattle.sparql_resolve.specs.declared.kind.Kind.{Kind}
use Rattle.sparql_resolve.specs.declared.kind.Token.{Token}
use Rattle.sparql_parser.specs.declared.groups.Step.{Step}
use Rattle.sparql_parser.specs.declared.groups.Step.TheVariants as steps
use Rattle.sparql_parser.specs.declared.queries.Found.{Found}
use Rattle.sparql_parser.specs.Grammar.{E, reads, GroupGraphPatternSub, AfterElement, Request, kind_of, fault_of}

abbrev pub Fails : {Y : Type 0} → ResolveError → Outcome Token Fault Y → Type 0
Fails errors.Memory read = Unit {0}
Fails (errors.Fault f) read = read ≡ Rejected f

-- the value and what is behind it, or the fault, unless memory ran out
abbrev pub Gives : {X Y : Type 0} → (X → Y × List Token) → Result X ResolveError → Outcome Token Fault Y → Type 0
Gives seen (Ok x) read = read ≡ Done (seen x).0 (seen x).1
Gives seen (Err e) read = Fails e read

abbrev pub FirstIs : List Token → Option (Token × List Token) → Type 0
FirstIs ts None = ts ≡ []
FirstIs ts (Some x) = ts ≡ x.0 ∷ x.1

-- what is behind a token that passes the test
abbrev pub Behind : (Kind → Bool) → List Token → Option (List Token) → Type 0
Behind test ts None = test (kind_of (first_of_list ts)) ≡ false
Behind test ts (Some rest) = (t : Token) × (test t.kind ≡ true) × (ts ≡ t ∷ rest)

abbrev pub Needed : Fault → (Kind → Bool) → List Token → Result (List Token) ResolveError → Type 0
Needed stop test ts (Err e) = (test (kind_of (first_of_list ts)) ≡ false) × (e ≡ errors.Fault (fault_of stop ts))
Needed stop test ts (Ok rest) = (t : Token) × (test t.kind ≡ true) × (ts ≡ t ∷ rest)

abbrev pub rest_of : {X Y : Type 0} → (X → Y) → Result X ResolveError → Result Y ResolveError
rest_of f (Ok x) = Ok (f x)
rest_of f (Err e) = Err e

-- behind an element of a group
abbrev pub then_of : Fault → Step → List Token → E GroupGraphPatternSub
then_of stop (steps.Closed g) rest = Done (view_group g) rest
then_of stop (steps.More s) rest = reads stop (AfterElement (view s)) rest

abbrev pub view_found : Found → Request
view_found q = record { distinct = q.distinct; select = option_map (λ all. all.items) q.select; body = q.body; order = q.order.items }
