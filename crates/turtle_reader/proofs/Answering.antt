-- Each text has one answer, and it is what the grammar reads.
use Rattle.std.proofs.Common.{◌≡◌, ℕ, List, [], refl, sym, ap, subst, ◌∙◌, Result, Err}
use Rattle.rdf_terms.specs.declared.triple.Triple.{Triple}
use Rattle.grammar_model.specs.Parsers.{Rejected}
use Rattle.turtle_lexer.specs.declared.token.Token.{Token as Lexed}
use Rattle.turtle_lexer.specs.Tokens.{TurtleTokens}
use Rattle.turtle_lexer.specs.declared.dialect.Dialect.TheVariants as dialects
use Rattle.turtle_lexer.proofs.Languages.{a_token_list, one_token_list}
use Rattle.turtle_reader.specs.declared.token_fault.Fault.{Fault}
use Rattle.turtle_reader.specs.declared.token_fault.Fault.TheVariants.{Syntax, Deep}
use Rattle.turtle_reader.specs.declared.token_fault.ResolveError.{ResolveError}
use Rattle.turtle_reader.specs.declared.token_fault.ResolveError.TheVariants as errors
use Rattle.turtle_reader.specs.declared.kind.Token.{Token}
use Rattle.turtle_reader.specs.Resolving.{Resolving, resolving}
use Rattle.turtle_reader.specs.declared.fault.ReadFault.{ReadFault}
use Rattle.turtle_reader.specs.declared.fault.ReadFault.TheVariants as faults
use Rattle.turtle_reader.specs.Grammar.{E, TurtleDoc, reads, Fails}
use Rattle.turtle_reader.specs.Reading.{answer_of, ReadsResolved, IsTurtle, turtle_reading, IsFault, reported}
use Rattle.turtle_reader.proofs.Whole.{only_one, is_read}

resolved_is : (doc : List ℕ) (s : Resolving) (o : E (TurtleDoc [])) → reads doc s.stop (TurtleDoc []) s.tokens ≡ o → ReadsResolved doc s (answer_of o)
resolved_is doc s o e = (o, is_read doc s.stop (TurtleDoc []) s.tokens o e, refl)

read_is : (doc base bytes : List ℕ) (lexed : List Lexed) (s : Resolving) (o : E (TurtleDoc [])) → TurtleTokens bytes lexed → s ≡ resolving base bytes lexed
    → reads doc s.stop (TurtleDoc []) s.tokens ≡ o → IsTurtle doc base bytes (answer_of o)
read_is doc base bytes lexed s o l e r = (lexed, l, subst (λ (x : Resolving). ReadsResolved doc x (answer_of o)) e (resolved_is doc s o r))

-- the same of equal parts: a lent list of tokens, and the document's name and the fault behind them where they are held
pub text_is : (doc base bytes name : List ℕ) (lexed lent : List Lexed) (s : Resolving) (stop : Fault) (tokens : List Token) (o : E (TurtleDoc [])) → TurtleTokens bytes lexed → lent ≡ lexed
    → s ≡ resolving base bytes lent → name ≡ doc → stop ≡ s.stop → tokens ≡ s.tokens → reads name stop (TurtleDoc []) tokens ≡ o → IsTurtle doc base bytes (answer_of o)
text_is doc base bytes name lexed lent s stop tokens o l i e n p q r =
    let r1 : reads doc stop (TurtleDoc []) tokens ≡ o = subst (λ (x : List ℕ). reads x stop (TurtleDoc []) tokens ≡ o) n r in
    let r2 : reads doc s.stop (TurtleDoc []) tokens ≡ o = subst (λ (x : Fault). reads doc x (TurtleDoc []) tokens ≡ o) p r1 in
    let r3 : reads doc s.stop (TurtleDoc []) s.tokens ≡ o = subst (λ (x : List Token). reads doc s.stop (TurtleDoc []) x ≡ o) q r2 in
    read_is doc base bytes lexed s o l (subst (λ (x : List Lexed). s ≡ resolving base bytes x) i e) r3

error_is : (doc base bytes name : List ℕ) (lexed lent : List Lexed) (s : Resolving) (stop : Fault) (tokens : List Token) (e : ResolveError) → TurtleTokens bytes lexed → lent ≡ lexed
    → s ≡ resolving base bytes lent → name ≡ doc → stop ≡ s.stop → tokens ≡ s.tokens → Fails e (reads name stop (TurtleDoc []) tokens) → IsFault (reported e) (λ x. IsTurtle doc base bytes (Err x))
error_is doc base bytes name lexed lent s stop tokens errors.Memory l i e n p q h = tt
error_is doc base bytes name lexed lent s stop tokens (errors.Fault (Syntax at)) l i e n p q h = text_is doc base bytes name lexed lent s stop tokens (Rejected (Syntax at)) l i e n p q h
error_is doc base bytes name lexed lent s stop tokens (errors.Fault (Deep at)) l i e n p q h = text_is doc base bytes name lexed lent s stop tokens (Rejected (Deep at)) l i e n p q h

pub fault_is : (doc base bytes name : List ℕ) (lexed lent : List Lexed) (s : Resolving) (stop : Fault) (tokens : List Token) (e : ResolveError) (f : ReadFault) → TurtleTokens bytes lexed → lent ≡ lexed
    → s ≡ resolving base bytes lent → name ≡ doc → stop ≡ s.stop → tokens ≡ s.tokens → Fails e (reads name stop (TurtleDoc []) tokens) → f ≡ reported e → IsFault f (λ x. IsTurtle doc base bytes (Err x))
fault_is doc base bytes name lexed lent s stop tokens e f l i c n p q h r =
    subst (λ (x : ReadFault). IsFault x (λ y. IsTurtle doc base bytes (Err y))) (sym r) (error_is doc base bytes name lexed lent s stop tokens e l i c n p q h)

pub present : (doc base bytes : List ℕ) → IsTurtle doc base bytes (turtle_reading doc base bytes)
unfolding turtle_reading
present doc base bytes =
    let l = a_token_list dialects.Turtle bytes in
    let s : Resolving = resolving base bytes l.0 in
    let o : E (TurtleDoc []) = reads doc s.stop (TurtleDoc []) s.tokens in
    read_is doc base bytes l.0 s o l.1 refl refl

resolved_only : (doc : List ℕ) (s : Resolving) (a b : Result (List Triple) Fault) → ReadsResolved doc s a → ReadsResolved doc s b → a ≡ b
resolved_only doc s a b r t = r.2 ∙ (ap (λ (o : E (TurtleDoc [])). answer_of o) (only_one doc s.stop (TurtleDoc []) s.tokens r.0 t.0 r.1 t.1) ∙ sym t.2)

pub only : (doc base bytes : List ℕ) (a b : Result (List Triple) Fault) → IsTurtle doc base bytes a → IsTurtle doc base bytes b → a ≡ b
only doc base bytes a b r t =
    let same : r.0 ≡ t.0 = one_token_list dialects.Turtle bytes r.0 t.0 r.1 t.1 in
    resolved_only doc (resolving base bytes r.0) a b r.2 (subst (λ (l : List Lexed). ReadsResolved doc (resolving base bytes l) b) (sym same) t.2)

-- an answer of the text is its reading
pub reading_is : (doc base bytes : List ℕ) (answer : Result (List Triple) Fault) → IsTurtle doc base bytes answer → turtle_reading doc base bytes ≡ answer
reading_is doc base bytes answer r = only doc base bytes (turtle_reading doc base bytes) answer (present doc base bytes) r

pub reading_fault_is : (doc base bytes : List ℕ) (f : ReadFault) → IsFault f (λ x. IsTurtle doc base bytes (Err x)) → IsFault f (λ x. turtle_reading doc base bytes ≡ Err x)
reading_fault_is doc base bytes (faults.Syntax at) r = reading_is doc base bytes (Err (Syntax at)) r
reading_fault_is doc base bytes (faults.Deep at) r = reading_is doc base bytes (Err (Deep at)) r
reading_fault_is doc base bytes faults.Memory r = tt
