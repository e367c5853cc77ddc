-- The grammar of Turtle begins an item of a list exactly at the tokens at which, by the brackets before them, a cell begins.
use Rattle.std.proofs.Common.{◌≡◌, List, [], ◌∷◌, ◌++◌, Bool, true, false, Option, Some, None, ◌⊎◌, inl, inr, ℕ, if◌then◌else◌, refl, sym, ap, subst, ◌∙◌, append_assoc, append-nil}
use Rattle.rdf_terms.specs.declared.term.Term.{Term}
use Rattle.rdf_terms.specs.declared.triple.Triple.{Triple}
use Rattle.grammar_model.specs.Parsers.{Return, Fail, Advance, Peek, Call, Done, Rejected, Reads, give, misfit, skip, skip_end, look, call, call_not, first_of_list}
use Rattle.turtle_reader.specs.declared.token_fault.Fault.{Fault}
use Rattle.turtle_reader.specs.declared.kind.Kind.{Kind}
use Rattle.turtle_reader.specs.declared.kind.Kind.TheVariants as kinds
use Rattle.turtle_reader.specs.declared.kind.Token.{Token}
use Rattle.turtle_reader.specs.declared.state.Bracket.{Bracket}
use Rattle.turtle_reader.specs.Grammar.{Nonterminal, TurtleDoc, Statement, Triples, BlankSubject, PredicateObjectList, VerbObjects, MorePredicates, ObjectList, MoreObjects, Object, BlankObject, RDFLiteral, Collection, Items, Item, MoreItems, Value, G, E, body, turtle, kind_of, need, need_by, choose, begins_verb, is_comma, is_dot, is_end, is_iri_ref, is_namespace, is_semicolon, is_shut_paren, is_shut_square, literal_by, datatype_by, statement_by, triples_by, verb_by, object_by, collection_of, more_items_of}
use Rattle.definition_laws.specs.Cells.{is_carets, is_in_list, behind_first, open_behind, is_cell, cells_from, is_items, first_if, items_begun}

-- ---- each part of the grammar, by the brackets that are open before it

-- what it asks of them
abbrev Enters : Nonterminal → List Bracket → Type 0
Enters (BlankSubject n before) bs = (is_in_list bs ≡ false) × (is_in_list (behind_first bs) ≡ false)
Enters (Object before) bs = Unit {0}
Enters (RDFLiteral lexical) bs = Unit {0}
Enters (Collection before) bs = is_in_list bs ≡ true
Enters (Items cell before) bs = is_in_list bs ≡ true
Enters (Item cell before) bs = is_in_list bs ≡ true
Enters (MoreItems cell before) bs = is_in_list bs ≡ true
Enters _ bs = is_in_list bs ≡ false

-- what is open behind it
abbrev leaves : Nonterminal → List Bracket → List Bracket
leaves (BlankSubject n before) bs = behind_first bs
leaves (BlankObject n before) bs = behind_first bs
leaves (Collection before) bs = behind_first bs
leaves (Items cell before) bs = behind_first bs
leaves (MoreItems cell before) bs = behind_first bs
leaves _ bs = bs

-- a cell begins at its first token, for which no item of the part itself is begun
abbrev pends : Nonterminal → List Bracket → Bool
pends (Object before) bs = is_in_list bs
pends (Items cell before) bs = true
pends (Item cell before) bs = true
pends _ bs = false

-- and no item that is this part
abbrev pends_outside : Nonterminal → List Bracket → Bool
pends_outside (Object before) bs = is_in_list bs
pends_outside (Item cell before) bs = true
pends_outside _ bs = false

pends_first : (q : Nonterminal) (bs : List Bracket) (ts : List Token) → first_if (pends q bs) ts ≡ first_if (pends_outside q bs) ts ++ first_if (is_items q) ts
pends_first (Items cell before) bs ts = refl
pends_first (Object before) bs ts = sym (append-nil _)
pends_first (Item cell before) bs ts = sym (append-nil _)
pends_first _ bs ts = refl

-- ---- programs

-- only such a kind was seen for sure
abbrev is_known : Kind → Bool
is_known kinds.Unknown = false
is_known _ = true

-- from these brackets to those, where a cell begins at the first token if one pends, and at no later one but in parts
abbrev Sound : {A : Type 0} → List Bracket → Bool → Bool → List Bracket → Kind → G A → Type 0
Sound bs carets b end seen (Return v) = (bs ≡ end) × (carets ≡ false) × (b ≡ false)
Sound bs carets b end seen Fail = Unit {0}
Sound bs carets b end seen (Advance p) = (is_known seen ≡ true) × (is_cell bs carets seen ≡ b) × Sound (open_behind bs seen) (is_carets seen) false end kinds.Unknown p
Sound bs carets b end seen (Peek by') = (x : Option Token) → Sound bs carets b end (kind_of x) (by' x)
Sound bs carets b end seen (Call q k) = (carets ≡ false) × (b ≡ pends_outside q bs) × Enters q bs × ((v : Value q) → Sound (leaves q bs) false false end kinds.Unknown (k v))

-- kinds of this test lead from one list of brackets to another
abbrev Leads : List Bracket → (Kind → Bool) → List Bracket → Type 0
Leads bs test after = (k : Kind) → test k ≡ true → (is_known k ≡ true) × (is_cell bs false k ≡ false) × (open_behind bs k ≡ after) × (is_carets k ≡ false)

sound_past : {A : Type 0} (bs after end : List Bracket) (test : Kind → Bool) (p : G A) (k : Kind) → Leads bs test after → Sound after false false end kinds.Unknown p → test k ≡ true → Sound bs false false end k (Advance p)
sound_past bs after end test p k leads h e =
    let l = leads k e in
    let at : Sound (open_behind bs k) false false end kinds.Unknown p = subst (λ d. Sound d false false end kinds.Unknown p) (sym l.2) h in
    (l.0, l.1, subst (λ c. Sound (open_behind bs k) c false end kinds.Unknown p) (sym l.3) at)

sound_choose : {A : Type 0} (bs end : List Bracket) (k : Kind) (test : Bool) (p q : G A) → (test ≡ true → Sound bs false false end k p) → Sound bs false false end k q → Sound bs false false end k (choose test p q)
sound_choose bs end k true p q hp hq = hp refl
sound_choose bs end k false p q hp hq = hq

sound_need_by : {A : Type 0} (bs end : List Bracket) (k : Kind) (test : Bool) (p : G A) → (test ≡ true → Sound bs false false end k (Advance p)) → Sound bs false false end k (need_by test p)
sound_need_by bs end k true p h = h refl
sound_need_by bs end k false p h = tt

sound_need : {A : Type 0} (bs after end : List Bracket) (test : Kind → Bool) (p : G A) → Leads bs test after → Sound after false false end kinds.Unknown p → Sound bs false false end kinds.Unknown (need test p)
sound_need bs after end test p leads h = λ x. sound_need_by bs end (kind_of x) (test (kind_of x)) p (sound_past bs after end test p (kind_of x) leads h)

-- past the next token if it is such a one, or another way
sound_if : {A : Type 0} (bs after end : List Bracket) (test : Kind → Bool) (k : Kind) (p q : G A) → Leads bs test after → Sound after false false end kinds.Unknown p → Sound bs false false end k q → Sound bs false false end k (choose (test k) (Advance p) q)
sound_if bs after end test k p q leads hp hq = sound_choose bs end k (test k) (Advance p) q (sound_past bs after end test p k leads hp) hq

module _ (bs : List Bracket) where
  past_dot : Leads bs is_dot bs
  past_dot kinds.Dot e = (refl, refl, refl, refl)
  past_dot _ e = absurd cc

  past_comma : Leads bs is_comma bs
  past_comma kinds.Comma e = (refl, refl, refl, refl)
  past_comma _ e = absurd cc

  past_semicolon : Leads bs is_semicolon bs
  past_semicolon kinds.Semicolon e = (refl, refl, refl, refl)
  past_semicolon _ e = absurd cc

  past_square : Leads bs is_shut_square (behind_first bs)
  past_square kinds.ShutSquare e = (refl, refl, refl, refl)
  past_square _ e = absurd cc

  past_paren : Leads bs is_shut_paren (behind_first bs)
  past_paren kinds.ShutParen e = (refl, refl, refl, refl)
  past_paren _ e = absurd cc

  past_namespace : is_in_list bs ≡ false → Leads bs is_namespace bs
  past_namespace h kinds.Namespace e = (refl, h, refl, refl)
  past_namespace h _ e = absurd cc

  past_iri : is_in_list bs ≡ false → Leads bs is_iri_ref bs
  past_iri h (kinds.IriRef i) e = (refl, h, refl, refl)
  past_iri h _ e = absurd cc

-- ---- the parts of the grammar are such programs

sound_datatype : (lexical : List ℕ) (bs : List Bracket) (k : Kind) → Sound bs true false bs k (datatype_by lexical k)
sound_datatype lexical bs (kinds.IriRef i) = (refl, refl, (refl, refl, refl))
sound_datatype lexical bs (kinds.Name i) = (refl, refl, (refl, refl, refl))
sound_datatype lexical bs _ = tt

sound_literal : (lexical : List ℕ) (bs : List Bracket) (k : Kind) → Sound bs false false bs k (literal_by lexical k)
sound_literal lexical bs (kinds.Tag tag) = (refl, refl, (refl, refl, refl))
sound_literal lexical bs kinds.Carets = (refl, refl, λ x. sound_datatype lexical bs (kind_of x))
sound_literal lexical bs _ = (refl, refl, refl)

module _ (doc : List ℕ) where
  sound_statement : (before : List Triple) (bs : List Bracket) (k : Kind) → is_in_list bs ≡ false → Sound bs false false bs k (statement_by doc before k)
  sound_statement before bs kinds.AtPrefix h =
      (refl, refl, sound_need bs bs bs is_namespace _ (past_namespace bs h) (sound_need bs bs bs is_iri_ref _ (past_iri bs h) (sound_need bs bs bs is_dot _ (past_dot bs) (refl, refl, refl))))
  sound_statement before bs kinds.AtBase h = (refl, refl, sound_need bs bs bs is_iri_ref _ (past_iri bs h) (sound_need bs bs bs is_dot _ (past_dot bs) (refl, refl, refl)))
  sound_statement before bs kinds.Prefix h = (refl, refl, sound_need bs bs bs is_namespace _ (past_namespace bs h) (sound_need bs bs bs is_iri_ref _ (past_iri bs h) (refl, refl, refl)))
  sound_statement before bs kinds.Base h = (refl, refl, sound_need bs bs bs is_iri_ref _ (past_iri bs h) (refl, refl, refl))
  sound_statement before bs _ h = (refl, refl, h, λ ts. sound_need bs bs bs is_dot _ (past_dot bs) (refl, refl, refl))

  sound_triples : (before : List Triple) (bs : List Bracket) (k : Kind) → is_in_list bs ≡ false → Sound bs false false bs k (triples_by doc before k)
  sound_triples before bs (kinds.IriRef i) h = (refl, h, (refl, refl, h, λ v. (refl, refl, refl)))
  sound_triples before bs (kinds.Name i) h = (refl, h, (refl, refl, h, λ v. (refl, refl, refl)))
  sound_triples before bs (kinds.Label n) h = (refl, h, (refl, refl, h, λ v. (refl, refl, refl)))
  sound_triples before bs (kinds.OpenSquare n) h = (refl, h, (refl, refl, (refl, h), λ v. (refl, refl, refl)))
  sound_triples before bs kinds.OpenParen h = (refl, h, (refl, refl, refl, λ x. (refl, refl, h, λ v. (refl, refl, refl))))
  sound_triples before bs _ h = tt

  sound_verb : (s : Term) (before : List Triple) (bs : List Bracket) (k : Kind) → is_in_list bs ≡ false → Sound bs false false bs k (verb_by doc s before k)
  sound_verb s before bs (kinds.IriRef i) h = (refl, h, (refl, refl, h, λ v. (refl, refl, refl)))
  sound_verb s before bs (kinds.Name i) h = (refl, h, (refl, refl, h, λ v. (refl, refl, refl)))
  sound_verb s before bs kinds.A h = (refl, refl, (refl, refl, h, λ v. (refl, refl, refl)))
  sound_verb s before bs _ h = tt

  sound_object : (before : List Triple) (bs : List Bracket) (k : Kind) → Sound bs false (is_in_list bs) bs k (object_by doc before k)
  sound_object before bs (kinds.IriRef i) = (refl, refl, (refl, refl, refl))
  sound_object before bs (kinds.Name i) = (refl, refl, (refl, refl, refl))
  sound_object before bs (kinds.Label n) = (refl, refl, (refl, refl, refl))
  sound_object before bs (kinds.OpenSquare n) = (refl, refl, (refl, refl, refl, λ ts. (refl, refl, refl)))
  sound_object before bs kinds.OpenParen = (refl, refl, (refl, refl, refl, λ v. (refl, refl, refl)))
  sound_object before bs (kinds.Text lexical) = (refl, refl, (refl, refl, tt, λ o. (refl, refl, refl)))
  sound_object before bs (kinds.Literal datatype lexical) = (refl, refl, (refl, refl, refl))
  sound_object before bs _ = tt

  sound_collection : (before : List Triple) (bs : List Bracket) (x : Option Token) → is_in_list bs ≡ true → Sound bs false false (behind_first bs) (kind_of x) (collection_of doc before x)
  sound_collection before bs None h = tt
  sound_collection before bs (Some t) h = sound_if bs (behind_first bs) (behind_first bs) is_shut_paren t.kind _ _ (past_paren bs) (refl, refl, refl) (refl, refl, h, λ v. (refl, refl, refl))

  sound_more_items : (cell : ℕ) (before : List Triple) (bs : List Bracket) (x : Option Token) → is_in_list bs ≡ true → Sound bs false false (behind_first bs) (kind_of x) (more_items_of doc cell before x)
  sound_more_items cell before bs None h = tt
  sound_more_items cell before bs (Some t) h = sound_if bs (behind_first bs) (behind_first bs) is_shut_paren t.kind _ _ (past_paren bs) (refl, refl, refl) (refl, refl, h, λ v. (refl, refl, refl))

  sound_body : (q : Nonterminal) (bs : List Bracket) → Enters q bs → Sound bs false (pends q bs) (leaves q bs) kinds.Unknown (body doc q)
  sound_body (TurtleDoc before) bs h = λ x. sound_choose bs bs (kind_of x) (is_end (kind_of x)) _ _ (λ e. (refl, refl, refl)) (refl, refl, h, λ ts. (refl, refl, h, λ v. (refl, refl, refl)))
  sound_body (Statement before) bs h = λ x. sound_statement before bs (kind_of x) h
  sound_body (Triples before) bs h = λ x. sound_triples before bs (kind_of x) h
  sound_body (BlankSubject n before) bs h = λ x. sound_if bs (behind_first bs) (behind_first bs) is_shut_square (kind_of x) _ _ (past_square bs) (refl, refl, h.1, λ v. (refl, refl, refl)) (
    refl,
    refl,
    h.0,
    λ ts. sound_need bs (behind_first bs) (behind_first bs) is_shut_square _ (past_square bs)
        (λ y. sound_choose (behind_first bs) (behind_first bs) (kind_of y) (begins_verb (kind_of y)) _ _ (λ e. (refl, refl, h.1, λ v. (refl, refl, refl))) (refl, refl, refl)),
  )
  sound_body (PredicateObjectList s before) bs h = (refl, refl, h, λ ts. (refl, refl, h, λ v. (refl, refl, refl)))
  sound_body (VerbObjects s before) bs h = λ x. sound_verb s before bs (kind_of x) h
  sound_body (MorePredicates s before) bs h = λ x. sound_if bs bs bs is_semicolon (kind_of x) _ _ (past_semicolon bs)
      (λ y. sound_choose bs bs (kind_of y) (begins_verb (kind_of y)) _ _ (λ e. (refl, refl, h, λ ts. (refl, refl, h, λ v. (refl, refl, refl)))) (refl, refl, h, λ v. (refl, refl, refl))) (refl, refl, refl)
  sound_body (ObjectList s p before) bs h = (refl, sym h, tt, λ x. (refl, refl, h, λ v. (refl, refl, refl)))
  sound_body (MoreObjects s p before) bs h = λ x. sound_if bs bs bs is_comma (kind_of x) _ _ (past_comma bs) (refl, refl, h, λ v. (refl, refl, refl)) (refl, refl, refl)
  sound_body (Object before) bs h = λ x. sound_object before bs (kind_of x)
  sound_body (BlankObject n before) bs h = λ x. sound_if bs (behind_first bs) (behind_first bs) is_shut_square (kind_of x) _ _ (past_square bs) (refl, refl, refl)
      (refl, refl, h, λ ts. sound_need bs (behind_first bs) (behind_first bs) is_shut_square _ (past_square bs) (refl, refl, refl))
  sound_body (RDFLiteral lexical) bs h = λ x. sound_literal lexical bs (kind_of x)
  sound_body (Collection before) bs h = λ x. sound_collection before bs x h
  sound_body (Items cell before) bs h = (refl, refl, h, λ ts. (refl, refl, h, λ v. (refl, refl, refl)))
  sound_body (Item cell before) bs h = (refl, sym h, tt, λ x. (refl, refl, refl))
  sound_body (MoreItems cell before) bs h = λ x. sound_more_items cell before bs x h

  -- ---- so the cells of what they read are the items that they begin

  module _ (stop : Fault) where
    abbrev Fits : (m : Nonterminal) → List Bracket → Bool → Bool → List Bracket → List Token → E m → List Token → Type 0
    Fits m bs carets b end ts (Done v us) begun =
        (read : List Token) × (ts ≡ read ++ us) × ((more : List Token) → cells_from bs carets (read ++ more) ≡ first_if b ts ++ (begun ++ cells_from end false more))
    Fits m bs carets b end ts (Rejected x) begun = Unit {0}

    one : (test b : Bool) (t : Token) (ts xs ys : List Token) → test ≡ b → xs ≡ ys → (if test then t ∷ xs else xs) ≡ first_if b (t ∷ ts) ++ ys
    one test true t ts xs ys e f = ap (λ c. if c then t ∷ xs else xs) e ∙ ap (λ l. t ∷ l) f
    one test false t ts xs ys e f = ap (λ c. if c then t ∷ xs else xs) e ∙ f

    fits_past : (m : Nonterminal) (bs : List Bracket) (carets b : Bool) (end : List Bracket) (t : Token) (ts : List Token) (o : E m) (begun : List Token) → is_cell bs carets t.kind ≡ b
        → Fits m (open_behind bs t.kind) (is_carets t.kind) false end ts o begun → Fits m bs carets b end (t ∷ ts) o begun
    fits_past m bs carets b end t ts (Done v us) begun e h = (t ∷ h.0, ap (λ l. t ∷ l) h.1, λ more. one (is_cell bs carets t.kind) b t ts _ _ e (h.2 more))
    fits_past m bs carets b end t ts (Rejected x) begun e h = tt

    regroup : (ws xs ys zs more : List Token) → (ws ++ xs) ++ (ys ++ (zs ++ more)) ≡ ws ++ ((xs ++ (ys ++ zs)) ++ more)
    regroup ws xs ys zs more =
        append_assoc ws xs (ys ++ (zs ++ more)) ∙ ap (λ l. ws ++ l) (ap (λ l. xs ++ l) (sym (append_assoc ys zs more)) ∙ sym (append_assoc xs (ys ++ zs) more))

    fits_then : (m q : Nonterminal) (bs : List Bracket) (carets b : Bool) (end : List Bracket) (ts us : List Token) (v : Value q) (o : E m) (is js : List Token) → carets ≡ false → b ≡ pends_outside q bs
        → Fits q bs false (pends q bs) (leaves q bs) ts (Done v us) is → Fits m (leaves q bs) false false end us o js → Fits m bs carets b end ts o (first_if (is_items q) ts ++ (is ++ js))
    fits_then m q bs carets b end ts us v (Done w vs) is js c pending h more = (
      h.0 ++ more.0,
      h.1 ∙ ap (λ l. h.0 ++ l) more.1 ∙ sym (append_assoc h.0 more.0 vs),
      λ rest.
          ap (λ d. cells_from bs d ((h.0 ++ more.0) ++ rest)) c ∙ ap (λ l. cells_from bs false l) (append_assoc h.0 more.0 rest) ∙ h.2 (more.0 ++ rest)
          ∙ ap (λ l. first_if (pends q bs) ts ++ (is ++ l)) (more.2 rest)
          ∙ ap (λ l. l ++ (is ++ (js ++ cells_from end false rest))) (pends_first q bs ts ∙ sym (ap (λ d. first_if d ts ++ first_if (is_items q) ts) pending))
          ∙ regroup (first_if b ts) (first_if (is_items q) ts) is js (cells_from end false rest),
    )
    fits_then m q bs carets b end ts us v (Rejected x) is js c pending h more = tt

    -- what has been seen is the first token, if anything
    abbrev Seen : Kind → List Token → Type 0
    Seen seen ts = (seen ≡ kinds.Unknown) ⊎ (seen ≡ kind_of (first_of_list ts))

    fits : (m : Nonterminal) (p : G (Value m)) (ts : List Token) (o : E m) (bs : List Bracket) (carets b : Bool) (end : List Bracket) (seen : Kind) → Sound bs carets b end seen p → Seen seen ts
        → (r : Reads (turtle doc stop) m p ts o) → Fits m bs carets b end ts o (items_begun doc stop m p ts o r)
    fits m (Return v) ts _ bs carets b end seen s see give =
        ([], refl, λ more. ap (λ c. cells_from bs c more) s.1 ∙ ap (λ d. cells_from d false more) s.0 ∙ sym (ap (λ c. first_if c ts ++ cells_from end false more) s.2))
    fits m Fail ts _ bs carets b end seen s see misfit = tt
    fits m (Advance p) (t ∷ ts) o bs carets b end seen s see (skip r) = elim see [
      | inl unseen ↦ absurd (let e = ap is_known unseen in let f = s.0 in cc)
      | inr is ↦
          fits_past m bs carets b end t ts o (items_begun doc stop m p ts o r) (ap (λ k. is_cell bs carets k) (sym is) ∙ s.1)
          (fits m p ts o (open_behind bs t.kind) (is_carets t.kind) false end kinds.Unknown (subst (λ k. Sound (open_behind bs k) (is_carets k) false end kinds.Unknown p) is s.2) (inl refl) r)
    ]
    fits m (Advance p) [] _ bs carets b end seen s see skip_end = tt
    fits m (Peek by') ts o bs carets b end seen s see (look r) = fits m (by' (first_of_list ts)) ts o bs carets b end (kind_of (first_of_list ts)) (s (first_of_list ts)) (inr refl) r
    fits m (Call q k) ts o bs carets b end seen s see (call {us} {v} r more) =
        let first = fits q (body doc q) ts (Done v us) bs false (pends q bs) (leaves q bs) kinds.Unknown (sound_body q bs s.2) (inl refl) r in
        let second = fits m (k v) us o (leaves q bs) false false end kinds.Unknown (s.3 v) (inl refl) more in
        fits_then m q bs carets b end ts us v o (items_begun doc stop q (body doc q) ts (Done v us) r) (items_begun doc stop m (k v) us o more) s.0 s.1 first second
    fits m (Call q k) ts _ bs carets b end seen s see (call_not r) = tt

    pub cells_are_items : (before triples : List Triple) (ts rest : List Token) (r : Reads (turtle doc stop) (TurtleDoc before) (body doc (TurtleDoc before)) ts (Done triples rest))
        → (read : List Token) × (ts ≡ read ++ rest) × (cells_from [] false read ≡ items_begun doc stop (TurtleDoc before) (body doc (TurtleDoc before)) ts (Done triples rest) r)
    cells_are_items before triples ts rest r =
        let is = fits (TurtleDoc before) (body doc (TurtleDoc before)) ts (Done triples rest) [] false false [] kinds.Unknown (sound_body (TurtleDoc before) [] refl) (inl refl) r in
        (is.0, is.1, ap (λ l. cells_from [] false l) (sym (append-nil is.0)) ∙ is.2 [] ∙ append-nil _)
