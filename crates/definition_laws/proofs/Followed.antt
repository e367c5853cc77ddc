-- An automaton follows the kinds of the tokens that a grammar's programs go past: where each program leaves it as it found it, so do the tokens that are read.
use Rattle.std.proofs.Common.{◌≡◌, List, [], ◌∷◌, ◌++◌, Bool, true, Option, Some, None, ◌⊎◌, inl, inr, refl, sym, ap, subst, ◌∙◌, append_assoc}
use Rattle.grammar_model.specs.Parsers.{Grammar, Parser, Return, Fail, Advance, Peek, Call, Outcome, Done, Rejected, Reads, give, misfit, skip, skip_end, look, call, call_not, first_of_list}

module _ {T K D : Type 0} (kind_of : Option T → K) (free : D) (allowed : D → K → Bool) (next : D → K → D) where
  -- each of the tokens is allowed, and behind them the automaton is free
  abbrev pub Complete : D → List T → Type 0
  Complete due [] = due ≡ free
  Complete due (t ∷ ts) = (allowed due (kind_of (Some t)) ≡ true) × Complete (next due (kind_of (Some t))) ts

  complete_then : (due : D) (xs ys : List T) → Complete due xs → Complete free ys → Complete due (xs ++ ys)
  complete_then due [] ys h more = subst (λ d. Complete d ys) (sym h) more
  complete_then due (t ∷ xs) ys h more = (h.0, complete_then (next due (kind_of (Some t))) xs ys h.1 more)

  -- the program goes only past a token that is allowed, whose kind it has seen, to where the automaton is free
  abbrev pub Sound : {Q : Type 0} {V : Q → Type 0} {A : Type 0} → D → K → Parser T Q V A → Type 0
  Sound due seen (Return v) = due ≡ free
  Sound due seen Fail = Unit {0}
  Sound due seen (Advance p) = (allowed due seen ≡ true) × Sound (next due seen) (kind_of None) p
  Sound due seen (Peek by) = (x : Option T) → Sound due (kind_of x) (by x)
  Sound {Q} {V} due seen (Call q k) = (due ≡ free) × ((v : V q) → Sound free (kind_of None) (k v))

  -- kinds of this test lead from one state to another
  abbrev pub Leads : D → (K → Bool) → D → Type 0
  Leads due test after = (k : K) → test k ≡ true → (allowed due k ≡ true) × (next due k ≡ after)

  pub sound_past : {Q : Type 0} {V : Q → Type 0} {A : Type 0} (due after : D) (test : K → Bool) (p : Parser T Q V A) (k : K) → Leads due test after → Sound after (kind_of None) p → test k ≡ true → Sound due k (Advance p)
  sound_past due after test p k leads h e = ((leads k e).0, subst (λ d. Sound d (kind_of None) p) (sym (leads k e).1) h)

module _ (g : Grammar) {K D : Type 0} (kind_of : Option g.Token → K) (free : D) (allowed : D → K → Bool) (next : D → K → D)
    (none_past : (due : D) → allowed due (kind_of None) ≡ true → ⊥) (sound_body : (q : g.Nonterminal) → Sound kind_of free allowed next free (kind_of None) (g.body q)) where
  abbrev P : g.Nonterminal → Type 0
  P q = Parser g.Token g.Nonterminal g.Value (g.Value q)

  abbrev E : g.Nonterminal → Type 0
  E q = Outcome g.Token g.Fault (g.Value q)

  -- the tokens up to the rest are complete
  abbrev pub Fits : (q : g.Nonterminal) → D → List g.Token → E q → Type 0
  Fits q due ts (Done v us) = (read : List g.Token) × (ts ≡ read ++ us) × Complete kind_of free allowed next due read
  Fits q due ts (Rejected x) = Unit {0}

  fits_past : (q : g.Nonterminal) (due : D) (t : g.Token) (ts : List g.Token) (o : E q) → allowed due (kind_of (Some t)) ≡ true → Fits q (next due (kind_of (Some t))) ts o → Fits q due (t ∷ ts) o
  fits_past q due t ts (Done v us) a h = (t ∷ h.0, ap (λ l. t ∷ l) h.1, (a, h.2))
  fits_past q due t ts (Rejected x) a h = tt

  fits_then : (q : g.Nonterminal) (ts us read : List g.Token) (o : E q) → ts ≡ read ++ us → Complete kind_of free allowed next free read → Fits q free us o → Fits q free ts o
  fits_then q ts us read (Done v vs) e c h =
      (read ++ h.0, e ∙ ap (λ l. read ++ l) h.1 ∙ sym (append_assoc read h.0 vs), complete_then kind_of free allowed next free read h.0 c h.2)
  fits_then q ts us read (Rejected x) e c h = tt

  -- what has been seen is the first token, if anything
  abbrev Seen : K → List g.Token → Type 0
  Seen seen ts = (seen ≡ kind_of None) ⊎ (seen ≡ kind_of (first_of_list ts))

  pub fits : (m : g.Nonterminal) (p : P m) (ts : List g.Token) (o : E m) (due : D) (seen : K) → Sound kind_of free allowed next due seen p → Seen seen ts → Reads g m p ts o → Fits m due ts o
  fits m (Return v) ts _ due seen s see give = ([], refl, s)
  fits m Fail ts _ due seen s see misfit = tt
  fits m (Advance p) (t ∷ ts) o due seen s see (skip r) = elim see [
    | inl unseen ↦ absurd (none_past due (ap (λ k. allowed due k) (sym unseen) ∙ s.0))
    | inr is ↦
        fits_past m due t ts o (ap (λ k. allowed due k) (sym is) ∙ s.0)
        (fits m p ts o (next due (kind_of (Some t))) (kind_of None) (subst (λ k. Sound kind_of free allowed next (next due k) (kind_of None) p) is s.1) (inl refl) r)
  ]
  fits m (Advance p) [] _ due seen s see skip_end = tt
  fits m (Peek by) ts o due seen s see (look r) = fits m (by (first_of_list ts)) ts o due (kind_of (first_of_list ts)) (s (first_of_list ts)) (inr refl) r
  fits m (Call q k) ts o due seen s see (call {us} {v} r more) =
      let first = fits q (g.body q) ts (Done v us) free (kind_of None) (sound_body q) (inl refl) r in
      subst (λ d. Fits m d ts o) (sym s.0) (fits_then m ts us first.0 o first.1 first.2 (fits m (k v) us o free (kind_of None) (s.1 v) (inl refl) more))
  fits m (Call q k) ts _ due seen s see (call_not r) = tt

  -- a part of the grammar reads tokens that are complete
  pub reads_complete : (q : g.Nonterminal) (ts us : List g.Token) (v : g.Value q) → Reads g q (g.body q) ts (Done v us) → (read : List g.Token) × (ts ≡ read ++ us) × Complete kind_of free allowed next free read
  reads_complete q ts us v r = fits q (g.body q) ts (Done v us) free (kind_of None) (sound_body q) (inl refl) r
