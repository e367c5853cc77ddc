-- A grammar gives each list of tokens one answer, and it is the function's.
use Rattle.std.proofs.Common.{◌≡◌, ℕ, zero, suc, ◌+◌, ◌<◌, ◌≤◌, List, [], ◌∷◌, Option, Some, None, Bool, true, false, ◌⊎◌, inl, inr, refl, sym, subst, ap, ◌∙◌, arith}
use Rattle.grammar_model.specs.Parsers.{Parser, Return, Fail, Advance, Peek, Call, Outcome, Done, Rejected, Grammar, first_of_list, P, O, Reads, give, misfit, skip, skip_end, look, call, call_not, on, run, room, parse, go, Fine, Takes, when_taken, unless_taken}

cases : (b : Bool) → (b ≡ true) ⊎ (b ≡ false)
cases true = inl refl
cases false = inr refl

module _ (g : Grammar) where
  abbrev Same : (q : g.Nonterminal) → O g q → O g q → Type 0
  Same q a b = a ≡ b

  second : (m q : g.Nonterminal) (k : g.Value q → P g m) (v w : g.Value q) (us ws : List g.Token) (o : O g m) → Same q (Done v us) (Done w ws) → Reads g m (k w) ws o → Reads g m (k v) us o
  second m q k v w us ws o e r =
      let a : v ≡ w = cc in
      let b : us ≡ ws = cc in
      subst (λ (x : g.Value q). Reads g m (k x) us o) (sym a) (subst (λ (l : List g.Token). Reads g m (k w) l o) (sym b) r)

  pub one : (m : g.Nonterminal) (p : P g m) (ts : List g.Token) (a b : O g m) → Reads g m p ts a → Reads g m p ts b → a ≡ b
  one m (Return v) ts _ _ give give = refl
  one m Fail ts _ _ misfit misfit = refl
  one m (Advance p) (t ∷ ts) a b (skip r) (skip r') = one m p ts a b r r'
  one m (Advance p) [] _ _ skip_end skip_end = refl
  one m (Peek by) ts a b (look r) (look r') = one m (by (first_of_list ts)) ts a b r r'
  one m (Call q k) ts a b (call {us} {v} r s) (call {us = ws} {v = w} r' s') = one m (k v) us a b s (second m q k v w us ws b (one q (g.body q) ts _ _ r r') s')
  one m (Call q k) ts a _ (call r s) (call_not r') = absurd (let e = one q (g.body q) ts _ _ r r' in cc)
  one m (Call q k) ts _ b (call_not r) (call r' s') = absurd (let e = one q (g.body q) ts _ _ r r' in cc)
  one m (Call q k) ts _ _ (call_not {x} r) (call_not {x = y} r') = let e : Same q (Rejected x) (Rejected y) = one q (g.body q) ts _ _ r r' in let f : x ≡ y = cc in ap (λ (z : g.Fault). Rejected z) f

  module _ (rank : g.Nonterminal → ℕ) (takes : g.Nonterminal → Bool) (top : ℕ) where
    abbrev Left : (m : g.Nonterminal) → List g.Token → O g m → Type 0
    Left m ts (Done v us) = room g rank takes top us ≤ room g rank takes top ts
    Left m ts (Rejected x) = Unit {0}

    left_on : (m : g.Nonterminal) (ts us : List g.Token) (o : O g m) → room g rank takes top us ≤ room g rank takes top ts → Left m us o → Left m ts o
    left_on m ts us (Done v vs) le h = omega (arith, h)
    left_on m ts us (Rejected x) le h = tt

    pub left : (m : g.Nonterminal) (p : P g m) (ts : List g.Token) (o : O g m) → Reads g m p ts o → Left m ts o
    left m (Return v) ts _ give = omega arith
    left m Fail ts _ misfit = tt
    left m (Advance p) (t ∷ ts) o (skip r) = left_on m (t ∷ ts) ts o (omega arith) (left m p ts o r)
    left m (Advance p) [] _ skip_end = tt
    left m (Peek by) ts o (look r) = left m (by (first_of_list ts)) ts o r
    left m (Call q k) ts o (call {us} {v} r s) = left_on m ts us o (left q (g.body q) ts _ r) (left m (k v) us o s)
    left m (Call q k) ts _ (call_not r) = tt

    module _ (all_take : (q : g.Nonterminal) → takes q ≡ true → Takes g rank takes top q (g.body q)) where
      abbrev Taken : (m : g.Nonterminal) → List g.Token → O g m → Type 0
      Taken m ts (Done v us) = room g rank takes top us + suc top ≤ room g rank takes top ts
      Taken m ts (Rejected x) = Unit {0}

      taken_skip : (m : g.Nonterminal) (t : g.Token) (ts : List g.Token) (o : O g m) → Left m ts o → Taken m (t ∷ ts) o
      taken_skip m t ts (Done v us) h = omega (arith, h)
      taken_skip m t ts (Rejected x) h = tt

      taken_first : (m : g.Nonterminal) (ts us : List g.Token) (o : O g m) → room g rank takes top us + suc top ≤ room g rank takes top ts → Left m us o → Taken m ts o
      taken_first m ts us (Done v vs) h l = omega (arith, h, l)
      taken_first m ts us (Rejected x) h l = tt

      taken_then : (m : g.Nonterminal) (ts us : List g.Token) (o : O g m) → room g rank takes top us ≤ room g rank takes top ts → Taken m us o → Taken m ts o
      taken_then m ts us (Done v vs) h l = omega (arith, h, l)
      taken_then m ts us (Rejected x) h l = tt

      taken : (m : g.Nonterminal) (p : P g m) (ts : List g.Token) (o : O g m) → Takes g rank takes top m p → Reads g m p ts o → Taken m ts o
      taken m (Return v) ts _ h give = absurd h
      taken m Fail ts _ h misfit = tt
      taken m (Advance p) (t ∷ ts) o h (skip r) = taken_skip m t ts o (left m p ts o r)
      taken m (Advance p) [] _ h skip_end = tt
      taken m (Peek by) ts o h (look r) = taken m (by (first_of_list ts)) ts o (h (first_of_list ts)) r
      taken m (Call q k) ts o h (call {us} {v} r s) = elim (cases (takes q)) [
        | inl is ↦ taken_first m ts us o (taken q (g.body q) ts _ (all_take q is) r) (left m (k v) us o s)
        | inr isnt ↦ let h' : (w : g.Value q) → Takes g rank takes top m (k w) = subst (λ (b : Bool). unless_taken g rank takes top b ((w : g.Value q) → Takes g rank takes top m (k w))) isnt h in
            taken_then m ts us o (left q (g.body q) ts _ r) (taken m (k v) us o (h' v) s)
      ]
      taken m (Call q k) ts _ h (call_not r) = tt

      goes_on : (m q : g.Nonterminal) (k : g.Value q → P g m) (ts : List g.Token) (o : O g q) (f : g.Value q → List g.Token → O g m) → Reads g q (g.body q) ts o
          → ((v : g.Value q) (us : List g.Token) → room g rank takes top us ≤ room g rank takes top ts → (takes q ≡ true → room g rank takes top us + suc top ≤ room g rank takes top ts) → Reads g m (k v) us (f v us)) → Reads g m (Call q k) ts (on g o f)
      goes_on m q k ts (Done v us) f r h = call r (h v us (left q (g.body q) ts _ r) (λ e. taken q (g.body q) ts _ (all_take q e) r))
      goes_on m q k ts (Rejected x) f r h = call_not r

      fits : (b : Bool) (r us ts fuel : ℕ) → us ≤ ts → (b ≡ true → us + suc top ≤ ts) → ts + r ≤ fuel → us + when_taken g rank takes top b r ≤ fuel
      fits true r us ts fuel le h lt = let x = h refl in omega (arith, x)
      fits false r us ts fuel le h lt = omega arith

      module _ (small : (q : g.Nonterminal) → rank q ≤ top) (fine : (q : g.Nonterminal) → Fine g rank takes top q (rank q) (g.body q)) where
        run_reads : (fuel : ℕ) (m : g.Nonterminal) (p : P g m) (ts : List g.Token) (r : ℕ) → Fine g rank takes top m r p → room g rank takes top ts + r ≤ fuel → Reads g m p ts (run g fuel m p ts)
        unfolding run
        run_reads fuel m (Return v) ts r f le = give
        run_reads fuel m Fail ts r f le = misfit
        run_reads fuel m (Advance p) [] r f le = skip_end
        run_reads fuel m (Advance p) (t ∷ ts) r f le = skip (run_reads fuel m p ts top f (omega arith))
        run_reads fuel m (Peek by) ts r f le = look (run_reads fuel m (by (first_of_list ts)) ts r (f (first_of_list ts)) le)
        run_reads zero m (Call q k) ts r f le = absurd (let lt = f.0 in omega arith)
        run_reads (suc fuel) m (Call q k) ts r f le =
            let lt = f.0 in
            goes_on m q k ts _ _ (run_reads fuel q (g.body q) ts (rank q) (fine q) (omega arith))
            (λ v us h t. run_reads (suc fuel) m (k v) us (when_taken g rank takes top (takes q) r) (f.1 v) (fits (takes q) r _ _ _ h t le))

        pub parse_reads : (q : g.Nonterminal) (ts : List g.Token) → Reads g q (g.body q) ts (parse g rank takes top q ts)
        unfolding parse
        parse_reads q ts = run_reads _ q (g.body q) ts (rank q) (fine q) (omega arith)

        go_reads : (m : g.Nonterminal) (p : P g m) (ts : List g.Token) → Reads g m p ts (go g (parse g rank takes top) m p ts)
        go_reads m (Return v) ts = give
        go_reads m Fail ts = misfit
        go_reads m (Advance p) [] = skip_end
        go_reads m (Advance p) (t ∷ ts) = skip (go_reads m p ts)
        go_reads m (Peek by) ts = look (go_reads m (by (first_of_list ts)) ts)
        go_reads m (Call q k) ts = goes_on m q k ts _ _ (parse_reads q ts) (λ v us h t. go_reads m (k v) us)

        pub only : (q : g.Nonterminal) (ts : List g.Token) (o : O g q) → Reads g q (g.body q) ts o → parse g rank takes top q ts ≡ o
        only q ts o r = one q (g.body q) ts _ o (parse_reads q ts) r

        -- a part is what its body says
        pub opened : (q : g.Nonterminal) (ts : List g.Token) → parse g rank takes top q ts ≡ go g (parse g rank takes top) q (g.body q) ts
        opened q ts = only q ts _ (go_reads q (g.body q) ts)
