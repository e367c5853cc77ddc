-- A grammar as a program for each of its parts, and how it reads a list of tokens.
use Rattle.std.specs.Prelude.{◌≡◌, ℕ, zero, suc, ◌+◌, ◌<◌, List, [], ◌∷◌, Bool, true, false, Option, Some, None}

-- How to go on: with tokens of T, parts Q and their values V, to a value of A.
pub data Parser (T Q : Type 0) (V : Q → Type 0) (A : Type 0) : Type 0 where
  -- the value
  Return : (v : A) → Parser T Q V A
  -- the next token does not fit
  Fail : Parser T Q V A
  -- past the next token
  Advance : (p : Parser T Q V A) → Parser T Q V A
  -- by the next token, which stays
  Peek : (by : Option T → Parser T Q V A) → Parser T Q V A
  -- through a part of the grammar
  Call : (q : Q) → (k : V q → Parser T Q V A) → Parser T Q V A

-- A value and the tokens that follow, or the first fault.
pub data Outcome (T X A : Type 0) : Type 0 where
  Done : (v : A) → (rest : List T) → Outcome T X A
  Rejected : (x : X) → Outcome T X A

pub record Grammar : Type 1 where
  pub Token : Type 0
  pub Fault : Type 0
  pub Nonterminal : Type 0
  pub Value : Nonterminal → Type 0
  pub body : (q : Nonterminal) → Parser Token Nonterminal Value (Value q)
  -- the fault where the first of these tokens does not fit, or none is left
  pub fault_at : List Token → Fault

abbrev pub first_of_list : {T : Type 0} → List T → Option T
first_of_list [] = None
first_of_list (t ∷ ts) = Some t

module _ (g : Grammar) where
  abbrev pub P : g.Nonterminal → Type 0
  P m = Parser g.Token g.Nonterminal g.Value (g.Value m)

  abbrev pub O : g.Nonterminal → Type 0
  O m = Outcome g.Token g.Fault (g.Value m)

  pub data Reads : (m : g.Nonterminal) → P m → List g.Token → O m → Type 0 where
    give : {m : g.Nonterminal} {v : g.Value m} {ts : List g.Token} → Reads m (Return v) ts (Done v ts)
    misfit : {m : g.Nonterminal} {ts : List g.Token} → Reads m Fail ts (Rejected (g.fault_at ts))
    skip : {m : g.Nonterminal} {p : P m} {t : g.Token} {ts : List g.Token} {o : O m} → Reads m p ts o → Reads m (Advance p) (t ∷ ts) o
    skip_end : {m : g.Nonterminal} {p : P m} → Reads m (Advance p) [] (Rejected (g.fault_at []))
    look : {m : g.Nonterminal} {by : Option g.Token → P m} {ts : List g.Token} {o : O m} → Reads m (by (first_of_list ts)) ts o → Reads m (Peek by) ts o
    call : {m q : g.Nonterminal} {k : g.Value q → P m} {ts us : List g.Token} {v : g.Value q} {o : O m} → Reads q (g.body q) ts (Done v us) → Reads m (k v) us o → Reads m (Call q k) ts o
    call_not : {m q : g.Nonterminal} {k : g.Value q → P m} {ts : List g.Token} {x : g.Fault} → Reads q (g.body q) ts (Rejected x) → Reads m (Call q k) ts (Rejected x)

  -- the same as a function, with as many calls within calls as fuel
  abbrev pub on : {m q : g.Nonterminal} → O q → (g.Value q → List g.Token → O m) → O m
  on (Done v us) f = f v us
  on (Rejected x) f = Rejected x

  unfoldable pub run : (fuel : ℕ) (m : g.Nonterminal) → P m → List g.Token → O m
  run fuel m (Return v) ts = Done v ts
  run fuel m Fail ts = Rejected (g.fault_at ts)
  run fuel m (Advance p) [] = Rejected (g.fault_at [])
  run fuel m (Advance p) (t ∷ ts) = run fuel m p ts
  run fuel m (Peek by) ts = run fuel m (by (first_of_list ts)) ts
  run zero m (Call q k) ts = Rejected (g.fault_at [])
  run (suc fuel) m (Call q k) ts = on (run fuel q (g.body q) ts) (λ v us. run (suc fuel) m (k v) us)

  -- the same where `self` reads the parts
  module _ (self : (q : g.Nonterminal) → List g.Token → O q) where
    abbrev pub go : (m : g.Nonterminal) → P m → List g.Token → O m
    go m (Return v) ts = Done v ts
    go m Fail ts = Rejected (g.fault_at ts)
    go m (Advance p) [] = Rejected (g.fault_at [])
    go m (Advance p) (t ∷ ts) = go m p ts
    go m (Peek by) ts = go m (by (first_of_list ts)) ts
    go m (Call q k) ts = on (self q ts) (λ v us. go m (k v) us)

  -- a part of the grammar, with enough fuel: parts that begin with parts have ranks
  module _ (rank : g.Nonterminal → ℕ) (takes : g.Nonterminal → Bool) (top : ℕ) where
    abbrev pub room : List g.Token → ℕ
    room [] = 0
    room (t ∷ ts) = suc top + room ts

    unfoldable pub parse : (q : g.Nonterminal) → List g.Token → O q
    parse q ts = run (room ts + rank q) q (g.body q) ts

    abbrev pub when_taken : Bool → ℕ → ℕ
    when_taken true r = top
    when_taken false r = r

    -- what is called before a token is taken has a smaller rank; some parts surely take one
    abbrev pub Fine : (m : g.Nonterminal) → ℕ → P m → Type 0
    Fine m r (Return v) = Unit {0}
    Fine m r Fail = Unit {0}
    Fine m r (Advance p) = Fine m top p
    Fine m r (Peek by) = (x : Option g.Token) → Fine m r (by x)
    Fine m r (Call q k) = (rank q < r) × ((v : g.Value q) → Fine m (when_taken (takes q) r) (k v))

    abbrev pub unless_taken : Bool → Type 0 → Type 0
    unless_taken true A = Unit {0}
    unless_taken false A = A

    -- no value is given before a token is taken
    abbrev pub Takes : (m : g.Nonterminal) → P m → Type 0
    Takes m (Return v) = ⊥
    Takes m Fail = Unit {0}
    Takes m (Advance p) = Unit {0}
    Takes m (Peek by) = (x : Option g.Token) → Takes m (by x)
    Takes m (Call q k) = unless_taken (takes q) ((v : g.Value q) → Takes m (k v))
