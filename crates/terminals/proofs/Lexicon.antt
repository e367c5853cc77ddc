-- A set of rules with an automaton that decides them.
use Rattle.std.proofs.Common.{◌≡◌, ℕ, List, Bool, true, Option, Some, None}
use Rattle.terminals.specs.declared.class.Class.{Class}
use Rattle.terminals.specs.declared.class.Class.TheVariants as classes
use Rattle.terminals.specs.Utf8.{Symbol}
use Rattle.terminals.specs.Rules.{Rule}
use Rattle.terminals.specs.Scan.{IsLost}
use Rattle.terminals.proofs.Longest.{Decides}

pub record Lexicon (S K T : Type 0) : Type 0 where
  -- the rules, and how tokens are made
  pub rule_of : K → Rule
  pub token : K → ℕ → ℕ → T
  pub bad : K
  pub last : K
  -- the automaton
  pub stepped : S → Class → Option S
  pub kind_of : S → Option K
  pub start : S
  pub empty : kind_of start ≡ None
  pub decides : Decides stepped kind_of rule_of start
  pub ill : (s : S) → stepped s classes.Ill ≡ None
  -- The states that wait for a colon. The shade of a state is the one of an automaton that has waited for a colon
  -- since some earlier place; `dot` is where it has read nothing.
  pub is_waiting : S → Bool
  pub shade : S → Option S
  pub dot : S
  pub begins : shade start ≡ Some dot
  pub waits : (s : S) → is_waiting s ≡ true → shade s ≡ Some s
  -- a shade steps as its state does, and is no token
  pub back : (s t b : S) (x : Class) → stepped s x ≡ Some t → shade t ≡ Some b → (a : S) × (shade s ≡ Some a) × (stepped a x ≡ Some b)
  pub unfinished : (s a : S) → shade s ≡ Some a → kind_of a ≡ None
  -- what has read nothing finds no more than what has read something
  pub dotted : (s a : S) (place : ℕ) (xs : List Symbol) → shade s ≡ Some a → IsLost stepped kind_of a place xs → IsLost stepped kind_of dot place xs
