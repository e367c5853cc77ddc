-- Names that do not come: what an automaton that waits for a colon does from any place of the same characters.
use Rattle.std.proofs.Common.{◌≡◌, ℕ, zero, suc, List, [], ◌∷◌, Bool, true, false, Option, Some, None, refl, sym, ap, subst, ◌∙◌}
use Rattle.terminals.specs.declared.class.Class.{Class}
use Rattle.terminals.specs.declared.class.Class.TheVariants as classes
use Rattle.terminals.specs.declared.groups.Quote.TheVariants as quotes
use Rattle.terminals.specs.Utf8.{Symbol}
use Rattle.terminals.specs.Groups.{hex_value}
use Rattle.terminals.specs.Rules.{with_digit}
use Rattle.terminals.specs.Terminals.{is_iri_code, is_scalar}
use Rattle.terminals.specs.Scan.{IsLost}
use Rattle.terminals.proofs.Longest.{kind_in}
use Rattle.terminals.proofs.Waits.{scan_step, scan_end, lost_stuck}
use Rattle.sparql_lexer.specs.declared.state.State.{State}
use Rattle.sparql_lexer.specs.declared.state.State.TheVariants as at
use Rattle.sparql_lexer.specs.State.{when, digit_step, stepped, kind_of, is_waiting, begin, mark_step, less_step, number_step, word_step, prefix_step, prefix_dot_step, first_local_step, local_step, label_step, tag_step, iri_step, line_step, long_step, slash_step, escape_step}

-- the state of an automaton that has only waited for a colon, where one in this state may still find one
abbrev pub shade : State → Option State
shade at.Start = Some at.PrefixDot
shade at.Word = Some at.Prefix
shade at.Prefix = Some at.Prefix
shade at.PrefixDot = Some at.PrefixDot
shade _ = None

abbrev shade_in : Option State → Option State
shade_in None = None
shade_in (Some s) = shade s

-- a shade steps as its state does, and a state without one gets none
abbrev Carried : Option State → Class → Option State → Type 0
Carried None x r = r ≡ None
Carried (Some a) x None = stepped a x ≡ stepped a x
Carried (Some a) x (Some b) = stepped a x ≡ Some b

last_shade : (done : State) (b : Bool) → shade done ≡ None → shade_in (when b done) ≡ None
last_shade done true e = e
last_shade done false e = refl

digit_shade : (more : ℕ → ℕ → State) (done : State) (fine : ℕ → Bool) (o : Option ℕ) (left n : ℕ) → ((left n : ℕ) → shade (more left n) ≡ None) → shade done ≡ None → shade_in (digit_step more done fine left n o) ≡ None
digit_shade more done fine None left n m d = refl
digit_shade more done fine (Some v) zero n m d = last_shade done (fine (with_digit n v)) d
digit_shade more done fine (Some v) (suc left) n m d = m left (with_digit n v)

carried : (s : State) (x : Class) → Carried (shade s) x (shade_in (stepped s x))
unfolding begin mark_step less_step number_step word_step prefix_step prefix_dot_step first_local_step local_step label_step tag_step iri_step line_step long_step slash_step escape_step
carried (at.IriNumber left n) x = digit_shade at.IriNumber at.Iri is_iri_code (hex_value x) left n (λ left n. refl) refl
carried (at.LineNumber q left n) x = digit_shade (at.LineNumber q) (at.Line q) is_scalar (hex_value x) left n (λ left n. refl) refl
carried (at.LongNumber q left n) x = digit_shade (at.LongNumber q) (at.Long q) is_scalar (hex_value x) left n (λ left n. refl) refl
carried at.Start (classes.Digit v) = refl
carried (at.FirstQuote quotes.Double) (classes.Digit v) = refl
carried (at.SecondQuote quotes.Double) (classes.Digit v) = refl
carried (at.Line quotes.Double) (classes.Digit v) = refl
carried (at.LineSlash quotes.Double) (classes.Digit v) = refl
carried (at.Long quotes.Double) (classes.Digit v) = refl
carried (at.LongOne quotes.Double) (classes.Digit v) = refl
carried (at.LongTwo quotes.Double) (classes.Digit v) = refl
carried (at.LongSlash quotes.Double) (classes.Digit v) = refl
carried at.Start x = refl
carried s (classes.Digit v) = refl
carried s x = refl

unfinished : (s : State) → kind_in stepped kind_of (shade s) ≡ None
unfinished at.Start = refl
unfinished s = refl

back_by : (o r : Option State) (x : Class) (b : State) → Carried o x r → r ≡ Some b → (a : State) × (o ≡ Some a) × (stepped a x ≡ Some b)
back_by None r x b c e = absurd cc
back_by (Some a) None x b c e = absurd cc
back_by (Some a) (Some d) x b c e = (a, refl, c ∙ e)

pub shade_back : (s t b : State) (x : Class) → stepped s x ≡ Some t → shade t ≡ Some b → (a : State) × (shade s ≡ Some a) × (stepped a x ≡ Some b)
shade_back s t b x e f = back_by (shade s) (shade_in (stepped s x)) x b (carried s x) (ap shade_in e ∙ f)

pub shade_unfinished : (s a : State) → shade s ≡ Some a → kind_of a ≡ None
shade_unfinished s a e = sym (ap (kind_in stepped kind_of) e) ∙ unfinished s

-- no token has an ill-formed byte
pub no_ill : (s : State) → stepped s classes.Ill ≡ None
unfolding begin mark_step less_step number_step word_step prefix_step prefix_dot_step first_local_step local_step label_step tag_step iri_step line_step long_step slash_step escape_step
no_ill (at.FirstQuote quotes.Double) = refl
no_ill (at.SecondQuote quotes.Double) = refl
no_ill (at.Line quotes.Double) = refl
no_ill (at.LineSlash quotes.Double) = refl
no_ill (at.Long quotes.Double) = refl
no_ill (at.LongOne quotes.Double) = refl
no_ill (at.LongTwo quotes.Double) = refl
no_ill (at.LongSlash quotes.Double) = refl
no_ill s = refl

-- a dot behind a prefix leaves no more than the prefix did
dot_alike : (x : Class) (t : State) → stepped at.PrefixDot x ≡ Some t → stepped at.Prefix x ≡ Some t
unfolding begin mark_step less_step number_step word_step prefix_step prefix_dot_step first_local_step local_step label_step tag_step iri_step line_step long_step slash_step escape_step
dot_alike classes.Colon t e = absurd cc
dot_alike x t e = e

dot_lost : (place : ℕ) (xs : List Symbol) → IsLost stepped kind_of at.Prefix place xs → IsLost stepped kind_of at.PrefixDot place xs
dot_lost place [] lost = λ best. scan_end stepped kind_of at.PrefixDot place best
dot_lost place (x ∷ xs) lost = by (stepped at.PrefixDot x.class) refl
  where
    by : (o : Option State) → stepped at.PrefixDot x.class ≡ o → IsLost stepped kind_of at.PrefixDot place (x ∷ xs)
    by None e = lost_stuck stepped kind_of at.PrefixDot place x xs e
    by (Some t) e = λ best. scan_step stepped kind_of at.PrefixDot (Some t) place best x xs e ∙ sym (scan_step stepped kind_of at.Prefix (Some t) place best x xs (dot_alike x.class t e)) ∙ lost best

pub is_dotted : (s a : State) (place : ℕ) (xs : List Symbol) → shade s ≡ Some a → IsLost stepped kind_of a place xs → IsLost stepped kind_of at.PrefixDot place xs
is_dotted at.Start a place xs e lost = let f : a ≡ at.PrefixDot = cc in subst (λ (s : State). IsLost stepped kind_of s place xs) f lost
is_dotted at.Word a place xs e lost = let f : a ≡ at.Prefix = cc in dot_lost place xs (subst (λ (s : State). IsLost stepped kind_of s place xs) f lost)
is_dotted at.Prefix a place xs e lost = let f : a ≡ at.Prefix = cc in dot_lost place xs (subst (λ (s : State). IsLost stepped kind_of s place xs) f lost)
is_dotted at.PrefixDot a place xs e lost = let f : a ≡ at.PrefixDot = cc in subst (λ (s : State). IsLost stepped kind_of s place xs) f lost
is_dotted _ a place xs e lost = absurd cc

-- a waiting state is its own shade
pub waiting_shade : (s : State) → is_waiting s ≡ true → shade s ≡ Some s
waiting_shade at.Prefix e = refl
waiting_shade at.PrefixDot e = refl
waiting_shade _ e = absurd cc
