-- The automaton of N-Triples decides its rules: it is that of Turtle, but for a colon in a label.
use Rattle.std.proofs.Common.{◌≡◌, ◌⊎◌, inl, inr, ℕ, zero, suc, List, [], ◌∷◌, Bool, true, false, Option, Some, None, refl, sym, ap, ◌∙◌}
use Rattle.terminals.specs.declared.class.Class.{Class}
use Rattle.terminals.specs.declared.class.Class.TheVariants as classes
use Rattle.terminals.specs.declared.groups.Quote.{Quote}
use Rattle.terminals.specs.declared.groups.Quote.TheVariants as quotes
use Rattle.terminals.specs.Groups.{hex_value}
use Rattle.terminals.specs.Utf8.{Symbol}
use Rattle.terminals.specs.Rules.{Rule, Never, may_end, after, allows, with_digit}
use Rattle.terminals.specs.Terminals.{is_iri_code, is_scalar}
use Rattle.terminals.specs.Scan.{IsLost}
use Rattle.terminals.proofs.Longest.{run, kind_in, Decides}
use Rattle.terminals.proofs.Waits.{scan_step, scan_end, lost_stuck}
use Rattle.turtle_lexer.specs.declared.kind.TurtleKind.{TurtleKind}
use Rattle.turtle_lexer.specs.declared.kind.TurtleKind.TheVariants as kinds
use Rattle.turtle_lexer.specs.declared.state.State.{State}
use Rattle.turtle_lexer.specs.declared.state.State.TheVariants as at
use Rattle.turtle_lexer.specs.Rules.{wide_label, ntriples_rule_of}
use Rattle.turtle_lexer.specs.State.{when, digit_step, stepped, ntriples_stepped, kind_of, begin, caret_step, number_step, word_step, prefix_step, prefix_dot_step, first_local_step, local_step, label_step, tag_step, iri_step, line_step, long_step, slash_step, escape_step}
use Rattle.turtle_lexer.proofs.Derivatives.{after_all, path, rest, rest_of, is_kind, is_read, derives, ends, kind_is, is_kind_self, all_read}
use Rattle.turtle_lexer.proofs.Lookahead.{no_ill, shade, shade_back}

-- a step is that of Turtle, or a colon goes on with a label that ends there in Turtle
widened : (s : State) (x : Class) → (ntriples_stepped s x ≡ stepped s x) ⊎ ((stepped s x ≡ None) × (ntriples_stepped s x ≡ Some at.Label))
unfolding label_step
widened at.LabelColon classes.Colon = inr (refl, refl)
widened at.Label classes.Colon = inr (refl, refl)
widened at.LabelDot classes.Colon = inr (refl, refl)
widened s x = inl refl

-- ---- what a kind still wants in a state

abbrev wide_rest : State → Rule
wide_rest (at.IriNumber left n) = Never
wide_rest (at.LineNumber q left n) = Never
wide_rest (at.LongNumber q left n) = Never
wide_rest s = after_all (path s) wide_label

abbrev wide_rest_of : Option State → Rule
wide_rest_of None = Never
wide_rest_of (Some s) = wide_rest s

abbrev rest_in : State → TurtleKind → Rule
rest_in s kinds.BlankLabel = wide_rest s
rest_in s k = rest s k

abbrev rest_in_of : Option State → TurtleKind → Rule
rest_in_of None k = Never
rest_in_of (Some s) k = rest_in s k

wide_when : (done : State) (b : Bool) → wide_rest done ≡ Never → Never ≡ wide_rest_of (when b done)
wide_when done true e = sym e
wide_when done false e = refl

number_wide : (more : ℕ → ℕ → State) (done : State) (fine : ℕ → Bool) (o : Option ℕ) (left n : ℕ) → ((left n : ℕ) → wide_rest (more left n) ≡ Never) → wide_rest done ≡ Never → Never ≡ wide_rest_of (digit_step more done fine left n o)
number_wide more done fine None left n m d = refl
number_wide more done fine (Some v) zero n m d = wide_when done (fine (with_digit n v)) d
number_wide more done fine (Some v) (suc left) n m d = sym (m left (with_digit n v))

line_wide : (q : Quote) → wide_rest (at.Line q) ≡ Never
line_wide quotes.Double = refl
line_wide quotes.Single = refl

long_wide : (q : Quote) → wide_rest (at.Long q) ≡ Never
long_wide quotes.Double = refl
long_wide quotes.Single = refl

derives_wide : (s : State) (x : Class) → after x (wide_rest s) ≡ wide_rest_of (ntriples_stepped s x)
unfolding begin caret_step number_step word_step prefix_step prefix_dot_step first_local_step local_step label_step tag_step iri_step line_step long_step slash_step escape_step
derives_wide (at.IriNumber left n) x = number_wide at.IriNumber at.Iri is_iri_code (hex_value x) left n (λ left n. refl) refl
derives_wide (at.LineNumber q left n) x = number_wide (at.LineNumber q) (at.Line q) is_scalar (hex_value x) left n (λ left n. refl) (line_wide q)
derives_wide (at.LongNumber q left n) x = number_wide (at.LongNumber q) (at.Long q) is_scalar (hex_value x) left n (λ left n. refl) (long_wide q)
derives_wide (at.FirstQuote quotes.Double) (classes.Digit v) = refl
derives_wide (at.SecondQuote quotes.Double) (classes.Digit v) = refl
derives_wide (at.Line quotes.Double) (classes.Digit v) = refl
derives_wide (at.LineSlash quotes.Double) (classes.Digit v) = refl
derives_wide (at.Long quotes.Double) (classes.Digit v) = refl
derives_wide (at.LongOne quotes.Double) (classes.Digit v) = refl
derives_wide (at.LongTwo quotes.Double) (classes.Digit v) = refl
derives_wide (at.LongSlash quotes.Double) (classes.Digit v) = refl
derives_wide at.Start (classes.Digit v) = refl
derives_wide at.Start x = refl
derives_wide s (classes.Digit v) = refl
derives_wide s x = refl

wide_ends : (s : State) → may_end (wide_rest s) ≡ is_kind kinds.BlankLabel (kind_of s)
wide_ends at.Start = refl
wide_ends (at.FirstQuote quotes.Double) = refl
wide_ends (at.SecondQuote quotes.Double) = refl
wide_ends (at.Line quotes.Double) = refl
wide_ends (at.LineSlash quotes.Double) = refl
wide_ends (at.Long quotes.Double) = refl
wide_ends (at.LongOne quotes.Double) = refl
wide_ends (at.LongTwo quotes.Double) = refl
wide_ends (at.LongSlash quotes.Double) = refl
wide_ends s = refl

-- ---- all kinds

abbrev is_label : TurtleKind → Bool
is_label kinds.BlankLabel = true
is_label k = false

-- inside a label no other kind is wanted
label_rest : (k : TurtleKind) → is_label k ≡ false → rest at.Label k ≡ Never
label_rest kinds.BlankLabel e = absurd cc
label_rest kinds.IriRef e = refl
label_rest k e = refl

other_rest : (o : Option State) (k : TurtleKind) → is_label k ≡ false → rest_in_of o k ≡ rest_of o k
other_rest o kinds.BlankLabel e = absurd cc
other_rest None kinds.IriRef e = refl
other_rest (Some s) kinds.IriRef e = refl
other_rest None k e = refl
other_rest (Some s) k e = refl

derives_other : (s : State) (x : Class) (k : TurtleKind) → is_label k ≡ false → after x (rest s k) ≡ rest_of (ntriples_stepped s x) k
derives_other s x k other = elim (widened s x) [
  | inl e ↦ derives s x k ∙ sym (ap (λ o. rest_of o k) e)
  | inr e ↦ derives s x k ∙ (ap (λ o. rest_of o k) e.0 ∙ (sym (label_rest k other) ∙ sym (ap (λ o. rest_of o k) e.1)))
]

wide_of : (o : Option State) → rest_in_of o kinds.BlankLabel ≡ wide_rest_of o
wide_of None = refl
wide_of (Some s) = refl

derives_in : (s : State) (x : Class) (k : TurtleKind) → after x (rest_in s k) ≡ rest_in_of (ntriples_stepped s x) k
derives_in s x kinds.BlankLabel = derives_wide s x ∙ sym (wide_of (ntriples_stepped s x))
derives_in s x kinds.IriRef = derives_other s x kinds.IriRef refl ∙ sym (other_rest (ntriples_stepped s x) kinds.IriRef refl)
derives_in s x k = derives_other s x k refl ∙ sym (other_rest (ntriples_stepped s x) k refl)

ends_in : (s : State) (k : TurtleKind) → may_end (rest_in s k) ≡ is_kind k (kind_of s)
ends_in s kinds.BlankLabel = wide_ends s
ends_in s kinds.IriRef = ends s kinds.IriRef
ends_in s k = ends s k

decided : (xs : List Class) (s : Option State) (k : TurtleKind) → allows (rest_in_of s k) xs ≡ is_kind k (kind_in ntriples_stepped kind_of (run ntriples_stepped kind_of s xs))
decided [] None k = refl
decided [] (Some s) k = ends_in s k
decided (x ∷ xs) None k = decided xs None k
decided (x ∷ xs) (Some s) k = ap (λ r. allows r xs) (derives_in s x k) ∙ decided xs (ntriples_stepped s x) k

read_in : (o : Option State) → is_read (kind_in ntriples_stepped kind_of o) ≡ true
read_in None = refl
read_in (Some s) = all_read s

rule_rest : (k : TurtleKind) → ntriples_rule_of k ≡ rest_in at.Start k
rule_rest kinds.BlankLabel = refl
rule_rest k = refl

begun : (xs : List Class) (k : TurtleKind) → allows (ntriples_rule_of k) xs ≡ is_kind k (kind_in ntriples_stepped kind_of (run ntriples_stepped kind_of (Some at.Start) xs))
begun xs k = ap (λ r. allows r xs) (rule_rest k) ∙ decided xs (Some at.Start) k

pub ntriples_decides : Decides ntriples_stepped kind_of ntriples_rule_of at.Start
ntriples_decides = record {
  allowed = λ xs k e. begun xs k ∙ ap (is_kind k) e ∙ is_kind_self k (sym (ap is_read e) ∙ read_in (run ntriples_stepped kind_of (Some at.Start) xs));
  only = λ xs k e. kind_is k _ (sym (begun xs k) ∙ e);
}

-- ---- names that do not come

plain_ill : (s : State) → ntriples_stepped s classes.Ill ≡ stepped s classes.Ill
plain_ill at.Start = refl
plain_ill s = refl

pub ntriples_no_ill : (s : State) → ntriples_stepped s classes.Ill ≡ None
ntriples_no_ill s = plain_ill s ∙ no_ill s

-- a state that may wait for a colon is in no label
shade_plain : (s a : State) (x : Class) → shade s ≡ Some a → ntriples_stepped a x ≡ stepped a x
shade_plain at.Start a x e = let f : a ≡ at.PrefixDot = cc in rw f refl
shade_plain at.Word a x e = let f : a ≡ at.Prefix = cc in rw f refl
shade_plain at.Prefix a x e = let f : a ≡ at.Prefix = cc in rw f refl
shade_plain at.PrefixDot a x e = let f : a ≡ at.PrefixDot = cc in rw f refl
shade_plain _ a x e = absurd cc

pub ntriples_shade_back : (s t b : State) (x : Class) → ntriples_stepped s x ≡ Some t → shade t ≡ Some b → (a : State) × (shade s ≡ Some a) × (ntriples_stepped a x ≡ Some b)
ntriples_shade_back s t b x e f = elim (widened s x) [
  | inl same ↦ let r = shade_back s t b x (sym same ∙ e) f in (r.0, r.1, shade_plain s r.0 x r.1 ∙ r.2)
  | inr w ↦ let is : t ≡ at.Label = cc in absurd (let g : shade at.Label ≡ Some b = rw is at f in cc)
]
