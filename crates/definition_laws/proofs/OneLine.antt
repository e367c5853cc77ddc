-- A token that N-Triples takes has no line end in it.
use Rattle.std.proofs.Common.{◌≡◌, ◌≢◌, ℕ, ◌==◌, ◌||◌, List, [], ◌∷◌, drop, slice_range, Bool, true, false, cond, refl, sym, ap, subst, ◌∙◌, inl, inr, arith}
use Rattle.std.specs.List.{AllByRecursion}
use Rattle.rdf_terms.specs.Lists.{IsIn}
use Rattle.terminals.specs.declared.class.Class.TheVariants as classes
use Rattle.terminals.specs.declared.groups.Quote.{Quote}
use Rattle.terminals.specs.declared.groups.Quote.TheVariants as quotes
use Rattle.terminals.specs.Class.{ascii_class}
use Rattle.terminals.specs.Groups.{is_quote}
use Rattle.terminals.specs.Rules.{Rule, One, Then, Either}
use Rattle.terminals.specs.Terminals.{line_rest, long_rest, string_in, quoted}
use Rattle.terminals.specs.Texts.{plain}
use Rattle.terminals.specs.Utf8.{symbols_of}
use Rattle.terminals.specs.Values.{string_text}
use Rattle.turtle_lexer.specs.declared.kind.TurtleKind.{TurtleKind}
use Rattle.turtle_lexer.specs.declared.kind.TurtleKind.TheVariants as kinds
use Rattle.turtle_lexer.specs.declared.token.Token.{Token}
use Rattle.turtle_lexer.specs.Rules.{ntriples_rule_of}
use Rattle.turtle_lexer.specs.Tokens.{NTriplesTokens, skipped, token_of}
use Rattle.ntriples_reader.specs.declared.piece.Piece.TheVariants as pieces
use Rattle.ntriples_reader.specs.Lines.{is_line_end}
use Rattle.ntriples_reader.specs.Pieces.{piece_of, string_piece, text_piece, is_in_one_pair}
use Rattle.definition_laws.proofs.Matching.{Matches, lacks}
use Rattle.definition_laws.proofs.Letters.{Letter, bytes_of, class_of, each_token}
use Rattle.definition_laws.proofs.Undone.{HasNo}
use Rattle.definition_laws.proofs.Texts.{lacks_byte}
use Rattle.definition_laws.proofs.Strings.{then_quote}
use Rattle.definition_laws.proofs.TurtleTexts.{no_ill_wide}

abbrev pub IsClear : List ℕ → Type 0
IsClear bytes = AllByRecursion (λ b. is_line_end b ≡ false) bytes

neither : (bytes : List ℕ) → HasNo 13 bytes → HasNo 10 bytes → IsClear bytes
neither [] p q = tt
neither (b ∷ bytes) p q = (ap (λ t. t || b == 10) p.0 ∙ q.0, neither bytes p.1 q.1)

clear_rule : (r : Rule) (ls : List Letter) → lacks classes.LineEnd r ≡ true → Matches class_of r ls → IsClear (bytes_of ls)
unfolding ascii_class
clear_rule r ls h m = neither (bytes_of ls) (lacks_byte 13 classes.LineEnd r ls (omega arith) refl h m) (lacks_byte 10 classes.LineEnd r ls (omega arith) refl h m)

-- ---- a string in one pair of double quotes

abbrev long_string : Quote → Rule
long_string quote = Then (One (is_quote quote)) (Then (One (is_quote quote)) (long_rest quote))

double_clear : (ls : List Letter) → is_in_one_pair (bytes_of ls) ≡ true → Matches class_of (string_in quotes.Double) ls → IsClear (bytes_of ls)
double_clear ls one m = elim m.4 [
  | inl h ↦ clear_rule (Then (One (is_quote quotes.Double)) (line_rest quotes.Double)) ls refl (m.0, m.1, m.2, m.3, h)
  | inr h ↦
      let a = then_quote quotes.Double (long_string quotes.Double) ls (m.0, m.1, m.2, m.3, h) in
      let b = then_quote quotes.Double (Then (One (is_quote quotes.Double)) (long_rest quotes.Double)) a.0 a.2 in
      let c = then_quote quotes.Double (long_rest quotes.Double) b.0 b.2 in
      let is : bytes_of ls ≡ 34 ∷ 34 ∷ 34 ∷ bytes_of c.0 = a.1 ∙ ap (λ l. 34 ∷ l) (b.1 ∙ ap (λ l. 34 ∷ l) c.1) in
      absurd (let p = ap is_in_one_pair is in cc)
]

single_clear : (ls : List Letter) → is_in_one_pair (bytes_of ls) ≡ true → Matches class_of (string_in quotes.Single) ls → IsClear (bytes_of ls)
single_clear ls one m =
    let a = then_quote quotes.Single (Either (line_rest quotes.Single) (long_string quotes.Single)) ls m in
    absurd (let p = ap is_in_one_pair a.1 in cc)

in_one_pair : (bytes : List ℕ) (b : Bool) → cond b (text_piece (plain (string_text bytes))) pieces.Other ≢ pieces.Other → b ≡ true
in_one_pair bytes true h = refl
in_one_pair bytes false h = absurd (h refl)

string_clear : (ls : List Letter) → string_piece (bytes_of ls) ≢ pieces.Other → Matches class_of quoted ls → IsClear (bytes_of ls)
string_clear ls h m =
    let one = in_one_pair (bytes_of ls) (is_in_one_pair (bytes_of ls)) h in
    elim m [ inl d ↦ double_clear ls one d | inr s ↦ single_clear ls one s ]

-- ---- each kind

by_kind : (k : TurtleKind) (ls : List Letter) → piece_of k (bytes_of ls) ≢ pieces.Other → Matches class_of (ntriples_rule_of k) ls → IsClear (bytes_of ls)
by_kind kinds.IriRef ls h m = clear_rule (ntriples_rule_of kinds.IriRef) ls refl m
by_kind kinds.BlankLabel ls h m = clear_rule (ntriples_rule_of kinds.BlankLabel) ls refl m
by_kind kinds.At ls h m = clear_rule (ntriples_rule_of kinds.At) ls refl m
by_kind kinds.Quoted ls h m = string_clear ls h m
by_kind kinds.Mark ls h m = clear_rule (ntriples_rule_of kinds.Mark) ls refl m
by_kind _ ls h m = absurd (h refl)

abbrev pub TokenIsClear : List ℕ → Token → Type 0
TokenIsClear bytes t = piece_of t.kind (slice_range bytes t.from t.to) ≢ pieces.Other → IsClear (slice_range bytes t.from t.to)

pub tokens_clear : (bytes : List ℕ) (ts : List Token) → NTriplesTokens bytes ts → (t : Token) → IsIn ts t → TokenIsClear bytes t
tokens_clear bytes ts are t h =
    each_token ntriples_rule_of token_of kinds.Bad kinds.End bytes (λ (t : Token). TokenIsClear bytes t) no_ill_wide
    (λ k from to ls e m. subst (λ (l : List ℕ). piece_of k l ≢ pieces.Other → IsClear l) (sym e) (λ taken. by_kind k ls taken m)) (λ at taken. absurd (taken refl)) (λ at taken. absurd (taken refl))
    false (skipped bytes) (symbols_of (drop (skipped bytes) bytes)) ts refl are t h
