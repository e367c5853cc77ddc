-- Each token of a text of Turtle or of N-Triples has a text.
use Rattle.std.proofs.Common.{◌≡◌, ℕ, List, drop, slice_range, true, false, refl, sym, subst}
use Rattle.rdf_terms.specs.Lists.{IsIn}
use Rattle.terminals.specs.declared.class.Class.TheVariants as classes
use Rattle.terminals.specs.Groups.{is_label_first, is_local, is_local_first, is_name}
use Rattle.terminals.specs.Rules.{One, Then}
use Rattle.terminals.specs.Terminals.{with_dots}
use Rattle.terminals.specs.Utf8.{symbols_of}
use Rattle.turtle_lexer.specs.declared.kind.TurtleKind.{TurtleKind}
use Rattle.turtle_lexer.specs.declared.kind.TurtleKind.TheVariants as kinds
use Rattle.turtle_lexer.specs.declared.token.Token.{Token}
use Rattle.turtle_lexer.specs.Rules.{rule_of, ntriples_rule_of}
use Rattle.turtle_lexer.specs.Tokens.{TurtleTokens, NTriplesTokens, skipped, token_of}
use Rattle.definition_laws.specs.TokenTexts.{HasTurtleText}
use Rattle.definition_laws.proofs.Matching.{Matches, lacks}
use Rattle.definition_laws.proofs.Letters.{Letter, bytes_of, class_of, each_token}
use Rattle.definition_laws.proofs.Characters.{are_utf8}
use Rattle.definition_laws.proofs.Texts.{has_text, iri_utf8, prefix_utf8, local_utf8, label_utf8}
use Rattle.definition_laws.proofs.Strings.{string_utf8}
use Rattle.definition_laws.proofs.Tags.{tag_utf8}

no_ill : (k : TurtleKind) → lacks classes.Ill (rule_of k) ≡ true
no_ill kinds.IriRef = refl
no_ill kinds.Name = refl
no_ill kinds.BlankLabel = refl
no_ill kinds.At = refl
no_ill kinds.Quoted = refl
no_ill kinds.Integer = refl
no_ill kinds.Decimal = refl
no_ill kinds.Double = refl
no_ill kinds.Word = refl
no_ill kinds.Mark = refl
no_ill kinds.Bad = refl
no_ill kinds.End = refl

by_kind : (k : TurtleKind) (ls : List Letter) → Matches class_of (rule_of k) ls → HasTurtleText k (bytes_of ls)
by_kind kinds.IriRef ls m = has_text _ (iri_utf8 ls m)
by_kind kinds.Name ls m = (has_text _ (prefix_utf8 ls m), has_text _ (local_utf8 ls m))
by_kind kinds.BlankLabel ls m = has_text _ (label_utf8 (Then (One is_label_first) (with_dots is_name)) ls m)
by_kind kinds.At ls m = has_text _ (tag_utf8 ls m)
by_kind kinds.Quoted ls m = has_text _ (string_utf8 ls m)
by_kind kinds.Integer ls m = has_text _ (are_utf8 ls)
by_kind kinds.Decimal ls m = has_text _ (are_utf8 ls)
by_kind kinds.Double ls m = has_text _ (are_utf8 ls)
by_kind _ ls m = tt

pub turtle_texts : (bytes : List ℕ) (ts : List Token) → TurtleTokens bytes ts → (t : Token) → IsIn ts t → HasTurtleText t.kind (slice_range bytes t.from t.to)
turtle_texts bytes ts are t h =
    each_token rule_of token_of kinds.Bad kinds.End bytes (λ (t : Token). HasTurtleText t.kind (slice_range bytes t.from t.to)) no_ill
    (λ k from to ls e m. subst (λ (l : List ℕ). HasTurtleText k l) (sym e) (by_kind k ls m)) (λ at. tt) (λ at. tt)
    false (skipped bytes) (symbols_of (drop (skipped bytes) bytes)) ts refl are t h

-- ---- N-Triples, whose labels are wider

pub no_ill_wide : (k : TurtleKind) → lacks classes.Ill (ntriples_rule_of k) ≡ true
no_ill_wide kinds.BlankLabel = refl
no_ill_wide k = no_ill k

by_kind_wide : (k : TurtleKind) (ls : List Letter) → Matches class_of (ntriples_rule_of k) ls → HasTurtleText k (bytes_of ls)
by_kind_wide kinds.BlankLabel ls m = has_text _ (label_utf8 (Then (One is_local_first) (with_dots is_local)) ls m)
by_kind_wide k ls m = by_kind k ls m

pub ntriples_texts : (bytes : List ℕ) (ts : List Token) → NTriplesTokens bytes ts → (t : Token) → IsIn ts t → HasTurtleText t.kind (slice_range bytes t.from t.to)
ntriples_texts bytes ts are t h =
    each_token ntriples_rule_of token_of kinds.Bad kinds.End bytes (λ (t : Token). HasTurtleText t.kind (slice_range bytes t.from t.to)) no_ill_wide
    (λ k from to ls e m. subst (λ (l : List ℕ). HasTurtleText k l) (sym e) (by_kind_wide k ls m)) (λ at. tt) (λ at. tt)
    false (skipped bytes) (symbols_of (drop (skipped bytes) bytes)) ts refl are t h
