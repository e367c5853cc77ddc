-- A text is read in one way.
use Rattle.std.proofs.Common.{◌≡◌, ℕ, List, Result, refl, sym, ap, subst, ◌∙◌}
use Rattle.rdf_terms.specs.declared.triple.Triple.{Triple}
use Rattle.turtle_lexer.specs.declared.dialect.Dialect.TheVariants as dialects
use Rattle.turtle_lexer.specs.declared.token.Token.{Token}
use Rattle.turtle_lexer.specs.Tokens.{NTriplesTokens}
use Rattle.turtle_lexer.proofs.Languages.{one_token_list, a_token_list}
use Rattle.turtle_reader.specs.declared.fault.ReadFault.{ReadFault}
use Rattle.ntriples_reader.specs.Reading.{read_as, Reads, Gives, ntriples_reading}

-- a reading is that by any token list of the text
pub read_by : (doc bytes : List ℕ) (r : Result (List Triple) ℕ) (ts : List Token) → NTriplesTokens bytes ts → Reads doc bytes r → read_as doc bytes ts ≡ r
read_by doc bytes r ts are p = ap (read_as doc bytes) (one_token_list dialects.NTriples bytes ts p.tokens are p.are) ∙ p.is

pub one_reading : (doc bytes : List ℕ) (a b : Result (List Triple) ℕ) → Reads doc bytes a → Reads doc bytes b → a ≡ b
one_reading doc bytes a b p q = sym p.is ∙ read_by doc bytes b p.tokens p.are q

-- the text is read as its reading
pub reading_is : (doc bytes : List ℕ) → Reads doc bytes (ntriples_reading doc bytes)
reading_is doc bytes = let t = a_token_list dialects.NTriples bytes in record { tokens = t.0; are = t.1; is = refl }

pub gives_by : {X Y : Type 0} (see : X → Y) (result : Result X ReadFault) (a b : Result Y ℕ) → a ≡ b → Gives see result a → Gives see result b
gives_by {Y} see result a b e g = subst (λ (w : Result Y ℕ). Gives see result w) e g
