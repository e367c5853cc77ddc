-- What stands behind the words of declarations of queries (SPARQL 1.1, section 19.8, rules 5 and 6: BaseDecl and PrefixDecl).
use Rattle.std.specs.Prelude.{◌≡◌, List, [], ◌∷◌, Bool, true, false}
use Rattle.grammar_model.specs.Parsers.{first_of_list}
use Rattle.sparql_resolve.specs.declared.kind.Kind.{Kind}
use Rattle.sparql_resolve.specs.declared.kind.Kind.TheVariants as kinds
use Rattle.sparql_resolve.specs.declared.kind.Token.{Token}
use Rattle.sparql_parser.specs.Grammar.{kind_of, is_iri_ref, is_namespace}

-- BASE
abbrev pub is_base : Kind → Bool
is_base kinds.Base = true
is_base _ = false

-- PREFIX
abbrev pub is_prefix : Kind → Bool
is_prefix kinds.Prefix = true
is_prefix _ = false

abbrev pub behind_first : List Token → List Token
behind_first [] = []
behind_first (t ∷ ts) = ts

-- behind each BASE stands an IRIREF, and behind each PREFIX a prefix's name and an IRIREF
abbrev pub DeclarationsFit : List Token → Type 0
DeclarationsFit [] = Unit {0}
DeclarationsFit (t ∷ ts) =
    (is_base t.kind ≡ true → is_iri_ref (kind_of (first_of_list ts)) ≡ true)
    × (is_prefix t.kind ≡ true → (is_namespace (kind_of (first_of_list ts)) ≡ true) × (is_iri_ref (kind_of (first_of_list (behind_first ts))) ≡ true))
    × DeclarationsFit ts
