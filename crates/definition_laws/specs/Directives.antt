-- What stands behind the words of directives of Turtle (RDF 1.1 Turtle, section 6.5, productions prefixID, base, sparqlPrefix and sparqlBase).
use Rattle.std.specs.Prelude.{◌≡◌, List, [], ◌∷◌, Bool, true, false}
use Rattle.grammar_model.specs.Parsers.{first_of_list}
use Rattle.turtle_reader.specs.declared.kind.Kind.{Kind}
use Rattle.turtle_reader.specs.declared.kind.Kind.TheVariants as kinds
use Rattle.turtle_reader.specs.declared.kind.Token.{Token}
use Rattle.turtle_reader.specs.Grammar.{kind_of, is_iri_ref, is_namespace}

-- `@base` and `BASE`
abbrev pub is_base_word : Kind → Bool
is_base_word kinds.AtBase = true
is_base_word kinds.Base = true
is_base_word _ = false

-- `@prefix` and `PREFIX`
abbrev pub is_prefix_word : Kind → Bool
is_prefix_word kinds.AtPrefix = true
is_prefix_word kinds.Prefix = true
is_prefix_word _ = false

abbrev pub behind_first : List Token → List Token
behind_first [] = []
behind_first (t ∷ ts) = ts

-- behind each word for the base stands an IRIREF, and behind each word for a prefix its name and an IRIREF
abbrev pub DirectivesFit : List Token → Type 0
DirectivesFit [] = Unit {0}
DirectivesFit (t ∷ ts) =
    (is_base_word t.kind ≡ true → is_iri_ref (kind_of (first_of_list ts)) ≡ true)
    × (is_prefix_word t.kind ≡ true → (is_namespace (kind_of (first_of_list ts)) ≡ true) × (is_iri_ref (kind_of (first_of_list (behind_first ts))) ≡ true))
    × DirectivesFit ts
