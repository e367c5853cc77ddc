-- What an IRIREF of a query stands for (SPARQL 1.1, section 4.1.1).
use Rattle.std.specs.Prelude.{ℕ, List, [], Option, Some, None, if◌then◌else◌}
use Rattle.iri_core.specs.Reference.{has_scheme}
use Rattle.iri_core.specs.Iris.{resolved_iri}

-- the IRI of an IRIREF's text; without a base a relative reference is refused
abbrev pub iri_of : Option (List ℕ) → List ℕ → Option (List ℕ)
iri_of (Some base) text = resolved_iri base text
iri_of None text = if has_scheme text then resolved_iri [] text else None
