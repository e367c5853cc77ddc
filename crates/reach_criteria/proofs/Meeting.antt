-- A text that is met again adds no link.
use Rattle.std.proofs.Common.{ℕ, ◌≡◌, List, [], ◌∷◌, ◌++◌, Option, Some, true, refl, sym, ap, subst, inl, inr}
use Rattle.std.specs.declared.option.Option.TheVariants as option
use Rattle.std.specs.Prelude.{if◌then◌else◌, bytes_eq}
use Rattle.std.specs.List.{list_any}
use Rattle.std.specs.Option.{option_to_list}
use Rattle.std.proofs.lemmas.Option.{same_Some}
use Rattle.std.proofs.lemmas.Slice.Eq.{bytes_eq-Decides}
use Rattle.rdf_terms.specs.Lists.{add_once, add_all}
use Rattle.rdf_terms.proofs.Members.{in_left, in_right}
use Rattle.rdf_terms.proofs.Adding.{any_in, in_any, once_cases, each_once}
use Rattle.link_uri.specs.declared.link.Link.{Link}
use Rattle.link_uri.specs.Links.{link_of, same_link, IsLink}
use Rattle.reach_criteria.specs.Met.{IsThere, IsGathered}

-- a link stays there while links come, and is there once it has come
stays : (links : List Link) (link u : Link) → list_any (same_link u) links ≡ true → list_any (same_link u) (add_once same_link links link) ≡ true
stays links link u h =
    let w = any_in (same_link u) links h in
    elim (once_cases same_link links link) [
      | inl p ↦ subst (λ (l : List Link). list_any (same_link u) l ≡ true) (sym p.1) h
      | inr q ↦ subst (λ (l : List Link). list_any (same_link u) l ≡ true) (sym q.1) (in_any (same_link u) (links ++ link ∷ []) w.0 (in_left links (link ∷ []) w.0 w.1) w.2)
    ]

come : (links : List Link) (link : Link) → list_any (same_link link) (add_once same_link links link) ≡ true
come links link =
    elim (once_cases same_link links link) [
      | inl p ↦ subst (λ (l : List Link). list_any (same_link link) l ≡ true) (sym p.1) p.0
      | inr q ↦ subst (λ (l : List Link). list_any (same_link link) l ≡ true) (sym q.1)
          (in_any (same_link link) (links ++ link ∷ []) link (in_right links (link ∷ []) link (inl refl)) ((bytes_eq-Decides link.text link.text).1 refl))
    ]

-- what was gathered stays so while a link comes
pub gathered_link : (links : List Link) (met : List (List ℕ)) (link : Link) → IsGathered links met → IsLink link → IsGathered (add_once same_link links link) met
gathered_link links met link g own = record {
  valid_links = each_once same_link IsLink links link g.valid_links own;
  there = λ iri i u e. stays links link u (g.there iri i u e);
}

-- and while an IRI is met whose link is there
pub gathered_met : (links : List Link) (met : List (List ℕ)) (iri : List ℕ) → IsGathered links met → IsThere links iri → IsGathered links (add_once bytes_eq met iri)
gathered_met links met iri g there = record {
  valid_links = g.valid_links;
  there = λ other i. each_once bytes_eq (IsThere links) met iri g.there there other i;
}

-- the link of an IRI is there once it is added
there_of : (links : List Link) (o : Option Link) (u : Link) → o ≡ Some u → list_any (same_link u) (add_all same_link links (option_to_list o)) ≡ true
there_of links option.None u e = absurd (cc)
there_of links (Some link) u e = subst (λ (v : Link). list_any (same_link v) (add_once same_link links link) ≡ true) (same_Some _ _ e) (come links link)

pub added_there : (links : List Link) (iri : List ℕ) → IsThere (add_all same_link links (option_to_list (link_of iri))) iri
added_there links iri u e = there_of links (link_of iri) u e

-- a link that is there adds nothing
adds_none : (links : List Link) (o : Option Link) → ((u : Link) → o ≡ Some u → list_any (same_link u) links ≡ true) → links ≡ add_all same_link links (option_to_list o)
adds_none links option.None h = refl
adds_none links (Some u) h = ap (λ b. if b then links else links ++ u ∷ []) (sym (h u refl))

pub met_again : (links : List Link) (met : List (List ℕ)) (iri : List ℕ) → IsGathered links met → list_any (bytes_eq iri) met ≡ true → links ≡ add_all same_link links (option_to_list (link_of iri))
met_again links met iri g h =
    let w = any_in (bytes_eq iri) met h in
    adds_none links (link_of iri) (subst (IsThere links) (sym ((bytes_eq-Decides iri w.0).0 w.2)) (g.there w.0 w.1))
