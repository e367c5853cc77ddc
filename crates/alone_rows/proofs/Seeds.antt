-- Lists of links.
use Rattle.std.proofs.Common.{◌≡◌, List, [], ◌∷◌, ◌++◌, subst, inl, inr}
use Rattle.rdf_terms.specs.Lists.{IsIn}
use Rattle.rdf_terms.proofs.Members.{in_either}
use Rattle.link_uri.specs.declared.link.Link.{Link}
use Rattle.link_uri.specs.Links.{IsLink, AreLinks}

-- none of them is another
pub own_none : (us : List Link) → us ≡ [] → AreLinks us
own_none us e = λ v h. absurd (subst (λ (l : List Link). IsIn l v) e h)

-- one more, which is the link of its text
pub own_push : (us vs : List Link) (u : Link) → vs ≡ us ++ u ∷ [] → AreLinks us → IsLink u → AreLinks vs
own_push us vs u e valid_links one = λ v h.
    elim (in_either us (u ∷ []) v (subst (λ (l : List Link). IsIn l v) e h)) [
      | inl a ↦ valid_links v a
      | inr b ↦ elim b [ inl f ↦ subst IsLink f one | inr z ↦ absurd z ]
    ]
