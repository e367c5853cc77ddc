-- The links of seeds, one seed more.
use Rattle.std.proofs.Common.{ℕ, zero, suc, ◌≡◌, ◌+◌, ◌<◌, List, [], ◌∷◌, ◌++◌, Option, Some, None, inl, inr, refl, sym, ap, subst, ◌∙◌, arith, get_or, length, take}
use Rattle.std.specs.Prelude.{map}
use Rattle.std.proofs.lemmas.List.{take_more, map-append}
use Rattle.link_uri.specs.declared.link.Link.{Link}
use Rattle.link_uri.specs.Links.{link_of, IsLink, AreLinks}
use Rattle.rdf_terms.specs.Lists.{IsIn}
use Rattle.rdf_terms.proofs.Members.{in_either}
use Rattle.command_words.specs.Values.{with_link, links_of}

-- the parts of links that are there
record Parts (o : Option Link) (p : Option (List Link)) (ls : List Link) : Type 0 where
  first : Link
  more : List Link
  one : o ≡ Some first
  others : p ≡ Some more
  is : Some ls ≡ Some (first ∷ more)

parts : (o : Option Link) (p : Option (List Link)) (ls : List Link) → with_link o p ≡ Some ls → Parts o p ls
parts (Some a) (Some b) ls e = record { first = a; more = b; one = refl; others = refl; is = sym e }
parts (Some a) None ls e = absurd (cc)
parts None p ls e = absurd (cc)

pub one_more : (xs : List (List ℕ)) (t : List ℕ) (ls : List Link) (l : Link) → links_of xs ≡ Some ls → link_of t ≡ Some l → links_of (xs ++ t ∷ []) ≡ Some (ls ++ l ∷ [])
one_more [] t ls l e f = ap (λ o. with_link o (Some [])) f ∙ ap (λ (o : Option (List Link)). with_more o) e
  where
    with_more : Option (List Link) → Option (List Link)
    with_more None = None
    with_more (Some ms) = Some (ms ++ l ∷ [])
one_more (x ∷ xs) t ls l e f =
    let p = parts (link_of x) (links_of xs) ls e in
    (λ i. with_link (p.one i) (one_more xs t p.more l p.others f i)) ∙ ap (λ (o : Option (List Link)). with_more o) (sym p.is)
  where
    with_more : Option (List Link) → Option (List Link)
    with_more None = None
    with_more (Some ms) = Some (ms ++ l ∷ [])

no_more : (o : Option Link) → with_link o None ≡ None
no_more (Some a) = refl
no_more None = refl

-- where a seed has no link there are none
pub none_at : {X : Type 0} (f : X → List ℕ) (xs : List X) (i : ℕ) (d : X) → i < length xs → link_of (f (get_or xs i d)) ≡ None → links_of (map f xs) ≡ None
none_at f [] i d l e = absurd (omega arith)
none_at f (y ∷ xs) zero d l e = ap (λ o. with_link o (links_of (map f xs))) e
none_at f (y ∷ xs) (suc i) d l e = ap (λ p. with_link (link_of (f y)) p) (none_at f xs i d (omega arith) e) ∙ no_more (link_of (f y))

-- the links of one seed more
pub more_at : {X : Type 0} (f : X → List ℕ) (xs : List X) (i : ℕ) (d : X) (ls : List Link) (u : Link) → i < length xs → links_of (map f (take i xs)) ≡ Some ls → link_of (f (get_or xs i d)) ≡ Some u
    → links_of (map f (take (i + 1) xs)) ≡ Some (ls ++ u ∷ [])
more_at f xs i d ls u l so_far e =
    let longer : map f (take (i + 1) xs) ≡ map f (take i xs) ++ f (get_or xs i d) ∷ [] = ap (map f) (take_more xs i d l) ∙ map-append f (take i xs) (get_or xs i d ∷ []) in
    ap links_of longer ∙ one_more (map f (take i xs)) (f (get_or xs i d)) ls u so_far e

-- ---- links of their own texts

pub own_none : (us : List Link) → us ≡ [] → AreLinks us
own_none us e = λ v h. absurd (subst (λ (l : List Link). IsIn l v) e h)

-- one more, which is the link of its text
pub own_push : (us vs : List Link) (u : Link) → vs ≡ us ++ u ∷ [] → AreLinks us → IsLink u → AreLinks vs
own_push us vs u e valid_links one = λ v h.
    elim (in_either us (u ∷ []) v (subst (λ (l : List Link). IsIn l v) e h)) [
      | inl a ↦ valid_links v a
      | inr b ↦ elim b [ inl f ↦ subst IsLink f one | inr z ↦ absurd z ]
    ]
