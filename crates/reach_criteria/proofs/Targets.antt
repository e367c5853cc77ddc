-- The list of followed links holds exactly the links that selected triples name.
use Rattle.std.proofs.Common.{ℕ, ◌≡◌, ◌<◌, ◌+◌, List, [], ◌∷◌, ◌++◌, Option, Some, Bool, true, false, refl, sym, ◌∙◌, ap, subst, inl, inr, length, get_or, take, append_assoc, append-nil}
use Rattle.std.specs.declared.option.Option.TheVariants as option
use Rattle.std.specs.Prelude.{if◌then◌else◌, bytes_eq, ◌||◌, ◌↔◌}
use Rattle.std.specs.Bool.{Decides}
use Rattle.std.specs.Option.{option_to_list}
use Rattle.std.specs.List.{list_any}
use Rattle.std.proofs.lemmas.List.{take_more}
use Rattle.std.proofs.lemmas.Option.{same_Some}
use Rattle.rdf_terms.specs.declared.triple.Triple.{Triple}
use Rattle.std.proofs.lemmas.Slice.Eq.{bytes_eq-Decides}
use Rattle.rdf_terms.specs.Lists.{IsIn, Apart, add_once, add_all}
use Rattle.rdf_terms.proofs.Members.{in_left, in_right, in_either, in_map, from_map, map_push}
use Rattle.rdf_terms.proofs.Adding.{any_in, in_any, Tells, grown_all, longer_all}
use Rattle.link_uri.specs.declared.link.Link.{Link}
use Rattle.link_uri.specs.Links.{same_link, link_text, texts}
use Rattle.rows_core.specs.declared.pattern.TriplePattern.{TriplePattern}
use Rattle.rows_core.specs.Patterns.{matches}
use Rattle.rows_core.proofs.Matching.{test_matches, matches_test}
use Rattle.reach_criteria.specs.declared.criterion.Criterion.{Criterion}
use Rattle.reach_criteria.specs.declared.criterion.Criterion.TheVariants.{All, None as Nothing, Match}
use Rattle.reach_criteria.specs.Follow.{Selects, Names, IsTarget, named_link, selects, named_links, appearing, links_of}

pub selects_true : (c : Criterion) (ps : List TriplePattern) (t : Triple) → selects c ps t ≡ true → Selects c ps t
selects_true All ps t h = tt
selects_true Nothing ps t h = absurd (cc)
selects_true Match ps t h = let found = any_in (λ p. matches p t) ps h in (found.0, found.1, test_matches found.0 t found.2)

pub true_selects : (c : Criterion) (ps : List TriplePattern) (t : Triple) → Selects c ps t → selects c ps t ≡ true
true_selects All ps t h = refl
true_selects Nothing ps t h = absurd h
true_selects Match ps t h = in_any (λ p. matches p t) ps h.0 h.1 (matches_test h.0 t h.2)

pub selects_Decides : (c : Criterion) (ps : List TriplePattern) (t : Triple) → Decides (selects c ps t) (Selects c ps t)
selects_Decides c ps t = (selects_true c ps t, true_selects c ps t)

listed_option : (o : Option Link) (v : Link) → IsIn (option_to_list o) v → o ≡ Some v
listed_option option.None v h = absurd h
listed_option (Some x) v (inl e) = ap (λ (y : Link). Some y) e
listed_option (Some x) v (inr h) = absurd h

option_listed : (o : Option Link) (v : Link) → o ≡ Some v → IsIn (option_to_list o) v
option_listed option.None v h = absurd (cc)
option_listed (Some x) v h = inl (same_Some _ _ h)

pub named_in : (t : Triple) (v : Link) → Names t v → IsIn (named_links t) v
named_in t v (inl e) = in_left _ _ v (option_listed _ v e)
named_in t v (inr (inl e)) = in_right (option_to_list (named_link t.s)) _ v (in_left _ _ v (option_listed _ v e))
named_in t v (inr (inr e)) = in_right (option_to_list (named_link t.s)) _ v (in_right (option_to_list (named_link t.p)) _ v (option_listed _ v e))

pub in_named : (t : Triple) (v : Link) → IsIn (named_links t) v → Names t v
in_named t v h =
    elim (in_either (option_to_list (named_link t.s)) _ v h) [
      | inl a ↦ inl (listed_option _ v a)
      | inr r ↦ inr (elim (in_either (option_to_list (named_link t.p)) _ v r) [ inl b ↦ inl (listed_option _ v b) | inr d ↦ inr (listed_option _ v d) ])
    ]

if_in : (b : Bool) (xs : List Link) (v : Link) → IsIn (if b then xs else []) v → (b ≡ true) × IsIn xs v
if_in true xs v h = (refl, h)
if_in false xs v h = absurd h

in_if : (b : Bool) (xs : List Link) (v : Link) → b ≡ true → IsIn xs v → IsIn (if b then xs else []) v
in_if true xs v e h = h
in_if false xs v e h = absurd (cc)

pub from_appearing : (c : Criterion) (ps : List TriplePattern) (ts : List Triple) (v : Link) → IsIn (appearing c ps ts) v → (t : Triple) × IsIn ts t × Selects c ps t × Names t v
from_appearing c ps [] v h = absurd h
from_appearing c ps (t ∷ ts) v h =
    elim (in_either (if selects c ps t then named_links t else []) _ v h) [
      | inl a ↦ let p = if_in (selects c ps t) (named_links t) v a in (t, inl refl, selects_true c ps t p.0, in_named t v p.1)
      | inr b ↦ let r = from_appearing c ps ts v b in (r.0, inr r.1, r.2, r.3)
    ]

pub in_appearing : (c : Criterion) (ps : List TriplePattern) (ts : List Triple) (t : Triple) (v : Link) → IsIn ts t → Selects c ps t → Names t v → IsIn (appearing c ps ts) v
in_appearing c ps [] t v h s n = absurd h
in_appearing c ps (x ∷ xs) t v (inl e) s n =
    let s' = subst (λ (y : Triple). Selects c ps y) (sym e) s in
    let n' = subst (λ (y : Triple). Names y v) (sym e) n in
    in_left _ _ v (in_if (selects c ps x) (named_links x) v (true_selects c ps x s') (named_in x v n'))
in_appearing c ps (x ∷ xs) t v (inr h) s n =
    in_right (if selects c ps x then named_links x else []) _ v (in_appearing c ps xs t v h s n)

-- the steps of the code

pub add_append : (known xs ys : List Link) → add_all same_link known (xs ++ ys) ≡ add_all same_link (add_all same_link known xs) ys
add_append known [] ys = refl
add_append known (x ∷ xs) ys = add_append (add_once same_link known x) xs ys

pub add_three : (known xs ys zs : List Link) → add_all same_link (add_all same_link (add_all same_link known xs) ys) zs ≡ add_all same_link known (xs ++ (ys ++ zs))
add_three known xs ys zs = sym (add_append known xs (ys ++ zs) ∙ add_append (add_all same_link known xs) ys zs)

pub appearing_push : (c : Criterion) (ps : List TriplePattern) (ts : List Triple) (t : Triple) → appearing c ps (ts ++ t ∷ []) ≡ appearing c ps ts ++ (if selects c ps t then named_links t else [])
appearing_push c ps [] t = append-nil (if selects c ps t then named_links t else [])
appearing_push c ps (x ∷ ts) t =
    ap (λ ls. (if selects c ps x then named_links x else []) ++ ls) (appearing_push c ps ts t)
    ∙ sym (append_assoc (if selects c ps x then named_links x else []) (appearing c ps ts) (if selects c ps t then named_links t else []))

pub gathered_more : (c : Criterion) (ps : List TriplePattern) (ts : List Triple) (i : ℕ) (d : Triple) → i < length ts → links_of c ps (take (i + 1) ts) ≡ add_all same_link (links_of c ps (take i ts)) (if selects c ps (get_or ts i d) then named_links (get_or ts i d) else [])
gathered_more c ps ts i d h =
    ap (λ (us : List Link). add_all same_link [] us) (ap (appearing c ps) (take_more ts i d h) ∙ appearing_push c ps (take i ts) (get_or ts i d))
    ∙ add_append [] (appearing c ps (take i ts)) (if selects c ps (get_or ts i d) then named_links (get_or ts i d) else [])

-- links each once have texts each once

any_texts : (u : Link) (us : List Link) → list_any (same_link u) us ≡ list_any (bytes_eq u.text) (texts us)
any_texts u [] = refl
any_texts u (v ∷ us) = ap (λ b. bytes_eq u.text v.text || b) (any_texts u us)

if_texts : (b : Bool) (us : List Link) (u : Link) → texts (if b then us else us ++ u ∷ []) ≡ (if b then texts us else texts us ++ u.text ∷ [])
if_texts true us u = refl
if_texts false us u = map_push link_text us u

texts_once : (us : List Link) (u : Link) → texts (add_once same_link us u) ≡ add_once bytes_eq (texts us) u.text
texts_once us u = if_texts (list_any (same_link u) us) us u ∙ ap (λ b. if b then texts us else texts us ++ u.text ∷ []) (any_texts u us)

texts_all : (known us : List Link) → texts (add_all same_link known us) ≡ add_all bytes_eq (texts known) (texts us)
texts_all known [] = refl
texts_all known (u ∷ us) = texts_all (add_once same_link known u) us ∙ ap (λ k. add_all bytes_eq k (texts us)) (texts_once known u)

text_tells : Tells bytes_eq (λ x. Unit {0})
text_tells = record { refl' = λ x. (bytes_eq-Decides x x).1 refl; one = λ a b p q h. (bytes_eq-Decides a b).0 h }

text_listed : (us : List Link) (u : Link) → IsIn us u → IsIn (texts (add_all same_link [] us)) u.text
text_listed us u h =
    subst (λ (l : List (List ℕ)). IsIn l u.text) (sym (texts_all [] us))
    ((grown_all bytes_eq (λ x. Unit {0}) [] (texts us) text_tells (λ y i. tt) (λ y i. tt)).all u.text (in_map link_text us u h))

-- the followed links are exactly those that selected triples name, and each stands once
pub targets_exact : (c : Criterion) (ps : List TriplePattern) (ts : List Triple) (x : List ℕ) → IsIn (texts (links_of c ps ts)) x ↔ IsTarget c ps ts x
targets_exact c ps ts x =
    let us = appearing c ps ts in
    let g = longer_all same_link [] us in (
      (λ h. let w = from_map link_text (add_all same_link [] us) x h in let r = from_appearing c ps ts w.0 (g.of w.0 (subst (λ (l : List Link). IsIn l w.0) g.is w.1)) in (r.0, r.1, r.2, w.0, r.3, w.2)),
      (λ l. subst (λ (y : List ℕ). IsIn (texts (add_all same_link [] us)) y) l.5 (text_listed us l.3 (in_appearing c ps ts l.0 l.3 l.1 l.2 l.4))),
    )

pub targets_once : (c : Criterion) (ps : List TriplePattern) (ts : List Triple) → Apart (texts (links_of c ps ts))
targets_once c ps ts =
    subst (λ (l : List (List ℕ)). Apart l) (sym (texts_all [] (appearing c ps ts)))
    ((grown_all bytes_eq (λ x. Unit {0}) [] (texts (appearing c ps ts)) text_tells (λ y i. tt) (λ y i. tt)).once tt)
