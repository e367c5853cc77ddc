-- Each call keeps what a table of links is.
use Rattle.std.proofs.Common.{ℕ, zero, suc, ◌≡◌, ◌≢◌, ◌+◌, ◌<◌, ◌≤◌, List, [], ◌∷◌, ◌++◌, Option, Some, None, Bool, true, false, refl, sym, ◌∙◌, ap, subst, inl, inr, arith, length, length-append, take, drop, get_or}
use Rattle.std.specs.Option.{option_map}
use Rattle.std.specs.Prelude.{if◌then◌else◌, slice_get, cond, ◌||◌, is_some}
use Rattle.std.proofs.lemmas.Slice.Eq.{bytes_eq-Decides}
use Rattle.std.specs.List.{list_any, position, position_from}
use Rattle.std.proofs.lemmas.List.{take-map, take-append-drop}
use Rattle.std.proofs.lemmas.List.Quantifiers.{position-Some}
use Rattle.std.proofs.lemmas.Iterator.Adapters.{position_from-zero}
use Rattle.std.proofs.lemmas.Option.{same_Some, slice_get-get_or}
use Rattle.indexmap.specs.IndexMap.{set_value_at}
use Rattle.rdf_terms.specs.Lists.{IsIn, Apart}
use Rattle.rdf_terms.proofs.Members.{in_left, in_either, from_map, apart_left, apart_push, map_push}
use Rattle.rdf_terms.proofs.Adding.{in_any}
use Rattle.link_uri.specs.declared.link.Link.{Link}
use Rattle.link_uri.specs.Links.{IsLink, AreLinks, same_link, link_text}
use Rattle.link_uri.proofs.LinkLemmas.{links_tell}
use Rattle.link_queue.specs.declared.state.LinkState.{LinkState}
use Rattle.link_queue.specs.declared.state.LinkState.TheVariants.{Queued, InFlight, Settled}
use Rattle.link_queue.specs.Table.{links, link_at, state_at, with_state, first_queued, first_flying, flying, queue, IsTable}
use Rattle.link_uri.specs.Links.{texts}
use Rattle.link_queue.proofs.Places.{state_with_state, state_within, link_in, links_with_state, length_with_state, state_cases, first_queued_state, queued_test, flying_test, first_state, first_least, append_cases, state_take}
use Rattle.link_queue.specs.LinkStates.{is_queued, is_flying, weight}

-- the index map's word for a new value, and a table's
pub set_is : (rows : List (Link × LinkState)) (n : ℕ) (s : LinkState) → set_value_at rows n s ≡ with_state rows n s
set_is [] n s = refl
set_is (r ∷ rs) zero s = refl
set_is (r ∷ rs) (suc n) s = ap (λ t. r ∷ t) (set_is rs n s)

pub first_within : (rows : List (Link × LinkState)) (n : ℕ) → Some n ≡ first_queued rows → n < length rows
first_within rows n h = state_within rows n Queued (first_queued_state rows n (sym h))

pub first_taken : (rows : List (Link × LinkState)) (n : ℕ) → Some n ≡ first_queued rows → state_at (with_state rows n InFlight) n ≡ Some InFlight
first_taken rows n h = state_with_state rows n Queued InFlight (first_queued_state rows n (sym h))

-- the first in flight

pub out_state : (rows : List (Link × LinkState)) (n : ℕ) → Some n ≡ first_flying rows → state_at rows n ≡ Some InFlight
out_state rows n h = first_state is_flying InFlight rows n flying_test (sym h)

pub out_least : (rows : List (Link × LinkState)) (n k : ℕ) → Some n ≡ first_flying rows → k < n → state_at rows k ≢ Some InFlight
out_least rows n k h less at =
    let m = first_least is_flying InFlight rows k flying_test at in
    let e = same_Some _ _ (h ∙ m.1) in
    let le = m.2 in
    absurd (omega arith)

grounded : (s : LinkState) (n : ℕ) (o : Option ℕ) → ((o ≡ None) → n ≡ 0) → (if is_flying s then Some 0 else option_map suc o) ≡ None → weight s + n ≡ 0
grounded Queued n None z h = let e = z refl in omega arith
grounded Queued n (Some m) z h = absurd (cc)
grounded InFlight n o z h = absurd (cc)
grounded Settled n None z h = let e = z refl in omega arith
grounded Settled n (Some m) z h = absurd (cc)

none_out : (s : LinkState) (n : ℕ) (o : Option ℕ) → (n ≡ 0 → o ≡ None) → weight s + n ≡ 0 → (if is_flying s then Some 0 else option_map suc o) ≡ None
none_out Queued n o z h = ap (option_map suc) (z (omega arith))
none_out InFlight n o z h = absurd (omega arith)
none_out Settled n o z h = ap (option_map suc) (z (omega arith))

pub none_flies : {X : Type 0} (rows : List (X × LinkState)) → first_flying rows ≡ None → flying rows ≡ 0
none_flies [] h = refl
none_flies (r ∷ rs) h = grounded r.1 (flying rs) (first_flying rs) (none_flies rs) h

-- no number is found exactly where the count is 0
pub flies_none : {X : Type 0} (rows : List (X × LinkState)) → flying rows ≡ 0 → first_flying rows ≡ None
flies_none [] h = refl
flies_none (r ∷ rs) h = none_out r.1 (flying rs) (first_flying rs) (flies_none rs) h

pub restated : (rows : List (Link × LinkState)) (sp : List (List ℕ)) (cap : ℕ) (c d n : ℕ) (s : LinkState) → IsTable rows c sp cap → ((k : ℕ) → state_at (with_state rows n s) k ≡ Some Queued → d ≤ k) → d ≤ length rows → IsTable (with_state rows n s) d sp cap
restated rows sp cap c d n s t w l = record {
  apart = subst (λ (us : List Link). Apart (texts us)) (sym (links_with_state rows n s)) t.apart;
  valid_links = subst AreLinks (sym (links_with_state rows n s)) t.valid_links;
  waits = w;
  within = let e = length_with_state rows n s in omega arith;
  clear = t.clear;
  fits = let e = length_with_state rows n s in let f = t.fits in omega arith;
}

pub taken_table : (rows : List (Link × LinkState)) (sp : List (List ℕ)) (cap : ℕ) (c p : ℕ) → IsTable rows c sp cap → first_queued rows ≡ Some p → p < length rows → IsTable (with_state rows p InFlight) p sp cap
taken_table rows sp cap c p t f l =
    restated rows sp cap c p p InFlight t
    (λ k h. elim (state_cases rows p k InFlight Queued h) [
      | inl q ↦ let z = q.1 in absurd (cc)
      | inr q ↦ let m = first_least is_queued Queued rows k queued_test q.1 in let e = same_Some _ _ (sym f ∙ m.1) in let le = m.2 in omega arith
    ])
    (omega arith)

pub dry_table : (rows : List (Link × LinkState)) (sp : List (List ℕ)) (cap : ℕ) (c : ℕ) → IsTable rows c sp cap → first_queued rows ≡ None → IsTable rows (length rows) sp cap
dry_table rows sp cap c t f = record { apart = t.apart; valid_links = t.valid_links; waits = λ k h. let m = first_least is_queued Queued rows k queued_test h in let z = sym f ∙ m.1 in absurd (cc); within = omega arith; clear = t.clear; fits = t.fits }

pub settled_table : (rows : List (Link × LinkState)) (sp : List (List ℕ)) (cap : ℕ) (c n : ℕ) → IsTable rows c sp cap → IsTable (with_state rows n Settled) c sp cap
settled_table rows sp cap c n t =
    restated rows sp cap c c n Settled t
    (λ k h. elim (state_cases rows n k Settled Queued h) [ inl q ↦ let z = q.1 in absurd (cc) | inr q ↦ t.waits k q.1 ])
    t.within

pub back_table : (rows : List (Link × LinkState)) (sp : List (List ℕ)) (cap : ℕ) (c d n : ℕ) → IsTable rows c sp cap → d ≤ c → d ≤ n → IsTable (with_state rows n Queued) d sp cap
back_table rows sp cap c d n t l m =
    restated rows sp cap c d n Queued t
    (λ k h. elim (state_cases rows n k Queued Queued h) [ inl q ↦ let z = q.0 in omega arith | inr q ↦ let z = t.waits k q.1 in omega arith ])
    (let z = t.within in omega arith)

length_take : {X : Type 0} (n : ℕ) (rs : List X) → n ≤ length rs → length (take n rs) ≡ n
length_take zero rs h = refl
length_take (suc n) [] h = absurd (omega arith)
length_take (suc n) (r ∷ rs) h = ap (λ k. suc k) (length_take n rs (omega arith))

links_take : (n : ℕ) (rows : List (Link × LinkState)) → links (take n rows) ≡ take n (links rows)
links_take n rows = sym (take-map (λ r. r.0) n rows)

texts_take : (n : ℕ) (us : List Link) → texts (take n us) ≡ take n (texts us)
texts_take n us = sym (take-map link_text n us)

pub short_table : (rows : List (Link × LinkState)) (sp : List (List ℕ)) (cap : ℕ) (c d n : ℕ) → IsTable rows c sp cap → d ≤ c → d ≤ n → n ≤ length rows → IsTable (take n rows) d sp cap
short_table rows sp cap c d n t l m w =
    let ts = texts (links rows) in
    let e : texts (links (take n rows)) ≡ take n ts = ap texts (links_take n rows) ∙ texts_take n (links rows) in
    let z = length_take n rows w in
    record {
      apart = subst (λ (us : List (List ℕ)). Apart us) (sym e) (apart_left (take n ts) (drop n ts) (subst (λ (us : List (List ℕ)). Apart us) (sym (take-append-drop n ts)) t.apart));
      valid_links = λ u h. t.valid_links u (subst (λ (us : List Link). IsIn us u) (take-append-drop n (links rows)) (in_left (take n (links rows)) (drop n (links rows)) u (subst (λ (us : List Link). IsIn us u) (links_take n rows) h)));
      waits = λ k h. let y = t.waits k (state_take rows n k Queued h) in omega arith;
      within = omega arith;
      clear = t.clear;
      fits = let y = t.fits in omega arith;
    }

same_text : (u v : Link) → v.text ≡ u.text → same_link u v ≡ true
same_text u v e = (bytes_eq-Decides u.text v.text).1 (sym e)

-- where a link stands

none_by : (b : Bool) (o : Option ℕ) (i : ℕ) (r : Bool) → cond b (Some i) o ≡ None → (o ≡ None → r ≡ false) → (b || r) ≡ false
none_by true o i r h k = absurd (cc)
none_by false o i r h k = k h

none_any : (t : Link → Bool) (i : ℕ) (xs : List Link) → position_from t i xs ≡ None → list_any t xs ≡ false
none_any t i [] h = refl
none_any t i (x ∷ xs) h = none_by (t x) (position_from t (i + 1) xs) i (list_any t xs) h (none_any t (i + 1) xs)

link_at_get : (rows : List (Link × LinkState)) (n : ℕ) (u : Link) → slice_get (links rows) n ≡ Some u → link_at rows n ≡ Some u
link_at_get [] n u h = h
link_at_get (r ∷ rs) zero u h = h
link_at_get (r ∷ rs) (suc n) u h = link_at_get rs n u h

get_in : (us : List Link) (n : ℕ) (u : Link) → slice_get us n ≡ Some u → IsIn us u
get_in [] n u h = absurd (cc)
get_in (x ∷ xs) zero u h = inl (same_Some _ _ h)
get_in (x ∷ xs) (suc n) u h = inr (get_in xs n u h)

queue_old : (rows : List (Link × LinkState)) (u : Link) → list_any (same_link u) (links rows) ≡ true → rows ≡ queue rows u
queue_old rows u h = sym (ap (λ b. if b then rows else rows ++ (u, Queued) ∷ []) h)

queue_new : (rows : List (Link × LinkState)) (u : Link) → list_any (same_link u) (links rows) ≡ false → queue rows u ≡ rows ++ (u, Queued) ∷ []
queue_new rows u h = ap (λ b. if b then rows else rows ++ (u, Queued) ∷ []) h

pub found_there : (rows : List (Link × LinkState)) (u : Link) (i : ℕ) → AreLinks (links rows) → IsLink u → Some i ≡ position (same_link u) (links rows) → (rows ≡ queue rows u) × (link_at rows i ≡ Some u)
found_there rows u i valid_links is h =
    let us = links rows in
    let p = position-Some (same_link u) us i u (sym h) in
    let g : slice_get us i ≡ Some (get_or us i u) = slice_get-get_or us i u p.0 in
    let inside : IsIn us (get_or us i u) = get_in us i _ g in
    let e : u ≡ get_or us i u = links_tell.one u (get_or us i u) is (valid_links _ inside) p.1 in
    (queue_old rows u (in_any (same_link u) us _ inside p.1), link_at_get rows i u (g ∙ ap (λ (x : Link). Some x) (sym e)))

pub found_none : (rows : List (Link × LinkState)) (u : Link) → None ≡ position (same_link u) (links rows) → (queue rows u ≡ rows ++ (u, Queued) ∷ []) × (list_any (same_link u) (links rows) ≡ false)
found_none rows u h =
    let n = none_any (same_link u) 0 (links rows) (sym (h ∙ position_from-zero (same_link u) (links rows))) in
    (queue_new rows u n, n)

pub pushed_table : (rows : List (Link × LinkState)) (sp : List (List ℕ)) (old cap : ℕ) (c : ℕ) (u : Link) → IsTable rows c sp old → IsLink u → list_any (same_link u) (links rows) ≡ false → length rows + 1 ≤ cap → IsTable (rows ++ (u, Queued) ∷ []) c sp cap
pushed_table rows sp old cap c u t is n f =
    let e : links (rows ++ (u, Queued) ∷ []) ≡ links rows ++ u ∷ [] = map_push (λ r. r.0) rows (u, Queued) in
    let len = length-append rows ((u, Queued) ∷ []) in
    record {
      apart = subst (λ (us : List (List ℕ)). Apart us) (sym (ap texts e ∙ map_push link_text (links rows) u))
          (apart_push (texts (links rows)) u.text t.apart (λ h. let w = from_map link_text (links rows) u.text h in let z = in_any (same_link u) (links rows) w.0 w.1 (same_text u w.0 w.2) in absurd (cc)));
      valid_links = λ v h. elim (in_either (links rows) (u ∷ []) v (subst (λ (us : List Link). IsIn us v) e h)) [ inl a ↦ t.valid_links v a | inr b ↦ elim b [ inl s ↦ subst IsLink s is | inr z ↦ absurd z ] ];
      waits = λ k h. elim (append_cases rows ((u, Queued) ∷ []) k Queued h) [ inl a ↦ t.waits k a | inr l ↦ let z = t.within in omega arith ];
      within = let z = t.within in omega arith;
      clear = t.clear;
      fits = omega arith;
    }

pub none_from : {X : Type 0} (o : Option X) → false ≡ is_some o → o ≡ None
none_from None h = refl
none_from (Some x) h = absurd (cc)

pub own_at : (rows : List (Link × LinkState)) (n : ℕ) (u : Link) → AreLinks (links rows) → link_at rows n ≡ Some u → IsLink u
own_at rows n u valid_links at = valid_links u (link_in rows n u at)
