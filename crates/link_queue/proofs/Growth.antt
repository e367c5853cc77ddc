-- What a table gains by links that are added.
use Rattle.std.proofs.Common.{ℕ, zero, suc, ◌≡◌, ◌⊎◌, ◌+◌, ◌<◌, ◌≤◌, List, [], ◌∷◌, ◌++◌, Option, Some, Bool, true, false, refl, sym, ◌∙◌, ap, subst, inl, inr, arith, length, length-append, take, get_or, append_assoc, append-nil}
use Rattle.std.specs.Prelude.{if◌then◌else◌, is_some, ◌||◌, cond}
use Rattle.std.specs.List.{list_any, position, position_from}
use Rattle.std.proofs.lemmas.List.{take_more}
use Rattle.std.proofs.lemmas.Iterator.Adapters.{position_from-zero}
use Rattle.std.proofs.Math.Seq.{take-append_seam}
use Rattle.std.proofs.lemmas.Slice.Eq.{bytes_eq-Decides}
use Rattle.rdf_terms.specs.Lists.{IsIn, Apart, add_once, add_all}
use Rattle.rdf_terms.proofs.Members.{in_left, in_right, in_either, in_map, from_map, apart_push, map_push}
use Rattle.rdf_terms.proofs.Adding.{any_in, in_any, each_all}
use Rattle.link_uri.specs.declared.link.Link.{Link}
use Rattle.link_uri.specs.Links.{IsLink, AreLinks, same_link, link_text}
use Rattle.link_queue.specs.declared.state.LinkState.{LinkState}
use Rattle.link_queue.specs.declared.state.LinkState.TheVariants.{Queued}
use Rattle.link_queue.specs.Table.{links, link_at, state_at, with_state, flying, queue, queue_all, mark, marks}
use Rattle.link_uri.specs.Links.{texts}
use Rattle.link_queue.proofs.Places.{state_at_append, link_at_append, flying_append}

-- the rows by their texts

pub links_marks : (rows : List (Link × LinkState)) → links (marks rows) ≡ texts (links rows)
links_marks [] = refl
links_marks (r ∷ rs) = ap (λ t. r.0.text ∷ t) (links_marks rs)

pub marks_with_state : (rows : List (Link × LinkState)) (n : ℕ) (s : LinkState) → marks (with_state rows n s) ≡ with_state (marks rows) n s
marks_with_state [] n s = refl
marks_with_state (r ∷ rs) zero s = refl
marks_with_state (r ∷ rs) (suc n) s = ap (λ t. mark r ∷ t) (marks_with_state rs n s)

pub state_marks : (rows : List (Link × LinkState)) (n : ℕ) → state_at (marks rows) n ≡ state_at rows n
state_marks [] n = refl
state_marks (r ∷ rs) zero = refl
state_marks (r ∷ rs) (suc n) = state_marks rs n

pub link_marks : (rows : List (Link × LinkState)) (n : ℕ) (u : Link) → link_at rows n ≡ Some u → link_at (marks rows) n ≡ Some u.text
link_marks [] n u h = absurd (cc)
link_marks (r ∷ rs) zero u h = ap (λ o. link_at (marks ((r.0, r.1) ∷ rs)) 0) h ∙ by h
  where
    by : Some r.0 ≡ Some u → Some r.0.text ≡ Some u.text
    by h = cc
link_marks (r ∷ rs) (suc n) u h = link_marks rs n u h

pub flying_marks : (rows : List (Link × LinkState)) → flying (marks rows) ≡ flying rows
flying_marks [] = refl
flying_marks (r ∷ rs) = let e = flying_marks rs in omega arith

-- one more link

pub queue_cases : (rows : List (Link × LinkState)) (u : Link) → ((list_any (same_link u) (links rows) ≡ true) × (queue rows u ≡ rows)) ⊎ ((list_any (same_link u) (links rows) ≡ false) × (queue rows u ≡ rows ++ (u, Queued) ∷ []))
queue_cases rows u =
    elim (list_any (same_link u) (links rows)) as (λ b. list_any (same_link u) (links rows) ≡ b → ((b ≡ true) × ((if b then rows else rows ++ (u, Queued) ∷ []) ≡ rows)) ⊎ ((b ≡ false) × ((if b then rows else rows ++ (u, Queued) ∷ []) ≡ rows ++ (u, Queued) ∷ []))) [
      | true ↦ λ e. inl (refl, refl)
      | false ↦ λ e. inr (refl, refl)
    ] refl

-- the links of the new rows are those that were there and the added ones
pub links_queue : (rows : List (Link × LinkState)) (u : Link) → links (queue rows u) ≡ add_once same_link (links rows) u
links_queue rows u =
    elim (list_any (same_link u) (links rows)) as (λ b. links (if b then rows else rows ++ (u, Queued) ∷ []) ≡ (if b then links rows else links rows ++ u ∷ [])) [
      | true ↦ refl
      | false ↦ map_push (λ r. r.0) rows (u, Queued)
    ]

pub links_queue_all : (rows : List (Link × LinkState)) (us : List Link) → links (queue_all rows us) ≡ add_all same_link (links rows) us
links_queue_all rows [] = refl
links_queue_all rows (u ∷ us) = links_queue_all (queue rows u) us ∙ ap (λ k. add_all same_link k us) (links_queue rows u)

pub own_queue_all : (rows : List (Link × LinkState)) (us : List Link) → AreLinks (links rows) → AreLinks us → AreLinks (links (queue_all rows us))
own_queue_all rows us k p = subst AreLinks (sym (links_queue_all rows us)) (each_all same_link IsLink (links rows) us k p)

-- rows that only gained queued links, all of them of a list
pub record Grown {X : Type 0} (rows : List (X × LinkState)) (us : List X) (new : List (X × LinkState)) : Type 0 where
  pub more : List (X × LinkState)
  pub is : new ≡ rows ++ more
  pub queued : (r : X × LinkState) → IsIn more r → r.1 ≡ Queued
  pub flies : flying new ≡ flying rows
  pub apart : Apart (links rows) → Apart (links new)
  pub keep : (x : X) → IsIn (links rows) x → IsIn (links new) x
  pub all : (x : X) → IsIn us x → IsIn (links new) x
  pub from : (x : X) → IsIn (links new) x → IsIn (links rows) x ⊎ IsIn us x

pub grown_none : {X : Type 0} (rows : List (X × LinkState)) → Grown rows [] rows
grown_none rows = record { more = []; is = sym (append-nil rows); queued = λ r h. absurd h; flies = refl; apart = λ a. a; keep = λ x h. h; all = λ x h. absurd h; from = λ x h. inl h }

pub grown_then : {X : Type 0} (a b c : List (X × LinkState)) (u : X) (us : List X) → Grown a (u ∷ []) b → Grown b us c → Grown a (u ∷ us) c
grown_then a b c u us g h = record {
  more = g.more ++ h.more;
  is = h.is ∙ (ap (λ (l : List _). l ++ h.more) g.is ∙ append_assoc a g.more h.more);
  queued = λ r i. elim (in_either g.more h.more r i) [ inl j ↦ g.queued r j | inr j ↦ h.queued r j ];
  flies = h.flies ∙ g.flies;
  apart = λ o. h.apart (g.apart o);
  keep = λ x i. h.keep x (g.keep x i);
  all = λ x i. elim i [ inl e ↦ h.keep x (g.all x (inl e)) | inr j ↦ h.all x j ];
  from = λ x i. elim (h.from x i) [ inl j ↦ elim (g.from x j) [ inl k ↦ inl k | inr k ↦ elim k [ inl e ↦ inr (inl e) | inr z ↦ absurd z ] ] | inr j ↦ inr (inr j) ];
}

same_texts : (u v : Link) → u.text ≡ v.text → same_link u v ≡ true
same_texts u v e = (bytes_eq-Decides u.text v.text).1 e

texts_same : (u v : Link) → same_link u v ≡ true → u.text ≡ v.text
texts_same u v h = (bytes_eq-Decides u.text v.text).0 h

-- by texts, no link need be known to be one
pub grown_one : (rows : List (Link × LinkState)) (u : Link) → Grown (marks rows) (u.text ∷ []) (marks (queue rows u))
grown_one rows u =
    let m = marks rows in
    elim (queue_cases rows u) [
      | inl p ↦
          let w = any_in (same_link u) (links rows) p.0 in
          let there : IsIn (links m) u.text = subst (λ (l : List (List ℕ)). IsIn l u.text) (sym (links_marks rows)) (subst (λ (t : List ℕ). IsIn (texts (links rows)) t) (sym (texts_same u w.0 w.2)) (in_map link_text (links rows) w.0 w.1)) in
          subst (λ (k : List (Link × LinkState)). Grown m (u.text ∷ []) (marks k)) (sym p.1)
          (record {
            more = [];
            is = sym (append-nil m);
            queued = λ r h. absurd h;
            flies = refl;
            apart = λ a. a;
            keep = λ x h. h;
            all = λ x h. elim h [ inl e ↦ subst (λ (t : List ℕ). IsIn (links m) t) e there | inr z ↦ absurd z ];
            from = λ x h. inl h;
          })
      | inr q ↦
          let row : List ℕ × LinkState = (u.text, Queued) in
          let push : marks (rows ++ (u, Queued) ∷ []) ≡ m ++ row ∷ [] = map_push mark rows (u, Queued) in
          let new : links (m ++ row ∷ []) ≡ links m ++ u.text ∷ [] = map_push (λ r. r.0) m row in
          let fresh : IsIn (links m) u.text → ⊥ =
          λ h. let w = from_map link_text (links rows) u.text (subst (λ (l : List (List ℕ)). IsIn l u.text) (links_marks rows) h) in let z = in_any (same_link u) (links rows) w.0 w.1 (same_texts u w.0 (sym w.2)) in let y = q.0 in absurd (cc) in
          subst (λ (k : List (Link × LinkState)). Grown m (u.text ∷ []) (marks k)) (sym q.1)
          (subst (λ (k : List (List ℕ × LinkState)). Grown m (u.text ∷ []) k) (sym push)
          (record {
            more = row ∷ [];
            is = refl;
            queued = λ r h. elim h [ inl e ↦ sym (ap (λ y. y.1) e) | inr z ↦ absurd z ];
            flies = let f = flying_append m (row ∷ []) in omega arith;
            apart = λ a. subst (λ (l : List (List ℕ)). Apart l) (sym new) (apart_push (links m) u.text a fresh);
            keep = λ x h. subst (λ (l : List (List ℕ)). IsIn l x) (sym new) (in_left (links m) (u.text ∷ []) x h);
            all = λ x h. subst (λ (l : List (List ℕ)). IsIn l x) (sym new) (in_right (links m) (u.text ∷ []) x h);
            from = λ x h. in_either (links m) (u.text ∷ []) x (subst (λ (l : List (List ℕ)). IsIn l x) new h);
          }))
    ]

pub grown : (rows : List (Link × LinkState)) (us : List Link) → Grown (marks rows) (texts us) (marks (queue_all rows us))
grown rows [] = grown_none (marks rows)
grown rows (u ∷ us) = grown_then (marks rows) (marks (queue rows u)) (marks (queue_all (queue rows u) us)) u.text (texts us) (grown_one rows u) (grown (queue rows u) us)

-- the steps of a loop, and its undoing

pub queue_all_push : (rows : List (Link × LinkState)) (us : List Link) (u : Link) → queue_all rows (us ++ u ∷ []) ≡ queue (queue_all rows us) u
queue_all_push rows [] u = refl
queue_all_push rows (v ∷ us) u = queue_all_push (queue rows v) us u

pub queue_all_more : (rows : List (Link × LinkState)) (us : List Link) (i : ℕ) (d : Link) → i < length us → queue_all rows (take (i + 1) us) ≡ queue (queue_all rows (take i us)) (get_or us i d)
queue_all_more rows us i d h = ap (queue_all rows) (take_more us i d h) ∙ queue_all_push rows (take i us) (get_or us i d)

pub longer : (rows : List (Link × LinkState)) (us : List Link) → (more : List (Link × LinkState)) × (queue_all rows us ≡ rows ++ more)
longer rows [] = ([], sym (append-nil rows))
longer rows (u ∷ us) =
    let b = longer (queue rows u) us in
    elim (queue_cases rows u) [
      | inl p ↦ (b.0, b.1 ∙ ap (λ (l : List _). l ++ b.0) p.1)
      | inr q ↦ ((u, Queued) ∷ b.0, b.1 ∙ (ap (λ (l : List _). l ++ b.0) q.1 ∙ append_assoc rows ((u, Queued) ∷ []) b.0))
    ]

pub take_queue_all : (rows : List (Link × LinkState)) (us : List Link) → take (length rows) (queue_all rows us) ≡ rows
take_queue_all rows us = let g = longer rows us in ap (take (length rows)) g.1 ∙ take-append_seam rows g.0

pub le_queue_all : (rows : List (Link × LinkState)) (us : List Link) → length rows ≤ length (queue_all rows us)
le_queue_all rows us =
    let g = longer rows us in
    let e : length (queue_all rows us) ≡ length rows + length g.0 = ap length g.1 ∙ length-append rows g.0 in
    omega arith

pub state_grown : (rows : List (Link × LinkState)) (us : List Link) (n : ℕ) (s : LinkState) → state_at rows n ≡ Some s → state_at (queue_all rows us) n ≡ Some s
state_grown rows us n s at = let g = longer rows us in subst (λ (k : List (Link × LinkState)). state_at k n ≡ Some s) (sym g.1) (state_at_append rows g.0 n s at)

pub link_grown : (rows : List (Link × LinkState)) (us : List Link) (n : ℕ) (u : Link) → link_at rows n ≡ Some u → link_at (queue_all rows us) n ≡ Some u
link_grown rows us n u at = let g = longer rows us in subst (λ (k : List (Link × LinkState)). link_at k n ≡ Some u) (sym g.1) (link_at_append rows g.0 n u at)

-- a link that is there

some_by : (b : Bool) (o : Option ℕ) (i : ℕ) (r : Bool) → is_some o ≡ r → is_some (cond b (Some i) o) ≡ (b || r)
some_by true o i r h = refl
some_by false o i r h = h

some_any : (t : Link → Bool) (i : ℕ) (xs : List Link) → is_some (position_from t i xs) ≡ list_any t xs
some_any t i [] = refl
some_any t i (x ∷ xs) = some_by (t x) (position_from t (i + 1) xs) i (list_any t xs) (some_any t (i + 1) xs)

pub position_any : (t : Link → Bool) (xs : List Link) → is_some (position t xs) ≡ list_any t xs
position_any t xs = ap is_some (position_from-zero t xs) ∙ some_any t 0 xs

pub queue_there : (rows : List (Link × LinkState)) (u : Link) → list_any (same_link u) (links rows) ≡ true → rows ≡ queue rows u
queue_there rows u h = sym (ap (λ b. if b then rows else rows ++ (u, Queued) ∷ []) h)

pub get_or_in : {X : Type 0} (us : List X) (i : ℕ) (d : X) → i < length us → IsIn us (get_or us i d)
get_or_in [] i d h = absurd (omega arith)
get_or_in (x ∷ xs) zero d h = inl refl
get_or_in (x ∷ xs) (suc i) d h = inr (get_or_in xs i d (omega arith))
