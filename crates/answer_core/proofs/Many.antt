-- More links are reachable than may be looked up, exactly where a run ended at its limit with a link queued.
use Rattle.std.proofs.Common.{ℕ, ◌≡◌, ◌≢◌, ◌+◌, ◌≤◌, ◌<◌, List, [], ◌∷◌, ◌++◌, inl, inr, refl, sym, ap, subst, ◌∙◌, arith, length, length-append}
use Rattle.std.proofs.lemmas.List.{length-map}
use Rattle.rdf_terms.specs.Lists.{IsIn, Apart}
use Rattle.link_uri.specs.declared.link.Link.{Link}
use Rattle.reachability.specs.declared.outcome.Outcome.{Outcome}
use Rattle.reachability.specs.declared.record.Found.TheVariants.{Outcome as Told}
use Rattle.reachability.specs.declared.record.Record.{Record}
use Rattle.reachability.specs.Reach.{Text, Rule, GoesOn, IsPath, NoLink, HasOutcome}
use Rattle.reachability.specs.Record.{IsTraversed, IsFaithful, LooksUpReachable, OutcomesOf, Unreached, entry_link, entry_links, named_links}
use Rattle.std.specs.declared.option.Option.{Option}
use Rattle.answer_core.specs.Headline.{IsBeyond}

-- ---- no list of different members fits a shorter one

record Split {X : Type 0} (ys : List X) (x : X) : Type 0 where
  before : List X
  after : List X
  is : ys ≡ before ++ x ∷ after

split : {X : Type 0} (ys : List X) (x : X) → IsIn ys x → Split ys x
split [] x h = absurd h
split (y ∷ ys) x (inl e) = record { before = []; after = ys; is = ap (λ z. z ∷ ys) e }
split (y ∷ ys) x (inr h) = let s = split ys x h in record { before = y ∷ s.before; after = s.after; is = ap (λ l. y ∷ l) s.is }

-- another member stands before or behind
elsewhere : {X : Type 0} (before after : List X) (x u : X) → (x ≡ u → ⊥) → IsIn (before ++ x ∷ after) u → IsIn (before ++ after) u
elsewhere [] after x u n (inl e) = absurd (n e)
elsewhere [] after x u n (inr h) = h
elsewhere (b ∷ before) after x u n (inl e) = inl e
elsewhere (b ∷ before) after x u n (inr h) = inr (elsewhere before after x u n h)

fits_in : {X : Type 0} (xs ys : List X) → Apart xs → ((u : X) → IsIn xs u → IsIn ys u) → length xs ≤ length ys
fits_in [] ys a h = omega arith
fits_in (x ∷ xs) ys a h =
    let s = split ys x (h x (inl refl)) in
    let less = fits_in xs (s.before ++ s.after) a.1 (λ u i. elsewhere s.before s.after x u (λ e. a.0 (subst (IsIn xs) (sym e) i)) (subst (λ l. IsIn l u) s.is (h u (inr i)))) in
    let whole : length ys ≡ length s.before + length (x ∷ s.after) = ap length s.is ∙ length-append s.before (x ∷ s.after) in
    let parts = length-append s.before s.after in
    omega (arith, less, whole, parts)

-- ---- paths by the entries are paths in the web

along : (r : Record) (out : Link → Option Outcome) (rule : Rule) (seeds : List Text) (over : List Text) (v : Text) → IsFaithful out r → ((u : Text) → Unreached r.entries u → ⊥)
    → IsPath (GoesOn (OutcomesOf r.entries) NoLink rule) seeds over v → IsPath (GoesOn (HasOutcome out) (Unreached r.entries) rule) seeds over v
along r out rule seeds [] v f n p = p
along r out rule seeds (u ∷ before) v f n p =
    let edge = p.1.1 in
    (along r out rule seeds before u f n p.0, (n u, record { outcome = edge.outcome; known = f (record { link = u; found = Told edge.outcome }) edge.known; leads = edge.leads }))

-- ---- beyond the limit

some_length : {X : Type 0} (xs : List X) → xs ≢ [] → 0 < length xs
some_length [] n = absurd (n refl)
some_length (x ∷ xs) n = omega arith

pub is_beyond : (r : Record) (out : Link → Option Outcome) (rule : Rule) (seeds : List Text) (limit : ℕ) → IsTraversed r seeds rule limit → IsFaithful out r → ((u : Text) → Unreached r.entries u → ⊥)
    → r.queued ≢ [] → length r.entries ≡ limit → IsBeyond out r seeds rule limit
is_beyond r out rule seeds limit t f n some full = record {
  links = named_links r;
  apart = t.apart;
  reachable = λ u i. let p = t.reached u i in record { over = p.over; path = along r out rule seeds p.over u f n p.path };
  more =
      let size = length-append (entry_links r.entries) r.queued in
      let valid_links = length-map r.entries entry_link in
      let left = some_length r.queued some in
      omega (arith, size, valid_links, left, full);
}

pub not_beyond : (r : Record) (out : Link → Option Outcome) (rule : Rule) (seeds : List Text) (limit : ℕ) → IsTraversed r seeds rule limit → LooksUpReachable out r seeds rule → IsBeyond out r seeds rule limit → ⊥
not_beyond r out rule seeds limit t exactly b =
    let fit = fits_in b.links (entry_links r.entries) b.apart (λ u i. exactly.all u (b.reachable u i)) in
    let valid_links = length-map r.entries entry_link in
    absurd (omega (arith, fit, valid_links, b.more, t.limited))
