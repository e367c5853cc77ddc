-- A traversed, faithful record with nothing queued names exactly the reachable links.
use Rattle.std.proofs.Common.{ℕ, ◌≡◌, List, [], ◌∷◌, ◌++◌, Option, refl, sym, ◌∙◌, ap, subst, inl, inr, append-nil}
use Rattle.std.proofs.lemmas.Option.{same_Some}
use Rattle.rdf_terms.specs.Lists.{IsIn, Apart}
use Rattle.rdf_terms.proofs.Members.{in_left, in_map, from_map}
use Rattle.link_uri.specs.declared.link.Link.{Link}
use Rattle.reachability.specs.declared.outcome.Outcome.{Outcome}
use Rattle.reachability.specs.declared.record.Found.{Found}
use Rattle.reachability.specs.declared.record.Found.TheVariants.{Outcome as Told, Unreachable}
use Rattle.reachability.specs.declared.record.Entry.{Entry}
use Rattle.reachability.specs.declared.record.Record.{Record}
use Rattle.reachability.specs.Reach.{Text, Rule, IsPath, GoesOn, NoLink, HasOutcome}
use Rattle.reachability.specs.Record.{OutcomesOf, entry_link, entry_links, named_links, Unreached, AgreesWith, IsFaithful, IsTraversed, LooksUpReachable}

-- a path of one kind of steps is one of another, where each step is
pub path_map : (S T : Text → Text → Type 0) → ((u v : Text) → S u v → T u v) → (seeds us : List Text) (v : Text) → IsPath S seeds us v → IsPath T seeds us v
path_map S T f seeds [] v p = p
path_map S T f seeds (u ∷ us) v p = (path_map S T f seeds us u p.0, f u v p.1)

-- what holds of the seeds, and is passed on by each step, holds of all that is reachable
pub path_keeps : (S : Text → Text → Type 0) (P : Text → Type 0) (seeds : List Text) → ((u : Text) → IsIn seeds u → P u) → ((u v : Text) → S u v → P u → P v) → (us : List Text) (v : Text) → IsPath S seeds us v → P v
path_keeps S P seeds start go [] v p = start v p
path_keeps S P seeds start go (u ∷ us) v p = go u v p.1 (path_keeps S P seeds start go us u p.0)

-- two entries of one link are one
pub one_entry : (es : List Entry) (e f : Entry) → Apart (entry_links es) → IsIn es e → IsIn es f → e.link ≡ f.link → e ≡ f
one_entry [] e f a h k s = absurd h
one_entry (x ∷ xs) e f a (inl p) (inl q) s = sym p ∙ q
one_entry (x ∷ xs) e f a (inl p) (inr k) s = absurd (a.0 (subst (λ (l : Text). IsIn (entry_links xs) l) (sym (ap entry_link p ∙ s)) (in_map entry_link xs f k)))
one_entry (x ∷ xs) e f a (inr h) (inl q) s = absurd (a.0 (subst (λ (l : Text). IsIn (entry_links xs) l) (s ∙ sym (ap entry_link q)) (in_map entry_link xs e h)))
one_entry (x ∷ xs) e f a (inr h) (inr k) s = one_entry xs e f a.1 h k s

-- a link has one outcome
one_outcome : (out : Link → Option Outcome) (u : Text) (p o : Outcome) → HasOutcome out u p → HasOutcome out u o → p ≡ o
one_outcome out u p o g h =
    let e : g.link ≡ h.link = same_Some _ _ (sym g.of ∙ h.of) in
    same_Some _ _ (sym g.out_is ∙ (ap out e ∙ h.out_is))

at_cases : (out : Link → Option Outcome) (es : List Entry) (u : Text) (o : Outcome) (l : Text) (x : Found) → IsIn es (record { link = l; found = x }) → l ≡ u → AgreesWith out l x → (Unreached es u → ⊥) → HasOutcome out u o → OutcomesOf es u o
at_cases out es u o l (Told p) h same agrees r k =
    let is : p ≡ o = one_outcome out u p o (subst (λ (v : Text). HasOutcome out v p) same agrees) k in
    subst (λ (v : Text). IsIn es (record { link = v; found = Told o })) same (subst (λ (q : Outcome). IsIn es (record { link = l; found = Told q })) is h)
at_cases out es u o l (Unreachable cause tries) h same agrees r k =
    absurd (r (cause, tries, subst (λ (v : Text). IsIn es (record { link = v; found = Unreachable cause tries })) same h))

-- a link that was looked up and reached has the outcome that it has
pub recorded_outcome : (out : Link → Option Outcome) (r : Record) (u : Text) (o : Outcome) → IsFaithful out r → IsIn (entry_links r.entries) u → (Unreached r.entries u → ⊥) → HasOutcome out u o → OutcomesOf r.entries u o
recorded_outcome out r u o f n left k =
    let e = from_map entry_link r.entries u n in
    at_cases out r.entries u o e.0.link e.0.found e.1 e.2 (f e.0 e.1) left k

-- a step by the record's outcomes is one by the links' outcomes
goes_on_faithful : (out : Link → Option Outcome) (r : Record) (rule : Rule) → Apart (entry_links r.entries) → IsFaithful out r → (u v : Text) → GoesOn (OutcomesOf r.entries) NoLink rule u v → GoesOn (HasOutcome out) (Unreached r.entries) rule u v
goes_on_faithful out r rule a f u v s =
    ((λ left. let e = ap (λ (x : Entry). x.found) (one_entry r.entries _ _ a s.1.known left.2 refl) in absurd (cc)), record { outcome = s.1.outcome; known = f _ s.1.known; leads = s.1.leads })

-- where nothing is queued the record names what was looked up
pub named_alone : (r : Record) → r.queued ≡ [] → named_links r ≡ entry_links r.entries
named_alone r none = ap (λ (q : List Text). entry_links r.entries ++ q) none ∙ append-nil (entry_links r.entries)

pub looks_up_reachable : (out : Link → Option Outcome) (r : Record) (seeds : List Text) (rule : Rule) (limit : ℕ) → IsTraversed r seeds rule limit → r.queued ≡ [] → IsFaithful out r → LooksUpReachable out r seeds rule
looks_up_reachable out r seeds rule limit t none f =
    let same = named_alone r none in
    let here = λ (v : Text) (h : IsIn (named_links r) v). subst (λ (ls : List Text). IsIn ls v) same h in
    let apart : Apart (entry_links r.entries) = subst (λ (ls : List Text). Apart ls) same t.apart in
    record {
      only = λ u n.
          let p = t.reached u (in_left (entry_links r.entries) r.queued u n) in record {
            over = p.over;
            path = path_map (GoesOn (OutcomesOf r.entries) NoLink rule) (GoesOn (HasOutcome out) (Unreached r.entries) rule) (goes_on_faithful out r rule apart f) seeds p.over u p.path;
          };
      all = λ u p.
          path_keeps (GoesOn (HasOutcome out) (Unreached r.entries) rule) (IsIn (entry_links r.entries)) seeds (λ v s. here v (t.seeded v s))
          (λ v w s n. here w (t.closed v w (record { outcome = s.1.outcome; known = recorded_outcome out r v s.1.outcome f n s.0 s.1.known; leads = s.1.leads })))
          p.over u p.path;
    }
