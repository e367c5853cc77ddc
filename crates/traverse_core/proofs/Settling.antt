-- A settled look-up keeps what every state keeps.
use Rattle.std.proofs.Common.{ℕ, ◌≡◌, ◌+◌, ◌-◌, List, [], ◌∷◌, ◌++◌, Some, false, refl, sym, ◌∙◌, ap, subst, inl, inr, arith, length, length-append}
use Rattle.std.specs.Prelude.{slice_get}
use Rattle.std.specs.Option.{option_map}
use Rattle.std.proofs.lemmas.Option.{same_Some}
use Rattle.rdf_terms.specs.declared.triple.Triple.{Triple}
use Rattle.rdf_terms.specs.Lists.{IsIn, Apart}
use Rattle.rdf_terms.proofs.Members.{in_left, in_right, in_either, apart_push, map_push}
use Rattle.link_uri.specs.declared.link.Link.{Link}
use Rattle.link_uri.specs.Links.{IsLink, AreLinks, texts}
use Rattle.link_queue.specs.declared.state.LinkState.{LinkState}
use Rattle.link_queue.specs.declared.state.LinkState.TheVariants.{InFlight, Settled}
use Rattle.link_queue.specs.Table.{links, marks, link_at, state_at, with_state, flying, queue_all}
use Rattle.link_queue.proofs.Places.{links_with_state, with_state_cases, with_state_here, with_state_other, one_state, link_in, flying_with_state, state_at_append, link_at_append}
use Rattle.link_queue.proofs.Growth.{Grown, grown, own_queue_all, marks_with_state, state_marks, link_marks, flying_marks, state_grown}
use Rattle.rows_core.specs.declared.pattern.TriplePattern.{TriplePattern}
use Rattle.reach_criteria.specs.declared.criterion.Criterion.{Criterion}
use Rattle.reachability.specs.declared.record.Found.{Found}
use Rattle.reachability.specs.declared.record.Found.TheVariants.{Outcome as Told}
use Rattle.reachability.specs.declared.record.Entry.{Entry}
use Rattle.reachability.specs.Reach.{Text, Rule, IsReachable, GoesOn, NoLink}
use Rattle.reachability.specs.Record.{OutcomesOf, entry_link, entry_links}
use Rattle.reachability.proofs.Reachable.{path_map}
use Rattle.algebra_core.specs.declared.query.Query.{Query}
use Rattle.traverse_core.specs.Query.{patterns_of}
use Rattle.result_writer.specs.Output.{Output}
use Rattle.traverse_core.specs.Run.{Run, rule_of, seeds_of, MayFind, targets}
use Rattle.traverse_core.specs.State.{State}
use Rattle.traverse_core.specs.Kept.{LinksKept, EntryKept, OutputKept, IsKept, IsTied}
use Rattle.traverse_core.specs.Steps.{settled}
use Rattle.traverse_core.proofs.Leading.{target_leads, leads_target}
use Rattle.traverse_core.proofs.Logging.{settled_log}
use Rattle.traverse_core.proofs.Ordering.{order_settled}
use Rattle.traverse_core.proofs.Kept.{stop_open, tied_to}

pub links_push : (es : List Entry) (e : Entry) → entry_links (es ++ e ∷ []) ≡ entry_links es ++ e.link ∷ []
links_push es e = map_push entry_link es e

-- what is reached stays reached under one more entry
pub reach_more : (es : List Entry) (e : Entry) (seeds : List Text) (rule : Rule) (v : Text) → IsReachable (OutcomesOf es) NoLink seeds rule v → IsReachable (OutcomesOf (es ++ e ∷ [])) NoLink seeds rule v
reach_more es e seeds rule v r = record {
  over = r.over;
  path = path_map (GoesOn (OutcomesOf es) NoLink rule) (GoesOn (OutcomesOf (es ++ e ∷ [])) NoLink rule)
      (λ u w s. (s.0, record { outcome = s.1.outcome; known = in_left es (e ∷ []) _ s.1.known; leads = s.1.leads }))
      seeds r.over v r.path;
}

-- the rows grow by the targets, and the number is settled: all by texts
pub settled_links : (run : Run) (rows new : List (Text × LinkState)) (es : List Entry) (n : ℕ) (u : Text) (found : Found) → Grown rows (texts (targets (rule_of run) found)) new → state_at rows n ≡ Some InFlight → link_at rows n ≡ Some u → LinksKept run rows es → LinksKept run (with_state new n Settled) (es ++ record { link = u; found = found } ∷ [])
settled_links run rows new es n u found g at l k =
    let e : Entry = record { link = u; found = found } in
    let at1 : state_at new n ≡ Some InFlight = subst (λ (x : List (Text × LinkState)). state_at x n ≡ Some InFlight) (sym g.is) (state_at_append rows g.more n InFlight at) in
    let l1 : link_at new n ≡ Some u = subst (λ (x : List (Text × LinkState)). link_at x n ≡ Some u) (sym g.is) (link_at_append rows g.more n u l) in
    let a1 : Apart (links new) = g.apart k.apart in
    let fresh : IsIn (entry_links es) u → ⊥ = λ h. let s = one_state rows n u Settled InFlight k.apart l at (k.named u h) in absurd (cc) in
    let same = links_with_state new n Settled in
    let count = flying_with_state new n Settled InFlight at1 in
    let flies' = g.flies in
    let room = k.limited in
    let len = length-append es (e ∷ []) in
    record {
      apart = subst (λ (ls : List Text). Apart ls) (sym same) a1;
      once = subst (λ (ls : List Text). Apart ls) (sym (links_push es e)) (apart_push (entry_links es) u k.once fresh);
      named = λ v h.
          elim (in_either (entry_links es) (u ∷ []) v (subst (λ (ls : List Text). IsIn ls v) (links_push es e) h)) [
            | inl a ↦ with_state_other new n u v Settled Settled l1 (λ s. fresh (subst (λ (w : Text). IsIn (entry_links es) w) s a)) (subst (λ (x : List (Text × LinkState)). IsIn x (v, Settled)) (sym g.is) (in_left rows g.more (v, Settled) (k.named v a)))
            | inr b ↦ elim b [ inl s ↦ subst (λ (w : Text). IsIn (with_state new n Settled) (w, Settled)) s (with_state_here new n u Settled l1) | inr z ↦ absurd z ]
          ];
      settled = λ v h.
          subst (λ (ls : List Text). IsIn ls v) (sym (links_push es e))
          (elim (with_state_cases new n u v Settled Settled a1 l1 h) [
            | inl p ↦ in_right (entry_links es) (u ∷ []) v (inl (sym p.0))
            | inr q ↦ elim (in_either rows g.more (v, Settled) (subst (λ (x : List (Text × LinkState)). IsIn x (v, Settled)) g.is q.1)) [
              | inl a ↦ in_left (entry_links es) (u ∷ []) v (k.settled v a)
              | inr b ↦ let z = g.queued (v, Settled) b in absurd (cc)
            ]
          ]);
      reached = λ v h.
          elim (g.from v (subst (λ (ls : List Text). IsIn ls v) same h)) [
            | inl a ↦ reach_more es e (seeds_of run) (rule_of run) v (k.reached v a)
            | inr b ↦
                let d = target_leads (rule_of run) found v b in
                let r = reach_more es e (seeds_of run) (rule_of run) u (k.reached u (link_in rows n u l)) in
                record {
                  over = u ∷ r.over;
                  path = (r.path, ((λ z. z), record { outcome = d.0; known = in_right es (e ∷ []) _ (inl (ap (λ (x : Found). record { link = u; found = x }) d.1)); leads = d.2 }));
                }
          ];
      seeded = λ v h. subst (λ (ls : List Text). IsIn ls v) (sym same) (g.keep v (k.seeded v h));
      onward = λ w v d.
          subst (λ (ls : List Text). IsIn ls v) (sym same)
          (elim (in_either es (e ∷ []) (record { link = w; found = Told d.outcome }) d.known) [
            | inl a ↦ g.keep v (k.onward w v (record { outcome = d.outcome; known = a; leads = d.leads }))
            | inr b ↦ elim b [ inl s ↦ g.all v (leads_target (rule_of run) found d.outcome v (ap (λ (x : Entry). x.found) s) d.leads) | inr z ↦ absurd z ]
          ]);
      limited = omega arith;
    }

pub settled_entries : (run : Run) (es : List Entry) (u : Link) (found : Found) → IsLink u → MayFind run u found → ((e : Entry) → IsIn es e → EntryKept run e) → (e : Entry) → IsIn (es ++ record { link = u.text; found = found } ∷ []) e → EntryKept run e
settled_entries run es u found valid_links may k x h =
    elim (in_either es (record { link = u.text; found = found } ∷ []) x h) [
      | inl a ↦ k x a
      | inr b ↦ elim b [ inl e ↦ subst (EntryKept run) e (record { link = u; valid_links = valid_links; text = refl; may = may }) | inr z ↦ absurd z ]
    ]

-- before closing the log grows beside the output
output_open : (run : Run) (log new : List Triple) (out : Output) → out.closed ≡ false → OutputKept run log out → OutputKept run new out
output_open run log new out open' k = record { names = k.names; early = k.early; answers = λ h. absurd (cc); due = k.due }

pub settled_kept : (run : Run) (s : State) (n : ℕ) (u : Link) (found : Found) → s.out.closed ≡ false → state_at s.table n ≡ Some InFlight → link_at s.table n ≡ Some u → s.drawn ≡ length s.log → AreLinks (targets (rule_of run) found) → MayFind run u found → IsKept run s → IsKept run (settled (rule_of run) s n u.text found)
settled_kept run s n u found open' at l dry valid_links may k =
    let us = targets (rule_of run) found in
    record {
      told = k.told;
      reach = subst (λ (rows : List (Text × LinkState)). LinksKept run rows (s.entries ++ record { link = u.text; found = found } ∷ [])) (sym (marks_with_state (queue_all s.table us) n Settled))
          (settled_links run (marks s.table) (marks (queue_all s.table us)) s.entries n u.text found (grown s.table us) (state_marks s.table n ∙ at) (link_marks s.table n u l) k.reach);
      order = order_settled run s.table s.entries n u found l k.order;
      valid_links = subst AreLinks (sym (links_with_state (queue_all s.table us) n Settled)) (own_queue_all s.table us k.valid_links valid_links);
      log = settled_log s.entries s.log u.text found s.drawn dry k.log;
      entries = settled_entries run s.entries u found (k.valid_links u (link_in s.table n u l)) may k.entries;
      output = output_open run s.log (settled (rule_of run) s n u.text found).log s.out open' k.output;
      stop = stop_open run s (settled (rule_of run) s n u.text found) open' (omega arith) refl k.stop;
    }

-- settling leaves one less in flight
pub settled_flies : (rows : List (Link × LinkState)) (us : List Link) (n : ℕ) → state_at rows n ≡ Some InFlight → flying (with_state (queue_all rows us) n Settled) + 1 ≡ flying rows
settled_flies rows us n at =
    let count = flying_with_state (queue_all rows us) n Settled InFlight (state_grown rows us n InFlight at) in
    let g = (grown rows us).flies in
    let a = flying_marks rows in
    let b = flying_marks (queue_all rows us) in
    omega arith

pub settled_tied : (run : Run) (q : Query) (c : Criterion) (ps : List TriplePattern) (limit f : ℕ) (s : State) (n : ℕ) (u : Link) (found : Found) → IsTied run q c ps limit f s → s.out.closed ≡ false → state_at s.table n ≡ Some InFlight → link_at s.table n ≡ Some u → s.drawn ≡ length s.log → AreLinks (targets (rule_of run) found) → MayFind run u found → IsTied run q c ps limit (f - 1) (settled (rule_of run) s n u.text found)
settled_tied run q c ps limit f s n u found k open' at l dry valid_links may =
    let count = settled_flies s.table (targets (rule_of run) found) n at in
    let b = k.counted in
    tied_to run q c ps limit f (f - 1) s (settled (rule_of run) s n u.text found) k (omega arith) (settled_kept run s n u found open' at l dry valid_links may k.kept)

pub targets_same : (run : Run) (c : Criterion) (p q : List TriplePattern) (found : Found) → q ≡ p → c ≡ run.criterion → p ≡ patterns_of run.query → targets (record { criterion = c; patterns = q }) found ≡ targets (rule_of run) found
targets_same run c p q found e f h =
    ap (λ (x : Criterion). targets (record { criterion = x; patterns = q }) found) f
    ∙ ap (λ (y : List TriplePattern). targets (record { criterion = run.criterion; patterns = y }) found) (e ∙ h)

-- what the test of a number and a link tells
pub out_state : (rows : List (Link × LinkState)) (n : ℕ) (u : Link) (s : LinkState) → slice_get rows n ≡ Some (u, s) → state_at rows n ≡ Some s
out_state rows n u s h = ap (option_map (λ r. r.1)) h

pub out_link : (rows : List (Link × LinkState)) (n : ℕ) (u : Link) (s : LinkState) → slice_get rows n ≡ Some (u, s) → link_at rows n ≡ Some u
out_link rows n u s h = ap (option_map (λ r. r.0)) h

pub out_may : (run : Run) (rows : List (Link × LinkState)) (n : ℕ) (u : Link) (s : LinkState) (found : Found) → slice_get rows n ≡ Some (u, s) → MayFind run u found → (v : Link) → link_at rows n ≡ Some v → MayFind run v found
out_may run rows n u s found h m v l = subst (λ (w : Link). MayFind run w found) (same_Some _ _ (sym (out_link rows n u s h) ∙ l)) m
