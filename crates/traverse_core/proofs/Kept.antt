-- Each step but settling keeps what every state keeps.
use Rattle.std.proofs.Common.{ℕ, zero, suc, ◌≡◌, ◌≢◌, ◌⊎◌, ◌+◌, ◌-◌, ◌<◌, ◌≤◌, List, [], ◌∷◌, ◌++◌, Option, Some, None, Bool, true, false, refl, sym, ◌∙◌, ap, subst, inl, inr, arith, length, drop, add-one}
use Rattle.std.specs.Prelude.{◌&&◌, ◌^◌, not, if◌then◌else◌, is_none, min, nat_lt, IsTrue}
use Rattle.std.proofs.lemmas.Bool.Decides.{nat_tests}
use Rattle.std.proofs.Math.Seq.{drop-nil}
use Rattle.rdf_terms.specs.declared.triple.Triple.{Triple}
use Rattle.rdf_terms.specs.Lists.{IsIn, Apart}
use Rattle.link_uri.specs.declared.link.Link.{Link}
use Rattle.link_uri.specs.Links.{AreLinks}
use Rattle.link_queue.specs.declared.state.LinkState.{LinkState}
use Rattle.link_queue.specs.declared.state.LinkState.TheVariants.{Queued, InFlight, Settled}
use Rattle.link_queue.specs.Table.{marks, state_at, with_state, first_queued, flying, queue_all}
use Rattle.link_queue.proofs.Places.{links_with_state, with_state_cases, with_state_other, one_state, link_there, flying_with_state, first_queued_state}
use Rattle.link_queue.proofs.Growth.{grown, own_queue_all, marks_with_state, state_marks, flying_marks}
use Rattle.outer_ports.specs.Causes.{Rose, RoseOnce}
use Rattle.rows_core.specs.declared.pattern.TriplePattern.{TriplePattern}
use Rattle.reach_criteria.specs.declared.criterion.Criterion.{Criterion}
use Rattle.reachability.specs.declared.record.Entry.{Entry}
use Rattle.reachability.specs.Reach.{Text}
use Rattle.algebra_core.specs.declared.query.Query.{Query}
use Rattle.algebra_core.specs.Query.{Answers}
use Rattle.traverse_core.specs.Query.{patterns_of, selected_names}
use Rattle.result_writer.specs.Format.{head_text}
use Rattle.result_writer.specs.declared.written.Written.{Written}
use Rattle.result_writer.specs.declared.written.Written.TheVariants.{Wrote, Clear, Failed}
use Rattle.rows_core.specs.Rows.{Cells}
use Rattle.result_writer.specs.Output.{Output, IsDue, Writes, closed_by}
use Rattle.result_writer.proofs.Due.{SameRows, wrote_due, wrote_same, wrote_faults, kept_due, kept_same, closed_due, new_due}
use Rattle.traverse_core.specs.declared.steps.Halt.{Halt}
use Rattle.traverse_core.specs.declared.steps.Halt.TheVariants as halt
use Rattle.traverse_core.specs.Run.{Run, TellsIfSure}
use Rattle.traverse_core.specs.State.{State, is_running, next_of, MayClose}
use Rattle.traverse_core.specs.Kept.{LinksKept, OutputKept, StopKept, IsKept, IsTied}
use Rattle.traverse_core.proofs.Ordering.{order_opened, order_restated}
use Rattle.traverse_core.specs.Steps.{opened, Opens, restated, WritesOut, Closes, halted_by_memory}

-- a count that has risen
rose_more : (a b c m : ℕ) → min (a + 1) m ≤ b → b ≤ c → min (a + 1) m ≤ c
rose_more a b c m h l = omega arith

rose_on : (a b c : ℕ) → Rose a b → b ≤ c → Rose a c
rose_on a b c h l = rose_more a b c (2 ^ 64 - 1) h l

rose_least : (a b c m : ℕ) → a ≤ b → min (b + 1) m ≤ c → min (a + 1) m ≤ c
rose_least a b c m l h = omega arith

rose_from : (a b c : ℕ) → a ≤ b → Rose b c → Rose a c
rose_from a b c l h = rose_least a b c (2 ^ 64 - 1) l h

-- ---- a new state of a link

-- a link that was not settled gets another state that is not `Settled`
pub links_restated : (run : Run) (rows : List (Text × LinkState)) (es : List Entry) (n : ℕ) (r s : LinkState) → r ≢ Settled → s ≢ Settled → state_at rows n ≡ Some s → flying (with_state rows n r) + length es ≤ run.limit → LinksKept run rows es → LinksKept run (with_state rows n r) es
links_restated run rows es n r s nr ns at room k =
    let there = link_there rows n s at in
    let same = links_with_state rows n r in
    record {
      apart = subst (λ (ls : List Text). Apart ls) (sym same) k.apart;
      once = k.once;
      named = λ u h.
          with_state_other rows n there.0 u Settled r there.1
          (λ (e : u ≡ there.0). ns (sym (one_state rows n u Settled s k.apart (there.1 ∙ ap (λ (v : Text). Some v) (sym e)) at (k.named u h))))
          (k.named u h);
      settled = λ u h.
          elim (with_state_cases rows n there.0 u Settled r k.apart there.1 h) [
            | inl p ↦ absurd (nr (sym p.1))
            | inr q ↦ k.settled u q.1
          ];
      reached = λ u h. k.reached u (subst (λ (ls : List Text). IsIn ls u) same h);
      seeded = λ u h. subst (λ (ls : List Text). IsIn ls u) (sym same) (k.seeded u h);
      onward = λ u v e. subst (λ (ls : List Text). IsIn ls v) (sym same) (k.onward u v e);
      limited = room;
    }

-- what is open is not yet complete
once_least : (a b m : ℕ) → b ≡ min (a + 1) m → min (a + 1) m ≤ b
once_least a b m e = omega (arith, e)

once_rose : (a b : ℕ) → RoseOnce a b → Rose a b
once_rose a b e = once_least a b (2 ^ 64 - 1) e

pub stop_open : (run : Run) (s t : State) → t.out.closed ≡ false → s.out.faults ≤ t.out.faults → t.halted ≡ s.halted → StopKept run s → StopKept run t
stop_open run s t open' later halted k = record {
  landed = λ h. absurd (cc);
  dry = λ h. absurd (cc);
  ended = λ h. absurd (cc);
  risen = let r = k.risen in omega arith;
  failed = λ h. rose_on run.faults s.out.faults t.out.faults (k.failed (sym halted ∙ h)) later;
}

pub restated_kept : (run : Run) (t : State) (n : ℕ) (r s : LinkState) → r ≢ Settled → s ≢ Settled → t.out.closed ≡ false → state_at t.table n ≡ Some s → flying (with_state t.table n r) + length t.entries ≤ run.limit → IsKept run t → IsKept run (restated t n r)
restated_kept run t n r s nr ns open' at room k =
    let m = marks_with_state t.table n r in
    let f : flying (with_state (marks t.table) n r) ≡ flying (with_state t.table n r) = ap (λ (x : List (Text × LinkState)). flying x) (sym m) ∙ flying_marks (with_state t.table n r) in
    record {
      told = k.told;
      reach = subst (λ (rows : List (Text × LinkState)). LinksKept run rows t.entries) (sym m) (links_restated run (marks t.table) t.entries n r s nr ns (state_marks t.table n ∙ at) (omega arith) k.reach);
      order = order_restated run t.table t.entries n r k.order;
      valid_links = subst AreLinks (sym (links_with_state t.table n r)) k.valid_links;
      log = k.log;
      entries = k.entries;
      output = k.output;
      stop = stop_open run t (restated t n r) open' (omega arith) refl k.stop;
    }

-- the fields beside the state stay
pub tied_to : (run : Run) (q : Query) (c : Criterion) (ps : List TriplePattern) (limit f g : ℕ) (s t : State) → IsTied run q c ps limit f s → g ≡ flying t.table → IsKept run t → IsTied run q c ps limit g t
tied_to run q c ps limit f g s t k counted kept = record { same_query = k.same_query; same_criterion = k.same_criterion; same_patterns = k.same_patterns; same_limit = k.same_limit; counted = counted; kept = kept }

pub taken_tied : (run : Run) (q : Query) (c : Criterion) (ps : List TriplePattern) (limit f : ℕ) (s : State) (n : ℕ) → IsTied run q c ps limit f s → s.out.closed ≡ false → first_queued s.table ≡ Some n → f + length s.entries < limit → IsTied run q c ps limit (f + 1) (restated s n InFlight)
taken_tied run q c ps limit f s n k open' first room =
    let at = first_queued_state s.table n first in
    let count = flying_with_state s.table n InFlight Queued at in
    let a = k.same_limit in
    let b = k.counted in
    tied_to run q c ps limit f (f + 1) s (restated s n InFlight) k (omega arith)
    (restated_kept run s n InFlight Queued (λ e. absurd (cc)) (λ e. absurd (cc)) open' at (omega arith) k.kept)

-- a closed traversal has nothing in flight
pub flies_open : (run : Run) (s : State) (n : ℕ) → state_at s.table n ≡ Some InFlight → IsKept run s → s.out.closed ≡ false
flies_open run s n at k =
    let count = flying_with_state s.table n Queued InFlight at in
    elim s.out.closed as (λ b. s.out.closed ≡ b → b ≡ false) [ true ↦ λ e. let l = k.stop.landed e in absurd (omega arith) | false ↦ λ e. refl ] refl

pub given_back_tied : (run : Run) (q : Query) (c : Criterion) (ps : List TriplePattern) (limit f : ℕ) (s : State) (n : ℕ) → IsTied run q c ps limit f s → state_at s.table n ≡ Some InFlight → IsTied run q c ps limit (f - 1) (restated s n Queued)
given_back_tied run q c ps limit f s n k at =
    let count = flying_with_state s.table n Queued InFlight at in
    let l = k.kept.reach.limited in
    let m = flying_marks s.table in
    let b = k.counted in
    tied_to run q c ps limit f (f - 1) s (restated s n Queued) k (omega arith)
    (restated_kept run s n Queued InFlight (λ e. absurd (cc)) (λ e. absurd (cc)) (flies_open run s n at k.kept) at (omega arith) k.kept)

pub flies : (run : Run) (q : Query) (c : Criterion) (ps : List TriplePattern) (limit f : ℕ) (s : State) (n : ℕ) → IsTied run q c ps limit f s → state_at s.table n ≡ Some InFlight → 1 ≤ f
flies run q c ps limit f s n k at =
    let count = flying_with_state s.table n Queued InFlight at in
    let b = k.counted in
    omega arith

pub room : (run : Run) (q : Query) (c : Criterion) (ps : List TriplePattern) (limit f : ℕ) (s : State) → IsTied run q c ps limit f s → f + length s.entries ≤ limit
room run q c ps limit f s k =
    let a = k.same_limit in
    let b = k.counted in
    let l = k.kept.reach.limited in
    let m = flying_marks s.table in
    omega arith

-- ---- opening

nothing_left : (t : Triple) → IsIn (drop 0 []) t → ⊥
nothing_left t h = h

pub opened_kept : (run : Run) → TellsIfSure run.fetch → AreLinks run.seeds → IsKept run (opened run [])
opened_kept run told valid_links =
    let g = grown [] run.seeds in
    let f = g.flies in
    record {
      told = told;
      reach = record {
        apart = g.apart tt;
        once = tt;
        named = λ u h. absurd h;
        settled = λ u h. let z = g.queued (u, Settled) (subst (λ (x : List (Text × LinkState)). IsIn x (u, Settled)) g.is h) in absurd (cc);
        reached = λ u h. elim (g.from u h) [ inl a ↦ absurd a | inr b ↦ record { over = []; path = b } ];
        seeded = λ u h. g.all u h;
        onward = λ u v e. absurd e.known;
        limited = omega arith;
      };
      order = order_opened run;
      valid_links = own_queue_all [] run.seeds (λ u h. absurd h) valid_links;
      log = record { once = tt; merged = refl; within = omega arith; last = λ t h. absurd (nothing_left t h) };
      entries = λ e h. absurd h;
      output = record { names = refl; early = λ h. refl; answers = λ h. absurd (cc); due = λ before h. new_due before (selected_names run.query) run.content run.faults h };
      stop = record { landed = λ h. absurd (cc); dry = λ h. absurd (cc); ended = λ h. absurd (cc); risen = omega arith; failed = λ h. absurd (cc) };
    }

pub opened_tied : (run : Run) → TellsIfSure run.fetch → AreLinks run.seeds → IsTied run run.query run.criterion (patterns_of run.query) run.limit 0 (opened run [])
opened_tied run told valid_links =
    let f = (grown [] run.seeds).flies in
    let m = flying_marks (queue_all [] run.seeds) in
    record { same_query = refl; same_criterion = refl; same_patterns = refl; same_limit = refl; counted = omega arith; kept = opened_kept run told valid_links }

pub opened_with : (run : Run) (q : Query) (c : Criterion) (ps : List TriplePattern) (limit : ℕ) (t : List (Link × LinkState)) (es : List Entry) (log : List Triple) (out : Output) → q ≡ run.query → c ≡ run.criterion → ps ≡ patterns_of run.query → limit ≡ run.limit → TellsIfSure run.fetch → AreLinks run.seeds → t ≡ queue_all [] run.seeds → es ≡ [] → log ≡ [] → out ≡ (opened run []).out → IsTied run q c ps limit 0 (record { table = t; entries = es; log = log; drawn = 0; out = out; halted = None })
opened_with run q c ps limit t es log out a b d e told valid_links f g h i = rw (a, b, d, e, f, g, h, i) (opened_tied run told valid_links)

pub opens_with : (run : Run) (t : List (Link × LinkState)) (es : List Entry) (log : List Triple) (out : Output) → t ≡ queue_all [] run.seeds → es ≡ [] → log ≡ [] → out ≡ (opened run []).out → Opens run (record { table = t; entries = es; log = log; drawn = 0; out = out; halted = None })
opens_with run t es log out f g h i = rw (f, g, h, i) (record { rows = []; is = refl })

-- nothing is in flight
pub opened_flies : (run : Run) → flying (queue_all [] run.seeds) ≡ 0
opened_flies run =
    let none = (grown [] run.seeds).flies in
    let same = flying_marks (queue_all [] run.seeds) in
    omega arith

-- the output of an opened traversal
pub opened_out : (run : Run) (names : List (List ℕ)) (head : List ℕ) (content : Option (List ℕ)) (faults : ℕ) → names ≡ selected_names run.query → head ≡ head_text (selected_names run.query) → content ≡ run.content → faults ≡ run.faults → record { names = names; rows = []; handed = 0; pending = head; closed = false; content = content; faults = faults } ≡ (opened run []).out
opened_out run names head content faults a b c d = rw (a, b, c, d) refl

-- ---- drawing

later : (xs : List Triple) (n : ℕ) (t : Triple) → IsIn (drop (suc n) xs) t → IsIn (drop n xs) t
later [] n t h = absurd (subst (λ (l : List Triple). IsIn l t) (drop-nil (suc n)) h)
later (x ∷ xs) zero t h = inr h
later (x ∷ xs) (suc n) t h = later xs n t h

drop_later : (xs : List Triple) (n : ℕ) (t : Triple) → IsIn (drop (n + 1) xs) t → IsIn (drop n xs) t
drop_later xs n t h = later xs n t (subst (λ (k : ℕ). IsIn (drop k xs) t) (add-one n) h)

pub drawn_kept : (run : Run) (s : State) → s.out.closed ≡ false → s.drawn < length s.log → IsKept run s → IsKept run (record s { drawn = s.drawn + 1 })
drawn_kept run s open' less k = record {
  told = k.told;
  reach = k.reach;
  order = k.order;
  valid_links = k.valid_links;
  log = record { once = k.log.once; merged = k.log.merged; within = omega arith; last = λ t h. k.log.last t (drop_later s.log s.drawn t h) };
  entries = k.entries;
  output = k.output;
  stop = stop_open run s (record s { drawn = s.drawn + 1 }) open' (omega arith) refl k.stop;
}

pub drawn_tied : (run : Run) (q : Query) (c : Criterion) (ps : List TriplePattern) (limit f : ℕ) (s : State) → IsTied run q c ps limit f s → s.out.closed ≡ false → s.drawn < length s.log → IsTied run q c ps limit f (record s { drawn = s.drawn + 1 })
drawn_tied run q c ps limit f s k o l = tied_to run q c ps limit f f s (record s { drawn = s.drawn + 1 }) k k.counted (drawn_kept run s o l k.kept)

-- ---- writing

-- another output with the same rows, of which the due text is known
pub output_same : (run : Run) (log : List Triple) (o p : Output) → SameRows o p → ((before : List ℕ) → run.content ≡ Some before → IsDue before p) → OutputKept run log o → OutputKept run log p
output_same run log o p same due k = record {
  names = same.names ∙ k.names;
  early = λ h. same.rows ∙ k.early (sym same.closed ∙ h);
  answers = λ h. subst (Answers run.query log) (sym same.rows) (k.answers (sym same.closed ∙ h));
  due = due;
}

stop_same : (run : Run) (s : State) (p : Output) (h : Option Halt) → SameRows s.out p → s.out.faults ≤ p.faults → (h ≡ Some halt.Output → Rose run.faults p.faults) → StopKept run s → StopKept run (record s { out = p; halted = h })
stop_same run s p h same later failed k = record {
  landed = λ c. k.landed (sym same.closed ∙ c);
  dry = λ c. k.dry (sym same.closed ∙ c);
  ended = λ c. k.ended (sym same.closed ∙ c);
  risen = let r = k.risen in omega arith;
  failed = failed;
}

-- an output that writes on, halted or not
out_kept : (run : Run) (s : State) (p : Output) (h : Option Halt) → SameRows s.out p → ((before : List ℕ) → run.content ≡ Some before → IsDue before p) → s.out.faults ≤ p.faults → (h ≡ Some halt.Output → Rose run.faults p.faults) → IsKept run s → IsKept run (record s { out = p; halted = h })
out_kept run s p h same due later failed k = record {
  told = k.told;
  reach = k.reach;
  order = k.order;
  valid_links = k.valid_links;
  log = k.log;
  entries = k.entries;
  output = output_same run s.log s.out p same due k.output;
  stop = stop_same run s p h same later failed k.stop;
}

pub wrote_kept : (run : Run) (s t : State) (w : Written) → WritesOut s t w → IsKept run s → IsKept run t
wrote_kept run s t Wrote w k =
    let some = w.0 in
    let later : s.out.faults ≤ t.out.faults = let e = wrote_faults s.out t.out some in omega arith in
    subst (IsKept run) (sym w.1)
    (out_kept run s t.out s.halted (wrote_same s.out t.out some) (λ before e. wrote_due before s.out t.out (k.output.due before e) some) later (λ e. rose_on run.faults s.out.faults t.out.faults (k.stop.failed e) later) k)
wrote_kept run s t Clear w k = subst (IsKept run) (sym w.1) k
wrote_kept run s t Failed w k =
    let same = w.0 in
    subst (IsKept run) (sym w.2)
    (out_kept run s t.out (Some halt.Output) (kept_same s.out t.out same) (λ before e. kept_due before s.out t.out (k.output.due before e) same) same.later (λ e. rose_from run.faults s.out.faults t.out.faults k.stop.risen (once_rose s.out.faults t.out.faults w.1)) k)

-- what writing leaves of the table
pub wrote_table : (s t : State) (w : Written) → WritesOut s t w → t.table ≡ s.table
wrote_table s t Wrote w = ap (λ x. x.table) w.1
wrote_table s t Clear w = ap (λ x. x.table) w.1
wrote_table s t Failed w = ap (λ x. x.table) w.2

pub wrote_tied : (run : Run) (q : Query) (c : Criterion) (ps : List TriplePattern) (limit f : ℕ) (s t : State) (w : Written) → IsTied run q c ps limit f s → WritesOut s t w → IsTied run q c ps limit f t
wrote_tied run q c ps limit f s t w k h = tied_to run q c ps limit f f s t k (k.counted ∙ ap flying (sym (wrote_table s t w h))) (wrote_kept run s t w h k.kept)

-- ---- halting

was_output : (h : Option Halt) → (if is_none h then Some halt.Memory else h) ≡ Some halt.Output → h ≡ Some halt.Output
was_output None e = absurd (cc)
was_output (Some x) e = e

pub halted_kept : (run : Run) (s : State) → IsKept run s → IsKept run (halted_by_memory s)
halted_kept run s k = record {
  told = k.told;
  reach = k.reach;
  order = k.order;
  valid_links = k.valid_links;
  log = k.log;
  entries = k.entries;
  output = k.output;
  stop = record { landed = k.stop.landed; dry = k.stop.dry; ended = k.stop.ended; risen = k.stop.risen; failed = λ h. k.stop.failed (was_output s.halted h) };
}

pub halted_tied : (run : Run) (q : Query) (c : Criterion) (ps : List TriplePattern) (limit f : ℕ) (s : State) → IsTied run q c ps limit f s → IsTied run q c ps limit f (halted_by_memory s)
halted_tied run q c ps limit f s k = tied_to run q c ps limit f f s (halted_by_memory s) k k.counted (halted_kept run s k.kept)

-- ---- closing

next_cases : (run : Run) (s : State) → is_running s ≡ true → flying s.table ≡ 0 → flying s.table + length s.entries ≤ run.limit → next_of run s ≡ None → (first_queued s.table ≡ None) ⊎ (length s.entries ≡ run.limit)
next_cases run s runs landed room none =
    elim (nat_lt (flying s.table + length s.entries) run.limit) as (λ b. nat_lt (flying s.table + length s.entries) run.limit ≡ b → (first_queued s.table ≡ None) ⊎ (length s.entries ≡ run.limit)) [
      | true ↦ λ e. inl (sym (ap (λ x. if x then first_queued s.table else None) (ap (λ r. r && nat_lt (flying s.table + length s.entries) run.limit) runs ∙ e)) ∙ none)
      | false ↦ λ e. let f : run.limit ≤ flying s.table + length s.entries = grind (arith, nat_tests) in inr (omega arith)
    ] refl

pub closed_kept : (run : Run) (s t : State) → is_running s ≡ true → s.out.closed ≡ false → MayClose run s → Closes run s t → IsKept run s → IsKept run t
closed_kept run s t runs open' may c k =
    let limit : flying s.table + length s.entries ≤ run.limit = let l = k.reach.limited in let m = flying_marks s.table in omega arith in
    subst (IsKept run) (sym c.is) (record {
      told = k.told;
      reach = k.reach;
      order = k.order;
      valid_links = k.valid_links;
      log = k.log;
      entries = k.entries;
      output = record { names = k.output.names; early = λ h. absurd (cc); answers = λ h. c.answers; due = λ before e. closed_due before s.out c.more open' may.clear (k.output.due before e) };
      stop = record { landed = λ h. may.landed; dry = λ h. may.dry; ended = λ h. next_cases run s runs may.landed limit may.last; risen = k.stop.risen; failed = k.stop.failed };
    })

pub closed_tied : (run : Run) (q : Query) (c : Criterion) (ps : List TriplePattern) (limit f : ℕ) (s t : State) → IsTied run q c ps limit f s → is_running s ≡ true → s.out.closed ≡ false → MayClose run s → Closes run s t → IsTied run q c ps limit f t
closed_tied run q c ps limit f s t k r o m h = tied_to run q c ps limit f f s t k (k.counted ∙ ap (λ x. flying x.table) (sym h.is)) (closed_kept run s t r o m h k.kept)

-- ---- running

and_parts : (a b : Bool) → (a && b) ≡ true → (a ≡ true) × (b ≡ true)
and_parts true b e = (refl, e)
and_parts false b e = absurd (cc)

less_by_test : (a b : ℕ) → nat_lt a b ≡ true → a < b
less_by_test a b e = grind (arith, nat_tests)

running_parts : (closed : Bool) (h : Option Halt) → (not closed && is_none h) ≡ true → (closed ≡ false) × (h ≡ None)
running_parts false None e = (refl, refl)
running_parts false (Some x) e = absurd (cc)
running_parts true h e = absurd (cc)

pub running_open : (s : State) → IsTrue (is_running s) → s.out.closed ≡ false
running_open s e = (running_parts s.out.closed s.halted e).0

-- what the test before a take tells
pub may_parts : (s : State) (a b : ℕ) → (is_running s && nat_lt a b) ≡ true → (s.out.closed ≡ false) × (a < b)
may_parts s a b e =
    let p = and_parts (is_running s) (nat_lt a b) e in
    (running_open s p.0, less_by_test a b p.1)

-- ---- the steps in the words of the code

-- the output wrote, and didn't fail
pub wrote_well : (run : Run) (q : Query) (c : Criterion) (ps : List TriplePattern) (limit f : ℕ) (s : State) (p : Output) (w : Written) → IsTied run q c ps limit f s → (w ≡ Failed → ⊥) → Writes s.out p w → IsTied run q c ps limit f (record s { out = p })
wrote_well run q c ps limit f s p Wrote k n h = wrote_tied run q c ps limit f s (record s { out = p }) Wrote k (h, refl)
wrote_well run q c ps limit f s p Clear k n h =
    let e : record s { out = p } ≡ s = ap (λ (o : Output). record s { out = o }) h.1 in
    subst (λ (t : State). IsTied run q c ps limit f t) (sym e) k
wrote_well run q c ps limit f s p Failed k n h = absurd (n refl)

-- the output failed
pub wrote_ill : (run : Run) (q : Query) (c : Criterion) (ps : List TriplePattern) (limit f : ℕ) (s : State) (p : Output) (w : Written) → IsTied run q c ps limit f s → w ≡ Failed → Writes s.out p w → IsTied run q c ps limit f (record s { out = p; halted = Some halt.Output })
wrote_ill run q c ps limit f s p w k e h =
    let g : Writes s.out p Failed = subst (λ (x : Written). Writes s.out p x) e h in
    wrote_tied run q c ps limit f s (record s { out = p; halted = Some halt.Output }) Failed k (g.0, g.1, refl)

-- the output was closed with the answers over the log
pub closed_well : (run : Run) (q : Query) (c : Criterion) (ps : List TriplePattern) (limit f : ℕ) (s : State) (p : Output) (log : List Triple) (rows : List Cells) → IsTied run q c ps limit f s → is_running s ≡ true → s.out.closed ≡ false → MayClose run s → log ≡ s.log → Answers q log rows → p ≡ closed_by s.out rows → IsTied run q c ps limit f (record s { out = p })
closed_well run q c ps limit f s p log rows k r o m l a e =
    let over : Answers q s.log rows = subst (λ (g : List Triple). Answers q g rows) l a in
    let all : Answers run.query s.log rows = subst (λ (x : Query). Answers x s.log rows) k.same_query over in
    closed_tied run q c ps limit f s (record s { out = p }) k r o m
    (record { more = rows; answers = subst (λ (early : List Cells). Answers run.query s.log (early ++ rows)) (sym (k.kept.output.early o)) all; is = ap (λ (x : Output). record s { out = x }) e })
