-- From what the end of a run tells to what is said of its record and of what was written.
use Rattle.std.proofs.Common.{ℕ, ◌≡◌, ◌≢◌, ◌≤◌, ◌+◌, List, [], ◌∷◌, ◌++◌, Option, Some, Bool, true, false, inl, inr, refl, sym, ap, subst, ◌∙◌, arith, length, length-append, take, append-nil, append_assoc}
use Rattle.std.specs.Prelude.{map, bytes_eq, IfSome, IsTrue, if◌then◌else◌, ◌==◌, drop}
use Rattle.std.proofs.Math.Seq.{take-append_seam, take-length}
use Rattle.std.proofs.lemmas.List.Sorted.{IsPermutation-refl}
use Rattle.rdf_terms.specs.declared.triple.Triple.{Triple}
use Rattle.rdf_terms.specs.Lists.{Apart}
use Rattle.link_uri.specs.declared.heard.Heard.{Heard}
use Rattle.link_uri.specs.declared.heard.Heard.TheVariants.{Reply, Never}
use Rattle.link_uri.specs.declared.heard.Reply.{Reply as AReply}
use Rattle.rows_core.specs.Rows.{Cells, projected}
use Rattle.algebra_core.specs.Graphs as graphs
use Rattle.algebra_core.specs.Meaning.{eval}
use Rattle.algebra_core.specs.Order.{row_cmp}
use Rattle.algebra_core.specs.declared.query.Key.{Key}
use Rattle.algebra_core.specs.declared.query.Query.{Query}
use Rattle.algebra_core.specs.Query.{Answers, answers_by, distinct_if, ordered_if, solutions}
use Rattle.result_writer.specs.Format.{head_text, rows_text, tail_text, result_text}
use Rattle.outer_ports.specs.Causes.{RoseOnce}
use Rattle.result_writer.specs.Output.{due_text, waiting_text}
use Rattle.site_core.specs.Text.{Entry as SiteEntry}
use Rattle.web_port.specs.SiteWeb.{told_entry, not_found, web_of_site}
use Rattle.reachability.specs.declared.record.Found.TheVariants.{Unreachable}
use Rattle.reachability.specs.declared.record.Record.{Record}
use Rattle.reachability.specs.Web.{heard_in, heard_at, NeverHeard}
use Rattle.reachability.specs.Reach.{Text}
use Rattle.reachability.specs.Record.{IsTraversed, IsFaithful, HasEnded, LooksUpReachable, Unreached, merged_graph}
use Rattle.doc_reader.specs.Outcome.{outcome_of}
use Rattle.run_report.specs.Report.{failures}
use Rattle.traverse_core.specs.declared.alone.Ran.{Ran}
use Rattle.traverse_core.specs.declared.alone.Ran.TheVariants as ran
use Rattle.traverse_core.specs.Query.{selected_names}
use Rattle.traverse_core.specs.Order.{IsOrdered}
use Rattle.traverse_core.specs.Run.{Run, rule_of, seeds_of}
use Rattle.traverse_core.specs.State.{State}
use Rattle.traverse_core.specs.Kept.{IsKept}
use Rattle.traverse_core.proofs.Logging.{graph_apart}
use Rattle.answer_core.proofs.Many.{is_beyond, not_beyond}
use Rattle.answer_core.specs.Codes.{ended_status}
use Rattle.answer_core.specs.Headline.{Class, Ended, Halted, NoMemory, Unreported, class_of, Holds, output_fails, CountsFaults, StatusMatchesRecord, Traversed, Wrote, NoneUnreached, StatusEvidence}
use Rattle.answer_core.specs.Running.{task_of, IsOverSite, IsOfSite, RunRead, BeforeReport, Writing, writing, ran_status, has_record, is_whole}
use Rattle.answer_core.proofs.Evidence.{ended_class, output_by, wrote_may}
use Rattle.answer_core.specs.declared.status.Status.{Status}

-- ---- the status

-- where the run came to its end
whole_if : (x : Ran) (r : Record) (F : Type 0) → (x ≡ ran.Done → F) → Holds (is_whole (class_of (ran_status x r))) F
whole_if ran.Done r F f = subst (λ k. Holds (is_whole k) F) (sym (ended_class r)) (f refl)
whole_if ran.Output r F f = tt
whole_if ran.Memory r F f = tt

matches : (x : Ran) (r : Record) → StatusMatchesRecord (ran_status x r) (Some r)
matches ran.Done r = (subst (λ k. Holds (has_record k) (Unit {0})) (sym (ended_class r)) tt, λ e. refl)
matches ran.Output r = (tt, λ e. absurd (cc))
matches ran.Memory r = (tt, λ e. absurd (cc))

reported : (x : Ran) (r : Record) → class_of (ran_status x r) ≢ Unreported
reported ran.Done r e = let both : Ended ≡ Unreported = sym (ended_class r) ∙ e in absurd (cc)
reported ran.Output r e = absurd (cc)
reported ran.Memory r e = absurd (cc)

pub counts : (x : Ran) (r : Record) (n m : ℕ) → (x ≡ ran.Output → RoseOnce n m) → (x ≢ ran.Output → m ≡ n) → n ≤ m → CountsFaults (output_fails (ran_status x r)) n m
counts ran.Done r n m rose calm later = subst (λ d. CountsFaults d n m) (sym (output_by r.queued (failures r.entries))) (calm (λ e. absurd (cc)))
counts ran.Output r n m rose calm later = (rose refl, later)
counts ran.Memory r n m rose calm later = inl (calm (λ e. absurd (cc)))

-- ---- what was written

answers_self : (keys : List Key) (rows : List Cells) → answers_by keys rows rows
answers_self [] rows = IsPermutation-refl rows
answers_self (k ∷ keys) rows = refl

-- the solutions over the log are those over the merged graph
answers_merged : (q : Query) (log merged : List Triple) (rows : List Cells) → Apart log → log ≡ graphs.graph merged → Answers q log rows → Answers q merged rows
answers_merged q log merged rows once same a =
    let e : graphs.graph log ≡ graphs.graph merged = graph_apart log once ∙ same in
    subst (λ (g : List Triple). answers_by q.order (distinct_if q.distinct (map (projected q.select) (ordered_if q.order (row_cmp q) (eval q.body q.width (length q.names) g)))) rows) e a

-- what was written is the front of the text
front : (before written rest text : List ℕ) (content : Option (List ℕ)) → content ≡ Some (before ++ written) → written ++ rest ≡ text → content ≡ Some (before ++ take (length written) text)
front before written rest text content held whole =
    let same : take (length written) text ≡ written = ap (take (length written)) (sym whole) ∙ take-append_seam written rest in
    held ∙ ap (λ (t : List ℕ). Some (before ++ t)) (sym same)

shorter : (written rest text : List ℕ) → written ++ rest ≡ text → length written ≤ length text
shorter written rest text whole =
    let size : length text ≡ length written + length rest = ap length (sym whole) ∙ length-append written rest in
    omega (arith, size)

-- a prefix of the text of answers over the merged graph was written: of its head alone until the output is closed
begun : (run : Run) (s : State) (r : Record) (new : Option (List ℕ)) (closed : Bool) → s.out.closed ≡ closed → r.entries ≡ s.entries → new ≡ s.out.content → IsKept run s → (IsTrue s.out.closed → HasEnded r run.limit)
    → (before : List ℕ) → run.content ≡ Some before → Wrote (task_of run) Halted r before new
begun run s r new true e entries out k ended before known =
    let d = k.output.due before known in
    let names = selected_names run.query in
    let rest = s.out.pending ++ waiting_text s.out.names s.out.closed (s.out.handed == 0) (drop s.out.handed s.out.rows) in
    let whole : d.written ++ rest ≡ result_text names s.out.rows = d.whole ∙ (λ i. due_text (k.output.names i) (e i) s.out.rows) in
    let answered = answers_merged run.query s.log (merged_graph s.entries) s.out.rows k.log.once k.log.merged (k.output.answers e) in
    record {
      rows = s.out.rows;
      answers = subst (λ es. Answers run.query (merged_graph es) s.out.rows) (sym entries) answered;
      count = length d.written;
      within = shorter d.written rest (result_text names s.out.rows) whole;
      is = out ∙ front before d.written rest (result_text names s.out.rows) s.out.content d.held whole;
      head = inl (ended e);
      whole = tt;
    }
begun run s r new false e entries out k ended before known =
    let d = k.output.due before known in
    let names = selected_names run.query in
    let sols = solutions run.query (merged_graph r.entries) in
    let more = rows_text names sols ++ tail_text in
    let rest = s.out.pending ++ waiting_text s.out.names s.out.closed (s.out.handed == 0) (drop s.out.handed s.out.rows) in
    let head : d.written ++ rest ≡ head_text names = (d.whole ∙ (λ i. due_text (k.output.names i) (e i) (k.output.early e i))) ∙ append-nil (head_text names) in
    let whole : d.written ++ (rest ++ more) ≡ result_text names sols = sym (append_assoc d.written rest more) ∙ (ap (λ (t : List ℕ). t ++ more) head ∙ sym (append_assoc (head_text names) (rows_text names sols) tail_text)) in
    record {
      rows = sols;
      answers = answers_self run.query.order sols;
      count = length d.written;
      within = shorter d.written (rest ++ more) (result_text names sols) whole;
      is = out ∙ front before d.written (rest ++ more) (result_text names sols) s.out.content d.held whole;
      head = inr (shorter d.written rest (head_text names) head);
      whole = tt;
    }

-- the whole text was written
whole_text : (run : Run) (r : Record) (new : Option (List ℕ)) (k : Class) → is_whole k ≡ is_whole Ended → HasEnded r run.limit → (before : List ℕ) (rows : List Cells) → Answers run.query (merged_graph r.entries) rows
    → new ≡ Some (before ++ result_text (selected_names run.query) rows) → Wrote (task_of run) k r before new
whole_text run r new k e ended before rows answers is =
    let text = result_text (selected_names run.query) rows in
    record {
      rows = rows;
      answers = answers;
      count = length text;
      within = omega arith;
      is = is ∙ ap (λ (t : List ℕ). Some (before ++ t)) (sym (take-length text));
      head = inl ended;
      whole = subst (λ d. Holds d (length text ≡ length text)) (sym e) refl;
    }

-- the whole text where the run is done, and else a prefix
pub wrote : (run : Run) (s : State) (r : Record) (new : Option (List ℕ)) (x : Ran) → r.entries ≡ s.entries → new ≡ s.out.content → IsKept run s → (IsTrue s.out.closed → HasEnded r run.limit) → (x ≡ ran.Done → IsTrue s.out.closed)
    → (x ≡ ran.Done → (before : List ℕ) → run.content ≡ Some before → (rows : List Cells) × Answers run.query (merged_graph r.entries) rows × (new ≡ Some (before ++ result_text (selected_names run.query) rows)))
    → (before : List ℕ) → run.content ≡ Some before → Wrote (task_of run) (class_of (ran_status x r)) r before new
wrote run s r new ran.Done entries out k ended done whole before known =
    let w = whole refl before known in
    whole_text run r new (class_of (ended_status r)) (ap is_whole (ended_class r)) (ended (done refl)) before w.0 w.1 w.2
wrote run s r new ran.Output entries out k ended done whole before known = begun run s r new s.out.closed refl entries out k ended before known
wrote run s r new ran.Memory entries out k ended done whole before known = wrote_may (task_of run) Halted NoMemory r before new refl (begun run s r new s.out.closed refl entries out k ended before known)

-- ---- the web of a site

pick : (b : Bool) (reply : AReply) (rest : Heard) → (rest ≡ Never → ⊥) → (if b then Reply reply else rest) ≡ Never → ⊥
pick true reply rest n e = absurd (cc)
pick false reply rest n e = n e

-- it never answers that nothing comes
never_none : (site : List SiteEntry) (text : List ℕ) → heard_in (map told_entry site) (Reply not_found) text ≡ Never → ⊥
never_none [] text e = absurd (cc)
never_none (x ∷ site) text e = pick (bytes_eq x.0 text) x.1 (heard_in (map told_entry site) (Reply not_found) text) (never_none site text) e

-- no link is unreachable
none_unreached : (run : Run) (site : List SiteEntry) (s : State) → IsOverSite run site → IsKept run s → (u : Text) → Unreached s.entries u → ⊥
none_unreached run site s o k u x =
    let kept = k.entries (record { link = u; found = Unreachable x.0 x.1 }) x.2 in
    let never : NeverHeard run.fetch.web kept.link.text = kept.may.sure x.0 x.1 (ap (λ f. f.sure) o) refl in
    never_none site kept.link.text (subst (λ f. NeverHeard f.web kept.link.text) o never)

pub of_site : (run : Run) (site : List SiteEntry) (s : State) (r : Record) → r.entries ≡ s.entries → IsOverSite run site → IsKept run s
    → IsTraversed r (seeds_of run) (rule_of run) run.limit
    → IfSome run.fetch.web (λ web. IsFaithful (outcome_of web run.body) r)
    → (r.queued ≡ [] → IfSome run.fetch.web (λ web. LooksUpReachable (outcome_of web run.body) r (seeds_of run) (rule_of run)))
    → IsOfSite (task_of run) site r
of_site run site s r entries o k traversed faithful exactly =
    let out = outcome_of (heard_at (web_of_site site)) run.body in
    let true_to : IsFaithful out r = subst (λ f. IfSome f.web (λ web. IsFaithful (outcome_of web run.body) r)) o faithful in
    let none : NoneUnreached r = λ u x. none_unreached run site s o k u (subst (λ es. Unreached es u) entries x) in
    let all : r.queued ≡ [] → LooksUpReachable out r (seeds_of run) (rule_of run) = λ e. subst (λ f. IfSome f.web (λ web. LooksUpReachable (outcome_of web run.body) r (seeds_of run) (rule_of run))) o (exactly e) in (
      record {
        faithful = true_to;
        exactly = all;
        within = λ e. not_beyond r out (rule_of run) (seeds_of run) run.limit traversed (all e);
        beyond = λ some full. is_beyond r out (rule_of run) (seeds_of run) run.limit traversed true_to none some full;
      },
      none,
    )

-- ---- all of it

pub run_evidence : (run : Run) (r : Record) (x : Ran) (status : Status) (new : Writing) → status ≡ ran_status x r → IsTraversed r (seeds_of run) (rule_of run) run.limit → IsOrdered r run.seeds (rule_of run) → (x ≡ ran.Done → HasEnded r run.limit)
    → ((before : List ℕ) → run.content ≡ Some before → Wrote (task_of run) (class_of (ran_status x r)) r before new.bytes) → CountsFaults (output_fails (ran_status x r)) run.faults new.faults
    → ((site : List SiteEntry) → IsOverSite run site → IsOfSite (task_of run) site r)
    → StatusEvidence writing (λ c. c ≡ task_of run) (BeforeReport (RunRead run)) (Some r) (record { bytes = run.content; faults = run.faults }) new status
run_evidence run r x status new e traversed ordered ended written faults site = subst (StatusEvidence writing (λ c. c ≡ task_of run) (BeforeReport (RunRead run)) (Some r) (record { bytes = run.content; faults = run.faults }) new) (sym e) (record {
  recorded = matches x r;
  traversed = λ c is. subst (λ z. Traversed z (class_of (ran_status x r)) r) (sym is) (record { traversed = traversed; ordered = ordered; ended = whole_if x r (HasEnded r run.limit) ended });
  written = λ c is before known. subst (λ z. Wrote z (class_of (ran_status x r)) r before new.bytes) (sym is) (written before known);
  untouched = λ none. absurd (cc);
  output_faults = faults;
  read = (reported x r, (λ none. absurd (cc), site));
})
