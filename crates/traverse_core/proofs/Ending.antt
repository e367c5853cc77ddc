-- The record of a traversal with nothing in flight.
use Rattle.std.proofs.Common.{ℕ, suc, ◌≡◌, ◌⊎◌, List, [], ◌∷◌, ◌++◌, Option, Some, None, true, refl, sym, ◌∙◌, ap, subst, inl, inr, arith}
use Rattle.std.specs.Prelude.{IfSome, if◌then◌else◌, map, length}
use Rattle.std.specs.Option.{option_map}
use Rattle.rdf_terms.specs.declared.triple.Triple.{Triple}
use Rattle.rdf_terms.specs.Lists.{IsIn, Apart}
use Rattle.rdf_terms.proofs.Members.{in_left, in_right, in_either, in_map}
use Rattle.link_uri.specs.declared.link.Link.{Link}
use Rattle.link_uri.specs.Links.{IsLink, link_of}
use Rattle.link_queue.specs.declared.state.LinkState.{LinkState}
use Rattle.link_queue.specs.declared.state.LinkState.TheVariants.{Queued, InFlight, Settled}
use Rattle.link_queue.specs.LinkStates.{is_queued}
use Rattle.link_queue.specs.Table.{links, marks, flying, first_queued, queued_links}
use Rattle.link_queue.proofs.Growth.{flying_marks}
use Rattle.result_writer.specs.Format.{result_text}
use Rattle.rows_core.specs.Rows.{Cells, projected}
use Rattle.algebra_core.specs.Graphs as graphs
use Rattle.reachability.specs.declared.record.Found.{Found}
use Rattle.reachability.specs.declared.record.Found.TheVariants.{Outcome as Told, Unreachable}
use Rattle.reachability.specs.declared.record.Entry.{Entry}
use Rattle.reachability.specs.declared.record.Record.{Record}
use Rattle.reachability.specs.Web.{ToldWeb}
use Rattle.reachability.specs.Reach.{Text, Rule}
use Rattle.reachability.specs.Record.{entry_links, AgreesWith, IsFaithful, IsTraversed, HasEnded, LooksUpReachable, merged_graph}
use Rattle.reachability.proofs.Reachable.{looks_up_reachable}
use Rattle.doc_reader.specs.Outcome.{outcome_of}
use Rattle.algebra_core.specs.declared.query.Query.{Query}
use Rattle.algebra_core.specs.Meaning.{eval}
use Rattle.algebra_core.specs.Order.{row_cmp}
use Rattle.algebra_core.specs.Query.{Answers, answers_by, distinct_if, ordered_if}
use Rattle.traverse_core.specs.Query.{selected_names}
use Rattle.result_writer.specs.Output.{IsClear, closed_by}
use Rattle.result_writer.proofs.Due.{whole_due}
use Rattle.traverse_core.specs.Run.{Run, rule_of, seeds_of, AgreesAt}
use Rattle.traverse_core.specs.State.{State}
use Rattle.traverse_core.specs.Kept.{LinksKept, IsKept}
use Rattle.traverse_core.specs.Steps.{Closes}
use Rattle.traverse_core.proofs.Logging.{graph_apart}
use Rattle.traverse_core.proofs.Ordering.{ordered_rows}
use Rattle.traverse_core.specs.Order.{IsOrdered}

pub two_states : (xs : List (Text × LinkState)) (u : Text) (r s : LinkState) → Apart (links xs) → IsIn xs (u, r) → IsIn xs ((u, s)) → r ≡ s
two_states [] u r s a h k = absurd h
two_states (x ∷ xs) u r s a (inl e) (inl f) = ap (λ (y : Text × LinkState). y.1) (sym e ∙ f)
two_states (x ∷ xs) u r s a (inl e) (inr k) = absurd (a.0 (subst (λ (w : Text). IsIn (links xs) w) (sym (ap (λ y. y.0) e)) (in_map (λ y. y.0) xs ((u, s)) k)))
two_states (x ∷ xs) u r s a (inr h) (inl f) = absurd (a.0 (subst (λ (w : Text). IsIn (links xs) w) (sym (ap (λ y. y.0) f)) (in_map (λ y. y.0) xs (u, r) h)))
two_states (x ∷ xs) u r s a (inr h) (inr k) = two_states xs u r s a.1 h k

queued_one : (s : LinkState) (v : Text) (xs : List (Text × LinkState)) (u : Text) → IsIn (queued_links ((v, s) ∷ xs)) u → (IsIn (queued_links xs) u → IsIn xs ((u, Queued))) → IsIn ((v, s) ∷ xs) ((u, Queued))
queued_one Queued v xs u (inl e) r = inl (ap (λ (w : Text). (w, Queued)) e)
queued_one Queued v xs u (inr h) r = inr (r h)
queued_one InFlight v xs u h r = inr (r h)
queued_one Settled v xs u h r = inr (r h)

pub queued_in : (xs : List (Text × LinkState)) (u : Text) → IsIn (queued_links xs) u → IsIn xs ((u, Queued))
queued_in [] u h = absurd h
queued_in (x ∷ xs) u h = queued_one x.1 x.0 xs u h (queued_in xs u)

one_queued : (s : LinkState) (v : Text) (xs : List (Text × LinkState)) (u : Text) → IsIn ((v, s) ∷ xs) ((u, Queued)) → (IsIn xs ((u, Queued)) → IsIn (queued_links xs) u) → IsIn (queued_links ((v, s) ∷ xs)) u
one_queued Queued v xs u (inl e) r = inl (ap (λ y. y.0) e)
one_queued Queued v xs u (inr h) r = inr (r h)
one_queued InFlight v xs u (inl e) r = let z = ap (λ (y : Text × LinkState). y.1) e in absurd (cc)
one_queued InFlight v xs u (inr h) r = r h
one_queued Settled v xs u (inl e) r = let z = ap (λ (y : Text × LinkState). y.1) e in absurd (cc)
one_queued Settled v xs u (inr h) r = r h

pub in_queued : (xs : List (Text × LinkState)) (u : Text) → IsIn xs ((u, Queued)) → IsIn (queued_links xs) u
in_queued [] u h = absurd h
in_queued (x ∷ xs) u h = one_queued x.1 x.0 xs u h (in_queued xs u)

apart_one : (s : LinkState) (v : Text) (xs : List (Text × LinkState)) → (IsIn (links xs) v → ⊥) → Apart (queued_links xs) → Apart (queued_links ((v, s) ∷ xs))
apart_one Queued v xs n a = ((λ h. n (in_map (λ y. y.0) xs ((v, Queued)) (queued_in xs v h))), a)
apart_one InFlight v xs n a = a
apart_one Settled v xs n a = a

pub apart_queued : (xs : List (Text × LinkState)) → Apart (links xs) → Apart (queued_links xs)
apart_queued [] a = tt
apart_queued (x ∷ xs) a = apart_one x.1 x.0 xs a.0 (apart_queued xs a.1)

pub apart_both : (xs ys : List Text) → Apart xs → Apart ys → ((u : Text) → IsIn xs u → IsIn ys u → ⊥) → Apart (xs ++ ys)
apart_both [] ys a b n = b
apart_both (x ∷ xs) ys a b n =
    ((λ h. elim (in_either xs ys x h) [ inl i ↦ a.0 i | inr j ↦ n x (inl refl) j ]), apart_both xs ys a.1 b (λ u i. n u (inr i)))

-- where nothing is in flight, a link of the table is queued or settled
landed_one : (s : LinkState) (u : Text) (xs : List (Text × LinkState)) → flying ((u, s) ∷ xs) ≡ 0 → IsIn ((u, s) ∷ xs) ((u, Queued)) ⊎ IsIn ((u, s) ∷ xs) ((u, Settled))
landed_one Queued u xs f = inl (inl refl)
landed_one InFlight u xs f = absurd (omega arith)
landed_one Settled u xs f = inr (inl refl)

pub landed_links : (xs : List (Text × LinkState)) (u : Text) → flying xs ≡ 0 → IsIn (links xs) u → IsIn xs ((u, Queued)) ⊎ IsIn xs ((u, Settled))
landed_links [] u f h = absurd h
landed_links (x ∷ xs) u f (inl e) = subst (λ (w : Text). IsIn (x ∷ xs) ((w, Queued)) ⊎ IsIn (x ∷ xs) ((w, Settled))) e (landed_one x.1 x.0 xs f)
landed_links (x ∷ xs) u f (inr h) = elim (landed_links xs u (omega arith) h) [ inl a ↦ inl (inr a) | inr b ↦ inr (inr b) ]

pub traversed_rows : (run : Run) (rows : List (Text × LinkState)) (es : List Entry) → flying rows ≡ 0 → LinksKept run rows es → IsTraversed (record { entries = es; queued = queued_links rows }) (seeds_of run) (rule_of run) run.limit
traversed_rows run rows es f l =
    let room = l.limited in
    let to : (u : Text) → IsIn (links rows) u → IsIn (entry_links es ++ queued_links rows) u =
    λ u h. elim (landed_links rows u f h) [
      | inl a ↦ in_right (entry_links es) (queued_links rows) u (in_queued rows u a)
      | inr b ↦ in_left (entry_links es) (queued_links rows) u (l.settled u b)
    ] in
    record {
      apart = apart_both (entry_links es) (queued_links rows) l.once (apart_queued rows l.apart)
          (λ u a b. let z = two_states rows u Settled Queued l.apart (l.named u a) (queued_in rows u b) in absurd (cc));
      seeded = λ u h. to u (l.seeded u h);
      closed = λ u v e. to v (l.onward u v e);
      reached = λ u h. l.reached u (elim (in_either (entry_links es) (queued_links rows) u h) [
        | inl a ↦ in_map (λ y. y.0) rows (u, Settled) (l.named u a)
        | inr b ↦ in_map (λ y. y.0) rows (u, Queued) (queued_in rows u b)
      ]);
      limited = omega arith;
    }

-- the record that a state with nothing in flight ends with
abbrev pub trace_of : State → Record
trace_of s = record { entries = s.entries; queued = queued_links (marks s.table) }

pub traversed : (run : Run) (s : State) → flying s.table ≡ 0 → IsKept run s → IsTraversed (trace_of s) (seeds_of run) (rule_of run) run.limit
traversed run s f k = traversed_rows run (marks s.table) s.entries (flying_marks s.table ∙ f) k.reach

pub ordered : (run : Run) (s : State) → flying s.table ≡ 0 → IsKept run s → IsOrdered (trace_of s) run.seeds (rule_of run)
ordered run s f k =
    ordered_rows run s.table s.entries
    (λ row h. record {
      named = λ e. k.reach.settled row.0 (subst (λ (x : LinkState). IsIn (marks s.table) (row.0, x)) e h);
      waits = λ e n.
          let z = two_states (marks s.table) row.0 Settled Queued k.reach.apart (k.reach.named row.0 n) (subst (λ (x : LinkState). IsIn (marks s.table) (row.0, x)) e h) in
          absurd (cc);
    })
    f k.order

-- what was found at a link agrees with the web at its text
at_text : (web : ToldWeb) (body : ℕ) (u : Link) (x : Text) (found : Found) → IsLink u → u.text ≡ x → AgreesAt web body u found → AgreesWith (outcome_of web body) x found
at_text web body u x (Told outcome) valid_links e h = record { link = u; of = ap link_of (sym e) ∙ valid_links.valid_link; out_is = h }
at_text web body u x (Unreachable cause tries) valid_links e h = tt

told_web : (web : Option ToldWeb) (body : ℕ) (r : Record) → ((w : ToldWeb) → web ≡ Some w → IsFaithful (outcome_of w body) r) → IfSome web (λ w. IsFaithful (outcome_of w body) r)
told_web None body r h = tt
told_web (Some w) body r h = h w refl

agrees_told : (web : Option ToldWeb) (body : ℕ) (w : ToldWeb) (u : Link) (found : Found) → web ≡ Some w → IfSome web (λ x. AgreesAt x body u found) → AgreesAt w body u found
agrees_told web body w u found e h = subst (λ (o : Option ToldWeb). IfSome o (λ x. AgreesAt x body u found)) e h

pub faithful : (run : Run) (s : State) → IsKept run s → IfSome run.fetch.web (λ w. IsFaithful (outcome_of w run.body) (trace_of s))
faithful run s k =
    told_web run.fetch.web run.body (trace_of s)
    (λ w e x h. let a = k.entries x h in at_text w run.body a.link x.link x.found a.valid_links a.text (agrees_told run.fetch.web run.body w a.link x.found e a.may.agrees))

reach_told : (web : Option ToldWeb) (body : ℕ) (r : Record) (seeds : List Text) (rule : Rule) (limit : ℕ) → IsTraversed r seeds rule limit → r.queued ≡ [] → IfSome web (λ w. IsFaithful (outcome_of w body) r) → IfSome web (λ w. LooksUpReachable (outcome_of w body) r seeds rule)
reach_told None body r seeds rule limit t none f = tt
reach_told (Some w) body r seeds rule limit t none f = looks_up_reachable (outcome_of w body) r seeds rule limit t none f

-- with nothing queued, what was looked up is just what is reachable in the web
pub reachable : (run : Run) (s : State) → flying s.table ≡ 0 → queued_links (marks s.table) ≡ [] → IsKept run s → IfSome run.fetch.web (λ w. LooksUpReachable (outcome_of w run.body) (trace_of s) (seeds_of run) (rule_of run))
reachable run s f none k = reach_told run.fetch.web run.body (trace_of s) (seeds_of run) (rule_of run) run.limit (traversed run s f k) none (faithful run s k)

none_later : (o : Option ℕ) → option_map suc o ≡ None → o ≡ None
none_later None h = refl
none_later (Some n) h = absurd (cc)

no_links_one : {X : Type 0} (s : LinkState) (v : X) (xs : List (X × LinkState)) → first_queued ((v, s) ∷ xs) ≡ None → (first_queued xs ≡ None → queued_links xs ≡ []) → queued_links ((v, s) ∷ xs) ≡ []
no_links_one Queued v xs h r = absurd (cc)
no_links_one InFlight v xs h r = r (none_later (first_queued xs) h)
no_links_one Settled v xs h r = r (none_later (first_queued xs) h)

no_links : {X : Type 0} (xs : List (X × LinkState)) → first_queued xs ≡ None → queued_links xs ≡ []
no_links [] h = refl
no_links (x ∷ xs) h = no_links_one x.1 x.0 xs h (no_links xs)

marks_first : (rows : List (Link × LinkState)) → first_queued (marks rows) ≡ first_queued rows
marks_first [] = refl
marks_first (r ∷ rs) = ap (λ (o : Option ℕ). if is_queued r.1 then Some 0 else option_map suc o) (marks_first rs)

pub ended : (run : Run) (s : State) → s.out.closed ≡ true → IsKept run s → HasEnded (trace_of s) run.limit
ended run s closed k = elim (k.stop.ended closed) [ inl a ↦ inl (no_links (marks s.table) (marks_first s.table ∙ a)) | inr b ↦ inr b ]

-- the solutions over the log are those over the merged graph
answers_merged : (q : Query) (log merged : List Triple) (rows : List Cells) → Apart log → log ≡ graphs.graph merged → Answers q log rows → Answers q merged rows
answers_merged q log merged rows once same a =
    let e : graphs.graph log ≡ graphs.graph merged = graph_apart log once ∙ same in
    subst (λ (g : List Triple). answers_by q.order (distinct_if q.distinct (map (projected q.select) (ordered_if q.order (row_cmp q) (eval q.body q.width (length q.names) g)))) rows) e a

-- once closed and clear, the text of the answers over the merged graph is written
pub written : (run : Run) (s : State) → s.out.closed ≡ true → IsClear s.out → IsKept run s → (before : List ℕ) → run.content ≡ Some before → (rows : List Cells) × Answers run.query (merged_graph s.entries) rows × (s.out.content ≡ Some (before ++ result_text (selected_names run.query) rows))
written run s closed clear k before told = (
  s.out.rows,
  answers_merged run.query s.log (merged_graph s.entries) s.out.rows k.log.once k.log.merged (k.output.answers closed),
  subst (λ (names : List (List ℕ)). s.out.content ≡ Some (before ++ result_text names s.out.rows)) k.output.names (whole_due before s.out closed clear (k.output.due before told)),
)

-- answers under a run's query over a state's log close it, where no row came before
pub closes_with : (run : Run) (s t : State) (query : Query) (log : List Triple) (rows : List Cells) → s.out.rows ≡ [] → query ≡ run.query → log ≡ s.log → Answers query log rows → t ≡ record s { out = closed_by s.out rows } → Closes run s t
closes_with run s t query log rows none same logged answers is =
    let a : Answers run.query s.log rows = subst (λ (q : Query). Answers q s.log rows) same (subst (λ (l : List Triple). Answers query l rows) logged answers) in
    record { more = rows; answers = subst (λ (early : List Cells). Answers run.query s.log (early ++ rows)) (sym none) a; is = is }
