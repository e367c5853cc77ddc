-- The table lists the links in the order in which they became known, and entries come in such an order.
use Rattle.std.proofs.Common.{ℕ, ◌≡◌, ◌+◌, List, [], ◌∷◌, ◌++◌, Some, Bool, true, false, refl, sym, ◌∙◌, ap, subst, inl, inr, arith}
use Rattle.std.specs.Prelude.{if◌then◌else◌, bytes_eq}
use Rattle.std.specs.List.{list_any}
use Rattle.std.proofs.lemmas.Slice.Eq.{bytes_eq-Decides}
use Rattle.rdf_terms.specs.Lists.{IsIn, add_once, add_all}
use Rattle.rdf_terms.proofs.Members.{in_map, map_push}
use Rattle.rdf_terms.proofs.Adding.{any_in, in_any}
use Rattle.link_uri.specs.declared.link.Link.{Link}
use Rattle.link_uri.specs.Links.{link_text, texts, same_link}
use Rattle.link_queue.specs.declared.state.LinkState.{LinkState}
use Rattle.link_queue.specs.declared.state.LinkState.TheVariants.{Queued, InFlight, Settled}
use Rattle.link_queue.specs.LinkStates.{is_queued}
use Rattle.link_queue.specs.Table.{links, marks, link_at, with_state, flying, queue, queue_all, queued_links}
use Rattle.link_queue.proofs.Places.{links_with_state, link_in}
use Rattle.link_queue.proofs.Growth.{flying_marks}
use Rattle.reachability.specs.declared.record.Entry.{Entry}
use Rattle.reachability.specs.declared.record.Found.{Found}
use Rattle.reachability.specs.Reach.{Text, Rule}
use Rattle.reachability.specs.Record.{entry_links}
use Rattle.traverse_core.specs.Order.{known_links, AreInOrder, left_of, IsOrdered}
use Rattle.traverse_core.specs.Run.{Run, rule_of, targets}
use Rattle.traverse_core.specs.Kept.{LinksKept, OrderKept}

-- ---- the links of a table

pick_links : (b : Bool) (rows : List (Link × LinkState)) (u : Link) → links (if b then rows else rows ++ (u, Queued) ∷ []) ≡ (if b then links rows else links rows ++ u ∷ [])
pick_links true rows u = refl
pick_links false rows u = map_push (λ row. row.0) rows (u, Queued)

links_queue : (rows : List (Link × LinkState)) (u : Link) → links (queue rows u) ≡ add_once same_link (links rows) u
links_queue rows u = pick_links (list_any (same_link u) (links rows)) rows u

pub links_queue_all : (rows : List (Link × LinkState)) (us : List Link) → links (queue_all rows us) ≡ add_all same_link (links rows) us
links_queue_all rows [] = refl
links_queue_all rows (u ∷ us) = links_queue_all (queue rows u) us ∙ ap (λ (known : List Link). add_all same_link known us) (links_queue rows u)

-- ---- one more entry

known_push : (rule : Rule) (known : List Link) (es : List Entry) (e : Entry) → known_links rule known (es ++ e ∷ []) ≡ add_all same_link (known_links rule known es) (targets rule e.found)
known_push rule known [] e = refl
known_push rule known (x ∷ xs) e = known_push rule (add_all same_link known (targets rule x.found)) xs e

order_push : (rule : Rule) (known : List Link) (es : List Entry) (e : Entry) → AreInOrder rule known es → IsIn (texts (known_links rule known es)) e.link → AreInOrder rule known (es ++ e ∷ [])
order_push rule known [] e a h = (h, tt)
order_push rule known (x ∷ xs) e a h = (a.0, order_push rule (add_all same_link known (targets rule x.found)) xs e a.1 h)

pub order_opened : (run : Run) → OrderKept run (queue_all [] run.seeds) []
order_opened run = record { known = links_queue_all [] run.seeds; order = tt }

-- another state of a link
pub order_restated : (run : Run) (rows : List (Link × LinkState)) (es : List Entry) (n : ℕ) (s : LinkState) → OrderKept run rows es → OrderKept run (with_state rows n s) es
order_restated run rows es n s k = record { known = links_with_state rows n s ∙ k.known; order = k.order }

pub order_settled : (run : Run) (rows : List (Link × LinkState)) (es : List Entry) (n : ℕ) (u : Link) (found : Found) → link_at rows n ≡ Some u → OrderKept run rows es → OrderKept run (with_state (queue_all rows (targets (rule_of run) found)) n Settled) (es ++ record { link = u.text; found = found } ∷ [])
order_settled run rows es n u found l k =
    let e : Entry = record { link = u.text; found = found } in
    let seeds = add_all same_link [] run.seeds in
    let us = targets (rule_of run) found in
    record {
      known = links_with_state (queue_all rows us) n Settled
          ∙ (links_queue_all rows us
          ∙ (ap (λ (known : List Link). add_all same_link known us) k.known ∙ sym (known_push (rule_of run) seeds es e)));
      order = order_push (rule_of run) seeds es e k.order (subst (λ (known : List Link). IsIn (texts known) u.text) k.known (in_map link_text (links rows) u (link_in rows n u l)));
    }

-- ---- the record

-- what the entries name of a row: where nothing is in flight, they name just the settled links
pub record IsTold (looked_up : List Text) (row : Text × LinkState) : Type 0 where
  pub named : row.1 ≡ Settled → IsIn looked_up row.0
  pub waits : row.1 ≡ Queued → IsIn looked_up row.0 → ⊥

named_any : (looked_up : List Text) (u : Text) → IsIn looked_up u → list_any (bytes_eq u) looked_up ≡ true
named_any looked_up u h = in_any (bytes_eq u) looked_up u h ((bytes_eq-Decides u u).1 refl)

not_any : (looked_up : List Text) (u : Text) → (IsIn looked_up u → ⊥) → list_any (bytes_eq u) looked_up ≡ false
not_any looked_up u n =
    elim (list_any (bytes_eq u) looked_up) as (λ b. list_any (bytes_eq u) looked_up ≡ b → b ≡ false) [
      | true ↦ λ e. let w = any_in (bytes_eq u) looked_up e in absurd (n (subst (λ (t : Text). IsIn looked_up t) (sym ((bytes_eq-Decides u w.0).0 w.2)) w.1))
      | false ↦ λ e. refl
    ] refl

left_one : (looked_up : List Text) (u : Text) (s : LinkState) (rows : List (Text × LinkState)) → IsTold looked_up (u, s) → flying ((u, s) ∷ rows) ≡ 0 → queued_links rows ≡ left_of looked_up (links rows) → queued_links ((u, s) ∷ rows) ≡ left_of looked_up (links ((u, s) ∷ rows))
left_one looked_up u Queued rows t f r =
    ap (λ (us : List Text). u ∷ us) r ∙ ap (λ b. if b then left_of looked_up (links rows) else u ∷ left_of looked_up (links rows)) (sym (not_any looked_up u (t.waits refl)))
left_one looked_up u InFlight rows t f r = absurd (omega arith)
left_one looked_up u Settled rows t f r =
    r ∙ ap (λ b. if b then left_of looked_up (links rows) else u ∷ left_of looked_up (links rows)) (sym (named_any looked_up u (t.named refl)))

left_all : (looked_up : List Text) (rows : List (Text × LinkState)) → ((row : Text × LinkState) → IsIn rows row → IsTold looked_up row) → flying rows ≡ 0 → queued_links rows ≡ left_of looked_up (links rows)
left_all looked_up [] t f = refl
left_all looked_up (row ∷ rows) t f =
    left_one looked_up row.0 row.1 rows (t row (inl refl)) f (left_all looked_up rows (λ x h. t x (inr h)) (omega arith))

links_texts : (rows : List (Link × LinkState)) → links (marks rows) ≡ texts (links rows)
links_texts [] = refl
links_texts (row ∷ rows) = ap (λ (us : List Text). row.0.text ∷ us) (links_texts rows)

pub ordered_rows : (run : Run) (rows : List (Link × LinkState)) (es : List Entry) → ((row : Text × LinkState) → IsIn (marks rows) row → IsTold (entry_links es) row) → flying rows ≡ 0 → OrderKept run rows es → IsOrdered (record { entries = es; queued = queued_links (marks rows) }) run.seeds (rule_of run)
ordered_rows run rows es t landed k = record {
  entries = k.order;
  queued = left_all (entry_links es) (marks rows) t (flying_marks rows ∙ landed)
      ∙ ap (left_of (entry_links es)) (links_texts rows ∙ ap texts k.known);
}
