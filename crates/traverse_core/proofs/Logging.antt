-- The log is the merged graph without repeats.
use Rattle.std.proofs.Common.{ℕ, ◌≡◌, ◌+◌, List, [], ◌∷◌, ◌++◌, refl, sym, ◌∙◌, ap, subst, inl, inr, arith, length, length-append, drop, append_assoc, append-nil}
use Rattle.std.proofs.Math.Seq.{drop-append_seam}
use Rattle.rdf_terms.specs.declared.triple.Triple.{Triple}
use Rattle.rdf_terms.specs.Lists.{IsIn, Apart, add_once, add_all}
use Rattle.rdf_terms.specs.Same.{same_triple}
use Rattle.rdf_terms.proofs.Adding.{any_in, once_cases, triple_tells}
use Rattle.rdf_terms.proofs.Members.{in_right}
use Rattle.growing_graph.proofs.Logging.{logged}
use Rattle.algebra_core.specs.Graphs.{graph}
use Rattle.reachability.specs.declared.record.Found.{Found}
use Rattle.reachability.specs.declared.record.Entry.{Entry}
use Rattle.reachability.specs.Reach.{Text}
use Rattle.reachability.specs.Record.{found_triples, merged_graph}
use Rattle.traverse_core.specs.Kept.{LogKept, last_triples}

pub merged_push : (es : List Entry) (e : Entry) → merged_graph (es ++ e ∷ []) ≡ merged_graph es ++ found_triples e.found
merged_push [] e = append-nil (found_triples e.found)
merged_push (x ∷ xs) e = ap (λ ts. found_triples x.found ++ ts) (merged_push xs e) ∙ sym (append_assoc (found_triples x.found) (merged_graph xs) (found_triples e.found))

pub last_push : (es : List Entry) (e : Entry) → last_triples (es ++ e ∷ []) ≡ found_triples e.found
last_push [] e = refl
last_push (x ∷ []) e = refl
last_push (x ∷ y ∷ xs) e = last_push (y ∷ xs) e

add_append : (known xs ys : List Triple) → add_all same_triple known (xs ++ ys) ≡ add_all same_triple (add_all same_triple known xs) ys
add_append known [] ys = refl
add_append known (x ∷ xs) ys = add_append (add_once same_triple known x) xs ys

pub settled_log : (es : List Entry) (log : List Triple) (u : Text) (found : Found) (drawn : ℕ) → drawn ≡ length log → LogKept es log drawn → LogKept (es ++ record { link = u; found = found } ∷ []) (add_all same_triple log (found_triples found)) drawn
settled_log es log u found drawn dry k =
    let e : Entry = record { link = u; found = found } in
    let ts = found_triples found in
    let new = add_all same_triple log ts in
    let g = logged log ts in
    let len : length new ≡ length log + length g.more = ap length g.is ∙ length-append log g.more in
    let rest : drop drawn new ≡ g.more = ap (λ (i : ℕ). drop i new) dry ∙ (ap (λ (l : List Triple). drop (length log) l) g.is ∙ drop-append_seam log g.more) in
    record {
      once = g.once k.once;
      merged = ap (λ (l : List Triple). add_all same_triple l ts) k.merged
          ∙ (sym (add_append [] (merged_graph es) ts) ∙ ap graph (sym (merged_push es e)));
      within = omega arith;
      last = λ t h. subst (λ (l : List Triple). IsIn l t) (sym (last_push es e)) (g.of t (subst (λ (l : List Triple). IsIn l t) rest h));
    }

-- ---- a graph without repeats is itself

move_one : (xs : List Triple) (x : Triple) (ys : List Triple) → xs ++ x ∷ ys ≡ (xs ++ x ∷ []) ++ ys
move_one xs x ys = sym (append_assoc xs (x ∷ []) ys)

fresh_there : (xs : List Triple) (x : Triple) (ys : List Triple) → Apart (xs ++ x ∷ ys) → IsIn xs x → ⊥
fresh_there [] x ys a h = h
fresh_there (z ∷ zs) x ys a (inl e) = a.0 (subst (λ (t : Triple). IsIn (zs ++ x ∷ ys) t) (sym e) (in_right zs (x ∷ ys) x (inl refl)))
fresh_there (z ∷ zs) x ys a (inr h) = fresh_there zs x ys a.1 h

add_fresh : (xs : List Triple) (x : Triple) → (IsIn xs x → ⊥) → add_once same_triple xs x ≡ xs ++ x ∷ []
add_fresh xs x n =
    elim (once_cases same_triple xs x) [
      | inl p ↦ let w = any_in (same_triple x) xs p.0 in absurd (n (subst (λ (t : Triple). IsIn xs t) (sym (triple_tells.one x w.0 tt tt w.2)) w.1))
      | inr q ↦ q.1
    ]

add_apart : (known xs : List Triple) → Apart (known ++ xs) → add_all same_triple known xs ≡ known ++ xs
add_apart known [] a = sym (append-nil known)
add_apart known (x ∷ xs) a =
    let e = add_fresh known x (fresh_there known x xs a) in
    ap (λ (k : List Triple). add_all same_triple k xs) e
    ∙ (add_apart (known ++ x ∷ []) xs (subst (λ (l : List Triple). Apart l) (move_one known x xs) a) ∙ sym (move_one known x xs))

pub graph_apart : (xs : List Triple) → Apart xs → graph xs ≡ xs
graph_apart xs a = add_apart [] xs a
