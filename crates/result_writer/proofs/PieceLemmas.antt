-- One step of writing, in the words of the writer's fields.
use Rattle.std.proofs.Common.{ℕ, zero, suc, ◌≡◌, ◌<◌, ◌≤◌, ◌+◌, List, [], ◌∷◌, ◌++◌, Bool, true, false, Option, refl, sym, ◌∙◌, ap, subst, arith, length, take, drop, get_or, length-append, length-drop, inl, inr}
use Rattle.rdf_terms.specs.Lists.{IsIn}
use Rattle.rdf_terms.proofs.Members.{in_either}
use Rattle.std.specs.Prelude.{◌==◌, nat_eq, IsTrue}
use Rattle.std.proofs.lemmas.Bool.Decides.{nat_tests}
use Rattle.std.specs.Io.KnownBytes.{append_known}
use Rattle.result_writer.specs.Format.{row_text, tail_text}
use Rattle.result_writer.proofs.SomeText.{row_some}
use Rattle.rows_core.specs.Rows.{Cells}
use Rattle.result_writer.specs.Output.{Output, IsOutput, tail_behind, piece, text_made, with_text, WritesSome}

-- the tail follows at once where all rows are out
pub tail_closed : (rest : List Cells) → length rest ≡ 0 → tail_text ≡ tail_behind true rest
tail_closed [] h = refl
tail_closed (r ∷ rs) h = absurd (omega arith)

pub tail_more : (closed : Bool) (rest : List Cells) (left : ℕ) → length rest ≡ left → 0 < left → [] ≡ tail_behind closed rest
tail_more true [] left h k = absurd (omega arith)
tail_more true (r ∷ rs) left h k = refl
tail_more false rest left h k = refl

-- a row has some text
pub piece_some : (names : List (List ℕ)) (closed first : Bool) (row : Cells) (rest : List Cells) → 0 < length (piece names closed first row rest)
piece_some names closed first row rest =
    let a = row_some names row first in
    let e = length-append (row_text names row first) (tail_behind closed rest) in
    omega arith

made_pending : (o : Output) (xs : List ℕ) (rows : List Cells) → 0 < length xs → text_made o xs rows ≡ o
made_pending o [] rows h = absurd (omega arith)
made_pending o (x ∷ xs) rows h = refl

-- pending text stays as it is
pub with_pending : (o : Output) → 0 < length o.pending → with_text o ≡ o
with_pending o h = made_pending o o.pending (drop o.handed o.rows) h

-- the first row that waits becomes the pending text
pub with_row : (o : Output) (row : Cells) (rest : List Cells) → o.pending ≡ [] → drop o.handed o.rows ≡ row ∷ rest → with_text o ≡ record o { handed = o.handed + 1; pending = piece o.names o.closed (o.handed == 0) row rest }
with_row o row rest none e = ap (λ (xs : List ℕ). text_made o xs (drop o.handed o.rows)) none ∙ ap (text_made o []) e

-- the sink took of the pending text
pub wrote_text : (o : Output) (n : ℕ) (left : List ℕ) (content : Option (List ℕ)) (faults : ℕ) → 0 < length o.pending → 0 < n → n ≤ length o.pending → left ≡ drop n o.pending → content ≡ append_known o.content (take n o.pending) → faults ≡ o.faults → WritesSome o (record o { pending = left; content = content; faults = faults })
wrote_text o n left content faults h s w l c f =
    let same = with_pending o h in
    record {
      count = n;
      some = s;
      within = subst (λ (x : Output). n ≤ length x.pending) (sym same) w;
      is = rw (l, c, f) (ap (λ (x : Output). record x { pending = drop n x.pending; content = append_known x.content (take n x.pending) }) (sym same));
    }

-- the sink took of a row
pub wrote_row : (o : Output) (row : Cells) (rest : List Cells) (n : ℕ) (text left : List ℕ) (content : Option (List ℕ)) (faults : ℕ) → o.pending ≡ [] → drop o.handed o.rows ≡ row ∷ rest → text ≡ piece o.names o.closed (o.handed == 0) row rest → 0 < n → n ≤ length text → left ≡ drop n text → content ≡ append_known o.content (take n text) → faults ≡ o.faults → WritesSome o (record o { handed = o.handed + 1; pending = left; content = content; faults = faults })
wrote_row o row rest n text left content faults none e t s w l c f =
    let made = with_row o row rest none e in
    record {
      count = n;
      some = s;
      within = subst (λ (x : Output). n ≤ length x.pending) (sym made) (subst (λ (x : List ℕ). n ≤ length x) t w);
      is = rw (l, c, f, t) (ap (λ (x : Output). record x { pending = drop n x.pending; content = append_known x.content (take n x.pending) }) (sym made));
    }

-- a row has some text, whatever stands behind it
pub text_some : (names : List (List ℕ)) (cells : Cells) (first : Bool) (behind : List ℕ) → 0 < length (row_text names cells first ++ behind)
text_some names cells first behind =
    let a = row_some names cells first in
    let e = length-append (row_text names cells first) behind in
    omega arith

-- the rest of a text at its end
pub left_none : (at : ℕ) (text : List ℕ) → at ≤ length text → drop at text ≡ [] → at ≡ length text
left_none at text within none =
    let e : length (drop at text) ≡ 0 = ap length none in
    let l = length-drop at text in
    omega arith

pub some_left : (at : ℕ) (text : List ℕ) → at < length text → drop at text ≡ [] → ⊥
some_left at text less none =
    let e : length (drop at text) ≡ 0 = ap length none in
    let l = length-drop at text in
    omega arith

-- a member by its place
pub at_in : {X : Type 0} (xs : List X) (i : ℕ) (d : X) → i < length xs → IsIn xs (get_or xs i d)
at_in [] i d h = absurd (omega arith)
at_in (x ∷ xs) zero d h = inl refl
at_in (x ∷ xs) (suc i) d h = inr (at_in xs i d (omega arith))

pub same_by_test : (a b : ℕ) → IsTrue (nat_eq a b) → a ≡ b
same_by_test a b t = grind (arith, nat_tests)

-- more rows, behind the others, and a text of which nothing is written
pub output_more : (names : List (List ℕ)) (rows more all : List Cells) (handed at : ℕ) (old text : List ℕ) → all ≡ rows ++ more → ((row : Cells) → IsIn more row → length names ≡ length row) → IsOutput names rows handed at old → IsOutput names all handed 0 text
output_more names rows more all handed at old text is wide k =
    let l = length-append rows more in
    let w = k.within in
    rw is (record {
      within = omega arith;
      at_within = omega arith;
      wide = λ row h. elim (in_either rows more row h) [ inl a ↦ k.wide row a | inr b ↦ wide row b ];
    })
