-- What is written, pending and waiting stays together the text of the output.
use Rattle.std.proofs.Common.{ℕ, ◌≡◌, ◌≤◌, ◌+◌, List, [], ◌∷◌, ◌++◌, true, false, Option, Some, refl, sym, ◌∙◌, ap, subst, arith, length, take, drop, append-nil, append_assoc}
use Rattle.std.specs.Prelude.{◌==◌}
use Rattle.std.specs.Io.KnownBytes.{append_known}
use Rattle.std.proofs.lemmas.List.{take-append-drop, drop-drop, drop_all}
use Rattle.std.proofs.lemmas.Bool.Decides.{nat_tests}
use Rattle.std.proofs.Math.Seq.{drop-append_seam}
use Rattle.result_writer.specs.Format.{head_text, row_text, rows_text, more_rows_text, tail_text, result_text}
use Rattle.rows_core.specs.Rows.{Cells}
use Rattle.result_writer.specs.Output.{Output, tail_behind, piece, waiting_text, due_text, IsDue, IsClear, text_made, with_text, WritesSome, KeepsText, closed_by}

-- ---- texts of rows that wait

wait_more : (names : List (List ℕ)) (rows : List Cells) → tail_behind true rows ++ waiting_text names true false rows ≡ more_rows_text names rows ++ tail_text
wait_more names [] = append-nil tail_text
wait_more names (row ∷ rest) =
    append_assoc (row_text names row false) (tail_behind true rest) (waiting_text names true false rest)
    ∙ (ap (λ (x : List ℕ). row_text names row false ++ x) (wait_more names rest)
    ∙ sym (append_assoc (row_text names row false) (more_rows_text names rest) tail_text))

-- the rows that wait when the output is closed, and the tail
pub wait_all : (names : List (List ℕ)) (rows : List Cells) → tail_behind true rows ++ waiting_text names true true rows ≡ rows_text names rows ++ tail_text
wait_all names [] = append-nil tail_text
wait_all names (row ∷ rest) =
    append_assoc (row_text names row true) (tail_behind true rest) (waiting_text names true false rest)
    ∙ (ap (λ (x : List ℕ). row_text names row true ++ x) (wait_more names rest)
    ∙ sym (append_assoc (row_text names row true) (more_rows_text names rest) tail_text))

-- ---- the steps keep the text whole

not_first : (h : ℕ) → (h + 1 == 0) ≡ false
not_first h = grind (arith, nat_tests)

made_cases : (before : List ℕ) (o : Output) (xs : List ℕ) (rows : List Cells) → o.pending ≡ xs → drop o.handed o.rows ≡ rows → IsDue before o → IsDue before (text_made o xs rows)
made_cases before o (x ∷ xs) rows e f d = d
made_cases before o [] [] e f d = d
made_cases before o [] (row ∷ rest) e f d =
    let text = piece o.names o.closed (o.handed == 0) row rest in
    let later : drop (o.handed + 1) o.rows ≡ rest = sym (drop-drop 1 o.handed o.rows) ∙ ap (drop 1) f in
    let now : o.pending ++ waiting_text o.names o.closed (o.handed == 0) (drop o.handed o.rows) ≡ text ++ waiting_text o.names o.closed false rest =
    ap (λ (p : List ℕ). p ++ waiting_text o.names o.closed (o.handed == 0) (drop o.handed o.rows)) e ∙ ap (waiting_text o.names o.closed (o.handed == 0)) f in
    let then : text ++ waiting_text o.names o.closed (o.handed + 1 == 0) (drop (o.handed + 1) o.rows) ≡ text ++ waiting_text o.names o.closed false rest =
    ap (λ b. text ++ waiting_text o.names o.closed b (drop (o.handed + 1) o.rows)) (not_first o.handed) ∙ ap (λ (l : List Cells). text ++ waiting_text o.names o.closed false l) later in
    record { written = d.written; held = d.held; whole = ap (λ (x : List ℕ). d.written ++ x) (then ∙ sym now) ∙ d.whole }

-- a row that is made text
pub made_due : (before : List ℕ) (o : Output) → IsDue before o → IsDue before (with_text o)
made_due before o d = made_cases before o o.pending (drop o.handed o.rows) refl refl d

taken_due : (before : List ℕ) (o : Output) (n : ℕ) → IsDue before o → IsDue before (record o { pending = drop n o.pending; content = append_known o.content (take n o.pending) })
taken_due before o n d =
    let gone = take n o.pending in
    let rest = waiting_text o.names o.closed (o.handed == 0) (drop o.handed o.rows) in
    record {
      written = d.written ++ gone;
      held = ap (λ (c : Option (List ℕ)). append_known c gone) d.held ∙ ap (λ (x : List ℕ). Some x) (append_assoc before d.written gone);
      whole = append_assoc d.written gone (drop n o.pending ++ rest)
          ∙ (ap (λ (x : List ℕ). d.written ++ x) (sym (append_assoc gone (drop n o.pending) rest) ∙ ap (λ (x : List ℕ). x ++ rest) (take-append-drop n o.pending))
          ∙ d.whole);
    }

-- the sink took some text
pub wrote_due : (before : List ℕ) (o p : Output) → IsDue before o → WritesSome o p → IsDue before p
wrote_due before o p d w = subst (IsDue before) (sym w.is) (taken_due before (with_text o) w.count (made_due before o d))

-- the sink took nothing
pub kept_due : (before : List ℕ) (o p : Output) → IsDue before o → KeepsText o p → IsDue before p
kept_due before o p d k = subst (IsDue before) (sym k.is) (record { written = d.written; held = d.held; whole = d.whole })

-- where nothing is pending and no row waits, the text of the rows so far is written
clear_left : (o : Output) → IsClear o → o.pending ++ waiting_text o.names o.closed (o.handed == 0) (drop o.handed o.rows) ≡ []
clear_left o clear =
    let past : length o.rows ≤ o.handed = let e = clear.1 in omega arith in
    ap (λ (p : List ℕ). p ++ waiting_text o.names o.closed (o.handed == 0) (drop o.handed o.rows)) clear.0 ∙ ap (waiting_text o.names o.closed (o.handed == 0)) (drop_all o.handed o.rows past)

more_append : (names : List (List ℕ)) (rows more : List Cells) → more_rows_text names (rows ++ more) ≡ more_rows_text names rows ++ more_rows_text names more
more_append names [] more = refl
more_append names (row ∷ rows) more =
    ap (λ (x : List ℕ). row_text names row false ++ x) (more_append names rows more)
    ∙ sym (append_assoc (row_text names row false) (more_rows_text names rows) (more_rows_text names more))

not_none : (row : Cells) (rows : List Cells) → (length (row ∷ rows) == 0) ≡ false
not_none row rows = grind (arith, nat_tests)

-- the last rows, behind the text of the others
rows_behind : (names : List (List ℕ)) (rows more : List Cells) → rows_text names rows ++ (tail_behind true more ++ waiting_text names true (length rows == 0) more) ≡ rows_text names (rows ++ more) ++ tail_text
rows_behind names [] more = wait_all names more
rows_behind names (row ∷ rows) more =
    let a = row_text names row true in
    let b = more_rows_text names rows in
    let m = more_rows_text names more in
    ap (λ first. (a ++ b) ++ (tail_behind true more ++ waiting_text names true first more)) (not_none row rows)
    ∙ (ap (λ (x : List ℕ). (a ++ b) ++ x) (wait_more names more)
    ∙ (sym (append_assoc (a ++ b) m tail_text)
    ∙ ap (λ (x : List ℕ). x ++ tail_text) (append_assoc a b m ∙ ap (λ (x : List ℕ). a ++ x) (sym (more_append names rows more)))))

-- the last rows are known
pub closed_due : (before : List ℕ) (o : Output) (more : List Cells) → o.closed ≡ false → IsClear o → IsDue before o → IsDue before (closed_by o more)
closed_due before o more open' clear d =
    let head = head_text o.names in
    let rows = rows_text o.names o.rows in
    let behind = tail_behind true more ++ waiting_text o.names true (length o.rows == 0) more in
    let due : due_text o.names o.closed o.rows ≡ head ++ rows = ap (λ b. due_text o.names b o.rows) open' in
    let text : d.written ≡ head ++ rows = sym (append-nil d.written) ∙ (ap (λ (x : List ℕ). d.written ++ x) (sym (clear_left o clear)) ∙ (d.whole ∙ due)) in
    let seam : drop o.handed (o.rows ++ more) ≡ more = ap (λ (n : ℕ). drop n (o.rows ++ more)) clear.1 ∙ drop-append_seam o.rows more in
    record {
      written = d.written;
      held = d.held;
      whole = ap (λ (n : ℕ). d.written ++ (tail_behind true more ++ waiting_text o.names true (n == 0) (drop o.handed (o.rows ++ more)))) clear.1
          ∙ (ap (λ (l : List Cells). d.written ++ (tail_behind true more ++ waiting_text o.names true (length o.rows == 0) l)) seam
          ∙ (ap (λ (x : List ℕ). x ++ behind) text
          ∙ (append_assoc head rows behind
          ∙ (ap (λ (x : List ℕ). head ++ x) (rows_behind o.names o.rows more) ∙ sym (append_assoc head (rows_text o.names (o.rows ++ more)) tail_text)))));
    }

-- once closed and clear, the whole text is written
pub whole_due : (before : List ℕ) (o : Output) → o.closed ≡ true → IsClear o → IsDue before o → o.content ≡ Some (before ++ result_text o.names o.rows)
whole_due before o closed clear d =
    let text : d.written ≡ result_text o.names o.rows = sym (append-nil d.written) ∙ (ap (λ (x : List ℕ). d.written ++ x) (sym (clear_left o clear)) ∙ (d.whole ∙ ap (λ b. due_text o.names b o.rows) closed)) in
    d.held ∙ ap (λ (x : List ℕ). Some (before ++ x)) text

-- an output begins with its head
pub new_due : (before : List ℕ) (names : List (List ℕ)) (content : Option (List ℕ)) (faults : ℕ) → content ≡ Some before → IsDue before (record { names = names; rows = []; handed = 0; pending = head_text names; closed = false; content = content; faults = faults })
new_due before names content faults e = record { written = []; held = e ∙ ap (λ (x : List ℕ). Some x) (sym (append-nil before)); whole = refl }

-- ---- what writing leaves as it is

made_faults : (o : Output) (xs : List ℕ) (rows : List Cells) → (text_made o xs rows).faults ≡ o.faults
made_faults o (x ∷ xs) rows = refl
made_faults o [] [] = refl
made_faults o [] (row ∷ rest) = refl

-- the sink's count of faults, where it took some text
pub wrote_faults : (o p : Output) → WritesSome o p → p.faults ≡ o.faults
wrote_faults o p w = ap (λ (x : Output). x.faults) w.is ∙ made_faults o o.pending (drop o.handed o.rows)

-- the names, the rows and whether it is closed
pub record SameRows (o p : Output) : Type 0 where
  pub names : p.names ≡ o.names
  pub rows : p.rows ≡ o.rows
  pub closed : p.closed ≡ o.closed

made_same : (o : Output) (xs : List ℕ) (rows : List Cells) → SameRows o (text_made o xs rows)
made_same o (x ∷ xs) rows = record { names = refl; rows = refl; closed = refl }
made_same o [] [] = record { names = refl; rows = refl; closed = refl }
made_same o [] (row ∷ rest) = record { names = refl; rows = refl; closed = refl }

pub wrote_same : (o p : Output) → WritesSome o p → SameRows o p
wrote_same o p w =
    let m = made_same o o.pending (drop o.handed o.rows) in
    subst (SameRows o) (sym w.is) (record { names = m.names; rows = m.rows; closed = m.closed })

pub kept_same : (o p : Output) → KeepsText o p → SameRows o p
kept_same o p k = subst (SameRows o) (sym k.is) (record { names = refl; rows = refl; closed = refl })
