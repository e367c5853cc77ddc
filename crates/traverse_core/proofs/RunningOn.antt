-- What each step leaves of the entries and of the sink's faults, and that writing comes to an end.
use Rattle.std.proofs.Common.{ℕ, ◌≡◌, ◌+◌, ◌-◌, ◌<◌, ◌≤◌, ◌⊎◌, inl, inr, List, [], ◌∷◌, ◌++◌, Option, Some, None, Bool, true, false, refl, sym, ◌∙◌, ap, subst, arith, length, length-append, append-nil, append_assoc, drop}
use Rattle.std.specs.Prelude.{◌≢◌, ◌^◌, ◌==◌, ◌&&◌, min, not, is_none, if◌then◌else◌, IsTrue}
use Rattle.std.proofs.Math.Seq.{drop-append_seam, drop-length}
use Rattle.std.proofs.lemmas.List.{length-drop, drop-drop}
use Rattle.std.proofs.lemmas.Bool.Decides.{nat_tests}
use Rattle.outer_ports.specs.Causes.{RoseOnce}
use Rattle.rows_core.specs.Rows.{Cells}
use Rattle.reachability.specs.declared.record.Entry.{Entry}
use Rattle.result_writer.specs.declared.written.Written.{Written}
use Rattle.result_writer.specs.declared.written.Written.TheVariants.{Wrote, Clear, Failed}
use Rattle.result_writer.specs.Output.{Output, piece, waiting_text, text_made, with_text, WritesSome, KeepsText, closed_by}
use Rattle.result_writer.proofs.Due.{SameRows, wrote_faults, wrote_same, kept_same}
use Rattle.traverse_core.specs.declared.steps.Halt.{Halt}
use Rattle.traverse_core.specs.declared.steps.Halt.TheVariants as halt
use Rattle.traverse_core.specs.Run.{Run}
use Rattle.traverse_core.specs.State.{State, is_running}
use Rattle.traverse_core.specs.Steps.{DrawsOne, DrawsOn, with_rows, WritesOut, Closes, halted_by_memory}
use Rattle.traverse_core.specs.Alone.{RunsOn, SameLinks, entries_since}

-- ---- entries behind others

behind : {X : Type 0} (xs ys zs : List X) → ys ≡ xs ++ zs → ys ≡ xs ++ drop (length xs) ys
behind xs ys zs e = e ∙ ap (λ (l : List _). xs ++ l) (sym (drop-append_seam xs zs) ∙ ap (λ (l : List _). drop (length xs) l) (sym e))

not_output : (h : Option Halt) → h ≡ None → h ≡ Some halt.Output → ⊥
not_output h e f = absurd (cc)

-- the same entries, and the run is not halted by output
pub on_same : (s t : State) → s.halted ≡ None → t.entries ≡ s.entries → s.out.faults ≤ t.out.faults → (t.halted ≡ Some halt.Output → RoseOnce s.out.faults t.out.faults)
    → (t.halted ≢ Some halt.Output → t.out.faults ≡ s.out.faults) → RunsOn s t
on_same s t h e l f c =
    record { entries = behind s.entries t.entries [] (e ∙ sym (append-nil s.entries)); later = l; stays = λ o. absurd (not_output s.halted h o); failed = λ n o. f o; quiet = λ o. absurd (not_output s.halted h o); calm = c }

-- the same entries and faults, and the run goes on
pub on_calm : (s t : State) → s.halted ≡ None → t.halted ≡ None → t.entries ≡ s.entries → t.out.faults ≡ s.out.faults → RunsOn s t
on_calm s t h k e f = on_same s t h e (omega arith) (λ o. absurd (not_output t.halted k o)) (λ o. f)

pub on_none : (s : State) → s.halted ≡ None → RunsOn s s
on_none s h = on_calm s s h h refl refl

-- one more entry; the output stays
pub on_entry : (s t : State) (e : Entry) → s.halted ≡ None → t.entries ≡ s.entries ++ e ∷ [] → t.out ≡ s.out → t.halted ≡ s.halted → RunsOn s t
on_entry s t e h is out halted = record {
  entries = behind s.entries t.entries (e ∷ []) is;
  later = let f = ap (λ (o : Output). o.faults) out in omega arith;
  stays = λ o. absurd (not_output s.halted h o);
  failed = λ n f. absurd (not_output t.halted (halted ∙ h) f);
  quiet = λ o. absurd (not_output s.halted h o);
  calm = λ o. ap (λ (x : Output). x.faults) out;
}

-- nothing but the table changes
pub on_table : (s t : State) → s.halted ≡ None → t ≡ record s { table = t.table } → RunsOn s t
on_table s t h e = on_calm s t h (ap (λ (x : State). x.halted) e ∙ h) (ap (λ (x : State). x.entries) e) (ap (λ (x : State). x.out.faults) e)

is_output : (h : Option Halt) → (h ≡ Some halt.Output) ⊎ (h ≢ Some halt.Output)
is_output None = inr (λ e. absurd (cc))
is_output (Some halt.Output) = inl refl
is_output (Some halt.Memory) = inr (λ e. absurd (cc))

-- a fault comes in the one part or in the other
failed_on : (s t u : State) → RunsOn s t → RunsOn t u → s.halted ≢ Some halt.Output → u.halted ≡ Some halt.Output → (t.halted ≡ Some halt.Output) ⊎ (t.halted ≢ Some halt.Output) → RoseOnce s.out.faults u.out.faults
failed_on s t u a b n o (inl h) = b.quiet h ∙ a.failed n h
failed_on s t u a b n o (inr h) = subst (λ f. RoseOnce f u.out.faults) (a.calm h) (b.failed h o)

pub runs_on : (s t u : State) → RunsOn s t → RunsOn t u → RunsOn s u
runs_on s t u a b =
    let x = a.later in
    let y = b.later in
    record {
      entries = behind s.entries u.entries (entries_since s t ++ entries_since t u)
          (b.entries ∙ (ap (λ (l : List Entry). l ++ entries_since t u) a.entries ∙ append_assoc s.entries (entries_since s t) (entries_since t u)));
      later = omega arith;
      stays = λ h. b.stays (a.stays h);
      failed = λ n o. failed_on s t u a b n o (is_output t.halted);
      quiet = λ h. b.quiet (a.stays h) ∙ a.quiet h;
      calm = λ h. b.calm h ∙ a.calm (λ o. h (b.stays o));
    }

-- ---- halting

was_output : (h : Option Halt) → (if is_none h then Some halt.Memory else h) ≡ Some halt.Output → h ≡ Some halt.Output
was_output None e = absurd (cc)
was_output (Some x) e = e

still_output : (h : Option Halt) → h ≡ Some halt.Output → (if is_none h then Some halt.Memory else h) ≡ Some halt.Output
still_output None e = absurd (cc)
still_output (Some x) e = e

pub on_halted : (s t u : State) → u ≡ halted_by_memory t → RunsOn s t → RunsOn s u
on_halted s t u e k =
    subst (RunsOn s) (sym e) (record {
      entries = k.entries;
      later = k.later;
      stays = λ h. still_output t.halted (k.stays h);
      failed = λ n h. k.failed n (was_output t.halted h);
      quiet = k.quiet;
      calm = λ h. k.calm (λ o. h (still_output t.halted o));
    })

some_halt : (h : Option Halt) → (if is_none h then Some halt.Memory else h) ≡ None → ⊥
some_halt None e = absurd (cc)
some_halt (Some x) e = absurd (cc)

-- once halted it is halted
pub is_halted : (s t : State) → t ≡ halted_by_memory s → t.halted ≡ None → ⊥
is_halted s t e h = some_halt s.halted (sym (ap (λ (x : State). x.halted) e) ∙ h)

-- ---- drawing

pub draws_none : (s : State) → DrawsOn s s
draws_none s = record { later = omega arith; more = []; is = ap (λ (rows : List Cells). record s { out = record s.out { rows = rows } }) (sym (append-nil s.out.rows)) }

pub draws_more : (s t u : State) → DrawsOn s t → DrawsOne t u → DrawsOn s u
draws_more s t u a b =
    let x = a.later in
    let is : u ≡ record (with_rows s (a.more ++ b.more)) { drawn = t.drawn + 1 } =
    b.is
    ∙ (ap (λ (r : State). record (with_rows r b.more) { drawn = r.drawn + 1 }) a.is
    ∙ ap (λ (rows : List Cells). record s { drawn = t.drawn + 1; out = record s.out { rows = rows } }) (append_assoc s.out.rows a.more b.more)) in
    let d : u.drawn ≡ t.drawn + 1 = ap (λ (r : State). r.drawn) is in
    record { later = omega arith; more = a.more ++ b.more; is = is ∙ ap (λ (n : ℕ). record (with_rows s (a.more ++ b.more)) { drawn = n }) (sym d) }

-- a draw leaves less to draw
pub draws_less : (s t : State) → DrawsOne s t → length t.log - t.drawn < length s.log - s.drawn
draws_less s t d =
    let less = d.less in
    let log = ap (λ (r : State). length r.log) d.is in
    let drawn = ap (λ (r : State). r.drawn) d.is in
    omega arith

-- no rows came
pub draws_one : (s t : State) → s.drawn < length s.log → t ≡ record s { drawn = s.drawn + 1 } → DrawsOne s t
draws_one s t less is = record {
  less = less;
  more = [];
  is = is ∙ ap (λ (rows : List Cells). record s { drawn = s.drawn + 1; out = record s.out { rows = rows } }) (sym (append-nil s.out.rows));
}

-- ---- writing

running_parts : (closed : Bool) (h : Option Halt) → (not closed && is_none h) ≡ true → (closed ≡ false) × (h ≡ None)
running_parts false None e = (refl, refl)
running_parts false (Some x) e = absurd (cc)
running_parts true h e = absurd (cc)

pub running_whole : (s : State) → IsTrue (is_running s) → s.halted ≡ None
running_whole s e = (running_parts s.out.closed s.halted e).1

pub running_again : (s t : State) → IsTrue (is_running s) → t.out.closed ≡ s.out.closed → t.halted ≡ None → IsTrue (is_running t)
running_again s t r c h =
    let p = running_parts s.out.closed s.halted r in
    let o : t.out.closed ≡ false = c ∙ p.0 in
    ap (λ (b : Bool). not b && is_none t.halted) o ∙ ap (λ (x : Option Halt). true && is_none x) h

same_out : (s t : State) → t ≡ record s { out = t.out } → SameRows s.out t.out → SameLinks s t
same_out s t e same = record { table = ap (λ (x : State). x.table) e; entries = ap (λ (x : State). x.entries) e; log = ap (λ (x : State). x.log) e; closed = same.closed }

pub same_none : (s : State) → SameLinks s s
same_none s = record { table = refl; entries = refl; log = refl; closed = refl }

pub same_on : (s t u : State) → SameLinks s t → SameLinks t u → SameLinks s u
same_on s t u a b = record { table = b.table ∙ a.table; entries = b.entries ∙ a.entries; log = b.log ∙ a.log; closed = b.closed ∙ a.closed }

pub drew_same : (s t : State) → DrawsOn s t → SameLinks s t
drew_same s t d = record { table = ap (λ (x : State). x.table) d.is; entries = ap (λ (x : State). x.entries) d.is; log = ap (λ (x : State). x.log) d.is; closed = ap (λ (x : State). x.out.closed) d.is }

drew_whole : (s t : State) → IsTrue (is_running s) → DrawsOn s t → t.halted ≡ None
drew_whole s t r d = ap (λ (x : State). x.halted) d.is ∙ running_whole s r

pub drew_on : (s t : State) → IsTrue (is_running s) → DrawsOn s t → RunsOn s t
drew_on s t r d = on_calm s t (running_whole s r) (drew_whole s t r d) (drew_same s t d).entries (ap (λ (x : State). x.out.faults) d.is)

pub drew_running : (s t : State) → IsTrue (is_running s) → DrawsOn s t → IsTrue (is_running t)
drew_running s t r d = running_again s t r (drew_same s t d).closed (drew_whole s t r d)

-- what a step of writing leaves
pub record WroteOn (s t : State) : Type 0 where
  pub on : RunsOn s t
  pub same : SameLinks s t
  pub drawn : t.drawn ≡ s.drawn

pub wrote_none : (s : State) → s.halted ≡ None → WroteOn s s
wrote_none s h = record { on = on_none s h; same = same_none s; drawn = refl }

pub wrote_on : (s t u : State) → WroteOn s t → WroteOn t u → WroteOn s u
wrote_on s t u a b = record { on = runs_on s t u a.on b.on; same = same_on s t u a.same b.same; drawn = b.drawn ∙ a.drawn }

pub step_wrote : (s t : State) (w : Written) → s.halted ≡ None → WritesOut s t w → WroteOn s t
step_wrote s t Wrote h w = record {
  on = on_calm s t h (ap (λ (x : State). x.halted) w.1 ∙ h) (ap (λ (x : State). x.entries) w.1) (wrote_faults s.out t.out w.0);
  same = same_out s t w.1 (wrote_same s.out t.out w.0);
  drawn = ap (λ (x : State). x.drawn) w.1;
}
step_wrote s t Clear h w = subst (WroteOn s) (sym w.1) (wrote_none s h)
step_wrote s t Failed h w =
    let same = kept_same s.out t.out w.0 in
    record {
      on = on_same s t h (ap (λ (x : State). x.entries) w.2) w.0.later (λ f. w.1) (λ o. absurd (o (ap (λ (x : State). x.halted) w.2)));
      same = record { table = ap (λ (x : State). x.table) w.2; entries = ap (λ (x : State). x.entries) w.2; log = ap (λ (x : State). x.log) w.2; closed = same.closed };
      drawn = ap (λ (x : State). x.drawn) w.2;
    }

-- writing some does not halt
pub wrote_whole : (s t : State) → s.halted ≡ None → WritesOut s t Wrote → t.halted ≡ None
wrote_whole s t h w = ap (λ (x : State). x.halted) w.1 ∙ h

-- closing, where all was written: the rows are the output's, and the entries stay
pub closed_on : (run : Run) (s t : State) → s.halted ≡ None → Closes run s t → RunsOn s t
closed_on run s t h c =
    on_calm s t h (ap (λ (x : State). x.halted) c.is ∙ h) (ap (λ (x : State). x.entries) c.is) (ap (λ (x : State). x.out.faults) c.is)

-- ---- how much text is left

-- the bytes that are pending, and those of the rows that wait
abbrev pub text_left : Output → ℕ
text_left o = length o.pending + length (waiting_text o.names o.closed (o.handed == 0) (drop o.handed o.rows))

not_first : (h : ℕ) → (h + 1 == 0) ≡ false
not_first h = grind (arith, nat_tests)

made_left : (o : Output) (xs : List ℕ) (rows : List Cells) → o.pending ≡ xs → drop o.handed o.rows ≡ rows → text_left (text_made o xs rows) ≡ text_left o
made_left o (x ∷ xs) rows e f = refl
made_left o [] [] e f = refl
made_left o [] (row ∷ rest) e f =
    let text = piece o.names o.closed (o.handed == 0) row rest in
    let later : drop (o.handed + 1) o.rows ≡ rest = sym (drop-drop 1 o.handed o.rows) ∙ ap (drop 1) f in
    let now : length (waiting_text o.names o.closed (o.handed == 0) (drop o.handed o.rows)) ≡ length text + length (waiting_text o.names o.closed false rest) =
    ap (λ (l : List Cells). length (waiting_text o.names o.closed (o.handed == 0) l)) f ∙ length-append text (waiting_text o.names o.closed false rest) in
    let behind_it : length (waiting_text o.names o.closed (o.handed + 1 == 0) (drop (o.handed + 1) o.rows)) ≡ length (waiting_text o.names o.closed false rest) =
    ap (λ b. length (waiting_text o.names o.closed b (drop (o.handed + 1) o.rows))) (not_first o.handed) ∙ ap (λ (l : List Cells). length (waiting_text o.names o.closed false l)) later in
    let none = ap (λ (l : List ℕ). length l) e in
    omega arith

-- each write leaves less
pub wrote_less : (o p : Output) → WritesSome o p → text_left p < text_left o
wrote_less o p w =
    let made = made_left o o.pending (drop o.handed o.rows) refl refl in
    let left = ap text_left w.is in
    let gone = length-drop w.count (with_text o).pending in
    let some = w.some in
    let within = w.within in
    omega arith
