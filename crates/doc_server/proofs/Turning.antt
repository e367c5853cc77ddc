-- Connections that are served one after the other, and what was read before.
use Rattle.std.proofs.Common.{◌≡◌, ℕ, zero, suc, ◌+◌, ◌<◌, ◌≤◌, Bool, true, false, List, [], ◌∷◌, ◌++◌, length, take, refl, sym, ap, ◌∙◌, subst, arith, append_assoc, length-append, add-zero, add-one, add-suc, inl, inr}
use Rattle.std.specs.Prelude.{◌||◌, nat_lt, Option, Some, None, ◌↔◌}
use Rattle.std.specs.Io.KnownBytes.{append_known, prepend_known, IsAtEnd}
use Rattle.outer_ports.specs.Causes.{Rose, one_more}
use Rattle.site_core.specs.Text.{Entry, SiteText}
use Rattle.doc_server.specs.declared.serving.Served.{Served}
use Rattle.doc_server.specs.declared.serving.Served.TheVariants as served
use Rattle.doc_server.specs.declared.ending.Ending.{Ending}
use Rattle.doc_server.specs.declared.ending.Ending.TheVariants as ending
use Rattle.doc_server.specs.Writing.{Connection, IsServedBy}
use Rattle.doc_server.specs.Peering.{Answered, Peering, Gives, TakesBack, Fails, Adds, StartsEmpty, Tells, answered, is_faulty}
use Rattle.doc_server.specs.Serving.{AnswersBy, AnswersEach, AddsAnswers, HandsBack, ServesSoMany, EndsEach, EndsOver, EndsFrom, Ends, Feed, ReadsAll, ReadsSome, code_of, risen}

-- ---- one connection

calm : (reads writes : ℕ) → reads ≡ 0 → writes ≡ 0 → (nat_lt 0 reads || nat_lt 0 writes) ≡ false
calm reads writes e f = rw (e, f) refl

read_fault : (reads writes : ℕ) → reads ≡ 1 → (nat_lt 0 reads || nat_lt 0 writes) ≡ true
read_fault reads writes e = rw e refl

write_fault : (reads writes : ℕ) → reads ≡ 0 → writes ≡ 1 → (nat_lt 0 reads || nat_lt 0 writes) ≡ true
write_fault reads writes e f = rw (e, f) refl

-- how the connection was answered, where it tells
abbrev HasAnswer : List Entry → List ℕ → Connection → Type 0
HasAnswer site asked d = (content : List ℕ) × (d.content ≡ Some content) × AnswersBy site asked content (is_faulty d)

grown : (old new : Option (List ℕ)) (part : List ℕ) → old ≡ Some [] → new ≡ append_known old part → new ≡ Some part
grown old new part e f = f ∙ ap (λ o. append_known o part) e

has_answer : (site : List Entry) (asked : List ℕ) (c d : Connection) (answer : Served) → c.left ≡ Some asked → c.content ≡ Some []
    → c.read_faults ≡ 0 → c.write_faults ≡ 0 → (answer ≡ served.Memory → ⊥) → IsServedBy site c d answer → HasAnswer site asked d
has_answer site asked c d served.Done left content reads writes ample s =
    let w = s.written asked left in
    (w.0, grown c.content d.content w.0 content w.2, subst (AnswersBy site asked w.0) (sym (calm d.read_faults d.write_faults (s.counts.0 ∙ reads) (s.counts.1 ∙ writes))) w.1)
has_answer site asked c d served.ReadFault left content reads writes ample s =
    ([], s.written asked left ∙ content, subst (AnswersBy site asked []) (sym (read_fault d.read_faults d.write_faults (s.counts.0 ∙ ap one_more reads))) (inl refl))
has_answer site asked c d served.WriteFault left content reads writes ample s =
    let w = s.written asked left in
    (w.0, grown c.content d.content w.0 content w.2, subst (AnswersBy site asked w.0) (sym (write_fault d.read_faults d.write_faults (s.counts.0 ∙ reads) (s.counts.1 ∙ ap one_more writes))) w.1)
has_answer site asked c d served.Memory left content reads writes ample s = absurd (ample refl)

told : (old : Option (List (List ℕ))) (member : Option (List ℕ)) (new : Option (List (List ℕ))) (asked : List (List ℕ)) → old ≡ Some asked → Tells old member new
    → (x : List ℕ) × (member ≡ Some x) × (new ≡ Some (asked ++ x ∷ []))
told old member new asked e t = subst (λ o. Tells o member new) e t

empty : (old : Option (List Answered)) (content : Option (List ℕ)) (wrote : List Answered) → old ≡ Some wrote → StartsEmpty old content → content ≡ Some []
empty old content wrote e s = subst (λ o. StartsEmpty o content) e s

added : (old : Option (List Answered)) (d : Connection) (new : Option (List Answered)) (wrote : List Answered) (content : List ℕ)
    → old ≡ Some wrote → d.content ≡ Some content → Adds old (answered d) new → new ≡ Some (wrote ++ record { content = content; faulty = is_faulty d } ∷ [])
added old d new wrote content e f a =
    let known : answered d ≡ Some (record { content = content; faulty = is_faulty d }) = ap (λ (o : Option (List ℕ)). elim o [ None ↦ None | Some xs ↦ Some (record { content = xs; faulty = is_faulty d }) ]) f in
    let here : Adds (Some wrote) (answered d) new = subst (λ o. Adds o (answered d) new) e a in
    subst (λ m. Adds (Some wrote) m new) known here

-- a connection was given and handed back
pub handed : (old mid new : Peering) (c d : Connection) → Gives old c mid → TakesBack mid d new → HandsBack 1 old new
handed old mid new c d g t = record {
  given = t.given ∙ g.given;
  returned = t.returned ∙ ap one_more g.returned;
  later = omega (arith, g.later, t.later);
}

-- a connection was given, served and handed back
pub turned : (site : List Entry) (old mid new : Peering) (c d : Connection) (answer : Served) → Gives old c mid → IsServedBy site c d answer
    → (answer ≡ served.Memory → ⊥) → TakesBack mid d new → ServesSoMany site 1 old new
turned site old mid new c d answer g s ample t = record {
  back = handed old mid new c d g t;
  answers = λ asked wrote e f.
      let x = told old.asked c.left mid.asked asked e g.asked in
      let a = has_answer site x.0 c d answer x.1 (empty old.wrote c.content wrote f g.content) g.read_faults g.write_faults ample s in
      let one : Answered = record { content = a.0; faulty = is_faulty d } in
      (x.0 ∷ [], one ∷ [], refl, (a.2, tt), t.asked ∙ x.2, added mid.wrote d new.wrote wrote a.0 (g.wrote ∙ f) a.1 t.wrote);
}

-- ---- connection after connection

risen-add : (n k j : ℕ) → risen (risen n k) j ≡ risen n (k + j)
risen-add n k zero = ap (risen n) (sym (add-zero k))
risen-add n k (suc j) = ap one_more (risen-add n k j) ∙ ap (risen n) (sym (add-suc k j))

pub handed_more : (k j : ℕ) (a b c : Peering) → HandsBack k a b → HandsBack j b c → HandsBack (k + j) a c
handed_more k j a b c x y = record {
  given = y.given ∙ ap (λ n. risen n j) x.given ∙ risen-add a.given k j;
  returned = y.returned ∙ ap (λ n. risen n j) x.returned ∙ risen-add a.returned k j;
  later = omega (arith, x.later, y.later);
}

answers_append : (site : List Entry) (xs ys : List (List ℕ)) (us vs : List Answered) → AnswersEach site xs us → AnswersEach site ys vs → AnswersEach site (xs ++ ys) (us ++ vs)
answers_append site [] ys [] vs h k = k
answers_append site [] ys (u ∷ us) vs h k = absurd h
answers_append site (x ∷ xs) ys [] vs h k = absurd h
answers_append site (x ∷ xs) ys (u ∷ us) vs h k = (h.0, answers_append site xs ys us vs h.1 k)

pub served_none : (site : List Entry) (a : Peering) → ServesSoMany site 0 a a
served_none site a = record {
  back = record { given = refl; returned = refl; later = omega arith };
  answers = λ asked wrote e f. ([], [], refl, tt, e ∙ ap Some (sym (append-nil asked)), f ∙ ap Some (sym (append-nil wrote)));
}
  where
    append-nil : {A : Type 0} (xs : List A) → xs ++ [] ≡ xs
    append-nil [] = refl
    append-nil (x ∷ xs) = ap (λ l. x ∷ l) (append-nil xs)

pub served_more : (site : List Entry) (k : ℕ) (a b c : Peering) → ServesSoMany site k a b → ServesSoMany site 1 b c → ServesSoMany site (k + 1) a c
served_more site k a b c x y = record {
  back = handed_more k 1 a b c x.back y.back;
  answers = λ asked wrote e f.
      let u = x.answers asked wrote e f in
      let v = y.answers (asked ++ u.0) (wrote ++ u.1) u.4 u.5 in (
        u.0 ++ v.0,
        u.1 ++ v.1,
        omega (arith, length-append u.0 v.0, u.2, v.2),
        answers_append site u.0 v.0 u.1 v.1 u.3 v.3,
        v.4 ∙ ap Some (append_assoc asked u.0 v.0),
        v.5 ∙ ap Some (append_assoc wrote u.1 v.1),
      );
}

-- serving ended where none could be given
pub ended_network : (site : List Entry) (count k : ℕ) (a b c : Peering) → k < count → ServesSoMany site k a b → Fails b c → EndsEach site count a ending.Network c
ended_network site count k a b c less x f = (
  k,
  less,
  record {
    back = record {
      given = f.given ∙ x.back.given;
      returned = f.returned ∙ x.back.returned;
      later = omega (arith, x.back.later, f.later);
    };
    answers = λ asked wrote e w.
        let u = x.answers asked wrote e w in
        (u.0, u.1, u.2, u.3, f.asked ∙ u.4, f.wrote ∙ u.5);
  },
  omega (arith, x.back.later, f.rose),
)

-- serving ended for want of memory
pub ended_memory : (site : List Entry) (count k j : ℕ) (a b c : Peering) → k < count → j ≤ 1 → ServesSoMany site k a b → HandsBack j b c → EndsEach site count a ending.Memory c
ended_memory site count k j a b c less small x y = (k + j, omega (arith, less, small), handed_more k j a b c x.back y)

-- nothing was given yet
pub handed_none : (a b : Peering) → b ≡ a → HandsBack 0 a b
handed_none a b e = record {
  given = ap (λ (p : Peering). p.given) e;
  returned = ap (λ (p : Peering). p.returned) e;
  later = let same : b.faults ≡ a.faults = ap (λ (p : Peering). p.faults) e in omega (arith, same);
}

-- ---- the input

-- a site's text is the whole input
read_all_of : (old new : Feed) (bytes : List ℕ) (site : List Entry) → ReadsSome old bytes new → SiteText site bytes → ReadsAll old bytes new
read_all_of old new bytes site r s =
    let e = r.at_end s.within in
    record { read = r.read; at_end = e.0; ended = e.1 }

pub ends_from : (count : ℕ) (old new : Feed) (bytes : List ℕ) (a b : Peering) (end : Ending) → ReadsSome old bytes new → EndsOver bytes count a end b → EndsFrom count old new a end b
ends_from count old new bytes a b ending.Served r x = (bytes, read_all_of old new bytes x.0 r x.1, x)
ends_from count old new bytes a b ending.Network r x = (bytes, read_all_of old new bytes x.0 r x.1, x)
ends_from count old new bytes a b ending.Site r x = (bytes, r, x)
ends_from count old new bytes a b ending.Memory r x = x
ends_from count old new bytes a b ending.Usage r x = absurd x
ends_from count old new bytes a b ending.Input r x = absurd x

-- ---- the words

some_code : (count : ℕ) (input input' : Feed) (old : Peering) (end : Ending) (new : Peering) → EndsFrom count input input' old end new → code_of end ≡ 2 → ⊥
some_code count input input' old ending.Served new x e = absurd cc
some_code count input input' old ending.Usage new x e = x
some_code count input input' old ending.Site new x e = absurd cc
some_code count input input' old ending.Input new x e = absurd cc
some_code count input input' old ending.Network new x e = absurd cc
some_code count input input' old ending.Memory new x e = absurd cc

-- the code of usage comes exactly where the words ask for no number of connections
pub usage_code : (code : ℕ) (asked : Option ℕ) (input input' : Feed) (old : Peering) (end : Ending) (new : Peering) → code ≡ code_of end → Ends asked input input' old end new
    → (code ≡ 2) ↔ (asked ≡ None)
usage_code code None input input' old end new same x = (λ _. refl, λ _. same ∙ ap code_of x.0)
usage_code code (Some count) input input' old end new same x = (λ e. absurd (some_code count input input' old end new x (sym same ∙ e)), λ e. absurd cc)

-- what was read, where that may be one byte more than a site file has
pub reads_some : (old new : Feed) (text bytes : List ℕ) → text ≡ bytes → old.left ≡ prepend_known bytes new.left → length bytes ≤ 67108865
    → (length bytes < 67108865 → IsAtEnd new.left) → (length bytes < 67108865 → Rose old.ends new.ends) → ReadsSome old text new
reads_some old new text bytes e read most at_end ended =
    subst (λ t. ReadsSome old t new) (sym e) (record {
      read = read;
      most = most;
      at_end = λ h. (at_end (omega (arith, h)), ended (omega (arith, h)));
    })
