-- The parts of link lines that some allowed link line begins with, and those that none does.
use Rattle.std.proofs.Common.{◌≡◌, ℕ, List, [], ◌∷◌, ◌++◌, length, drop, Bool, true, false, ◌&&◌, Option, Some, None, refl, sym, ap, ◌∙◌, subst, arith, rules, append_assoc, inl, inr}
use Rattle.std.specs.Prelude.{not, ◌==◌, ◌||◌, codes, Result, Ok, Err, IfOk}
use Rattle.std.specs.List.{list_all, list_any}
use Rattle.std.specs.Cmp.Lexicographic.{slice_cmp}
use Rattle.std.specs.declared.cmp.Ordering.{Ordering}
use Rattle.std.specs.declared.cmp.Ordering.TheVariants.{Less, Equal, Greater}
use Rattle.std.specs.Cmp.{nat_cmp_is}
use Rattle.std.specs.Ordering.{nat_cmp, is_lt, ordering_then}
use Rattle.std.proofs.lemmas.Option.{same_Some}
use Rattle.std.proofs.lemmas.Bool.{and_parts, and_from, cases_Bool, cond-true, cond-false, or_cases, or_parts}
use Rattle.std.proofs.lemmas.Bool.Decides.{nat_tests}
use Rattle.site_core.specs.declared.expected.Expected.TheVariants.{Between, Named}
use Rattle.site_core.specs.declared.expected.Step.TheVariants.{Misfit, Next}
use Rattle.site_core.specs.Fields.{behind, is_lf, is_site_link, is_visible, is_own_http}
use Rattle.link_uri.specs.Links.{link_of}
use Rattle.site_core.specs.Growth.{CanGrow, CannotGrow, begins, begins_last, endings, ends_in_link, link_grows}
use Rattle.site_core.specs.Lines.{last_link, step}
use Rattle.site_core.specs.Text.{Entry, comes_after, is_reply, is_site_from}
use Rattle.site_core.proofs.Cuts.{tilde}
use Rattle.site_core.proofs.Ends.{is_plain}
use Rattle.site_core.proofs.Growing.{Tells, begins_is, begins_not, grows_to, tells}
use Rattle.site_core.proofs.LinkCuts.{http_link, link_on, part_link}
use Rattle.site_core.proofs.Sound.{behind_is}

-- ---- the order of the links

then_less : (o rest more : Ordering) → (is_lt rest ≡ true → is_lt more ≡ true) → is_lt (ordering_then o rest) ≡ true → is_lt (ordering_then o more) ≡ true
then_less Less rest more later h = refl
then_less Equal rest more later h = later h
then_less Greater rest more later h = absurd cc

-- a text that comes after another does so whatever follows it
after_more : (before text more : List ℕ) → is_lt (slice_cmp nat_cmp before text) ≡ true → is_lt (slice_cmp nat_cmp before (text ++ more)) ≡ true
after_more [] [] more h = absurd cc
after_more [] (y ∷ text) more h = refl
after_more (x ∷ before) [] more h = absurd cc
after_more (x ∷ before) (y ∷ text) more h = then_less (nat_cmp x y) (slice_cmp nat_cmp before text) (slice_cmp nat_cmp before (text ++ more)) (after_more before text more) h

then_not : (o rest more : Ordering) → (o ≡ Equal → is_lt rest ≡ false → is_lt more ≡ false) → is_lt (ordering_then o rest) ≡ false → is_lt (ordering_then o more) ≡ false
then_not Less rest more later h = absurd cc
then_not Equal rest more later h = later refl h
then_not Greater rest more later h = refl

equal_is : (x y : ℕ) → nat_cmp x y ≡ Equal → x ≡ y
equal_is x y h = grind (arith, nat_tests)

begins-cons : (x y : ℕ) (word part : List ℕ) → x ≡ y → begins (x ∷ word) (y ∷ part) ≡ false → begins word part ≡ false
begins-cons x y word part same h =
    let equal : (y == x) ≡ true = search (rules, same) in
    elim (cases_Bool (begins word part)) [
      | inl yes_ ↦ absurd (let both : begins (x ∷ word) (y ∷ part) ≡ true = and_from (y == x) (begins word part) equal yes_ in cc)
      | inr no_ ↦ no_
    ]

-- a text that neither comes after another nor begins it comes after it with nothing behind it
never_after : (before text more : List ℕ) → begins before text ≡ false → is_lt (slice_cmp nat_cmp before text) ≡ false → is_lt (slice_cmp nat_cmp before (text ++ more)) ≡ false
never_after [] [] more part h = absurd cc
never_after [] (y ∷ text) more part h = absurd cc
never_after (x ∷ before) [] more part h = absurd cc
never_after (x ∷ before) (y ∷ text) more part h =
    then_not (nat_cmp x y) (slice_cmp nat_cmp before text) (slice_cmp nat_cmp before (text ++ more))
    (λ equal. never_after before text more (begins-cons x y before text (equal_is x y equal) part)) h

after_on : (link : List ℕ) → is_lt (slice_cmp nat_cmp link (link ++ tilde)) ≡ true
after_on [] = refl
after_on (x ∷ link) = ap (λ o. is_lt (ordering_then o (slice_cmp nat_cmp link (link ++ tilde)))) (sym (nat_cmp_is x x Equal refl)) ∙ after_on link

comes_more : (before : Option (List ℕ)) (text more : List ℕ) → comes_after before text ≡ true → comes_after before (text ++ more) ≡ true
comes_more None text more h = refl
comes_more (Some link) text more h = after_more link text more h

never_comes : (before : Option (List ℕ)) (text more : List ℕ) → begins_last before text ≡ false → comes_after before text ≡ false → comes_after before (text ++ more) ≡ false
never_comes None text more part h = h
never_comes (Some link) text more part h = never_after link text more part h

-- ---- the link before

last_of_site : (before : Option (List ℕ)) (es : List Entry) → ((link : List ℕ) → before ≡ Some link → is_site_link link ≡ true) → is_site_from before es ≡ true → (link : List ℕ) → last_link before es ≡ Some link → is_site_link link ≡ true
last_of_site before [] own site link is = own link is
last_of_site before (e ∷ es) own site link is =
    let parts = and_parts (comes_after before e.0 && (is_site_link e.0 && is_reply e.1)) (is_site_from (Some e.0) es) site in
    let first = (and_parts (is_site_link e.0) (is_reply e.1) (and_parts (comes_after before e.0) (is_site_link e.0 && is_reply e.1) parts.0).1).0 in
    let Q : List ℕ → Type 0 = λ bs. is_site_link bs ≡ true in
    last_of_site (Some e.0) es (λ l same. subst Q (same_Some e.0 l same) first) parts.1 link is

-- ---- what a part goes on to

-- a link that the part begins and that may stand there
abbrev Goes : Option (List ℕ) → List ℕ → Type 0
Goes before text = (more : List ℕ) × (is_site_link (text ++ more) ≡ true) × (comes_after before (text ++ more) ≡ true)

goes_last : (before : Option (List ℕ)) (text : List ℕ) → ((link : List ℕ) → before ≡ Some link → is_site_link link ≡ true) → begins_last before text ≡ true → Goes before text
goes_last None text own h = absurd cc
goes_last (Some link) text own h =
    let rest = drop (length text) link in
    let is : link ≡ text ++ rest = begins_is link text h in
    let whole : link ++ tilde ≡ text ++ (rest ++ tilde) = ap (λ bs. bs ++ tilde) is ∙ append_assoc text rest tilde in
    let P : List ℕ → Type 0 = λ bs. is_site_link bs ≡ true in
    let Q : List ℕ → Type 0 = λ bs. comes_after (Some link) bs ≡ true in
    (rest ++ tilde, subst P whole (link_on link (own link refl)), subst Q whole (after_on link))

goes_http : (before : Option (List ℕ)) (text : List ℕ) → comes_after before text ≡ true → begins (codes "http://") text ≡ true → Goes before text
goes_http before text after h =
    let rest = drop (length text) (codes "http://") in
    let is : codes "http://" ≡ text ++ rest = begins_is (codes "http://") text h in
    let whole : codes "http://~/" ≡ text ++ (rest ++ codes "~/") = ap (λ bs. bs ++ codes "~/") is ∙ append_assoc text rest (codes "~/") in
    let P : List ℕ → Type 0 = λ bs. is_site_link bs ≡ true in
    (rest ++ codes "~/", subst P whole http_link, comes_more before text (rest ++ codes "~/") after)

some_ending : (text : List ℕ) (es : List (List ℕ)) → list_any (λ ending. is_site_link (text ++ ending)) es ≡ true → (more : List ℕ) × (is_site_link (text ++ more) ≡ true)
some_ending text [] h = absurd cc
some_ending text (e ∷ es) h =
    elim (or_cases (is_site_link (text ++ e)) (list_any (λ ending. is_site_link (text ++ ending)) es) h) [
      | inl here ↦ (e, here)
      | inr later ↦ some_ending text es later
    ]

goes_on : (before : Option (List ℕ)) (text : List ℕ) → ((link : List ℕ) → before ≡ Some link → is_site_link link ≡ true) → link_grows before text ≡ true → Goes before text
goes_on before text own h =
    elim (or_cases (begins_last before text) (comes_after before text && (begins (codes "http://") text || ends_in_link text)) h) [
      | inl last ↦ goes_last before text own last
      | inr other ↦
          let parts = and_parts (comes_after before text) (begins (codes "http://") text || ends_in_link text) other in
          elim (or_cases (begins (codes "http://") text) (ends_in_link text) parts.1) [
            | inl front ↦ goes_http before text parts.0 front
            | inr ends ↦ (let found = some_ending text endings ends in (found.0, found.1, comes_more before text found.0 parts.0))
          ]
    ]

-- no link that the part begins may stand there
stays_off : (before : Option (List ℕ)) (text more : List ℕ) → link_grows before text ≡ false → is_site_link (text ++ more) ≡ true → comes_after before (text ++ more) ≡ true → ⊥
stays_off before text more h link after =
    let parts = or_parts (begins_last before text) (comes_after before text && (begins (codes "http://") text || ends_in_link text)) h in
    elim (cases_Bool (comes_after before text)) [
      | inl comes ↦
          let none = or_parts (begins (codes "http://") text) (ends_in_link text) (by (comes_after before text) (begins (codes "http://") text || ends_in_link text) comes parts.1) in
          let ends = part_link text more link (λ rest same. begins_not (codes "http://") text rest none.0 (sym same)) in
          cc
      | inr off ↦ (let never = never_comes before text more parts.0 off in cc)
    ]
  where
    by : (a b : Bool) → a ≡ true → (a && b) ≡ false → b ≡ false
    by true b h k = k
    by false b h k = absurd cc

-- ---- link lines

shown_plain : (text : List ℕ) → list_all is_visible text ≡ true → is_plain text ≡ true
shown_plain [] h = refl
shown_plain (b ∷ text) h =
    let parts = and_parts (is_visible b) (list_all is_visible text) h in
    and_from (not (is_lf b)) (is_plain text) (grind (arith, nat_tests)) (shown_plain text parts.1)

link_plain : (text : List ℕ) → is_site_link text ≡ true → is_plain text ≡ true
unfolding is_site_link
link_plain text h = shown_plain text (and_parts (list_all is_visible text) (is_own_http text (link_of text)) h).0

line_goes : (done : List Entry) (text : List ℕ) → Goes (last_link None done) text → CanGrow done Between (codes "link " ++ text)
line_goes done text goes =
    let more = goes.0 in
    let both = and_from (comes_after (last_link None done) (text ++ more)) (is_site_link (text ++ more)) goes.2 goes.1 in
    grows_to done Between (Named (text ++ more)) (codes "link " ++ text) more (link_plain (text ++ more) goes.1)
    (cond-true (comes_after (last_link None done) (text ++ more) && is_site_link (text ++ more)) (Next (Named (text ++ more))) Misfit both)

line_stays : (done : List Entry) (text : List ℕ) → link_grows (last_link None done) text ≡ false → CannotGrow done Between (codes "link " ++ text)
line_stays done text h more =
    cond-false (comes_after (last_link None done) (text ++ more) && is_site_link (text ++ more)) (Next (Named (text ++ more))) Misfit
    (elim (cases_Bool (comes_after (last_link None done) (text ++ more) && is_site_link (text ++ more))) [
      | inl both ↦ absurd (let parts = and_parts (comes_after (last_link None done) (text ++ more)) (is_site_link (text ++ more)) both in stays_off (last_link None done) text more h parts.1 parts.0)
      | inr none ↦ none
    ])

-- what the test of the link says of the line
pub link_tells : (done : List Entry) (part text : List ℕ) → is_site_from None done ≡ true → behind (codes "link ") part ≡ Some text → Tells done Between part (link_grows (last_link None done) text)
link_tells done part text site is =
    let line : part ≡ codes "link " ++ text = behind_is (codes "link ") part text is in
    let own = last_of_site None done (λ l same. absurd cc) site in
    let P : List ℕ → Type 0 = λ bs. Tells done Between bs (link_grows (last_link None done) text) in
    subst P (sym line) (tells done Between (codes "link " ++ text) (link_grows (last_link None done) text) (λ h. line_goes done text (goes_on (last_link None done) text own h)) (line_stays done text))

-- a beginning of the word `link `
pub word_goes : (done : List Entry) (part : List ℕ) → is_site_from None done ≡ true → begins (codes "link ") part ≡ true → CanGrow done Between part
word_goes done part site h =
    let own = last_of_site None done (λ l same. absurd cc) site in
    let rest = drop (length part) (codes "link ") in
    let goes = goes_any (last_link None done) own in
    let both = and_from (comes_after (last_link None done) goes.0) (is_site_link goes.0) goes.2 goes.1 in
    let line : codes "link " ++ goes.0 ≡ part ++ (rest ++ goes.0) = ap (λ bs. bs ++ goes.0) (begins_is (codes "link ") part h) ∙ append_assoc part rest goes.0 in
    let P : List ℕ → Type 0 = λ bs. is_plain bs ≡ true in
    let Q : List ℕ → Type 0 = λ bs. step done Between bs ≡ Next (Named goes.0) in
    grows_to done Between (Named goes.0) part (rest ++ goes.0) (subst P line (link_plain goes.0 goes.1))
    (subst Q line (cond-true (comes_after (last_link None done) goes.0 && is_site_link goes.0) (Next (Named goes.0)) Misfit both))
  where
    goes_any : (before : Option (List ℕ)) → ((link : List ℕ) → before ≡ Some link → is_site_link link ≡ true) → Goes before []
    goes_any None own = (codes "http://~/", http_link, refl)
    goes_any (Some link) own = (link ++ tilde, link_on link (own link refl), after_on link)

-- what the test tells, of the bytes as the code has them
pub link_told : {E : Type 0} (r : Result Bool E) (done : List Entry) (part text : List ℕ) → is_site_from None done ≡ true → behind (codes "link ") part ≡ Some text → IfOk r (λ grows. grows ≡ link_grows (last_link None done) text) → IfOk r (λ grows. Tells done Between part grows)
link_told (Ok grows) done part text site is told = let P : Bool → Type 0 = Tells done Between part in subst P (sym told) (link_tells done part text site is)
link_told (Err e) done part text site is told = tt
