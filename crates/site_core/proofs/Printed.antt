-- The lines of a printed site are read as that site.
use Rattle.std.proofs.Common.{◌≡◌, ℕ, ◌+◌, ◌^◌, ◌<◌, ◌≤◌, suc, List, [], ◌∷◌, ◌++◌, length, take, drop, Bool, true, ◌&&◌, cond, Option, Some, None, Result, Ok, Err, refl, sym, ap, ◌∙◌, subst, arith, append_assoc, append-nil, length-append}
use Rattle.std.specs.Prelude.{not, decimal, codes, option_map}
use Rattle.std.specs.List.{list_all, flat_map}
use Rattle.std.proofs.lemmas.Bool.{and_parts, and_from, cond-true}
use Rattle.std.proofs.lemmas.Bool.Decides.{nat_tests}
use Rattle.link_uri.specs.declared.heard.Reply.{Reply}
use Rattle.site_core.specs.declared.expected.Expected.{Expected}
use Rattle.site_core.specs.declared.expected.Expected.TheVariants.{First, Between, Named, Headed}
use Rattle.site_core.specs.declared.expected.Step.TheVariants.{Misfit, Next}
use Rattle.site_core.specs.declared.expected.Field.TheVariants.{Media, Coding, Location, Size}
use Rattle.site_core.specs.Fields.{is_lf, is_digit, is_printable, is_site_link, is_status, is_value, is_visible}
use Rattle.site_core.specs.Lines.{bare, field_of, last_link, step, with_field, with_status}
use Rattle.site_core.specs.Places.{Answer, Look, On, Reads, is_lf_at, look, look_line, look_step, reads_end, reads_on}
use Rattle.site_core.specs.Text.{Entry, block_text, body_text, comes_after, ended, head_text, is_reply, is_site_from, may_be_value, site_text, value_line}
use Rattle.site_core.proofs.Ends.{drop_line, is_plain, position-plain, take_front}
use Rattle.site_core.proofs.Numbers.{digits-decimal, number_of-decimal}

-- ---- one line

pub look-line : (done : List Entry) (expected : Expected) (at : ℕ) (line rest : List ℕ) → is_plain line ≡ true → look done expected at (ended line ++ rest) ≡ look_step done at (at + suc (length line)) rest (step done expected line)
look-line done expected at line rest plain =
    let whole : ended line ++ rest ≡ line ++ 10 ∷ rest = append_assoc line (10 ∷ []) rest in
    let P : List ℕ → Type 0 = λ bs. look done expected at bs ≡ look_step done at (at + suc (length line)) rest (step done expected line) in
    subst P (sym whole)
    (ap (look_line done expected at (line ++ 10 ∷ rest)) (position-plain line rest plain)
    ∙ ap (λ bs. look_step done at (at + suc (length line)) bs (step done expected (take (length line) (line ++ 10 ∷ rest)))) (drop_line line rest 10)
    ∙ ap (λ bs. look_step done at (at + suc (length line)) rest (step done expected bs)) (take_front line (10 ∷ rest)))

-- a line leads on to the next spot
pub reads_line : {done : List Entry} {expected next : Expected} {at : ℕ} (line : List ℕ) {rest : List ℕ} {answer : Result (List Entry) ℕ} → is_plain line ≡ true → step done expected line ≡ Next next → Reads done next (at + suc (length line)) rest answer → Reads done expected at (ended line ++ rest) answer
reads_line {done} {expected} {next} {at} line {rest} {answer} plain leads reads =
    reads_on (look-line done expected at line rest plain ∙ ap (look_step done at (at + suc (length line)) rest) leads) reads

-- ---- which lines are plain

pub plain_from : (p : ℕ → Bool) → ((b : ℕ) → p b ≡ true → not (is_lf b) ≡ true) → (bs : List ℕ) → list_all p bs ≡ true → is_plain bs ≡ true
plain_from p other [] all = refl
plain_from p other (b ∷ bs) all =
    let parts = and_parts (p b) (list_all p bs) all in
    and_from (not (is_lf b)) (is_plain bs) (other b parts.0) (plain_from p other bs parts.1)

pub digit_other : (b : ℕ) → is_digit b ≡ true → not (is_lf b) ≡ true
digit_other b h = grind (arith, nat_tests)

pub printable_other : (b : ℕ) → is_printable b ≡ true → not (is_lf b) ≡ true
printable_other b h = grind (arith, nat_tests)

visible_other : (b : ℕ) → is_visible b ≡ true → not (is_lf b) ≡ true
visible_other b h = grind (arith, nat_tests)

plain-decimal : (n : ℕ) → n < 2 ^ 64 → is_plain (decimal n) ≡ true
plain-decimal n small = plain_from is_digit digit_other (decimal n) (digits-decimal n small)

pub plain-value : (value : List ℕ) → is_value value ≡ true → is_plain value ≡ true
plain-value value valid =
    let inner = (and_parts _ _ valid).1 in
    plain_from is_printable printable_other value (and_parts _ _ inner).0

pub plain-link : (text : List ℕ) → is_site_link text ≡ true → is_plain text ≡ true
unfolding is_site_link
plain-link text valid = plain_from is_visible visible_other text (and_parts _ _ valid).0

-- ---- each kind of line

step-link : (done : List Entry) (text : List ℕ) → comes_after (last_link None done) text ≡ true → is_site_link text ≡ true → step done Between (codes "link " ++ text) ≡ Next (Named text)
step-link done text after valid = cond-true (comes_after (last_link None done) text && is_site_link text) (Next (Named text)) Misfit (and_from _ _ after valid)

step-status : (done : List Entry) (link : List ℕ) (n : ℕ) → is_status n ≡ true → n < 2 ^ 64 → step done (Named link) (codes "status " ++ decimal n) ≡ Next (Headed link (bare n))
step-status done link n valid small =
    ap (with_status link) (number_of-decimal n small) ∙ cond-true (is_status n) (Next (Headed link (bare n))) Misfit valid

value_test : (value : List ℕ) → is_value value ≡ true → cond (is_value value) (Some value) None ≡ Some value
value_test value valid = cond-true (is_value value) (Some value) None valid

pub field-type : (value : List ℕ) → is_value value ≡ true → field_of (codes "type " ++ value) ≡ Some (Media value)
field-type value valid = rw (value_test value valid) refl

pub field-coding : (value : List ℕ) → is_value value ≡ true → field_of (codes "coding " ++ value) ≡ Some (Coding value)
field-coding value valid = rw (value_test value valid) refl

pub field-location : (value : List ℕ) → is_value value ≡ true → field_of (codes "location " ++ value) ≡ Some (Location value)
field-location value valid = rw (value_test value valid) refl

field-size : (n : ℕ) → n < 2 ^ 64 → field_of (codes "body " ++ decimal n) ≡ Some (Size n)
field-size n small = ap (option_map Size) (number_of-decimal n small)

pub final_small : (n : ℕ) → is_status n ≡ true → n < 2 ^ 64
final_small n valid = grind (arith, nat_tests)

-- ---- the lines of values

reads_location : (done : List Entry) (link : List ℕ) (n : ℕ) (media coding location : Option (List ℕ)) (at : ℕ) (rest : List ℕ) (answer : Result (List Entry) ℕ) → may_be_value location ≡ true → ((at : ℕ) → Reads done (Headed link (record { status = n; media = media; coding = coding; location = location; body = [] })) at rest answer) → Reads done (Headed link (record { status = n; media = media; coding = coding; location = None; body = [] })) at (value_line (codes "location ") location ++ rest) answer
reads_location done link n media coding None at rest answer valid reads = reads at
reads_location done link n media coding (Some value) at rest answer valid reads =
    reads_line (codes "location " ++ value) (plain-value value valid) (ap (with_field link (record { status = n; media = media; coding = coding; location = None; body = [] })) (field-location value valid)) (reads _)

reads_coding : (done : List Entry) (link : List ℕ) (n : ℕ) (media coding : Option (List ℕ)) (at : ℕ) (rest : List ℕ) (answer : Result (List Entry) ℕ) → may_be_value coding ≡ true → ((at : ℕ) → Reads done (Headed link (record { status = n; media = media; coding = coding; location = None; body = [] })) at rest answer) → Reads done (Headed link (record { status = n; media = media; coding = None; location = None; body = [] })) at (value_line (codes "coding ") coding ++ rest) answer
reads_coding done link n media None at rest answer valid reads = reads at
reads_coding done link n media (Some value) at rest answer valid reads =
    reads_line (codes "coding " ++ value) (plain-value value valid) (ap (with_field link (record { status = n; media = media; coding = None; location = None; body = [] })) (field-coding value valid)) (reads _)

reads_type : (done : List Entry) (link : List ℕ) (n : ℕ) (media : Option (List ℕ)) (at : ℕ) (rest : List ℕ) (answer : Result (List Entry) ℕ) → may_be_value media ≡ true → ((at : ℕ) → Reads done (Headed link (record { status = n; media = media; coding = None; location = None; body = [] })) at rest answer) → Reads done (Headed link (bare n)) at (value_line (codes "type ") media ++ rest) answer
reads_type done link n None at rest answer valid reads = reads at
reads_type done link n (Some value) at rest answer valid reads =
    reads_line (codes "type " ++ value) (plain-value value valid) (ap (with_field link (bare n)) (field-type value valid)) (reads _)

reads_head : (done : List Entry) (link : List ℕ) (reply : Reply) (at : ℕ) (rest : List ℕ) (answer : Result (List Entry) ℕ) → is_reply reply ≡ true → ((at : ℕ) → Reads done (Headed link (record reply { body = [] })) at rest answer) → Reads done (Named link) at (head_text reply ++ rest) answer
reads_head done link reply at rest answer valid reads =
    let status = and_parts (is_status reply.status) (may_be_value reply.media && (may_be_value reply.coding && may_be_value reply.location)) valid in
    let media = and_parts (may_be_value reply.media) (may_be_value reply.coding && may_be_value reply.location) status.1 in
    let last = and_parts (may_be_value reply.coding) (may_be_value reply.location) media.1 in
    let small : reply.status < 2 ^ 64 = final_small reply.status status.0 in
    let statuses = ended (codes "status " ++ decimal reply.status) in
    let medias = value_line (codes "type ") reply.media in
    let codings = value_line (codes "coding ") reply.coding in
    let locations = value_line (codes "location ") reply.location in
    let whole : head_text reply ++ rest ≡ statuses ++ (medias ++ (codings ++ (locations ++ rest))) =
    append_assoc statuses (medias ++ (codings ++ locations)) rest
    ∙ ap (λ bs. statuses ++ bs) (append_assoc medias (codings ++ locations) rest ∙ ap (λ bs. medias ++ bs) (append_assoc codings locations rest)) in
    let P : List ℕ → Type 0 = λ bs. Reads done (Named link) at bs answer in
    subst P (sym whole)
    (reads_line (codes "status " ++ decimal reply.status) (plain-decimal reply.status small) (step-status done link reply.status status.0 small)
    (reads_type done link reply.status reply.media _ _ answer media.0
    (λ at. reads_coding done link reply.status reply.media reply.coding at _ answer last.0
    (λ at. reads_location done link reply.status reply.media reply.coding reply.location at rest answer last.1 reads))))

-- ---- the body

pub lf_behind : (body rest : List ℕ) → is_lf_at (body ++ 10 ∷ rest) (length body) ≡ true
lf_behind [] rest = refl
lf_behind (b ∷ body) rest = lf_behind body rest

reads_body : (done : List Entry) (link : List ℕ) (head : Reply) (body : List ℕ) (at : ℕ) (rest : List ℕ) (answer : Result (List Entry) ℕ) → length body < 2 ^ 64 → ((at : ℕ) → Reads (done ++ (link, record head { body = body }) ∷ []) Between at rest answer) → Reads done (Headed link head) at (body_text body ++ rest) answer
reads_body done link head body at rest answer small reads =
    let n = length body in
    let line = codes "body " ++ decimal n in
    let next = at + suc (length line) in
    let whole : body_text body ++ rest ≡ ended line ++ (body ++ 10 ∷ rest) = append_assoc (ended line) (ended body) rest ∙ ap (λ bs. ended line ++ bs) (append_assoc body (10 ∷ []) rest) in
    let P : List ℕ → Type 0 = λ bs. Reads done (Headed link head) at bs answer in
    let Q : List ℕ → List ℕ → Look = λ bs more. On (done ++ (link, record head { body = bs }) ∷ []) Between (next + suc n) more in
    let here : look done (Headed link head) at (ended line ++ (body ++ 10 ∷ rest)) ≡ Q body rest =
    look-line done (Headed link head) at line (body ++ 10 ∷ rest) (plain-decimal n small)
    ∙ ap (λ f. look_step done at next (body ++ 10 ∷ rest) (with_field link head f)) (field-size n small)
    ∙ cond-true (is_lf_at (body ++ 10 ∷ rest) n) (Q (take n (body ++ 10 ∷ rest)) (drop (suc n) (body ++ 10 ∷ rest))) (Answer (Err at)) (lf_behind body rest)
    ∙ ap (λ bs. Q bs (drop (suc n) (body ++ 10 ∷ rest))) (take_front body (10 ∷ rest))
    ∙ ap (Q body) (drop_line body rest 10) in
    subst P (sym whole) (reads_on here (reads (next + suc n)))

-- ---- the blocks

reads_block : (done : List Entry) (e : Entry) (at : ℕ) (rest : List ℕ) (answer : Result (List Entry) ℕ) → comes_after (last_link None done) e.0 ≡ true → is_site_link e.0 ≡ true → is_reply e.1 ≡ true → length e.1.body < 2 ^ 64 → ((at : ℕ) → Reads (done ++ e ∷ []) Between at rest answer) → Reads done Between at (block_text e ++ rest) answer
reads_block done e at rest answer after link reply small reads =
    let names = ended (codes "link " ++ e.0) in
    let whole : block_text e ++ rest ≡ names ++ (head_text e.1 ++ (body_text e.1.body ++ rest)) =
    append_assoc names (head_text e.1 ++ body_text e.1.body) rest ∙ ap (λ bs. names ++ bs) (append_assoc (head_text e.1) (body_text e.1.body) rest) in
    let P : List ℕ → Type 0 = λ bs. Reads done Between at bs answer in
    subst P (sym whole)
    (reads_line (codes "link " ++ e.0) (plain-link e.0 link) (step-link done e.0 after link)
    (reads_head done e.0 e.1 _ _ answer reply
    (λ at. reads_body done e.0 (record e.1 { body = [] }) e.1.body at rest answer small reads)))

last_link-push : (before : Option (List ℕ)) (done : List Entry) (e : Entry) → last_link before (done ++ e ∷ []) ≡ Some e.0
last_link-push before [] e = refl
last_link-push before (d ∷ done) e = last_link-push (Some d.0) done e

part_within : (a h line body rest : List ℕ) → length body ≤ length ((a ++ (h ++ (line ++ (body ++ 10 ∷ [])))) ++ rest)
part_within a h line body rest = simp length-append (omega arith)

body_within : (e : Entry) (rest : List ℕ) → length e.1.body ≤ length (block_text e ++ rest)
body_within e rest = part_within (ended (codes "link " ++ e.0)) (head_text e.1) (ended (codes "body " ++ decimal (length e.1.body))) e.1.body rest

reads_blocks : (done es : List Entry) → is_site_from (last_link None done) es ≡ true → (at : ℕ) → length (flat_map block_text es ++ ended (codes "end")) < 2 ^ 64 → Reads done Between at (flat_map block_text es ++ ended (codes "end")) (Ok (done ++ es))
reads_blocks done [] valid at small =
    let P : List Entry → Type 0 = λ es. Reads done Between at (ended (codes "end")) (Ok es) in
    subst P (sym (append-nil done)) (reads_end refl)
reads_blocks done (e ∷ es) valid at small =
    let end = ended (codes "end") in
    let rest = flat_map block_text es ++ end in
    let parts = and_parts (comes_after (last_link None done) e.0 && (is_site_link e.0 && is_reply e.1)) (is_site_from (Some e.0) es) valid in
    let here = and_parts (comes_after (last_link None done) e.0) (is_site_link e.0 && is_reply e.1) parts.0 in
    let entry = and_parts (is_site_link e.0) (is_reply e.1) here.1 in
    let whole : flat_map block_text (e ∷ es) ++ end ≡ block_text e ++ rest = append_assoc (block_text e) (flat_map block_text es) end in
    let long : length (block_text e ++ rest) < 2 ^ 64 = (let P : List ℕ → Type 0 = λ bs. length bs < 2 ^ 64 in subst P whole small) in
    let F : Option (List ℕ) → Type 0 = λ before. is_site_from before es ≡ true in
    let T : List ℕ → Type 0 = λ bs. Reads done Between at bs (Ok (done ++ e ∷ es)) in
    let A : List Entry → ℕ → Type 0 = λ all at. Reads (done ++ e ∷ []) Between at rest (Ok all) in
    subst T (sym whole)
    (reads_block done e at rest (Ok (done ++ e ∷ es)) here.0 entry.0 entry.1 (omega (arith, body_within e rest))
    (λ at. subst (λ (all : List Entry). A all at) (append_assoc done (e ∷ []) es)
    (reads_blocks (done ++ e ∷ []) es (subst F (sym (last_link-push None done e)) parts.1) at (omega (arith, length-append (block_text e) rest)))))

-- the text of a site is read as the site
pub reads_site : (es : List Entry) → is_site_from None es ≡ true → length (site_text es) < 2 ^ 64 → Reads [] First 0 (site_text es) (Ok es)
reads_site es valid small =
    let rest = flat_map block_text es ++ ended (codes "end") in
    reads_line (codes "site 1") refl refl (reads_blocks [] es valid _ (omega (arith, length-append (ended (codes "site 1")) rest)))
