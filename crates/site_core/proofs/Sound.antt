-- What the lines are read as is a site, and its text is what was read.
use Rattle.std.proofs.Common.{◌≡◌, ℕ, ◌+◌, ◌^◌, ◌<◌, ◌≤◌, suc, zero, List, [], ◌∷◌, ◌++◌, length, take, drop, true, ◌&&◌, cond, Option, Some, None, Result, Ok, Err, refl, sym, ap, ◌∙◌, subst, arith, rules, append_assoc, append-nil, length-drop}
use Rattle.std.specs.Prelude.{decimal, codes, option_map, option_and_then, position, bytes_eq}
use Rattle.std.specs.Option.{option_or, is_none}
use Rattle.std.specs.List.{flat_map}
use Rattle.std.proofs.lemmas.Bool.{and_parts, and_from, cond_both}
use Rattle.std.proofs.lemmas.Option.{option_and_then_some, same_Some, cond_some}
use Rattle.std.proofs.lemmas.Slice.Eq.{bytes_eq-Decides}
use Rattle.std.proofs.lemmas.List.{take-append-drop, length-take-le}
use Rattle.link_uri.specs.declared.heard.Reply.{Reply}
use Rattle.site_core.specs.declared.expected.Expected.{Expected}
use Rattle.site_core.specs.declared.expected.Expected.TheVariants.{First, Between, Named, Headed}
use Rattle.site_core.specs.declared.expected.Step.{Step}
use Rattle.site_core.specs.declared.expected.Step.TheVariants.{Misfit, Next, Finished, Body}
use Rattle.site_core.specs.declared.expected.Field.{Field}
use Rattle.site_core.specs.declared.expected.Field.TheVariants.{Media, Coding, Location, Size}
use Rattle.site_core.specs.Fields.{behind, is_lf, is_site_link, is_status, is_value, number_of}
use Rattle.site_core.specs.Lines.{bare, field_of, last_link, step, value_behind, with_field, with_link, with_status}
use Rattle.site_core.specs.Places.{Answer, Look, On, Reads, is_lf_at, look, look_behind, look_body, look_line, look_step, reads_end, reads_on}
use Rattle.site_core.specs.Text.{Entry, SiteText, block_text, comes_after, ended, head_text, is_reply, is_site_from, may_be_value, site_limit, site_text, value_line}
use Rattle.site_core.proofs.Ends.{split_line}
use Rattle.site_core.proofs.Numbers.{decimal-number}
use Rattle.site_core.proofs.Printed.{final_small}

-- ---- what has been read at a spot

abbrev pub printed : List Entry → Expected → List ℕ
printed done First = []
printed done Between = ended (codes "site 1") ++ flat_map block_text done
printed done (Named link) = (ended (codes "site 1") ++ flat_map block_text done) ++ ended (codes "link " ++ link)
printed done (Headed link reply) = (ended (codes "site 1") ++ flat_map block_text done) ++ (ended (codes "link " ++ link) ++ head_text reply)

abbrev pub Fits : List Entry → Expected → Type 0
Fits done First = done ≡ []
Fits done Between = is_site_from None done ≡ true
Fits done (Named link) = (is_site_from None done ≡ true) × (comes_after (last_link None done) link ≡ true) × (is_site_link link ≡ true)
Fits done (Headed link reply) = (is_site_from None done ≡ true) × (comes_after (last_link None done) link ≡ true) × (is_site_link link ≡ true) × (is_reply reply ≡ true)

-- ---- the parts of a line

pub behind_is : (word line rest : List ℕ) → behind word line ≡ Some rest → line ≡ word ++ rest
behind_is word line rest found =
    let parts = cond_some (bytes_eq (take (length word) line) word) (drop (length word) line) rest found in
    sym (take-append-drop (length word) line) ∙ ap (λ bs. bs ++ drop (length word) line) ((bytes_eq-Decides (take (length word) line) word).0 parts.0) ∙ ap (λ bs. word ++ bs) parts.1

map_some : {A B P : Type 0} (f : A → B) (o : Option A) (y : B) → option_map f o ≡ Some y → ((x : A) → o ≡ Some x → f x ≡ y → P) → P
map_some f None y found then_ = absurd cc
map_some f (Some x) y found then_ = then_ x refl (same_Some (f x) y found)

or_some : {A P : Type 0} (a b : Option A) (y : A) → option_or a b ≡ Some y → (a ≡ Some y → P) → (b ≡ Some y → P) → P
or_some None b y found left right = right found
or_some (Some x) b y found left right = left found

abbrev pub HasValue : List ℕ → List ℕ → List ℕ → Type 0
HasValue word line value = (line ≡ word ++ value) × (is_value value ≡ true)

abbrev pub HasSize : List ℕ → ℕ → Type 0
HasSize line n = (digits : List ℕ) × (line ≡ codes "body " ++ digits) × (number_of digits ≡ Some n)

abbrev pub HasField : List ℕ → Field → Type 0
HasField line (Media value) = HasValue (codes "type ") line value
HasField line (Coding value) = HasValue (codes "coding ") line value
HasField line (Location value) = HasValue (codes "location ") line value
HasField line (Size n) = HasSize line n

value_is : (word line value : List ℕ) → value_behind word line ≡ Some value → HasValue word line value
value_is word line value found =
    option_and_then_some (λ v. cond (is_value v) (Some v) None) (behind word line) value found
    (λ v at test. let parts = cond_some (is_value v) v value test in
    (behind_is word line v at ∙ ap (λ bs. word ++ bs) parts.1, (let P : List ℕ → Type 0 = λ bs. is_value bs ≡ true in subst P parts.1 parts.0)))

size_is : (line : List ℕ) (n : ℕ) → option_and_then number_of (behind (codes "body ") line) ≡ Some n → HasSize line n
size_is line n found =
    option_and_then_some number_of (behind (codes "body ") line) n found (λ digits at writes. (digits, behind_is (codes "body ") line digits at, writes))

at_field : (line : List ℕ) (f g : Field) → f ≡ g → HasField line f → HasField line g
at_field line f g e has = let P : Field → Type 0 = HasField line in subst P e has

pub field_is : (line : List ℕ) (f : Field) → field_of line ≡ Some f → HasField line f
field_is line f found =
    or_some _ _ f found
    (λ h. map_some Media _ f h (λ v at e. at_field line (Media v) f e (value_is (codes "type ") line v at)))
    (λ h. or_some _ _ f h
    (λ h. map_some Coding _ f h (λ v at e. at_field line (Coding v) f e (value_is (codes "coding ") line v at)))
    (λ h. or_some _ _ f h
    (λ h. map_some Location _ f h (λ v at e. at_field line (Location v) f e (value_is (codes "location ") line v at)))
    (λ h. map_some Size _ f h (λ n at e. at_field line (Size n) f e (size_is line n at)))))

-- ---- one line

-- what a line that is allowed adds to what has been read
abbrev pub StepSound : List Entry → Expected → List ℕ → Step → Type 0
StepSound done expected line Misfit = Unit {0}
StepSound done expected line (Next next) = Fits done next × (printed done next ≡ printed done expected ++ ended line)
StepSound done expected line Finished = (expected ≡ Between) × (line ≡ codes "end")
StepSound done expected line (Body link reply n) = (expected ≡ Headed link reply) × HasSize line n

first_sound : (done : List Entry) (line : List ℕ) → Fits done First → StepSound done First line (step done First line)
first_sound done line fits =
    cond_both (bytes_eq line (codes "site 1")) (Next Between) Misfit (StepSound done First line)
    (λ same. let e = (bytes_eq-Decides line (codes "site 1")).0 same in
    let P : List Entry → Type 0 = λ ds. (is_site_from None ds ≡ true) × (ended (codes "site 1") ++ flat_map block_text ds ≡ ended line) in
    subst P (sym fits) (refl, append-nil (ended (codes "site 1")) ∙ ap ended (sym e)))
    (λ _. tt)

link_sound : (done : List Entry) (line : List ℕ) → Fits done Between → (found : Option (List ℕ)) → behind (codes "link ") line ≡ found → StepSound done Between line (with_link done found)
link_sound done line fits None e = tt
link_sound done line fits (Some text) e =
    cond_both (comes_after (last_link None done) text && is_site_link text) (Next (Named text)) Misfit (StepSound done Between line)
    (λ h. let parts = and_parts (comes_after (last_link None done) text) (is_site_link text) h in
    ((fits, parts.0, parts.1), ap (λ bs. (ended (codes "site 1") ++ flat_map block_text done) ++ ended bs) (sym (behind_is (codes "link ") line text e))))
    (λ _. tt)

between_sound : (done : List Entry) (line : List ℕ) → Fits done Between → StepSound done Between line (step done Between line)
between_sound done line fits =
    cond_both (bytes_eq line (codes "end")) Finished (with_link done (behind (codes "link ") line)) (StepSound done Between line)
    (λ same. (refl, (bytes_eq-Decides line (codes "end")).0 same))
    (λ _. link_sound done line fits (behind (codes "link ") line) refl)

status_sound : (done : List Entry) (link line : List ℕ) → Fits done (Named link) → (found : Option ℕ) → option_and_then number_of (behind (codes "status ") line) ≡ found → StepSound done (Named link) line (with_status link found)
status_sound done link line fits None e = tt
status_sound done link line fits (Some n) e =
    cond_both (is_status n) (Next (Headed link (bare n))) Misfit (StepSound done (Named link) line)
    (λ valid. option_and_then_some number_of (behind (codes "status ") line) n e (λ digits at writes.
    let front = ended (codes "site 1") ++ flat_map block_text done in
    let names = ended (codes "link " ++ link) in
    let text : ended (codes "status " ++ decimal n) ≡ ended line = ap (λ bs. ended (codes "status " ++ bs)) (decimal-number digits n writes (final_small n valid)) ∙ ap ended (sym (behind_is (codes "status ") line digits at)) in (
      (fits.0, fits.1, fits.2, and_from (is_status n) true valid refl),
      ap (λ bs. front ++ (names ++ bs)) (append-nil (ended (codes "status " ++ decimal n)) ∙ text) ∙ sym (append_assoc front names (ended line)),
    )))
    (λ _. tt)

-- the head as its parts
abbrev pub head_of : ℕ → Option (List ℕ) → Option (List ℕ) → Option (List ℕ) → List ℕ
head_of n media coding location = ended (codes "status " ++ decimal n) ++ (value_line (codes "type ") media ++ (value_line (codes "coding ") coding ++ value_line (codes "location ") location))

regrouped : (s m t : List ℕ) → s ++ (m ++ (t ++ [])) ≡ (s ++ (m ++ [])) ++ t
regrouped s m t = simp (append_assoc, append-nil)

with_type : (n : ℕ) (media coding location : Option (List ℕ)) (value : List ℕ) → (is_none media && (is_none coding && is_none location)) ≡ true → head_of n (Some value) coding location ≡ head_of n media coding location ++ ended (codes "type " ++ value)
with_type n (Some x) coding location value h = absurd cc
with_type n None (Some x) location value h = absurd cc
with_type n None None (Some x) value h = absurd cc
with_type n None None None value h = regrouped (ended (codes "status " ++ decimal n)) [] (ended (codes "type " ++ value))

with_coding : (n : ℕ) (media coding location : Option (List ℕ)) (value : List ℕ) → (is_none coding && is_none location) ≡ true → head_of n media (Some value) location ≡ head_of n media coding location ++ ended (codes "coding " ++ value)
with_coding n media (Some x) location value h = absurd cc
with_coding n media None (Some x) value h = absurd cc
with_coding n media None None value h = regrouped (ended (codes "status " ++ decimal n)) (value_line (codes "type ") media) (ended (codes "coding " ++ value))

grouped : (s m c t : List ℕ) → s ++ (m ++ (c ++ t)) ≡ (s ++ (m ++ (c ++ []))) ++ t
grouped s m c t = simp (append_assoc, append-nil)

with_location : (n : ℕ) (media coding location : Option (List ℕ)) (value : List ℕ) → is_none location ≡ true → head_of n media coding (Some value) ≡ head_of n media coding location ++ ended (codes "location " ++ value)
with_location n media coding (Some x) value h = absurd cc
with_location n media coding None value h = grouped (ended (codes "status " ++ decimal n)) (value_line (codes "type ") media) (value_line (codes "coding ") coding) (ended (codes "location " ++ value))

longer_head : (front names head line : List ℕ) → front ++ (names ++ (head ++ line)) ≡ (front ++ (names ++ head)) ++ line
longer_head front names head line = simp append_assoc

-- a field's line ends a longer head
longer_text : (done : List Entry) (link line word value head longer : List ℕ) → line ≡ word ++ value → longer ≡ head ++ ended (word ++ value) → (ended (codes "site 1") ++ flat_map block_text done) ++ (ended (codes "link " ++ link) ++ longer) ≡ ((ended (codes "site 1") ++ flat_map block_text done) ++ (ended (codes "link " ++ link) ++ head)) ++ ended line
longer_text done link line word value head longer is e =
    let front = ended (codes "site 1") ++ flat_map block_text done in
    let names = ended (codes "link " ++ link) in
    ap (λ bs. front ++ (names ++ bs)) (e ∙ ap (λ bs. head ++ ended bs) (sym is)) ∙ longer_head front names head (ended line)

field_sound : (done : List Entry) (link line : List ℕ) (reply : Reply) → Fits done (Headed link reply) → (found : Option Field) → field_of line ≡ found → StepSound done (Headed link reply) line (with_field link reply found)
field_sound done link line reply fits None e = tt
field_sound done link line reply fits (Some (Media value)) e =
    let field = field_is line (Media value) e in
    let status = and_parts (is_status reply.status) (may_be_value reply.media && (may_be_value reply.coding && may_be_value reply.location)) fits.3 in
    let values = and_parts (may_be_value reply.media) (may_be_value reply.coding && may_be_value reply.location) status.1 in
    cond_both (is_none reply.media && (is_none reply.coding && is_none reply.location)) (Next (Headed link (record reply { media = Some value }))) Misfit (StepSound done (Headed link reply) line)
    (λ free. (
      (fits.0, fits.1, fits.2, and_from (is_status reply.status) (is_value value && (may_be_value reply.coding && may_be_value reply.location)) status.0 (and_from (is_value value) (may_be_value reply.coding && may_be_value reply.location) field.1 values.1)),
      longer_text done link line (codes "type ") value (head_text reply) (head_text (record reply { media = Some value })) field.0 (with_type reply.status reply.media reply.coding reply.location value free),
    ))
    (λ _. tt)
field_sound done link line reply fits (Some (Coding value)) e =
    let field = field_is line (Coding value) e in
    let status = and_parts (is_status reply.status) (may_be_value reply.media && (may_be_value reply.coding && may_be_value reply.location)) fits.3 in
    let values = and_parts (may_be_value reply.media) (may_be_value reply.coding && may_be_value reply.location) status.1 in
    let last = and_parts (may_be_value reply.coding) (may_be_value reply.location) values.1 in
    cond_both (is_none reply.coding && is_none reply.location) (Next (Headed link (record reply { coding = Some value }))) Misfit (StepSound done (Headed link reply) line)
    (λ free. (
      (fits.0, fits.1, fits.2, and_from (is_status reply.status) (may_be_value reply.media && (is_value value && may_be_value reply.location)) status.0 (and_from (may_be_value reply.media) (is_value value && may_be_value reply.location) values.0 (and_from (is_value value) (may_be_value reply.location) field.1 last.1))),
      longer_text done link line (codes "coding ") value (head_text reply) (head_text (record reply { coding = Some value })) field.0 (with_coding reply.status reply.media reply.coding reply.location value free),
    ))
    (λ _. tt)
field_sound done link line reply fits (Some (Location value)) e =
    let field = field_is line (Location value) e in
    let status = and_parts (is_status reply.status) (may_be_value reply.media && (may_be_value reply.coding && may_be_value reply.location)) fits.3 in
    let values = and_parts (may_be_value reply.media) (may_be_value reply.coding && may_be_value reply.location) status.1 in
    let last = and_parts (may_be_value reply.coding) (may_be_value reply.location) values.1 in
    cond_both (is_none reply.location) (Next (Headed link (record reply { location = Some value }))) Misfit (StepSound done (Headed link reply) line)
    (λ free. (
      (fits.0, fits.1, fits.2, and_from (is_status reply.status) (may_be_value reply.media && (may_be_value reply.coding && is_value value)) status.0 (and_from (may_be_value reply.media) (may_be_value reply.coding && is_value value) values.0 (and_from (may_be_value reply.coding) (is_value value) last.0 field.1))),
      longer_text done link line (codes "location ") value (head_text reply) (head_text (record reply { location = Some value })) field.0 (with_location reply.status reply.media reply.coding reply.location value free),
    ))
    (λ _. tt)
field_sound done link line reply fits (Some (Size n)) e = (refl, field_is line (Size n) e)

step_sound : (done : List Entry) (expected : Expected) (line : List ℕ) → Fits done expected → StepSound done expected line (step done expected line)
step_sound done First line fits = first_sound done line fits
step_sound done Between line fits = between_sound done line fits
step_sound done (Named link) line fits = status_sound done link line fits (option_and_then number_of (behind (codes "status ") line)) refl
step_sound done (Headed link reply) line fits = field_sound done link line reply fits (field_of line) refl

-- ---- one look

-- a body with its end, and the rest
body_split : (more : List ℕ) (n : ℕ) → is_lf_at more n ≡ true → (n < length more) × (more ≡ take n more ++ 10 ∷ drop (suc n) more)
body_split [] n h = absurd cc
body_split (b ∷ more) zero h =
    let lf : b ≡ 10 = search (rules, h) in
    (omega arith, ap (λ x. x ∷ more) lf)
body_split (b ∷ more) (suc n) h = let later = body_split more n h in (omega (arith, later.0), ap (λ bs. b ∷ bs) later.1)

site-push : (before : Option (List ℕ)) (done : List Entry) (e : Entry) → is_site_from before done ≡ true → comes_after (last_link before done) e.0 ≡ true → is_site_link e.0 ≡ true → is_reply e.1 ≡ true → is_site_from before (done ++ e ∷ []) ≡ true
site-push before [] e site after link reply =
    and_from (comes_after before e.0 && (is_site_link e.0 && is_reply e.1)) true (and_from (comes_after before e.0) (is_site_link e.0 && is_reply e.1) after (and_from (is_site_link e.0) (is_reply e.1) link reply)) refl
site-push before (d ∷ done) e site after link reply =
    let parts = and_parts (comes_after before d.0 && (is_site_link d.0 && is_reply d.1)) (is_site_from (Some d.0) done) site in
    and_from (comes_after before d.0 && (is_site_link d.0 && is_reply d.1)) (is_site_from (Some d.0) (done ++ e ∷ [])) parts.0 (site-push (Some d.0) done e parts.1 after link reply)

blocks-push : (done : List Entry) (e : Entry) → flat_map block_text (done ++ e ∷ []) ≡ flat_map block_text done ++ block_text e
blocks-push [] e = append-nil (block_text e)
blocks-push (d ∷ done) e = ap (λ bs. block_text d ++ bs) (blocks-push done e) ∙ sym (append_assoc (block_text d) (flat_map block_text done) (block_text e))

-- what a look adds to what has been read; bytes that are a whole site are its text
abbrev pub LookSound : List Entry → Expected → List ℕ → Look → Type 0
LookSound done expected rest (Answer (Ok es)) = (is_site_from None es ≡ true) × (printed done expected ++ rest ≡ site_text es)
LookSound done expected rest (Answer (Err place)) = Unit {0}
LookSound done expected rest (On done' spot' at' rest') = Fits done' spot' × (printed done expected ++ rest ≡ printed done' spot' ++ rest') × (length rest' ≤ length rest)

end_sound : (done : List Entry) (expected : Expected) (line more rest : List ℕ) (at : ℕ) → rest ≡ line ++ 10 ∷ more → Fits done expected → StepSound done expected line Finished → LookSound done expected rest (look_behind done at more)
end_sound done expected line (b ∷ more) rest at split fits last = tt
end_sound done expected line [] rest at split fits last =
    let P : Expected → Type 0 = λ s. Fits done s in
    let front = ended (codes "site 1") in (
      subst P last.0 fits,
      ap (λ s. printed done s ++ rest) last.0 ∙ ap (λ bs. (front ++ flat_map block_text done) ++ bs) (split ∙ ap ended last.1) ∙ append_assoc front (flat_map block_text done) (ended (codes "end")),
    )

block_grown : (front blocks names head size body more : List ℕ) → ((front ++ blocks) ++ (names ++ head)) ++ (size ++ (body ++ more)) ≡ (front ++ (blocks ++ (names ++ (head ++ (size ++ body))))) ++ more
block_grown front blocks names head size body more = simp append_assoc

body_sound : (done : List Entry) (expected : Expected) (line more rest link : List ℕ) (reply : Reply) (n line_at at : ℕ) → length more < 2 ^ 64 → length more ≤ length rest → rest ≡ line ++ 10 ∷ more → Fits done expected → StepSound done expected line (Body link reply n) → LookSound done expected rest (look_body done line_at at more link reply n)
body_sound done expected line more rest link reply n line_at at small shorter split fits last =
    let body = take n more in
    let after = drop (suc n) more in
    let e : Entry = (link, record reply { body = body }) in
    let front = ended (codes "site 1") in
    let blocks = flat_map block_text done in
    let names = ended (codes "link " ++ link) in
    let head = head_text reply in
    let size = ended (codes "body " ++ decimal (length body)) in
    let F : Expected → Type 0 = Fits done in
    let open_fits : Fits done (Headed link reply) = subst F last.0 fits in
    cond_both (is_lf_at more n) (On (done ++ e ∷ []) Between (at + suc n) after) (Answer (Err line_at)) (LookSound done expected rest)
    (λ lf.
    let parts = body_split more n lf in
    let counted : decimal (length body) ≡ last.1.0 = ap decimal (length-take-le n more (omega (arith, parts.0))) ∙ decimal-number last.1.0 n last.1.2 (omega (arith, parts.0)) in
    let same_line : line ≡ codes "body " ++ decimal (length body) = last.1.1 ∙ ap (λ bs. codes "body " ++ bs) (sym counted) in
    let text : rest ≡ size ++ (ended body ++ after) =
    split ∙ sym (append_assoc line (10 ∷ []) more) ∙ ap (λ bs. ended bs ++ more) same_line
    ∙ ap (λ bs. size ++ bs) (parts.1 ∙ sym (append_assoc body (10 ∷ []) after)) in
    let whole : printed done expected ++ rest ≡ printed (done ++ e ∷ []) Between ++ after =
    ap (λ s. printed done s ++ rest) last.0 ∙ ap (λ bs. ((front ++ blocks) ++ (names ++ head)) ++ bs) text
    ∙ block_grown front blocks names head size (ended body) after
    ∙ ap (λ bs. (front ++ bs) ++ after) (sym (blocks-push done e)) in
    (site-push None done e open_fits.0 open_fits.1 open_fits.2 open_fits.3, whole, omega (arith, length-drop (suc n) more)))
    (λ _. tt)

line_sound : (done : List Entry) (expected : Expected) (rest : List ℕ) (at n : ℕ) → length rest < 2 ^ 64 → Fits done expected → position is_lf rest ≡ Some n → (s : Step) → StepSound done expected (take n rest) s → LookSound done expected rest (look_step done at (at + suc n) (drop (suc n) rest) s)
line_sound done expected rest at n small fits found Misfit sound = tt
line_sound done expected rest at n small fits found (Next next) sound =
    let split = split_line rest n found in
    let line = take n rest in
    let more = drop (suc n) rest in (
      sound.0,
      ap (λ bs. printed done expected ++ bs) (split.1 ∙ sym (append_assoc line (10 ∷ []) more)) ∙ sym (append_assoc (printed done expected) (ended line) more) ∙ ap (λ bs. bs ++ more) (sym sound.1),
      omega (arith, length-drop (suc n) rest),
    )
line_sound done expected rest at n small fits found Finished sound = end_sound done expected (take n rest) (drop (suc n) rest) rest (at + suc n) (split_line rest n found).1 fits sound
line_sound done expected rest at n small fits found (Body link reply m) sound =
    let shorter : length (drop (suc n) rest) ≤ length rest = omega (arith, length-drop (suc n) rest) in
    body_sound done expected (take n rest) (drop (suc n) rest) rest link reply m at (at + suc n) (omega (arith, shorter)) shorter (split_line rest n found).1 fits sound

look_line_sound : (done : List Entry) (expected : Expected) (at : ℕ) (rest : List ℕ) → length rest < 2 ^ 64 → Fits done expected → (found : Option ℕ) → position is_lf rest ≡ found → LookSound done expected rest (look_line done expected at rest found)
look_line_sound done expected at rest small fits None e = tt
look_line_sound done expected at rest small fits (Some n) e = line_sound done expected rest at n small fits e (step done expected (take n rest)) (step_sound done expected (take n rest) fits)

pub look_sound : (done : List Entry) (expected : Expected) (at : ℕ) (rest : List ℕ) → length rest < 2 ^ 64 → Fits done expected → LookSound done expected rest (look done expected at rest)
look_sound done expected at rest small fits = look_line_sound done expected at rest small fits (position is_lf rest) refl

-- what is read stays a site
pub fits_on : (done new : List Entry) (expected next : Expected) (at place : ℕ) (rest more : List ℕ) → length rest < 2 ^ 64 → Fits done expected → look done expected at rest ≡ On new next place more → Fits new next
fits_on done new expected next at place rest more small fits found =
    let P : Look → Type 0 = LookSound done expected rest in
    let sound : LookSound done expected rest (On new next place more) = subst P found (look_sound done expected at rest small fits) in
    sound.0

pub fits_site : (done : List Entry) (expected : Expected) → Fits done expected → is_site_from None done ≡ true
fits_site done First fits = let P : List Entry → Type 0 = λ ds. is_site_from None ds ≡ true in subst P (sym fits) refl
fits_site done Between fits = fits
fits_site done (Named link) fits = fits.0
fits_site done (Headed link reply) fits = fits.0

-- ---- all lines

reads_sound : {done : List Entry} {expected : Expected} {at : ℕ} {rest : List ℕ} {answer : Result (List Entry) ℕ} → Reads done expected at rest answer → length rest < 2 ^ 64 → Fits done expected → (es : List Entry) → answer ≡ Ok es → (is_site_from None es ≡ true) × (printed done expected ++ rest ≡ site_text es)
reads_sound {done} {expected} {at} {rest} {answer} (reads_end e) small fits es is =
    let P : Look → Type 0 = LookSound done expected rest in
    subst P (e ∙ ap Answer is) (look_sound done expected at rest small fits)
reads_sound {done} {expected} {at} {rest} {answer} (reads_on {done'} {spot'} {at'} {rest'} e reads) small fits es is =
    let P : Look → Type 0 = LookSound done expected rest in
    let here : LookSound done expected rest (On done' spot' at' rest') = subst P e (look_sound done expected at rest small fits) in
    let later = reads_sound reads (omega (arith, here.2)) here.0 es is in
    (later.0, here.1 ∙ later.1)

-- what is read as a site is the text of that site
pub site_from_reads : (bytes : List ℕ) (es : List Entry) → Reads [] First 0 bytes (Ok es) → length bytes ≤ site_limit → SiteText es bytes
site_from_reads bytes es reads within =
    let sound = reads_sound reads (omega arith) refl es refl in
    record { site = sound.0; text = sound.1; within = within }
