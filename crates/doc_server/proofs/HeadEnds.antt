-- Bytes that hold the end of a head hold the whole head, whatever follows.
use Rattle.std.proofs.Common.{◌≡◌, ℕ, zero, suc, ◌+◌, ◌<◌, ◌≤◌, Bool, true, false, List, [], ◌∷◌, ◌++◌, length, take, drop, refl, sym, ap, ◌∙◌, subst, arith, append_assoc, length-append, inl, inr, ⊎_elim}
use Rattle.std.specs.Prelude.{◌⊎◌, ◌==◌, All, IsTrue, flat_map}
use Rattle.std.proofs.lemmas.Bool.Decides.{nat_tests}
use Rattle.std.proofs.lemmas.List.{take-append-drop, take-append-le, take_at}
use Rattle.std.proofs.lemmas.List.Elements.{All-head, All-tail}
use Rattle.httparse.specs.Grammar as grammar
use Rattle.httparse.specs.Grammar.{LineEnd, crlf, lf, print_end, print_blank, print_version, Field, IsField, print_field, RequestHead, IsRequestHead, print_request, ReadsRequest, is_token_byte, is_uri_byte, is_value_byte}
use Rattle.doc_server.specs.declared.head_end.Place.{Place}
use Rattle.doc_server.specs.declared.head_end.Place.TheVariants.{Blank, BlankCr, Front, AfterCr, Inside, Ended}
use Rattle.doc_server.specs.HeadEnd.{next_place, place_after}

-- ---- places

pub place_after-append : (p : Place) (xs ys : List ℕ) → place_after p (xs ++ ys) ≡ place_after (place_after p xs) ys
place_after-append p [] ys = refl
place_after-append p (b ∷ bs) ys = place_after-append (next_place p b) bs ys

ended_stays : (bs : List ℕ) → place_after Ended bs ≡ Ended
ended_stays [] = refl
ended_stays (b ∷ bs) = ended_stays bs

joined : (p q r : Place) (xs ys : List ℕ) → place_after p xs ≡ q → place_after q ys ≡ r → place_after p (xs ++ ys) ≡ r
joined p q r xs ys a b = place_after-append p xs ys ∙ ap (λ s. place_after s ys) a ∙ b

-- one piece further
pub moved : (place next : Place) (bytes piece : List ℕ) → place ≡ place_after Blank bytes → next ≡ place_after place piece → next ≡ place_after Blank (bytes ++ piece)
moved place next bytes piece e f = f ∙ ap (λ p. place_after p piece) e ∙ sym (place_after-append Blank bytes piece)

-- ---- lines

-- no byte is LF
NoLf : List ℕ → Type 0
NoLf [] = Unit {0}
NoLf (b ∷ bs) = ((b == 10) ≡ false) × NoLf bs

inside : (bs : List ℕ) → NoLf bs → place_after Inside bs ≡ Inside
unfolding NoLf
inside [] ok = refl
inside (b ∷ bs) ok = rw ok.0 (inside bs ok.1)

no_lf_append : (xs ys : List ℕ) → NoLf xs → NoLf ys → NoLf (xs ++ ys)
unfolding NoLf
no_lf_append [] ys a b = b
no_lf_append (x ∷ xs) ys a b = (a.0, no_lf_append xs ys a.1 b)

line_ended : (e : LineEnd) → place_after Inside (print_end e) ≡ Front
line_ended crlf = refl
line_ended lf = refl

-- a place at the front of a line, of the head or before it
abbrev AtFront : Place → Type 0
AtFront p = (b : ℕ) → (b == 10) ≡ false → (b == 13) ≡ false → next_place p b ≡ Inside

blank_front : AtFront Blank
blank_front b n10 n13 = rw (n10, n13) refl

head_front : AtFront Front
head_front b n10 n13 = rw (n10, n13) refl

-- a line that begins with a byte other than CR and LF
line : (p : Place) (b : ℕ) (bs : List ℕ) (e : LineEnd) → AtFront p → (b == 10) ≡ false → (b == 13) ≡ false → NoLf bs → place_after p ((b ∷ bs) ++ print_end e) ≡ Front
line p b bs e front n10 n13 ok =
    let text : place_after p (b ∷ bs) ≡ Inside = ap (λ q. place_after q bs) (front b n10 n13) ∙ inside bs ok in
    joined p Inside Front (b ∷ bs) (print_end e) text (line_ended e)

not_byte : (test : ℕ → Bool) (b c : ℕ) → test c ≡ false → IsTrue (test b) → (b == c) ≡ false
not_byte test b c bad ok =
    elim (b == c) as (λ t. (b == c) ≡ t → (b == c) ≡ false) [
      | true ↦ λ e. let same : b ≡ c = grind (arith, nat_tests) in let wrong : IsTrue false = subst IsTrue (ap test same ∙ bad) ok in absurd (cc wrong)
      | false ↦ λ e. e
    ] refl

-- what passes a test that LF does not pass
no_lf_all : (test : ℕ → Bool) (bs : List ℕ) → test 10 ≡ false → All (λ b. IsTrue (test b)) bs → NoLf bs
unfolding NoLf
no_lf_all test [] bad all = tt
no_lf_all test (b ∷ bs) bad all = (not_byte test b 10 bad (All-head (λ b. IsTrue (test b)) b bs all), no_lf_all test bs bad (All-tail (λ b. IsTrue (test b)) b bs all))

no_lf_token : (bs : List ℕ) → All (λ b. IsTrue (is_token_byte b)) bs → NoLf bs
unfolding is_token_byte
no_lf_token bs all = no_lf_all is_token_byte bs refl all

token_10 : is_token_byte 10 ≡ false
unfolding is_token_byte
token_10 = refl

token_13 : is_token_byte 13 ≡ false
unfolding is_token_byte
token_13 = refl

-- a line that begins with a token
token_line : (p : Place) (name more : List ℕ) (e : LineEnd) → AtFront p → grammar.IsToken name → NoLf more → place_after p ((name ++ more) ++ print_end e) ≡ Front
token_line p [] more e front token ok = absurd (omega (arith, token.0))
token_line p (b ∷ bs) more e front token ok =
    let first : IsTrue (is_token_byte b) = All-head (λ b. IsTrue (is_token_byte b)) b bs token.1 in
    let rest : NoLf (bs ++ more) = no_lf_append bs more (no_lf_token bs (All-tail (λ b. IsTrue (is_token_byte b)) b bs token.1)) ok in
    line p b (bs ++ more) e front (not_byte is_token_byte b 10 token_10 first) (not_byte is_token_byte b 13 token_13 first) rest

-- ---- the parts of a head

blanks : (ends : List LineEnd) → place_after Blank (print_blank ends) ≡ Blank
blanks [] = refl
blanks (crlf ∷ ends) = blanks ends
blanks (lf ∷ ends) = blanks ends

field : (f : Field) → IsField f → place_after Front (print_field f) ≡ Front
unfolding NoLf
field f is =
    let text : print_field f ≡ (f.name ++ (58 ∷ f.raw)) ++ print_end f.end = simp append_assoc in
    ap (place_after Front) text ∙ token_line Front f.name (58 ∷ f.raw) f.end head_front is.name (refl, no_lf_all is_value_byte f.raw refl is.raw)

fields : (fs : List Field) → All IsField fs → place_after Front (flat_map print_field fs) ≡ Front
fields [] all = refl
fields (f ∷ fs) all =
    joined Front Front Front (print_field f) (flat_map print_field fs) (field f (All-head IsField f fs all)) (fields fs (All-tail IsField f fs all))

-- the request line behind the method
target_text : RequestHead → List ℕ
target_text h = 32 ∷ (h.target ++ (32 ∷ print_version h.minor))

no_lf_target : (h : RequestHead) → IsRequestHead h → NoLf (target_text h)
unfolding NoLf target_text
no_lf_target h is =
    let minor : ((48 + h.minor) == 10) ≡ false = let small = is.minor in grind (arith, nat_tests) in (
      refl,
      no_lf_append h.target (32 ∷ print_version h.minor) (no_lf_all is_uri_byte h.target refl is.target.1)
          (refl, (refl, (refl, (refl, (refl, (refl, (refl, (refl, (minor, tt))))))))),
    )

-- a line end without its LF
cut_end : LineEnd → List ℕ
cut_end crlf = 13 ∷ []
cut_end lf = []

cut_again : (e : LineEnd) → print_end e ≡ cut_end e ++ 10 ∷ []
unfolding cut_end
cut_again crlf = refl
cut_again lf = refl

still_open : (e : LineEnd) → place_after Front (cut_end e) ≡ Ended → ⊥
unfolding cut_end
still_open crlf e = absurd cc
still_open lf e = absurd cc

-- a head without the LF at its end
cut_head : RequestHead → List ℕ
cut_head h = (print_blank h.blank ++ (((h.method ++ target_text h) ++ print_end h.line_end) ++ flat_map print_field h.fields)) ++ cut_end h.last

regroup : (a b t v e f c : List ℕ) → (x : ℕ) → (a ++ (((b ++ (32 ∷ (t ++ (32 ∷ v)))) ++ e) ++ f)) ++ (c ++ x ∷ []) ≡ ((a ++ (((b ++ (32 ∷ (t ++ (32 ∷ v)))) ++ e) ++ f)) ++ c) ++ x ∷ []
regroup a b t v e f c x = sym (append_assoc (a ++ (((b ++ (32 ∷ (t ++ (32 ∷ v)))) ++ e) ++ f)) c (x ∷ []))

cons-append : (x : ℕ) (a b : List ℕ) → (x ∷ a) ++ b ≡ x ∷ (a ++ b)
cons-append x a b = refl

flat : (a b t v e f l : List ℕ) → a ++ b ++ 32 ∷ t ++ 32 ∷ v ++ e ++ (f ++ l) ≡ (a ++ (((b ++ (32 ∷ (t ++ (32 ∷ v)))) ++ e) ++ f)) ++ l
flat a b t v e f l = simp (append_assoc, cons-append)

printed : (h : RequestHead) → print_request h ≡ cut_head h ++ 10 ∷ []
unfolding print_request cut_head target_text
printed h =
    flat (print_blank h.blank) h.method h.target (print_version h.minor) (print_end h.line_end) (flat_map print_field h.fields) (print_end h.last)
    ∙ ap (λ l. (print_blank h.blank ++ (((h.method ++ (32 ∷ (h.target ++ (32 ∷ print_version h.minor)))) ++ print_end h.line_end) ++ flat_map print_field h.fields)) ++ l) (cut_again h.last)
    ∙ regroup (print_blank h.blank) h.method h.target (print_version h.minor) (print_end h.line_end) (flat_map print_field h.fields) (cut_end h.last) 10

cut_open : (h : RequestHead) → IsRequestHead h → place_after Blank (cut_head h) ≡ Ended → ⊥
unfolding cut_head
cut_open h is e =
    let first = token_line Blank h.method (target_text h) h.line_end blank_front is.method (no_lf_target h is) in
    let lines = joined Blank Front Front ((h.method ++ target_text h) ++ print_end h.line_end) (flat_map print_field h.fields) first (fields h.fields is.fields) in
    let all : place_after Blank (print_blank h.blank ++ (((h.method ++ target_text h) ++ print_end h.line_end) ++ flat_map print_field h.fields)) ≡ Front =
    joined Blank Blank Front (print_blank h.blank) (((h.method ++ target_text h) ++ print_end h.line_end) ++ flat_map print_field h.fields) (blanks h.blank) lines in
    still_open h.last (ap (λ p. place_after p (cut_end h.last)) (sym all) ∙ sym (place_after-append Blank (print_blank h.blank ++ (((h.method ++ target_text h) ++ print_end h.line_end) ++ flat_map print_field h.fields)) (cut_end h.last)) ∙ e)

-- ---- a head within bytes that hold an end

-- a beginning of bytes that are not ended is not ended
front_open : (n : ℕ) (bytes : List ℕ) → (place_after Blank bytes ≡ Ended → ⊥) → place_after Blank (take n bytes) ≡ Ended → ⊥
front_open n bytes opened e =
    opened (ap (place_after Blank) (sym (take-append-drop n bytes)) ∙ place_after-append Blank (take n bytes) (drop n bytes) ∙ ap (λ p. place_after p (drop n bytes)) e ∙ ended_stays (drop n bytes))

few : (n m : ℕ) → (n ≤ m) ⊎ (m < n)
few zero m = inl (omega arith)
few (suc n) zero = inr (omega arith)
few (suc n) (suc m) = ⊎_elim (λ a. inl (omega (arith, a))) (λ b. inr (omega (arith, b))) (few n m)

fronts : (whole rest bytes more : List ℕ) → bytes ++ more ≡ whole ++ rest → length whole ≤ length bytes → bytes ≡ whole ++ drop (length whole) bytes
fronts whole rest bytes more same fits =
    let front : take (length whole) bytes ≡ whole =
    sym (take-append-le (length whole) bytes more fits) ∙ ap (take (length whole)) same ∙ take_at whole rest (length whole) refl in
    sym (take-append-drop (length whole) bytes) ∙ ap (λ l. l ++ drop (length whole) bytes) front

shorter : (cut bytes more rest : List ℕ) → bytes ++ more ≡ (cut ++ 10 ∷ []) ++ rest → length bytes < length (cut ++ 10 ∷ []) → bytes ≡ take (length bytes) cut
shorter cut bytes more rest same less =
    let within : length bytes ≤ length cut = let size = length-append cut (10 ∷ []) in omega (arith, size, less) in
    sym (take_at bytes more (length bytes) refl) ∙ ap (take (length bytes)) same
    ∙ ap (take (length bytes)) (append_assoc cut (10 ∷ []) rest) ∙ take-append-le (length bytes) cut (10 ∷ rest) within

-- where an end stands in the bytes, a head that they begin with once more follows is in them
pub begins_within : (bytes more : List ℕ) (h : RequestHead) (rest : List ℕ) → place_after Blank bytes ≡ Ended → ReadsRequest (bytes ++ more) h rest
    → (left : List ℕ) × ReadsRequest bytes h left
begins_within bytes more h rest ended reads =
    let whole = print_request h in
    ⊎_elim
    (λ fits. (drop (length whole) bytes, (reads.0, fronts whole rest bytes more reads.1 fits)))
    (λ less.
    let cut : bytes ≡ take (length bytes) (cut_head h) =
    shorter (cut_head h) bytes more rest (reads.1 ∙ ap (λ l. l ++ rest) (printed h)) (subst (λ l. length bytes < length l) (printed h) less) in
    absurd (front_open (length bytes) (cut_head h) (cut_open h reads.0) (ap (place_after Blank) (sym cut) ∙ ended)))
    (few (length whole) (length bytes))
