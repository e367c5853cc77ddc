-- Whether bytes are a response head is decided, so each list of bytes has a reading.
use Rattle.std.proofs.Common.{◌≡◌, ℕ, zero, suc, ◌<◌, ◌≤◌, Bool, true, false, List, [], ◌∷◌, ◌++◌, length, take, drop, refl, sym, ap, ◌∙◌, subst, arith, append_assoc, length-append, length-drop, inl, inr, ⊎_elim, Option, Some, None}
use Rattle.std.specs.Prelude.{◌⊎◌, ◌==◌, flat_map}
use Rattle.std.specs.Char.{is_ascii_digit}
use Rattle.std.proofs.lemmas.Bool.Decides.{nat_tests}
use Rattle.std.proofs.lemmas.List.Elements.{All-head, All-tail, All-cons, All-nil}
use Rattle.httparse.specs.Grammar.{AllPass, LineEnd, crlf, lf, print_end, print_blank, print_version, Field, print_field, IsField, ResponseHead, ReadsResponse, is_token_byte, is_value_byte}
use Rattle.httparse.specs.Pieces.{Piece, Begins, Then, Stops, is_newline, Bytes, Newline, Blank, Word, Version, Digit, Code, Text, Reason, FieldLine, Section, ResponseStart}
use Rattle.httparse.proofs.PieceLemmas.{IsDeterministic, Bytes_deterministic, Blank_deterministic, Version_deterministic, Digit_deterministic, Code_deterministic, Name_deterministic, FieldLine_deterministic, ResponseStart_deterministic, print_end_unique, newline_not_stopped, FieldLine_parts, print_field-append}
use Rattle.httparse.proofs.GrammarLemmas.{response_head, response_pieces, response_from_pieces, response_unique}
use Rattle.http_message.specs.declared.lines.Place.TheVariants.{Front}
use Rattle.http_message.specs.Heads.{IsHead, max_fields}
use Rattle.http_message.specs.Facts.{is_interim}
use Rattle.http_message.specs.Lines.{end_from, skip_from}
use Rattle.http_message.specs.Body.{Progress}
use Rattle.http_message.specs.Reading.{Found, waiting, no_head, final_head, Finds, Reads, head_limit, progress_after}
use Rattle.http_message.proofs.LineLemmas.{end_within}

-- ---- pieces

-- the text begins with the piece, or it doesn't
abbrev pub Decided : {A : Type 0} → Piece A → List ℕ → Type 0
Decided {A} G text = Begins G text ⊎ (Begins G text → ⊥)

pub then_decided : {A B : Type 0} (G : Piece A) (H : Piece B) → IsDeterministic G → ((t : List ℕ) → Decided G t) → ((t : List ℕ) → Decided H t) → (text : List ℕ) → Decided (Then G H) text
then_decided G H det first second text =
    ⊎_elim
    (λ x. ⊎_elim
    (λ y. inl ((x.0, y.0), y.1, (x.1, x.2, y.2)))
    (λ none. inr (λ z. none (z.0.1, z.1, subst (λ (m : List ℕ). H z.0.1 m z.1) (det.unique z.0.0 x.0 text z.2.0 x.1 z.2.1 x.2).1 z.2.2)))
    (second x.1))
    (λ none. inr (λ z. none (z.0.0, z.2.0, z.2.1)))
    (first text)

same_byte : (a b : ℕ) → (a == b) ≡ true → a ≡ b
same_byte a b e = grind (arith, nat_tests)

other_byte : (a b : ℕ) → (a == b) ≡ false → a ≡ b → ⊥
other_byte a b e = grind (arith, nat_tests)

-- the text begins with these bytes, or it doesn't
abbrev Fronted : List ℕ → List ℕ → Type 0
Fronted bytes text = ((rest : List ℕ) × (text ≡ bytes ++ rest)) ⊎ ((rest : List ℕ) → text ≡ bytes ++ rest → ⊥)

fronted : (bytes text : List ℕ) → Fronted bytes text
fronted [] text = inl (text, refl)
fronted (b ∷ bytes) [] = inr (λ rest e. absurd cc)
fronted (b ∷ bytes) (c ∷ text) =
    elim (c == b) as (λ t. (c == b) ≡ t → Fronted (b ∷ bytes) (c ∷ text)) [
      | true ↦ λ e. let same = same_byte c b e in
          ⊎_elim (λ x. inl (x.0, rw (same, x.1) refl)) (λ none. inr (λ rest all. none rest cc)) (fronted bytes text)
      | false ↦ λ e. inr (λ rest all. other_byte c b e cc)
    ] refl

no_newline : (end : LineEnd) (text rest : List ℕ) → ((r : List ℕ) → text ≡ print_end crlf ++ r → ⊥) → ((r : List ℕ) → text ≡ print_end lf ++ r → ⊥) → text ≡ print_end end ++ rest → ⊥
no_newline crlf text rest a b e = a rest e
no_newline lf text rest a b e = b rest e

pub newline_decided : (text : List ℕ) → Decided Newline text
newline_decided text =
    ⊎_elim
    (λ x. inl (crlf, x.0, x.1))
    (λ a. ⊎_elim (λ x. inl (lf, x.0, x.1)) (λ b. inr (λ z. no_newline z.0 text z.1 a b z.2)) (fronted (print_end lf) text))
    (fronted (print_end crlf) text)

bytes_decided : (bytes text : List ℕ) → Decided (Bytes bytes) text
bytes_decided bytes text = ⊎_elim (λ x. inl (tt, x.0, x.1)) (λ none. inr (λ z. none z.1 z.2)) (fronted bytes text)

other_version : (minor : ℕ) (text rest : List ℕ) → minor ≤ 1 → ((r : List ℕ) → text ≡ print_version 0 ++ r → ⊥) → ((r : List ℕ) → text ≡ print_version 1 ++ r → ⊥) → text ≡ print_version minor ++ rest → ⊥
other_version zero text rest small a b e = a rest e
other_version (suc zero) text rest small a b e = b rest e
other_version (suc (suc n)) text rest small a b e = absurd (omega (arith, small))

pub version_decided : (text : List ℕ) → Decided Version text
version_decided text =
    ⊎_elim
    (λ x. inl (0, x.0, (omega arith, x.1)))
    (λ a. ⊎_elim (λ x. inl (1, x.0, (omega arith, x.1))) (λ b. inr (λ z. other_version z.0 text z.1 z.2.0 a b z.2.1)) (fronted (print_version 1) text))
    (fronted (print_version 0) text)

digit_decided : (text : List ℕ) → Decided Digit text
digit_decided [] = inr (λ z. let e = z.2.1 in absurd cc)
digit_decided (d ∷ text) =
    elim (is_ascii_digit d) as (λ t. is_ascii_digit d ≡ t → Decided Digit (d ∷ text)) [
      | true ↦ λ e. inl (d, text, (e, refl))
      | false ↦ λ e. inr (λ z. let yes = z.2.0 in let all = z.2.1 in let same : d ≡ z.0 = cc in absurd (let wrong : is_ascii_digit d ≡ true = ap is_ascii_digit same ∙ yes in cc))
    ] refl

-- the empty lines at the front
no_blank : (ends : List LineEnd) (text rest : List ℕ) → (Begins Newline text → ⊥) → text ≡ print_blank ends ++ rest → (Stops is_newline text → ⊥) → Stops is_newline rest → ⊥
no_blank [] text rest none e stop stops = stop (subst (Stops is_newline) (sym e) stops)
no_blank (x ∷ ends) text rest none e stop stops = none (x, print_blank ends ++ rest, e ∙ append_assoc (print_end x) (print_blank ends) rest)

no_more_blank : (end : LineEnd) (ends : List LineEnd) (text rest after : List ℕ) → text ≡ print_end end ++ after → (Begins Blank after → ⊥) → text ≡ print_blank ends ++ rest → Stops is_newline rest → ⊥
no_more_blank end [] text rest after e none all stops = newline_not_stopped end after rest (sym e ∙ all) stops
no_more_blank end (x ∷ ends) text rest after e none all stops =
    let same = print_end_unique x end (print_blank ends ++ rest) after (sym (append_assoc (print_end x) (print_blank ends) rest) ∙ sym all ∙ e) in
    none (ends, rest, (sym same.1, stops))

shorter : (end : LineEnd) (text rest : List ℕ) → text ≡ print_end end ++ rest → length rest < length text
shorter crlf text rest e = omega (arith, ap length e)
shorter lf text rest e = omega (arith, ap length e)

stopped : (text : List ℕ) → Stops is_newline text ⊎ (Stops is_newline text → ⊥)
stopped [] = inr (λ z. z)
stopped (b ∷ text) =
    elim (is_newline b) as (λ t. is_newline b ≡ t → (Stops is_newline (b ∷ text) ⊎ (Stops is_newline (b ∷ text) → ⊥))) [
      | true ↦ λ e. inr (λ z. absurd (let wrong : is_newline b ≡ false = z in cc))
      | false ↦ λ e. inl e
    ] refl

blank_within : (n : ℕ) (text : List ℕ) → length text ≤ n → Decided Blank text
blank_within zero [] fits = inr (λ z. no_blank z.0 [] z.1 (λ x. absurd (omega (arith, shorter x.0 [] x.1 x.2))) z.2.0 (λ s. s) z.2.1)
blank_within zero (b ∷ text) fits = absurd (omega arith)
blank_within (suc n) text fits =
    ⊎_elim
    (λ x. ⊎_elim
    (λ y. inl (x.0 ∷ y.0, y.1, (x.2 ∙ ap (λ r. print_end x.0 ++ r) y.2.0 ∙ sym (append_assoc (print_end x.0) (print_blank y.0) y.1), y.2.1)))
    (λ none. inr (λ z. no_more_blank x.0 z.0 text z.1 x.1 x.2 none z.2.0 z.2.1))
    (blank_within n x.1 (omega (arith, fits, shorter x.0 text x.1 x.2))))
    (λ none. ⊎_elim
    (λ stops. inl ([], text, (refl, stops)))
    (λ not. inr (λ z. no_blank z.0 text z.1 none z.2.0 not z.2.1))
    (stopped text))
    (newline_decided text)

pub blank_decided : (text : List ℕ) → Decided Blank text
blank_decided text = blank_within (length text) text (omega arith)

-- bytes that pass a test, and the byte after them
record IsEnded (test : ℕ → Bool) (stop : ℕ) (text word rest : List ℕ) : Type 0 where
  pass : AllPass test word
  whole : text ≡ word ++ stop ∷ rest

abbrev Ended : (ℕ → Bool) → ℕ → List ℕ → Type 0
Ended test stop text = (word : List ℕ) × (rest : List ℕ) × IsEnded test stop text word rest

not_empty_word : (test : ℕ → Bool) (stop b : ℕ) (text word rest : List ℕ) → (b ≡ stop → ⊥) → (test b ≡ true → Ended test stop text → ⊥) → IsEnded test stop (b ∷ text) word rest → ⊥
not_empty_word test stop b text [] rest other none x = other (let e = x.whole in cc)
not_empty_word test stop b text (c ∷ word) rest other none x =
    let e = x.whole in
    let same : b ≡ c = cc in
    let first : test b ≡ true = ap test same ∙ All-head (λ v. test v ≡ true) c word x.pass in
    none first (word, rest, record { pass = All-tail (λ v. test v ≡ true) c word x.pass; whole = cc })

ended_decided : (test : ℕ → Bool) (stop : ℕ) (text : List ℕ) → Ended test stop text ⊎ (Ended test stop text → ⊥)
ended_decided test stop [] = inr (λ z. no_text z.0 z.1 z.2.whole)
  where
    no_text : (word rest : List ℕ) → [] ≡ word ++ stop ∷ rest → ⊥
    no_text [] rest e = absurd cc
    no_text (w ∷ word) rest e = absurd cc
ended_decided test stop (b ∷ text) =
    elim (b == stop) as (λ t. (b == stop) ≡ t → (Ended test stop (b ∷ text) ⊎ (Ended test stop (b ∷ text) → ⊥))) [
      | true ↦ λ e. let same = same_byte b stop e in inl ([], text, record { pass = All-nil (λ v. test v ≡ true); whole = rw same refl })
      | false ↦ λ other. elim (test b) as (λ t. test b ≡ t → (Ended test stop (b ∷ text) ⊎ (Ended test stop (b ∷ text) → ⊥))) [
        | true ↦ λ yes. ⊎_elim
            (λ x. inl (b ∷ x.0, x.1, record { pass = All-cons (λ v. test v ≡ true) b x.0 yes x.2.pass; whole = ap (λ r. b ∷ r) x.2.whole }))
            (λ none. inr (λ z. not_empty_word test stop b text z.0 z.1 (other_byte b stop other) (λ _. none) z.2))
            (ended_decided test stop text)
        | false ↦ λ no. inr (λ z. not_empty_word test stop b text z.0 z.1 (other_byte b stop other) (λ yes. absurd cc) z.2)
      ] refl
    ] refl

no_word : (test : ℕ → Bool) (stop b : ℕ) (text word rest : List ℕ) → (test b ≡ true → Ended test stop text → ⊥) → Word test stop word (b ∷ text) rest → ⊥
no_word test stop b text [] rest none x = absurd (omega (arith, x.0))
no_word test stop b text (c ∷ word) rest none x =
    let e = x.2 in
    let same : b ≡ c = cc in
    none (ap test same ∙ All-head (λ v. test v ≡ true) c word x.1) (word, rest, record { pass = All-tail (λ v. test v ≡ true) c word x.1; whole = cc })

pub word_decided : (test : ℕ → Bool) (stop : ℕ) (text : List ℕ) → Decided (Word test stop) text
word_decided test stop [] = inr (λ z. no_text z.0 z.1 z.2.0 z.2.2)
  where
    no_text : (word rest : List ℕ) → 0 < length word → [] ≡ word ++ stop ∷ rest → ⊥
    no_text [] rest some e = absurd (omega (arith, some))
    no_text (w ∷ word) rest some e = absurd cc
word_decided test stop (b ∷ text) =
    elim (test b) as (λ t. test b ≡ t → Decided (Word test stop) (b ∷ text)) [
      | true ↦ λ yes. ⊎_elim
          (λ x. inl (b ∷ x.0, x.1, (omega arith, All-cons (λ v. test v ≡ true) b x.0 yes x.2.pass, ap (λ r. b ∷ r) x.2.whole)))
          (λ none. inr (λ z. no_word test stop b text z.0 z.1 (λ _. none) z.2))
          (ended_decided test stop text)
      | false ↦ λ no. inr (λ z. no_word test stop b text z.0 z.1 (λ yes. absurd cc) z.2)
    ] refl

no_value : (b : ℕ) (text value : List ℕ) (end : LineEnd) (rest : List ℕ) → (Begins Newline (b ∷ text) → ⊥) → (is_value_byte b ≡ true → Begins Text text → ⊥) → Text (value, end) (b ∷ text) rest → ⊥
no_value b text [] end rest none later x = none (end, rest, x.1)
no_value b text (c ∷ value) end rest none later x =
    let e = x.1 in
    let same : b ≡ c = cc in
    later (ap is_value_byte same ∙ All-head (λ v. is_value_byte v ≡ true) c value x.0) ((value, end), rest, (All-tail (λ v. is_value_byte v ≡ true) c value x.0, cc))

no_end : (value : List ℕ) (end : LineEnd) (rest : List ℕ) → [] ≡ value ++ (print_end end ++ rest) → ⊥
no_end [] crlf rest e = absurd cc
no_end [] lf rest e = absurd cc
no_end (v ∷ value) end rest e = absurd cc

text_decided : (text : List ℕ) → Decided Text text
text_decided [] = inr (λ z. no_end z.0.0 z.0.1 z.1 z.2.1)
text_decided (b ∷ text) =
    ⊎_elim
    (λ x. inl (([], x.0), x.1, (All-nil (λ v. is_value_byte v ≡ true), x.2)))
    (λ none. elim (is_value_byte b) as (λ t. is_value_byte b ≡ t → Decided Text (b ∷ text)) [
      | true ↦ λ yes. ⊎_elim
          (λ x. inl ((b ∷ x.0.0, x.0.1), x.1, (All-cons (λ v. is_value_byte v ≡ true) b x.0.0 yes x.2.0, ap (λ r. b ∷ r) x.2.1)))
          (λ not. inr (λ z. no_value b text z.0.0 z.0.1 z.1 none (λ _. not) z.2))
          (text_decided text)
      | false ↦ λ no. inr (λ z. no_value b text z.0.0 z.0.1 z.1 none (λ yes. absurd cc) z.2)
    ] refl)
    (newline_decided (b ∷ text))

no_reason : (reason : Option (List ℕ)) (end : LineEnd) (text rest : List ℕ) → (Begins Newline text → ⊥) → ((after : List ℕ) → text ≡ 32 ∷ after → Begins Text after → ⊥) → Reason (reason, end) text rest → ⊥
no_reason None end text rest none later x = none (end, rest, x.1)
no_reason (Some phrase) end text rest none later x = later (phrase ++ (print_end end ++ rest)) x.1 ((phrase, end), rest, (x.0, refl))

reason_decided : (text : List ℕ) → Decided Reason text
reason_decided text =
    ⊎_elim
    (λ x. inl ((None, x.0), x.1, (All-nil (λ v. is_value_byte v ≡ true), x.2)))
    (λ none. ⊎_elim
    (λ s. ⊎_elim
    (λ x. inl ((Some x.0.0, x.0.1), x.1, (x.2.0, s.1 ∙ ap (λ r. 32 ∷ r) x.2.1)))
    (λ not. inr (λ z. no_reason z.0.0 z.0.1 text z.1 none (λ after e b. not (subst (Begins Text) (let first = s.1 in cc) b)) z.2))
    (text_decided s.0))
    (λ other. inr (λ z. no_reason z.0.0 z.0.1 text z.1 none (λ after e b. other after e) z.2))
    (fronted (32 ∷ []) text))
    (newline_decided text)

-- ---- the fields

line_decided : (text : List ℕ) → Decided FieldLine text
line_decided text =
    ⊎_elim
    (λ x. inl (
      record { name = x.0.0; raw = x.0.1.0; end = x.0.1.1 },
      x.1,
      (
        record { name = (x.2.1.0, x.2.1.1); raw = x.2.2.0 },
        x.2.1.2 ∙ ap (λ r. x.0.0 ++ 58 ∷ r) x.2.2.1 ∙ sym (print_field-append (record { name = x.0.0; raw = x.0.1.0; end = x.0.1.1 }) x.1),
      ),
    ))
    (λ none. inr (λ z. none ((z.0.name, (z.0.raw, z.0.end)), z.1, FieldLine_parts z.0 text z.1 z.2)))
    (then_decided (Word is_token_byte 58) Text Name_deterministic (word_decided is_token_byte 58) text_decided text)

line_on : (g : Field) (gs : List Field) (last : LineEnd) (rest : List ℕ) → (flat_map print_field (g ∷ gs) ++ print_end last) ++ rest ≡ print_field g ++ ((flat_map print_field gs ++ print_end last) ++ rest)
line_on g gs last rest =
    let others = flat_map print_field gs in
    ap (λ r. r ++ rest) (append_assoc (print_field g) others (print_end last)) ∙ append_assoc (print_field g) (others ++ print_end last) rest

first_line : (g : Field) (gs : List Field) (last : LineEnd) (text rest : List ℕ) → Section (g ∷ gs, last) text rest → FieldLine g text ((flat_map print_field gs ++ print_end last) ++ rest)
first_line g gs last text rest x = (All-head IsField g gs x.0, x.1 ∙ line_on g gs last rest)

no_section : (fields : List Field) (last : LineEnd) (text rest : List ℕ) → (Begins Newline text → ⊥) → ((g : Field) (after : List ℕ) → FieldLine g text after → Begins Section after → ⊥) → Section (fields, last) text rest → ⊥
no_section [] last text rest none later x = none (last, rest, x.1)
no_section (g ∷ gs) last text rest none later x =
    later g ((flat_map print_field gs ++ print_end last) ++ rest) (first_line g gs last text rest x) ((gs, last), rest, (All-tail IsField g gs x.0, refl))

line_shorter : (f : Field) (text rest : List ℕ) → FieldLine f text rest → length rest < length text
line_shorter f text rest x =
    let whole = ap length (x.1 ∙ print_field-append f rest) in
    let size = length-append f.name (58 ∷ (f.raw ++ (print_end f.end ++ rest))) in
    let two = length-append f.raw (print_end f.end ++ rest) in
    let three = length-append (print_end f.end) rest in
    omega (arith, whole, size, two, three)

line_joined : (f : Field) (text after : List ℕ) → FieldLine f text after → (y : Begins Section after) → Section (f ∷ y.0.0, y.0.1) text y.1
line_joined f text after line y = (All-cons IsField f y.0.0 line.0 y.2.0, line.1 ∙ ap (λ r. print_field f ++ r) y.2.1 ∙ sym (line_on f y.0.0 y.0.1 y.1))

section_step : (text : List ℕ) → ((t : List ℕ) → length t < length text → Decided Section t) → Decided Section text
section_step text next =
    ⊎_elim
    (λ x. inl (([], x.0), x.1, (All-nil IsField, x.2)))
    (λ none. ⊎_elim
    (λ f. ⊎_elim
    (λ y. inl ((f.0 ∷ y.0.0, y.0.1), y.1, line_joined f.0 text f.1 f.2 y))
    (λ not. inr (λ z. no_section z.0.0 z.0.1 text z.1 none (λ g after line b. not (subst (Begins Section) (FieldLine_deterministic.unique g f.0 text after f.1 line f.2).1 b)) z.2))
    (next f.1 (line_shorter f.0 text f.1 f.2)))
    (λ not. inr (λ z. no_section z.0.0 z.0.1 text z.1 none (λ g after line _. not (g, after, line)) z.2))
    (line_decided text))
    (newline_decided text)

section_within : (n : ℕ) (text : List ℕ) → length text ≤ n → Decided Section text
section_within zero text fits = section_step text (λ t less. absurd (omega (arith, less, fits)))
section_within (suc n) text fits = section_step text (λ t less. section_within n t (omega (arith, less, fits)))

pub section_decided : (text : List ℕ) → Decided Section text
section_decided text = section_within (length text) text (omega arith)

-- ---- heads

code_decided : (text : List ℕ) → Decided Code text
code_decided = then_decided Digit (Then Digit Digit) Digit_deterministic digit_decided (then_decided Digit Digit Digit_deterministic digit_decided digit_decided)

start_decided : (text : List ℕ) → Decided ResponseStart text
start_decided =
    then_decided Blank (Then Version (Then (Bytes (32 ∷ [])) (Then Code Reason))) Blank_deterministic blank_decided
    (then_decided Version (Then (Bytes (32 ∷ [])) (Then Code Reason)) Version_deterministic version_decided
    (then_decided (Bytes (32 ∷ [])) (Then Code Reason) (Bytes_deterministic (32 ∷ [])) (bytes_decided (32 ∷ []))
    (then_decided Code Reason Code_deterministic code_decided reason_decided)))

abbrev BeginsResponse : List ℕ → Type 0
BeginsResponse text = (h : ResponseHead) × (rest : List ℕ) × ReadsResponse text h rest

response_decided : (text : List ℕ) → BeginsResponse text ⊎ (BeginsResponse text → ⊥)
response_decided text =
    ⊎_elim
    (λ x. inl (response_head x.0, x.1, response_from_pieces text x.0 x.1 x.2))
    (λ none. inr (λ z. let t = response_pieces text z.0 z.1 z.2 in none (t.0, z.1, t.2)))
    (then_decided ResponseStart Section ResponseStart_deterministic start_decided section_decided text)

pub few : (n m : ℕ) → (n ≤ m) ⊎ (m < n)
few zero m = inl (omega arith)
few (suc n) zero = inr (omega arith)
few (suc n) (suc m) = ⊎_elim (λ a. inl (omega (arith, a))) (λ b. inr (omega (arith, b))) (few n m)

abbrev HasHeadOf : List ℕ → Type 0
HasHeadOf bytes = (h : ResponseHead) × IsHead bytes h

whole_or_not : (bytes : List ℕ) (h : ResponseHead) (rest : List ℕ) → ReadsResponse bytes h rest → HasHeadOf bytes ⊎ ((k : ResponseHead) → IsHead bytes k → ⊥)
whole_or_not bytes h [] reads =
    ⊎_elim (λ a. inl (h, record { reads = reads; fits = a }))
    (λ b. inr (λ k is. absurd (let same = (response_unique bytes k h [] [] is.reads reads).0 in omega (arith, b, is.fits, ap (λ (x : ResponseHead). length x.fields) same))))
    (few (length h.fields) max_fields)
whole_or_not bytes h (r ∷ rest) reads = inr (λ k is. absurd (let same = (response_unique bytes k h [] (r ∷ rest) is.reads reads).1 in cc))

pub head_decided : (bytes : List ℕ) → HasHeadOf bytes ⊎ ((h : ResponseHead) → IsHead bytes h → ⊥)
head_decided bytes =
    ⊎_elim (λ x. whole_or_not bytes x.0 x.1 x.2) (λ none. inr (λ h is. none (h, [], is.reads))) (response_decided bytes)

-- ---- readings

abbrev HasFound : List ℕ → Type 0
HasFound bytes = (is : List ResponseHead) × (found : Found) × Finds is bytes found

end_positive : (bytes : List ℕ) (k : ℕ) → end_from Front bytes ≡ Some k → (0 < k) × (k ≤ length bytes)
end_positive bytes k e = end_within Front bytes k e

found_step : (bytes : List ℕ) → ((bs : List ℕ) → length bs < length bytes → HasFound bs) → HasFound bytes
found_step bytes next = by_end (end_from Front bytes) refl
  where
    by_verdict : (k : ℕ) → end_from Front bytes ≡ Some k → (h : ResponseHead) → IsHead (take k bytes) h → (b : Bool) → is_interim h ≡ b → HasFound bytes
    by_verdict k e h is false final = ([], final_head h (drop k bytes), (k, e, is, final, refl))
    by_verdict k e h is true interim =
        let p = end_positive bytes k e in
        let later = next (drop k bytes) (omega (arith, p.0, p.1, length-drop k bytes)) in
        (h ∷ later.0, later.1, (k, e, is, interim, later.2))

    by_end : (o : Option ℕ) → end_from Front bytes ≡ o → HasFound bytes
    by_end None e = ([], waiting, e)
    by_end (Some k) e = ⊎_elim (λ x. by_verdict k e x.0 x.1 (is_interim x.0) refl) (λ none. ([], no_head, (k, e, none))) (head_decided (take k bytes))

found_within : (n : ℕ) (bytes : List ℕ) → length bytes ≤ n → HasFound bytes
found_within zero bytes fits = found_step bytes (λ bs less. absurd (omega (arith, less, fits)))
found_within (suc n) bytes fits = found_step bytes (λ bs less. found_within n bs (omega (arith, less, fits)))

pub has_reading : (limit : ℕ) (bytes : List ℕ) → (progress : Progress) × Reads limit bytes progress
has_reading limit bytes =
    let front = skip_from false (take head_limit bytes) in
    let f = found_within (length front) front (omega arith) in
    (progress_after limit bytes f.1, record { interims = f.0; found = f.1; finds = f.2; gives = refl })
