-- The text of a string is in UTF-8: its quotes are cut off, three at either end where it begins with three.
use Rattle.std.proofs.Common.{◌≡◌, ℕ, ◌<◌, ◌==◌, ◌&&◌, List, [], ◌∷◌, ◌++◌, length, slice_index, true, false, nat_le, if◌then◌else◌, refl, sym, ap, subst, ◌∙◌, inl, inr, arith, length-append}
use Rattle.std.specs.Str.{IsUtf8}
use Rattle.std.proofs.Math.Utf8.{encode}
use Rattle.std.proofs.lemmas.Bool.{and_right, eq-eqb, le-leb}
use Rattle.std.proofs.lemmas.Str.{length-encode, len_utf8_bounds}
use Rattle.terminals.specs.declared.groups.Quote.{Quote}
use Rattle.terminals.specs.declared.groups.Quote.TheVariants as quotes
use Rattle.terminals.specs.Class.{classified, ascii_class}
use Rattle.terminals.specs.Groups.{is_quote, is_text, is_line_text, is_backslash}
use Rattle.terminals.specs.Rules.{Rule, One, Then, Either, Many}
use Rattle.terminals.specs.Terminals.{string_escape, few_quotes, three_quotes, line_rest, long_rest, string_in, quoted}
use Rattle.terminals.specs.Values.{string_text, quotes_of, unescaped, inner}
use Rattle.definition_laws.proofs.Matching.{Matches, no_more, one_more}
use Rattle.definition_laws.proofs.Letters.{Letter, bytes_of, bytes_append, class_of}
use Rattle.definition_laws.proofs.Undone.{HasNo, Closed, closed_undone}
use Rattle.definition_laws.proofs.Characters.{is_alone, is_small, is_other, has_no}
use Rattle.definition_laws.proofs.Texts.{IsSmall, begins, alone, inner_is, Shuts, shut_plain, shut_then, shut_either, shut_many, shut_string_escape}

-- ---- the byte of a quote

abbrev pub mark : Quote → ℕ
mark quotes.Double = 34
mark quotes.Single = 39

quote_small : (quote : Quote) → IsSmall (is_quote quote)
quote_small quotes.Double = is_small (is_quote quotes.Double) refl refl refl
quote_small quotes.Single = is_small (is_quote quotes.Single) refl refl refl

quote_is : (quote : Quote) (n : ℕ) → is_quote quote (classified n) ≡ true → n ≡ mark quote
unfolding ascii_class
quote_is quotes.Double n e = is_alone (is_quote quotes.Double) 34 refl refl refl refl n e
quote_is quotes.Single n e = is_alone (is_quote quotes.Single) 39 refl refl refl refl n e

mark_small : (quote : Quote) → mark quote < 128
mark_small quotes.Double = omega arith
mark_small quotes.Single = omega arith

no_line_text : (quote : Quote) → is_line_text quote (classified (mark quote)) ≡ false
unfolding ascii_class
no_line_text quotes.Double = refl
no_line_text quotes.Single = refl

no_backslash : (quote : Quote) → is_backslash (classified (mark quote)) ≡ false
unfolding ascii_class
no_backslash quotes.Double = refl
no_backslash quotes.Single = refl

pub then_quote : (quote : Quote) (s : Rule) (ls : List Letter) → Matches class_of (Then (One (is_quote quote)) s) ls → (rest : List Letter) × (bytes_of ls ≡ mark quote ∷ bytes_of rest) × Matches class_of s rest
then_quote quote s ls m = let b = begins (is_quote quote) s ls (quote_small quote) m in (b.1, b.2 ∙ ap (λ n. n ∷ bytes_of b.1) (quote_is quote b.0 b.3), b.4)

last_quote : (quote : Quote) (ls : List Letter) → Matches class_of (One (is_quote quote)) ls → bytes_of ls ≡ mark quote ∷ []
last_quote quote ls m = let b = alone (is_quote quote) ls (quote_small quote) m in b.1 ∙ ap (λ n. n ∷ []) (quote_is quote b.0 b.2)

-- ---- what stands in a string is closed

shut_line : (quote : Quote) → Shuts (Many (Either (One (is_line_text quote)) string_escape))
shut_line quotes.Double = shut_many (Either (One (is_line_text quotes.Double)) string_escape) (shut_either (One (is_line_text quotes.Double)) string_escape (shut_plain (One (is_line_text quotes.Double)) refl) shut_string_escape)
shut_line quotes.Single = shut_many (Either (One (is_line_text quotes.Single)) string_escape) (shut_either (One (is_line_text quotes.Single)) string_escape (shut_plain (One (is_line_text quotes.Single)) refl) shut_string_escape)

few_plain : (quote : Quote) → Shuts (few_quotes quote)
few_plain quotes.Double = shut_plain (few_quotes quotes.Double) refl
few_plain quotes.Single = shut_plain (few_quotes quotes.Single) refl

text_plain : (quote : Quote) → Shuts (One (is_text quote))
text_plain quotes.Double = shut_plain (One (is_text quotes.Double)) refl
text_plain quotes.Single = shut_plain (One (is_text quotes.Single)) refl

abbrev long_part : Quote → Rule
long_part quote = Then (few_quotes quote) (Either (One (is_text quote)) string_escape)

shut_long : (quote : Quote) → Shuts (Many (long_part quote))
shut_long quote = shut_many (long_part quote) (shut_then (few_quotes quote) (Either (One (is_text quote)) string_escape) (few_plain quote) (shut_either (One (is_text quote)) string_escape (text_plain quote) shut_string_escape))

-- ---- a string of one line does not begin with two quotes, unless it is empty

abbrev HeadDiffers : ℕ → List ℕ → Type 0
HeadDiffers q [] = Unit {0}
HeadDiffers q (b ∷ bytes) = (b == q) ≡ false

head_differs : (q : ℕ) (bytes more : List ℕ) → 0 < length bytes → HasNo q bytes → HeadDiffers q (bytes ++ more)
head_differs q [] more lt h = absurd (omega arith)
head_differs q (b ∷ bytes) more lt h = h.0

first_differs : (q : ℕ) (x : Letter) (ls : List Letter) → q < 128 → (x.code ≡ q → ⊥) → HeadDiffers q (bytes_of (x ∷ ls))
first_differs q x ls lt other = head_differs q (encode x.code) (bytes_of ls) (omega (arith, length-encode x.code, (len_utf8_bounds x.code).0)) (has_no q x.code lt other)

line_differs : (quote : Quote) (ls : List Letter) → Matches class_of (Many (Either (One (is_line_text quote)) string_escape)) ls → HeadDiffers (mark quote) (bytes_of ls)
line_differs quote _ no_more = tt
line_differs quote _ (one_more ys zs h m) =
    let q : ℕ = mark quote in
    let Differs : List Letter → Type 0 = λ l. HeadDiffers q (bytes_of (l ++ zs)) in
    elim h [
      | inl x ↦ subst Differs (sym x.1) (first_differs q x.0 zs (mark_small quote) (is_other (is_line_text quote) q (no_line_text quote) x.0.code x.2))
      | inr e ↦
          let x : Letter = e.3.0 in
          let is : ys ≡ x ∷ e.1 = e.2 ∙ ap (λ l. l ++ e.1) e.3.1 in
          subst Differs (sym is) (first_differs q x (e.1 ++ zs) (mark_small quote) (is_other is_backslash q (no_backslash quote) x.code e.3.2))
    ]

one_quote : (q : ℕ) (body : List ℕ) → HeadDiffers q body → quotes_of (q ∷ (body ++ q ∷ [])) ≡ 1
one_quote q [] h = refl
one_quote q (b ∷ body) h =
    let bytes : List ℕ = q ∷ (b ∷ body ++ q ∷ []) in
    ap (λ t. if nat_le 6 (length bytes) && (t && slice_index bytes 2 == slice_index bytes 0) then 3 else 1) h
    ∙ ap (λ t. if t then 3 else 1) (and_right (nat_le 6 (length bytes)) false refl)

three_in_front : (q : ℕ) (body : List ℕ) → quotes_of (q ∷ q ∷ q ∷ (body ++ q ∷ q ∷ q ∷ [])) ≡ 3
three_in_front q body =
    let bytes : List ℕ = q ∷ q ∷ q ∷ (body ++ q ∷ q ∷ q ∷ []) in
    let long : nat_le 6 (length bytes) ≡ true = le-leb 6 (length bytes) (omega (arith, length-append body (q ∷ q ∷ q ∷ []))) in
    ap (λ t. if t && (q == q && q == q) then 3 else 1) long ∙ ap (λ t. if t && t then 3 else 1) (eq-eqb q q refl)

-- ---- both forms

between : (n : ℕ) (bytes a body c : List ℕ) → bytes ≡ a ++ (body ++ c) → quotes_of bytes ≡ n → length a ≡ n → length c ≡ n → Closed body → IsUtf8 (string_text bytes)
between n bytes a body c e q la lc shut =
    subst (λ (l : List ℕ). IsUtf8 (unescaped l)) (sym (ap (λ k. inner k bytes) q ∙ ap (λ l. inner n l) e ∙ inner_is n a body c la lc)) (closed_undone body shut)

line_utf8 : (quote : Quote) (bytes : List ℕ) (ls : List Letter) → bytes ≡ mark quote ∷ bytes_of ls → Matches class_of (line_rest quote) ls → IsUtf8 (string_text bytes)
line_utf8 quote bytes ls e m =
    let q : ℕ = mark quote in
    let body : List ℕ = bytes_of m.0 in
    let is : bytes ≡ q ∷ (body ++ q ∷ []) = e ∙ ap (λ l. q ∷ l) (ap bytes_of m.2 ∙ bytes_append m.0 m.1 ∙ ap (λ l. body ++ l) (last_quote quote m.1 m.4)) in
    between 1 bytes (q ∷ []) body (q ∷ []) is (ap quotes_of is ∙ one_quote q body (line_differs quote m.0 m.3)) refl refl (shut_line quote m.0 m.3)

three_are : (quote : Quote) (ls : List Letter) → Matches class_of (three_quotes quote) ls → bytes_of ls ≡ mark quote ∷ mark quote ∷ mark quote ∷ []
three_are quote ls m =
    let q : ℕ = mark quote in
    let a = then_quote quote (Then (One (is_quote quote)) (One (is_quote quote))) ls m in
    let b = then_quote quote (One (is_quote quote)) a.0 a.2 in
    a.1 ∙ ap (λ l. q ∷ l) (b.1 ∙ ap (λ l. q ∷ l) (last_quote quote b.0 b.2))

long_utf8 : (quote : Quote) (bytes : List ℕ) (ls : List Letter) → bytes ≡ mark quote ∷ mark quote ∷ mark quote ∷ bytes_of ls → Matches class_of (long_rest quote) ls → IsUtf8 (string_text bytes)
long_utf8 quote bytes ls e m =
    let q : ℕ = mark quote in
    let body : List ℕ = bytes_of m.0 in
    let three : List ℕ = q ∷ q ∷ q ∷ [] in
    let is : bytes ≡ three ++ (body ++ three) = e ∙ ap (λ l. three ++ l) (ap bytes_of m.2 ∙ bytes_append m.0 m.1 ∙ ap (λ l. body ++ l) (three_are quote m.1 m.4)) in
    between 3 bytes three body three is (ap quotes_of is ∙ three_in_front q body) refl refl (shut_long quote m.0 m.3)

in_quotes : (quote : Quote) (ls : List Letter) → Matches class_of (string_in quote) ls → IsUtf8 (string_text (bytes_of ls))
in_quotes quote ls m =
    let q : ℕ = mark quote in
    let a = then_quote quote (Either (line_rest quote) (Then (One (is_quote quote)) (Then (One (is_quote quote)) (long_rest quote)))) ls m in
    elim a.2 [
      | inl h ↦ line_utf8 quote (bytes_of ls) a.0 a.1 h
      | inr h ↦
          let b = then_quote quote (Then (One (is_quote quote)) (long_rest quote)) a.0 h in
          let c = then_quote quote (long_rest quote) b.0 b.2 in
          long_utf8 quote (bytes_of ls) c.0 (a.1 ∙ ap (λ l. q ∷ l) (b.1 ∙ ap (λ l. q ∷ l) c.1)) c.2
    ]

pub string_utf8 : (ls : List Letter) → Matches class_of quoted ls → IsUtf8 (string_text (bytes_of ls))
string_utf8 ls m = elim m [ inl h ↦ in_quotes quotes.Double ls h | inr h ↦ in_quotes quotes.Single ls h ]
