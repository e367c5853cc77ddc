-- A printed response head has its first empty line at its end.
use Rattle.std.proofs.Common.{◌≡◌, ℕ, ◌+◌, Bool, true, false, List, [], ◌∷◌, ◌++◌, length, refl, sym, ap, ◌∙◌, subst, arith, append_assoc, length-append}
use Rattle.std.specs.Prelude.{Option, Some, None, IsTrue, flat_map, ◌==◌, All}
use Rattle.std.proofs.lemmas.Bool.Decides.{nat_tests}
use Rattle.std.proofs.lemmas.List.Elements.{All-head, All-tail}
use Rattle.std.specs.Char.{is_ascii_digit}
use Rattle.httparse.specs.Grammar as grammar
use Rattle.httparse.specs.Grammar.{LineEnd, crlf, lf, print_end, Field, IsField, print_field, ResponseHead, IsResponseHead, print_response, print_version, print_reason, print_section, reason_phrase, is_value_byte, is_token_byte}
use Rattle.http_message.specs.declared.lines.Place.{Place}
use Rattle.http_message.specs.declared.lines.Place.TheVariants.{Front, Inside}
use Rattle.http_message.specs.Lines.{end_from, place_after}
use Rattle.http_message.proofs.LineLemmas.{end_not_yet, end_later, place_after-append}

-- these bytes lead from one place to another, and no empty line ends in them
record Leads (p : Place) (bytes : List ℕ) (q : Place) : Type 0 where
  none : end_from p bytes ≡ None
  here : place_after p bytes ≡ q

joined : (p q r : Place) (xs ys : List ℕ) → Leads p xs q → Leads q ys r → Leads p (xs ++ ys) r
joined p q r xs ys a b = record {
  none = end_not_yet p xs ys a.none (subst (λ s. end_from s ys ≡ None) (sym a.here) b.none);
  here = place_after-append p xs ys ∙ ap (λ s. place_after s ys) a.here ∙ b.here;
}

-- no byte is LF
NoLf : List ℕ → Type 0
NoLf [] = Unit {0}
NoLf (b ∷ bs) = ((b == 10) ≡ false) × NoLf bs

inside : (bs : List ℕ) → NoLf bs → Leads Inside bs Inside
unfolding NoLf
inside [] ok = record { none = refl; here = refl }
inside (b ∷ bs) ok =
    let later = inside bs ok.1 in
    record { none = rw ok.0 (rw later.none refl); here = rw ok.0 later.here }

ended : (e : LineEnd) → Leads Inside (print_end e) Front
ended crlf = record { none = refl; here = refl }
ended lf = record { none = refl; here = refl }

-- a line that begins with a byte other than CR and LF
line : (b : ℕ) (bs : List ℕ) (e : LineEnd) → (b == 10) ≡ false → (b == 13) ≡ false → NoLf bs → Leads Front ((b ∷ bs) ++ print_end e) Front
line b bs e n10 n13 ok =
    let one : Leads Front (b ∷ []) Inside = record { none = rw n10 refl; here = rw (n10, n13) refl } in
    let text : Leads Front (b ∷ bs) Inside = joined Front Inside Inside (b ∷ []) bs one (inside bs ok) in
    joined Front Inside Front (b ∷ bs) (print_end e) text (ended e)

no_lf_append : (xs ys : List ℕ) → NoLf xs → NoLf ys → NoLf (xs ++ ys)
unfolding NoLf
no_lf_append [] ys a b = b
no_lf_append (x ∷ xs) ys a b = (a.0, no_lf_append xs ys a.1 b)

not_byte : (test : ℕ → Bool) (b c : ℕ) → test c ≡ false → IsTrue (test b) → (b == c) ≡ false
not_byte test b c bad ok =
    elim (b == c) as (λ t. (b == c) ≡ t → (b == c) ≡ false) [
      | true ↦ λ e. let same : b ≡ c = grind (arith, nat_tests) in let wrong : IsTrue false = subst IsTrue (ap test same ∙ bad) ok in absurd (cc wrong)
      | false ↦ λ e. e
    ] refl

-- what passes a test that LF and CR do not pass
no_lf_all : (test : ℕ → Bool) (bs : List ℕ) → test 10 ≡ false → All (λ b. IsTrue (test b)) bs → NoLf bs
unfolding NoLf
no_lf_all test [] bad all = tt
no_lf_all test (b ∷ bs) bad all = (not_byte test b 10 bad (All-head (λ b. IsTrue (test b)) b bs all), no_lf_all test bs bad (All-tail (λ b. IsTrue (test b)) b bs all))

no_lf_token : (bs : List ℕ) → All (λ b. IsTrue (is_token_byte b)) bs → NoLf bs
unfolding is_token_byte
no_lf_token bs all = no_lf_all is_token_byte bs refl all

token_mark : (b c : ℕ) → is_token_byte c ≡ false → IsTrue (is_token_byte b) → (b == c) ≡ false
token_mark b c bad ok = not_byte is_token_byte b c bad ok

no_10 : is_token_byte 10 ≡ false
unfolding is_token_byte
no_10 = refl

no_13 : is_token_byte 13 ≡ false
unfolding is_token_byte
no_13 = refl

-- a field line leads from the front of a line to the front of the next
field : (name raw : List ℕ) (e : LineEnd) → grammar.IsToken name → All (λ b. IsTrue (is_value_byte b)) raw → Leads Front (name ++ 58 ∷ raw ++ print_end e) Front
unfolding NoLf
field [] raw e token value = absurd (omega (arith, token.0))
field (b ∷ bs) raw e token value =
    let first : IsTrue (is_token_byte b) = All-head (λ b. IsTrue (is_token_byte b)) b bs token.1 in
    let rest : NoLf (bs ++ 58 ∷ raw) = no_lf_append bs (58 ∷ raw) (no_lf_token bs (All-tail (λ b. IsTrue (is_token_byte b)) b bs token.1)) (refl, no_lf_all is_value_byte raw refl value) in
    line b (bs ++ 58 ∷ raw) e (token_mark b 10 no_10 first) (token_mark b 13 no_13 first) rest

fields : (fs : List Field) → All IsField fs → Leads Front (flat_map print_field fs) Front
fields [] all = record { none = refl; here = refl }
fields (f ∷ fs) all =
    let one = All-head IsField f fs all in
    joined Front Front Front (print_field f) (flat_map print_field fs) (field f.name f.raw f.end one.name one.raw) (fields fs (All-tail IsField f fs all))

reason_ok : (o : Option (List ℕ)) → All (λ b. IsTrue (is_value_byte b)) (reason_phrase o) → NoLf (print_reason o)
unfolding NoLf
reason_ok None all = tt
reason_ok (Some phrase) all = (refl, no_lf_all is_value_byte phrase refl all)

-- the first line
status_line : (h : ResponseHead) → IsResponseHead h → Leads Front ((print_version h.minor ++ 32 ∷ h.digits ++ print_reason h.reason) ++ print_end h.line_end) Front
unfolding NoLf
status_line h is =
    let minor : ((48 + h.minor) == 10) ≡ false = let small = is.minor in grind (arith, nat_tests) in
    let digits : NoLf h.digits = no_lf_all is_ascii_digit h.digits refl is.digits.1 in
    let end : NoLf (32 ∷ h.digits ++ print_reason h.reason) = no_lf_append (32 ∷ h.digits) (print_reason h.reason) (refl, digits) (reason_ok h.reason is.reason) in
    line 72 (84 ∷ 84 ∷ 80 ∷ 47 ∷ 49 ∷ 46 ∷ (48 + h.minor) ∷ 32 ∷ h.digits ++ print_reason h.reason) h.line_end refl refl
    (refl, (refl, (refl, (refl, (refl, (refl, (minor, end)))))))

last_end : (e : LineEnd) (more : List ℕ) → end_from Front (print_end e ++ more) ≡ Some (length (print_end e))
last_end crlf more = refl
last_end lf more = refl

leads_end : (a f l more : List ℕ) (n : ℕ) → Leads Front a Front → Leads Front f Front → end_from Front (l ++ more) ≡ Some (length l)
    → end_from Front ((a ++ (f ++ l)) ++ more) ≡ Some (length (a ++ (f ++ l)))
leads_end a f l more n x y e =
    let t = joined Front Front Front a f x y in
    let later : end_from Front ((a ++ f) ++ (l ++ more)) ≡ Some (length (a ++ f) + length l) =
    end_later Front (a ++ f) (l ++ more) (length l) t.none (subst (λ p. end_from p (l ++ more) ≡ Some (length l)) (sym t.here) e) in
    let text : (a ++ (f ++ l)) ++ more ≡ (a ++ f) ++ (l ++ more) = simp append_assoc in
    let size : length (a ++ f) + length l ≡ length (a ++ (f ++ l)) = simp length-append (omega arith) in
    ap (end_from Front) text ∙ later ∙ ap Some size

-- the first empty line of a printed head ends it, whatever follows
pub printed_end : (h : ResponseHead) (more : List ℕ) → IsResponseHead h → h.blank ≡ [] → end_from Front (print_response h ++ more) ≡ Some (length (print_response h))
unfolding print_response
printed_end h more is none =
    let first : List ℕ = (print_version h.minor ++ 32 ∷ h.digits ++ print_reason h.reason) ++ print_end h.line_end in
    let whole : print_response h ≡ first ++ (flat_map print_field h.fields ++ print_end h.last) = rw none refl in
    subst (λ xs. end_from Front (xs ++ more) ≡ Some (length xs)) (sym whole)
    (leads_end first (flat_map print_field h.fields) (print_end h.last) more 0 (status_line h is) (fields h.fields is.fields) (last_end h.last more))
