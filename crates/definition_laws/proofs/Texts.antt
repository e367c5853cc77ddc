-- The text of each kind of token is in UTF-8.
use Rattle.std.proofs.Common.{◌≡◌, ◌≢◌, ℕ, suc, ◌+◌, ◌-◌, ◌<◌, ◌==◌, List, [], ◌∷◌, ◌++◌, length, take, drop, true, false, not, Bool, None, if◌then◌else◌, refl, sym, ap, subst, ◌∙◌, inl, inr, arith, length-append}
use Rattle.std.specs.List.{AllByRecursion, before_first, after_first, position_or_len}
use Rattle.std.specs.Str.{IsUtf8}
use Rattle.std.proofs.lemmas.Bool.{eq-eqb}
use Rattle.std.proofs.lemmas.List.{drop_at, drop-drop, take_at}
use Rattle.std.proofs.lemmas.Str.{encode_ascii}
use Rattle.terminals.specs.declared.class.Class.{Class}
use Rattle.terminals.specs.declared.class.Class.TheVariants as classes
use Rattle.terminals.specs.Class.{classified, ascii_class}
use Rattle.terminals.specs.Groups.{is_hex, is_string_escape, is_less, is_greater, is_colon, is_underscore, is_backslash, is_lower_u, is_upper_u, is_local, is_local_first, is_local_escape, is_dot, is_iri}
use Rattle.terminals.specs.Rules.{Rule, Nothing, One, Then, Either, Many, Number, maybe}
use Rattle.terminals.specs.Terminals.{is_scalar, is_iri_code, local_escape, string_escape, by_number, iri_escape, iri_ref, name, prefix, local, local_part, percent}
use Rattle.terminals.specs.Values.{iri_text, prefix_text, local_text, label_text, unescaped, inner}
use Rattle.terminals.specs.Texts.{plain}
use Rattle.terminals.proofs.Decoding.{is_text}
use Rattle.definition_laws.proofs.Matching.{Matches, no_more, one_more, lacks, clean}
use Rattle.definition_laws.proofs.Letters.{Letter, bytes_of, bytes_append, class_of}
use Rattle.definition_laws.proofs.Undone.{HasNo, Closed, closed_nil, closed_append, closed_plain, closed_undone, closed_letter, closed_four, closed_eight}
use Rattle.definition_laws.proofs.Characters.{is_small, is_alone, is_other, none_have, are_utf8}

-- bytes in UTF-8 are a text
pub has_text : (bytes : List ℕ) → IsUtf8 bytes → plain bytes ≢ None
has_text bytes u e = let p = is_text bytes u in absurd cc

-- ---- characters that rules take

-- the test takes characters of ASCII alone
abbrev pub IsSmall : (Class → Bool) → Type 0
IsSmall test = (n : ℕ) → test (classified n) ≡ true → n < 128

-- what a rule that begins with one character of ASCII takes
pub begins : (test : Class → Bool) (s : Rule) (ls : List Letter) → IsSmall test → Matches class_of (Then (One test) s) ls
    → (q : ℕ) × (rest : List Letter) × (bytes_of ls ≡ q ∷ bytes_of rest) × (test (classified q) ≡ true) × Matches class_of s rest
begins test s ls small m =
    let x : Letter = m.3.0 in
    let e : ls ≡ x ∷ m.1 = m.2 ∙ ap (λ l. l ++ m.1) m.3.1 in
    (x.code, m.1, ap bytes_of e ∙ ap (λ l. l ++ bytes_of m.1) (encode_ascii x.code (small x.code m.3.2)), m.3.2, m.4)

-- one such character
pub alone : (test : Class → Bool) (ls : List Letter) → IsSmall test → Matches class_of (One test) ls → (q : ℕ) × (bytes_of ls ≡ q ∷ []) × (test (classified q) ≡ true)
alone test ls small m = (m.0.code, ap bytes_of m.1 ∙ ap (λ l. l ++ []) (encode_ascii m.0.code (small m.0.code m.2)), m.2)

-- the byte of each mark

backslash_is : (n : ℕ) → is_backslash (classified n) ≡ true → n ≡ 92
unfolding ascii_class
backslash_is n e = is_alone is_backslash 92 refl refl refl refl n e

lower_u_is : (n : ℕ) → is_lower_u (classified n) ≡ true → n ≡ 117
unfolding ascii_class
lower_u_is n e = is_alone is_lower_u 117 refl refl refl refl n e

upper_u_is : (n : ℕ) → is_upper_u (classified n) ≡ true → n ≡ 85
unfolding ascii_class
upper_u_is n e = is_alone is_upper_u 85 refl refl refl refl n e

colon_is : (n : ℕ) → is_colon (classified n) ≡ true → n ≡ 58
unfolding ascii_class
colon_is n e = is_alone is_colon 58 refl refl refl refl n e

-- a rule that takes no such character lacks its byte
codes_differ : (q : ℕ) (bad : Class) (ls : List Letter) → classified q ≡ bad → AllByRecursion (λ (x : Letter). class_of x ≡ bad → ⊥) ls → AllByRecursion (λ (x : Letter). x.code ≡ q → ⊥) ls
codes_differ q bad [] is h = tt
codes_differ q bad (x ∷ ls) is h = ((λ e. h.0 (ap (λ n. classified n) e ∙ is)), codes_differ q bad ls is h.1)

pub lacks_byte : (q : ℕ) (bad : Class) (r : Rule) (ls : List Letter) → q < 128 → classified q ≡ bad → lacks bad r ≡ true → Matches class_of r ls → HasNo q (bytes_of ls)
lacks_byte q bad r ls lt is h m = none_have q ls lt (codes_differ q bad ls is (clean class_of bad r ls h m))

-- ---- rules whose texts are closed: no escape is cut

abbrev pub Shuts : Rule → Type 0
Shuts r = (ls : List Letter) → Matches class_of r ls → Closed (bytes_of ls)

pub shut_plain : (r : Rule) → lacks classes.Backslash r ≡ true → Shuts r
unfolding ascii_class
shut_plain r h ls m = closed_plain (bytes_of ls) (are_utf8 ls) (lacks_byte 92 classes.Backslash r ls (omega arith) refl h m)

abbrev IsShut : List Letter → Type 0
IsShut ls = Closed (bytes_of ls)

pub shut_then : (r s : Rule) → Shuts r → Shuts s → Shuts (Then r s)
shut_then r s p q ls m = subst IsShut (sym m.2) (subst Closed (sym (bytes_append m.0 m.1)) (closed_append (bytes_of m.0) (bytes_of m.1) (p m.0 m.3) (q m.1 m.4)))

pub shut_either : (r s : Rule) → Shuts r → Shuts s → Shuts (Either r s)
shut_either r s p q ls m = elim m [ inl h ↦ p ls h | inr h ↦ q ls h ]

pub shut_many : (r : Rule) → Shuts r → Shuts (Many r)
shut_many r p _ no_more = closed_nil
shut_many r p _ (one_more ys zs h m) = subst Closed (sym (bytes_append ys zs)) (closed_append (bytes_of ys) (bytes_of zs) (p ys h) (shut_many r p zs m))

-- ---- escapes

-- by one of two rules
shut_choice : (t r s : Rule) → Shuts (Then t r) → Shuts (Then t s) → Shuts (Then t (Either r s))
shut_choice t r s p q ls m = elim m.4 [ inl h ↦ p ls (m.0, m.1, m.2, m.3, h) | inr h ↦ q ls (m.0, m.1, m.2, m.3, h) ]

-- behind a backslash
behind_backslash : (s : Rule) (ls : List Letter) → Matches class_of (Then (One is_backslash) s) ls → (rest : List Letter) × (bytes_of ls ≡ 92 ∷ bytes_of rest) × Matches class_of s rest
behind_backslash s ls m =
    let b = begins is_backslash s ls (is_small is_backslash refl refl refl) m in
    (b.1, b.2 ∙ ap (λ n. n ∷ bytes_of b.1) (backslash_is b.0 b.3), b.4)

shut_letter : (test : Class → Bool) → IsSmall test → test (classified 117) ≡ false → test (classified 85) ≡ false → Shuts (Then (One is_backslash) (One test))
shut_letter test small u v ls m =
    let b = behind_backslash (One test) ls m in
    let x = alone test b.0 small b.2 in
    subst Closed (sym (b.1 ∙ ap (λ l. 92 ∷ l) x.1)) (closed_letter x.0 (small x.0 x.2) (is_other test 117 u x.0 x.2) (is_other test 85 v x.0 x.2))

digits_width : (ls : List Letter) → AllByRecursion (λ x. is_hex (class_of x) ≡ true) ls → length (bytes_of ls) ≡ length ls
digits_width [] h = refl
digits_width (x ∷ ls) h = ap (λ l. length (l ++ bytes_of ls)) (encode_ascii x.code (is_small is_hex refl refl refl x.code h.0)) ∙ ap (λ (n : ℕ). suc n) (digits_width ls h.1)

shut_four : (fine : ℕ → Bool) → Shuts (Then (One is_backslash) (Then (One is_lower_u) (Number 4 fine 0)))
shut_four fine ls m =
    let b = behind_backslash (Then (One is_lower_u) (Number 4 fine 0)) ls m in
    let u = begins is_lower_u (Number 4 fine 0) b.0 (is_small is_lower_u refl refl refl) b.2 in
    let e : bytes_of ls ≡ 92 ∷ 117 ∷ bytes_of u.1 = b.1 ∙ ap (λ l. 92 ∷ l) (u.2 ∙ ap (λ n. n ∷ bytes_of u.1) (lower_u_is u.0 u.3)) in
    subst Closed (sym e) (closed_four (bytes_of u.1) (digits_width u.1 u.4.1 ∙ u.4.0))

shut_eight : (fine : ℕ → Bool) → Shuts (Then (One is_backslash) (Then (One is_upper_u) (Number 8 fine 0)))
shut_eight fine ls m =
    let b = behind_backslash (Then (One is_upper_u) (Number 8 fine 0)) ls m in
    let u = begins is_upper_u (Number 8 fine 0) b.0 (is_small is_upper_u refl refl refl) b.2 in
    let e : bytes_of ls ≡ 92 ∷ 85 ∷ bytes_of u.1 = b.1 ∙ ap (λ l. 92 ∷ l) (u.2 ∙ ap (λ n. n ∷ bytes_of u.1) (upper_u_is u.0 u.3)) in
    subst Closed (sym e) (closed_eight (bytes_of u.1) (digits_width u.1 u.4.1 ∙ u.4.0))

shut_number : (fine : ℕ → Bool) → Shuts (Then (One is_backslash) (by_number fine))
shut_number fine = shut_choice (One is_backslash) (Then (One is_lower_u) (Number 4 fine 0)) (Then (One is_upper_u) (Number 8 fine 0)) (shut_four fine) (shut_eight fine)

pub shut_string_escape : Shuts string_escape
unfolding ascii_class
shut_string_escape = shut_choice (One is_backslash) (One is_string_escape) (by_number is_scalar) (shut_letter is_string_escape (is_small is_string_escape refl refl refl) refl refl) (shut_number is_scalar)

-- ---- IRIs

pub inner_is : (n : ℕ) (a b c : List ℕ) → length a ≡ n → length c ≡ n → inner n (a ++ (b ++ c)) ≡ b
inner_is n a b c la lc =
    let len : length b ≡ length (a ++ (b ++ c)) - (n + n) = omega (arith, length-append a (b ++ c), length-append b c) in
    ap (λ l. take (length (a ++ (b ++ c)) - (n + n)) l) (drop_at a (b ++ c) n la) ∙ take_at b c (length (a ++ (b ++ c)) - (n + n)) len

shut_iri : Shuts (Many (Either (One is_iri) iri_escape))
shut_iri = shut_many (Either (One is_iri) iri_escape) (shut_either (One is_iri) iri_escape (shut_plain (One is_iri) refl) (shut_number is_iri_code))

pub iri_utf8 : (ls : List Letter) → Matches class_of iri_ref ls → IsUtf8 (iri_text (bytes_of ls))
iri_utf8 ls m =
    let a = begins is_less (Then (Many (Either (One is_iri) iri_escape)) (One is_greater)) ls (is_small is_less refl refl refl) m in
    let body : List Letter = a.4.0 in
    let z = alone is_greater a.4.1 (is_small is_greater refl refl refl) a.4.4 in
    let e : bytes_of ls ≡ a.0 ∷ (bytes_of body ++ z.0 ∷ []) = a.2 ∙ ap (λ l. a.0 ∷ l) (ap bytes_of a.4.2 ∙ bytes_append body a.4.1 ∙ ap (λ l. bytes_of body ++ l) z.1) in
    subst (λ (l : List ℕ). IsUtf8 (unescaped l)) (sym (ap (λ l. inner 1 l) e ∙ inner_is 1 (a.0 ∷ []) (bytes_of body) (z.0 ∷ []) refl refl)) (closed_undone (bytes_of body) (shut_iri body a.4.3))

-- ---- names

cut_at : (q : ℕ) (front back : List ℕ) → HasNo q front → position_or_len (λ b. b == q) (front ++ q ∷ back) ≡ length front
cut_at q [] back h = ap (λ t. if not t then 1 + position_or_len (λ b. b == q) back else 0) (eq-eqb q q refl)
cut_at q (b ∷ front) back h = ap (λ t. if not t then 1 + position_or_len (λ b. b == q) (front ++ q ∷ back) else 0) h.0 ∙ omega (arith, cut_at q front back h.1)

-- what stands before and behind a name's colon
name_parts : (ls : List Letter) → Matches class_of name ls → (front : List Letter) × (back : List Letter) × (bytes_of ls ≡ bytes_of front ++ 58 ∷ bytes_of back) × HasNo 58 (bytes_of front) × Matches class_of (maybe local) back
unfolding ascii_class
name_parts ls m =
    let c = begins is_colon (maybe local) m.1 (is_small is_colon refl refl refl) m.4 in
    let e : bytes_of m.1 ≡ 58 ∷ bytes_of c.1 = c.2 ∙ ap (λ n. n ∷ bytes_of c.1) (colon_is c.0 c.3) in
    (m.0, c.1, ap bytes_of m.2 ∙ bytes_append m.0 m.1 ∙ ap (λ l. bytes_of m.0 ++ l) e, lacks_byte 58 classes.Colon (maybe prefix) m.0 (omega arith) refl refl m.3, c.4)

pub prefix_utf8 : (ls : List Letter) → Matches class_of name ls → IsUtf8 (prefix_text (bytes_of ls))
prefix_utf8 ls m =
    let p = name_parts ls m in
    let whole : List ℕ = bytes_of p.0 ++ 58 ∷ bytes_of p.1 in
    let e : before_first (λ b. b == 58) whole ≡ bytes_of p.0 = take_at (bytes_of p.0) (58 ∷ bytes_of p.1) (position_or_len (λ b. b == 58) whole) (sym (cut_at 58 (bytes_of p.0) (bytes_of p.1) p.3)) in
    subst IsUtf8 (sym (ap prefix_text p.2 ∙ e)) (are_utf8 p.0)

shut_part : (test : Class → Bool) → test classes.Backslash ≡ false → Shuts (local_part test)
unfolding ascii_class
shut_part test h =
    let own : lacks classes.Backslash (One test) ≡ true = ap not h in
    shut_either (Either (One test) percent) local_escape (shut_either (One test) percent (shut_plain (One test) own) (shut_plain percent refl))
    (shut_letter is_local_escape (is_small is_local_escape refl refl refl) refl refl)

shut_local : Shuts (maybe local)
shut_local =
    let later : Shuts (local_part is_local) = shut_part is_local refl in
    let any : Rule = Either (local_part is_local) (One is_dot) in
    let tail : Rule = Then (Many any) (local_part is_local) in
    let shut_tail : Shuts tail = shut_then (Many any) (local_part is_local) (shut_many any (shut_either (local_part is_local) (One is_dot) later (shut_plain (One is_dot) refl))) later in
    shut_either local Nothing (shut_then (local_part is_local_first) (maybe tail) (shut_part is_local_first refl) (shut_either tail Nothing shut_tail (shut_plain Nothing refl))) (shut_plain Nothing refl)

pub local_utf8 : (ls : List Letter) → Matches class_of name ls → IsUtf8 (local_text (bytes_of ls))
local_utf8 ls m =
    let p = name_parts ls m in
    let front : List ℕ = bytes_of p.0 in
    let whole : List ℕ = front ++ 58 ∷ bytes_of p.1 in
    let at : position_or_len (λ b. b == 58) whole + 1 ≡ length front + 1 = ap (λ n. n + 1) (cut_at 58 front (bytes_of p.1) p.3) in
    let e : after_first (λ b. b == 58) whole ≡ bytes_of p.1 = ap (λ n. drop n whole) at ∙ sym (drop-drop 1 (length front) whole) ∙ ap (drop 1) (drop_at front (58 ∷ bytes_of p.1) (length front) refl) in
    subst (λ (l : List ℕ). IsUtf8 (unescaped l)) (sym (ap (λ l. after_first (λ b. b == 58) l) p.2 ∙ e)) (closed_undone (bytes_of p.1) (shut_local p.1 p.4))

-- ---- labels

pub label_utf8 : (label : Rule) (ls : List Letter) → Matches class_of (Then (One is_underscore) (Then (One is_colon) label)) ls → IsUtf8 (label_text (bytes_of ls))
label_utf8 label ls m =
    let u = begins is_underscore (Then (One is_colon) label) ls (is_small is_underscore refl refl refl) m in
    let c = begins is_colon label u.1 (is_small is_colon refl refl refl) u.4 in
    subst IsUtf8 (sym (ap (drop 2) (u.2 ∙ ap (λ l. u.0 ∷ l) c.2))) (are_utf8 c.1)
