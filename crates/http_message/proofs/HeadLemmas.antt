-- The fields of a head can be kept, and the map has room for them.
use Rattle.std.proofs.Common.{◌≡◌, ℕ, ◌+◌, ◌<◌, ◌≤◌, true, false, cond, add-one, List, [], ◌∷◌, ◌++◌, length, get_or, take, map, All, refl, subst, arith, length-append}
use Rattle.std.specs.Prelude.{flat_map, bytes_eq}
use Rattle.std.proofs.lemmas.List.Folds.{length-flat_map-take}
use Rattle.std.proofs.lemmas.List.{get_or-map, length-map, map-append}
use Rattle.std.proofs.lemmas.List.Sums.{sum_by-cons, fold-append}
use Rattle.std.proofs.lemmas.List.Elements.{All-map}
use Rattle.std.proofs.Math.Seq.{take-suc}
use Rattle.httparse.specs.declared.spans.HeaderSpan.{HeaderSpan}
use Rattle.httparse.specs.Grammar as grammar
use Rattle.httparse.specs.Grammar.{Field, IsField, print_field, field_value, ResponseHead, print_response, IsResponseHead, print_section, print_end}
use Rattle.httparse.specs.Spans.{name_and_value, span_bytes}
use Rattle.httparse.proofs.TrimLemmas.{AllPass-trim_ows}
use Rattle.http_header.specs.Token as token
use Rattle.http_header.specs.Token.{lowercase}
use Rattle.http_header.specs.FieldValue.{FieldValue, plain_value}
use Rattle.http_header.specs.HeaderMap.{Entries, value_count, append}
use Rattle.http_message.specs.Heads.{IsStorable, fields_at}

-- both crates have the same token
same_token : (xs : List ℕ) → grammar.IsToken xs → token.IsToken xs
unfolding grammar.is_token_byte token.is_token_byte
same_token xs h = h

-- a name is shorter than its head
name_short : (fs : List Field) (k : ℕ) (d : Field) → k < length fs → length (get_or fs k d).name < length (flat_map print_field fs)
name_short fs k d h =
    let f = get_or fs k d in
    let whole = length-flat_map-take print_field fs k d h in
    let line = length-append (f.name ++ (58 ∷ f.raw)) (print_end f.end) in
    let own = length-append f.name (58 ∷ f.raw) in
    omega (arith, whole, line, own)

head_longer : (h : ResponseHead) → length (flat_map print_field h.fields) ≤ length (print_response h)
unfolding grammar.print_response
head_longer h = simp length-append (omega arith)

-- each field of a short head can be kept
pub storable : (h : ResponseHead) → IsResponseHead h → length (print_response h) ≤ 65536 → All (λ f. IsStorable (name_and_value f)) h.fields
storable h is short k d lt =
    let f = get_or h.fields k d in
    let ok : IsField f = is.fields k d lt in
    let small : length f.name ≤ 65535 = omega (arith, name_short h.fields k d lt, head_longer h) in
    ((same_token f.name ok.name, small), AllPass-trim_ows grammar.is_value_byte f.raw ok.raw)

count_cons : (e : List ℕ × List FieldValue) (m : Entries FieldValue) → value_count (e ∷ m) ≡ length e.1 + value_count m
count_cons e m = sum_by-cons (λ (p : List ℕ × List FieldValue). length p.1) e m

-- one more value takes one place at most
pub room_after : (m : Entries FieldValue) (name : List ℕ) (v : FieldValue) → (length (append m name v) ≤ length m + 1) × (value_count (append m name v) ≡ value_count m + 1)
room_after [] name v = (omega arith, refl)
room_after (e ∷ m) name v =
    let later = room_after m name v in
    let here : Entries FieldValue = (e.0, e.1 ++ v ∷ []) ∷ m in
    let there : Entries FieldValue = e ∷ append m name v in
    elim (bytes_eq e.0 name) as (λ t. (length (cond t here there) ≤ length (e ∷ m) + 1) × (value_count (cond t here there) ≡ value_count (e ∷ m) + 1)) [
      | true ↦ (omega arith, omega (arith, count_cons (e.0, e.1 ++ v ∷ []) m, count_cons e m, length-append e.1 (v ∷ [])))
      | false ↦ (omega (arith, later.0), omega (arith, later.1, count_cons e (append m name v), count_cons e m))
    ]

-- the map of one more header
pub map_step : (buf : List ℕ) (hs : List HeaderSpan) (i : ℕ) (d : HeaderSpan) → i < length hs
    → fields_at buf (take (i + 1) hs) ≡ append (fields_at buf (take i hs)) (lowercase (span_bytes buf (get_or hs i d).name)) (plain_value (span_bytes buf (get_or hs i d).value))
map_step buf hs i d lt =
    let more : take (i + 1) hs ≡ take i hs ++ get_or hs i d ∷ [] = rw add-one (take-suc hs i d lt) in
    rw more (simp (map-append, fold-append) refl)

-- what holds of each field holds of each header that covers it
pub All-covered : {X Y Z : Type 0} (P : Z → Type 0) (f : X → Z) (g : Y → Z) (xs : List X) (ys : List Y) → map f xs ≡ map g ys → All (λ y. P (g y)) ys → All (λ x. P (f x)) xs
All-covered P f g xs ys same all k d lt =
    let there : All P (map f xs) = rw same (All-map P g ys all) in
    let within : k < length (map f xs) = rw length-map lt in
    subst P (get_or-map f xs k d (f d) lt) (there k (f d) within)
