-- The segments of a path, taken off one by one, and the list of those that are kept.
use Rattle.std.proofs.Common.{◌≡◌, ℕ, ◌+◌, ◌<◌, suc, Bool, true, false, cond, List, [], ◌∷◌, ◌++◌, length, refl, sym, ap, ◌∙◌, arith, append_assoc}
use Rattle.std.proofs.Common.{Some, None, lit<}
use Rattle.std.specs.Prelude.{not, ◌==◌}
use denote.Ref.{Bor}
use Rattle.std.specs.List.{onto_first, position_or_len, before_first, after_first, join_with_byte}
use Rattle.std.proofs.Common.{take, get_or, ltb, append-nil}
use Rattle.std.proofs.lemmas.Bool.{ltb-true, ltb-false}
use Rattle.std.proofs.lemmas.List.{map_more, length-map, length-take-le}
use Rattle.std.proofs.lemmas.List.Splits.{slice_split_first}
use Rattle.std.proofs.lemmas.Str.Pattern.{IsSplitOnceResult, split_once_first}
use Rattle.iri_core.specs.Kept.{texts, latest_first, slash_before}
use Rattle.iri_core.specs.Reference.{slash}
use Rattle.iri_core.specs.Dots.{Segment, segments, is_dots, without_leading, kept_after, kept_after_all}

-- a path has a first segment
pub record HasFirst (xs : List Segment) : Type 0 where
  pub first : Segment
  pub more : List Segment
  pub is : xs ≡ first ∷ more

has_first_by : (b : Bool) (x : ℕ) (xs : List Segment) → HasFirst (cond b ([] ∷ xs) (onto_first x xs))
has_first_by true x xs = record { first = []; more = xs; is = refl }
has_first_by false x [] = record { first = x ∷ []; more = []; is = refl }
has_first_by false x (s ∷ more) = record { first = x ∷ s; more = more; is = refl }

pub has_first : (path : List ℕ) → HasFirst (segments path)
has_first [] = record { first = []; more = []; is = refl }
has_first (x ∷ path) = has_first_by (x == slash) x (segments path)

-- one segment alone
whole_by : (b : Bool) (x : ℕ) (path : List ℕ) → (position_or_len (λ c. c == slash) path ≡ length path → segments path ≡ path ∷ []) → cond (not b) (1 + position_or_len (λ c. c == slash) path) 0 ≡ suc (length path) → cond b ([] ∷ segments path) (onto_first x (segments path)) ≡ (x ∷ path) ∷ []
whole_by true x path more h = absurd (omega arith)
whole_by false x path more h = ap (onto_first x) (more (omega arith))

pub segments_whole : (path : List ℕ) → position_or_len (λ b. b == slash) path ≡ length path → segments path ≡ path ∷ []
segments_whole [] h = refl
segments_whole (x ∷ path) h = whole_by (x == slash) x path (segments_whole path) h

-- the first segment goes off
pub segments_first : (path front rest : List ℕ) → front ≡ before_first (λ b. b == slash) path → rest ≡ after_first (λ b. b == slash) path → position_or_len (λ b. b == slash) path < length path → segments path ≡ front ∷ segments rest
segments_first path front rest e f lt = slice_split_first (λ b. b == slash) path 0 lt ∙ sym (ap (λ s. s ∷ segments (after_first (λ b. b == slash) path)) e ∙ refl) ∙ ap (λ (r : List ℕ). front ∷ segments r) (sym f)

kept_step_by : (kept xs : List Segment) (s : Segment) → HasFirst xs → kept_after_all kept (s ∷ xs) ≡ kept_after_all (kept_after kept s) xs
kept_step_by kept xs s h = ap (λ (l : List Segment). kept_after_all kept (s ∷ l)) h.is ∙ sym (ap (kept_after_all (kept_after kept s)) h.is)

pub kept_step : (kept : List Segment) (s : Segment) (rest : List ℕ) → kept_after_all kept (s ∷ segments rest) ≡ kept_after_all (kept_after kept s) (segments rest)
kept_step kept s rest = kept_step_by kept (segments rest) s (has_first rest)

-- what `split_once` at a slash tells
pub no_slash : (path : List ℕ) → IsSplitOnceResult 47 path None → segments path ≡ path ∷ []
no_slash path h = segments_whole path (split_once_first 47 path None h (lit< tt))

pub some_slash : (path : List ℕ) (x : Bor (List ℕ) × Bor (List ℕ)) → IsSplitOnceResult 47 path (Some x) → segments path ≡ x.0.now ∷ segments x.1.now
some_slash path x h = let w = split_once_first 47 path (Some x) h (lit< tt) in segments_first path x.0.now x.1.now w.1 w.2 w.0

stays_by : (s : Segment) (xs : List Segment) → HasFirst xs → is_dots s ≡ false → s ∷ xs ≡ without_leading (s ∷ xs)
stays_by s xs h e = ap (λ (l : List Segment). s ∷ l) h.is ∙ sym (ap (λ b. cond b (without_leading (h.first ∷ h.more)) (s ∷ h.first ∷ h.more)) e) ∙ sym (ap (λ (l : List Segment). without_leading (s ∷ l)) h.is)

-- a path that begins with no dot segment keeps its beginning
pub first_stays : (path front rest : List ℕ) → segments path ≡ front ∷ segments rest → is_dots front ≡ false → segments path ≡ without_leading (segments path)
first_stays path front rest e f = e ∙ stays_by front (segments rest) (has_first rest) f ∙ sym (ap without_leading e)

pub only_stays : (path : List ℕ) → segments path ≡ path ∷ [] → is_dots path ≡ false → segments path ≡ without_leading (segments path)
only_stays path e f = e ∙ sym (ap (λ b. cond b ([] ∷ []) (path ∷ [])) f) ∙ sym (ap without_leading e)

pub pushed_first : (items new : List (Bor (List ℕ))) (x : Bor (List ℕ)) → items ≡ [] → new ≡ items ++ x ∷ [] → latest_first new ≡ x.now ∷ []
pushed_first items new x e f = ap latest_first f ∙ ap (λ (l : List (Bor (List ℕ))). latest_first (l ++ x ∷ [])) e

pub join_push : (xs : List Segment) (y : Segment) → 0 < length xs → join_with_byte slash (xs ++ y ∷ []) ≡ join_with_byte slash xs ++ slash ∷ y
join_push [] y h = absurd (omega arith)
join_push (x ∷ []) y h = refl
join_push (x ∷ z ∷ xs) y h = ap (λ (l : List ℕ). x ++ slash ∷ l) (join_push (z ∷ xs) y (omega arith)) ∙ sym (append_assoc x (slash ∷ join_with_byte slash (z ∷ xs)) (slash ∷ y))

joined_by : (b : Bool) (xs : List Segment) (y start before mid new : List ℕ) → (b ≡ true → 0 < length xs) → (b ≡ false → length xs ≡ 0)
    → before ≡ start ++ join_with_byte slash xs → mid ≡ before ++ cond b (slash ∷ []) [] → new ≡ mid ++ y → new ≡ start ++ join_with_byte slash (xs ++ y ∷ [])
joined_by true xs y start before mid new some none e f g =
    let j = join_with_byte slash xs in
    g
    ∙ ap (λ (l : List ℕ). l ++ y) (f ∙ ap (λ (l : List ℕ). l ++ slash ∷ []) e)
    ∙ append_assoc (start ++ j) (slash ∷ []) y
    ∙ append_assoc start j (slash ∷ y)
    ∙ ap (λ (l : List ℕ). start ++ l) (sym (join_push xs y (some refl)))
joined_by false [] y start before mid new some none e f g =
    g ∙ ap (λ (l : List ℕ). l ++ y) (f ∙ append-nil before ∙ e ∙ append-nil start)
joined_by false (x ∷ xs) y start before mid new some none e f g = let h : suc (length xs) ≡ 0 = none refl in absurd (omega arith)

-- one segment more is joined
pub joined_more : (segments : List (Bor (List ℕ))) (i : ℕ) (d : Bor (List ℕ)) (start before mid new : List ℕ) → i < length segments
    → before ≡ start ++ join_with_byte slash (texts (take i segments)) → mid ≡ before ++ slash_before i → new ≡ mid ++ (get_or segments i d).now
    → new ≡ start ++ join_with_byte slash (texts (take (i + 1) segments))
joined_more segments i d start before mid new lt e f g =
    let now = λ (s : Bor (List ℕ)). s.now in
    let size : length (texts (take i segments)) ≡ i = length-map (take i segments) now ∙ length-take-le i segments (omega arith) in
    joined_by (ltb 0 i) (texts (take i segments)) (get_or segments i d).now start before mid new (λ h. let p = ltb-true 0 i h in omega arith) (λ h. let p = ltb-false 0 i h in omega arith) e f g
    ∙ ap (λ (l : List Segment). start ++ join_with_byte slash l) (sym (map_more now segments i d lt))
