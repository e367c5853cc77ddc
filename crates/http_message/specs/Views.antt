-- What the state of a reading says of the bytes that have come.
use Rattle.std.specs.Prelude.{◌≡◌, ℕ, ◌<◌, ◌≤◌, ◌⊎◌, List, [], ◌++◌, length, take, Bool, true, false, Option, None}
use Rattle.httparse.specs.Grammar.{ResponseHead}
use Rattle.link_uri.specs.declared.heard.Heard.{Heard}
use Rattle.link_uri.specs.declared.heard.Heard.TheVariants as heard
use Rattle.http_message.specs.declared.lines.Place.{Place}
use Rattle.http_message.specs.declared.lines.Place.TheVariants.{Front}
use Rattle.http_message.specs.declared.body.Ended.{Ended}
use Rattle.http_message.specs.declared.body.Ended.TheVariants as ended
use Rattle.http_message.specs.declared.reading.Phase.{Phase}
use Rattle.http_message.specs.declared.reading.Phase.TheVariants as phase
use Rattle.http_message.specs.declared.reading.Fed.{Fed}
use Rattle.http_message.specs.declared.reading.Fed.TheVariants as given
use Rattle.http_message.specs.Heads.{IsHead}
use Rattle.http_message.specs.Facts.{facts_of, is_interim}
use Rattle.http_message.specs.Lines.{end_from, place_after, skip_from, held}
use Rattle.http_message.specs.Body.{decided, undecided, message_from}
use Rattle.http_message.specs.Reading.{Found, Finds, Reads, head_limit, most_undecided}
use Rattle.http_message.specs.Ended.{heard_at_end}
use Rattle.http_message.specs.State.{BodyState, progress_from, is_decided}

-- a reading: so many bytes have come up to the end of the final head, and these of the head that has not ended
pub record ReadingState : Type 0 where
  pub limit : ℕ
  pub seen : ℕ
  pub phase : Phase
  pub head : List ℕ

abbrev pub is_done_at : Phase → Bool
is_done_at (phase.Blank cr) = false
is_done_at (phase.Head place) = false
is_done_at (phase.Body body) = is_decided body.stage

-- what is heard has been given
abbrev pub is_done : ReadingState → Bool
is_done s = is_done_at s.phase

-- ---- what holds of each state

-- in a head that has not ended
pub record IsInHead (place : Place) (seen : ℕ) (head : List ℕ) : Type 0 where
  pub short : length head ≤ seen
  pub fits : seen ≤ head_limit
  pub none : end_from Front head ≡ None
  pub here : place_after Front head ≡ place

abbrev pub IsSound : Phase → ℕ → List ℕ → Type 0
IsSound (phase.Blank cr) seen head = (head ≡ []) × (seen ≤ head_limit) × (length (held cr) ≤ seen)
IsSound (phase.Head place) seen head = IsInHead place seen head
IsSound (phase.Body body) seen head = Unit {0}

-- ---- the bytes that have come

-- they are empty lines, and perhaps a CR
pub record HasBlank (cr : Bool) (seen : ℕ) (fed : List ℕ) : Type 0 where
  pub counts : length fed ≡ seen
  pub skips : (more : List ℕ) → skip_from false (fed ++ more) ≡ skip_from cr more

-- what is found from the front of the head on is found in all bytes
pub record HasHead (seen : ℕ) (head fed : List ℕ) : Type 0 where
  pub counts : length fed ≡ seen
  pub finds : (more : List ℕ) (found : Found) (is : List ResponseHead) → Finds is (head ++ more) found
      → (js : List ResponseHead) × Finds js (skip_from false (fed ++ more)) found

-- what the body comes to with more bytes is what all bytes come to
pub record HasBody (body : BodyState) (limit : ℕ) (fed : List ℕ) : Type 0 where
  pub limit_is : body.limit ≡ limit
  pub reads : (more : List ℕ) → Reads limit (fed ++ more) (progress_from body more)

abbrev pub HasReadAt : Phase → ℕ → ℕ → List ℕ → List ℕ → Type 0
HasReadAt (phase.Blank cr) limit seen head fed = HasBlank cr seen fed
HasReadAt (phase.Head place) limit seen head fed = HasHead seen head fed
HasReadAt (phase.Body body) limit seen head fed = HasBody body limit fed

-- the state is one to which these bytes have come
abbrev pub HasRead : ReadingState → List ℕ → Type 0
HasRead s fed = HasReadAt s.phase s.limit s.seen s.head fed

-- n bytes of the piece were read
pub record Takes (old : ReadingState) (piece : List ℕ) (n : ℕ) (new : ReadingState) : Type 0 where
  pub some : 0 < n
  pub within : n ≤ length piece
  pub limit : new.limit ≡ old.limit
  pub next : (fed : List ℕ) → HasRead old fed → HasRead new (fed ++ take n piece)

-- ---- the end of a head

-- a whole head is no response head, and the message is malformed
pub record IsNoHead (head : List ℕ) (body : BodyState) : Type 0 where
  pub none : (h : ResponseHead) → IsHead head h → ⊥
  pub malformed : (more : List ℕ) → progress_from body more ≡ decided heard.Malformed

-- a whole head is final, and the body goes on as it says
pub record IsFinalHead (limit : ℕ) (head : List ℕ) (body : BodyState) : Type 0 where
  pub tree : ResponseHead
  pub is_head : IsHead head tree
  pub last : is_interim tree ≡ false
  pub goes_on : (more : List ℕ) → message_from (facts_of tree) limit more ≡ progress_from body more

-- a whole head is followed by another
pub record IsInterimHead (head : List ℕ) : Type 0 where
  pub tree : ResponseHead
  pub is_head : IsHead head tree
  pub interim : is_interim tree ≡ true

-- the phase after a whole head, and what is kept of it
abbrev pub IsAfterHead : ℕ → List ℕ → Phase → List ℕ → Type 0
IsAfterHead limit head (phase.Blank cr) kept = ⊥
IsAfterHead limit head (phase.Head place) kept = (place ≡ Front) × (kept ≡ []) × IsInterimHead head
IsAfterHead limit head (phase.Body body) kept = (body.limit ≡ limit) × (IsNoHead head body ⊎ IsFinalHead limit head body)

-- ---- what is given where these are all bytes so far

-- the answer says what is heard
abbrev pub tells : Fed → Bool
tells given.More = false
tells (given.Done heard) = true

-- they leave open what is heard
pub record GoesOn (limit : ℕ) (bytes : List ℕ) (new : ReadingState) : Type 0 where
  pub limit_is : new.limit ≡ limit
  pub going : is_done new ≡ false
  pub read : HasRead new bytes
  pub ended : Option Heard
  pub reads : Reads limit bytes (undecided ended)
  pub few : length bytes ≤ most_undecided limit

-- they decide what is heard, whatever follows
pub record IsSettled (limit : ℕ) (bytes : List ℕ) (heard : Heard) (new : ReadingState) : Type 0 where
  pub done : is_done new ≡ true
  pub reads : (more : List ℕ) → Reads limit (bytes ++ more) (decided heard)

abbrev pub Gives : ℕ → List ℕ → Fed → ReadingState → Type 0
Gives limit bytes given.More new = GoesOn limit bytes new
Gives limit bytes (given.Done heard) new = IsSettled limit bytes heard new

abbrev pub Ends : ℕ → List ℕ → Ended → Type 0
Ends limit bytes end = Reads limit bytes (undecided (heard_at_end end))

-- once something is heard the reading is done, and a cut changes nothing
abbrev pub IsAfterEnd : ReadingState → Ended → ReadingState → Type 0
IsAfterEnd old (ended.Done heard) new = is_done new ≡ true
IsAfterEnd old ended.Cut new = new ≡ old
