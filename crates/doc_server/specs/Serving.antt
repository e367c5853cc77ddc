-- How the serving of a site goes: connection by connection, and to which ending.
use Rattle.std.specs.Prelude.{◌≡◌, ◌≤◌, ◌<◌, ◌+◌, ℕ, List, [], ◌∷◌, ◌++◌, length, take, Bool, true, false, Some, None}
use Prim.Native.Nat.{zero, suc}
use Rattle.std.specs.declared.option.Option.{Option}
use Rattle.std.specs.Io.KnownBytes.{prepend_known, IsAtEnd}
use Rattle.outer_ports.specs.Causes.{Rose, RoseOnce, one_more}
use Rattle.site_core.specs.Serving.{IsServed}
use Rattle.site_core.specs.Text.{Entry, SiteText, site_limit}
use Rattle.site_core.specs.Places.{SiteBad}
use Rattle.doc_server.specs.declared.site_serving.Turn.{Turn}
use Rattle.doc_server.specs.declared.site_serving.Turn.TheVariants as turn
use Rattle.doc_server.specs.declared.ending.Ending.{Ending}
use Rattle.doc_server.specs.declared.ending.Ending.TheVariants.{Served, Usage, Site, Input, Network, Memory}
use Rattle.doc_server.specs.Writing.{BeginsResponse, request_limit}
use Rattle.doc_server.specs.Peering.{Answered, Peering, Fails}

-- ---- answers

-- an answer to what a connection held: the response to its first bytes, or a beginning of it where it had faults
abbrev pub AnswersBy : List Entry → List ℕ → List ℕ → Bool → Type 0
AnswersBy site asked content false = IsServed site (take request_limit asked) content
AnswersBy site asked content true = BeginsResponse site (take request_limit asked) content

-- there is one answer to each of those that asked
abbrev pub AnswersEach : List Entry → List (List ℕ) → List Answered → Type 0
AnswersEach site [] [] = Unit {0}
AnswersEach site [] (answer ∷ answers) = ⊥
AnswersEach site (asked ∷ more) [] = ⊥
AnswersEach site (asked ∷ more) (answer ∷ answers) = AnswersBy site asked answer.content answer.faulty × AnswersEach site more answers

-- ---- connections

-- a count that was raised by one so many times; one that is kept in 64 bits stands still at its end
abbrev pub risen : ℕ → ℕ → ℕ
risen n zero = n
risen n (suc k) = one_more (risen n k)

-- so many connections were given and each was handed back
pub record HandsBack (k : ℕ) (old new : Peering) : Type 0 where
  pub given : new.given ≡ risen old.given k
  pub returned : new.returned ≡ risen old.returned k
  pub later : old.faults ≤ new.faults

-- so many connections were added to those that are told, and each was answered
abbrev pub AddsAnswers : List Entry → ℕ → Peering → Peering → Type 0
AddsAnswers site k old new =
    (asked : List (List ℕ)) (wrote : List Answered) → old.asked ≡ Some asked → old.wrote ≡ Some wrote
    → (more : List (List ℕ)) × (answers : List Answered) × (length more ≡ k) × AnswersEach site more answers
    × (new.asked ≡ Some (asked ++ more)) × (new.wrote ≡ Some (wrote ++ answers))

-- so many connections were served one after the other: each was handed back, and answered
pub record ServesSoMany (site : List Entry) (k : ℕ) (old new : Peering) : Type 0 where
  pub back : HandsBack k old new
  pub answers : AddsAnswers site k old new

-- what becomes of the next connection
abbrev pub Turns : List Entry → Peering → Turn → Peering → Type 0
Turns site old turn.Served new = ServesSoMany site 1 old new
Turns site old turn.Failed new = Fails old new
Turns site old turn.Memory new = (k : ℕ) × (k ≤ 1) × HandsBack k old new

-- ---- endings

abbrev pub code_of : Ending → ℕ
code_of Served = 0
code_of Usage = 2
code_of Site = 6
code_of Input = 7
code_of Network = 9
code_of Memory = 10

-- how the serving of so many connections by a site ends
abbrev pub EndsEach : List Entry → ℕ → Peering → Ending → Peering → Type 0
EndsEach site count old Served new = ServesSoMany site count old new
EndsEach site count old Network new = (k : ℕ) × (k < count) × ServesSoMany site k old new × Rose old.faults new.faults
EndsEach site count old Memory new = (k : ℕ) × (k ≤ count) × HandsBack k old new
EndsEach site count old Usage new = ⊥
EndsEach site count old Site new = ⊥
EndsEach site count old Input new = ⊥

-- how the serving by the site that the bytes are ends
abbrev pub EndsOver : List ℕ → ℕ → Peering → Ending → Peering → Type 0
EndsOver bytes count old Served new = (site : List Entry) × SiteText site bytes × EndsEach site count old Served new
EndsOver bytes count old Network new = (site : List Entry) × SiteText site bytes × EndsEach site count old Network new
EndsOver bytes count old Site new = ((at : ℕ) × SiteBad bytes at) × (new ≡ old)
EndsOver bytes count old Memory new = (k : ℕ) × (k ≤ count) × HandsBack k old new
EndsOver bytes count old Usage new = ⊥
EndsOver bytes count old Input new = ⊥

-- an input: what is left, where it is told, and how often it failed and was at its end
pub record Feed : Type 0 where
  pub left : Option (List ℕ)
  pub faults : ℕ
  pub ends : ℕ

-- these bytes were read: all that were left, to the End, or one more than a site file may have
pub record ReadsSome (old : Feed) (bytes : List ℕ) (new : Feed) : Type 0 where
  pub read : old.left ≡ prepend_known bytes new.left
  pub most : length bytes ≤ site_limit + 1
  pub at_end : length bytes ≤ site_limit → IsAtEnd new.left × Rose old.ends new.ends

-- these bytes were all that were left, and the End was answered
pub record ReadsAll (old : Feed) (bytes : List ℕ) (new : Feed) : Type 0 where
  pub read : old.left ≡ prepend_known bytes new.left
  pub at_end : IsAtEnd new.left
  pub ended : Rose old.ends new.ends

-- how the serving by the site of an input ends
abbrev pub EndsFrom : ℕ → Feed → Feed → Peering → Ending → Peering → Type 0
EndsFrom count input input' old Served new = (bytes : List ℕ) × ReadsAll input bytes input' × EndsOver bytes count old Served new
EndsFrom count input input' old Network new = (bytes : List ℕ) × ReadsAll input bytes input' × EndsOver bytes count old Network new
EndsFrom count input input' old Site new = (bytes : List ℕ) × ReadsSome input bytes input' × EndsOver bytes count old Site new
EndsFrom count input input' old Memory new = (k : ℕ) × (k ≤ count) × HandsBack k old new
EndsFrom count input input' old Input new = RoseOnce input.faults input'.faults × (new ≡ old)
EndsFrom count input input' old Usage new = ⊥

-- how what the words ask for ends: where they ask for no number of connections, nothing was touched
abbrev pub Ends : Option ℕ → Feed → Feed → Peering → Ending → Peering → Type 0
Ends None input input' old ending new = (ending ≡ Usage) × (input' ≡ input) × (new ≡ old)
Ends (Some count) input input' old ending new = EndsFrom count input input' old ending new
