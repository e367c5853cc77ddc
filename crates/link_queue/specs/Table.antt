-- A table of links: a list of rows, each a link with its state. A link's number is its place.
--
-- The words take any kind of link, so that they also serve a table that is read by texts alone.
use Rattle.std.specs.Prelude.{ℕ, zero, suc, ◌≡◌, ◌≤◌, ◌+◌, List, [], ◌∷◌, ◌++◌, Option, Some, None, Bool, if◌then◌else◌, map, slice_get, length}
use Rattle.std.specs.Option.{option_map}
use Rattle.std.specs.List.{list_any}
use Rattle.rdf_terms.specs.Lists.{Apart}
use Rattle.link_uri.specs.declared.link.Link.{Link}
use Rattle.link_uri.specs.Links.{texts, same_link, AreLinks}
use Rattle.link_queue.specs.declared.state.LinkState.{LinkState}
use Rattle.link_queue.specs.declared.state.LinkState.TheVariants.{Queued}
use Rattle.link_queue.specs.LinkStates.{is_queued, is_flying, weight}

-- the links, in order
abbrev pub links : {X : Type 0} → List (X × LinkState) → List X
links rows = map (λ row. row.0) rows

-- the link of a number, if there is one
abbrev pub link_at : {X : Type 0} → List (X × LinkState) → ℕ → Option X
link_at rows number = option_map (λ row. row.0) (slice_get rows number)

-- the state of the link of a number, if there is one
abbrev pub state_at : {X : Type 0} → List (X × LinkState) → ℕ → Option LinkState
state_at rows number = option_map (λ row. row.1) (slice_get rows number)

-- the rows with a new state at a number
abbrev pub with_state : {X : Type 0} → List (X × LinkState) → ℕ → LinkState → List (X × LinkState)
with_state [] number state = []
with_state (row ∷ rows) zero state = (row.0, state) ∷ rows
with_state (row ∷ rows) (suc number) state = row ∷ with_state rows number state

-- the number of the first link whose state passes the test
abbrev pub first_of : {X : Type 0} → (LinkState → Bool) → List (X × LinkState) → Option ℕ
first_of test [] = None
first_of test (row ∷ rows) = if test row.1 then Some 0 else option_map suc (first_of test rows)

-- the number of the first link that waits
abbrev pub first_queued : {X : Type 0} → List (X × LinkState) → Option ℕ
first_queued rows = first_of is_queued rows

-- the number of the first link that is being looked up
abbrev pub first_flying : {X : Type 0} → List (X × LinkState) → Option ℕ
first_flying rows = first_of is_flying rows

-- how many are being looked up
abbrev pub flying : {X : Type 0} → List (X × LinkState) → ℕ
flying [] = 0
flying (row ∷ rows) = weight row.1 + flying rows

-- the links that wait, in order
abbrev pub queued_links : {X : Type 0} → List (X × LinkState) → List X
queued_links [] = []
queued_links (row ∷ rows) = if is_queued row.1 then row.0 ∷ queued_links rows else queued_links rows

-- the rows with the link, which goes last and waits where its text is new
abbrev pub queue : List (Link × LinkState) → Link → List (Link × LinkState)
queue rows link = if list_any (same_link link) (links rows) then rows else rows ++ (link, Queued) ∷ []

-- the rows with the links, one after another
abbrev pub queue_all : List (Link × LinkState) → List Link → List (Link × LinkState)
queue_all rows [] = rows
queue_all rows (link ∷ more) = queue_all (queue rows link) more

-- a row with the link's text for the link
abbrev pub mark : Link × LinkState → List ℕ × LinkState
mark row = (row.0.text, row.1)

-- the rows by the texts of their links
abbrev pub marks : List (Link × LinkState) → List (List ℕ × LinkState)
marks rows = map mark rows

-- what a table keeps: no text stands twice, each link is the link of its text, nothing waits
-- before the cursor, and there is room for the text of each link
pub record IsTable (rows : List (Link × LinkState)) (cursor : ℕ) (spare : List (List ℕ)) (room : ℕ) : Type 0 where
  pub apart : Apart (texts (links rows))
  pub valid_links : AreLinks (links rows)
  pub waits : (n : ℕ) → state_at rows n ≡ Some Queued → cursor ≤ n
  pub within : cursor ≤ length rows
  pub clear : spare ≡ []
  pub fits : length rows ≤ room
