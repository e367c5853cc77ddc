-- What a parse by `clap` says of the rows that it finds.
use Rattle.std.proofs.Common.{◌≡◌, true, refl, [], ◌∷◌, Some, None, ⊎_elim, sym, ap, ◌∙◌, List}
use Rattle.std.specs.Prelude.{◌⊎◌}
use Rattle.std.proofs.lemmas.Bool.{and_parts}
use Rattle.clap.specs.Words.{App, Row, Text, fault_of, is_simple, is_simple_and_free, matches_of}
use Rattle.clap.specs.Kinds.{Kinds, IsAmong}
use Rattle.clap.specs.Faults.{is_free_app}
use Rattle.clap.specs.Simple.{built}
use Rattle.clap.specs.declared.error.kind.ErrorKind.{ErrorKind}
use Rattle.clap.specs.declared.error.kind.ErrorKind.TheVariants.{OutOfMemory}
use Rattle.command_words.specs.Grammar.{rows_if, unless_refused}

-- a command without rules between arguments is simple
pub simple_of : (app : App) → is_simple_and_free app ≡ true → is_simple app ≡ true
simple_of app h = (and_parts (is_simple app) (is_free_app (built app)) h).0

refused_among : (k : ErrorKind) (kinds : Kinds) (rows : List Row) → IsAmong k kinds → unless_refused kinds rows ≡ None
refused_among k [] rows h = absurd h
refused_among k (x ∷ kinds) rows h = refl

pub rows_found : (app : App) (words : List Text) (rows : List Row) → fault_of app words ≡ [] → rows ≡ matches_of app words → Some rows ≡ rows_if app words
unfolding rows_if
rows_found app words rows none found = sym (ap (λ kinds. unless_refused kinds (matches_of app words)) none ∙ ap (λ r. Some r) (sym found))

-- an error other than of memory refuses the words
pub rows_refused : (app : App) (words : List Text) (k : ErrorKind) → (k ≡ OutOfMemory) ⊎ IsAmong k (fault_of app words) → ¬ (k ≡ OutOfMemory) → None ≡ rows_if app words
unfolding rows_if
rows_refused app words k h other = sym (⊎_elim (λ memory. absurd (other memory)) (λ among. refused_among k (fault_of app words) (matches_of app words) among) h)
