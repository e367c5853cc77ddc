-- Keywords that are read in any case (SPARQL 1.1, section 19.8; RDF 1.1 Turtle, section 6.5).
use Rattle.std.specs.Prelude.{ℕ, ◌==◌, ◌&&◌, Bool, true, false, List, [], ◌∷◌}
use Rattle.terminals.specs.Values.{lower}

-- the bytes are this word in any case, which is given in lower case
abbrev pub is_word : List ℕ → List ℕ → Bool
is_word [] [] = true
is_word [] (b ∷ bs) = false
is_word (a ∷ as') [] = false
is_word (a ∷ as') (b ∷ bs) = lower a == b && is_word as' bs
