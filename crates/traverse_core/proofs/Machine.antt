-- Lists of steps.
use Rattle.std.proofs.Common.{◌≡◌, List, [], ◌∷◌, ◌++◌, refl, subst, append_assoc, sym, ◌∙◌}
use Rattle.traverse_core.specs.declared.steps.Command.{Command}
use Rattle.traverse_core.specs.Run.{Run}
use Rattle.traverse_core.specs.State.{State}
use Rattle.traverse_core.specs.Steps.{Does, Follows}

-- one more step, behind the others
pub follows_more : (run : Run) (made : List Command) (command : Command) (s m t : State) → Follows run made s m → Does run command m t → Follows run (made ++ command ∷ []) s t
follows_more run [] command s m t f d = (t, subst (λ (x : State). Does run command x t) f d, refl)
follows_more run (c ∷ made) command s m t f d = (f.0, f.1, follows_more run made command f.0 m t f.2 d)
