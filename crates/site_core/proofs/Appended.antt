-- Texts that are appended one after another.
use Rattle.std.proofs.Common.{◌≡◌, ℕ, List, ◌++◌, Result, Ok, Err, OnOk, ap, ◌∙◌, append_assoc}

pub then_appended : {T E : Type 0} (r : Result T E) (old mid new xs ys : List ℕ) → mid ≡ old ++ xs → OnOk r (new ≡ mid ++ ys) → OnOk r (new ≡ old ++ (xs ++ ys))
then_appended (Ok t) old mid new xs ys first then_ = then_ ∙ ap (λ bs. bs ++ ys) first ∙ append_assoc old xs ys
then_appended (Err e) old mid new xs ys first then_ = tt
