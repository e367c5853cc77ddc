-- What a computed boolean stands for.
use Rattle.std.proofs.Common.{◌≡◌, Bool, true, false, Some, None, refl}
use Rattle.value_core.specs.Numbers.{number_of, boolean_of}
use Rattle.expr_eval.specs.Truth.{number_in, truth_of_term}
use Rattle.expr_eval.specs.Value.{boolean_term}

pub truth_of_boolean : (b : Bool) → truth_of_term (boolean_term b) ≡ Some b
unfolding boolean_of
truth_of_boolean true = refl
truth_of_boolean false = refl

pub number_in_boolean : (b : Bool) → number_in (boolean_term b) ≡ None
unfolding number_of
number_in_boolean true = refl
number_in_boolean false = refl
