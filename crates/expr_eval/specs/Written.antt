-- How computed numbers are written: decimals with digits on both sides of the point, as in the canonical representation of
-- XML Schema Part 2: Datatypes, Second Edition, section 3.2.3.2, and integers as in its section 3.3.13.2 (version 1.1 drops the point of a
-- whole decimal, section 3.3.3.2 there, and is not followed in this; docs/FORMATS.md, "Values of expressions").
use Rattle.std.specs.Prelude.{ℕ, zero, suc, ◌+◌, ◌/◌, ◌%◌, ◌^◌, ◌==◌, if◌then◌else◌, List, [], ◌∷◌, ◌++◌, None, ℤ, pos, negsuc, unsigned_abs}
use Rattle.std.specs.List.{list_all}
use Rattle.std.specs.Fmt.{decimal}
use Rattle.value_core.specs.declared.numbers.Number.{Number}
use Rattle.rdf_terms.specs.declared.term.Term.{Term}
use Rattle.rdf_terms.specs.declared.term.Term.TheVariants.{Literal}
use Rattle.expr_eval.specs.Names.{integer_type, decimal_type}

-- the last digits of a number, so many of them
unfoldable pub last_digits : ℕ → ℕ → List ℕ
last_digits zero n = []
last_digits (suc k) n = (48 + n / 10 ^ k % 10) ∷ last_digits k n

-- the digits without the zeros at their end
abbrev pub without_zeros : List ℕ → List ℕ
without_zeros [] = []
without_zeros (d ∷ ds) = if list_all (λ c. c == 48) (d ∷ ds) then [] else d ∷ without_zeros ds

-- the same, but the first digit stays
abbrev pub after_point : List ℕ → List ℕ
after_point [] = []
after_point (d ∷ ds) = d ∷ without_zeros ds

-- a minus where the number is negative
abbrev pub sign_text : ℤ → List ℕ
sign_text (pos n) = []
sign_text (negsuc n) = 45 ∷ []

-- an integer in digits; a decimal with digits before and after its point, and no zeros at the end but one
abbrev pub number_text : Number → List ℕ
number_text n =
    let parts = unsigned_abs n.scaled in
    let front = sign_text n.scaled ++ decimal (parts / 10 ^ 18) in
    if n.whole then front else front ++ 46 ∷ after_point (last_digits 18 parts)

-- a number as a literal: an integer where its type is an integer type, else a decimal
abbrev pub number_term : Number → Term
number_term n = Literal (if n.whole then integer_type else decimal_type) None (number_text n)
