-- The values of numeric and boolean literals, and sums of numbers (docs/FORMATS.md, "Values").
use Rattle.std.specs.Prelude.{ℕ, ◌*◌, ◌/◌, ◌%◌, ◌^◌, Bool, true, false, ◌&&◌, ◌==◌, nat_lt, if◌then◌else◌, List, [], ◌++◌, length, Option, Some, None, ℤ, pos, negsuc, ◌+ℤ◌, ◌-ℤ◌, bytes_eq, codes}
use Rattle.std.specs.Option.{option_and_then, is_some}
use Rattle.value_core.specs.declared.datatypes.Datatype.{Datatype}
use Rattle.value_core.specs.declared.datatypes.Datatype.TheVariants.{Integer, Decimal, Boolean, Other}
use Rattle.value_core.specs.declared.numbers.Number.{Number}
use Rattle.value_core.specs.Datatypes.{datatype_of, is_within}
use Rattle.value_core.specs.Digits.{are_digits, whole_of, integer_of, has_minus, unsigned, front_of, back_of, signed}

-- whether an integer of 128 bits holds the number
abbrev pub fits : ℤ → Bool
fits (pos n) = nat_lt n (2 ^ 127)
fits (negsuc n) = nat_lt n (2 ^ 127)

-- the number, scaled already, where it fits
abbrev pub fitting : Bool → ℤ → Option Number
fitting whole scaled = if fits scaled then Some (record { scaled = scaled; whole = whole }) else None

-- the number that digits before and after a point write, times 10 ^ 18, where that is whole
abbrev pub scaled_of : List ℕ → List ℕ → Option ℕ
scaled_of front back =
    let parts = whole_of (front ++ back) * 10 ^ 18 in
    if parts % 10 ^ length back == 0 then Some (parts / 10 ^ length back) else None

-- the same with its sign, where it fits
abbrev pub number_from : Bool → Bool → List ℕ → List ℕ → Option Number
number_from whole negative front back = option_and_then (λ n. fitting whole (signed negative n)) (scaled_of front back)

-- an optional sign and digits, within the bounds
abbrev pub is_integer : Option ℤ → Option ℤ → List ℕ → Bool
is_integer low high text = are_digits (unsigned text) [] && is_within low high (integer_of text)

-- an optional sign and digits, with an optional point among them
abbrev pub is_decimal : List ℕ → Bool
is_decimal text = are_digits (front_of (unsigned text)) (back_of (unsigned text))

abbrev pub integer_number : Option ℤ → Option ℤ → List ℕ → Option Number
integer_number low high text = if is_integer low high text then number_from true (has_minus text) (unsigned text) [] else None

abbrev pub decimal_number : List ℕ → Option Number
decimal_number text =
    if is_decimal text then number_from false (has_minus text) (front_of (unsigned text)) (back_of (unsigned text)) else None

-- the value of a boolean's form
abbrev pub truth_of : List ℕ → Option Bool
truth_of text =
    if bytes_eq text (codes "true") then Some true
    else (if bytes_eq text (codes "1") then Some true
    else (if bytes_eq text (codes "false") then Some false
    else (if bytes_eq text (codes "0") then Some false else None)))

abbrev pub number_as : Datatype → List ℕ → Option Number
number_as (Integer low high) text = integer_number low high text
number_as Decimal text = decimal_number text
number_as Boolean text = None
number_as Other text = None

abbrev pub is_well_formed_as : Datatype → List ℕ → Bool
is_well_formed_as (Integer low high) text = is_integer low high text
is_well_formed_as Decimal text = is_decimal text
is_well_formed_as Boolean text = is_some (truth_of text)
is_well_formed_as Other text = false

abbrev pub boolean_as : Datatype → List ℕ → Option Bool
boolean_as Boolean text = truth_of text
boolean_as (Integer low high) text = None
boolean_as Decimal text = None
boolean_as Other text = None

-- the number that a form stands for at a datatype, where it has one
unfoldable pub number_of : List ℕ → List ℕ → Option Number
number_of lexical datatype = number_as (datatype_of datatype) lexical

-- the truth value that a form stands for at a datatype, where it has one
unfoldable pub boolean_of : List ℕ → List ℕ → Option Bool
boolean_of lexical datatype = boolean_as (datatype_of datatype) lexical

-- whether a form is valid for a numeric or boolean datatype
unfoldable pub is_well_formed : List ℕ → List ℕ → Bool
is_well_formed lexical datatype = is_well_formed_as (datatype_of datatype) lexical

-- whether the forms of a datatype are judged: an integer type, decimal or boolean
abbrev pub is_judged_as : Datatype → Bool
is_judged_as (Integer low high) = true
is_judged_as Decimal = true
is_judged_as Boolean = true
is_judged_as Other = false

unfoldable pub has_value_space : List ℕ → Bool
has_value_space datatype = is_judged_as (datatype_of datatype)

-- a sum is of an integer type exactly where both numbers are
abbrev pub sum_of : Number → Number → Option Number
sum_of a b = fitting (a.whole && b.whole) (a.scaled +ℤ b.scaled)

abbrev pub difference_of : Number → Number → Option Number
difference_of a b = fitting (a.whole && b.whole) (a.scaled -ℤ b.scaled)

-- the integer where an integer of 128 bits holds it
abbrev pub held : ℤ → Option ℤ
held z = if fits z then Some z else None
