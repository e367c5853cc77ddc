-- A number of bytes as the code holds it: one past 64 bits counts as the greatest, which is more than any file has.
use Rattle.std.specs.Prelude.{ℕ, ◌-◌, ◌^◌, min}
use Rattle.site_core.specs.declared.expected.Field.{Field}
use Rattle.site_core.specs.declared.expected.Field.TheVariants.{Media, Coding, Location, Size}
use Rattle.site_core.specs.declared.expected.Step.{Step}
use Rattle.site_core.specs.declared.expected.Step.TheVariants.{Misfit, Next, Finished, Body}

abbrev pub capped_number : ℕ → ℕ
capped_number n = min n (2 ^ 64 - 1)

abbrev pub capped_field : Field → Field
capped_field (Media value) = Media value
capped_field (Coding value) = Coding value
capped_field (Location value) = Location value
capped_field (Size n) = Size (capped_number n)

abbrev pub capped : Step → Step
capped Misfit = Misfit
capped (Next expected) = Next expected
capped Finished = Finished
capped (Body link reply n) = Body link reply (capped_number n)
