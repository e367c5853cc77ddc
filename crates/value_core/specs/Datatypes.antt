-- The datatypes whose forms are judged (XML Schema Definition Language 1.1 Part 2, sections 3.3.2, 3.3.3 and 3.4.13 to 3.4.25).
use Rattle.std.specs.Prelude.{ℕ, ◌-◌, ◌^◌, Bool, true, if◌then◌else◌, List, [], ◌∷◌, length, drop, Option, Some, None, ℤ, pos, negsuc, bytes_eq, codes, nat_eq, int_le, ◌&&◌}
use Rattle.std.specs.List.{starts_with}
use Rattle.value_core.specs.declared.datatypes.Datatype.{Datatype}
use Rattle.value_core.specs.declared.datatypes.Datatype.TheVariants.{Integer, Decimal, Boolean, Other}

-- the namespace of XML Schema's datatypes
abbrev pub namespace : List ℕ
namespace = codes "http://www.w3.org/2001/XMLSchema#"

-- an integer type of so many bits, with a sign and without
abbrev pub signed_bits : ℕ → Datatype
signed_bits bits = Integer (Some (negsuc (2 ^ (bits - 1) - 1))) (Some (pos (2 ^ (bits - 1) - 1)))

abbrev pub unsigned_bits : ℕ → Datatype
unsigned_bits bits = Integer (Some (pos 0)) (Some (pos (2 ^ bits - 1)))

-- each datatype by its name, an integer type with its least and its greatest value where it has one
abbrev pub table : List (List ℕ × Datatype)
table =
    (codes "integer", Integer None None)
    ∷ (codes "decimal", Decimal)
    ∷ (codes "boolean", Boolean)
    ∷ (codes "nonPositiveInteger", Integer None (Some (pos 0)))
    ∷ (codes "negativeInteger", Integer None (Some (negsuc 0)))
    ∷ (codes "nonNegativeInteger", Integer (Some (pos 0)) None)
    ∷ (codes "positiveInteger", Integer (Some (pos 1)) None)
    ∷ (codes "long", signed_bits 64)
    ∷ (codes "int", signed_bits 32)
    ∷ (codes "short", signed_bits 16)
    ∷ (codes "byte", signed_bits 8)
    ∷ (codes "unsignedLong", unsigned_bits 64)
    ∷ (codes "unsignedInt", unsigned_bits 32)
    ∷ (codes "unsignedShort", unsigned_bits 16)
    ∷ (codes "unsignedByte", unsigned_bits 8)
    ∷ []

-- the datatype of that name in the table, or another
abbrev pub named : List (List ℕ × Datatype) → List ℕ → Datatype
named [] name = Other
named (row ∷ rows) name = if bytes_eq name row.0 then row.1 else named rows name

-- the datatype of an IRI
abbrev pub datatype_of : List ℕ → Datatype
datatype_of iri = if starts_with nat_eq iri namespace then named table (drop (length namespace) iri) else Other

-- the bounds hold, where there are any
abbrev pub is_at_least : Option ℤ → ℤ → Bool
is_at_least None z = true
is_at_least (Some low) z = int_le low z

abbrev pub is_at_most : Option ℤ → ℤ → Bool
is_at_most None z = true
is_at_most (Some high) z = int_le z high

abbrev pub is_within : Option ℤ → Option ℤ → ℤ → Bool
is_within low high z = is_at_least low z && is_at_most high z
