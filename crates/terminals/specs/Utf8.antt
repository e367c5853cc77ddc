-- A text in UTF-8, character by character, after The Unicode Standard, section 3.9, table 3-7.
use Rattle.std.specs.Prelude.{ℕ, zero, suc, ◌+◌, ◌-◌, ◌*◌, List, [], ◌∷◌, Bool, ◌&&◌, ◌||◌, Option, Some, None, nat_lt, nat_le, if◌then◌else◌, slice_index, length, drop, map}
use Rattle.terminals.specs.declared.class.Class.{Class}
use Rattle.terminals.specs.declared.class.Class.TheVariants as classes
use Rattle.terminals.specs.Class.{classified}

-- a byte that goes on with a character
abbrev pub follows : ℕ → Bool
follows b = nat_le 128 b && nat_lt b 192

-- the code point at the front of the bytes and how many bytes it takes beside the first: the shortest form, and no surrogate
unfoldable pub decoded : List ℕ → Option (ℕ × ℕ)
decoded bytes =
    let a = slice_index bytes 0 in let b = slice_index bytes 1 in let c = slice_index bytes 2 in let d = slice_index bytes 3 in
    if nat_le 1 (length bytes) && nat_lt a 128 then Some (a, 0)
    else (if nat_le 2 (length bytes) && (nat_le 0xc2 a && nat_lt a 0xe0 && follows b) then Some ((a - 0xc0) * 64 + (b - 128), 1)
    else (if nat_le 3 (length bytes) && (nat_le 0xe0 a && nat_lt a 0xf0 && follows b && follows c) then
    (let code = (a - 0xe0) * 4096 + (b - 128) * 64 + (c - 128) in
    if nat_lt code 0x800 || (nat_le 0xd800 code && nat_lt code 0xe000) then None else Some (code, 2))
    else (if nat_le 4 (length bytes) && (nat_le 0xf0 a && nat_lt a 0xf5 && follows b && follows c && follows d) then
    (let code = (a - 0xf0) * 262144 + (b - 128) * 4096 + (c - 128) * 64 + (d - 128) in
    if nat_lt code 0x10000 || nat_le 0x110000 code then None else Some (code, 3))
    else None)))

-- a character by its class and the bytes that it takes beside the first, or a byte at which none begins
pub record Symbol : Type 0 where
  pub class : Class
  pub extra : ℕ

-- the symbol of what was decoded
abbrev pub symbol_by : Option (ℕ × ℕ) → Symbol
symbol_by None = record { class = classes.Ill; extra = 0 }
symbol_by (Some x) = record { class = classified x.0; extra = x.1 }

-- the symbol at the front of the bytes
abbrev pub first_symbol : List ℕ → Option Symbol
first_symbol [] = None
first_symbol (b ∷ bytes) = Some (symbol_by (decoded (b ∷ bytes)))

-- the symbol, if there is one, and what follows it
abbrev pub symbol_then : Option Symbol → (Symbol → List Symbol) → List Symbol
symbol_then None go = []
symbol_then (Some x) go = x ∷ go x

-- the first symbols of the bytes, at most so many
unfoldable pub symbols_upto : ℕ → List ℕ → List Symbol
symbols_upto zero bytes = []
symbols_upto (suc n) bytes = symbol_then (first_symbol bytes) (λ x. symbols_upto n (drop (suc x.extra) bytes))

-- the text, symbol by symbol
abbrev pub symbols_of : List ℕ → List Symbol
symbols_of bytes = symbols_upto (length bytes) bytes

-- the class of a symbol
abbrev pub class_at : Symbol → Class
class_at x = x.class

-- the classes of a text
abbrev pub classes_of : List Symbol → List Class
classes_of xs = map class_at xs

-- how many bytes a text takes
abbrev pub width_of : List Symbol → ℕ
width_of [] = 0
width_of (x ∷ xs) = suc x.extra + width_of xs

-- a class and how many bytes it takes, as a symbol
abbrev pub symbol_of : Class × ℕ → Symbol
symbol_of x = record { class = x.0; extra = x.1 - 1 }
