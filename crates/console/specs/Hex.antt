-- Bytes in hexadecimal: two digits in small letters for each byte, the high one first.
use Rattle.std.specs.Prelude.{◌≡◌, ℕ, ◌+◌, ◌-◌, ◌*◌, ◌/◌, ◌%◌, ◌<◌, cond, ◌&&◌, List, [], ◌∷◌, length, Some, None, Option, ◌≢◌, nat_le, nat_lt}
use Rattle.std.specs.List.{flat_map, AllByRecursion}

-- the value of a hexadecimal digit
abbrev pub digit_value : ℕ → Option ℕ
digit_value b = cond (nat_le 48 b && nat_le b 57) (Some (b - 48)) (cond (nat_le 97 b && nat_le b 102) (Some (b - 87)) None)

-- the byte of a high and a low digit
abbrev pub byte_of : Option ℕ → Option ℕ → Option ℕ
byte_of None low = None
byte_of (Some high) None = None
byte_of (Some high) (Some low) = Some (16 * high + low)

-- a byte before others
abbrev pub before : Option ℕ → Option (List ℕ) → Option (List ℕ)
before None bytes = None
before (Some b) None = None
before (Some b) (Some bytes) = Some (b ∷ bytes)

-- the bytes that a word writes, if it is hexadecimal
abbrev pub bytes_of : List ℕ → Option (List ℕ)
bytes_of [] = Some []
bytes_of (high ∷ []) = None
bytes_of (high ∷ low ∷ word) = before (byte_of (digit_value high) (digit_value low)) (bytes_of word)

-- a word does not write n bytes
abbrev pub Unfit : List ℕ → ℕ → Type 0
Unfit word n = (bytes : List ℕ) → bytes_of word ≡ Some bytes → length bytes ≢ n

-- the digit of a value below 16
abbrev pub digit_of : ℕ → ℕ
digit_of d = cond (nat_lt d 10) (48 + d) (87 + d)

-- how bytes are written
abbrev pub hex_of : List ℕ → List ℕ
hex_of bytes = flat_map (λ b. digit_of (b / 16) ∷ digit_of (b % 16) ∷ []) bytes

-- bytes that were written are read back
abbrev pub ReadsBack : Type 0
ReadsBack = (bytes : List ℕ) → AllByRecursion (λ b. b < 256) bytes → bytes_of (hex_of bytes) ≡ Some bytes
