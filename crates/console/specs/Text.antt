-- The TEXT of a command: the bytes that it stands for.
use Rattle.std.specs.Prelude.{◌≡◌, ℕ, ◌-◌, ◌<◌, ◌≤◌, cond, ◌&&◌, List, [], ◌∷◌, length, Some, None, Option, ◌==◌, nat_le}
use Rattle.console.specs.Hex.{digit_value, byte_of, before}

-- the value of a hexadecimal digit in small or in capital letters
abbrev pub any_digit_value : ℕ → Option ℕ
any_digit_value b = cond (nat_le 65 b && nat_le b 70) (Some (b - 55)) (digit_value b)

-- the byte that `\x` and two such digits stand for
abbrev pub coded_byte : ℕ → ℕ → Option ℕ
coded_byte high low = byte_of (any_digit_value high) (any_digit_value low)

-- the byte that a backslash stands for with one byte behind it, which is `n` or another backslash
abbrev pub escaped_byte : ℕ → Option ℕ
escaped_byte b = cond (b == 110) (Some 10) (cond (b == 92) (Some 92) None)

abbrev mutual
  -- the bytes that a TEXT as written stands for, if it is rightly written: a backslash begins a form, any other byte
  -- stands for itself
  pub text_of : List ℕ → Option (List ℕ)
  text_of [] = Some []
  text_of (b ∷ bs) = cond (b == 92) (behind_backslash bs) (before (Some b) (text_of bs))

  -- behind a backslash stand `n`, another backslash, or `x` and two digits
  pub behind_backslash : List ℕ → Option (List ℕ)
  behind_backslash [] = None
  behind_backslash (b ∷ bs) = cond (b == 120) (behind_x bs) (before (escaped_byte b) (text_of bs))

  -- two digits, and the text after them
  pub behind_x : List ℕ → Option (List ℕ)
  behind_x [] = None
  behind_x (high ∷ []) = None
  behind_x (high ∷ low ∷ bs) = before (coded_byte high low) (text_of bs)

-- what is written begins with a form of the byte b, and the rest of it stands for the rest of the text
abbrev pub Begins : List ℕ → ℕ → List ℕ → Type 0
Begins written b rest = (text_of written ≡ before (Some b) (text_of rest)) × (length rest < length written)

-- no text is longer than it is written
abbrev pub TextsFit : Type 0
TextsFit = (written text : List ℕ) → text_of written ≡ Some text → length text ≤ length written
