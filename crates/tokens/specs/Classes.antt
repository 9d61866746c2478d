-- The classes of bytes.
use Rattle.std.specs.Prelude.{ℕ, Bool, ◌&&◌, ◌||◌, ◌==◌, nat_le}
use Rattle.console.specs.Numbers.{is_digit}
use Rattle.tokens.specs.declared.class.Class.{Class}
use Rattle.tokens.specs.declared.class.Class.TheVariants.{Blank, Letter, Digit}

-- a blank is a space or a line feed
abbrev pub is_blank : ℕ → Bool
is_blank b = b == 32 || b == 10

-- a letter is one of a to z
abbrev pub is_letter : ℕ → Bool
is_letter b = nat_le 97 b && nat_le b 122

-- whether a byte is of a class
abbrev pub belongs : Class → ℕ → Bool
belongs Blank b = is_blank b
belongs Letter b = is_letter b
belongs Digit b = is_digit b
