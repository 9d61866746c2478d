-- How answered lines are counted, and how the counts are written.
use Rattle.std.specs.Prelude.{ℕ, ◌+◌, ◌-◌, ◌^◌, min, List, ◌++◌, codes, decimal}

-- a count after one more line: it stops at the greatest number of 64 bits
abbrev pub counted : ℕ → ℕ
counted n = min (n + 1) (2 ^ 64 - 1)

-- the three counts as one line of text
abbrev pub summary : ℕ → ℕ → ℕ → List ℕ
summary commands refused errors =
    decimal commands ++ (codes " commands, " ++ (decimal refused ++ (codes " refused, " ++ (decimal errors ++ codes " errors"))))
