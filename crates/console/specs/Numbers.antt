-- The numbers that words of decimal digits write.
use Rattle.std.specs.Prelude.{ℕ, ◌+◌, ◌-◌, ◌*◌, ◌^◌, Bool, true, cond, ◌&&◌, nat_lt, nat_le, List, [], ◌∷◌, ℤ, pos, neg_ℤ, Some, None, Option, ◌==◌}
use Rattle.std.specs.Option.{option_map}

-- whether a byte is one of the digits 0 to 9
abbrev pub is_digit : ℕ → Bool
is_digit b = nat_le 48 b && nat_le b 57

-- whether each byte is a digit
abbrev pub all_digits : List ℕ → Bool
all_digits [] = true
all_digits (b ∷ bs) = is_digit b && all_digits bs

-- the value of the digits that follow those of n, the first of them the highest
abbrev pub value_after : ℕ → List ℕ → ℕ
value_after n [] = n
value_after n (b ∷ bs) = value_after (n * 10 + (b - 48)) bs

-- that value, if each byte is a digit and the value passes the test
abbrev pub digits_value : (ℕ → Bool) → ℕ → List ℕ → Option ℕ
digits_value test n bs = cond (all_digits bs && test (value_after n bs)) (Some (value_after n bs)) None

-- the number that a word writes in one digit or more, if it passes the test
abbrev pub number : (ℕ → Bool) → List ℕ → Option ℕ
number test [] = None
number test (b ∷ bs) = digits_value test 0 (b ∷ bs)

-- the number of 64 bits that n becomes by one more digit
abbrev pub with_digit : ℕ → ℕ → Option ℕ
with_digit n b = cond (is_digit b && nat_lt (n * 10 + (b - 48)) (2 ^ 64)) (Some (n * 10 + (b - 48))) None

-- an unsigned number has 64 bits
abbrev pub unsigned_of : List ℕ → Option ℕ
unsigned_of word = number (λ n. nat_lt n (2 ^ 64)) word

-- a signed number is from -2^63 to 2^63 - 1, and a negative one has a '-' before its digits
abbrev pub signed_of : List ℕ → Option ℤ
signed_of [] = None
signed_of (b ∷ bs) =
    cond (b == 45) (option_map (λ n. neg_ℤ (pos n)) (number (λ n. nat_le n (2 ^ 63)) bs)) (option_map pos (number (λ n. nat_lt n (2 ^ 63)) (b ∷ bs)))
