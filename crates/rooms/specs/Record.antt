-- The record format, 289 bytes: nine for each of 32 cells, its number's eight and a mark, and a last one for four latches.
use Rattle.std.specs.Prelude.{◌≡◌, ℕ, ◌+◌, ◌*◌, ◌/◌, ◌%◌, ◌<◌, ◌≤◌, Bool, false, cond, List, [], ◌∷◌, ◌++◌, map, length, take, drop, replicate, ℤ, Some, None, Option, ◌==◌, nat_lt, slice_index, slice_index_or, slice_set}
use Rattle.std.specs.Int.{w64, cast_signed, cast_unsigned, to_be_bytes, from_be_bytes}
use Rattle.std.specs.List.{range_with_len}
use Rattle.rooms.specs.Meaning.{Meaning, can_turn}
use Rattle.rooms.specs.declared.refusal.BadRecord.{BadRecord}
use Rattle.rooms.specs.declared.refusal.BadRecord.TheVariants.{Length, Mark, Latches}

-- the number that eight bytes stand for: two's complement, the most significant byte first
abbrev pub number_in : List ℕ → ℤ
number_in b = cast_signed w64 (from_be_bytes w64 b)

-- what nine bytes say of a cell: its number under mark 1, and else nothing
abbrev pub cell_in : List ℕ → Option ℤ
cell_in nine = cond (slice_index nine 8 == 1) (Some (number_in nine)) None

-- the eight bytes of a number
abbrev pub bytes_of : ℤ → List ℕ
bytes_of n = to_be_bytes w64 (cast_unsigned w64 n)

-- the nine bytes that put (Some n) and clear (None) write
abbrev pub nine_for : Option ℤ → List ℕ
nine_for (Some n) = bytes_of n ++ 1 ∷ []
nine_for None = replicate 9 0

-- the nine bytes of cell c
unfoldable pub nine_at : List ℕ → ℕ → List ℕ
nine_at bytes c = take 9 (drop (9 * c) bytes)

-- nine new bytes for cell c, and no other changed
abbrev pub with_nine : List ℕ → ℕ → List ℕ → List ℕ
with_nine bytes c nine = take (9 * c) bytes ++ (nine ++ drop (9 * c + 9) bytes)

-- the bytes after put (Some n) or clear (None)
abbrev pub bytes_after : List ℕ → ℕ → Option ℤ → List ℕ
bytes_after bytes c v = cond (nat_lt c 32) (with_nine bytes c (nine_for v)) bytes

-- the mark of cell c
abbrev pub mark_at : List ℕ → ℕ → ℕ
mark_at bytes c = slice_index bytes (9 * c + 8)

-- the byte of the latches
abbrev pub latch_byte : List ℕ → ℕ
latch_byte bytes = slice_index bytes 288

-- whether the lowest bit is 1
abbrev pub odd : ℕ → Bool
odd n = n % 2 == 1

-- latch k is bit k of the byte
abbrev pub latches_in : ℕ → List Bool
latches_in b = odd b ∷ odd (b / 2) ∷ odd (b / 4) ∷ odd (b / 8) ∷ []

-- a latch as a bit
abbrev pub bit : Bool → ℕ
bit on = cond on 1 0

-- the byte of four latches
abbrev pub byte_of : List Bool → ℕ
byte_of ls = bit (slice_index_or ls 0 false) + 2 * bit (slice_index_or ls 1 false) + 4 * bit (slice_index_or ls 2 false) + 8 * bit (slice_index_or ls 3 false)

-- the bytes with latch k held or free
abbrev pub with_latch_bit : List ℕ → ℕ → Bool → List ℕ
with_latch_bit bytes k on = slice_set bytes 288 (byte_of (slice_set (latches_in (latch_byte bytes)) k on))

-- the bytes after take (true) or give (false)
abbrev pub bytes_turned : List ℕ → ℕ → Bool → List ℕ
bytes_turned bytes k on = cond (can_turn (latches_in (latch_byte bytes)) k on) (with_latch_bit bytes k on) bytes

-- the 32 cells
unfoldable pub cells_in : List ℕ → List (Option ℤ)
cells_in bytes = map (λ c. cell_in (nine_at bytes c)) (range_with_len 0 32)

-- the meaning of a record
abbrev pub decoded : List ℕ → Meaning
decoded bytes = record { cells = cells_in bytes; latches = latches_in (latch_byte bytes) }

-- every mark is 0 or 1
abbrev pub MarksOk : List ℕ → Type 0
MarksOk bytes = (c : ℕ) → c < 32 → mark_at bytes c ≤ 1

-- bytes that are a record
pub record IsRecord (bytes : List ℕ) : Type 0 where
  pub long : length bytes ≡ 289
  pub marks : MarksOk bytes
  pub latches : latch_byte bytes ≤ 15

-- the mark of cell c is above 1, and no lower one is
pub record LowestWrongMark (bytes : List ℕ) (c : ℕ) : Type 0 where
  pub there : c < 32
  pub wrong : 1 < mark_at bytes c
  pub lowest : (k : ℕ) → k < c → mark_at bytes k ≤ 1

-- why bytes are no record, the first of these: their length, the lowest wrong mark, the byte of the latches
abbrev pub Spoils : BadRecord → List ℕ → Type 0
Spoils Length bytes = length bytes ≡ 289 → ⊥
Spoils (Mark c) bytes = (length bytes ≡ 289) × LowestWrongMark bytes c
Spoils Latches bytes = (length bytes ≡ 289) × MarksOk bytes × (15 < latch_byte bytes)
