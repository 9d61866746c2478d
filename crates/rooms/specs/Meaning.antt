-- A room's meaning, its cells and latches as one value, and what each room call answers and leaves by that value alone.
use Rattle.std.specs.Prelude.{ℕ, Bool, true, false, cond, not, List, length, replicate, ℤ, None, Ok, Err, Option, Result, nat_lt, slice_index_or, slice_set}
use Rattle.rooms.specs.declared.refusal.RoomRefusal.{RoomRefusal}
use Rattle.rooms.specs.declared.refusal.RoomRefusal.TheVariants.{NoSuchCell, LatchRefused}

-- a cell is unfilled (None) or holds a number; a latch is held (true) or free
pub record Meaning : Type 0 where
  pub cells : List (Option ℤ)
  pub latches : List Bool

-- a room by its two parts
abbrev pub room_of : List (Option ℤ) → List Bool → Meaning
room_of cells latches = record { cells = cells; latches = latches }

-- every cell unfilled and every latch free
abbrev pub empty : ℕ → ℕ → Meaning
empty size latches = room_of (replicate size None) (replicate latches false)

-- how many cells there are
abbrev pub size_of : Meaning → ℕ
size_of m = length m.cells

-- how many latches there are
abbrev pub latch_count : Meaning → ℕ
latch_count m = length m.latches

-- what cell c holds: nothing in an unfilled cell and past the last one
abbrev pub cell : Meaning → ℕ → Option ℤ
cell m c = slice_index_or m.cells c None

-- latch k is there and held
unfoldable pub is_held : List Bool → ℕ → Bool
is_held latches k = slice_index_or latches k false

-- latch k is there and free
unfoldable pub is_free : List Bool → ℕ → Bool
is_free latches k = cond (nat_lt k (length latches)) (not (slice_index_or latches k false)) false

-- latch k can be turned: held (true) where it is there and free, free (false) where it is there and held
abbrev pub can_turn : List Bool → ℕ → Bool → Bool
can_turn latches k on = cond on (is_free latches k) (is_held latches k)

-- the room with one cell changed
abbrev pub with_cell : Meaning → ℕ → Option ℤ → Meaning
with_cell m c v = record { cells = slice_set m.cells c v; latches = m.latches }

-- the room with one latch changed
abbrev pub with_latch : Meaning → ℕ → Bool → Meaning
with_latch m k b = record { cells = m.cells; latches = slice_set m.latches k b }

-- accepted, or refused for the reason given
abbrev pub accepted_if : Bool → RoomRefusal → Result (Unit {0}) RoomRefusal
accepted_if ok why = cond ok (Ok tt) (Err why)

-- put and clear: the cell has to be below the size
abbrev pub cell_answer : Meaning → ℕ → Result (Unit {0}) RoomRefusal
cell_answer m c = accepted_if (nat_lt c (size_of m)) NoSuchCell

-- after put (Some n) or clear (None)
abbrev pub cell_after : Meaning → ℕ → Option ℤ → Meaning
cell_after m c v = cond (nat_lt c (size_of m)) (with_cell m c v) m

-- take (true) or give (false): the latch has to be there and the other way
abbrev pub turn_answer : Meaning → ℕ → Bool → Result (Unit {0}) RoomRefusal
turn_answer m k on = accepted_if (can_turn m.latches k on) LatchRefused

-- after take (true) or give (false)
abbrev pub turn_after : Meaning → ℕ → Bool → Meaning
turn_after m k on = cond (can_turn m.latches k on) (with_latch m k on) m

-- take: the latch has to be there and free
abbrev pub take_answer : Meaning → ℕ → Result (Unit {0}) RoomRefusal
take_answer m k = turn_answer m k true

-- after take
abbrev pub take_after : Meaning → ℕ → Meaning
take_after m k = turn_after m k true

-- give: the latch has to be there and held
abbrev pub give_answer : Meaning → ℕ → Result (Unit {0}) RoomRefusal
give_answer m k = turn_answer m k false

-- after give
abbrev pub give_after : Meaning → ℕ → Meaning
give_after m k = turn_after m k false
