-- The part of a room that a window of a base shows, and what a call of the window leaves in the room below.
use Rattle.std.specs.Prelude.{ℕ, ◌+◌, cond, take, drop, ℤ, Option, nat_lt}
use Rattle.rooms.specs.Meaning.{Meaning, cell_after}

-- the cells from the base on, at most 32, and all latches
abbrev pub seen : ℕ → Meaning → Meaning
seen base m = record { cells = take 32 (drop base m.cells); latches = m.latches }

-- the room below after the window's put (Some n) or clear (None) of its cell c
abbrev pub below_after : ℕ → Meaning → ℕ → Option ℤ → Meaning
below_after base m c v = cond (nat_lt c 32) (cell_after m (base + c) v) m
