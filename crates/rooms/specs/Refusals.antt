-- The numbers and places of what a room refuses.
use Rattle.std.specs.Prelude.{ℕ}
use Rattle.rooms.specs.declared.refusal.RoomRefusal.{RoomRefusal}
use Rattle.rooms.specs.declared.refusal.RoomRefusal.TheVariants.{NoSuchCell, LatchRefused}
use Rattle.rooms.specs.declared.refusal.BadRecord.{BadRecord}
use Rattle.rooms.specs.declared.refusal.BadRecord.TheVariants.{Length, Mark, Latches}

-- of a refused room call
abbrev pub refusal_number : RoomRefusal → ℕ
refusal_number NoSuchCell = 13
refusal_number LatchRefused = 14

abbrev pub refusal_place : RoomRefusal → ℕ
refusal_place NoSuchCell = 0
refusal_place LatchRefused = 0

-- of bytes that are no record
abbrev pub bad_record_number : BadRecord → ℕ
bad_record_number Length = 17
bad_record_number (Mark c) = 17
bad_record_number Latches = 17

abbrev pub bad_record_place : BadRecord → ℕ
bad_record_place Length = 0
bad_record_place (Mark c) = 0
bad_record_place Latches = 0
