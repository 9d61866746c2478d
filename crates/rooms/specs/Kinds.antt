-- The meaning of each kind of room, as the room itself gives it, for clauses that name a kind.
use Rattle.rooms.specs.Meaning.{Meaning, room_of}
use Rattle.rooms.specs.Record.{decoded}
use Rattle.rooms.specs.Window.{seen}
use Rattle.rooms.specs.declared.slot.SlotRoom.{SlotRoom}
use Rattle.rooms.specs.declared.record.RecordRoom.{RecordRoom}
use Rattle.rooms.specs.declared.window.Window.{Window}

-- of a slot room
abbrev pub slot_meaning : SlotRoom → Meaning
slot_meaning room = room_of room.cells room.latches

-- of a record room
abbrev pub record_meaning : RecordRoom → Meaning
record_meaning room = decoded room.bytes

-- of a window, by the meaning of the room below
abbrev pub window_meaning : {R : Type 0} → (R → Meaning) → Window R → Meaning
window_meaning below window = seen window.base (below window.below)
