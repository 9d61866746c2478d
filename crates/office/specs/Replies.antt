-- What a line does to the office's room, and what it is answered.
use Rattle.std.specs.Prelude.{◌≡◌, ℕ, List, Some, None, Option, Result, Ok, Err}
use Rattle.console.specs.Hex.{bytes_of}
use Rattle.console.specs.Tally.{counted}
use Rattle.console.specs.declared.tally.Tally.{Tally}
use Rattle.commands.specs.Commands.{Asked, Kind, room, shown, called, slot, hex}
use Rattle.rooms.specs.Calls.{answer_to, after_call}
use Rattle.rooms.specs.Meaning.{empty}
use Rattle.rooms.specs.Record.{decoded, Spoils}
use Rattle.rooms.specs.declared.refusal.BadRecord.{BadRecord}
use Rattle.rooms.specs.declared.refusal.BadRecord.TheVariants.{Length}
use Rattle.rooms.specs.declared.calls.RoomAnswer.{RoomAnswer}
use Rattle.rooms.specs.declared.calls.RoomAnswer.TheVariants as answer
use Rattle.office.specs.Rooms.{meaning_of, record_of, part}
use Rattle.office.specs.declared.reply.Reply.{Reply}
use Rattle.office.specs.declared.reply.Reply.TheVariants as reply
use Rattle.office.specs.declared.room.OfficeRoom.{OfficeRoom}

-- a line that is no command is answered so
abbrev pub IsMisread : Reply → Type 0
IsMisread (reply.Answer c a) = ⊥
IsMisread (reply.Opened opened) = ⊥
IsMisread (reply.Record bytes) = ⊥
IsMisread (reply.Misread why) = Unit {0}

-- HEX is opened; what is no HEX writes no record
abbrev pub OpensHex : Option ℕ → Option (List ℕ) → Result OfficeRoom BadRecord → Type 0
OpensHex base None (Ok opened) = ⊥
OpensHex base None (Err why) = why ≡ Length
OpensHex base (Some bytes) (Ok opened) = (record_of opened ≡ Some bytes) × (meaning_of opened ≡ part base (decoded bytes))
OpensHex base (Some bytes) (Err why) = Spoils why bytes

-- a room of a kind is opened
abbrev pub Opens : Option ℕ → Kind → Result OfficeRoom BadRecord → Type 0
Opens base slot (Ok opened) = meaning_of opened ≡ part base (empty 64 8)
Opens base slot (Err why) = ⊥
Opens base (hex digits) res = OpensHex base (bytes_of digits) res

-- a room is chosen: it is opened, or the room before it stays
abbrev pub Chooses : Option ℕ → Kind → OfficeRoom → OfficeRoom → Reply → Type 0
Chooses base kind before after (reply.Answer c a) = ⊥
Chooses base kind before after (reply.Opened (Ok done)) = Opens base kind (Ok after)
Chooses base kind before after (reply.Opened (Err why)) = (after ≡ before) × Opens base kind (Err why)
Chooses base kind before after (reply.Record bytes) = ⊥
Chooses base kind before after (reply.Misread why) = ⊥

-- what a line asks for is done; a line that is no command changes nothing
abbrev pub Does : Option Asked → OfficeRoom → OfficeRoom → Reply → Type 0
Does None before after r = (after ≡ before) × IsMisread r
Does (Some (room base kind)) before after r = Chooses base kind before after r
Does (Some shown) before after r = (after ≡ before) × (r ≡ reply.Record (record_of before))
Does (Some (called call)) before after r = (meaning_of after ≡ after_call (meaning_of before) call) × (r ≡ reply.Answer call (answer_to (meaning_of before) call))

-- how a reply counts
pub data Class : Type 0 where
  fine : Class
  refused : Class
  wrong : Class

abbrev pub answer_class : RoomAnswer → Class
answer_class (answer.Count n) = fine
answer_class (answer.Cell v) = fine
answer_class (answer.IsHeld h) = fine
answer_class (answer.Change (Ok done)) = fine
answer_class (answer.Change (Err why)) = refused

abbrev pub class_of : Reply → Class
class_of (reply.Answer c a) = answer_class a
class_of (reply.Opened (Ok done)) = fine
class_of (reply.Opened (Err why)) = refused
class_of (reply.Record (Some bytes)) = fine
class_of (reply.Record None) = wrong
class_of (reply.Misread why) = wrong

-- the count after one more reply
abbrev pub tallied : Class → Tally → Tally
tallied fine t = record t { commands = counted t.commands }
tallied refused t = record t { commands = counted t.commands; refused = counted t.refused }
tallied wrong t = record t { commands = counted t.commands; errors = counted t.errors }
