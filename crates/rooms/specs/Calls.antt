-- Room calls as values: what a room answers to one call or to a list of them, by its meaning alone.
use Rattle.std.specs.Prelude.{◌≡◌, List, [], ◌∷◌, Some, None}
use Rattle.rooms.specs.Meaning.{Meaning, size_of, latch_count, cell, is_held, cell_answer, cell_after, take_answer, take_after, give_answer, give_after}
use Rattle.rooms.specs.declared.calls.RoomCall.{RoomCall}
use Rattle.rooms.specs.declared.calls.RoomCall.TheVariants.{Size, LatchCount, Get, Held, Put, Clear, Take, Give}
use Rattle.rooms.specs.declared.calls.RoomAnswer.{RoomAnswer}
use Rattle.rooms.specs.declared.calls.RoomAnswer.TheVariants.{Count, Cell, IsHeld, Change}

-- the answer to one call
abbrev pub answer_to : Meaning → RoomCall → RoomAnswer
answer_to m Size = Count (size_of m)
answer_to m LatchCount = Count (latch_count m)
answer_to m (Get c) = Cell (cell m c)
answer_to m (Held k) = IsHeld (is_held m.latches k)
answer_to m (Put c n) = Change (cell_answer m c)
answer_to m (Clear c) = Change (cell_answer m c)
answer_to m (Take k) = Change (take_answer m k)
answer_to m (Give k) = Change (give_answer m k)

-- the room after one call; a question changes nothing
abbrev pub after_call : Meaning → RoomCall → Meaning
after_call m Size = m
after_call m LatchCount = m
after_call m (Get c) = m
after_call m (Held k) = m
after_call m (Put c n) = cell_after m c (Some n)
after_call m (Clear c) = cell_after m c None
after_call m (Take k) = take_after m k
after_call m (Give k) = give_after m k

-- the answers to calls one after another
abbrev pub answers_to : Meaning → List RoomCall → List RoomAnswer
answers_to m [] = []
answers_to m (call ∷ calls) = answer_to m call ∷ answers_to (after_call m call) calls

-- the room after calls one after another
abbrev pub after_calls : Meaning → List RoomCall → Meaning
after_calls m [] = m
after_calls m (call ∷ calls) = after_calls (after_call m call) calls

-- what calls leave of a room: the meaning that they give, with as many cells and latches as before
pub record LeftBy (calls : List RoomCall) (before after : Meaning) : Type 0 where
  pub meant : after ≡ after_calls before calls
  pub sized : size_of after ≡ size_of before
  pub latched : latch_count after ≡ latch_count before
