use Rattle.room_tests.proofs.Freed.{Freed}
use Rattle.room_tests.proofs.free.free_all.Given as goal

abbrev pub invariant-loop-k : goal.invariant-loop-k
invariant-loop-k g l = Freed (g.R.Cells.meaning l.initial.room) (g.R.Cells.meaning l.room) l.k
