use Rattle.std.proofs.Common.{drop}
use Rattle.rooms.proofs.Alike.{Kept}
use Rattle.rooms.proofs.calls.answer_alike.Given as goal

abbrev pub invariant-loop-call : goal.invariant-loop-call
invariant-loop-call g l = Kept (g.A.Cells.meaning l.a) (g.B.Cells.meaning l.b) (g.A.Cells.meaning l.initial.a) (g.B.Cells.meaning l.initial.b) (drop l.call-index l.calls) l.calls l.alike
