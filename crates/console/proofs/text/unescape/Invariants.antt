use Rattle.std.proofs.Common.{length}
use Rattle.console.specs.Text.{text_of}
use Rattle.console.proofs.Forms.{Filling}
use Rattle.console.proofs.text.unescape.Given as goal

abbrev pub invariant-loop-rest : goal.invariant-loop-rest
invariant-loop-rest l = Filling (length l.initial.out) (text_of l.written) l.initial.out l.out l.n l.rest

abbrev pub decreases-loop-rest : goal.decreases-loop-rest
decreases-loop-rest l = length l.rest
