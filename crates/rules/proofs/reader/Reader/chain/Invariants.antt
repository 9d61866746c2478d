use Rattle.std.proofs.Common.{length}
use Rattle.rules.specs.Readers.{rest, whole_of, PartOf}
use Rattle.rules.specs.declared.reader.Reader.{Reader}
use Rattle.rules.proofs.reader.Reader.chain.Given as goal

abbrev pub invariant-loop-operator : goal.invariant-loop-operator
invariant-loop-operator g l = (r : Reader) → PartOf (whole_of l.chain) l.depth r l.initial.self l.initial.left → PartOf (whole_of l.chain) l.depth r l.self l.left

abbrev pub decreases-loop-operator : goal.decreases-loop-operator
decreases-loop-operator g l = length (rest l.self)
