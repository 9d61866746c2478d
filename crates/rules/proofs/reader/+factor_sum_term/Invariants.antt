use Rattle.std.proofs.Common.{◌+◌, ◌*◌}
use Rattle.rules.proofs.reader.+factor_sum_term.Given as goal

abbrev pub decreases-Reader::factor : goal.decreases-Reader::factor
decreases-Reader::factor l = 5 * l.depth

abbrev pub decreases-Reader::term-chain : goal.decreases-Reader::term-chain
decreases-Reader::term-chain l = 5 * l.d + 1

abbrev pub decreases-Reader::term : goal.decreases-Reader::term
decreases-Reader::term l = 5 * l.depth + 2

abbrev pub decreases-Reader::sum-chain : goal.decreases-Reader::sum-chain
decreases-Reader::sum-chain l = 5 * l.d + 3

abbrev pub decreases-Reader::sum : goal.decreases-Reader::sum
decreases-Reader::sum l = 5 * l.depth + 4
