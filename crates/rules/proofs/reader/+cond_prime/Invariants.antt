use Rattle.std.proofs.Common.{◌+◌, ◌*◌}
use Rattle.rules.proofs.reader.+cond_prime.Given as goal

abbrev pub decreases-Reader::prime : goal.decreases-Reader::prime
decreases-Reader::prime l = 3 * l.depth

abbrev pub decreases-Reader::cond-chain : goal.decreases-Reader::cond-chain
decreases-Reader::cond-chain l = 3 * l.d + 1

abbrev pub decreases-Reader::cond : goal.decreases-Reader::cond
decreases-Reader::cond l = 3 * l.depth + 2
