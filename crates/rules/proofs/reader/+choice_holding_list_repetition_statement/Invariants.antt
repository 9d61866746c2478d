use Rattle.std.proofs.Common.{◌+◌, ◌*◌}
use Rattle.rules.proofs.reader.+choice_holding_list_repetition_statement.Given as goal

abbrev pub decreases-Reader::choice : goal.decreases-Reader::choice
decreases-Reader::choice l = 4 * l.depth

abbrev pub decreases-Reader::holding : goal.decreases-Reader::holding
decreases-Reader::holding l = 4 * l.depth

abbrev pub decreases-Reader::repetition : goal.decreases-Reader::repetition
decreases-Reader::repetition l = 4 * l.depth

abbrev pub decreases-Reader::statement : goal.decreases-Reader::statement
decreases-Reader::statement l = 4 * l.depth + 1

abbrev pub decreases-Reader::list-chain : goal.decreases-Reader::list-chain
decreases-Reader::list-chain l = 4 * l.d + 2

abbrev pub decreases-Reader::list : goal.decreases-Reader::list
decreases-Reader::list l = 4 * l.depth + 3
