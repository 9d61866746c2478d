use Rattle.rules.proofs.StatementTurns.{assign_read}
use Rattle.rules.proofs.reader.Reader.assignment.Goals as goal

pub returns : goal.returns
returns c = assign_read c.in_ok-cell.ensures c.in_ok-expect.ensures c.in_ok-sum.ensures c.put.ensures.wrote c.put.ensures.number
