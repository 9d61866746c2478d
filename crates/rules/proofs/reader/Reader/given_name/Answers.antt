use Rattle.std.proofs.lemmas.Nat.{one_shl}
use Rattle.rules.proofs.GivenTurns.{given_read}
use Rattle.rules.proofs.reader.Reader.given_name.Goals as goal

pub returns : goal.returns
returns c = let n = c.in_ok-cell.ensures in given_read n (one_shl c.in_ok-cell.cell 32 n.small)
