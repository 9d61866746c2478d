use Rattle.std.proofs.Common.{◌≤◌, sym, ◌∙◌, arith}
use Rattle.std.proofs.lemmas.Bool.Decides.{nat_tests}
use Rattle.rooms.proofs.Windows.{past_cell}
use Rattle.rooms.proofs.window.WindowCells.get.Goals as goal

pub returns-in_err-reached : goal.returns-in_err-reached
returns-in_err-reached g c =
    let past : 32 ≤ c.args.c = grind (arith, nat_tests, c.reached.ensures, c.in_err-reached.was) in
    c.from_residual.ensures ∙ sym (past_cell c.args.self.now.base (g.R.Cells.meaning c.args.self.now.below) _ past)
