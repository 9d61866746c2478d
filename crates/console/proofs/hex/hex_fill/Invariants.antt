use Rattle.std.proofs.Common.{◌≡◌, take, drop}
use Rattle.console.proofs.Bytes.{bytes_in, onto}
use Rattle.console.proofs.hex.hex_fill.Given as goal

abbrev pub invariant-loop-i : goal.invariant-loop-i
invariant-loop-i l = onto (take l.i l.out) (drop l.i l.pairs) ≡ bytes_in l.pairs
