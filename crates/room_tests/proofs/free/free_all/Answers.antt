use Rattle.std.proofs.Common.{arith}
use Rattle.room_tests.proofs.Freed.{freed_more, freed_all}
use Rattle.room_tests.proofs.free.free_all.Goals as goal

pub loop-k-preserved : goal.loop-k-preserved
loop-k-preserved g c = freed_more _ _ _ _ c.give.ensures.after c.loop-k.invariant

pub returns : goal.returns
returns g c =
    let f = c.loop-k.invariant in
    record { cells = f.cells; freed = freed_all _ _ _ (omega (arith, c.latch_count-k-end.ensures.value)) f }
