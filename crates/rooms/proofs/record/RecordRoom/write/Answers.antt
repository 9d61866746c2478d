use Rattle.std.proofs.Common.{sym, ap, ◌∙◌, arith}
use Rattle.std.proofs.lemmas.Grind.{common_steps}
use Rattle.rooms.specs.Record.{cell_in}
use Rattle.rooms.proofs.Written.{record_after}
use Rattle.rooms.proofs.Decoded.{decoded_after}
use Rattle.rooms.proofs.record.RecordRoom.write.Goals as goal

pub invariant_of-self : goal.invariant_of-self
invariant_of-self c = record { is_record = record_after _ _ c.args.v _ c.args.self.now.is_record c.if-c-ge-CELLS.false (grind (arith, common_steps)) }

pub returns-clause-after : goal.returns-clause-after
returns-clause-after c = decoded_after _ _ _ _ c.args.self.now.is_record.long c.if-c-ge-CELLS.false (ap cell_in (sym c.nine_for.ensures.value) ∙ c.nine_for.ensures.says) (grind (arith, common_steps))
