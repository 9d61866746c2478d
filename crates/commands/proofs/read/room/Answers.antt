use Rattle.std.proofs.Common.{rules, ◌≡◌, sym, codes}
use Rattle.std.proofs.lemmas.Slice.Eq.{text_from_reads}
use Rattle.commands.proofs.read.room.Goals as goal

pub returns-in_ok-kind-in-window : goal.returns-in_ok-kind-in-window
returns-in_ok-kind-in-window c =
    let first : c.word.result.now ≡ codes "window" = search (rules, text_from_reads) in rw (sym c.word.ensures.value, first) (search rules)

pub returns-in_ok-kind-in_default : goal.returns-in_ok-kind-in_default
returns-in_ok-kind-in_default c = rw (sym c.word.ensures.value) (search rules)
