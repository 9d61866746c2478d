use Rattle.std.proofs.Common.{rules, ◌≡◌, codes}
use Rattle.std.proofs.lemmas.Slice.Eq.{text_from_reads}
use Rattle.commands.proofs.read.kind.Goals as goal

pub returns-in_ok-hex-in-record : goal.returns-in_ok-hex-in-record
returns-in_ok-hex-in-record c =
    let first : c.args.first.now ≡ codes "record" = search (rules, text_from_reads) in rw first (search rules)
