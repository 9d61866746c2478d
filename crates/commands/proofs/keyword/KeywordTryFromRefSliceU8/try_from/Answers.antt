use Rattle.std.proofs.Common.{rules, ◌≡◌, codes}
use Rattle.std.proofs.lemmas.Slice.Eq.{text_from_reads}
use Rattle.commands.proofs.keyword.KeywordTryFromRefSliceU8.try_from.Goals as goal

pub returns-in-record : goal.returns-in-record
returns-in-record c =
    let word : c.args.word.now ≡ codes "record" = search (rules, text_from_reads) in rw word (search rules)
