use Rattle.std.proofs.Common.{rules}
use Rattle.std.proofs.lemmas.Iterator.{YieldsList-from_slice}
use Rattle.std.proofs.lemmas.Iterator.Consumers.{YieldsList-from_copied}
use Rattle.console.proofs.Reading.{total}
use Rattle.console.proofs.number.digits_value.Goals as goal

pub returns : goal.returns
returns c =
    let ran = c.try_fold.ensures.ran in
    total _ c.args.word.now (YieldsList-from_copied {s = c.copied.result} (YieldsList-from_slice c.args.word.now cc)) _ (λ f n x r f' k. search rules) ran.0 ran.1 _ ran.2 ran.3 c.try_fold.result _ ran.4 ran.5 ran.6
