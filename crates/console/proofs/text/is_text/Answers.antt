use Rattle.std.proofs.Common.{is_some, ap, ◌∙◌}
use Rattle.console.specs.Text.{text_of}
use Rattle.console.proofs.Forms.{is_some_mapped}
use Rattle.console.proofs.text.is_text.Goals as goal

pub returns : goal.returns
returns c =
    c.is_some.ensures ∙ ap is_some c.unescape.ensures.count ∙ is_some_mapped _ (text_of c.args.written.now)
