use Rattle.std.proofs.Common.{sym, ap, ◌∙◌, is_some, arith, length, ◌/◌, rules, tests}
use Rattle.std.proofs.lemmas.Iterator.{YieldsList-from_slice}
use Rattle.std.proofs.lemmas.Iterator.Search.{all_from_yields_List}
use Rattle.console.proofs.Bytes.{all_written, byte_at, bytes_in, odd, paired}
use Rattle.console.proofs.hex.is_hex.Goals as goal

pub returns-in_default : goal.returns-in_default
returns-in_default c = sym (odd c.args.word.now c.in_default.ensures)

pub returns : goal.returns
returns c =
    let even = c.in-Some.ensures.0 in
    let pairs = paired (length c.args.word.now / 2) c.args.word.now (omega (arith, even)) ∙ ap bytes_in (sym c.in-Some.ensures.1) in
    all_from_yields_List (λ pair. is_some (byte_at pair)) _ _ c.all.result c.all.ensures.ran (YieldsList-from_slice c.in-Some.pairs.now cc) (λ x b q k. search (rules, tests)) ∙ all_written c.in-Some.pairs.now ∙ sym (ap is_some pairs)
