use Rattle.std.proofs.Common.{min, length, Some, sym, ap, ◌∙◌, rules}
use Rattle.std.specs.Option.{option_map}
use Rattle.console.proofs.Forms.{fill_more, fill_spoiled, fill_count, fill_text, texts_fit}
use Rattle.console.proofs.text.unescape.Goals as goal

pub loop-rest-preserved : goal.loop-rest-preserved
loop-rest-preserved c =
    let put = c.put_byte-n.ensures in
    fill_more _ _ _ _ _ _ c.loop-rest.auto.out c.loop-rest.invariant _ _ _ _ c.in_ok-b.ensures put.bytes put.next

pub returns-in_err-b-clause-count : goal.returns-in_err-b-clause-count
returns-in_err-b-clause-count c =
    c.from_residual.ensures ∙ sym (ap (option_map (λ text. min (length text) (length c.args.out.now))) (fill_spoiled _ _ _ _ _ _ c.loop-rest.auto.out c.loop-rest.invariant c.in_err-b.ensures))

pub returns-in_err-b-clause-law : goal.returns-in_err-b-clause-law
returns-in_err-b-clause-law c = texts_fit

pub returns : goal.returns
returns c = record {
  count = fill_count _ _ _ _ _ _ c.loop-rest.auto.out c.loop-rest.invariant (search rules);
  text = fill_text _ _ _ _ _ _ c.loop-rest.auto.out c.loop-rest.invariant (search rules);
  kept = ap Some c.loop-rest.invariant.kept;
  law = texts_fit;
}
