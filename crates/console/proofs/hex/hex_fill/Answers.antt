use Rattle.std.proofs.Common.{◌≡◌, ◌/◌, None, rules, sym, ap, ◌∙◌, arith, length}
use Rattle.console.specs.Hex.{Unfit}
use Rattle.console.proofs.Bytes.{reads_back, unfit, unfit_none, paired, bytes_in, fill_spoiled, fill_all}
use Rattle.console.proofs.hex.hex_fill.Goals as goal

pub returns-then-word-out-clause-value : goal.returns-then-word-out-clause-value
returns-then-word-out-clause-value c = unfit _ _ c.if-word-out.true

pub returns-then-word-out-clause-back : goal.returns-then-word-out-clause-back
returns-then-word-out-clause-back c = reads_back

pub returns-in_err-out-clause-value : goal.returns-in_err-out-clause-value
returns-in_err-out-clause-value c =
    let spoiled : bytes_in c.as_chunks.result.0.now ≡ None = fill_spoiled c.as_chunks.result.0.now c.loop-i.out c.loop-i.i c.loop-i.invariant (omega arith) (search rules) in
    let pairs = paired (length c.args.word.now / 2) c.args.word.now (omega arith) ∙ ap bytes_in (sym c.as_chunks.ensures.front) in
    let unfit : Unfit c.args.word.now (length c.args.out.now) = unfit_none c.args.word.now (length c.args.out.now) (pairs ∙ spoiled) in search (rules, unfit)

pub returns-in_err-out-clause-back : goal.returns-in_err-out-clause-back
returns-in_err-out-clause-back c = reads_back

pub returns-clause-value : goal.returns-clause-value
returns-clause-value c =
    paired (length c.args.word.now / 2) c.args.word.now (omega arith) ∙ ap bytes_in (sym c.as_chunks.ensures.front) ∙ fill_all c.as_chunks.result.0.now c.loop-i.out c.loop-i.i c.loop-i.invariant (omega arith) (omega arith)

pub returns-clause-back : goal.returns-clause-back
returns-clause-back c = reads_back
