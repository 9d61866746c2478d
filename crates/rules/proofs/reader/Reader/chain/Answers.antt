use Rattle.std.proofs.Common.{sym, ◌∙◌}
use Rattle.std.proofs.lemmas.Result.{err_from_is_err_and}
use Rattle.grammar.specs.Grammar.{within}
use Rattle.tokens.specs.Lexing.{lexeme_of}
use Rattle.rules.proofs.Chains.{noded, joined_of, picked, leaves_chain}
use Rattle.rules.proofs.Turns.{◌>>◌, start, start_fails, turn, turn_fails, finish}
use Rattle.rules.proofs.reader.Reader.chain.Goals as goal

pub returns-in_err-left : goal.returns-in_err-left
returns-in_err-left g c =
    let p = err_from_is_err_and c.from_residual.result c.from_residual.ensures.1 in
    let h = rw c.in_err-left.was at (c.requires.reads _ _ _ c.part.ensures) in
    rw (p.1, p.2) (h.0, start_fails c.args.depth c.args.self.now (joined_of c.args.chain) h.1)

pub returns-in_err-right : goal.returns-in_err-right
returns-in_err-right g c =
    let p = err_from_is_err_and c.from_residual-in_err-right.result c.from_residual-in_err-right.ensures.1 in
    let first = rw c.in_ok-left.was at (c.requires.reads _ _ _ c.part.ensures) in
    let h = rw c.in_err-right.was at (c.requires.reads _ _ _ c.part-in-Some.ensures) in
    let k = picked c.args.chain (lexeme_of c.loop-operator.self.current.token) c.in-Some.operator c.in-Some.ensures in
    let before = c.loop-operator.invariant c.args.self.now (start (joined_of c.args.chain) first) in
    rw (p.1, p.2) (before.along >> c.pass-place.ensures.along >> h.0, turn_fails (joined_of c.args.chain) k.1 before (c.pass-place.ensures.past k.0 (sym k.2)) h.1)

pub loop-operator-preserved : goal.loop-operator-preserved
loop-operator-preserved g c =
    let h = rw c.in_ok-right.was at (c.requires.reads _ _ _ c.part-in-Some.ensures) in
    let k = picked c.args.chain (lexeme_of c.loop-operator.self.current.token) c.in-Some.operator c.in-Some.ensures in
    λ r first. turn (noded c.args.chain) (joined_of c.args.chain) k.1 (c.loop-operator.invariant r first) (c.pass-place.ensures.past k.0 (sym k.2)) h (c.kind.ensures ∙ k.3 _ _) c.put-left.ensures.wrote c.pass-place.ensures.place c.put-left.ensures.number

pub returns : goal.returns
returns g c =
    let first = rw c.in_ok-left.was at (c.requires.reads _ _ _ c.part.ensures) in
    finish (c.loop-operator.invariant c.args.self.now (start (joined_of c.args.chain) first)) (leaves_chain c.args.chain (within c.args.depth) (lexeme_of c.loop-operator.self.current.token) c.in_default.ensures)
