use Rattle.std.proofs.Common.{sym, ◌∙◌, rules}
use Rattle.std.proofs.lemmas.Result.{err_from_is_err_and}
use Rattle.tokens.specs.declared.lexeme.Lexeme.TheVariants as lexeme
use Rattle.rules.proofs.GivenTurns.{ungiven, plain_rule, given_rule}
use Rattle.rules.proofs.reader.Reader.rule.Goals as goal

pub returns-in_err-list : goal.returns-in_err-list
returns-in_err-list c =
    let p = err_from_is_err_and c.from_residual.result c.from_residual.ensures.1 in
    rw (p.1, p.2) (search rules, λ k. ungiven c.args.self.now c.if-not-is.ensures k ∙ c.in_err-list.ensures.1 k)

pub returns-then-not-is : goal.returns-then-not-is
returns-then-not-is c = plain_rule c.if-not-is.ensures c.in_ok-list.ensures

pub returns : goal.returns
returns c = given_rule (c.pass.ensures.past lexeme.Given (sym c.if-not-is.ensures)) c.in_ok-given.ensures c.in_ok-expect.ensures c.in_ok-list-2.ensures
