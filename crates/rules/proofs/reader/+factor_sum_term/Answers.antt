use Rattle.std.proofs.Common.{◌∷◌, sym, ◌∙◌, to_z-of_z, w64, SFits, rules}
use Rattle.std.proofs.lemmas.Result.{err_from_is_err_and}
use Rattle.tokens.specs.declared.lexeme.Lexeme.TheVariants as lexeme
use Rattle.grammar.specs.Automaton.{this}
use Rattle.rules.proofs.SumTurns.{number_read, name_read, opened, round}
use Rattle.rules.proofs.reader.+factor_sum_term.Goals as goal

pub Reader::factor-returns-in_err-root-in_default : goal.Reader::factor-returns-in_err-root-in_default
Reader::factor-returns-in_err-root-in_default t c =
    let p = err_from_is_err_and c.from_residual-in_err-root-in_default.result c.from_residual-in_err-root-in_default.ensures.1 in
    rw (p.1, p.2) (search rules, λ k. opened c.args.depth c.in_ok-inner-in_default.inner c.in_ok-inner-in_default.ensures (c.pass.ensures.past lexeme.Open (sym c.if-not-is.ensures)) k ∙ c.in_err-root-in_default.ensures.1 (this lexeme.Close ∷ k))

pub Reader::factor-returns-in_err-expect-in_default : goal.Reader::factor-returns-in_err-expect-in_default
Reader::factor-returns-in_err-expect-in_default t c =
    let p = err_from_is_err_and c.from_residual-in_err-expect-in_default.result c.from_residual-in_err-expect-in_default.ensures.1 in
    rw (p.1, p.2) (search rules, λ k. opened c.args.depth c.in_ok-inner-in_default.inner c.in_ok-inner-in_default.ensures (c.pass.ensures.past lexeme.Open (sym c.if-not-is.ensures)) k ∙ c.in_ok-root-in_default.ensures.goes (this lexeme.Close ∷ k) ∙ c.in_err-expect-in_default.ensures.1 k)

pub Reader::factor-returns-in_ok-value-in-Number : goal.Reader::factor-returns-in_ok-value-in-Number
Reader::factor-returns-in_ok-value-in-Number t c =
    let n = c.in_ok-value-in-Number.ensures in
    let f : SFits w64 c.in_ok-value-in-Number.value = search rules in
    number_read (to_z-of_z f ∙ n.0) n.1 n.2 c.put.ensures.wrote c.put.ensures.number

pub Reader::factor-returns-in_ok-cell-in-Name : goal.Reader::factor-returns-in_ok-cell-in-Name
Reader::factor-returns-in_ok-cell-in-Name t c = name_read c.in_ok-cell-in-Name.ensures c.put-in-Name.ensures.wrote c.put-in-Name.ensures.number

pub Reader::factor-returns-in_ok-expect-in_default : goal.Reader::factor-returns-in_ok-expect-in_default
Reader::factor-returns-in_ok-expect-in_default t c = round c.in_ok-inner-in_default.ensures (c.pass.ensures.past lexeme.Open (sym c.if-not-is.ensures)) c.in_ok-root-in_default.ensures c.in_ok-expect-in_default.ensures
