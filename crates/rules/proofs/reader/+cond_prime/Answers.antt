use Rattle.std.proofs.Common.{◌∷◌, ◌∙◌, rules}
use Rattle.std.proofs.lemmas.Result.{err_from_is_err_and}
use Rattle.tokens.specs.declared.lexeme.Lexeme.TheVariants as lexeme
use Rattle.grammar.specs.Automaton.{this}
use Rattle.rules.proofs.CondTurns.{true_read, false_read, negated, not_read, squared, square}
use Rattle.rules.proofs.reader.+cond_prime.Goals as goal

pub Reader::prime-returns-in-Some-True : goal.Reader::prime-returns-in-Some-True
Reader::prime-returns-in-Some-True t c = true_read (c.leaf.ensures lexeme.True (search rules))

pub Reader::prime-returns-in-Some-False : goal.Reader::prime-returns-in-Some-False
Reader::prime-returns-in-Some-False t c = false_read (c.leaf-in-Some-False.ensures lexeme.False (search rules))

pub Reader::prime-returns-in_err-part-in-Some-Not : goal.Reader::prime-returns-in_err-part-in-Some-Not
Reader::prime-returns-in_err-part-in-Some-Not t c =
    let p = err_from_is_err_and c.from_residual-in_err-part-in-Some-Not.result c.from_residual-in_err-part-in-Some-Not.ensures.1 in
    rw (p.1, p.2) (search rules, λ k. negated c.args.depth c.in_ok-inner-in-Some-Not.inner c.in_ok-inner-in-Some-Not.ensures (c.pass-place.ensures.past lexeme.Not (search rules)) k ∙ c.in_err-part-in-Some-Not.ensures.1 k)

pub Reader::prime-returns-in_ok-part-in-Some-Not : goal.Reader::prime-returns-in_ok-part-in-Some-Not
Reader::prime-returns-in_ok-part-in-Some-Not t c = not_read c.in_ok-inner-in-Some-Not.ensures (c.pass-place.ensures.past lexeme.Not (search rules)) c.in_ok-part-in-Some-Not.ensures c.pass-place.ensures.place c.put.ensures.wrote c.put.ensures.number

pub Reader::prime-returns-in_err-root-in-Some-OpenSquare : goal.Reader::prime-returns-in_err-root-in-Some-OpenSquare
Reader::prime-returns-in_err-root-in-Some-OpenSquare t c =
    let p = err_from_is_err_and c.from_residual-in_err-root-in-Some-OpenSquare.result c.from_residual-in_err-root-in-Some-OpenSquare.ensures.1 in
    rw (p.1, p.2) (search rules, λ k. squared c.args.depth c.in_ok-inner-in-Some-OpenSquare.inner c.in_ok-inner-in-Some-OpenSquare.ensures (c.pass.ensures.past lexeme.OpenSquare (search rules)) k ∙ c.in_err-root-in-Some-OpenSquare.ensures.1 (this lexeme.CloseSquare ∷ k))

pub Reader::prime-returns-in_err-expect-in-Some-OpenSquare : goal.Reader::prime-returns-in_err-expect-in-Some-OpenSquare
Reader::prime-returns-in_err-expect-in-Some-OpenSquare t c =
    let p = err_from_is_err_and c.from_residual-in_err-expect-in-Some-OpenSquare.result c.from_residual-in_err-expect-in-Some-OpenSquare.ensures.1 in
    rw (p.1, p.2) (search rules, λ k. squared c.args.depth c.in_ok-inner-in-Some-OpenSquare.inner c.in_ok-inner-in-Some-OpenSquare.ensures (c.pass.ensures.past lexeme.OpenSquare (search rules)) k ∙ c.in_ok-root-in-Some-OpenSquare.ensures.goes (this lexeme.CloseSquare ∷ k) ∙ c.in_err-expect-in-Some-OpenSquare.ensures.1 k)

pub Reader::prime-returns-in_ok-expect-in-Some-OpenSquare : goal.Reader::prime-returns-in_ok-expect-in-Some-OpenSquare
Reader::prime-returns-in_ok-expect-in-Some-OpenSquare t c = square c.in_ok-inner-in-Some-OpenSquare.ensures (c.pass.ensures.past lexeme.OpenSquare (search rules)) c.in_ok-root-in-Some-OpenSquare.ensures c.in_ok-expect-in-Some-OpenSquare.ensures
