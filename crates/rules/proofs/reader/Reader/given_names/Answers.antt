use Rattle.std.proofs.Common.{◌∷◌, sym, refl, rules}
use Rattle.std.proofs.lemmas.Result.{err_from_is_err_and}
use Rattle.tokens.specs.declared.lexeme.Lexeme.TheVariants as lexeme
use Rattle.grammar.specs.Grammar.{limits, given_name, given_names, joined_names}
use Rattle.grammar.specs.Automaton.{need, tail, go}
use Rattle.tokens.specs.Lexing.{lexeme_of}
use Rattle.rules.proofs.Turns.{◌>>◌, leaves, start_fails}
use Rattle.rules.proofs.GivenTurns.{given_start, given_turn, given_turn_fails, given_finish}
use Rattle.rules.proofs.reader.Reader.given_names.Goals as goal

pub returns-in_err-given : goal.returns-in_err-given
returns-in_err-given c =
    let p = err_from_is_err_and c.from_residual.result c.from_residual.ensures.1 in
    rw (p.1, p.2) (search rules, start_fails 16 c.args.self.now joined_names c.in_err-given.ensures.1)

pub returns-in_err-another : goal.returns-in_err-another
returns-in_err-another c =
    let p = err_from_is_err_and c.from_residual-in_err-another.result c.from_residual-in_err-another.ensures.1 in
    rw (p.1, p.2) ((c.loop-self.invariant c.args.self.now (given_start c.in_ok-given.ensures)).along >> c.pass.ensures.along >> c.in_err-another.ensures.0, given_turn_fails (c.loop-self.invariant c.args.self.now (given_start c.in_ok-given.ensures)) (c.pass.ensures.past lexeme.Comma (sym c.loop-self-test.ensures)) c.in_err-another.ensures.1)

pub loop-self-preserved : goal.loop-self-preserved
loop-self-preserved c = λ r g. given_turn (c.loop-self.invariant r g) (c.pass.ensures.past lexeme.Comma (sym c.loop-self-test.ensures)) c.in_ok-another.ensures

pub returns : goal.returns
returns c = given_finish (c.loop-self.invariant c.args.self.now (given_start c.in_ok-given.ensures)) (leaves given_names limits lexeme.Comma (λ k. go (need given_name limits ∷ tail given_names limits ∷ k)) (λ n k v. refl) (lexeme_of c.loop-self.self.current.token) c.loop-self-test.ensures)
