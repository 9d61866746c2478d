use Rattle.std.proofs.Common.{◌∷◌, sym, ◌∙◌, rules}
use Rattle.std.proofs.lemmas.Result.{err_from_is_err_and}
use Rattle.grammar.specs.Grammar.{within}
use Rattle.grammar.specs.Automaton.{compared}
use Rattle.tokens.specs.Lexing.{lexeme_of}
use Rattle.rules.specs.Readers.{names_in}
use Rattle.rules.proofs.Turns.{misfits}
use Rattle.rules.proofs.CondTurns.{as_sum, chosen, no_comparer, compared_goes, compare_read}
use Rattle.rules.proofs.reader.Reader.comparison.Goals as goal

pub returns-in_err-left : goal.returns-in_err-left
returns-in_err-left c =
    let p = err_from_is_err_and c.from_residual.result c.from_residual.ensures.1 in
    rw (p.1, p.2) (search rules, λ k. as_sum c.args.depth c.args.self.now c.requires k ∙ c.in_err-left.ensures.1 (compared (within c.args.depth) ∷ k))

pub returns-in_default : goal.returns-in_default
returns-in_default c =
    let q = c.sum.new.self in
    (search rules, λ k. as_sum c.args.depth c.args.self.now c.requires k ∙ c.in_ok-left.ensures.goes (compared (within c.args.depth) ∷ k) ∙ misfits q (compared (within c.args.depth) ∷ k) (no_comparer (within c.args.depth) q.current.token (names_in q) k c.in_default.ensures))

pub returns-in_err-right : goal.returns-in_err-right
returns-in_err-right c =
    let p = err_from_is_err_and c.from_residual-in_err-right.result c.from_residual-in_err-right.ensures.1 in
    let m = chosen (lexeme_of c.sum.new.self.current.token) c.in-Some.comparer c.in-Some.ensures in
    rw (p.1, p.2) (search rules, λ k. as_sum c.args.depth c.args.self.now c.requires k ∙ c.in_ok-left.ensures.goes (compared (within c.args.depth) ∷ k) ∙ compared_goes c.args.depth m.1 (c.pass-place.ensures.past m.0 (sym m.2)) k ∙ c.in_err-right.ensures.1 k)

pub returns : goal.returns
returns c =
    let m = chosen (lexeme_of c.sum.new.self.current.token) c.in-Some.comparer c.in-Some.ensures in
    compare_read c.requires c.in_ok-left.ensures m.1 (c.pass-place.ensures.past m.0 (sym m.2)) c.pass-place.ensures.place c.in_ok-right.ensures c.kind.ensures c.put.ensures.wrote c.put.ensures.number
