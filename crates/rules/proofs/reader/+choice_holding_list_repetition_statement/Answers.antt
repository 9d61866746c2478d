use Rattle.std.proofs.Common.{◌∷◌, ◌∙◌, rules}
use Rattle.std.proofs.lemmas.Result.{err_from_is_err_and}
use Rattle.tokens.specs.declared.lexeme.Lexeme.TheVariants as lexeme
use Rattle.grammar.specs.Grammar.{within, list}
use Rattle.grammar.specs.Automaton.{need, this}
use Rattle.rules.proofs.Turns.{◌>>◌, expected}
use Rattle.rules.proofs.StatementTurns.{skip_read, leave_read, after_test, after_first, after_second, loop_body, chooses, repeats, holds, latched, if_read, while_read, hold_read}
use Rattle.rules.proofs.reader.+choice_holding_list_repetition_statement.Goals as goal

pub Reader::choice-returns-in_err-test : goal.Reader::choice-returns-in_err-test
Reader::choice-returns-in_err-test t c =
    let p = err_from_is_err_and c.from_residual-in_err-test.result c.from_residual-in_err-test.ensures.1 in
    let e = within c.in_ok-inner.inner in
    rw (p.1, p.2) (search rules, λ k. chooses c.args.depth c.in_ok-inner.inner c.in_ok-inner.ensures (c.pass-place.ensures.past lexeme.If c.requires) k ∙ c.in_err-test.ensures.1 (after_test e k))

pub Reader::choice-returns-in_err-expect : goal.Reader::choice-returns-in_err-expect
Reader::choice-returns-in_err-expect t c =
    let p = err_from_is_err_and c.from_residual-in_err-expect.result c.from_residual-in_err-expect.ensures.1 in
    let e = within c.in_ok-inner.inner in
    rw (p.1, p.2) (search rules, λ k. chooses c.args.depth c.in_ok-inner.inner c.in_ok-inner.ensures (c.pass-place.ensures.past lexeme.If c.requires) k ∙ c.in_ok-test.ensures.goes (after_test e k) ∙ c.in_err-expect.ensures.1 (need list e ∷ after_first e k))

pub Reader::choice-returns-in_err-first : goal.Reader::choice-returns-in_err-first
Reader::choice-returns-in_err-first t c =
    let p = err_from_is_err_and c.from_residual-in_err-first.result c.from_residual-in_err-first.ensures.1 in
    let e = within c.in_ok-inner.inner in
    rw (p.1, p.2) (search rules, λ k. chooses c.args.depth c.in_ok-inner.inner c.in_ok-inner.ensures (c.pass-place.ensures.past lexeme.If c.requires) k ∙ c.in_ok-test.ensures.goes (after_test e k) ∙ expected c.in_ok-expect.ensures (need list e ∷ after_first e k) ∙ c.in_err-first.ensures.1 (after_first e k))

pub Reader::choice-returns-in_err-expect-2 : goal.Reader::choice-returns-in_err-expect-2
Reader::choice-returns-in_err-expect-2 t c =
    let p = err_from_is_err_and c.from_residual-in_err-expect-2.result c.from_residual-in_err-expect-2.ensures.1 in
    let e = within c.in_ok-inner.inner in
    rw (p.1, p.2) (search rules, λ k. chooses c.args.depth c.in_ok-inner.inner c.in_ok-inner.ensures (c.pass-place.ensures.past lexeme.If c.requires) k ∙ c.in_ok-test.ensures.goes (after_test e k) ∙ expected c.in_ok-expect.ensures (need list e ∷ after_first e k) ∙ c.in_ok-first.ensures.goes (after_first e k) ∙ c.in_err-expect-2.ensures.1 (need list e ∷ after_second k))

pub Reader::choice-returns-in_err-second : goal.Reader::choice-returns-in_err-second
Reader::choice-returns-in_err-second t c =
    let p = err_from_is_err_and c.from_residual-in_err-second.result c.from_residual-in_err-second.ensures.1 in
    let e = within c.in_ok-inner.inner in
    rw (p.1, p.2) (search rules, λ k. chooses c.args.depth c.in_ok-inner.inner c.in_ok-inner.ensures (c.pass-place.ensures.past lexeme.If c.requires) k ∙ c.in_ok-test.ensures.goes (after_test e k) ∙ expected c.in_ok-expect.ensures (need list e ∷ after_first e k) ∙ c.in_ok-first.ensures.goes (after_first e k) ∙ expected c.in_ok-expect-2.ensures (need list e ∷ after_second k) ∙ c.in_err-second.ensures.1 (after_second k))

pub Reader::choice-returns-in_err-expect-3 : goal.Reader::choice-returns-in_err-expect-3
Reader::choice-returns-in_err-expect-3 t c =
    let p = err_from_is_err_and c.from_residual-in_err-expect-3.result c.from_residual-in_err-expect-3.ensures.1 in
    let e = within c.in_ok-inner.inner in
    rw (p.1, p.2) (search rules, λ k. chooses c.args.depth c.in_ok-inner.inner c.in_ok-inner.ensures (c.pass-place.ensures.past lexeme.If c.requires) k ∙ c.in_ok-test.ensures.goes (after_test e k) ∙ expected c.in_ok-expect.ensures (need list e ∷ after_first e k) ∙ c.in_ok-first.ensures.goes (after_first e k) ∙ expected c.in_ok-expect-2.ensures (need list e ∷ after_second k) ∙ c.in_ok-second.ensures.goes (after_second k) ∙ c.in_err-expect-3.ensures.1 k)

pub Reader::choice-returns : goal.Reader::choice-returns
Reader::choice-returns t c = if_read c.in_ok-inner.ensures (c.pass-place.ensures.past lexeme.If c.requires) c.in_ok-test.ensures c.in_ok-expect.ensures c.in_ok-first.ensures c.in_ok-expect-2.ensures c.in_ok-second.ensures c.in_ok-expect-3.ensures c.pass-place.ensures.place c.put.ensures.wrote c.put.ensures.number

pub Reader::holding-returns-in_err-latch : goal.Reader::holding-returns-in_err-latch
Reader::holding-returns-in_err-latch t c =
    let p = err_from_is_err_and c.from_residual-in_err-latch.result c.from_residual-in_err-latch.ensures.1 in
    let e = within c.in_ok-inner.inner in
    let h = c.in_err-latch.ensures c.args.depth in
    rw (p.1, p.2) (c.pass-place.ensures.along >> h.0, λ k. holds c.args.depth c.in_ok-inner.inner c.in_ok-inner.ensures (c.pass-place.ensures.past lexeme.Hold c.requires) k ∙ h.1 (this lexeme.Do ∷ loop_body e k))

pub Reader::holding-returns-in_err-body : goal.Reader::holding-returns-in_err-body
Reader::holding-returns-in_err-body t c =
    let p = err_from_is_err_and c.from_residual-in_err-body.result c.from_residual-in_err-body.ensures.1 in
    let e = within c.in_ok-inner.inner in
    rw (p.1, p.2) (search rules, λ k. holds c.args.depth c.in_ok-inner.inner c.in_ok-inner.ensures (c.pass-place.ensures.past lexeme.Hold c.requires) k ∙ latched c.args.depth c.in_ok-latch.ensures.0 c.in_ok-latch.ensures.1 (this lexeme.Do ∷ loop_body e k) ∙ expected c.in_ok-expect.ensures (loop_body e k) ∙ c.in_err-body.ensures.1 (this lexeme.End ∷ k))

pub Reader::holding-returns-in_err-expect-2 : goal.Reader::holding-returns-in_err-expect-2
Reader::holding-returns-in_err-expect-2 t c =
    let p = err_from_is_err_and c.from_residual-in_err-expect-2.result c.from_residual-in_err-expect-2.ensures.1 in
    let e = within c.in_ok-inner.inner in
    rw (p.1, p.2) (search rules, λ k. holds c.args.depth c.in_ok-inner.inner c.in_ok-inner.ensures (c.pass-place.ensures.past lexeme.Hold c.requires) k ∙ latched c.args.depth c.in_ok-latch.ensures.0 c.in_ok-latch.ensures.1 (this lexeme.Do ∷ loop_body e k) ∙ expected c.in_ok-expect.ensures (loop_body e k) ∙ c.in_ok-body.ensures.goes (this lexeme.End ∷ k) ∙ c.in_err-expect-2.ensures.1 k)

pub Reader::holding-returns : goal.Reader::holding-returns
Reader::holding-returns t c = hold_read c.in_ok-inner.ensures (c.pass-place.ensures.past lexeme.Hold c.requires) c.in_ok-latch.ensures.0 c.in_ok-latch.ensures.1 c.in_ok-expect.ensures c.in_ok-body.ensures c.in_ok-expect-2.ensures c.pass-place.ensures.place c.put.ensures.wrote c.put.ensures.number

pub Reader::repetition-returns-in_err-test : goal.Reader::repetition-returns-in_err-test
Reader::repetition-returns-in_err-test t c =
    let p = err_from_is_err_and c.from_residual-in_err-test.result c.from_residual-in_err-test.ensures.1 in
    let e = within c.in_ok-inner.inner in
    rw (p.1, p.2) (search rules, λ k. repeats c.args.depth c.in_ok-inner.inner c.in_ok-inner.ensures (c.pass-place.ensures.past lexeme.While c.requires) k ∙ c.in_err-test.ensures.1 (this lexeme.Do ∷ loop_body e k))

pub Reader::repetition-returns-in_err-expect : goal.Reader::repetition-returns-in_err-expect
Reader::repetition-returns-in_err-expect t c =
    let p = err_from_is_err_and c.from_residual-in_err-expect.result c.from_residual-in_err-expect.ensures.1 in
    let e = within c.in_ok-inner.inner in
    rw (p.1, p.2) (search rules, λ k. repeats c.args.depth c.in_ok-inner.inner c.in_ok-inner.ensures (c.pass-place.ensures.past lexeme.While c.requires) k ∙ c.in_ok-test.ensures.goes (this lexeme.Do ∷ loop_body e k) ∙ c.in_err-expect.ensures.1 (loop_body e k))

pub Reader::repetition-returns-in_err-body : goal.Reader::repetition-returns-in_err-body
Reader::repetition-returns-in_err-body t c =
    let p = err_from_is_err_and c.from_residual-in_err-body.result c.from_residual-in_err-body.ensures.1 in
    let e = within c.in_ok-inner.inner in
    rw (p.1, p.2) (search rules, λ k. repeats c.args.depth c.in_ok-inner.inner c.in_ok-inner.ensures (c.pass-place.ensures.past lexeme.While c.requires) k ∙ c.in_ok-test.ensures.goes (this lexeme.Do ∷ loop_body e k) ∙ expected c.in_ok-expect.ensures (loop_body e k) ∙ c.in_err-body.ensures.1 (this lexeme.End ∷ k))

pub Reader::repetition-returns-in_err-expect-2 : goal.Reader::repetition-returns-in_err-expect-2
Reader::repetition-returns-in_err-expect-2 t c =
    let p = err_from_is_err_and c.from_residual-in_err-expect-2.result c.from_residual-in_err-expect-2.ensures.1 in
    let e = within c.in_ok-inner.inner in
    rw (p.1, p.2) (search rules, λ k. repeats c.args.depth c.in_ok-inner.inner c.in_ok-inner.ensures (c.pass-place.ensures.past lexeme.While c.requires) k ∙ c.in_ok-test.ensures.goes (this lexeme.Do ∷ loop_body e k) ∙ expected c.in_ok-expect.ensures (loop_body e k) ∙ c.in_ok-body.ensures.goes (this lexeme.End ∷ k) ∙ c.in_err-expect-2.ensures.1 k)

pub Reader::repetition-returns : goal.Reader::repetition-returns
Reader::repetition-returns t c = while_read c.in_ok-inner.ensures (c.pass-place.ensures.past lexeme.While c.requires) c.in_ok-test.ensures c.in_ok-expect.ensures c.in_ok-body.ensures c.in_ok-expect-2.ensures c.pass-place.ensures.place c.put.ensures.wrote c.put.ensures.number

pub Reader::statement-returns-in-Some-Skip : goal.Reader::statement-returns-in-Some-Skip
Reader::statement-returns-in-Some-Skip t c = skip_read (c.leaf.ensures lexeme.Skip (search rules))

pub Reader::statement-returns-in-Some-Leave : goal.Reader::statement-returns-in-Some-Leave
Reader::statement-returns-in-Some-Leave t c = leave_read (c.leaf-in-Some-Leave.ensures lexeme.Leave (search rules))
