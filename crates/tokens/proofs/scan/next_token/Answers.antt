use Rattle.std.proofs.Common.{◌≡◌, ◌+◌, [], drop, sym, refl, ap, ◌∙◌, arith}
use Rattle.std.specs.List.{prefix_len}
use Rattle.std.proofs.lemmas.List.{drop_min, take_rest}
use Rattle.std.proofs.lemmas.Grind.{common_steps}
use Rattle.tokens.specs.Classes.{is_blank}
use Rattle.tokens.specs.Tokens.{first_symbol, first_width}
use Rattle.tokens.specs.Lexing.{placed, symbol}
use Rattle.tokens.proofs.Scans.{next, none_first, width_fits, spelt_from}
use Rattle.tokens.proofs.scan.next_token.Goals as goal

pub overflow_add-result : goal.overflow_add-result
overflow_add-result c = grind (arith, common_steps, width_fits)

pub returns-clause-tokens : goal.returns-clause-tokens
returns-clause-tokens c =
    let t = c.args.text.now in
    let j = c.min-start.result + c.run.result in
    let n : c.run.result ≡ prefix_len is_blank (drop c.args.from t) = c.run.ensures.value ∙ ap (prefix_len is_blank) (take_rest t c.min-start.result ∙ ap (λ o. drop o t) c.min-start.ensures ∙ drop_min c.args.from t) in
    let e = c.first_token-width.ensures in
    λ names. (λ k. placed names j (e.symbol names k) (j + e.width k) t)
    ∙ ap (λ s. placed names j (first_symbol names s) (j + first_width s) t) (take_rest t j)
    ∙ sym (next names t (drop c.args.from t) c.args.from j refl (λ k. c.min-start.ensures k + n k))

pub returns-clause-spelt : goal.returns-clause-spelt
returns-clause-spelt c = spelt_from c.args.text.now _ (c.min-start.result + c.run.result) _ _ (take_rest c.args.text.now _) c.first_token-width.ensures.spelt

pub returns-clause-within : goal.returns-clause-within
returns-clause-within c = grind (arith, common_steps, width_fits)

pub returns-clause-ended : goal.returns-clause-ended
returns-clause-ended c = λ is. let h = none_first _ (sym (c.first_token-width.ensures.symbol []) ∙ ap (symbol []) is) in grind (arith, common_steps, h)
