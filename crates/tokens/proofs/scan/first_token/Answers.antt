use Rattle.std.proofs.Common.{Some, get_or, take, sym, ap, ◌∙◌, rules}
use Rattle.tokens.specs.Tokens.{sign, signed}
use Rattle.tokens.specs.Lexing.{some_digits}
use Rattle.tokens.proofs.Scans.{digits_first, sign_first, next_equals}
use Rattle.tokens.proofs.scan.first_token.Goals as goal

pub returns-in-len1-up-2-clause-spelt : goal.returns-in-len1-up-2-clause-spelt
returns-in-len1-up-2-clause-spelt c = (search rules, ap (λ n. some_digits (take n c.args.text.now)) c.run-width-in-len1-up-2.ensures.value ∙ digits_first c.args.text.now c.in-len1-up.len_at_least (sym c.if-has-2.ensures))

pub returns-in-len1-up-3 : goal.returns-in-len1-up-3
returns-in-len1-up-3 c =
    let t = c.args.text.now in
    let q = c.starts_with.ensures.value ∙ next_equals t in
    let h = sign_first t _ c.in-len1-up.len_at_least (sym c.if-has.ensures) (sym c.if-has-2.ensures) q in
    record {
      symbol = λ names. c.sign_token.ensures.symbol names ∙ ap (λ r. Some (signed r.0)) c.sign-lexeme.ensures ∙ h.0 names;
      width = ap (λ r. r.1) c.sign-lexeme.ensures ∙ h.1;
      spelt = c.sign_token.ensures.spelt t 0 _ (sym (ap (λ r. r.0) c.sign-lexeme.ensures ∙ ap (λ e. (sign (get_or t 0 0) e).0) q));
    }
