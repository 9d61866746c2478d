use Rattle.std.proofs.Common.{◌≡◌, ◌-◌, take, drop, replicate, rules, [], length, sym, refl, ap, ◌∙◌, arith}
use Rattle.std.proofs.lemmas.Result.{err_from_is_err_and}
use Rattle.grammar.proofs.Together.{laws}
use Rattle.rules.specs.Nodes.{blank}
use Rattle.rules.specs.Reading.{too_long, empty}
use Rattle.tokens.proofs.Scans.{length_tokens}
use Rattle.tokens.specs.Lexing.{with_token}
use Rattle.rules.proofs.Ends.{first_tokens, blanked, same_places, fails, goes_on, too_full, accepts, all_names, how_many, tables}
use Rattle.rules.proofs.Outcomes.{one_outcome}
use Rattle.rules.proofs.text.read.Goals as goal

pub returns-then-text-gt-LONGEST : goal.returns-then-text-gt-LONGEST
returns-then-text-gt-LONGEST c = record { outcome = too_long c.if-text-gt-LONGEST.true; places = refl; laws = laws; once = one_outcome }

pub returns-in-EndOfText : goal.returns-in-EndOfText
returns-in-EndOfText c =
    let t = c.next_token-first.result in
    record {
      outcome = empty c.if-text-gt-LONGEST.false (sym (c.next_token-first.ensures.tokens []) ∙ ap (λ o. with_token [] t.place o t.end c.args.text.now) c.in-EndOfText.is);
      places = refl;
      laws = laws;
      once = one_outcome;
    }

pub invariant_of-reader : goal.invariant_of-reader
invariant_of-reader c =
    let all = length_tokens 0 0 [] c.args.text.now in
    let first = ap length (c.next_token-first.ensures.tokens []) in
    search rules

pub returns-in_err-given : goal.returns-in_err-given
returns-in_err-given c =
    let p = err_from_is_err_and c.from_residual.result c.from_residual.ensures.1 in
    let h = c.in_err-given.ensures in
    record {
      outcome = rw (p.1, p.2) (fails c.args.text.now (length c.args.table.now) _ (first_tokens c.new.result _ _ _ _ c.new.ensures c.next_token-first.ensures.tokens) refl c.if-text-gt-LONGEST.false c.in_err-given.field-0.0 c.in_default.not-EndOfText h);
      places = search rules;
      laws = laws;
      once = one_outcome;
    }

pub returns-in_default-token : goal.returns-in_default-token
returns-in_default-token c =
    let h = c.in_ok-given.ensures in
    record {
      outcome = goes_on c.args.text.now (length c.args.table.now) _ (first_tokens c.new.result _ _ _ _ c.new.ensures c.next_token-first.ensures.tokens) refl c.if-text-gt-LONGEST.false c.rule.new.self c.in_ok-given.given h c.in_default.not-EndOfText c.in_default-token.not-EndOfText;
      places = search rules;
      laws = laws;
      once = one_outcome;
    }

pub returns-then-count-nodes : goal.returns-then-count-nodes
returns-then-count-nodes c =
    let h = c.in_ok-given.ensures in
    record {
      outcome = too_full c.args.text.now (length c.args.table.now) _ (first_tokens c.new.result _ _ _ _ c.new.ensures c.next_token-first.ensures.tokens) refl c.if-text-gt-LONGEST.false c.rule.new.self c.in_ok-given.given h refl c.in-EndOfText-token.is (omega (arith, h.along.places, c.if-count-nodes.true));
      places = search rules;
      laws = laws;
      once = one_outcome;
    }

pub returns : goal.returns
returns c =
    let h = c.in_ok-given.ensures in
    let n = length c.args.table.now in
    let q = c.rule.new.self in
    let begins = first_tokens c.new.result _ _ _ _ c.new.ensures c.next_token-first.ensures.tokens in
    let f : c.fill.new.self ≡ replicate (length (take (length q.nodes.now - q.count) (drop q.count q.nodes.now))) blank = search rules in
    let b = blanked q.nodes.now c.fill.new.self q.count c.if-count-nodes.false f in
    let t = tables h.tree q.count c.args.table.now q.nodes.now _ (omega (arith, h.counted)) (omega (arith, h.along.places, c.if-count-nodes.false)) h.table b in
    let l = same_places q.nodes.now q.count c.if-count-nodes.false b in
    record {
      outcome = record {
        rule = h.tree;
        reads = accepts c.args.text.now n _ begins refl c.if-text-gt-LONGEST.false q c.in_ok-given.given h refl c.in-EndOfText-token.is (omega (arith, h.along.places, c.if-count-nodes.false));
        counted = omega (arith, h.counted);
        names = all_names c.args.text.now n _ begins refl c.if-text-gt-LONGEST.false q c.in_ok-given.given h c.in-EndOfText-token.is;
        named = how_many c.args.text.now n _ begins refl c.if-text-gt-LONGEST.false q c.in_ok-given.given h c.in-EndOfText-token.is;
        is_given = h.is_given;
        tabled = search (rules, t);
      };
      places = search (rules, l);
      laws = laws;
      once = one_outcome;
    }
