use Rattle.std.proofs.Common.{◌≡◌, ◌∷◌, length, drop, take, sym, ap, arith}
use Rattle.std.specs.Option.{option_map}
use Rattle.console.specs.Words.{first, words_left}
use Rattle.console.proofs.Parting.{cut, split_words, words_in, parted}
use Rattle.console.proofs.words.WordsIterator.next.Goals as goal

pub returns-in_err-line-clause-law : goal.returns-in_err-line-clause-law
returns-in_err-line-clause-law c = parted

pub returns : goal.returns
returns c =
    let line = c.in_ok-line.line.now in
    let at = c.word_len-len.ensures in
    let took = cut line c.word_len-len.result at.within at.before at.found c.behind-self.result c.behind-self.ensures in
    let words = split_words line _ _ took in
    let steps : words_left c.args.self.now ≡ take c.word_len-len.result line ∷ words_in (option_map (λ x. x.now) c.behind-self.result) = rw c.in_ok-line.was words in
    record {
      steps = steps;
      goes = record { on = λ _. (tt, tt, omega (arith, ap length steps)); keeps = tt; rests = λ _. tt };
      word = ap first (sym steps);
      after = ap (drop 1) (sym steps);
      took = rw c.in_ok-line.was took;
      law = parted;
    }
