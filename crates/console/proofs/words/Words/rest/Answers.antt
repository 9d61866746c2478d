use Rattle.std.proofs.Common.{rules}
use Rattle.console.specs.Words.{text_left}
use Rattle.console.proofs.Parting.{words_again}
use Rattle.console.proofs.words.Words.rest.Goals as goal

pub returns-clause-words : goal.returns-clause-words
returns-clause-words c = words_again (text_left c.args.self.now) _ (search rules)
