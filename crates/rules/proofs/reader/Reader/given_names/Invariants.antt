use Rattle.std.proofs.Common.{[], ◌∷◌, length}
use Rattle.grammar.specs.Grammar.{limits, given_names}
use Rattle.grammar.specs.Automaton.{tail}
use Rattle.rules.specs.Readers.{rest, Given}
use Rattle.rules.specs.declared.reader.Reader.{Reader}
use Rattle.rules.proofs.reader.Reader.given_names.Given as goal

abbrev pub invariant-loop-self : goal.invariant-loop-self
invariant-loop-self l = (r : Reader) → Given given_names (tail given_names limits ∷ []) r l.initial.self l.initial.given → Given given_names (tail given_names limits ∷ []) r l.self l.given

abbrev pub decreases-loop-self : goal.decreases-loop-self
decreases-loop-self l = length (rest l.self)
