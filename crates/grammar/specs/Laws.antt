-- What holds of the grammar.
use Rattle.std.specs.Prelude.{◌≡◌, ℕ, List, [], ◌∷◌}
use Rattle.tokens.specs.Tokens.{Spot}
use Rattle.grammar.specs.Trees.{Rule}
use Rattle.grammar.specs.Grammar.{Bound, unbounded, limits, rule, Whole, Misfit, Passes}
use Rattle.grammar.specs.Automaton.{Verdict, accepted, misfit, limited, judge, need}

-- tokens have at most one tree, within limits or without
abbrev pub OneTree : Type 0
OneTree = (b : Bound) (s : List Spot) (t u : Rule) → Whole b s t → Whole b s u → t ≡ u

-- what is a rule within the limits is the same rule without
abbrev pub LimitsOnlyRefuse : Type 0
LimitsOnlyRefuse = (s : List Spot) (t : Rule) → Whole limits s t → Whole unbounded s t

-- what becomes of tokens by the grammar: a rule within the limits, a misfit or a limit that is passed
pub data Fate (s : List Spot) (length : ℕ) : Verdict → Type 0 where
  a_rule : (t : Rule) → Whole limits s t → Fate s length accepted
  no_rule : (p : ℕ) → Misfit s length p → Fate s length (misfit p)
  too_much : (p : ℕ) → Passes s p → Fate s length (limited p)

-- exactly one of these holds, at one place
abbrev pub OneFate : Type 0
OneFate = (s : List Spot) (length : ℕ) → (v : Verdict) × Fate s length v × ((w : Verdict) → Fate s length w → w ≡ v)

-- what `read` promises of the grammar
pub record Laws : Type 0 where
  pub one_tree : OneTree
  pub limits_only_refuse : LimitsOnlyRefuse
  pub one_fate : OneFate

-- what the readers' stack says is what the grammar says
abbrev pub Judged : Type 0
Judged = (s : List Spot) (length : ℕ) → Fate s length (judge length s (need rule limits ∷ []))
