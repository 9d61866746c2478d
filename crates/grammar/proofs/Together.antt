-- The laws of the grammar, together.
use Rattle.grammar.specs.Laws.{Laws}
use Rattle.grammar.proofs.Fates.{limits_only_refuse, one_fate_only}
use Rattle.grammar.proofs.Unique.{one_tree}
use Rattle.grammar.proofs.Verdicts.{judged}

pub laws : Laws
laws = record {
  one_tree = one_tree;
  limits_only_refuse = limits_only_refuse;
  one_fate = λ s l. (_, judged s l, λ w f. one_fate_only s l w _ f (judged s l));
}
