use Rattle.std.proofs.Common.{subst}
use Rattle.rules.specs.Nodes.{node}
use Rattle.rules.specs.Readers.{Wrote}
use Rattle.rules.proofs.reader.Reader.leaf.Goals as goal

pub returns : goal.returns
returns c = λ m is. record {
  between = c.pass-place.new.self;
  past = c.pass-place.ensures.past m is;
  wrote = subst (λ p. Wrote (node p c.args.kind) c.pass-place.new.self c.put.new.self) c.pass-place.ensures.place c.put.ensures.wrote;
  number = c.put.ensures.number;
}
