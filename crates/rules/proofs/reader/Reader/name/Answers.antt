use Rattle.std.proofs.Common.{◌+◌, ◌^◌, ◌<◌, subst}
use Rattle.rules.specs.Names.{words_of, Celled}
use Rattle.rules.proofs.Passing.{as_many, still_numbered, settled_name}
use Rattle.rules.proofs.reader.Reader.name.Goals as goal

pub invariant_of-self : goal.invariant_of-self
invariant_of-self c =
    let r = c.args.self.now in
    let e = c.cell.ensures in
    record {
      ended = r.ended;
      digits = r.digits;
      numbered = still_numbered r.names c.cell.new.self c.cell.result r.current.place r.current.end r.text.now c.args.word r.current.token e c.requires r.numbered;
      roomy = subst (λ n. r.count + n < 2 ^ 64) (as_many r.names c.cell.new.self c.cell.result r.current.place r.current.end r.text.now c.args.word r.current.token e c.requires) r.roomy;
    }

pub advance-requires : goal.advance-requires
advance-requires c = settled_name (words_of c.cell.new.self) (words_of c.args.self.now.names) c.args.word c.args.self.now.current.token c.requires (subst (λ o. Celled c.args.word.now c.args.self.now.names c.cell.new.self o) c.in_ok-cell.ensures.ok_part c.cell.ensures).2
