use Rattle.std.proofs.Common.{sym, refl, ap, ◌∙◌, subst}
use Rattle.std.proofs.lemmas.List.{drop_all}
use Rattle.rooms.specs.Calls.{answers_to, after_calls}
use Rattle.rooms.proofs.Alike.{Kept, left_by}
use Rattle.rooms.proofs.calls.answer_alike.Goals as goal

pub returns : goal.returns
returns g c =
    let at = c.loop-call in
    let calls = c.args.calls.now in
    let k = subst (λ rest. Kept (g.A.Cells.meaning at.a) (g.B.Cells.meaning at.b) (g.A.Cells.meaning c.args.a.now) (g.B.Cells.meaning c.args.b.now) rest calls at.alike) (drop_all at.call-index calls c.loop-call-test.false) at.invariant in
    record {
      answers = (λ ok. k.forth ok refl, λ e. (k.back e).0);
      a_after = left_by _ _ _ k.a_left;
      b_after = left_by _ _ _ k.b_left;
      meaning_is_all = λ e. ((k.back (ap (λ m. answers_to m calls) e)).0, k.a_left ∙ ap (λ m. after_calls m calls) e ∙ sym k.b_left);
    }
