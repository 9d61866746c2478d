use Rattle.std.proofs.Common.{◌<◌, length, Some, None, sym, refl, arith, ◌∙◌}
use Rattle.rules.proofs.Numbering.{found_cell, known_word, new_word}
use Rattle.rules.proofs.names.Names.cell.Goals as goal

pub returns-in-Some : goal.returns-in-Some
returns-in-Some c =
    let r = c.args.self.now in
    let f = found_cell r.words r.count c.args.word.now (Some c.in-Some.cell) (omega (arith, r.places, r.few)) (sym c.in-Some.is ∙ c.position.ensures) in
    (f.0, omega (arith, r.few, f.1), known_word r.words r.count c.args.word.now (omega (arith, r.places, r.few)) (omega (arith, f.0, f.1)))

pub returns-then-cell-eq-NAMES : goal.returns-then-cell-eq-NAMES
returns-then-cell-eq-NAMES c =
    let r = c.args.self.now in
    (omega (arith, c.if-cell-eq-NAMES.true, found_cell r.words r.count c.args.word.now None (omega (arith, r.places, r.few)) (sym c.in_default.is ∙ c.position.ensures)), refl)

pub returns : goal.returns
returns c =
    let r = c.args.self.now in
    let room : r.count < length r.words = omega (arith, r.places, r.few, c.if-cell-eq-NAMES.false) in
    let is = found_cell r.words r.count c.args.word.now None (omega (arith, room)) (sym c.in_default.is ∙ c.position.ensures) in
    (is, omega (arith, room, r.places), new_word r.words r.count c.args.word room (omega (arith, is)))
