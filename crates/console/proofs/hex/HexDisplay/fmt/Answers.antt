use Rattle.std.proofs.Common.{◌≡◌, ◌/◌, true, false, [], ◌∷◌, length, get_or, refl, ap, ◌∙◌, arith}
use Rattle.std.proofs.lemmas.Fmt.{hex_byte}
use Rattle.std.proofs.lemmas.Grind.{put_two}
use Rattle.std.proofs.lemmas.List.{take_all}
use Rattle.console.specs.Hex.{hex_of}
use Rattle.console.proofs.Bytes.{padded, eight_digits, joined, one_written}
use Rattle.console.proofs.hex.HexDisplay.fmt.Goals as goal

pub loop-eight-preserved : goal.loop-eight-preserved
loop-eight-preserved g c = λ plain.
    let eights = c.as_chunks.result.0.now in
    let i = c.loop-eight.eight-index in
    let sofar = c.loop-eight.invariant plain in
    let text = padded 16 c.number-n.result in
    let digits : text ≡ hex_of (get_or eights i []) = eight_digits c.number-n.result (omega arith) ∙ ap hex_of c.number-n.ensures in
    let one = (rw (c.laid_out.ensures, c.in_radix.ensures) at c.in_ok-write.ensures.writes) sofar.plain (refl {a = true}) in
    put_two g.W.Write.write_str_gives _ _ _ _ text _ sofar one (one_written hex_of eights i [] text (omega arith) digits)

pub loop-b-preserved : goal.loop-b-preserved
loop-b-preserved g c = λ plain.
    let last = c.as_chunks.result.1.now in
    let i = c.loop-b.b-index in
    let sofar = c.loop-b.invariant plain in
    let text = padded 2 (get_or last i 0) in
    let digits : text ≡ hex_of (get_or last i 0 ∷ []) = hex_byte false (get_or last i 0) (omega arith) in
    let one = (rw (c.laid_out-in-loop-b.ensures, c.in_radix-in-loop-b.ensures) at c.in_ok-write-2.ensures.writes) sofar.plain (refl {a = true}) in
    put_two g.W.Write.write_str_gives _ _ _ _ text _ sofar one (one_written (λ b. hex_of (b ∷ [])) last i 0 text (omega arith) digits)

pub returns-clause-writes : goal.returns-clause-writes
returns-clause-writes g c = λ plain ok.
    let eights = c.loop-eight.invariant plain in
    let bytes = c.args.self.now.0.now in
    put_two g.W.Write.write_str_gives _ _ _ _ _ (hex_of bytes) eights (c.loop-b.invariant eights.plain)
    (rw (take_all c.loop-eight.eight-index c.as_chunks.result.0.now (omega arith), take_all c.loop-b.b-index c.as_chunks.result.1.now (omega arith), c.as_chunks.ensures.front, c.as_chunks.ensures.back) (joined (length bytes / 8) bytes))
