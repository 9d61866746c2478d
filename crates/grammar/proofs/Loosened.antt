-- What derives within limits derives without any.
use Rattle.std.proofs.Common.{List, refl}
use Rattle.tokens.specs.Tokens.{Spot}
use Rattle.grammar.specs.Grammar.{Class, Tree, Sort, Bound, unbounded, Derives, single, more, a_number, a_name, in_round, a_true, a_false, a_not, is_equal, is_at_most, in_square, a_skip, a_leave, an_assignment, an_if, a_while, a_hold, a_given, with_given, no_given}

pub loosened : {c : Class} {X : Sort c} {b : Bound} {s r : List Spot} {t : Tree c} → Derives c X b s t r → Derives c X unbounded s t r
loosened (single i h) = single i (loosened h)
loosened (more i j h g) = more i j (loosened h) (loosened g)
loosened (a_number f) = a_number refl
loosened (a_name f) = a_name refl
loosened (in_round i h) = in_round refl (loosened h)
loosened a_true = a_true
loosened a_false = a_false
loosened (a_not i h) = a_not refl (loosened h)
loosened (is_equal h g) = is_equal (loosened h) (loosened g)
loosened (is_at_most h g) = is_at_most (loosened h) (loosened g)
loosened (in_square i h) = in_square refl (loosened h)
loosened a_skip = a_skip
loosened a_leave = a_leave
loosened (an_assignment f h) = an_assignment refl (loosened h)
loosened (an_if i h g o) = an_if refl (loosened h) (loosened g) (loosened o)
loosened (a_while i h g) = a_while refl (loosened h) (loosened g)
loosened (a_hold i f h) = a_hold refl refl (loosened h)
loosened (a_given f) = a_given refl
loosened (with_given h g) = with_given (loosened h) (loosened g)
loosened (no_given h) = no_given (loosened h)
