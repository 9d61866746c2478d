-- The numbers and places of what a reading refuses.
use Rattle.std.specs.Prelude.{ℕ}
use Rattle.rules.specs.declared.fault.Fault.{Fault}
use Rattle.rules.specs.declared.fault.Fault.TheVariants as fault
use Rattle.rules.specs.declared.refusal.ReadRefusal.{ReadRefusal}
use Rattle.rules.specs.declared.refusal.ReadRefusal.TheVariants.{TooLong, Empty, Misfit, Limit, TableFull}

-- by the cause; the place is that of the token, or 0
abbrev pub refusal_number : ReadRefusal → ℕ
refusal_number TooLong = 4
refusal_number Empty = 5
refusal_number (Misfit p) = 6
refusal_number (Limit p) = 7
refusal_number TableFull = 8

abbrev pub refusal_place : ReadRefusal → ℕ
refusal_place TooLong = 0
refusal_place Empty = 0
refusal_place (Misfit p) = p
refusal_place (Limit p) = p
refusal_place TableFull = 0

-- the refusal that a fault is
abbrev pub refusal_of : Fault → ReadRefusal
refusal_of (fault.Misfit p) = Misfit p
refusal_of (fault.Limit p) = Limit p
