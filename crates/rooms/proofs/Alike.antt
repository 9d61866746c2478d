-- Two rooms under the same calls: what a loop over the calls keeps.
use Rattle.std.proofs.Common.{◌≡◌, Bool, true, false, List, [], ◌∷◌, Some, None, refl, ap, ◌∙◌}
use Rattle.std.proofs.lemmas.Bool.{cond_both}
use Rattle.std.proofs.lemmas.List.{length-set}
use Rattle.rooms.specs.Meaning.{Meaning, size_of, latch_count}
use Rattle.rooms.specs.Calls.{after_call, answers_to, after_calls, LeftBy}
use Rattle.rooms.specs.declared.calls.RoomCall.{RoomCall}
use Rattle.rooms.specs.declared.calls.RoomCall.TheVariants.{Size, LatchCount, Get, Held, Put, Clear, Take, Give}

-- after some calls the rooms mean a and b, where they meant a0 and b0, and `rest` of the calls is to come
pub record Kept (a b a0 b0 : Meaning) (rest calls : List RoomCall) (alike : Bool) : Type 0 where
  pub a_left : after_calls a rest ≡ after_calls a0 calls
  pub b_left : after_calls b rest ≡ after_calls b0 calls
  pub forth : alike ≡ true → answers_to a rest ≡ answers_to b rest → answers_to a0 calls ≡ answers_to b0 calls
  pub back : answers_to a0 calls ≡ answers_to b0 calls → (alike ≡ true) × (answers_to a rest ≡ answers_to b rest)

-- no call changes how many cells or latches there are
abbrev SameSizes : Meaning → Meaning → Type 0
SameSizes before after = (size_of after ≡ size_of before) × (latch_count after ≡ latch_count before)

after_sized : (m : Meaning) (call : RoomCall) → SameSizes m (after_call m call)
after_sized m Size = (refl, refl)
after_sized m LatchCount = (refl, refl)
after_sized m (Get c) = (refl, refl)
after_sized m (Held k) = (refl, refl)
after_sized m (Put c n) = cond_both _ _ m (SameSizes m) (λ _. (length-set m.cells c (Some n), refl)) (λ _. (refl, refl))
after_sized m (Clear c) = cond_both _ _ m (SameSizes m) (λ _. (length-set m.cells c None, refl)) (λ _. (refl, refl))
after_sized m (Take k) = cond_both _ _ m (SameSizes m) (λ _. (refl, length-set m.latches k true)) (λ _. (refl, refl))
after_sized m (Give k) = cond_both _ _ m (SameSizes m) (λ _. (refl, length-set m.latches k false)) (λ _. (refl, refl))

calls_sized : (m : Meaning) (calls : List RoomCall) → SameSizes m (after_calls m calls)
calls_sized m [] = (refl, refl)
calls_sized m (call ∷ calls) =
    let rest = calls_sized (after_call m call) calls in
    let first = after_sized m call in
    (rest.0 ∙ first.0, rest.1 ∙ first.1)

pub left_by : (calls : List RoomCall) (before after : Meaning) → after ≡ after_calls before calls → LeftBy calls before after
left_by calls before after e =
    let sizes = calls_sized before calls in
    record { meant = e; sized = ap size_of e ∙ sizes.0; latched = ap latch_count e ∙ sizes.1 }
