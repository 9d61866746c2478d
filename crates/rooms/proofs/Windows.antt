-- The part of a room that a window shows, after a change below.
use Rattle.std.proofs.Common.{◌≡◌, ℕ, ◌+◌, ◌-◌, ◌<◌, ◌≤◌, min, Bool, true, false, cond, ltb, drop, ℤ, None, Err, Option, refl, ap, ◌∙◌, arith, length-drop, length-take, get_or-drop, get_or-take}
use Rattle.std.proofs.Math.Seq.{take-set-lt}
use Rattle.std.proofs.lemmas.List.{drop-set-add, get_or_past}
use Rattle.std.proofs.lemmas.Bool.Decides.{nat_tests}
use Rattle.rooms.specs.Meaning.{Meaning, size_of, cell, with_cell, with_latch, accepted_if, cell_answer, cell_after}
use Rattle.rooms.specs.Window.{seen}
use Rattle.rooms.specs.declared.refusal.RoomRefusal.TheVariants.{NoSuchCell}

pub seen_size : (b : ℕ) (m : Meaning) → size_of (seen b m) ≡ min (size_of m - b) 32
seen_size b m = simp (length-take, length-drop) (omega arith)

pub seen_cell : (b : ℕ) (m : Meaning) (c : ℕ) → c < 32 → cell (seen b m) c ≡ cell m (b + c)
seen_cell b m c h = rw (get_or-take 32 (drop b m.cells) c, get_or-drop b m.cells c)

seen_past : (b : ℕ) (m : Meaning) (c : ℕ) → 32 ≤ c → ltb c (size_of (seen b m)) ≡ false
seen_past b m c h = grind (arith, nat_tests, seen_size b m)

seen_there : (b : ℕ) (m : Meaning) (c : ℕ) → c < 32 → ltb (b + c) (size_of m) ≡ ltb c (size_of (seen b m))
seen_there b m c h = grind (arith, nat_tests, seen_size b m)

seen_set : (b : ℕ) (m : Meaning) (c : ℕ) (v : Option ℤ) (ok : Bool) → c < 32 → seen b (cond ok (with_cell m (b + c) v) m) ≡ cond ok (with_cell (seen b m) c v) (seen b m)
seen_set b m c v true h = rw (drop-set-add b m.cells c v, take-set-lt 32 (drop b m.cells) c v h)
seen_set b m c v false h = refl

pub seen_after : (b : ℕ) (m : Meaning) (c : ℕ) (v : Option ℤ) → c < 32 → seen b (cell_after m (b + c) v) ≡ cell_after (seen b m) c v
seen_after b m c v h = seen_set b m c v (ltb (b + c) (size_of m)) h ∙ ap (λ ok. cond ok (with_cell (seen b m) c v) (seen b m)) (seen_there b m c h)

pub seen_latch : (b : ℕ) (m : Meaning) (k : ℕ) (on ok : Bool) → seen b (cond ok (with_latch m k on) m) ≡ cond ok (with_latch (seen b m) k on) (seen b m)
seen_latch b m k on true = refl
seen_latch b m k on false = refl

pub there_answer : (b : ℕ) (m : Meaning) (c : ℕ) → c < 32 → cell_answer m (b + c) ≡ cell_answer (seen b m) c
there_answer b m c h = ap (λ ok. accepted_if ok NoSuchCell) (seen_there b m c h)

pub past_answer : (b : ℕ) (m : Meaning) (c : ℕ) → 32 ≤ c → cell_answer (seen b m) c ≡ Err NoSuchCell
past_answer b m c h = rw (seen_past b m c h)

pub past_after : (b : ℕ) (m : Meaning) (c : ℕ) (v : Option ℤ) → 32 ≤ c → cell_after (seen b m) c v ≡ seen b m
past_after b m c v h = rw (seen_past b m c h)

pub past_cell : (b : ℕ) (m : Meaning) (c : ℕ) → 32 ≤ c → cell (seen b m) c ≡ None
past_cell b m c h = get_or_past (seen b m).cells c None (omega (arith, seen_size b m))

-- what a window's calls answer and leave, by the room below
pub ruleset windowed = (nat_tests, seen_size, seen_cell, past_cell, there_answer, past_answer, seen_after, past_after, seen_latch)
