use Rattle.std.proofs.Common.{ℕ, ◌<◌, ◌≤◌, List, Some, None, Option, MatchOption, rules, arith}
use borrow.Author.Tests.{tests}
use Rattle.std.proofs.lemmas.Iterator.{first_from_Range}
use Rattle.rooms.specs.Record.{MarksOk, LowestWrongMark, mark_at}
use Rattle.rooms.proofs.format.wrong_mark.Goals as goal

lowest : (bytes : List ℕ) (r : Option ℕ) → MatchOption r ((k : ℕ) → 0 ≤ k → k < 32 → mark_at bytes k ≤ 1) (λ c. (0 ≤ c) × (c < 32) × (1 < mark_at bytes c) × ((k : ℕ) → 0 ≤ k → k < c → mark_at bytes k ≤ 1)) → MatchOption r (MarksOk bytes) (λ c. LowestWrongMark bytes c)
lowest bytes None h = λ k lt. h k (omega arith) lt
lowest bytes (Some c) h = record { there = h.1; wrong = h.2; lowest = λ k lt. h.3 k (omega arith) lt }

pub returns : goal.returns
returns c = lowest _ _ (first_from_Range _ _ _ _ (λ k. 1 < mark_at c.args.bytes.now k) (λ k. mark_at c.args.bytes.now k ≤ 1) c.find.ensures.ran (λ x q k. search (rules, tests)) (λ x q k. search (rules, tests)))
