-- What giving a latch back leaves.
use Rattle.std.proofs.Common.{◌≡◌, ℕ, zero, suc, ◌+◌, ◌<◌, ◌≤◌, ◌≢◌, Bool, false, List, [], ◌∷◌, length, get_or, set, sym, refl, ap, ◌∙◌, subst, inl, inr, arith}
use Rattle.std.proofs.lemmas.Bool.{cond_both}
use Rattle.std.proofs.lemmas.List.{get_or_past, get_or-set_other, length-set}
use Rattle.std.proofs.lemmas.Bool.Decides.{eqb_tells}
use Rattle.rooms.specs.Meaning.{Meaning, is_held, give_after, latch_count}

-- of the rooms before and after, when the latches below k are free
pub record Freed (before after : Meaning) (k : ℕ) : Type 0 where
  pub cells : after.cells ≡ before.cells
  pub latched : latch_count after ≡ latch_count before
  pub below : (j : ℕ) → j < k → is_held after.latches j ≡ false

set_free : (ls : List Bool) (k : ℕ) → get_or (set ls k false) k false ≡ false
set_free [] k = refl
set_free (l ∷ ls) zero = refl
set_free (l ∷ ls) (suc k) = set_free ls k

-- of the rooms before and after a give of latch k
given_sizes : (m : Meaning) (k : ℕ) → ((give_after m k).cells ≡ m.cells) × (latch_count (give_after m k) ≡ latch_count m)
given_sizes m k = cond_both _ _ m (λ n. (n.cells ≡ m.cells) × (latch_count n ≡ latch_count m)) (λ _. (refl, length-set m.latches k false)) (λ _. (refl, refl))

given_free : (m : Meaning) (k : ℕ) → is_held (give_after m k).latches k ≡ false
unfolding is_held
given_free m k = cond_both _ _ m (λ n. is_held n.latches k ≡ false) (λ _. set_free m.latches k) (λ e. e)

given_there : (m : Meaning) (k j : ℕ) → j ≢ k → is_held m.latches j ≡ false → is_held (give_after m k).latches j ≡ false
unfolding is_held
given_there m k j ne e = cond_both _ _ m (λ n. is_held n.latches j ≡ false) (λ _. get_or-set_other m.latches k j false false ne ∙ e) (λ _. e)

pub freed_more : (before m after : Meaning) (k : ℕ) → after ≡ give_after m k → Freed before m k → Freed before after (k + 1)
freed_more before m after k e f =
    let sizes = given_sizes m k in
    record {
      cells = ap (λ n. n.cells) e ∙ sizes.0 ∙ f.cells;
      latched = ap latch_count e ∙ sizes.1 ∙ f.latched;
      below = λ j h. ap (λ n. is_held n.latches j) e ∙ elim (eqb_tells j k) [ inl p ↦ subst (λ i. is_held (give_after m k).latches i ≡ false) (sym p.1) (given_free m k) | inr q ↦ (let lt : j < k = omega (arith, q.1) in given_there m k j q.1 (f.below j lt)) ];
    }

pub freed_all : (before after : Meaning) (k : ℕ) → latch_count before ≤ k → Freed before after k → (j : ℕ) → is_held after.latches j ≡ false
unfolding is_held
freed_all before after k h f j =
    let low : j < k → get_or after.latches j false ≡ false = f.below j in
    let past : length after.latches ≤ j → get_or after.latches j false ≡ false = get_or_past after.latches j false in
    grind (arith, low, past)
