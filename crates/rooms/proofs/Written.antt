-- What nine new bytes leave of a record: its length, every other cell's nine and its last byte.
use Rattle.std.proofs.Common.{◌≡◌, ℕ, ◌+◌, ◌*◌, ◌<◌, ◌≤◌, ◌≢◌, List, ◌++◌, length, get_or, take, drop, ℤ, Some, None, Option, sym, refl, ap, ◌∙◌, arith, rules}
use Rattle.std.proofs.lemmas.List.{places, same_lists, take_at, drop_at}
use Rattle.rooms.specs.Record.{nine_for, with_nine, nine_at, latch_byte, MarksOk, IsRecord}

-- a part of a list, in the middle and apart from a change
part_here : {X : Type 0} (xs ys zs : List X) (i n : ℕ) → length xs ≡ i → length ys ≡ n → take n (drop i (xs ++ (ys ++ zs))) ≡ ys
part_here xs ys zs i n e f = ap (take n) (drop_at xs (ys ++ zs) i e) ∙ take_at ys zs n f

pub same_part : (xs ys : List ℕ) (i n : ℕ) → length xs ≡ length ys → ((k : ℕ) (d : ℕ) → i ≤ k → k < i + n → get_or xs k d ≡ get_or ys k d) → take n (drop i xs) ≡ take n (drop i ys)
same_part xs ys i n e same = same_lists _ _ (search (rules, places)) (λ k d h. grind (arith, places, same (i + k) d))

pub nine_long : (v : Option ℤ) → length (nine_for v) ≡ 9
nine_long (Some n) = refl
nine_long None = refl

pub nine_mark : (v : Option ℤ) → get_or (nine_for v) 8 0 ≤ 1
nine_mark (Some n) = omega arith
nine_mark None = omega arith

module _ (bytes : List ℕ) (c : ℕ) (nine : List ℕ) (long : length bytes ≡ 289) (there : c < 32) (few : length nine ≡ 9) where
  pub with_nine_long : length (with_nine bytes c nine) ≡ 289
  with_nine_long = search (rules, places)

  pub with_nine_last : latch_byte (with_nine bytes c nine) ≡ latch_byte bytes
  with_nine_last = search (rules, places)

  pub nine_here : nine_at (with_nine bytes c nine) c ≡ nine
  unfolding nine_at
  nine_here = part_here (take (9 * c) bytes) nine (drop (9 * c + 9) bytes) (9 * c) 9 (search (rules, places)) few

  pub nine_there : (k : ℕ) → k < 32 → k ≢ c → nine_at (with_nine bytes c nine) k ≡ nine_at bytes k
  unfolding nine_at
  nine_there k h ne = same_part _ _ (9 * k) 9 (with_nine_long ∙ sym long) (λ j d low high. grind (arith, places))

  pub with_nine_marks : get_or nine 8 0 ≤ 1 → MarksOk bytes → MarksOk (with_nine bytes c nine)
  with_nine_marks ok all k h = grind (arith, places, all k h)

pub record_after : (bytes : List ℕ) (c : ℕ) (v : Option ℤ) (new : List ℕ) → IsRecord bytes → c < 32 → new ≡ with_nine bytes c (nine_for v) → IsRecord new
record_after bytes c v new ok there e =
    let few = nine_long v in
    rw e (record {
      long = with_nine_long bytes c (nine_for v) ok.long there few;
      marks = with_nine_marks bytes c (nine_for v) ok.long there few (nine_mark v) ok.marks;
      latches = rw (with_nine_last bytes c (nine_for v) ok.long there few) ok.latches;
    })
