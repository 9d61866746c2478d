-- From the bytes of a record to its meaning.
use Rattle.std.proofs.Common.{◌≡◌, ℕ, zero, suc, ◌+◌, ◌*◌, ◌/◌, ◌%◌, ◌<◌, ◌≤◌, Bool, true, false, ltb, List, [], ◌∷◌, length, get_or, set, take, drop, ℤ, None, Option, sym, ap, ◌∙◌, subst, inl, inr, arith}
use Rattle.std.proofs.lemmas.List.FromFn.{fill_by_all, get_or-map-range_with_len, length-map-range_with_len}
use Rattle.std.specs.Simd.{first_chunks}
use Rattle.std.proofs.lemmas.List.{drop-drop, get_or_past, get_or-set_same, get_or-set_other, length-set}
use Rattle.std.proofs.lemmas.Bool.Decides.{nat_tests, eqb_tells}
use Rattle.rooms.specs.Meaning.{cell, size_of, with_cell, can_turn, cell_after, turn_after}
use Rattle.rooms.specs.Record.{cell_in, nine_for, nine_at, with_nine, latch_byte, odd, latches_in, bit, byte_of, cells_in, decoded}
use Rattle.rooms.proofs.Written.{nine_long, same_part, with_nine_last, nine_here, nine_there}

-- what a cell of the meaning is, by its nine bytes
abbrev of_nine : List ℕ → ℕ → Option ℤ
of_nine bytes c = cell_in (nine_at bytes c)

pub decoded_size : (bytes : List ℕ) → size_of (decoded bytes) ≡ 32
unfolding cells_in
decoded_size bytes = length-map-range_with_len (of_nine bytes) 0 32

pub decoded_cell : (bytes : List ℕ) (c : ℕ) → c < 32 → cell (decoded bytes) c ≡ cell_in (nine_at bytes c)
unfolding cells_in
decoded_cell bytes c h = get_or-map-range_with_len (of_nine bytes) 0 32 c c None h (omega arith)

-- a chunk of a list
chunk_at : {X : Type 0} (n k c : ℕ) (xs d : List X) → c < k → get_or (first_chunks n k xs) c d ≡ take n (drop (n * c) xs)
chunk_at n zero c xs d h = let z : ⊥ = omega arith in elim z [ ]
chunk_at n (suc k) zero xs d h = let e : n * 0 ≡ 0 = omega arith in rw e
chunk_at n (suc k) (suc c) xs d h =
    let e : n + n * c ≡ n * suc c = omega arith in
    chunk_at n k c (drop n xs) d (omega arith) ∙ ap (take n) (drop-drop (n * c) n xs ∙ ap (λ i. drop i xs) e)

-- cell c by the chunks of nine bytes
pub cell_of_chunk : (bytes d : List ℕ) (chunks : List (List ℕ)) (c : ℕ) → length bytes ≡ 289 → chunks ≡ first_chunks 9 (length bytes / 9) bytes → c < 32 → cell (decoded bytes) c ≡ cell_in (get_or chunks c d)
unfolding nine_at
cell_of_chunk bytes d chunks c long e h =
    let count : length bytes / 9 ≡ 32 = omega arith in
    let there : get_or chunks c d ≡ nine_at bytes c = rw (e, count) (chunk_at 9 32 c bytes d h) in
    decoded_cell bytes c h ∙ ap cell_in (sym there)

pub decoded_past : (bytes : List ℕ) (c : ℕ) → 32 ≤ c → cell (decoded bytes) c ≡ None
decoded_past bytes c h = get_or_past (decoded bytes).cells c None (omega (arith, decoded_size bytes))

module _ (bytes : List ℕ) (c : ℕ) (nine : List ℕ) (v : Option ℤ) (long : length bytes ≡ 289) (there : c < 32) (few : length nine ≡ 9) (says : cell_in nine ≡ v) where
  each : (k : ℕ) → k < 32 → get_or (set (decoded bytes).cells c v) k None ≡ of_nine (with_nine bytes c nine) k
  each k h =
      let cells : List (Option ℤ) = (decoded bytes).cells in
      let many : c < length cells = omega (arith, decoded_size bytes) in
      elim (eqb_tells k c) [ inl p ↦ subst (λ n. get_or (set cells c v) n None ≡ of_nine (with_nine bytes c nine) n) (sym p.1) (get_or-set_same cells c v None many ∙ sym (ap cell_in (nine_here bytes c nine long there few) ∙ says)) | inr q ↦ get_or-set_other cells c k v None q.1 ∙ decoded_cell bytes k h ∙ sym (ap cell_in (nine_there bytes c nine long there few k h q.1)) ]

  -- nine new bytes change the one cell of the meaning
  pub decoded_with_nine : decoded (with_nine bytes c nine) ≡ with_cell (decoded bytes) c v
  unfolding cells_in
  decoded_with_nine =
      let cells : set (decoded bytes).cells c v ≡ (decoded (with_nine bytes c nine)).cells = fill_by_all (of_nine (with_nine bytes c nine)) (set (decoded bytes).cells c v) 32 None (length-set (decoded bytes).cells c v ∙ decoded_size bytes) each in
      rw (with_nine_last bytes c nine long there few, ← cells)

-- a write that is accepted, by the bytes that it leaves
pub decoded_after : (bytes : List ℕ) (c : ℕ) (v : Option ℤ) (new : List ℕ) → length bytes ≡ 289 → c < 32 → cell_in (nine_for v) ≡ v → new ≡ with_nine bytes c (nine_for v) → decoded new ≡ cell_after (decoded bytes) c v
decoded_after bytes c v new long there says e =
    let in_size : ltb c (size_of (decoded bytes)) ≡ true = grind (arith, nat_tests, decoded_size bytes) in
    rw (e, in_size) (decoded_with_nine bytes c (nine_for v) v long there (nine_long v) says)

-- four latches and their byte
bit_small : (l : Bool) → bit l ≤ 1
bit_small true = omega arith
bit_small false = omega arith

bit_back : (l : Bool) (n : ℕ) → n % 2 ≡ bit l → odd n ≡ l
bit_back true n e = rw e
bit_back false n e = rw e

pub latches_back : (ls : List Bool) → length ls ≡ 4 → latches_in (byte_of ls) ≡ ls
latches_back [] e = let z : ⊥ = omega arith in elim z [ ]
latches_back (a ∷ []) e = let z : ⊥ = omega arith in elim z [ ]
latches_back (a ∷ b ∷ []) e = let z : ⊥ = omega arith in elim z [ ]
latches_back (a ∷ b ∷ c ∷ []) e = let z : ⊥ = omega arith in elim z [ ]
latches_back (a ∷ b ∷ c ∷ d ∷ []) e =
    let n = byte_of (a ∷ b ∷ c ∷ d ∷ []) in
    let ha = bit_small a in
    let hb = bit_small b in
    let hc = bit_small c in
    let hd = bit_small d in
    let ea = bit_back a n (omega arith) in
    let eb = bit_back b (n / 2) (omega arith) in
    let ec = bit_back c (n / 4) (omega arith) in
    let ed = bit_back d (n / 8) (omega arith) in
    cc
latches_back (a ∷ b ∷ c ∷ d ∷ f ∷ ls) e = let z : ⊥ = omega arith in elim z [ ]

-- the last byte is no cell's
pub decoded_latched : (bytes : List ℕ) (b : ℕ) → length bytes ≡ 289 → decoded (set bytes 288 b) ≡ record { cells = cells_in bytes; latches = latches_in b }
unfolding cells_in nine_at
decoded_latched bytes b long =
    let last : latch_byte (set bytes 288 b) ≡ b = get_or-set_same bytes 288 b 0 (omega arith) in
    let nines : (k : ℕ) → k < 32 → of_nine (set bytes 288 b) k ≡ of_nine bytes k = λ k h. ap cell_in (same_part _ _ (9 * k) 9 (length-set bytes 288 b) (λ j d low high. get_or-set_other bytes 288 j b d (λ e. omega arith))) in
    let cells : cells_in (set bytes 288 b) ≡ cells_in bytes = fill_by_all (of_nine bytes) (cells_in (set bytes 288 b)) 32 None (decoded_size (set bytes 288 b)) (λ k h. decoded_cell (set bytes 288 b) k h ∙ nines k h) in
    rw (last, cells)

-- a turn that is accepted changes the one latch of the meaning
pub decoded_turned : (bytes : List ℕ) (ls : List Bool) (k : ℕ) (on : Bool) → length bytes ≡ 289 → ls ≡ set (latches_in (latch_byte bytes)) k on → can_turn (latches_in (latch_byte bytes)) k on ≡ true → decoded (set bytes 288 (byte_of ls)) ≡ turn_after (decoded bytes) k on
decoded_turned bytes ls k on long e can =
    let back : latches_in (byte_of ls) ≡ set (latches_in (latch_byte bytes)) k on = latches_back ls (ap length e ∙ length-set (latches_in (latch_byte bytes)) k on) ∙ e in
    rw can (decoded_latched bytes (byte_of ls) long ∙ ap (λ latches. record { cells = cells_in bytes; latches = latches }) back)

-- the cells of a record's room, by its bytes
pub ruleset recorded = (nat_tests, decoded_size, decoded_past, cell_of_chunk)
