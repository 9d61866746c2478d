-- Hexadecimal digits, two at a time. Assumes nothing.
use Rattle.std.proofs.Common.{◌≡◌, ℕ, zero, suc, ◌+◌, ◌*◌, ◌/◌, ◌%◌, ◌<◌, ◌≤◌, false, ◌&&◌, ◌-◌, ◌^◌, List, [], ◌∷◌, ◌++◌, length, get_or, take, drop, replicate, is_some, Some, None, Option, sym, refl, ap, ◌∙◌, ⊎_elim, arith}
use Rattle.std.specs.Option.{option_map}
use Rattle.std.proofs.lemmas.List.{append_assoc, drop-drop, take-append-drop, replicate_more, take_more, take_all, at_drop_more, at_drop_all, append-nil, flat_map_more}
use Rattle.std.specs.Simd.{first_chunks}
use Rattle.std.specs.Fmt.{digits_onto, digits, format_spec, padded_integral, char_count}
use Rattle.std.proofs.DigitsParse.{digits_onto-nil, digits_onto_last, digits_onto_step}
use Rattle.std.proofs.lemmas.Bool.{cases_lt}
use Rattle.std.proofs.lemmas.Grind.{flat_map-append}
use Rattle.std.proofs.Math.Nat.{div-div-eq-div-mul}
use Rattle.std.specs.Int.{w64, to_be_bytes}
use Rattle.std.specs.List.{list_all, flat_map}
use Rattle.std.proofs.lemmas.Bool.Decides.{nat_tests}
use Rattle.console.specs.Hex.{digit_value, byte_of, before, bytes_of, digit_of, hex_of, Unfit, ReadsBack}

-- the byte that a pair of digits writes
abbrev pub byte_at : List ℕ → Option ℕ
byte_at pair = byte_of (digit_value (get_or pair 0 0)) (digit_value (get_or pair 1 0))

-- the bytes that pairs of digits write
abbrev pub bytes_in : List (List ℕ) → Option (List ℕ)
bytes_in [] = Some []
bytes_in (pair ∷ pairs) = before (byte_at pair) (bytes_in pairs)

pub paired : (k : ℕ) (word : List ℕ) → length word ≡ 2 * k → bytes_of word ≡ bytes_in (first_chunks 2 k word)
paired zero [] e = refl
paired zero (high ∷ word) e = absurd (omega arith)
paired (suc k) [] e = absurd (omega arith)
paired (suc k) (high ∷ []) e = absurd (omega arith)
paired (suc k) (high ∷ low ∷ word) e = ap (before (byte_of (digit_value high) (digit_value low))) (paired k word (omega arith))

-- two digits a byte
before_long : (word : List ℕ) (b : Option ℕ) (o : Option (List ℕ)) (bytes : List ℕ) → ((bs : List ℕ) → o ≡ Some bs → length word ≡ 2 * length bs) → before b o ≡ Some bytes → 2 + length word ≡ 2 * length bytes
before_long word None o bytes h e = let z : ◌≡◌ {A = ℕ} 0 1 = cc in absurd (omega arith)
before_long word (Some b) None bytes h e = let z : ◌≡◌ {A = ℕ} 0 1 = cc in absurd (omega arith)
before_long word (Some b) (Some bs) bytes h e =
    let whole : b ∷ bs ≡ bytes = cc in
    omega (arith, h bs refl, ap length whole)

pub long : (word bytes : List ℕ) → bytes_of word ≡ Some bytes → length word ≡ 2 * length bytes
long [] bytes e = let nil : [] ≡ bytes = cc in omega (arith, ap length nil)
long (high ∷ []) bytes e = let z : ◌≡◌ {A = ℕ} 0 1 = cc in absurd (omega arith)
long (high ∷ low ∷ word) bytes e =
    omega (arith, before_long word (byte_of (digit_value high) (digit_value low)) (bytes_of word) bytes (λ bs d. long word bs d) e)

pub unfit : (word : List ℕ) (n : ℕ) → (length word ≡ 2 * n → ⊥) → Unfit word n
unfit word n h bytes e l = h (omega (arith, long word bytes e))

pub unfit_none : (word : List ℕ) (n : ℕ) → bytes_of word ≡ None → Unfit word n
unfit_none word n none bytes some l = let z : ◌≡◌ {A = ℕ} 0 1 = cc in absurd (omega arith)

-- bytes filled in one by one: the first i of `out` are written by the pairs before the place i
abbrev pub onto : List ℕ → List (List ℕ) → Option (List ℕ)
onto done pairs = option_map (λ bs. done ++ bs) (bytes_in pairs)

module _ (pairs : List (List ℕ)) (out : List ℕ) (i : ℕ) (inv : onto (take i out) (drop i pairs) ≡ bytes_in pairs) where
  pub fill_spoiled : i < length pairs → None ≡ byte_at (get_or pairs i []) → bytes_in pairs ≡ None
  fill_spoiled k e =
      sym inv ∙ at_drop_more (onto (take i out)) pairs i [] k ∙ ap (λ o. option_map (λ bs. take i out ++ bs) (before o (bytes_in (drop (i + 1) pairs)))) (sym e)

  pub fill_all : length out ≤ i → length pairs ≤ i → bytes_in pairs ≡ Some out
  fill_all h k =
      sym inv ∙ at_drop_all (onto (take i out)) pairs i k ∙ ap Some (append-nil (take i out) ∙ take_all i out h)

-- whether each pair writes a byte
is_some_before : (b : Option ℕ) (o : Option (List ℕ)) → is_some (before b o) ≡ (is_some b && is_some o)
is_some_before None o = refl
is_some_before (Some b) None = refl
is_some_before (Some b) (Some bytes) = refl

pub all_written : (pairs : List (List ℕ)) → list_all (λ pair. is_some (byte_at pair)) pairs ≡ is_some (bytes_in pairs)
all_written [] = refl
all_written (pair ∷ pairs) =
    ap (λ b. is_some (byte_at pair) && b) (all_written pairs) ∙ sym (is_some_before (byte_at pair) (bytes_in pairs))

pub odd : (word : List ℕ) → (length word % 2 ≡ 0 → ⊥) → is_some (bytes_of word) ≡ false
odd word h = none (bytes_of word) (λ bytes e. h (omega (arith, long word bytes e)))
  where
    none : (o : Option (List ℕ)) → ((bytes : List ℕ) → o ≡ Some bytes → ⊥) → is_some o ≡ false
    none None h = refl
    none (Some bytes) h = absurd (h bytes refl)

digit_back : (d : ℕ) → d < 16 → digit_value (digit_of d) ≡ Some d
digit_back d h = grind (arith, nat_tests)

pub reads_back : ReadsBack
reads_back [] h = refl
reads_back (b ∷ bytes) h =
    let high = digit_back (b / 16) (omega (arith, h.0)) in
    let low = digit_back (b % 16) (omega arith) in
    let whole : 16 * (b / 16) + b % 16 ≡ b = omega arith in
    rw (high, low, reads_back bytes h.1, whole)

-- the last k digits of n, before others
abbrev last_digits : ℕ → ℕ → List ℕ → List ℕ
last_digits zero n ds = ds
last_digits (suc k) n ds = last_digits k (n / 16) (digit_of (n % 16) ∷ ds)

zeros : (k : ℕ) (ds : List ℕ) → replicate k 48 ++ ds ≡ last_digits k 0 ds
zeros zero ds = refl
zeros (suc k) ds = grind (arith, replicate_more {X = ℕ} k 48, append_assoc (replicate k 48) (48 ∷ []) ds, zeros k (48 ∷ ds))

-- the digits of a number, with zeros before them up to k digits
filled : (k i n : ℕ) (ds : List ℕ) → k ≤ i → 0 < k + n → n < 16 ^ k → replicate (k + length ds - length (digits_onto i 16 false n ds)) 48 ++ digits_onto i 16 false n ds ≡ last_digits k n ds
filled zero i n ds deep some small = absurd (omega arith)
filled (suc k) i n ds deep some small = ⊎_elim
    (λ one.
    let front : n / 16 ≡ 0 = omega arith in
    let pad : suc k + length ds - suc (length ds) ≡ k = omega arith in
    rw (digits_onto_last 16 false n ds i (omega arith) front, front, pad) (zeros k (digit_of (n % 16) ∷ ds)))
    (λ more.
    let pad : suc k + length ds ≡ k + suc (length ds) = omega arith in
    rw (digits_onto_step 16 false n ds i (omega arith) (omega arith), pad) (filled k (i - 1) (n / 16) (digit_of (n % 16) ∷ ds) (omega arith) (omega arith) (omega arith)))
    (cases_lt n 16)

-- what `{:0kx}` writes
abbrev pub padded : ℕ → ℕ → List ℕ
padded k n = padded_integral (format_spec 32 0 4 k (2 ^ 64 - 1)) false [] (digits 16 false n)

-- of a number below 2 ^ 64 that is the digits of its eight bytes
pub eight_digits : (n : ℕ) → n < 2 ^ 64 → padded 16 n ≡ hex_of (to_be_bytes w64 n)
unfolding padded_integral char_count
eight_digits n small =
    let pad : 16 - length (digits 16 false n) - 0 - 0 ≡ 16 - length (digits 16 false n) = omega arith in
    let high : (b : ℕ) → b % 256 / 16 ≡ b / 16 % 16 = λ b. omega arith in
    let low : (b : ℕ) → b % 256 % 16 ≡ b % 16 = λ b. omega arith in
    let same : last_digits 16 n [] ≡ hex_of (to_be_bytes w64 n) = simp (high, low, div-div-eq-div-mul) cc in
    rw (append-nil (digits 16 false n), pad, sym (digits_onto-nil 16 false n)) (filled 16 64 n [] (omega arith) (omega arith) small) ∙ same

-- bytes in eights, and then those that are left
pub joined : (k : ℕ) (bytes : List ℕ) → flat_map hex_of (first_chunks 8 k bytes) ++ hex_of (drop (k * 8) bytes) ≡ hex_of bytes
joined zero bytes = refl
joined (suc k) bytes =
    let far : suc k * 8 ≡ 8 + k * 8 = omega arith in
    let halves = flat_map-append (λ b. digit_of (b / 16) ∷ digit_of (b % 16) ∷ []) (take 8 bytes) (drop 8 bytes) in
    rw (far, sym (drop-drop (k * 8) 8 bytes)) (append_assoc (hex_of (take 8 bytes)) _ _ ∙ ap (λ l. hex_of (take 8 bytes) ++ l) (joined k (drop 8 bytes)) ∙ sym halves ∙ ap hex_of (take-append-drop 8 bytes))

-- one more eight, or one more byte
pub one_written : {X : Type 0} (f : X → List ℕ) (xs : List X) (i : ℕ) (d : X) (ds : List ℕ) → i < length xs → ds ≡ f (get_or xs i d) → flat_map f (take i xs) ++ ds ≡ flat_map f (take (i + 1) xs)
one_written f xs i d ds inside is =
    ap (λ l. flat_map f (take i xs) ++ l) is ∙ flat_map_more f [] (take i xs) (get_or xs i d) ∙ ap (flat_map f) (sym (take_more xs i d inside))
