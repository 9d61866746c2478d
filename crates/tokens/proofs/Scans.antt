-- The widths of tokens, and the tokens of the bytes from an offset on.
use Rattle.std.proofs.Common.{◌≡◌, ℕ, zero, suc, ◌+◌, ◌-◌, ◌≤◌, Bool, true, false, cond, eqb, List, [], ◌∷◌, length, get_or, take, drop, Some, None, sym, refl, ap, ◌∙◌, arith, min, slice_range, length-drop}
use Rattle.std.proofs.lemmas.Bool.{cond_both}
use Rattle.std.proofs.lemmas.List.{drop_all, drop-drop, get_or-drop, take_rest}
use Rattle.std.specs.List.{prefix_len, starts_with}
use Rattle.std.proofs.lemmas.List.Sums.{prefix_len-le-length}
use Rattle.console.specs.Numbers.{is_digit, all_digits}
use Rattle.tokens.specs.Classes.{is_blank, is_letter}
use Rattle.tokens.specs.Tokens.{at, signed, sign, equals_first, symbol_at, width_at, first_symbol, first_width, names_with, tokens, tokens_from}
use Rattle.tokens.specs.Lexing.{placed, some_digits, sign_at, Spelt}
use Rattle.tokens.specs.declared.token.Token.{Token}
use Rattle.tokens.specs.declared.token.Token.TheVariants as token

-- ## Widths

-- a run that has a first byte is one longer than the run after it
run_more : (f : ℕ → Bool) (b : ℕ) (s : List ℕ) → f b ≡ true → prefix_len f (b ∷ s) ≡ suc (prefix_len f s)
run_more f b s e = ap (λ c. cond c (1 + prefix_len f s) 0) e ∙ omega arith

-- a sign is of two bytes only where `=` follows
sign_fits : (b : ℕ) (s : List ℕ) → (1 ≤ (sign b (equals_first s)).1) × ((sign b (equals_first s)).1 ≤ length (b ∷ s))
sign_fits b [] = grind arith
sign_fits b (x ∷ s) = grind arith

-- a token is of one byte or more, and ends within the text
width_at_fits : (b : ℕ) (s : List ℕ) → (1 ≤ width_at b s) × (width_at b s ≤ length (b ∷ s))
width_at_fits b s =
    let P : ℕ → Type 0 = λ n. (1 ≤ n) × (n ≤ length (b ∷ s)) in
    cond_both (is_letter b) _ _ P (of_run is_letter) (λ _. cond_both (is_digit b) _ _ P (of_run is_digit) (λ _. sign_fits b s))
  where
    of_run : (f : ℕ → Bool) → f b ≡ true → (1 ≤ prefix_len f (b ∷ s)) × (prefix_len f (b ∷ s) ≤ length (b ∷ s))
    of_run f e = let n = run_more f b s e in (omega arith, prefix_len-le-length f (b ∷ s))

pub width_fits : (s : List ℕ) → first_width s ≤ length s
width_fits [] = omega arith
width_fits (b ∷ s) = (width_at_fits b s).1

-- a run of digits is digits
run_digits : (s : List ℕ) → all_digits (take (prefix_len is_digit s) s) ≡ true
run_digits [] = refl
run_digits (b ∷ s) =
    let n : 1 + prefix_len is_digit s ≡ suc (prefix_len is_digit s) = omega arith in
    cond_both (is_digit b) _ _ (λ n. all_digits (take n (b ∷ s)) ≡ true) (λ e. ap (λ n. all_digits (take n (b ∷ s))) n ∙ (rw (e) (run_digits s))) (λ _. refl)

-- ## The token that a text begins with

pub digits_first : (t : List ℕ) → 1 ≤ length t → is_digit (get_or t 0 0) ≡ true → some_digits (take (prefix_len is_digit t) t) ≡ true
digits_first [] l e = absurd (omega arith)
digits_first (b ∷ s) l e = ap (λ n. some_digits (take n (b ∷ s))) (run_more is_digit b s e) ∙ (rw (e) (run_digits s))

pub sign_first : (t : List ℕ) (q : Bool) → 1 ≤ length t → is_letter (get_or t 0 0) ≡ false → is_digit (get_or t 0 0) ≡ false → q ≡ equals_first (drop 1 t) → ((names : List (List ℕ)) → Some (signed (sign (get_or t 0 0) q).0) ≡ first_symbol names t) × ((sign (get_or t 0 0) q).1 ≡ first_width t)
sign_first [] q l e0 e is = absurd (omega arith)
sign_first (b ∷ s) q l e0 e is = ((λ names. simp (e0, e, is) refl), simp (e0, e, is) refl)

pub none_first : (t : List ℕ) → first_symbol [] t ≡ None → length t ≡ 0
none_first [] e = refl
none_first (b ∷ s) e = cc

pub next_equals : (t : List ℕ) → starts_with eqb (take (length t - 1) (drop 1 t)) (61 ∷ []) ≡ equals_first (drop 1 t)
next_equals t = ap (λ s. starts_with eqb s (61 ∷ [])) (take_rest t 1) ∙ go (drop 1 t)
  where
    go : (s : List ℕ) → starts_with eqb s (61 ∷ []) ≡ equals_first s
    go [] = refl
    go (x ∷ s) = grind arith

-- ## The tokens from an offset on

after_first : (t : List ℕ) (i b : ℕ) (s : List ℕ) → drop i t ≡ b ∷ s → drop (i + 1) t ≡ s
after_first t i b s e = sym (drop-drop 1 i t) ∙ ap (drop 1) e

-- the bytes of a token that began before are passed over
skipped : (n i : ℕ) (names : List (List ℕ)) (t s : List ℕ) → drop i t ≡ s → n ≤ length s → tokens n i names s ≡ tokens_from names (i + n) t
skipped zero i names t s e h =
    let n : i ≡ i + 0 = omega arith in
    ap (tokens 0 i names) (sym e) ∙ ap (λ o. tokens_from names o t) n
skipped (suc n) i names t [] e h = absurd (omega arith)
skipped (suc n) i names t (b ∷ s) e h = skipped n (i + 1) names t s (after_first t i b s e) (omega arith) ∙ ap (λ o. tokens_from names o t) (omega arith)

-- a run of blanks is passed over, and then comes a token or the end
pub next : (names : List (List ℕ)) (t s : List ℕ) (i j : ℕ) → drop i t ≡ s → j ≡ min i (length t) + prefix_len is_blank s → tokens 0 i names s ≡ placed names j (first_symbol names (drop j t)) (j + first_width (drop j t)) t
next names t [] i j e is =
    let l : 0 ≡ length t - i = ap length (sym e) ∙ length-drop i t in
    ap (λ u. placed names j (first_symbol names u) (j + first_width u) t) (sym (drop_all j t (omega arith)))
next names t (b ∷ s) i j e is =
    let l : suc (length s) ≡ length t - i = ap length (sym e) ∙ length-drop i t in
    let x = symbol_at names b s in
    let w = width_at b s in
    cond_both (is_blank b) _ _ (λ o. o ≡ placed names j (first_symbol names (drop j t)) (j + first_width (drop j t)) t)
    (λ c. let m = run_more is_blank b s c in next names t s (i + 1) j (after_first t i b s e) (omega arith))
    (λ c.
    let fits = width_at_fits b s in
    let m : prefix_len is_blank (b ∷ s) ≡ 0 = ap (λ o. cond o (1 + prefix_len is_blank s) 0) c in
    let n : i ≡ j = omega arith in
    let k : i + 1 + (w - 1) ≡ j + w = omega arith in
    ap (λ o. at i x ∷ o) (skipped (w - 1) (i + 1) (names_with names x) t s (after_first t i b s e) (omega arith))
    ∙ (λ l. at (n l) x ∷ tokens_from (names_with names x) (k l) t)
    ∙ ap (λ u. placed names j (first_symbol names u) (j + first_width u) t) (sym e ∙ ap (λ o. drop o t) n))

-- a token that the bytes from an offset on begin with stands at that offset
pub spelt_from : (t s : List ℕ) (i w : ℕ) (x : Token) → s ≡ drop i t → Spelt s x 0 w → Spelt t x i (i + w)
spelt_from t s i w x e h = go x h
  where
    ranged : slice_range s 0 w ≡ slice_range t i (i + w)
    ranged = let n : w - 0 ≡ i + w - i = omega arith in λ k. take (n k) (e k)

    same_sign : sign_at s 0 ≡ sign_at t i
    same_sign =
        let n : i + 0 ≡ i = omega arith in
        let b : get_or s 0 0 ≡ get_or t i 0 = ap (λ l. get_or l 0 0) e ∙ get_or-drop i t 0 0 ∙ ap (λ o. get_or t o 0) n in
        let after : drop 1 s ≡ drop (i + 1) t = ap (drop 1) e ∙ drop-drop 1 i t in
        λ k. (sign (b k) (equals_first (after k))).0

    go : (x : Token) → Spelt s x 0 w → Spelt t x i (i + w)
    go (token.Name v) h = (h.0 ∙ ranged, h.1)
    go (token.Number v) h = (h.0 ∙ ranged, h.1)
    go (token.Keyword m v) h = (h.0 ∙ ranged, h.1)
    go (token.Sign m) h = sym same_sign ∙ h
    go token.Stray h = sym same_sign ∙ h
    go token.EndOfText h = tt

-- there are no more tokens than bytes
pub length_tokens : (n i : ℕ) (names : List (List ℕ)) (s : List ℕ) → length (tokens n i names s) ≤ length s
length_tokens zero i names [] = omega arith
length_tokens (suc n) i names [] = omega arith
length_tokens (suc n) i names (b ∷ s) = let h = length_tokens n (i + 1) names s in omega arith
length_tokens zero i names (b ∷ s) =
    let h = length_tokens 0 (i + 1) names s in
    let g = length_tokens (width_at b s - 1) (i + 1) (names_with names (symbol_at names b s)) s in
    cond_both (is_blank b) _ _ (λ l. length l ≤ length (b ∷ s)) (λ _. omega arith) (λ _. omega arith)
