-- The words of a line, by its first word and the rest. Assumes nothing.
use Rattle.std.proofs.Common.{◌≡◌, MatchOption, ℕ, zero, suc, ◌+◌, ◌<◌, ◌≤◌, List, [], ◌∷◌, ◌++◌, length, get_or, take, drop, Some, None, Option, unwrap_or, Bor, sym, refl, ap, ◌∙◌, ⊎_elim, length-take, take_all, take-append-drop, arith}
use Rattle.std.specs.Option.{option_map}
use Rattle.std.proofs.lemmas.List.{get_or-take, drop_more}
use Rattle.std.proofs.lemmas.Bool.{cases_eq, eq-eqb, ne_eqb}
use Rattle.console.specs.Words.{Unspaced, Split, words_of, spaced, WordsPartLines}

unspaced_more : (b : ℕ) (word : List ℕ) → (b ≡ 32 → ⊥) → Unspaced word → Unspaced (b ∷ word)
unspaced_more b word other u zero h e = other e
unspaced_more b word other u (suc k) h e = u k (omega arith) e

spaced_more : (b : ℕ) (word : List ℕ) (words : List (List ℕ)) → spaced ((b ∷ word) ∷ words) ≡ b ∷ spaced (word ∷ words)
spaced_more b word [] = refl
spaced_more b word (next ∷ words) = refl

pub parted : WordsPartLines
parted [] = (refl, ((λ k h e. absurd (omega arith)), tt))
parted (b ∷ bs) =
    ⊎_elim
    (λ e. rw (eq-eqb b 32 e, e) (ap (λ l. 32 ∷ l) (parted bs).0, ((λ k h e. absurd (omega arith)), (parted bs).1)))
    (λ other. rw (ne_eqb b 32 other) (spaced_more b _ _ ∙ ap (λ l. b ∷ l) (parted bs).0, (unspaced_more b _ other (parted bs).1.0, (parted bs).1.1)))
    (cases_eq b 32)

last_word : (word : List ℕ) → Unspaced word → words_of word ≡ word ∷ []
last_word [] u = refl
last_word (b ∷ bs) u =
    let other = ne_eqb b 32 (u 0 (omega arith)) in
    let e = last_word bs (λ k h. u (suc k) (omega arith)) in rw other (cc)

word_then : (word rest : List ℕ) → Unspaced word → words_of (word ++ 32 ∷ rest) ≡ word ∷ words_of rest
word_then [] rest u = refl
word_then (b ∷ bs) rest u =
    let other = ne_eqb b 32 (u 0 (omega arith)) in
    let e = word_then bs rest (λ k h. u (suc k) (omega arith)) in rw other (cc)

-- the words of what is left
abbrev pub words_in : Option (List ℕ) → List (List ℕ)
words_in text = unwrap_or (option_map words_of text) []

pub split_words : (line word : List ℕ) (rest : Option (List ℕ)) → Split line word rest → words_of line ≡ word ∷ words_in rest
split_words line word None s = ap words_of s.1 ∙ last_word word s.0
split_words line word (Some rest) s = ap words_of s.1 ∙ word_then word rest s.0

-- a line that is cut after n bytes, before its first space or at its end
module _ (line : List ℕ) (n : ℕ) (within : n ≤ length line) (before : (k : ℕ) → k < n → get_or line k 0 ≡ 32 → ⊥) (found : n < length line → get_or line n 0 ≡ 32) where
  unspaced_front : Unspaced (take n line)
  unspaced_front k h e =
      let in_front : k < n = omega (arith, h, length-take n line) in
      before k in_front (sym (get_or-take n line k 0 in_front) ∙ e)

  pub cut : (rest : Option (Bor (List ℕ))) → MatchOption rest (length line ≤ n) (λ after. (n < length line) × (after.now ≡ drop (n + 1) line)) → Split line (take n line) (option_map (λ x. x.now) rest)
  cut None at = (unspaced_front, sym (take_all n line at))
  cut (Some after) at =
      (unspaced_front, rw at.1 (sym (take-append-drop n line) ∙ ap (λ l. take n line ++ l) (drop_more line n 0 at.0 ∙ ap (λ b. b ∷ drop (n + 1) line) (found at.0))))

-- what is left is its words again
pub words_again : (text : Option (List ℕ)) (left : List ℕ) → left ≡ unwrap_or text [] → left ≡ spaced (words_in text)
words_again None left e = e
words_again (Some line) left e = e ∙ sym (parted line).0
