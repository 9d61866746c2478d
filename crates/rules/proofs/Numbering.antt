-- Names and their cells: the words that the code keeps against the numbering of the definitions.
use Rattle.std.proofs.Common.{◌≡◌, ℕ, zero, suc, ◌+◌, ◌<◌, ◌≤◌, Bool, true, false, cond, List, [], ◌∷◌, ◌++◌, map, length, take, set, Some, None, Option, not, nat_lt, sym, refl, ap, ◌∙◌, subst, arith, Bor, MatchOption}
use Rattle.std.specs.List.{position, position_or_len}
use Rattle.std.specs.Str.{bytes_eq}
use Rattle.std.proofs.lemmas.Grind.{common_steps}
use Rattle.std.proofs.lemmas.List.{length-take-le, take-map}
use Rattle.std.proofs.lemmas.List.Sums.{prefix_len-le-length}
use Rattle.std.proofs.lemmas.List.Recursion.{is_position_or_len}
use Rattle.std.proofs.lemmas.Slice.Eq.{bytes_eq-Decides}
use Rattle.tokens.specs.Tokens.{cell_of, with_name}

-- ## Words that are kept

abbrev pub Word : Type 0
Word = Bor (List ℕ)

abbrev pub kept : ℕ → List Word → List (List ℕ)
kept n words = take n (map (λ x. x.now) words)

pub length_kept : (words : List Word) (n : ℕ) → n ≤ length words → length (kept n words) ≡ n
length_kept [] zero h = refl
length_kept [] (suc n) h = absurd (omega arith)
length_kept (w ∷ words) zero h = refl
length_kept (w ∷ words) (suc n) h = ap suc (length_kept words n (omega arith))

-- the cell of a word is where it is found, or else the next place
pub found_cell : (words : List Word) (n : ℕ) (w : List ℕ) (o : Option ℕ) → n ≤ length words → o ≡ position (λ x. bytes_eq x.now w) (take n words) → MatchOption o (n ≡ cell_of (kept n words) w) (λ i. (i ≡ cell_of (kept n words) w) × (i < n))
found_cell words n w o h e =
    let p : Word → Bool = λ x. bytes_eq x.now w in
    let is : cell_of (kept n words) w ≡ position_or_len p (take n words) = ap (λ l. cell_of l w) (take-map (λ x. x.now) n words) ∙ is_position_or_len (λ l. cell_of (map (λ x. x.now) l) w) p refl (λ x xs. ap (λ m. cond (p x) 0 m) (omega arith)) (take n words) in
    subst (λ q. MatchOption q (n ≡ cell_of (kept n words) w) (λ i. (i ≡ cell_of (kept n words) w) × (i < n))) (sym e) (place (position_or_len p (take n words)) (length (take n words)) (nat_lt (position_or_len p (take n words)) (length (take n words))) refl is (length-take-le n words h) (prefix_len-le-length (λ x. not (p x)) (take n words)))
  where
    place : (i m : ℕ) (b : Bool) → nat_lt i m ≡ b → cell_of (kept n words) w ≡ i → m ≡ n → i ≤ m → MatchOption (cond b (Some i) None) (n ≡ cell_of (kept n words) w) (λ j. (j ≡ cell_of (kept n words) w) × (j < n))
    place i m true e is g h = grind (arith, common_steps)
    place i m false e is g h = grind (arith, common_steps)

-- ## One more word

known : (names : List (List ℕ)) (w : List ℕ) → cell_of names w < length names → with_name names w ≡ names
known [] w h = absurd (omega arith)
known (n ∷ names) w h = go (bytes_eq n w) (λ e. known names w e) h
  where
    go : (c : Bool) → (cell_of names w < length names → with_name names w ≡ names) → cond c 0 (suc (cell_of names w)) < suc (length names) → cond c (n ∷ names) (n ∷ with_name names w) ≡ n ∷ names
    go true f h = refl
    go false f h = ap (λ l. n ∷ l) (f (omega arith))

new : (names : List (List ℕ)) (w : List ℕ) → length names ≤ cell_of names w → with_name names w ≡ names ++ w ∷ []
new [] w h = refl
new (n ∷ names) w h = go (bytes_eq n w) (λ e. new names w e) h
  where
    go : (c : Bool) → (length names ≤ cell_of names w → with_name names w ≡ names ++ w ∷ []) → suc (length names) ≤ cond c 0 (suc (cell_of names w)) → cond c (n ∷ names) (n ∷ with_name names w) ≡ n ∷ (names ++ w ∷ [])
    go true f h = absurd (omega arith)
    go false f h = ap (λ l. n ∷ l) (f (omega arith))

pub known_word : (words : List Word) (n : ℕ) (w : List ℕ) → n ≤ length words → cell_of (kept n words) w < n → kept n words ≡ with_name (kept n words) w
known_word words n w g h = let e = length_kept words n g in sym (known (kept n words) w (omega arith))

kept_more : (words : List Word) (n : ℕ) (w : Word) → n < length words → kept (n + 1) (set words n w) ≡ kept n words ++ w.now ∷ []
kept_more [] n w h = absurd (omega arith)
kept_more (x ∷ words) zero w h = refl
kept_more (x ∷ words) (suc n) w h = let e : suc n + 1 ≡ suc (n + 1) = omega arith in ap (λ m. kept m (x ∷ set words n w)) e ∙ ap (λ l. x.now ∷ l) (kept_more words n w (omega arith))

pub new_word : (words : List Word) (n : ℕ) (w : Word) → n < length words → n ≤ cell_of (kept n words) w.now → kept (n + 1) (set words n w) ≡ with_name (kept n words) w.now
new_word words n w h g = let e = length_kept words n (omega arith) in kept_more words n w h ∙ sym (new (kept n words) w.now (omega arith))

-- ## A word that has been added

same_self : (w : List ℕ) → bytes_eq w w ≡ true
same_self w = (bytes_eq-Decides w w).1 refl

pub again : (names : List (List ℕ)) (w : List ℕ) → with_name (with_name names w) w ≡ with_name names w
again [] w = ap (λ c. cond c (w ∷ []) (w ∷ w ∷ [])) (same_self w)
again (n ∷ names) w = go (bytes_eq n w) refl (again names w)
  where
    go : (c : Bool) → bytes_eq n w ≡ c → with_name (with_name names w) w ≡ with_name names w → with_name (cond c (n ∷ names) (n ∷ with_name names w)) w ≡ cond c (n ∷ names) (n ∷ with_name names w)
    go true e h = ap (λ c. cond c (n ∷ names) (n ∷ with_name names w)) e
    go false e h = ap (λ c. cond c (n ∷ with_name names w) (n ∷ with_name (with_name names w) w)) e ∙ ap (λ l. n ∷ l) h
