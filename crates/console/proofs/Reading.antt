-- What is left to read of a word of digits. Assumes nothing.
use Rattle.std.proofs.Common.{◌≡◌, ℕ, ◌+◌, ◌-◌, ◌*◌, ◌^◌, ◌<◌, ◌≤◌, ltb, List, [], ◌∷◌, ◌++◌, length, map, take-append-drop, drop, Some, None, Option, ControlFlow, Continue, Break, subst, refl, ap, sym, ◌∙◌, arith}
use denote.Param.Members.{Mut}
use Rattle.std.specs.Fn.{Called}
use Rattle.std.specs.Option.{MatchOption}
use Rattle.std.specs.ControlFlow.{continue_value}
use Rattle.std.specs.List.{FoldsTo}
use Rattle.std.specs.Iterator.{TryFoldTurn, YieldsThen}
use Rattle.std.proofs.lemmas.Iterator.{YieldsList}
use Rattle.std.proofs.lemmas.Iterator.Consumers.{YieldsList-so_far, YieldsList-turn, YieldsList-end}
use Rattle.std.proofs.lemmas.List.{append-nil, drop_more}
use Rattle.std.proofs.lemmas.Bool.{lt-ltb}
use Rattle.std.proofs.lemmas.Bool.Decides.{nat_tests}
use Rattle.console.specs.Numbers.{value_after, digits_value, with_digit}

-- what a word of 64 bits comes to, whose digits so far make n, and whose other bytes are bs
abbrev goes_on : ℕ → List ℕ → Option ℕ
goes_on n bs = digits_value (λ n. ltb n (2 ^ 64)) n bs

value_grows : (n : ℕ) (bs : List ℕ) → n ≤ value_after n bs
value_grows n [] = omega arith
value_grows n (b ∷ bs) = omega (arith, value_grows (n * 10 + (b - 48)) bs)

one_more : (n b m : ℕ) (bs : List ℕ) → Some m ≡ with_digit n b → goes_on m bs ≡ goes_on n (b ∷ bs)
one_more n b m bs e = grind (arith, nat_tests)

one_refused : (n b : ℕ) (bs : List ℕ) → None ≡ with_digit n b → None ≡ goes_on n (b ∷ bs)
one_refused n b bs e = let past = value_grows (n * 10 + (b - 48)) bs in grind (arith, nat_tests)

-- how `?` goes on or stops at an option
abbrev branches : {E : Type 0} → Option ℕ → ControlFlow E ℕ → Type 0
branches r c = r ≡ continue_value c

-- a `try_fold` whose calls each add a digit
module _ {S A F : Type 0} (E : Type 0) {steps : S → Option A → S → Type 0} {v : A → ℕ} {s : S} (word : List ℕ) (yields : YieldsList steps v s word) (g : Mut F (ℕ × (A × Unit {0})) (Option ℕ)) (adds : (f : F) (n : ℕ) (x : A) (r : Option ℕ) (f' : F) → Called g f (n, (x, tt)) r f' → r ≡ with_digit n (v x)) where
  turns : (xs : List A) (p q : F × ℕ) (rest : List ℕ) → p.1 < 2 ^ 64 → FoldsTo {P = F × ℕ} (TryFoldTurn g (branches {E = E})) p xs q → (q.1 < 2 ^ 64) × (goes_on q.1 rest ≡ goes_on p.1 (map v xs ++ rest))
  turns [] p q rest small h = subst (λ (t : F × ℕ). (t.1 < 2 ^ 64) × (goes_on t.1 rest ≡ goes_on p.1 rest)) h (small, refl)
  turns (x ∷ xs) p q rest small h =
      let turn = h.1 in
      let some : Some h.0.1 ≡ with_digit p.1 (v x) = sym turn.2 ∙ adds p.0 p.1 x turn.0 h.0.0 turn.1 in
      let more = turns xs h.0 q rest (grind (arith, nat_tests)) h.2 in
      (more.0, more.1 ∙ one_more p.1 (v x) h.0.1 (map v xs ++ rest) some)

  pub total : (xs : List A) (o : Option A) (f f' : F) (m : ℕ) (r : Option ℕ) (u : S) → YieldsThen steps s xs o u → FoldsTo {P = F × ℕ} (TryFoldTurn g (branches {E = E})) (f, 0) xs (f', m) → MatchOption o (branches {E = E} r (Continue m)) (λ x. (w : Option ℕ) × (h : F) × (e : E) × Called g f' (m, (x, tt)) w h × branches w (Break e) × (r ≡ None)) → r ≡ goes_on 0 word
  total xs None f f' m r u ended folds end =
      let all = YieldsList-end yields xs ended.0 ended.1 None u refl ended.2 in
      let t = turns xs (f, 0) (f', m) [] (omega arith) folds in
      let here : Some m ≡ goes_on m [] = rw (lt-ltb m (2 ^ 64) t.0) refl in
      end ∙ here ∙ t.1 ∙ ap (goes_on 0) (append-nil (map v xs) ∙ all.0)
  total xs (Some x) f f' m r u ended folds end =
      let at = YieldsList-turn yields xs ended.0 ended.1 (Some x) u x refl ended.2 in
      let front = YieldsList-so_far yields xs ended.0 ended.1 in
      let t = turns xs (f, 0) (f', m) (drop (length xs) word) (omega arith) folds in
      let refused : None ≡ with_digit m (v x) = sym end.4 ∙ adds f' m x end.0 end.1 end.3 in
      end.5 ∙ one_refused m (v x) (drop (length xs + 1) word) refused ∙ ap (λ d. goes_on m (d ∷ drop (length xs + 1) word)) at.1 ∙ ap (goes_on m) (sym (drop_more word (length xs) (v x) at.0)) ∙ t.1 ∙ ap (goes_on 0) (ap (λ l. l ++ drop (length xs) word) front ∙ take-append-drop (length xs) word)
