-- Tokens have at most one tree.
use Rattle.std.proofs.lemmas.Bool.{and_parts}
use Rattle.std.proofs.Common.{◌≡◌, ℕ, zero, suc, ◌<◌, Bool, true, false, not, ◌&&◌, List, [], ◌∷◌, length, sym, refl, ap, subst, true≢false, arith}
use mathlib.Core.Bool.{false≢true}
use Rattle.tokens.specs.Lexemes.{same_lexeme}
use Rattle.tokens.specs.Tokens.{name, number, fixed, stray, Spot, at}
use Rattle.tokens.specs.declared.lexeme.Lexeme.{Lexeme}
use Rattle.tokens.specs.declared.lexeme.Lexeme.TheVariants as lexeme
use Rattle.grammar.specs.Trees.{Relation, Sum, Cond, Statement, truth, equal, at_most, negate, compare, assign, choose, loop, hold}
use Rattle.grammar.specs.Grammar.{Class, sums, conds, statements, rules, Tree, Sort, given_name, given_names, factor, term, sum, prime, cond, statement, list, rule, Joined, joined_names, joined_sum, joined_term, joined_cond, joined_list, Joins, by_comma, by_plus, by_minus, by_times, by_and, by_semicolon, join, Bound, Derives, single, more, a_number, a_name, in_round, a_true, a_false, a_not, is_equal, is_at_most, in_square, a_skip, a_leave, an_assignment, an_if, a_while, a_hold, a_given, with_given, no_given}
use Rattle.grammar.specs.Laws.{OneTree}

-- a derivation takes at least one token
pub sized : {c : Class} {X : Sort c} {b : Bound} {s r : List Spot} {t : Tree c} → Derives c X b s t r → length r < length s
sized (single i h) = sized h
sized (more i j h g) = let x = sized h in let y = sized g in omega arith
sized (a_number f) = omega arith
sized (a_name f) = omega arith
sized (in_round i h) = let x = sized h in omega arith
sized a_true = omega arith
sized a_false = omega arith
sized (a_not i h) = let x = sized h in omega arith
sized (is_equal h g) = let x = sized h in let y = sized g in omega arith
sized (is_at_most h g) = let x = sized h in let y = sized g in omega arith
sized (in_square i h) = let x = sized h in omega arith
sized a_skip = omega arith
sized a_leave = omega arith
sized (an_assignment f h) = let x = sized h in omega arith
sized (an_if i h g k) = let x = sized h in let y = sized g in let z = sized k in omega arith
sized (a_while i h g) = let x = sized h in let y = sized g in omega arith
sized (a_hold i f h) = let x = sized h in omega arith
sized (a_given f) = omega arith
sized (with_given h g) = let x = sized h in let y = sized g in omega arith
sized (no_given h) = sized h

-- a lexeme joins a sort in one way
one_join : {c : Class} {X : Sort c} {m : Lexeme} (i j : Joins c X m) → i ≡ j
one_join by_comma by_comma = refl
one_join by_plus by_plus = refl
one_join by_minus by_minus = refl
one_join by_times by_times = refl
one_join by_and by_and = refl
one_join by_semicolon by_semicolon = refl

-- more of an X that joins Ys, from the tree t to the tree v
data Grows : (c : Class) → Sort c → Sort c → Bound → Tree c → List Spot → Tree c → List Spot → Type 0 where
  stays : {c : Class} {X Y : Sort c} {b : Bound} {t : Tree c} {s : List Spot} → Grows c X Y b t s t s
  grows : {c : Class} {X Y : Sort c} {m : Lexeme} {b : Bound} {p : ℕ} {t u v : Tree c} {s r q : List Spot} → (j : Joins c X m) → Derives c Y b s u r → Grows c X Y b (join j p t u) r v q → Grows c X Y b t (at p (fixed m) ∷ s) v q

grow_last : {c : Class} {X Y : Sort c} {m : Lexeme} {b : Bound} {p : ℕ} {t u v : Tree c} {s r q : List Spot} → (j : Joins c X m) → Derives c Y b r u q → Grows c X Y b t s v (at p (fixed m) ∷ r) → Grows c X Y b t s (join j p v u) q
grow_last j h stays = grows j h stays
grow_last j h (grows i g l) = grows i g (grow_last j h l)

-- the first Y of an X that joins Ys, and the others
abbrev Opened : (c : Class) → Sort c → Sort c → Bound → List Spot → Tree c → List Spot → Type 0
Opened c X Y b s t r = (m : List Spot) × (u : Tree c) × Derives c Y b s u m × Grows c X Y b u m t r

further : {c : Class} {X Y : Sort c} {m : Lexeme} {b : Bound} {p : ℕ} {s r q : List Spot} {t u : Tree c} → (j : Joins c X m) → Derives c Y b r u q → Opened c X Y b s t (at p (fixed m) ∷ r) → Opened c X Y b s (join j p t u) q
further j h o = (o.0, o.1, o.2, grow_last j h o.3)

opened : {c : Class} {X Y : Sort c} {b : Bound} {s r : List Spot} {t : Tree c} → Joined c X Y → Derives c X b s t r → Opened c X Y b s t r
opened joined_names (single joined_names h) = (_, _, h, stays)
opened joined_names (more joined_names j h g) = further j g (opened joined_names h)
opened joined_sum (single joined_sum h) = (_, _, h, stays)
opened joined_sum (more joined_sum j h g) = further j g (opened joined_sum h)
opened joined_term (single joined_term h) = (_, _, h, stays)
opened joined_term (more joined_term j h g) = further j g (opened joined_term h)
opened joined_cond (single joined_cond h) = (_, _, h, stays)
opened joined_cond (more joined_cond j h g) = further j g (opened joined_cond h)
opened joined_list (single joined_list h) = (_, _, h, stays)
opened joined_list (more joined_list j h g) = further j g (opened joined_list h)

-- whether the tokens do not begin with the lexeme m
abbrev off : Lexeme → List Spot → Bool
off m [] = true
off m (at p (name w c) ∷ s) = true
off m (at p (number v) ∷ s) = true
off m (at p (fixed n) ∷ s) = not (same_lexeme n m)
off m (at p stray ∷ s) = true

abbrev off_sum : List Spot → Bool
off_sum r = off lexeme.Times r && (off lexeme.Plus r && off lexeme.Minus r)

-- whether the tokens do not go on with an X before them
abbrev ends : {c : Class} → Sort c → List Spot → Bool
ends given_name r = true
ends given_names r = off lexeme.Comma r
ends factor r = true
ends term r = off lexeme.Times r
ends sum r = off_sum r
ends prime r = off_sum r
ends cond r = off_sum r && off lexeme.And r
ends statement r = off_sum r
ends list r = off_sum r && off lexeme.Semicolon r
ends rule r = off_sum r && off lexeme.Semicolon r

ends_part : {c : Class} {X Y : Sort c} (r : List Spot) → Joined c X Y → ends X r ≡ true → ends Y r ≡ true
ends_part r joined_names e = refl
ends_part r joined_sum e = (and_parts (off lexeme.Times r) _ e).0
ends_part r joined_term e = refl
ends_part r joined_cond e = (and_parts (off_sum r) _ e).0
ends_part r joined_list e = (and_parts (off_sum r) _ e).0

-- a lexeme that joins an X does not end it
goes_on : {c : Class} {X : Sort c} {m : Lexeme} (p : ℕ) (s : List Spot) → Joins c X m → ends X (at p (fixed m) ∷ s) ≡ true → ⊥
goes_on p s by_comma e = false≢true e
goes_on p s by_plus e = false≢true e
goes_on p s by_minus e = false≢true e
goes_on p s by_times e = false≢true e
goes_on p s by_and e = false≢true e
goes_on p s by_semicolon e = false≢true e

-- a lexeme that joins Ys ends the Y before it
parts_end : {c : Class} {X Y : Sort c} {m : Lexeme} (p : ℕ) (s : List Spot) → Joined c X Y → Joins c X m → ends Y (at p (fixed m) ∷ s) ≡ true
parts_end p s joined_names by_comma = refl
parts_end p s joined_sum by_plus = refl
parts_end p s joined_sum by_minus = refl
parts_end p s joined_term by_times = refl
parts_end p s joined_cond by_and = refl
parts_end p s joined_list by_semicolon = refl

-- what comes after the first Y of an X ends it
ends_before : {c : Class} {X Y : Sort c} {b : Bound} {t v : Tree c} {r q : List Spot} → Joined c X Y → Grows c X Y b t r v q → ends X q ≡ true → ends Y r ≡ true
ends_before i stays e = ends_part _ i e
ends_before i (grows j h l) e = parts_end _ _ i j

-- derivations of an X from the same fewer than n tokens have the same tree and the same rest, whatever their bounds are
abbrev Unique : {c : Class} → Sort c → ℕ → Type 0
Unique {c} X n = (b d : Bound) (s : List Spot) (t : Tree c) (r : List Spot) (u : Tree c) (q : List Spot) → Derives c X b s t r → Derives c X d s u q → length s < n → ends X r ≡ true → ends X q ≡ true → (t ≡ u) × (r ≡ q)

grown : {c : Class} {X Y : Sort c} (n : ℕ) → Joined c X Y → Unique Y n → {b d : Bound} {t v w : Tree c} {s q o : List Spot} → Grows c X Y b t s v q → Grows c X Y d t s w o → length s < suc n → ends X q ≡ true → ends X o ≡ true → (v ≡ w) × (q ≡ o)
grown n i same stays stays lt e f = (refl, refl)
grown n i same stays (grows j h l) lt e f = absurd (goes_on _ _ j e)
grown n i same (grows j h l) stays lt e f = absurd (goes_on _ _ j f)
grown {c} {X} {Y} n i same {b} {d} {t} {w} {o} (grows {p} j h l) (grows k g m) lt e f =
    let a = same _ _ _ _ _ _ _ h g (omega arith) (ends_before i l e) (ends_before i m f) in
    let x = sized h in
    grown n i same l (subst (λ (z : Joins c X _ × Tree c × List Spot). Grows c X Y d (join z.0 p t z.1) z.2 w o) (λ i. (one_join k j i, sym a.0 i, sym a.1 i)) m) (omega arith) e f

-- an X is unique where the Ys that it joins are
by_parts : {c : Class} {X Y : Sort c} (n : ℕ) → Joined c X Y → Unique Y (suc n) → Unique X (suc n)
by_parts {c} {X} {Y} n i same b d s t r u q h g lt e f =
    let A = opened i h in
    let B = opened i g in
    let a = same b d s _ _ _ _ A.2 B.2 lt (ends_before i A.3 e) (ends_before i B.3 f) in
    let l : Grows c X Y d A.1 A.0 u q = subst (λ (o : Tree c × List Spot). Grows c X Y d o.0 o.1 u q) (λ i. (sym a.0 i, sym a.1 i)) B.3 in
    let x = sized A.2 in
    grown n i (λ b₁ d₁ s₁ t₁ r₁ u₁ q₁ h₁ g₁ l₁. same b₁ d₁ s₁ t₁ r₁ u₁ q₁ h₁ g₁ (omega arith)) A.3 l (omega arith) e f

-- a sum begins with no lexeme but `(`
no_sum : {b : Bound} {p : ℕ} {m : Lexeme} {s r : List Spot} {t : Sum} → Derives sums sum b (at p (fixed m) ∷ s) t r → same_lexeme m lexeme.Open ≡ false → ⊥
no_sum h = no_factor (opened joined_term (opened joined_sum h).2).2
  where
    no_factor : {b : Bound} {p : ℕ} {m : Lexeme} {s r : List Spot} {t : Sum} → Derives sums factor b (at p (fixed m) ∷ s) t r → same_lexeme m lexeme.Open ≡ false → ⊥
    no_factor (single i h) e = elim i [ ]
    no_factor (more i j h g) e = elim i [ ]
    no_factor (in_round i h) e = true≢false e

-- a list does not begin with `given`
no_list : {b : Bound} {p : ℕ} {s r : List Spot} {t : Statement} → Derives statements list b (at p (fixed lexeme.Given) ∷ s) t r → ⊥
no_list h = no_statement (opened joined_list h).2
  where
    no_statement : {b : Bound} {p : ℕ} {s r : List Spot} {t : Statement} → Derives statements statement b (at p (fixed lexeme.Given) ∷ s) t r → ⊥
    no_statement (single i h) = elim i [ ]
    no_statement (more i j h g) = elim i [ ]

data Relates : Lexeme → Relation → Type 0 where
  by_equal : Relates lexeme.Equal equal
  by_at_most : Relates lexeme.AtMost at_most

one_relation : {m n : Lexeme} {o l : Relation} → Relates m o → Relates n l → m ≡ n → o ≡ l
one_relation by_equal by_equal e = refl
one_relation by_equal by_at_most e = absurd (false≢true (ap (λ k. same_lexeme k lexeme.AtMost) e))
one_relation by_at_most by_equal e = absurd (false≢true (ap (λ k. same_lexeme k lexeme.Equal) e))
one_relation by_at_most by_at_most e = refl

ends_related : {m : Lexeme} {o : Relation} (p : ℕ) (s : List Spot) → Relates m o → ends sum (at p (fixed m) ∷ s) ≡ true
ends_related p s by_equal = refl
ends_related p s by_at_most = refl

-- the primes, with one case for both comparisons
data Prime : Bound → List Spot → Cond → List Spot → Type 0 where
  says_true : {b : Bound} {p : ℕ} {r : List Spot} → Prime b (at p (fixed lexeme.True) ∷ r) (truth p true) r
  says_false : {b : Bound} {p : ℕ} {r : List Spot} → Prime b (at p (fixed lexeme.False) ∷ r) (truth p false) r
  negated : {b e : Bound} {p : ℕ} {s r : List Spot} {t : Cond} → Derives conds prime e s t r → Prime b (at p (fixed lexeme.Not) ∷ s) (negate p t) r
  enclosed : {b e : Bound} {p q : ℕ} {s r : List Spot} {t : Cond} → Derives conds cond e s t (at q (fixed lexeme.CloseSquare) ∷ r) → Prime b (at p (fixed lexeme.OpenSquare) ∷ s) t r
  related : {b : Bound} {m : Lexeme} {o : Relation} {p : ℕ} {s r q : List Spot} {t u : Sum} → Relates m o → Derives sums sum b s t (at p (fixed m) ∷ r) → Derives sums sum b r u q → Prime b s (compare p o t u) q

which_prime : {b : Bound} {s r : List Spot} {t : Cond} → Derives conds prime b s t r → Prime b s t r
which_prime (single i h) = elim i [ ]
which_prime (more i j h g) = elim i [ ]
which_prime a_true = says_true
which_prime a_false = says_false
which_prime (a_not i h) = negated h
which_prime (in_square i h) = enclosed h
which_prime (is_equal h g) = related by_equal h g
which_prime (is_at_most h g) = related by_at_most h g

module _ (n : ℕ) (fewer : (c : Class) (X : Sort c) → Unique X n) where
  same : {c : Class} {X : Sort c} {b d : Bound} {s r q : List Spot} {t u : Tree c} → Derives c X b s t r → Derives c X d s u q → length s < n → ends X r ≡ true → ends X q ≡ true → (t ≡ u) × (r ≡ q)
  same h g lt e f = fewer _ _ _ _ _ _ _ _ _ h g lt e f

  -- the same of what follows a token
  next : {c : Class} {X : Sort c} {b d : Bound} {x y : Spot} {s o r q : List Spot} {t u : Tree c} → x ∷ s ≡ y ∷ o → Derives c X b s t r → Derives c X d o u q → length s < n → ends X r ≡ true → ends X q ≡ true → (t ≡ u) × (r ≡ q)
  next {c} {X} {d} {s} {o} {q} {u} i h g lt e f = let rests : o ≡ s = cc in same h (subst (λ z. Derives c X d z u q) rests g) lt e f

  one_name : Unique given_name (suc n)
  one_name b d s t r u q (single i h) g lt e f = elim i [ ]
  one_name b d s t r u q (more i j h k) g lt e f = elim i [ ]
  one_name b d s t r u q (a_given v) (single i g) lt e f = elim i [ ]
  one_name b d s t r u q (a_given v) (more i j g k) lt e f = elim i [ ]
  one_name b d s t r u q (a_given v) (a_given w) lt e f = (refl, refl)

  one_factor : Unique factor (suc n)
  one_factor b d s t r u q (single i h) g lt e f = elim i [ ]
  one_factor b d s t r u q (more i j h k) g lt e f = elim i [ ]
  one_factor b d s t r u q (a_number v) (single i g) lt e f = elim i [ ]
  one_factor b d s t r u q (a_number v) (more i j g k) lt e f = elim i [ ]
  one_factor b d s t r u q (a_number v) (a_number w) lt e f = (refl, refl)
  one_factor b d s t r u q (a_name v) (single i g) lt e f = elim i [ ]
  one_factor b d s t r u q (a_name v) (more i j g k) lt e f = elim i [ ]
  one_factor b d s t r u q (a_name v) (a_name w) lt e f = (refl, refl)
  one_factor b d s t r u q (in_round v h) (single i g) lt e f = elim i [ ]
  one_factor b d s t r u q (in_round v h) (more i j g k) lt e f = elim i [ ]
  one_factor b d s t r u q (in_round v h) (in_round w g) lt e f = let a = same h g (omega arith) refl refl in (a.0, cc a.1)

  one_sum : Unique sum (suc n)
  one_sum = by_parts n joined_sum (by_parts n joined_term one_factor)

  same_primes : (b d : Bound) (s : List Spot) (t : Cond) (r : List Spot) (u : Cond) (q : List Spot) → Prime b s t r → Prime d s u q → length s < suc n → off_sum r ≡ true → off_sum q ≡ true → (t ≡ u) × (r ≡ q)
  same_primes b d s t r u q says_true says_true lt e f = (refl, refl)
  same_primes b d s t r u q says_true (related m g k) lt e f = absurd (no_sum g refl)
  same_primes b d s t r u q says_false says_false lt e f = (refl, refl)
  same_primes b d s t r u q says_false (related m g k) lt e f = absurd (no_sum g refl)
  same_primes b d s t r u q (negated {p} h) (negated g) lt e f = let a = same h g (omega arith) e f in (ap (negate p) a.0, a.1)
  same_primes b d s t r u q (negated h) (related m g k) lt e f = absurd (no_sum g refl)
  same_primes b d s t r u q (enclosed h) (enclosed g) lt e f = let a = same h g (omega arith) refl refl in (a.0, cc a.1)
  same_primes b d s t r u q (enclosed h) (related m g k) lt e f = absurd (no_sum g refl)
  same_primes b d s t r u q (related l h v) says_true lt e f = absurd (no_sum h refl)
  same_primes b d s t r u q (related l h v) says_false lt e f = absurd (no_sum h refl)
  same_primes b d s t r u q (related l h v) (negated g) lt e f = absurd (no_sum h refl)
  same_primes b d s t r u q (related l h v) (enclosed g) lt e f = absurd (no_sum h refl)
  same_primes b d s t r u q (related {p = p₁} {r = r₁} l h v) (related {p = p₂} {r = r₂} m g k) lt e f =
      let a = one_sum b d s _ _ _ _ h g lt (ends_related p₁ r₁ l) (ends_related p₂ r₂ m) in
      let x = sized h in
      let places : p₁ ≡ p₂ = cc a.1 in
      let relations = one_relation l m (cc a.1) in
      let y = next a.1 v k (omega arith) e f in
      ((λ i. compare (places i) (relations i) (a.0 i) (y.0 i)), y.1)

  one_prime : Unique prime (suc n)
  one_prime b d s t r u q h g lt e f = same_primes b d s t r u q (which_prime h) (which_prime g) lt e f

  one_statement : Unique statement (suc n)
  one_statement b d s t r u q (single i h) g lt e f = elim i [ ]
  one_statement b d s t r u q (more i j h k) g lt e f = elim i [ ]
  one_statement b d s t r u q a_skip (single i g) lt e f = elim i [ ]
  one_statement b d s t r u q a_skip (more i j g k) lt e f = elim i [ ]
  one_statement b d s t r u q a_skip a_skip lt e f = (refl, refl)
  one_statement b d s t r u q a_leave (single i g) lt e f = elim i [ ]
  one_statement b d s t r u q a_leave (more i j g k) lt e f = elim i [ ]
  one_statement b d s t r u q a_leave a_leave lt e f = (refl, refl)
  one_statement b d s t r u q (an_assignment v h) (single i g) lt e f = elim i [ ]
  one_statement b d s t r u q (an_assignment v h) (more i j g k) lt e f = elim i [ ]
  one_statement b d s t r u q (an_assignment {p} {c} v h) (an_assignment w g) lt e f = let a = same h g (omega arith) e f in (ap (assign p c) a.0, a.1)
  one_statement b d s t r u q (an_if v h h₁ h₂) (single i g) lt e f = elim i [ ]
  one_statement b d s t r u q (an_if v h h₁ h₂) (more i j g k) lt e f = elim i [ ]
  one_statement b d s t r u q (an_if {p} v h h₁ h₂) (an_if w g g₁ g₂) lt e f =
      let a = same h g (omega arith) refl refl in
      let x = sized h in
      let c = next a.1 h₁ g₁ (omega arith) refl refl in
      let y = sized h₁ in
      let l = next c.1 h₂ g₂ (omega arith) refl refl in
      ((λ i. choose p (a.0 i) (c.0 i) (l.0 i)), cc l.1)
  one_statement b d s t r u q (a_while v h h₁) (single i g) lt e f = elim i [ ]
  one_statement b d s t r u q (a_while v h h₁) (more i j g k) lt e f = elim i [ ]
  one_statement b d s t r u q (a_while {p} v h h₁) (a_while w g g₁) lt e f =
      let a = same h g (omega arith) refl refl in
      let x = sized h in
      let c = next a.1 h₁ g₁ (omega arith) refl refl in
      ((λ i. loop p (a.0 i) (c.0 i)), cc c.1)
  one_statement b d s t r u q (a_hold v x h) (single i g) lt e f = elim i [ ]
  one_statement b d s t r u q (a_hold v x h) (more i j g k) lt e f = elim i [ ]
  one_statement b d s t r u q (a_hold {p} {k} v x h) (a_hold w y g) lt e f = let a = same h g (omega arith) refl refl in (ap (hold p k) a.0, cc a.1)

  one_list : Unique list (suc n)
  one_list = by_parts n joined_list one_statement

  one_rule : Unique rule (suc n)
  one_rule b d s t r u q (single i h) g lt e f = elim i [ ]
  one_rule b d s t r u q (more i j h k) g lt e f = elim i [ ]
  one_rule b d s t r u q (with_given h h₁) (single i g) lt e f = elim i [ ]
  one_rule b d s t r u q (with_given h h₁) (more i j g k) lt e f = elim i [ ]
  one_rule b d s t r u q (with_given h h₁) (with_given g g₁) lt e f =
      let a = same h g (omega arith) refl refl in
      let x = sized h in
      let c = next a.1 h₁ g₁ (omega arith) e f in
      ((λ i. record { given = a.0 i; body = c.0 i }), c.1)
  one_rule b d s t r u q (with_given h h₁) (no_given g) lt e f = absurd (no_list g)
  one_rule b d s t r u q (no_given h) (single i g) lt e f = elim i [ ]
  one_rule b d s t r u q (no_given h) (more i j g k) lt e f = elim i [ ]
  one_rule b d s t r u q (no_given h) (with_given g g₁) lt e f = absurd (no_list h)
  one_rule b d s t r u q (no_given h) (no_given g) lt e f = let a = one_list b d s _ r _ q h g lt e f in ((λ i. record { given = 0; body = a.0 i }), a.1)

  each : (c : Class) (X : Sort c) → Unique X (suc n)
  each _ given_name = one_name
  each _ given_names = by_parts n joined_names one_name
  each _ factor = one_factor
  each _ term = by_parts n joined_term one_factor
  each _ sum = one_sum
  each _ prime = one_prime
  each _ cond = by_parts n joined_cond one_prime
  each _ statement = one_statement
  each _ list = one_list
  each _ rule = one_rule

all : (n : ℕ) (c : Class) (X : Sort c) → Unique X n
all zero c X = λ b d s t r u q h g lt e f. absurd (omega arith)
all (suc n) c X = each n (all n) c X

pub one_tree : OneTree
one_tree b s t u h g = (all (suc (length s)) rules rule b b s t [] u [] h g (omega arith) refl refl).0
