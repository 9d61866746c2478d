-- The stacks as languages of the grammar: a stack takes a token and more just where the step by the token takes the rest.
use Rattle.std.proofs.Common.{◌≡◌, ℕ, Bool, true, false, List, [], ◌∷◌, Some, None, Option, sym, refl, ap, ◌∙◌, subst, eq-eqb}
use Rattle.tokens.specs.Lexemes.{same_lexeme}
use Rattle.tokens.specs.Tokens.{Symbol, name, number, fixed, stray, Spot, at}
use Rattle.tokens.specs.declared.lexeme.Lexeme.{Lexeme}
use Rattle.tokens.specs.declared.lexeme.Lexeme.TheVariants as lexeme
use Rattle.tokens.proofs.Lexemes.{same_lexemes}
use Rattle.grammar.specs.Trees.{Sum, Cond, Statement, Rule}
use Rattle.grammar.specs.Grammar.{Class, Tree, Sort, given_name, given_names, factor, term, sum, prime, cond, statement, list, rule, Bound, inside, name_fits, number_fits, latch_fits, Joined, joined_names, joined_sum, joined_term, joined_cond, joined_list, Joins, by_comma, by_plus, by_minus, by_times, by_and, by_semicolon, Derives, single, more, a_number, a_name, in_round, a_true, a_false, a_not, is_equal, is_at_most, in_square, a_skip, a_leave, an_assignment, an_if, a_while, a_hold, a_given, with_given, no_given}
use Rattle.grammar.specs.Automaton.{Need, need, tail, this, compared, latch, Move, stop, over, go, when, deeper, begin_factor, begin_comparison, begin_prime, begin_statement, begin_given, begin_list, begin_rule, begin, joined, follows, expect, compares, latched, step}

-- what lexemes join to a sort that has begun
pub data Tail : (c : Class) → Sort c → Bound → List Spot → List Spot → Type 0 where
  no_more : {c : Class} {X : Sort c} {b : Bound} {s : List Spot} → Tail c X b s s
  next : {c : Class} {X Y : Sort c} {m : Lexeme} {b : Bound} {p : ℕ} {s r q : List Spot} {t : Tree c} → Joined c X Y → Joins c X m → Derives c Y b s t r → Tail c X b r q → Tail c X b (at p (fixed m) ∷ s) q

-- one more at the end
snoc : {c : Class} {X Y : Sort c} {m : Lexeme} {b : Bound} {p : ℕ} {r q s : List Spot} {u : Tree c} → Joined c X Y → Joins c X m → Derives c Y b r u q → Tail c X b s (at p (fixed m) ∷ r) → Tail c X b s q
snoc i j h no_more = next i j h no_more
snoc i j h (next o n g t) = next o n g (snoc i j h t)

-- a Y that begins an X, and what lexemes join to it
abbrev Opened : {c : Class} → Sort c → Sort c → Bound → List Spot → List Spot → Type 0
Opened {c} X Y b s r = (m : List Spot) × (u : Tree c) × Derives c Y b s u m × Tail c X b m r

further : {c : Class} {X Y Z : Sort c} {m : Lexeme} {b : Bound} {p : ℕ} {s r q : List Spot} {u : Tree c} → Joined c X Z → Joins c X m → Derives c Z b r u q → Opened X Y b s (at p (fixed m) ∷ r) → Opened X Y b s q
further i j h o = (o.0, o.1, o.2, snoc i j h o.3)

-- the joined from the left, read from the front
expand : {c : Class} {X Y : Sort c} {b : Bound} {s r : List Spot} {t : Tree c} → Joined c X Y → Derives c X b s t r → Opened X Y b s r
expand joined_names (single joined_names h) = (_, _, h, no_more)
expand joined_names (more i j h g) = further i j g (expand joined_names h)
expand joined_sum (single joined_sum h) = (_, _, h, no_more)
expand joined_sum (more i j h g) = further i j g (expand joined_sum h)
expand joined_term (single joined_term h) = (_, _, h, no_more)
expand joined_term (more i j h g) = further i j g (expand joined_term h)
expand joined_cond (single joined_cond h) = (_, _, h, no_more)
expand joined_cond (more i j h g) = further i j g (expand joined_cond h)
expand joined_list (single joined_list h) = (_, _, h, no_more)
expand joined_list (more i j h g) = further i j g (expand joined_list h)

-- and back: what is joined to an X makes an X of it
grow : {c : Class} {X : Sort c} {b : Bound} {s m r : List Spot} {t : Tree c} → Derives c X b s t m → Tail c X b m r → (u : Tree c) × Derives c X b s u r
grow h no_more = (_, h)
grow h (next i j g l) = grow (more i j h g) l

pub data This : Lexeme → List Spot → List Spot → Type 0 where
  here : {m : Lexeme} {p : ℕ} {s : List Spot} → This m (at p (fixed m) ∷ s) s

-- the second half of a comparison
pub data Second : Bound → List Spot → List Spot → Type 0 where
  equal_to : {b : Bound} {p : ℕ} {s r : List Spot} {t : Sum} → Derives _ sum b s t r → Second b (at p (fixed lexeme.Equal) ∷ s) r
  no_more_than : {b : Bound} {p : ℕ} {s r : List Spot} {t : Sum} → Derives _ sum b s t r → Second b (at p (fixed lexeme.AtMost) ∷ s) r

pub data Latch : Bound → List Spot → List Spot → Type 0 where
  fitting : {b : Bound} {p v : ℕ} {s : List Spot} → latch_fits b v ≡ true → Latch b (at p (number v) ∷ s) s

abbrev pub Of : Need → List Spot → List Spot → Type 0
Of (need {c} X b) s r = (t : Tree c) × Derives c X b s t r
Of (tail {c} X b) s r = Tail c X b s r
Of (this m) s r = This m s r
Of (compared b) s r = Second b s r
Of (latch b) s r = Latch b s r

-- the tokens that a stack takes
pub data Lang : List Need → List Spot → Type 0 where
  done : Lang [] []
  then : {x : Need} {k : List Need} {s r : List Spot} → Of x s r → Lang k r → Lang (x ∷ k) s

-- ## What the stack takes, the step takes

abbrev pub Holds : Move → List Spot → Type 0
Holds stop s = ⊥
Holds over s = ⊥
Holds (go k) s = Lang k s

pub when_elim : (P : Move → Type 0) (a b : Move) (c : Bool) → (c ≡ true → P a) → P b → P (when c a b)
when_elim P a b true f g = f refl
when_elim P a b false f g = g

holds_when : {c : Bool} {k : List Need} {s : List Spot} (v : Move) → c ≡ true → Lang k s → Holds (when c (go k) v) s
holds_when {k} {s} v e l = subst (λ c. Holds (when c (go k) v) s) (sym e) l

holds_deeper : (b : Bound) {e : Bound} (f : Bound → List Need) {s : List Spot} → inside b ≡ Some e → Lang (f e) s → Holds (deeper (inside b) f) s
holds_deeper b f {s} h l = subst (λ o. Holds (deeper o f) s) (sym h) l

-- a lexeme that goes on by the move f is not the lexeme n, where f stops
unless : (m n : Lexeme) (f : Lexeme → Move) (a b : Move) (s : List Spot) → f n ≡ stop → Holds (f m) s → Holds b s → Holds (when (same_lexeme m n) a b) s
unless m n f a b s c h g = when_elim (λ v. Holds v s) a b (same_lexeme m n) (λ e. absurd (subst (λ o. Holds o s) (ap f (same_lexemes m n e) ∙ c) h)) g

complete_factor : {b : Bound} {k : List Need} {p : ℕ} {x : Symbol} {s r : List Spot} {t : Sum} → Derives _ factor b (at p x ∷ s) t r → Lang k r → Holds (begin_factor x b k) s
complete_factor (single i h) l = elim i [ ]
complete_factor (more i j h g) l = elim i [ ]
complete_factor (a_number f) l = holds_when over f l
complete_factor (a_name f) l = holds_when over f l
complete_factor {b} {k} (in_round {t} i h) l = holds_deeper b (λ e. need sum e ∷ this lexeme.Close ∷ k) i (then (t, h) (then here l))

complete_sum : {b : Bound} {k : List Need} {p : ℕ} {x : Symbol} {s r : List Spot} {t : Sum} → Derives _ sum b (at p x ∷ s) t r → Lang k r → Holds (begin sum x b k) s
complete_sum h l =
    let a = expand joined_sum h in
    let o = expand joined_term a.2 in
    complete_factor o.2 (then o.3 (then a.3 l))

-- no word or bracket of a prime begins a sum
past_comparison : (x : Symbol) (b : Bound) (k : List Need) (s : List Spot) → Holds (begin_comparison x b k) s → Holds (begin_prime x b k) s
past_comparison (name w c) b k s h = h
past_comparison (number v) b k s h = h
past_comparison (fixed m) b k s h =
    let f : Lexeme → Move = λ n. begin_comparison (fixed n) b k in
    unless m lexeme.True f _ _ s refl h (unless m lexeme.False f _ _ s refl h (unless m lexeme.Not f _ _ s refl h (unless m lexeme.OpenSquare f _ _ s refl h h)))
past_comparison stray b k s h = h

complete_comparison : {b : Bound} {k : List Need} {p : ℕ} {x : Symbol} {s r q : List Spot} {t : Sum} → Derives _ sum b (at p x ∷ s) t r → Second b r q → Lang k q → Holds (begin_prime x b k) s
complete_comparison {b} {k} {x} {s} h g l =
    let a = expand joined_sum h in
    let o = expand joined_term a.2 in
    past_comparison x b k s (complete_factor o.2 (then o.3 (then a.3 (then g l))))

complete_prime : {b : Bound} {k : List Need} {p : ℕ} {x : Symbol} {s r : List Spot} {t : Cond} → Derives _ prime b (at p x ∷ s) t r → Lang k r → Holds (begin_prime x b k) s
complete_prime (single i h) l = elim i [ ]
complete_prime (more i j h g) l = elim i [ ]
complete_prime a_true l = l
complete_prime a_false l = l
complete_prime {b} {k} (a_not {t} i h) l = holds_deeper b (λ e. need prime e ∷ k) i (then (t, h) l)
complete_prime (is_equal h g) l = complete_comparison h (equal_to g) l
complete_prime (is_at_most h g) l = complete_comparison h (no_more_than g) l
complete_prime {b} {k} (in_square {t} i h) l = holds_deeper b (λ e. need cond e ∷ this lexeme.CloseSquare ∷ k) i (then (t, h) (then here l))

complete_statement : {b : Bound} {k : List Need} {p : ℕ} {x : Symbol} {s r : List Spot} {t : Statement} → Derives _ statement b (at p x ∷ s) t r → Lang k r → Holds (begin_statement x b k) s
complete_statement (single i h) l = elim i [ ]
complete_statement (more i j h g) l = elim i [ ]
complete_statement a_skip l = l
complete_statement a_leave l = l
complete_statement (an_assignment {t} f h) l = holds_when over f (then here (then (t, h) l))
complete_statement {b} {k} (an_if {t} {u} {y} i h g o) l = holds_deeper b (λ e. need cond e ∷ this lexeme.Then ∷ need list e ∷ this lexeme.Else ∷ need list e ∷ this lexeme.End ∷ k) i (then (t, h) (then here (then (u, g) (then here (then (y, o) (then here l))))))
complete_statement {b} {k} (a_while {t} {u} i h g) l = holds_deeper b (λ e. need cond e ∷ this lexeme.Do ∷ need list e ∷ this lexeme.End ∷ k) i (then (t, h) (then here (then (u, g) (then here l))))
complete_statement {b} {k} (a_hold {u} i f h) l = holds_deeper b (λ e. latch b ∷ this lexeme.Do ∷ need list e ∷ this lexeme.End ∷ k) i (then (fitting f) (then here (then (u, h) (then here l))))

complete_given : {b : Bound} {k : List Need} {p : ℕ} {x : Symbol} {s r : List Spot} {t : ℕ} → Derives _ given_name b (at p x ∷ s) t r → Lang k r → Holds (begin_given x b k) s
complete_given (single i h) l = elim i [ ]
complete_given (more i j h g) l = elim i [ ]
complete_given (a_given f) l = holds_when over f l

complete_list : {b : Bound} {k : List Need} {p : ℕ} {x : Symbol} {s r : List Spot} {t : Statement} → Derives _ list b (at p x ∷ s) t r → Lang k r → Holds (begin_list x b k) s
complete_list h l = let a = expand joined_list h in complete_statement a.2 (then a.3 l)

-- `given` begins no list
past_list : (x : Symbol) (b : Bound) (k : List Need) (s : List Spot) → Holds (begin_list x b k) s → Holds (begin_rule x b k) s
past_list (name w c) b k s h = h
past_list (number v) b k s h = h
past_list (fixed m) b k s h = unless m lexeme.Given (λ n. begin_list (fixed n) b k) _ _ s refl h h
past_list stray b k s h = h

complete_rule : {b : Bound} {k : List Need} {p : ℕ} {x : Symbol} {s r : List Spot} {t : Rule} → Derives _ rule b (at p x ∷ s) t r → Lang k r → Holds (begin_rule x b k) s
complete_rule (single i h) l = elim i [ ]
complete_rule (more i j h g) l = elim i [ ]
complete_rule (with_given h g) l = then (_, h) (then here (then (_, g) l))
complete_rule {b} {k} {x} {s} (no_given h) l = past_list x b k s (complete_list h l)

complete_need : {c : Class} (X : Sort c) {b : Bound} {k : List Need} {p : ℕ} {x : Symbol} {s r : List Spot} {t : Tree c} → Derives c X b (at p x ∷ s) t r → Lang k r → Holds (begin X x b k) s
complete_need given_name h l = complete_given h l
complete_need given_names h l = let a = expand joined_names h in complete_given a.2 (then a.3 l)
complete_need factor h l = complete_factor h l
complete_need term h l = let a = expand joined_term h in complete_factor a.2 (then a.3 l)
complete_need sum h l = complete_sum h l
complete_need prime h l = complete_prime h l
complete_need cond h l = let a = expand joined_cond h in complete_prime a.2 (then a.3 l)
complete_need statement h l = complete_statement h l
complete_need list h l = complete_list h l
complete_need rule h l = complete_rule h l

-- ## Stacks in which nothing is followed by a lexeme with which it could go on

abbrev pub sum_lexemes : List Lexeme
sum_lexemes = lexeme.Times ∷ lexeme.Plus ∷ lexeme.Minus ∷ []

-- the lexemes with which a sort goes on
abbrev pub onward : {c : Class} → Sort c → List Lexeme
onward given_name = []
onward given_names = lexeme.Comma ∷ []
onward factor = []
onward term = lexeme.Times ∷ []
onward sum = sum_lexemes
onward prime = sum_lexemes
onward cond = lexeme.And ∷ sum_lexemes
onward statement = sum_lexemes
onward list = lexeme.Semicolon ∷ sum_lexemes
onward rule = lexeme.Semicolon ∷ sum_lexemes

-- the stack takes none of the lexemes
abbrev pub Silent : List Lexeme → List Need → Type 0
Silent [] k = Unit {0}
Silent (m ∷ l) k = (step (fixed m) k ≡ stop) × Silent l k

abbrev pub Fine : List Need → Type 0
Fine [] = Unit {0}
Fine (need X b ∷ k) = Silent (onward X) k × Fine k
Fine (tail X b ∷ k) = Silent (onward X) k × Fine k
Fine (this m ∷ k) = Fine k
Fine (compared b ∷ k) = Silent sum_lexemes k × Fine k
Fine (latch b ∷ k) = Fine k

abbrev pub FineMove : Move → Type 0
FineMove stop = Unit {0}
FineMove over = Unit {0}
FineMove (go k) = Fine k

fine_when : (a b : Move) (c : Bool) → FineMove a → FineMove b → FineMove (when c a b)
fine_when a b c f g = when_elim FineMove a b c (λ _. f) g

fine_deeper : (o : Option Bound) (f : Bound → List Need) → ((e : Bound) → Fine (f e)) → FineMove (deeper o f)
fine_deeper None f h = tt
fine_deeper (Some e) f h = h e

fine_factor : (x : Symbol) (b : Bound) (k : List Need) → Fine k → FineMove (begin_factor x b k)
fine_factor (name w c) b k h = fine_when _ _ (name_fits b w c) h tt
fine_factor (number v) b k h = fine_when _ _ (number_fits b v) h tt
fine_factor (fixed m) b k h = fine_when _ _ (same_lexeme m lexeme.Open) (fine_deeper (inside b) _ (λ e. ((refl, (refl, (refl, tt))), h))) tt
fine_factor stray b k h = tt

fine_comparison : (x : Symbol) (b : Bound) (k : List Need) → Silent sum_lexemes k → Fine k → FineMove (begin_comparison x b k)
fine_comparison x b k q h = fine_factor x b _ ((refl, tt), ((refl, (refl, (refl, tt))), (q, h)))

fine_prime : (x : Symbol) (b : Bound) (k : List Need) → Silent sum_lexemes k → Fine k → FineMove (begin_prime x b k)
fine_prime (name w c) b k q h = fine_comparison (name w c) b k q h
fine_prime (number v) b k q h = fine_comparison (number v) b k q h
fine_prime (fixed m) b k q h =
    fine_when _ _ (same_lexeme m lexeme.True) h
    (fine_when _ _ (same_lexeme m lexeme.False) h
    (fine_when _ _ (same_lexeme m lexeme.Not) (fine_deeper (inside b) _ (λ e. (q, h)))
    (fine_when _ _ (same_lexeme m lexeme.OpenSquare) (fine_deeper (inside b) _ (λ e. ((refl, (refl, (refl, (refl, tt)))), h)))
    (fine_comparison (fixed m) b k q h))))
fine_prime stray b k q h = tt

fine_statement : (x : Symbol) (b : Bound) (k : List Need) → Silent sum_lexemes k → Fine k → FineMove (begin_statement x b k)
fine_statement (name w c) b k q h = fine_when _ _ (name_fits b w c) (q, h) tt
fine_statement (number v) b k q h = tt
fine_statement (fixed m) b k q h =
    fine_when _ _ (same_lexeme m lexeme.Skip) h
    (fine_when _ _ (same_lexeme m lexeme.Leave) h
    (fine_when _ _ (same_lexeme m lexeme.If) (fine_deeper (inside b) _ (λ e. ((refl, (refl, (refl, (refl, tt)))), ((refl, (refl, (refl, (refl, tt)))), ((refl, (refl, (refl, (refl, tt)))), h)))))
    (fine_when _ _ (same_lexeme m lexeme.While) (fine_deeper (inside b) _ (λ e. ((refl, (refl, (refl, (refl, tt)))), ((refl, (refl, (refl, (refl, tt)))), h))))
    (fine_when _ _ (same_lexeme m lexeme.Hold) (fine_deeper (inside b) _ (λ e. ((refl, (refl, (refl, (refl, tt)))), h))) tt))))
fine_statement stray b k q h = tt

fine_given : (x : Symbol) (b : Bound) (k : List Need) → Fine k → FineMove (begin_given x b k)
fine_given (name w c) b k h = fine_when _ _ (name_fits b w c) h tt
fine_given (number v) b k h = tt
fine_given (fixed m) b k h = tt
fine_given stray b k h = tt

fine_list : (x : Symbol) (b : Bound) (k : List Need) → Silent (onward list) k → Fine k → FineMove (begin_list x b k)
fine_list x b k q h = fine_statement x b _ q.1 (q, h)

fine_rule : (x : Symbol) (b : Bound) (k : List Need) → Silent (onward list) k → Fine k → FineMove (begin_rule x b k)
fine_rule (name w c) b k q h = fine_list (name w c) b k q h
fine_rule (number v) b k q h = fine_list (number v) b k q h
fine_rule (fixed m) b k q h = fine_when _ _ (same_lexeme m lexeme.Given) ((refl, tt), (q, h)) (fine_list (fixed m) b k q h)
fine_rule stray b k q h = tt

fine_begin : {c : Class} (X : Sort c) (x : Symbol) (b : Bound) (k : List Need) → Silent (onward X) k → Fine k → FineMove (begin X x b k)
fine_begin given_name x b k q h = fine_given x b k h
fine_begin given_names x b k q h = fine_given x b _ (q, h)
fine_begin factor x b k q h = fine_factor x b k h
fine_begin term x b k q h = fine_factor x b _ (q, h)
fine_begin sum x b k q h = fine_factor x b _ ((q.0, tt), (q, h))
fine_begin prime x b k q h = fine_prime x b k q h
fine_begin cond x b k q h = fine_prime x b _ q.1 (q, h)
fine_begin statement x b k q h = fine_statement x b k q h
fine_begin list x b k q h = fine_list x b k q h
fine_begin rule x b k q h = fine_rule x b k q h

fine_joined : {c : Class} (X : Sort c) (m : Lexeme) (b : Bound) (k : List Need) (n : Move) → Silent (onward X) k → Fine k → FineMove n → FineMove (joined X m b k n)
fine_joined given_name m b k n q h g = g
fine_joined given_names m b k n q h g = fine_when _ _ (same_lexeme m lexeme.Comma) (tt, (q, h)) g
fine_joined factor m b k n q h g = g
fine_joined term m b k n q h g = fine_when _ _ (same_lexeme m lexeme.Times) (tt, (q, h)) g
fine_joined sum m b k n q h g = fine_when _ _ (same_lexeme m lexeme.Plus) ((q.0, tt), (q, h)) (fine_when _ _ (same_lexeme m lexeme.Minus) ((q.0, tt), (q, h)) g)
fine_joined prime m b k n q h g = g
fine_joined cond m b k n q h g = fine_when _ _ (same_lexeme m lexeme.And) (q.1, (q, h)) g
fine_joined statement m b k n q h g = g
fine_joined list m b k n q h g = fine_when _ _ (same_lexeme m lexeme.Semicolon) (q.1, (q, h)) g
fine_joined rule m b k n q h g = g

fine_follows : {c : Class} (X : Sort c) (x : Symbol) (b : Bound) (k : List Need) (n : Move) → Silent (onward X) k → Fine k → FineMove n → FineMove (follows X x b k n)
fine_follows X (name w c) b k n q h g = g
fine_follows X (number v) b k n q h g = g
fine_follows X (fixed m) b k n q h g = fine_joined X m b k n q h g
fine_follows X stray b k n q h g = g

fine_expect : (e : Lexeme) (x : Symbol) (k : List Need) → Fine k → FineMove (expect e x k)
fine_expect e (name w c) k h = tt
fine_expect e (number v) k h = tt
fine_expect e (fixed m) k h = fine_when _ _ (same_lexeme m e) h tt
fine_expect e stray k h = tt

fine_compares : (x : Symbol) (b : Bound) (k : List Need) → Silent sum_lexemes k → Fine k → FineMove (compares x b k)
fine_compares (name w c) b k q h = tt
fine_compares (number v) b k q h = tt
fine_compares (fixed m) b k q h = fine_when _ _ (same_lexeme m lexeme.Equal) (q, h) (fine_when _ _ (same_lexeme m lexeme.AtMost) (q, h) tt)
fine_compares stray b k q h = tt

fine_latched : (x : Symbol) (b : Bound) (k : List Need) → Fine k → FineMove (latched x b k)
fine_latched (name w c) b k h = tt
fine_latched (number v) b k h = fine_when _ _ (latch_fits b v) h tt
fine_latched (fixed m) b k h = tt
fine_latched stray b k h = tt

pub fine_step : (x : Symbol) (k : List Need) → Fine k → FineMove (step x k)
fine_step x [] h = tt
fine_step x (need X b ∷ k) h = fine_begin X x b k h.0 h.1
fine_step x (tail X b ∷ k) h = fine_follows X x b k (step x k) h.0 h.1 (fine_step x k h.1)
fine_step x (this m ∷ k) h = fine_expect m x k h
fine_step x (compared b ∷ k) h = fine_compares x b k h.0 h.1
fine_step x (latch b ∷ k) h = fine_latched x b k h

-- ## The step takes all that a fine stack takes

-- what follows a sort in a fine stack is none of the lexemes that join more to it
past_joined : {c : Class} (X : Sort c) (m : Lexeme) (b : Bound) (k : List Need) (s : List Spot) → Silent (onward X) k → Holds (step (fixed m) k) s → Holds (joined X m b k (step (fixed m) k)) s
past_joined given_name m b k s q h = h
past_joined given_names m b k s q h = unless m lexeme.Comma (λ n. step (fixed n) k) _ _ s q.0 h h
past_joined factor m b k s q h = h
past_joined term m b k s q h = unless m lexeme.Times (λ n. step (fixed n) k) _ _ s q.0 h h
past_joined sum m b k s q h = unless m lexeme.Plus (λ n. step (fixed n) k) _ _ s q.1.0 h (unless m lexeme.Minus (λ n. step (fixed n) k) _ _ s q.1.1.0 h h)
past_joined prime m b k s q h = h
past_joined cond m b k s q h = unless m lexeme.And (λ n. step (fixed n) k) _ _ s q.0 h h
past_joined statement m b k s q h = h
past_joined list m b k s q h = unless m lexeme.Semicolon (λ n. step (fixed n) k) _ _ s q.0 h h
past_joined rule m b k s q h = h

past : {c : Class} (X : Sort c) (x : Symbol) (b : Bound) (k : List Need) (s : List Spot) → Silent (onward X) k → Holds (step x k) s → Holds (follows X x b k (step x k)) s
past X (name w c) b k s q h = h
past X (number v) b k s q h = h
past X (fixed m) b k s q h = past_joined X m b k s q h
past X stray b k s q h = h

complete_next : {c : Class} {X Y : Sort c} {m : Lexeme} (b : Bound) (k : List Need) (n : Move) {s r q : List Spot} {t : Tree c} → Joined c X Y → Joins c X m → Derives c Y b s t r → Tail c X b r q → Lang k q → Holds (joined X m b k n) s
complete_next b k n joined_names by_comma h g l = then (_, h) (then g l)
complete_next b k n joined_sum by_plus h g l = then (_, h) (then g l)
complete_next b k n joined_sum by_minus h g l = then (_, h) (then g l)
complete_next b k n joined_term by_times h g l = then (_, h) (then g l)
complete_next b k n joined_cond by_and h g l = then (_, h) (then g l)
complete_next b k n joined_list by_semicolon h g l = then (_, h) (then g l)

complete_tail : {c : Class} {X : Sort c} {b : Bound} {k : List Need} {p : ℕ} {x : Symbol} {s r : List Spot} → Silent (onward X) k → Tail c X b (at p x ∷ s) r → Lang k r → (Lang k (at p x ∷ s) → Holds (step x k) s) → Holds (follows X x b k (step x k)) s
complete_tail {X} {b} {k} {x} {s} q no_more l f = past X x b k s q (f l)
complete_tail {b} {k} q (next i j h g) l f = complete_next b k _ i j h g l

complete_this : {m : Lexeme} {k : List Need} {p : ℕ} {x : Symbol} {s r : List Spot} → This m (at p x ∷ s) r → Lang k r → Holds (expect m x k) s
complete_this here l = holds_when stop (eq-eqb _ _ refl) l

complete_second : {b : Bound} {k : List Need} {p : ℕ} {x : Symbol} {s r : List Spot} → Second b (at p x ∷ s) r → Lang k r → Holds (compares x b k) s
complete_second (equal_to h) l = then (_, h) l
complete_second (no_more_than h) l = then (_, h) l

complete_latch : {b : Bound} {k : List Need} {p : ℕ} {x : Symbol} {s r : List Spot} → Latch b (at p x ∷ s) r → Lang k r → Holds (latched x b k) s
complete_latch (fitting f) l = holds_when over f l

pub complete : {p : ℕ} {x : Symbol} {s : List Spot} (k : List Need) → Fine k → Lang k (at p x ∷ s) → Holds (step x k) s
complete [] f l = elim l [ ]
complete (need X b ∷ k) f (then h l) = complete_need X h.1 l
complete (tail X b ∷ k) f (then h l) = complete_tail f.0 h l (complete k f.1)
complete (this m ∷ k) f (then h l) = complete_this h l
complete (compared b ∷ k) f (then h l) = complete_second h l
complete (latch b ∷ k) f (then h l) = complete_latch h l

-- ## What the step takes, the stack takes

abbrev pub Back : Move → List Need → Spot → List Spot → Type 0
Back stop k x s = Unit {0}
Back over k x s = Unit {0}
Back (go n) k x s = Lang n s → Lang k (x ∷ s)

back_map : (v : Move) (k n : List Need) (x : Spot) (s : List Spot) → (Lang k (x ∷ s) → Lang n (x ∷ s)) → Back v k x s → Back v n x s
back_map stop k n x s f h = tt
back_map over k n x s f h = tt
back_map (go j) k n x s f h = λ l. f (h l)

back_deeper : (o : Option Bound) (f : Bound → List Need) (k : List Need) (x : Spot) (s : List Spot) → ((e : Bound) → o ≡ Some e → Lang (f e) s → Lang k (x ∷ s)) → Back (deeper o f) k x s
back_deeper None f k x s h = tt
back_deeper (Some e) f k x s h = h e refl

back_fits : (c : Bool) (n k : List Need) (x : Spot) (s : List Spot) → (c ≡ true → Lang n s → Lang k (x ∷ s)) → Back (when c (go n) over) k x s
back_fits c n k x s h = when_elim (λ v. Back v k x s) _ _ c h tt

-- the move v for the lexeme n, and w for any other
back_when : (m n : Lexeme) (v w : Move) (k : List Need) (p : ℕ) (s : List Spot) → Back v k (at p (fixed n)) s → Back w k (at p (fixed m)) s → Back (when (same_lexeme m n) v w) k (at p (fixed m)) s
back_when m n v w k p s f g = when_elim (λ o. Back o k (at p (fixed m)) s) v w (same_lexeme m n) (λ e. subst (λ o. Back v k (at p (fixed o)) s) (sym (same_lexemes m n e)) f) g

round_back : (b : Bound) (k : List Need) (p : ℕ) (s : List Spot) (e : Bound) → inside b ≡ Some e → Lang (need sum e ∷ this lexeme.Close ∷ k) s → Lang (need factor b ∷ k) (at p (fixed lexeme.Open) ∷ s)
round_back b k p s e i (then h (then here l)) = then (_, in_round i h.1) l

sound_factor : (x : Symbol) (b : Bound) (k : List Need) (p : ℕ) (s : List Spot) → Back (begin_factor x b k) (need factor b ∷ k) (at p x) s
sound_factor (name w c) b k p s = back_fits (name_fits b w c) _ _ _ _ (λ f l. then (_, a_name f) l)
sound_factor (number v) b k p s = back_fits (number_fits b v) _ _ _ _ (λ f l. then (_, a_number f) l)
sound_factor (fixed m) b k p s = back_when m lexeme.Open _ _ _ p s (back_deeper (inside b) _ _ _ _ (round_back b k p s)) tt
sound_factor stray b k p s = tt

fold : {c : Class} {X Y : Sort c} {b : Bound} {k : List Need} {z : List Spot} → Joined c X Y → Lang (need Y b ∷ tail X b ∷ k) z → Lang (need X b ∷ k) z
fold j (then h (then g l)) = then (grow (single j h.1) g) l

fold_prime : {b : Bound} {k : List Need} {z : List Spot} → Lang (need sum b ∷ compared b ∷ k) z → Lang (need prime b ∷ k) z
fold_prime (then h (then (equal_to g) l)) = then (_, is_equal h.1 g) l
fold_prime (then h (then (no_more_than g) l)) = then (_, is_at_most h.1 g) l

sound_comparison : (x : Symbol) (b : Bound) (k : List Need) (p : ℕ) (s : List Spot) → Back (begin_comparison x b k) (need prime b ∷ k) (at p x) s
sound_comparison x b k p s = back_map (begin_comparison x b k) _ _ _ _ (λ l. fold_prime (fold joined_sum (fold joined_term l))) (sound_factor x b _ p s)

not_back : (b : Bound) (k : List Need) (p : ℕ) (s : List Spot) (e : Bound) → inside b ≡ Some e → Lang (need prime e ∷ k) s → Lang (need prime b ∷ k) (at p (fixed lexeme.Not) ∷ s)
not_back b k p s e i (then h l) = then (_, a_not i h.1) l

square_back : (b : Bound) (k : List Need) (p : ℕ) (s : List Spot) (e : Bound) → inside b ≡ Some e → Lang (need cond e ∷ this lexeme.CloseSquare ∷ k) s → Lang (need prime b ∷ k) (at p (fixed lexeme.OpenSquare) ∷ s)
square_back b k p s e i (then h (then here l)) = then (_, in_square i h.1) l

sound_prime : (x : Symbol) (b : Bound) (k : List Need) (p : ℕ) (s : List Spot) → Back (begin_prime x b k) (need prime b ∷ k) (at p x) s
sound_prime (name w c) b k p s = sound_comparison (name w c) b k p s
sound_prime (number v) b k p s = sound_comparison (number v) b k p s
sound_prime (fixed m) b k p s =
    back_when m lexeme.True _ _ _ p s (λ l. then (_, a_true) l)
    (back_when m lexeme.False _ _ _ p s (λ l. then (_, a_false) l)
    (back_when m lexeme.Not _ _ _ p s (back_deeper (inside b) _ _ _ _ (not_back b k p s))
    (back_when m lexeme.OpenSquare _ _ _ p s (back_deeper (inside b) _ _ _ _ (square_back b k p s))
    (sound_comparison (fixed m) b k p s))))
sound_prime stray b k p s = tt

assignment_back : (b : Bound) (k : List Need) (p : ℕ) (w : List ℕ) (c : ℕ) (s : List Spot) → name_fits b w c ≡ true → Lang (this lexeme.Becomes ∷ need sum b ∷ k) s → Lang (need statement b ∷ k) (at p (name w c) ∷ s)
assignment_back b k p w c s f (then here (then h l)) = then (_, an_assignment f h.1) l

if_back : (b : Bound) (k : List Need) (p : ℕ) (s : List Spot) (e : Bound) → inside b ≡ Some e → Lang (need cond e ∷ this lexeme.Then ∷ need list e ∷ this lexeme.Else ∷ need list e ∷ this lexeme.End ∷ k) s → Lang (need statement b ∷ k) (at p (fixed lexeme.If) ∷ s)
if_back b k p s e i (then h (then here (then g (then here (then o (then here l)))))) = then (_, an_if i h.1 g.1 o.1) l

while_back : (b : Bound) (k : List Need) (p : ℕ) (s : List Spot) (e : Bound) → inside b ≡ Some e → Lang (need cond e ∷ this lexeme.Do ∷ need list e ∷ this lexeme.End ∷ k) s → Lang (need statement b ∷ k) (at p (fixed lexeme.While) ∷ s)
while_back b k p s e i (then h (then here (then g (then here l)))) = then (_, a_while i h.1 g.1) l

hold_back : (b : Bound) (k : List Need) (p : ℕ) (s : List Spot) (e : Bound) → inside b ≡ Some e → Lang (latch b ∷ this lexeme.Do ∷ need list e ∷ this lexeme.End ∷ k) s → Lang (need statement b ∷ k) (at p (fixed lexeme.Hold) ∷ s)
hold_back b k p s e i (then (fitting f) (then here (then h (then here l)))) = then (_, a_hold i f h.1) l

sound_statement : (x : Symbol) (b : Bound) (k : List Need) (p : ℕ) (s : List Spot) → Back (begin_statement x b k) (need statement b ∷ k) (at p x) s
sound_statement (name w c) b k p s = back_fits (name_fits b w c) _ _ _ _ (assignment_back b k p w c s)
sound_statement (number v) b k p s = tt
sound_statement (fixed m) b k p s =
    back_when m lexeme.Skip _ _ _ p s (λ l. then (_, a_skip) l)
    (back_when m lexeme.Leave _ _ _ p s (λ l. then (_, a_leave) l)
    (back_when m lexeme.If _ _ _ p s (back_deeper (inside b) _ _ _ _ (if_back b k p s))
    (back_when m lexeme.While _ _ _ p s (back_deeper (inside b) _ _ _ _ (while_back b k p s))
    (back_when m lexeme.Hold _ _ _ p s (back_deeper (inside b) _ _ _ _ (hold_back b k p s)) tt))))
sound_statement stray b k p s = tt

sound_given : (x : Symbol) (b : Bound) (k : List Need) (p : ℕ) (s : List Spot) → Back (begin_given x b k) (need given_name b ∷ k) (at p x) s
sound_given (name w c) b k p s = back_fits (name_fits b w c) _ _ _ _ (λ f l. then (_, a_given f) l)
sound_given (number v) b k p s = tt
sound_given (fixed m) b k p s = tt
sound_given stray b k p s = tt

sound_list : (x : Symbol) (b : Bound) (k : List Need) (p : ℕ) (s : List Spot) → Back (begin_list x b k) (need list b ∷ k) (at p x) s
sound_list x b k p s = back_map (begin_list x b k) _ _ _ _ (fold joined_list) (sound_statement x b _ p s)

given_back : (b : Bound) (k : List Need) (p : ℕ) (s : List Spot) → Lang (need given_names b ∷ this lexeme.Semicolon ∷ need list b ∷ k) s → Lang (need rule b ∷ k) (at p (fixed lexeme.Given) ∷ s)
given_back b k p s (then h (then here (then g l))) = then (_, with_given h.1 g.1) l

fold_rule : {b : Bound} {k : List Need} {z : List Spot} → Lang (need list b ∷ k) z → Lang (need rule b ∷ k) z
fold_rule (then h l) = then (_, no_given h.1) l

-- a rule with nothing given
sound_bare : (x : Symbol) (b : Bound) (k : List Need) (p : ℕ) (s : List Spot) → Back (begin_list x b k) (need rule b ∷ k) (at p x) s
sound_bare x b k p s = back_map (begin_list x b k) _ _ _ _ fold_rule (sound_list x b k p s)

sound_rule : (x : Symbol) (b : Bound) (k : List Need) (p : ℕ) (s : List Spot) → Back (begin_rule x b k) (need rule b ∷ k) (at p x) s
sound_rule (name w c) b k p s = sound_bare (name w c) b k p s
sound_rule (number v) b k p s = tt
sound_rule (fixed m) b k p s = back_when m lexeme.Given _ _ _ p s (given_back b k p s) (sound_bare (fixed m) b k p s)
sound_rule stray b k p s = tt

sound_begin : {c : Class} (X : Sort c) (x : Symbol) (b : Bound) (k : List Need) (p : ℕ) (s : List Spot) → Back (begin X x b k) (need X b ∷ k) (at p x) s
sound_begin given_name x b k p s = sound_given x b k p s
sound_begin given_names x b k p s = back_map (begin given_names x b k) _ _ _ _ (fold joined_names) (sound_given x b _ p s)
sound_begin factor x b k p s = sound_factor x b k p s
sound_begin term x b k p s = back_map (begin term x b k) _ _ _ _ (fold joined_term) (sound_factor x b _ p s)
sound_begin sum x b k p s = back_map (begin sum x b k) _ _ _ _ (λ l. fold joined_sum (fold joined_term l)) (sound_factor x b _ p s)
sound_begin prime x b k p s = sound_prime x b k p s
sound_begin cond x b k p s = back_map (begin cond x b k) _ _ _ _ (fold joined_cond) (sound_prime x b _ p s)
sound_begin statement x b k p s = sound_statement x b k p s
sound_begin list x b k p s = sound_list x b k p s
sound_begin rule x b k p s = sound_rule x b k p s

next_back : {c : Class} {X Y : Sort c} {m : Lexeme} (b : Bound) (k : List Need) (p : ℕ) (s : List Spot) → Joined c X Y → Joins c X m → Lang (need Y b ∷ tail X b ∷ k) s → Lang (tail X b ∷ k) (at p (fixed m) ∷ s)
next_back b k p s i j (then h (then g l)) = then (next i j h.1 g) l

sound_next : {c : Class} {X Y : Sort c} {n : Lexeme} (m : Lexeme) (b : Bound) (k : List Need) (v : Move) (p : ℕ) (s : List Spot) → Joined c X Y → Joins c X n → Back v (tail X b ∷ k) (at p (fixed m)) s → Back (when (same_lexeme m n) (go (need Y b ∷ tail X b ∷ k)) v) (tail X b ∷ k) (at p (fixed m)) s
sound_next m b k v p s i j h = back_when m _ _ v _ p s (next_back b k p s i j) h

sound_joined : {c : Class} (X : Sort c) (m : Lexeme) (b : Bound) (k : List Need) (n : Move) (p : ℕ) (s : List Spot) → Back n (tail X b ∷ k) (at p (fixed m)) s → Back (joined X m b k n) (tail X b ∷ k) (at p (fixed m)) s
sound_joined given_name m b k n p s h = h
sound_joined given_names m b k n p s h = sound_next m b k n p s joined_names by_comma h
sound_joined factor m b k n p s h = h
sound_joined term m b k n p s h = sound_next m b k n p s joined_term by_times h
sound_joined sum m b k n p s h = sound_next m b k _ p s joined_sum by_plus (sound_next m b k n p s joined_sum by_minus h)
sound_joined prime m b k n p s h = h
sound_joined cond m b k n p s h = sound_next m b k n p s joined_cond by_and h
sound_joined statement m b k n p s h = h
sound_joined list m b k n p s h = sound_next m b k n p s joined_list by_semicolon h
sound_joined rule m b k n p s h = h

sound_follows : {c : Class} (X : Sort c) (x : Symbol) (b : Bound) (k : List Need) (n : Move) (p : ℕ) (s : List Spot) → Back n (tail X b ∷ k) (at p x) s → Back (follows X x b k n) (tail X b ∷ k) (at p x) s
sound_follows X (name w c) b k n p s h = h
sound_follows X (number v) b k n p s h = h
sound_follows X (fixed m) b k n p s h = sound_joined X m b k n p s h
sound_follows X stray b k n p s h = h

sound_expect : (e : Lexeme) (x : Symbol) (k : List Need) (p : ℕ) (s : List Spot) → Back (expect e x k) (this e ∷ k) (at p x) s
sound_expect e (name w c) k p s = tt
sound_expect e (number v) k p s = tt
sound_expect e (fixed m) k p s = back_when m e _ _ _ p s (λ l. then here l) tt
sound_expect e stray k p s = tt

second_back : {b : Bound} {k : List Need} {p : ℕ} {m : Lexeme} {s : List Spot} → ((t : Sum) (r : List Spot) → Derives _ sum b s t r → Second b (at p (fixed m) ∷ s) r) → Lang (need sum b ∷ k) s → Lang (compared b ∷ k) (at p (fixed m) ∷ s)
second_back f (then h l) = then (f _ _ h.1) l

sound_compares : (x : Symbol) (b : Bound) (k : List Need) (p : ℕ) (s : List Spot) → Back (compares x b k) (compared b ∷ k) (at p x) s
sound_compares (name w c) b k p s = tt
sound_compares (number v) b k p s = tt
sound_compares (fixed m) b k p s = back_when m lexeme.Equal _ _ _ p s (second_back (λ t r h. equal_to h)) (back_when m lexeme.AtMost _ _ _ p s (second_back (λ t r h. no_more_than h)) tt)
sound_compares stray b k p s = tt

sound_latched : (x : Symbol) (b : Bound) (k : List Need) (p : ℕ) (s : List Spot) → Back (latched x b k) (latch b ∷ k) (at p x) s
sound_latched (name w c) b k p s = tt
sound_latched (number v) b k p s = back_fits (latch_fits b v) _ _ _ _ (λ f l. then (fitting f) l)
sound_latched (fixed m) b k p s = tt
sound_latched stray b k p s = tt

pub sound : (x : Symbol) (k : List Need) (p : ℕ) (s : List Spot) → Back (step x k) k (at p x) s
sound x [] p s = tt
sound x (need X b ∷ k) p s = sound_begin X x b k p s
sound x (tail X b ∷ k) p s = sound_follows X x b k (step x k) p s (back_map (step x k) _ _ _ _ (λ l. then no_more l) (sound x k p s))
sound x (this m ∷ k) p s = sound_expect m x k p s
sound x (compared b ∷ k) p s = sound_compares x b k p s
sound x (latch b ∷ k) p s = sound_latched x b k p s
