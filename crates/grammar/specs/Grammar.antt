-- The grammar: `Derives c X b s t r` says that the tokens s begin with an X, a sort of the class c, whose tree is t, within the
-- bound b, and that r is what follows it.
use Rattle.std.specs.Prelude.{◌≡◌, ℕ, zero, suc, ◌^◌, Bool, true, false, ◌&&◌, List, [], ◌∷◌, ◌++◌, length, pos, Some, None, Option, bit_or, nat_le, nat_lt}
use Rattle.tokens.specs.Tokens.{name, number, fixed, Spot, at}
use Rattle.tokens.specs.declared.lexeme.Lexeme.{Lexeme}
use Rattle.tokens.specs.declared.lexeme.Lexeme.TheVariants as lexeme
use Rattle.grammar.specs.Trees.{Sum, Cond, Statement, Rule, add, subtract, multiply, equal, at_most, compute, truth, negate, both, compare, skip, leave, assign, choose, loop, hold, sequence}
use Rattle.grammar.specs.Trees

-- within n: n more of `(` `[` `not` `if` `while` `hold` may be opened, and names, numbers and latches have their limits;
-- unbounded: the grammar without any limit
pub data Bound : Type 0 where
  within : ℕ → Bound
  unbounded : Bound

-- the bound inside one more that is open, if one more may be
abbrev pub inside : Bound → Option Bound
inside (within zero) = None
inside (within (suc n)) = Some (within n)
inside unbounded = Some unbounded

-- a name has at most 12 letters and is one of the first 32
abbrev pub name_fits : Bound → List ℕ → ℕ → Bool
name_fits (within n) w c = nat_le (length w) 12 && nat_lt c 32
name_fits unbounded w c = true

-- a number is at most 2^63 - 1
abbrev pub number_fits : Bound → ℕ → Bool
number_fits (within n) v = nat_lt v (2 ^ 63)
number_fits unbounded v = true

-- a latch is at most 7
abbrev pub latch_fits : Bound → ℕ → Bool
latch_fits (within n) k = nat_le k 7
latch_fits unbounded k = true

-- what the trees of a sort are
pub data Class : Type 0 where
  cells : Class
  sums : Class
  conds : Class
  statements : Class
  rules : Class

-- given cells are a set, bit c for cell c
abbrev pub Tree : Class → Type 0
Tree cells = ℕ
Tree sums = Sum
Tree conds = Cond
Tree statements = Statement
Tree rules = Rule

-- the sorts of the grammar
pub data Sort : Class → Type 0 where
  given_name : Sort cells
  given_names : Sort cells
  factor : Sort sums
  term : Sort sums
  sum : Sort sums
  prime : Sort conds
  cond : Sort conds
  statement : Sort statements
  list : Sort statements
  rule : Sort rules

-- a sort that is joined by lexemes, and the sort that it joins
pub data Joined : (c : Class) → Sort c → Sort c → Type 0 where
  joined_names : Joined cells given_names given_name
  joined_sum : Joined sums sum term
  joined_term : Joined sums term factor
  joined_cond : Joined conds cond prime
  joined_list : Joined statements list statement

-- the lexemes that join a sort
pub data Joins : (c : Class) → Sort c → Lexeme → Type 0 where
  by_comma : Joins cells given_names lexeme.Comma
  by_plus : Joins sums sum lexeme.Plus
  by_minus : Joins sums sum lexeme.Minus
  by_times : Joins sums term lexeme.Times
  by_and : Joins conds cond lexeme.And
  by_semicolon : Joins statements list lexeme.Semicolon

-- the tree of two that a lexeme at p joins
abbrev pub join : {c : Class} {X : Sort c} {m : Lexeme} → Joins c X m → ℕ → Tree c → Tree c → Tree c
join by_comma p t u = bit_or t u
join by_plus p t u = compute p add t u
join by_minus p t u = compute p subtract t u
join by_times p t u = compute p multiply t u
join by_and p t u = both p t u
join by_semicolon p t u = sequence p t u

-- the productions
pub data Derives : (c : Class) → Sort c → Bound → List Spot → Tree c → List Spot → Type 0 where
  -- the sorts that are joined, from the left
  single : {c : Class} {X Y : Sort c} {b : Bound} {s r : List Spot} {t : Tree c} → Joined c X Y → Derives c Y b s t r → Derives c X b s t r
  more : {c : Class} {X Y : Sort c} {m : Lexeme} {b : Bound} {p : ℕ} {s r q : List Spot} {t u : Tree c} → Joined c X Y → (j : Joins c X m) → Derives c X b s t (at p (fixed m) ∷ r) → Derives c Y b r u q → Derives c X b s (join j p t u) q
  -- factor
  a_number : {b : Bound} {p v : ℕ} {r : List Spot} → number_fits b v ≡ true → Derives sums factor b (at p (number v) ∷ r) (Trees.number p (pos v)) r
  a_name : {b : Bound} {p c : ℕ} {w : List ℕ} {r : List Spot} → name_fits b w c ≡ true → Derives sums factor b (at p (name w c) ∷ r) (Trees.cell p c) r
  in_round : {b e : Bound} {p q : ℕ} {s r : List Spot} {t : Sum} → inside b ≡ Some e → Derives sums sum e s t (at q (fixed lexeme.Close) ∷ r) → Derives sums factor b (at p (fixed lexeme.Open) ∷ s) t r
  -- prime
  a_true : {b : Bound} {p : ℕ} {r : List Spot} → Derives conds prime b (at p (fixed lexeme.True) ∷ r) (truth p true) r
  a_false : {b : Bound} {p : ℕ} {r : List Spot} → Derives conds prime b (at p (fixed lexeme.False) ∷ r) (truth p false) r
  a_not : {b e : Bound} {p : ℕ} {s r : List Spot} {t : Cond} → inside b ≡ Some e → Derives conds prime e s t r → Derives conds prime b (at p (fixed lexeme.Not) ∷ s) (negate p t) r
  is_equal : {b : Bound} {p : ℕ} {s r q : List Spot} {t u : Sum} → Derives sums sum b s t (at p (fixed lexeme.Equal) ∷ r) → Derives sums sum b r u q → Derives conds prime b s (compare p equal t u) q
  is_at_most : {b : Bound} {p : ℕ} {s r q : List Spot} {t u : Sum} → Derives sums sum b s t (at p (fixed lexeme.AtMost) ∷ r) → Derives sums sum b r u q → Derives conds prime b s (compare p at_most t u) q
  in_square : {b e : Bound} {p q : ℕ} {s r : List Spot} {t : Cond} → inside b ≡ Some e → Derives conds cond e s t (at q (fixed lexeme.CloseSquare) ∷ r) → Derives conds prime b (at p (fixed lexeme.OpenSquare) ∷ s) t r
  -- statement
  a_skip : {b : Bound} {p : ℕ} {r : List Spot} → Derives statements statement b (at p (fixed lexeme.Skip) ∷ r) (skip p) r
  a_leave : {b : Bound} {p : ℕ} {r : List Spot} → Derives statements statement b (at p (fixed lexeme.Leave) ∷ r) (leave p) r
  an_assignment : {b : Bound} {p q c : ℕ} {w : List ℕ} {s r : List Spot} {t : Sum} → name_fits b w c ≡ true → Derives sums sum b s t r → Derives statements statement b (at p (name w c) ∷ at q (fixed lexeme.Becomes) ∷ s) (assign p c t) r
  an_if : {b e : Bound} {p q o n : ℕ} {s r v z : List Spot} {t : Cond} {u y : Statement} → inside b ≡ Some e → Derives conds cond e s t (at q (fixed lexeme.Then) ∷ r) → Derives statements list e r u (at o (fixed lexeme.Else) ∷ v) → Derives statements list e v y (at n (fixed lexeme.End) ∷ z) → Derives statements statement b (at p (fixed lexeme.If) ∷ s) (choose p t u y) z
  a_while : {b e : Bound} {p q o : ℕ} {s r v : List Spot} {t : Cond} {u : Statement} → inside b ≡ Some e → Derives conds cond e s t (at q (fixed lexeme.Do) ∷ r) → Derives statements list e r u (at o (fixed lexeme.End) ∷ v) → Derives statements statement b (at p (fixed lexeme.While) ∷ s) (loop p t u) v
  a_hold : {b e : Bound} {p q o n k : ℕ} {s v : List Spot} {u : Statement} → inside b ≡ Some e → latch_fits b k ≡ true → Derives statements list e s u (at o (fixed lexeme.End) ∷ v) → Derives statements statement b (at p (fixed lexeme.Hold) ∷ at n (number k) ∷ at q (fixed lexeme.Do) ∷ s) (hold p k u) v
  -- rule
  a_given : {b : Bound} {p c : ℕ} {w : List ℕ} {r : List Spot} → name_fits b w c ≡ true → Derives cells given_name b (at p (name w c) ∷ r) (2 ^ c) r
  with_given : {b : Bound} {p q g : ℕ} {s r v : List Spot} {t : Statement} → Derives cells given_names b s g (at q (fixed lexeme.Semicolon) ∷ r) → Derives statements list b r t v → Derives rules rule b (at p (fixed lexeme.Given) ∷ s) (record { given = g; body = t }) v
  no_given : {b : Bound} {s r : List Spot} {t : Statement} → Derives statements list b s t r → Derives rules rule b s (record { given = 0; body = t }) r

-- the tokens are a whole rule of the tree t
abbrev pub Whole : Bound → List Spot → Rule → Type 0
Whole b s t = Derives rules rule b s t []

-- some rule begins with the tokens s
abbrev pub Begins : Bound → List Spot → Type 0
Begins b s = (z : List Spot) × (t : Rule) × Whole b (s ++ z) t

-- the offset of a token
abbrev pub place : Spot → ℕ
place (at p x) = p

-- the limits of a rule
abbrev pub limits : Bound
limits = within 16

-- no rule begins with the tokens up to the one at this place, though one within the limits begins with those before it; the
-- end of the text, at its length, counts as a token
pub data Misfit (s : List Spot) (length : ℕ) : ℕ → Type 0 where
  at_token : (p r : List Spot) (x : Spot) → s ≡ p ++ x ∷ r → Begins limits p → (Begins unbounded (p ++ x ∷ []) → ⊥) → Misfit s length (place x)
  at_end : Begins limits s → ((t : Rule) → Whole unbounded s t → ⊥) → Misfit s length length

-- the token at this place is the first that passes a limit: a rule begins with the tokens up to it, but none within the limits,
-- and one within the limits begins with those before it
pub data Passes (s : List Spot) : ℕ → Type 0 where
  passes : (p r : List Spot) (x : Spot) → s ≡ p ++ x ∷ r → Begins limits p → Begins unbounded (p ++ x ∷ []) → (Begins limits (p ++ x ∷ []) → ⊥) → Passes s (place x)
