-- The readers of the code go by what is still needed, a stack; this is what the next token does to it. Rules are defined by the
-- grammar alone: that both agree is proved.
use Rattle.std.specs.Prelude.{ℕ, Bool, true, false, List, [], ◌∷◌, Some, None, Option}
use Rattle.tokens.specs.Lexemes.{same_lexeme}
use Rattle.tokens.specs.Tokens.{Symbol, name, number, fixed, stray, Spot, at}
use Rattle.tokens.specs.declared.lexeme.Lexeme.{Lexeme}
use Rattle.tokens.specs.declared.lexeme.Lexeme.TheVariants as lexeme
use Rattle.grammar.specs.Grammar.{Class, Sort, given_name, given_names, factor, term, sum, prime, cond, statement, list, rule, Bound, inside, name_fits, number_fits, latch_fits}

-- what can be needed: a sort, more of a sort that lexemes join, a lexeme, the second half of a comparison, the latch of a `hold`
pub data Need : Type 0 where
  need : {c : Class} → Sort c → Bound → Need
  tail : {c : Class} → Sort c → Bound → Need
  this : Lexeme → Need
  compared : Bound → Need
  latch : Bound → Need

-- the token does not fit, it passes a limit, or it leaves what is still needed
pub data Move : Type 0 where
  stop : Move
  over : Move
  go : List Need → Move

-- a move by a test
abbrev pub when : Bool → Move → Move → Move
when true a b = a
when false a b = b

-- on to what is needed inside one more that is open
abbrev pub deeper : Option Bound → (Bound → List Need) → Move
deeper None k = over
deeper (Some e) k = go (k e)

-- what a token does that is to begin a factor; the others likewise
abbrev pub begin_factor : Symbol → Bound → List Need → Move
begin_factor (name w c) b k = when (name_fits b w c) (go k) over
begin_factor (number v) b k = when (number_fits b v) (go k) over
begin_factor (fixed m) b k = when (same_lexeme m lexeme.Open) (deeper (inside b) (λ e. need sum e ∷ this lexeme.Close ∷ k)) stop
begin_factor stray b k = stop

-- a prime that begins with a sum
abbrev pub begin_comparison : Symbol → Bound → List Need → Move
begin_comparison x b k = begin_factor x b (tail term b ∷ tail sum b ∷ compared b ∷ k)

abbrev pub begin_prime : Symbol → Bound → List Need → Move
begin_prime (name w c) b k = begin_comparison (name w c) b k
begin_prime (number v) b k = begin_comparison (number v) b k
begin_prime (fixed m) b k =
    when (same_lexeme m lexeme.True) (go k)
    (when (same_lexeme m lexeme.False) (go k)
    (when (same_lexeme m lexeme.Not) (deeper (inside b) (λ e. need prime e ∷ k))
    (when (same_lexeme m lexeme.OpenSquare) (deeper (inside b) (λ e. need cond e ∷ this lexeme.CloseSquare ∷ k))
    (begin_comparison (fixed m) b k))))
begin_prime stray b k = stop

abbrev pub begin_statement : Symbol → Bound → List Need → Move
begin_statement (name w c) b k = when (name_fits b w c) (go (this lexeme.Becomes ∷ need sum b ∷ k)) over
begin_statement (number v) b k = stop
begin_statement (fixed m) b k =
    when (same_lexeme m lexeme.Skip) (go k)
    (when (same_lexeme m lexeme.Leave) (go k)
    (when (same_lexeme m lexeme.If) (deeper (inside b) (λ e. need cond e ∷ this lexeme.Then ∷ need list e ∷ this lexeme.Else ∷ need list e ∷ this lexeme.End ∷ k))
    (when (same_lexeme m lexeme.While) (deeper (inside b) (λ e. need cond e ∷ this lexeme.Do ∷ need list e ∷ this lexeme.End ∷ k))
    (when (same_lexeme m lexeme.Hold) (deeper (inside b) (λ e. latch b ∷ this lexeme.Do ∷ need list e ∷ this lexeme.End ∷ k))
    stop))))
begin_statement stray b k = stop

abbrev pub begin_given : Symbol → Bound → List Need → Move
begin_given (name w c) b k = when (name_fits b w c) (go k) over
begin_given (number v) b k = stop
begin_given (fixed m) b k = stop
begin_given stray b k = stop

abbrev pub begin_list : Symbol → Bound → List Need → Move
begin_list x b k = begin_statement x b (tail list b ∷ k)

abbrev pub begin_rule : Symbol → Bound → List Need → Move
begin_rule (name w c) b k = begin_list (name w c) b k
begin_rule (number v) b k = begin_list (number v) b k
begin_rule (fixed m) b k = when (same_lexeme m lexeme.Given) (go (need given_names b ∷ this lexeme.Semicolon ∷ need list b ∷ k)) (begin_list (fixed m) b k)
begin_rule stray b k = stop

-- of any sort
abbrev pub begin : {c : Class} → Sort c → Symbol → Bound → List Need → Move
begin given_name x b k = begin_given x b k
begin given_names x b k = begin_given x b (tail given_names b ∷ k)
begin factor x b k = begin_factor x b k
begin term x b k = begin_factor x b (tail term b ∷ k)
begin sum x b k = begin_factor x b (tail term b ∷ tail sum b ∷ k)
begin prime x b k = begin_prime x b k
begin cond x b k = begin_prime x b (tail cond b ∷ k)
begin statement x b k = begin_statement x b k
begin list x b k = begin_list x b k
begin rule x b k = begin_rule x b k

-- one more that the lexeme m joins to a sort, or else what n is
abbrev pub joined : {c : Class} → Sort c → Lexeme → Bound → List Need → Move → Move
joined given_name m b k n = n
joined given_names m b k n = when (same_lexeme m lexeme.Comma) (go (need given_name b ∷ tail given_names b ∷ k)) n
joined factor m b k n = n
joined term m b k n = when (same_lexeme m lexeme.Times) (go (need factor b ∷ tail term b ∷ k)) n
joined sum m b k n = when (same_lexeme m lexeme.Plus) (go (need term b ∷ tail sum b ∷ k)) (when (same_lexeme m lexeme.Minus) (go (need term b ∷ tail sum b ∷ k)) n)
joined prime m b k n = n
joined cond m b k n = when (same_lexeme m lexeme.And) (go (need prime b ∷ tail cond b ∷ k)) n
joined statement m b k n = n
joined list m b k n = when (same_lexeme m lexeme.Semicolon) (go (need statement b ∷ tail list b ∷ k)) n
joined rule m b k n = n

-- what a token does where more of a sort may follow
abbrev pub follows : {c : Class} → Sort c → Symbol → Bound → List Need → Move → Move
follows X (name w c) b k n = n
follows X (number v) b k n = n
follows X (fixed m) b k n = joined X m b k n
follows X stray b k n = n

-- a lexeme that is needed, the lexeme of a comparison, the number of a latch
abbrev pub expect : Lexeme → Symbol → List Need → Move
expect e (name w c) k = stop
expect e (number v) k = stop
expect e (fixed m) k = when (same_lexeme m e) (go k) stop
expect e stray k = stop

abbrev pub compares : Symbol → Bound → List Need → Move
compares (name w c) b k = stop
compares (number v) b k = stop
compares (fixed m) b k = when (same_lexeme m lexeme.Equal) (go (need sum b ∷ k)) (when (same_lexeme m lexeme.AtMost) (go (need sum b ∷ k)) stop)
compares stray b k = stop

abbrev pub latched : Symbol → Bound → List Need → Move
latched (name w c) b k = stop
latched (number v) b k = when (latch_fits b v) (go k) over
latched (fixed m) b k = stop
latched stray b k = stop

-- what a token does where k is needed
abbrev pub step : Symbol → List Need → Move
step x [] = stop
step x (need X b ∷ k) = begin X x b k
step x (tail X b ∷ k) = follows X x b k (step x k)
step x (this m ∷ k) = expect m x k
step x (compared b ∷ k) = compares x b k
step x (latch b ∷ k) = latched x b k

-- whether the text may end
abbrev pub may_end : List Need → Bool
may_end [] = true
may_end (need X b ∷ k) = false
may_end (tail X b ∷ k) = may_end k
may_end (this m ∷ k) = false
may_end (compared b ∷ k) = false
may_end (latch b ∷ k) = false

-- the tokens are taken, one does not fit, or one passes a limit
pub data Verdict : Type 0 where
  accepted : Verdict
  misfit : ℕ → Verdict
  limited : ℕ → Verdict

-- at the end of the text
abbrev pub at_end : ℕ → Bool → Verdict
at_end fin true = accepted
at_end fin false = misfit fin

-- after a token at p
abbrev pub moved : ℕ → Move → (List Need → Verdict) → Verdict
moved p stop f = misfit p
moved p over f = limited p
moved p (go k) f = f k

-- what comes of the tokens where k is needed; fin is the length of the text
abbrev pub judge : ℕ → List Spot → List Need → Verdict
judge fin [] k = at_end fin (may_end k)
judge fin (at p x ∷ s) k = moved p (step x k) (judge fin s)
