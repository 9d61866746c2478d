-- The operators of chains: which lexeme is one, and what comes where none is.
use Rattle.std.proofs.Common.{◌≡◌, ℕ, Bool, true, false, cond, ◌∷◌, Some, None, Option, sym, refl, ap, ◌∙◌, arith}
use Rattle.tokens.specs.Lexemes.{same_lexeme}
use Rattle.tokens.specs.Lexing.{is_lexeme}
use Rattle.tokens.specs.declared.lexeme.Lexeme.{Lexeme}
use Rattle.tokens.specs.declared.lexeme.Lexeme.TheVariants as lexeme
use Rattle.grammar.specs.Grammar.{Bound, sum, term, factor, prime, list, statement, Joined, joined_sum, joined_term, joined_cond, joined_list, Joins, by_plus, by_minus, by_times, by_and, by_semicolon}
use Rattle.grammar.specs.Grammar as grammar
use Rattle.grammar.specs.Automaton.{need, tail, Move, go, when}
use Rattle.rules.specs.Readers.{class_of, whole_of, part_of, operator_of, operator_kind}
use Rattle.rules.specs.declared.chain.Chain.{Chain}
use Rattle.rules.specs.declared.chain.Chain.TheVariants as chain
use Rattle.rules.specs.declared.chain.Operator.{Operator}
use Rattle.rules.specs.declared.chain.Operator.TheVariants as operator
use Rattle.rules.proofs.Sizes.{Noded, kind_of}
use Rattle.rules.proofs.Turns.{Leaves}

pub noded : (c : Chain) → Noded (class_of c)
noded chain.Sum = tt
noded chain.Term = tt
noded chain.Cond = tt
noded chain.List = tt

pub joined_of : (c : Chain) → Joined (class_of c) (whole_of c) (part_of c)
joined_of chain.Sum = joined_sum
joined_of chain.Term = joined_term
joined_of chain.Cond = joined_cond
joined_of chain.List = joined_list

-- the lexeme that joins, and what it makes
abbrev pub Picked : Chain → Option Lexeme → Operator → Type 0
Picked c o q = (m : Lexeme) × (j : Joins (class_of c) (whole_of c) m) × (true ≡ is_lexeme o m) × ((l r : ℕ) → operator_kind q l r ≡ kind_of j l r)

made_by : (c : Chain) (m n : Lexeme) (j : Joins (class_of c) (whole_of c) n) (made q : Operator) → ((l r : ℕ) → operator_kind made l r ≡ kind_of j l r) → same_lexeme m n ≡ true → q ≡ made → Picked c (Some m) q
made_by c m n j made q is e h = (n, j, sym e, λ l r. ap (λ o. operator_kind o l r) h ∙ is l r)

only : (c : Chain) (m n : Lexeme) (j : Joins (class_of c) (whole_of c) n) (made q : Operator) → ((l r : ℕ) → operator_kind made l r ≡ kind_of j l r) → (a : Bool) → same_lexeme m n ≡ a → Some q ≡ cond a (Some made) None → Picked c (Some m) q
only c m n j made q is true e h = made_by c m n j made q is e (let z : q ≡ made = cc in z)
only c m n j made q is false e h = let z : ◌≡◌ {A = ℕ} 0 1 = cc in absurd (omega arith)

pub picked : (c : Chain) (o : Option Lexeme) (q : Operator) → Some q ≡ operator_of c o → Picked c o q
picked c None q h = let z : ◌≡◌ {A = ℕ} 0 1 = cc in absurd (omega arith)
picked chain.Sum (Some m) q h = either (same_lexeme m lexeme.Plus) refl h
  where
    either : (a : Bool) → same_lexeme m lexeme.Plus ≡ a → Some q ≡ cond a (Some operator.Add) (cond (same_lexeme m lexeme.Minus) (Some operator.Sub) None) → Picked chain.Sum (Some m) q
    either true e h = made_by chain.Sum m lexeme.Plus by_plus operator.Add q (λ l r. refl) e (let z : q ≡ operator.Add = cc in z)
    either false e h = only chain.Sum m lexeme.Minus by_minus operator.Sub q (λ l r. refl) (same_lexeme m lexeme.Minus) refl h
picked chain.Term (Some m) q h = only chain.Term m lexeme.Times by_times operator.Mul q (λ l r. refl) (same_lexeme m lexeme.Times) refl h
picked chain.Cond (Some m) q h = only chain.Cond m lexeme.And by_and operator.And q (λ l r. refl) (same_lexeme m lexeme.And) refl h
picked chain.List (Some m) q h = only chain.List m lexeme.Semicolon by_semicolon operator.Then q (λ l r. refl) (same_lexeme m lexeme.Semicolon) refl h

-- where a lexeme does not join, what follows stays
stays : (a : Bool) (q : Operator) → None ≡ cond a (Some q) None → (w v : Move) → when a w v ≡ v
stays true q h w v = let z : ◌≡◌ {A = ℕ} 0 1 = cc in absurd (omega arith)
stays false q h w v = refl

pub leaves_chain : (c : Chain) (b : Bound) (o : Option Lexeme) → None ≡ operator_of c o → Leaves (whole_of c) b o
leaves_chain c b None h = tt
leaves_chain chain.Sum b (Some m) h = λ k v. neither (same_lexeme m lexeme.Plus) (same_lexeme m lexeme.Minus) h (go (need term b ∷ tail sum b ∷ k)) v
  where
    neither : (p q : Bool) → None ≡ cond p (Some operator.Add) (cond q (Some operator.Sub) None) → (w v : Move) → when p w (when q w v) ≡ v
    neither true q h w v = let z : ◌≡◌ {A = ℕ} 0 1 = cc in absurd (omega arith)
    neither false q h w v = stays q operator.Sub h w v
leaves_chain chain.Term b (Some m) h = λ k v. stays (same_lexeme m lexeme.Times) operator.Mul h (go (need factor b ∷ tail term b ∷ k)) v
leaves_chain chain.Cond b (Some m) h = λ k v. stays (same_lexeme m lexeme.And) operator.And h (go (need prime b ∷ tail grammar.cond b ∷ k)) v
leaves_chain chain.List b (Some m) h = λ k v. stays (same_lexeme m lexeme.Semicolon) operator.Then h (go (need statement b ∷ tail list b ∷ k)) v
