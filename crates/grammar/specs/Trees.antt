-- The trees of rules. The first number of a node is its place.
use Rattle.std.specs.Prelude.{ℕ, Bool, ℤ}

-- what computes a number of two
pub data Operator : Type 0 where
  add : Operator
  subtract : Operator
  multiply : Operator

-- what compares two numbers
pub data Relation : Type 0 where
  equal : Relation
  at_most : Relation

-- what gives a number
pub data Sum : Type 0 where
  number : ℕ → ℤ → Sum
  cell : ℕ → ℕ → Sum
  compute : ℕ → Operator → Sum → Sum → Sum

-- what gives a truth
pub data Cond : Type 0 where
  truth : ℕ → Bool → Cond
  negate : ℕ → Cond → Cond
  both : ℕ → Cond → Cond → Cond
  compare : ℕ → Relation → Sum → Sum → Cond

-- what does something
pub data Statement : Type 0 where
  skip : ℕ → Statement
  leave : ℕ → Statement
  assign : ℕ → ℕ → Sum → Statement
  choose : ℕ → Cond → Statement → Statement → Statement
  loop : ℕ → Cond → Statement → Statement
  hold : ℕ → ℕ → Statement → Statement
  sequence : ℕ → Statement → Statement → Statement

-- a rule: its given cells, a set that has cell c where bit c is 1, and what it does
pub record Rule : Type 0 where
  pub given : ℕ
  pub body : Statement
