-- What the readers of the code promise each other.
use Rattle.std.specs.Prelude.{◌≡◌, ℕ, ℤ, pos, ◌+◌, ◌^◌, ◌<◌, ◌≤◌, true, false, cond, ◌&&◌, nat_le, List, [], ◌∷◌, ◌++◌, length, Some, None, Option, nat_lt, slice_set, Result, MatchResult}
use Rattle.tokens.specs.Lexemes.{same_lexeme}
use Rattle.tokens.specs.Tokens.{Symbol, name, number, Spot, at, cell_of, names_with, tokens_from}
use Rattle.tokens.specs.Lexing.{symbol, lexeme_of, is_lexeme, with_token}
use Rattle.tokens.specs.declared.lexeme.Lexeme.{Lexeme}
use Rattle.tokens.specs.declared.lexeme.Lexeme.TheVariants as lexeme
use Rattle.tokens.specs.declared.token.Token.{Token}
use Rattle.tokens.specs.declared.token.Token.TheVariants as token
use Rattle.grammar.specs.Trees.{Rule}
use Rattle.grammar.specs.Grammar.{Class, cells, sums, conds, statements, rules, Tree, Sort, sum, term, factor, prime, list, statement, rule, within, limits, Derives}
use Rattle.grammar.specs.Grammar as grammar
use Rattle.grammar.specs.Automaton.{Need, need, tail, Verdict, judge}
use Rattle.grammar.specs.Automaton as automaton
use Rattle.rules.specs.Names.{words_of}
use Rattle.rules.specs.Nodes.{node, size, nodes, written}
use Rattle.rules.specs.declared.chain.Chain.{Chain}
use Rattle.rules.specs.declared.chain.Chain.TheVariants as chain
use Rattle.rules.specs.declared.chain.Operator.{Operator}
use Rattle.rules.specs.declared.chain.Operator.TheVariants as operator
use Rattle.rules.specs.declared.fault.Fault.{Fault}
use Rattle.rules.specs.declared.fault.Fault.TheVariants.{Misfit, Limit}
use Rattle.rules.specs.declared.node.Kind.{Kind}
use Rattle.rules.specs.declared.node.Kind.TheVariants as kind
use Rattle.rules.specs.declared.node.Node.{Node}
use Rattle.rules.specs.declared.reader.Reader.{Reader}

-- ## Tokens

-- the token is a number or a lexeme
abbrev pub Passable : Token → Type 0
Passable (token.Name w) = ⊥
Passable (token.Number w) = Unit {0}
Passable (token.Keyword m w) = Unit {0}
Passable (token.Sign m) = Unit {0}
Passable token.Stray = ⊥
Passable token.EndOfText = ⊥

-- r is at that lexeme
abbrev pub Begins : Lexeme → Reader → Type 0
Begins m r = is_lexeme (lexeme_of r.current.token) m ≡ true

-- ## Operators

-- what a chain is, and its parts
abbrev pub class_of : Chain → Class
class_of chain.Sum = sums
class_of chain.Term = sums
class_of chain.Cond = conds
class_of chain.List = statements

abbrev pub whole_of : (c : Chain) → Sort (class_of c)
whole_of chain.Sum = sum
whole_of chain.Term = term
whole_of chain.Cond = grammar.cond
whole_of chain.List = list

abbrev pub part_of : (c : Chain) → Sort (class_of c)
part_of chain.Sum = term
part_of chain.Term = factor
part_of chain.Cond = prime
part_of chain.List = statement

-- the operator of a chain that a lexeme is
abbrev pub operator_of : Chain → Option Lexeme → Option Operator
operator_of c None = None
operator_of chain.Sum (Some m) = cond (same_lexeme m lexeme.Plus) (Some operator.Add) (cond (same_lexeme m lexeme.Minus) (Some operator.Sub) None)
operator_of chain.Term (Some m) = cond (same_lexeme m lexeme.Times) (Some operator.Mul) None
operator_of chain.Cond (Some m) = cond (same_lexeme m lexeme.And) (Some operator.And) None
operator_of chain.List (Some m) = cond (same_lexeme m lexeme.Semicolon) (Some operator.Then) None

-- what compares that a lexeme is
abbrev pub comparer_of : Option Lexeme → Option Operator
comparer_of None = None
comparer_of (Some m) = cond (same_lexeme m lexeme.Equal) (Some operator.Equal) (cond (same_lexeme m lexeme.AtMost) (Some operator.AtMost) None)

-- the node that an operator makes
abbrev pub operator_kind : Operator → ℕ → ℕ → Kind
operator_kind operator.Add l r = kind.Add l r
operator_kind operator.Sub l r = kind.Sub l r
operator_kind operator.Mul l r = kind.Mul l r
operator_kind operator.Equal l r = kind.Equal l r
operator_kind operator.AtMost l r = kind.AtMost l r
operator_kind operator.And l r = kind.And l r
operator_kind operator.Then l r = kind.Then l r

-- a prime that begins so is a comparison
abbrev pub Compares : Option Lexeme → Type 0
Compares o = (false ≡ is_lexeme o lexeme.True) × (false ≡ is_lexeme o lexeme.False) × (false ≡ is_lexeme o lexeme.Not) × (false ≡ is_lexeme o lexeme.OpenSquare)

-- ## Readers

-- the text of a reader, the names before its current token, and what its table holds
abbrev pub text_of : Reader → List ℕ
text_of r = r.text.now

abbrev pub names_in : Reader → List (List ℕ)
names_in r = words_of r.names

abbrev pub table_in : Reader → List Node
table_in r = r.nodes.now

-- the tokens that a reader has before it, the current one first
abbrev pub rest : Reader → List Spot
rest r = with_token (names_in r) r.current.place r.current.token r.current.end (text_of r)

-- q reads the text of r, and writes into the same table, which has as many places
pub record Along (r q : Reader) : Type 0 where
  pub text : text_of q ≡ text_of r
  pub same_table : q.nodes.ghost_name ≡ r.nodes.ghost_name
  pub places : length (table_in q) ≡ length (table_in r)

-- q is r after its token, which is x
pub record Past (x : Symbol) (r q : Reader) : Type 0 where
  pub spot : rest r ≡ at r.current.place x ∷ rest q
  pub along : Along r q
  pub table : table_in q ≡ table_in r
  pub count : q.count ≡ r.count
  pub left : length (rest r) ≡ length (rest q) + 1

-- what the current token is, as the grammar sees it
abbrev pub current : Reader → Option Symbol
current r = symbol (names_in r) r.current.token

-- there is a current token, and it adds nothing to the names so far
abbrev pub Settled : Option Symbol → List (List ℕ) → Type 0
Settled None names = ⊥
Settled (Some x) names = names_with names x ≡ names

-- q is r at the next token, after the names of r
pub record Advanced (r q : Reader) : Type 0 where
  pub next : rest q ≡ tokens_from (names_in r) r.current.end (text_of r)
  pub along : Along r q
  pub table : table_in q ≡ table_in r
  pub count : q.count ≡ r.count

-- q is r with a node more
pub record Wrote (n : Node) (r q : Reader) : Type 0 where
  pub rest_stays : rest q ≡ rest r
  pub along : Along r q
  pub count : q.count ≡ r.count + 1
  pub table : table_in q ≡ slice_set (table_in r) r.count n

-- q is r after its token, which is x, with a node more, of that kind and at that token; root is its number
pub record Leaf (x : Symbol) (made : Kind) (r q : Reader) (root : ℕ) : Type 0 where
  pub between : Reader
  pub past : Past x r between
  pub wrote : Wrote (node r.current.place made) between q
  pub number : root ≡ between.count

-- ## What the readers' stack says

-- what a fault says of the tokens
abbrev pub said : Fault → Verdict
said (Misfit p) = automaton.misfit p
said (Limit p) = automaton.limited p

-- what comes of the tokens before a reader where k is needed
abbrev pub verdict : Reader → List Need → Verdict
verdict r k = judge (length (text_of r)) (rest r) k

-- what is needed first was read from r to q
abbrev pub Went : Need → Reader → Reader → Type 0
Went n r q = (k : List Need) → verdict r (n ∷ k) ≡ verdict q k

-- what is needed first does not follow, as q found out
abbrev pub Fails : Need → Reader → Reader → Fault → Type 0
Fails n r q f = Along r q × ((k : List Need) → verdict r (n ∷ k) ≡ said f)

-- ## What a reader of a sort promises

-- an X of at most d open was read from r to q: its nodes are written into the table, the last is the root, and `left` may follow
pub record Got {c : Class} (X : Sort c) (d : ℕ) (left : List Need) (r q : Reader) (root : ℕ) : Type 0 where
  pub tree : Tree c
  pub derived : Derives c X (within d) (rest r) tree (rest q)
  pub counted : q.count ≡ r.count + size c tree
  pub rooted : root + 1 ≡ q.count
  pub table : table_in q ≡ written r.count (nodes c r.count tree) (table_in r)
  pub along : Along r q
  pub goes : (k : List Need) → verdict r (need X (within d) ∷ k) ≡ verdict q (left ++ k)
  pub fits : q.count + length (rest q) ≤ r.count + length (rest r)
  pub shorter : length (rest q) < length (rest r)

-- an X was read, and nothing more of it can follow
abbrev pub WholeOf : {c : Class} → Sort c → ℕ → Reader → Reader → ℕ → Type 0
WholeOf X d r q root = Got X d [] r q root

-- what reading an X answers
abbrev pub Gives : {c : Class} → Sort c → ℕ → Reader → Reader → Result ℕ Fault → Type 0
Gives X d r q o = MatchResult o (WholeOf X d r q) (Fails (need X (within d)) r q)

-- more of the X may follow
abbrev pub PartOf : {c : Class} → Sort c → ℕ → Reader → Reader → ℕ → Type 0
PartOf X d r q root = Got X d (tail X (within d) ∷ []) r q root

-- a name was read, of that cell
pub record Named (cell : ℕ) (r q : Reader) : Type 0 where
  pub word : List ℕ
  pub fits : nat_le (length word) 12 && nat_lt cell 32 ≡ true
  pub past : Past (name word cell) r q
  pub small : cell < 32

-- a name that passes a limit
abbrev pub Overnamed : List ℕ → Reader → Reader → Fault → Type 0
Overnamed w r q f = Along r q × (f ≡ Limit r.current.place) × (nat_le (length w) 12 && nat_lt (cell_of (names_in r) w) 32 ≡ false)

-- a number of the value n was read, or it passes a limit
abbrev pub Valued : ℕ → Reader → Reader → ℤ → Type 0
Valued n r q v = (v ≡ pos n) × (nat_lt n (2 ^ 63) ≡ true) × Past (number n) r q

abbrev pub Overvalued : ℕ → Reader → Reader → Fault → Type 0
Overvalued n r q f = Along r q × (f ≡ Limit r.current.place) × (nat_lt n (2 ^ 63) ≡ false)

-- given names were read, whose cells are a set
pub record Given (X : Sort cells) (left : List Need) (r q : Reader) (given : ℕ) : Type 0 where
  pub derived : Derives cells X limits (rest r) given (rest q)
  pub count : q.count ≡ r.count
  pub along : Along r q
  pub table : table_in q ≡ table_in r
  pub goes : (k : List Need) → verdict r (need X limits ∷ k) ≡ verdict q (left ++ k)
  pub shorter : length (rest q) < length (rest r)

-- a rule was read
pub record Ruled (r q : Reader) (given : ℕ) : Type 0 where
  pub tree : Rule
  pub derived : Derives rules rule limits (rest r) tree (rest q)
  pub is_given : given ≡ tree.given
  pub counted : q.count ≡ r.count + size rules tree
  pub table : table_in q ≡ written r.count (nodes rules r.count tree) (table_in r)
  pub along : Along r q
  pub goes : Went (need rule limits) r q
