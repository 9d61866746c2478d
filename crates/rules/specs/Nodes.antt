-- The nodes of a tree, and the tables that hold them.
use Rattle.std.specs.Prelude.{ℕ, ◌+◌, ◌-◌, true, false, List, [], ◌∷◌, ◌++◌, replicate, slice_set}
use Rattle.grammar.specs.Trees as tree
use Rattle.grammar.specs.Trees.{Operator, Relation, Sum, Cond, Statement, Rule}
use Rattle.grammar.specs.Grammar.{Class, cells, sums, conds, statements, rules, Tree}
use Rattle.rules.specs.declared.node.Kind.{Kind}
use Rattle.rules.specs.declared.node.Kind.TheVariants as kind
use Rattle.rules.specs.declared.node.Node.{Node}

-- a node of a place and a kind
abbrev pub node : ℕ → Kind → Node
node p k = record { place = p; kind = k }

-- what a place holds that no node of the rule needs
abbrev pub blank : Node
blank = node 0 kind.Skip

-- how many nodes a tree has
abbrev pub sum_size : Sum → ℕ
sum_size (tree.number p v) = 1
sum_size (tree.cell p c) = 1
sum_size (tree.compute p o t u) = sum_size t + sum_size u + 1

abbrev pub cond_size : Cond → ℕ
cond_size (tree.truth p b) = 1
cond_size (tree.negate p t) = cond_size t + 1
cond_size (tree.both p t u) = cond_size t + cond_size u + 1
cond_size (tree.compare p r t u) = sum_size t + sum_size u + 1

abbrev pub statement_size : Statement → ℕ
statement_size (tree.skip p) = 1
statement_size (tree.leave p) = 1
statement_size (tree.assign p c t) = sum_size t + 1
statement_size (tree.choose p t u v) = cond_size t + statement_size u + statement_size v + 1
statement_size (tree.loop p t u) = cond_size t + statement_size u + 1
statement_size (tree.hold p k u) = statement_size u + 1
statement_size (tree.sequence p t u) = statement_size t + statement_size u + 1

-- the given cells have no nodes
abbrev pub size : (c : Class) → Tree c → ℕ
size cells t = 0
size sums t = sum_size t
size conds t = cond_size t
size statements t = statement_size t
size rules t = statement_size t.body

-- the number of the root of n nodes that are numbered from i on
abbrev pub root_of : ℕ → ℕ → ℕ
root_of i n = i + n - 1

-- the kind of node that an operator or a comparison makes
abbrev pub operation : Operator → ℕ → ℕ → Kind
operation tree.add l r = kind.Add l r
operation tree.subtract l r = kind.Sub l r
operation tree.multiply l r = kind.Mul l r

abbrev pub comparison : Relation → ℕ → ℕ → Kind
comparison tree.equal l r = kind.Equal l r
comparison tree.at_most l r = kind.AtMost l r

-- the nodes of a tree, numbered from i on: parts first, left before right, the root last
abbrev pub sum_nodes : ℕ → Sum → List Node
sum_nodes i (tree.number p v) = node p (kind.Number v) ∷ []
sum_nodes i (tree.cell p c) = node p (kind.Cell c) ∷ []
sum_nodes i (tree.compute p o t u) =
    sum_nodes i t
    ++ (sum_nodes (i + sum_size t) u
    ++ node p (operation o (root_of i (sum_size t)) (root_of (i + sum_size t) (sum_size u))) ∷ [])

abbrev pub cond_nodes : ℕ → Cond → List Node
cond_nodes i (tree.truth p true) = node p kind.True ∷ []
cond_nodes i (tree.truth p false) = node p kind.False ∷ []
cond_nodes i (tree.negate p t) = cond_nodes i t ++ node p (kind.Not (root_of i (cond_size t))) ∷ []
cond_nodes i (tree.both p t u) =
    cond_nodes i t
    ++ (cond_nodes (i + cond_size t) u
    ++ node p (kind.And (root_of i (cond_size t)) (root_of (i + cond_size t) (cond_size u))) ∷ [])
cond_nodes i (tree.compare p r t u) =
    sum_nodes i t
    ++ (sum_nodes (i + sum_size t) u
    ++ node p (comparison r (root_of i (sum_size t)) (root_of (i + sum_size t) (sum_size u))) ∷ [])

abbrev pub statement_nodes : ℕ → Statement → List Node
statement_nodes i (tree.skip p) = node p kind.Skip ∷ []
statement_nodes i (tree.leave p) = node p kind.Leave ∷ []
statement_nodes i (tree.assign p c t) = sum_nodes i t ++ node p (kind.Assign c (root_of i (sum_size t))) ∷ []
statement_nodes i (tree.choose p t u v) =
    cond_nodes i t
    ++ (statement_nodes (i + cond_size t) u
    ++ (statement_nodes (i + cond_size t + statement_size u) v
    ++ node p (kind.If (root_of i (cond_size t)) (root_of (i + cond_size t) (statement_size u)) (root_of (i + cond_size t + statement_size u) (statement_size v))) ∷ []))
statement_nodes i (tree.loop p t u) =
    cond_nodes i t
    ++ (statement_nodes (i + cond_size t) u
    ++ node p (kind.While (root_of i (cond_size t)) (root_of (i + cond_size t) (statement_size u))) ∷ [])
statement_nodes i (tree.hold p k u) = statement_nodes i u ++ node p (kind.Hold k (root_of i (statement_size u))) ∷ []
statement_nodes i (tree.sequence p t u) =
    statement_nodes i t
    ++ (statement_nodes (i + statement_size t) u
    ++ node p (kind.Then (root_of i (statement_size t)) (root_of (i + statement_size t) (statement_size u))) ∷ [])

abbrev pub nodes : (c : Class) → ℕ → Tree c → List Node
nodes cells i t = []
nodes sums i t = sum_nodes i t
nodes conds i t = cond_nodes i t
nodes statements i t = statement_nodes i t
nodes rules i t = statement_nodes i t.body

-- a table of n places with the nodes of a rule at its front; the rest is blank
abbrev pub table_of : ℕ → Rule → List Node
table_of n t = nodes rules 0 t ++ replicate (n - size rules t) blank

-- a table with nodes written from i on, as far as it has places
abbrev pub written : ℕ → List Node → List Node → List Node
written i [] table = table
written i (n ∷ ns) table = written (i + 1) ns (slice_set table i n)
