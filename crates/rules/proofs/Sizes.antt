-- How many nodes trees have and how many tokens they take, and the nodes written into a table.
use Rattle.std.proofs.Common.{◌≡◌, ℕ, ◌+◌, ◌≤◌, true, false, List, [], ◌∷◌, ◌++◌, length, set, sym, refl, ap, ◌∙◌, arith, length-append}
use Rattle.tokens.specs.Tokens.{Spot}
use Rattle.tokens.specs.declared.lexeme.Lexeme.{Lexeme}
use Rattle.grammar.specs.Trees as tree
use Rattle.grammar.specs.Trees.{Sum, Cond, Statement}
use Rattle.grammar.specs.Grammar.{Class, cells, sums, conds, statements, rules, Tree, Sort, Bound, Joins, by_comma, by_plus, by_minus, by_times, by_and, by_semicolon, join, Derives, single, more, a_number, a_name, in_round, a_true, a_false, a_not, is_equal, is_at_most, in_square, a_skip, a_leave, an_assignment, an_if, a_while, a_hold, a_given, with_given, no_given}
use Rattle.rules.specs.Nodes.{node, size, sum_size, cond_size, statement_size, root_of, nodes, sum_nodes, cond_nodes, statement_nodes, written}
use Rattle.rules.specs.declared.node.Kind.{Kind}
use Rattle.rules.specs.declared.node.Kind.TheVariants as kind
use Rattle.rules.specs.declared.node.Node.{Node}

-- the classes whose trees have nodes of their own
abbrev pub Noded : Class → Type 0
Noded cells = ⊥
Noded sums = Unit {0}
Noded conds = Unit {0}
Noded statements = Unit {0}
Noded rules = Unit {0}

-- ## Joined trees

-- the kind of node that a lexeme makes of two; given names have none
abbrev pub kind_of : {c : Class} {X : Sort c} {m : Lexeme} → Joins c X m → ℕ → ℕ → Kind
kind_of by_comma l r = kind.Skip
kind_of by_plus l r = kind.Add l r
kind_of by_minus l r = kind.Sub l r
kind_of by_times l r = kind.Mul l r
kind_of by_and l r = kind.And l r
kind_of by_semicolon l r = kind.Then l r

pub join_size : {c : Class} {X : Sort c} {m : Lexeme} → Noded c → (j : Joins c X m) (p : ℕ) (t u : Tree c) → size c (join j p t u) ≡ size c t + size c u + 1
join_size h by_comma p t u = absurd h
join_size h by_plus p t u = refl
join_size h by_minus p t u = refl
join_size h by_times p t u = refl
join_size h by_and p t u = refl
join_size h by_semicolon p t u = refl

pub join_nodes : {c : Class} {X : Sort c} {m : Lexeme} → Noded c → (j : Joins c X m) (i p : ℕ) (t u : Tree c) → nodes c i (join j p t u) ≡ nodes c i t ++ (nodes c (i + size c t) u ++ node p (kind_of j (root_of i (size c t)) (root_of (i + size c t) (size c u))) ∷ [])
join_nodes h by_comma i p t u = absurd h
join_nodes h by_plus i p t u = refl
join_nodes h by_minus i p t u = refl
join_nodes h by_times i p t u = refl
join_nodes h by_and i p t u = refl
join_nodes h by_semicolon i p t u = refl

-- at most as many nodes as a lexeme adds to two
join_adds : {c : Class} {X : Sort c} {m : Lexeme} (j : Joins c X m) (p : ℕ) (t u : Tree c) → size c (join j p t u) ≤ size c t + size c u + 1
join_adds by_comma p t u = omega arith
join_adds by_plus p t u = omega arith
join_adds by_minus p t u = omega arith
join_adds by_times p t u = omega arith
join_adds by_and p t u = omega arith
join_adds by_semicolon p t u = omega arith

-- ## Nodes and tokens

-- there is a token for each node
pub sized : {c : Class} {X : Sort c} {b : Bound} {s r : List Spot} {t : Tree c} → Derives c X b s t r → size c t + length r ≤ length s
sized (single j h) = sized h
sized (more {p} {t} {u} k j h g) = let a = sized h in let b = sized g in let n = join_adds j p t u in omega arith
sized (a_number f) = omega arith
sized (a_name f) = omega arith
sized (in_round i h) = let a = sized h in omega arith
sized a_true = omega arith
sized a_false = omega arith
sized (a_not i h) = let a = sized h in omega arith
sized (is_equal h g) = let a = sized h in let b = sized g in omega arith
sized (is_at_most h g) = let a = sized h in let b = sized g in omega arith
sized (in_square i h) = let a = sized h in omega arith
sized a_skip = omega arith
sized a_leave = omega arith
sized (an_assignment f h) = let a = sized h in omega arith
sized (an_if i h g k) = let a = sized h in let b = sized g in let n = sized k in omega arith
sized (a_while i h g) = let a = sized h in let b = sized g in omega arith
sized (a_hold i f g) = let b = sized g in omega arith
sized (a_given f) = omega arith
sized (with_given h g) = let a = sized h in let b = sized g in omega arith
sized (no_given h) = sized h

length_sum : (i : ℕ) (t : Sum) → length (sum_nodes i t) ≡ sum_size t
length_sum i (tree.number p v) = refl
length_sum i (tree.cell p c) = refl
length_sum i (tree.compute p o t u) = simp (length-append, length_sum i t, length_sum (i + sum_size t) u) (omega arith)

length_cond : (i : ℕ) (t : Cond) → length (cond_nodes i t) ≡ cond_size t
length_cond i (tree.truth p true) = refl
length_cond i (tree.truth p false) = refl
length_cond i (tree.negate p t) = simp (length-append, length_cond i t) (omega arith)
length_cond i (tree.both p t u) = simp (length-append, length_cond i t, length_cond (i + cond_size t) u) (omega arith)
length_cond i (tree.compare p r t u) = simp (length-append, length_sum i t, length_sum (i + sum_size t) u) (omega arith)

length_statement : (i : ℕ) (t : Statement) → length (statement_nodes i t) ≡ statement_size t
length_statement i (tree.skip p) = refl
length_statement i (tree.leave p) = refl
length_statement i (tree.assign p c t) = simp (length-append, length_sum i t) (omega arith)
length_statement i (tree.choose p t u v) = simp (length-append, length_cond i t, length_statement (i + cond_size t) u, length_statement (i + cond_size t + statement_size u) v) (omega arith)
length_statement i (tree.loop p t u) = simp (length-append, length_cond i t, length_statement (i + cond_size t) u) (omega arith)
length_statement i (tree.hold p k u) = simp (length-append, length_statement i u) (omega arith)
length_statement i (tree.sequence p t u) = simp (length-append, length_statement i t, length_statement (i + statement_size t) u) (omega arith)

pub length_nodes : (c : Class) (i : ℕ) (t : Tree c) → length (nodes c i t) ≡ size c t
length_nodes cells i t = refl
length_nodes sums i t = length_sum i t
length_nodes conds i t = length_cond i t
length_nodes statements i t = length_statement i t
length_nodes rules i t = length_statement i t.body

-- ## Tables

pub written_append : (i : ℕ) (a b table : List Node) → written i (a ++ b) table ≡ written (i + length a) b (written i a table)
written_append i [] b table = ap (λ n. written n b table) (omega arith)
written_append i (x ∷ a) b table = written_append (i + 1) a b (set table i x) ∙ ap (λ n. written n b (written (i + 1) a (set table i x))) (omega arith)

-- the nodes of one part and then a node
pub one_part : (c : Class) (i : ℕ) (t : Tree c) (n : Node) (old : List Node) → written i (nodes c i t ++ n ∷ []) old ≡ set (written i (nodes c i t) old) (i + size c t) n
one_part c i t n old = written_append i (nodes c i t) (n ∷ []) old ∙ ap (λ o. set (written i (nodes c i t) old) (i + o) n) (length_nodes c i t)

-- of two parts
pub two_parts : (c e : Class) (i : ℕ) (t : Tree c) (u : Tree e) (n : Node) (old : List Node) → written i (nodes c i t ++ (nodes e (i + size c t) u ++ n ∷ [])) old ≡ set (written (i + size c t) (nodes e (i + size c t) u) (written i (nodes c i t) old)) (i + size c t + size e u) n
two_parts c e i t u n old =
    written_append i (nodes c i t) (nodes e (i + size c t) u ++ n ∷ []) old
    ∙ ap (λ o. written (i + o) (nodes e (i + size c t) u ++ n ∷ []) (written i (nodes c i t) old)) (length_nodes c i t)
    ∙ one_part e (i + size c t) u n (written i (nodes c i t) old)

-- of three
pub three_parts : (c e f : Class) (i : ℕ) (t : Tree c) (u : Tree e) (v : Tree f) (n : Node) (old : List Node) → written i (nodes c i t ++ (nodes e (i + size c t) u ++ (nodes f (i + size c t + size e u) v ++ n ∷ []))) old ≡ set (written (i + size c t + size e u) (nodes f (i + size c t + size e u) v) (written (i + size c t) (nodes e (i + size c t) u) (written i (nodes c i t) old))) (i + size c t + size e u + size f v) n
three_parts c e f i t u v n old =
    written_append i (nodes c i t) (nodes e (i + size c t) u ++ (nodes f (i + size c t + size e u) v ++ n ∷ [])) old
    ∙ ap (λ o. written (i + o) (nodes e (i + size c t) u ++ (nodes f (i + size c t + size e u) v ++ n ∷ [])) (written i (nodes c i t) old)) (length_nodes c i t)
    ∙ two_parts e f (i + size c t) u v n (written i (nodes c i t) old)

-- ## Nodes after their parts

-- a part of e, read from i on with its root at l, leaves the table mid
pub record Read (e : Class) (i j l : ℕ) (t : Tree e) (old mid : List Node) : Type 0 where
  pub counted : j ≡ i + size e t
  pub rooted : l ≡ root_of i (size e t)
  pub table : mid ≡ written i (nodes e i t) old

-- a node with one part
pub one_node : (c : Class) (p : ℕ) {e : Class} {i j l : ℕ} {old mid : List Node} (t : Tree e) (u : Tree c) (made : ℕ → Kind) → nodes c i u ≡ nodes e i t ++ node p (made (root_of i (size e t))) ∷ [] → Read e i j l t old mid → set mid j (node p (made l)) ≡ written i (nodes c i u) old
one_node c p {e} {i} {old} t u made flat h =
    (λ k. set (h.table k) (h.counted k) (node p (made (h.rooted k)))) ∙ sym (ap (λ l. written i l old) flat ∙ one_part e i t (node p (made (root_of i (size e t)))) old)

-- with two
pub two_nodes : (c : Class) (p : ℕ) {e f : Class} {i j n l r : ℕ} {old mid last : List Node} (t : Tree e) (v : Tree f) (u : Tree c) (made : ℕ → ℕ → Kind) → nodes c i u ≡ nodes e i t ++ (nodes f (i + size e t) v ++ node p (made (root_of i (size e t)) (root_of (i + size e t) (size f v))) ∷ []) → Read e i j l t old mid → Read f j n r v mid last → set last n (node p (made l r)) ≡ written i (nodes c i u) old
two_nodes c p {e} {f} {i} {j} {n} {l} {r} {old} {mid} {last} t v u made flat g h =
    let is_j = g.counted in
    let is_n : n ≡ i + size e t + size f v = h.counted ∙ ap (λ o. o + size f v) is_j in
    let is_r : r ≡ root_of (i + size e t) (size f v) = h.rooted ∙ ap (λ o. root_of o (size f v)) is_j in
    let is_last : last ≡ written (i + size e t) (nodes f (i + size e t) v) (written i (nodes e i t) old) = h.table ∙ (λ k. written (is_j k) (nodes f (is_j k) v) (g.table k)) in
    (λ k. set (is_last k) (is_n k) (node p (made (g.rooted k) (is_r k)))) ∙ sym (ap (λ l. written i l old) flat ∙ two_parts e f i t v (node p (made (root_of i (size e t)) (root_of (i + size e t) (size f v)))) old)

-- with three
pub three_nodes : (c : Class) (p : ℕ) {e f g : Class} {i j n m l r w : ℕ} {old mid last end : List Node} (t : Tree e) (v : Tree f) (x : Tree g) (u : Tree c) (made : ℕ → ℕ → ℕ → Kind) → nodes c i u ≡ nodes e i t ++ (nodes f (i + size e t) v ++ (nodes g (i + size e t + size f v) x ++ node p (made (root_of i (size e t)) (root_of (i + size e t) (size f v)) (root_of (i + size e t + size f v) (size g x))) ∷ [])) → Read e i j l t old mid → Read f j n r v mid last → Read g n m w x last end → set end m (node p (made l r w)) ≡ written i (nodes c i u) old
three_nodes c p {e} {f} {g} {i} {j} {n} {m} {l} {r} {w} {old} {mid} {last} {end} t v x u made flat a b d =
    let is_j = a.counted in
    let is_n : n ≡ i + size e t + size f v = b.counted ∙ ap (λ o. o + size f v) is_j in
    let is_m : m ≡ i + size e t + size f v + size g x = d.counted ∙ ap (λ o. o + size g x) is_n in
    let is_r : r ≡ root_of (i + size e t) (size f v) = b.rooted ∙ ap (λ o. root_of o (size f v)) is_j in
    let is_w : w ≡ root_of (i + size e t + size f v) (size g x) = d.rooted ∙ ap (λ o. root_of o (size g x)) is_n in
    let is_last : last ≡ written (i + size e t) (nodes f (i + size e t) v) (written i (nodes e i t) old) = b.table ∙ (λ k. written (is_j k) (nodes f (is_j k) v) (a.table k)) in
    let is_end : end ≡ written (i + size e t + size f v) (nodes g (i + size e t + size f v) x) (written (i + size e t) (nodes f (i + size e t) v) (written i (nodes e i t) old)) = d.table ∙ (λ k. written (is_n k) (nodes g (is_n k) x) (is_last k)) in
    (λ k. set (is_end k) (is_m k) (node p (made (a.rooted k) (is_r k) (is_w k)))) ∙ sym (ap (λ l. written i l old) flat ∙ three_parts e f g i t v x (node p (made (root_of i (size e t)) (root_of (i + size e t) (size f v)) (root_of (i + size e t + size f v) (size g x)))) old)
