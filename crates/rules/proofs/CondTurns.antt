-- The turns of the readers of conds and primes.
use Rattle.std.proofs.Common.{◌≡◌, ℕ, ◌+◌, Bool, true, false, cond, List, ◌∷◌, length, set, Some, None, Option, sym, refl, ap, ◌∙◌, subst, arith}
use Rattle.tokens.specs.Lexemes.{same_lexeme}
use Rattle.tokens.specs.Tokens.{Spot, fixed, at, tokens_from}
use Rattle.tokens.specs.Lexing.{symbol, with_token, lexeme_of, is_lexeme}
use Rattle.tokens.specs.declared.lexeme.Lexeme.{Lexeme}
use Rattle.tokens.specs.declared.lexeme.Lexeme.TheVariants as lexeme
use Rattle.tokens.specs.declared.token.Token.{Token}
use Rattle.tokens.specs.declared.token.Token.TheVariants as token
use Rattle.grammar.specs.Trees.{Relation, Sum}
use Rattle.grammar.specs.Trees as tree
use Rattle.grammar.specs.Grammar.{sums, conds, Bound, within, sum, prime, Derives, a_true, a_false, a_not, is_equal, is_at_most, in_square}
use Rattle.grammar.specs.Grammar as grammar
use Rattle.grammar.specs.Automaton.{Need, need, this, compared, Move, stop, go, when, begin_comparison, step, moved, judge}
use Rattle.rules.specs.Nodes.{node, comparison, nodes, written}
use Rattle.rules.specs.Readers.{comparer_of, operator_kind, Compares, text_of, names_in, rest, Past, Wrote, Leaf, verdict, WholeOf, table_in}
use Rattle.rules.specs.declared.chain.Operator.{Operator}
use Rattle.rules.specs.declared.chain.Operator.TheVariants.{Equal, AtMost}
use Rattle.rules.specs.declared.node.Kind.TheVariants as kind
use Rattle.rules.specs.declared.node.Kind.{Kind}
use Rattle.rules.specs.declared.reader.Reader.{Reader}
use Rattle.rules.proofs.Sizes.{one_node, two_nodes}
use Rattle.rules.proofs.Turns.{◌>>◌, Stops, onward, inside_of, opens, expected, wrote_verdict, got, part, leaf}

-- ## Truths

pub true_read : {d root : ℕ} {r o : Reader} → Leaf (fixed lexeme.True) kind.True r o root → WholeOf prime d r o root
true_read {r = r} l = leaf prime (fixed lexeme.True) (tree.truth r.current.place true) (node r.current.place kind.True) (λ z. a_true) (λ k. refl) refl refl l.past l.wrote l.number

pub false_read : {d root : ℕ} {r o : Reader} → Leaf (fixed lexeme.False) kind.False r o root → WholeOf prime d r o root
false_read {r = r} l = leaf prime (fixed lexeme.False) (tree.truth r.current.place false) (node r.current.place kind.False) (λ z. a_false) (λ k. refl) refl refl l.past l.wrote l.number

-- ## `not` and square brackets

pub negated : (d e : ℕ) {r q : Reader} → d ≡ e + 1 → Past (fixed lexeme.Not) r q → (k : List Need) → verdict r (need prime (within d) ∷ k) ≡ verdict q (need prime (within e) ∷ k)
negated d e = opens prime lexeme.Not d e (λ b k. need prime b ∷ k) (λ k. refl)

pub not_read : {d e l root p : ℕ} {r q1 q2 o : Reader} → d ≡ e + 1 → Past (fixed lexeme.Not) r q1 → WholeOf prime e q1 q2 l → p ≡ r.current.place → Wrote (node p (kind.Not l)) q2 o → root ≡ q2.count → WholeOf prime d r o root
not_read {d} {e} {l} {root} {p} {r} {q1} {q2} {o} h first g is wrote at-root =
    let t = g.tree in
    got (tree.negate r.current.place t)
    (subst (λ s. Derives conds prime (within d) s (tree.negate r.current.place t) (rest o)) (sym first.spot) (a_not (inside_of d e h) (subst (λ s. Derives conds prime (within e) (rest q1) t s) (sym wrote.rest_stays) g.derived)))
    (let a = first.count in let b = wrote.count in let n = g.counted in omega arith)
    (let b = wrote.count in omega arith)
    (wrote.table ∙ ap (λ o. set (table_in q2) q2.count (node o (kind.Not l))) is ∙ one_node conds r.current.place t (tree.negate r.current.place t) kind.Not refl (part first.count first.table refl refl g))
    (first.along >> g.along >> wrote.along)
    (λ k. negated d e h first k ∙ g.goes k ∙ wrote_verdict wrote k)

pub squared : (d e : ℕ) {r q : Reader} → d ≡ e + 1 → Past (fixed lexeme.OpenSquare) r q → (k : List Need) → verdict r (need prime (within d) ∷ k) ≡ verdict q (need grammar.cond (within e) ∷ this lexeme.CloseSquare ∷ k)
squared d e = opens prime lexeme.OpenSquare d e (λ b k. need grammar.cond b ∷ this lexeme.CloseSquare ∷ k) (λ k. refl)

pub square : {d e root : ℕ} {r q1 q2 q3 : Reader} → d ≡ e + 1 → Past (fixed lexeme.OpenSquare) r q1 → WholeOf grammar.cond e q1 q2 root → Past (fixed lexeme.CloseSquare) q2 q3 → WholeOf prime d r q3 root
square {d} {e} {root} {r} {q1} {q2} {q3} h first g last =
    let t = g.tree in
    got t (subst (λ s. Derives conds prime (within d) s t (rest q3)) (sym first.spot) (in_square (inside_of d e h) (subst (λ s. Derives conds grammar.cond (within e) (rest q1) t s) last.spot g.derived)))
    (let a = first.count in let b = last.count in let n = g.counted in omega arith)
    (let b = last.count in let n = g.rooted in omega arith)
    (last.table ∙ g.table ∙ (λ k. written (first.count k) (nodes conds (first.count k) t) (first.table k)))
    (first.along >> g.along >> last.along)
    (λ k. squared d e h first k ∙ g.goes (this lexeme.CloseSquare ∷ k) ∙ expected last k)

-- ## Comparisons

falls : (a b c d : Bool) (v w x y z : Move) → false ≡ a → false ≡ b → false ≡ c → false ≡ d → when a v (when b w (when c x (when d y z))) ≡ z
falls a b c d v w x y z e f g h = (λ k. when (sym e k) v (when (sym f k) w (when (sym g k) x (when (sym h k) y z))))

as_sum_token : (b : Bound) (t : Token) (names : List (List ℕ)) (fin p i : ℕ) (text : List ℕ) (k : List Need) → Compares (lexeme_of t) → judge fin (with_token names p t i text) (need prime b ∷ k) ≡ judge fin (with_token names p t i text) (need sum b ∷ compared b ∷ k)
as_sum_token b (token.Name w) names fin p i text k h = refl
as_sum_token b (token.Number w) names fin p i text k h = refl
as_sum_token b (token.Keyword m w) names fin p i text k h = ap (λ v. moved p v (judge fin (tokens_from names i text))) (falls _ _ _ _ _ _ _ _ (begin_comparison (fixed m) b k) h.0 h.1 h.2 h.3)
as_sum_token b (token.Sign m) names fin p i text k h = ap (λ v. moved p v (judge fin (tokens_from names i text))) (falls _ _ _ _ _ _ _ _ (begin_comparison (fixed m) b k) h.0 h.1 h.2 h.3)
as_sum_token b token.Stray names fin p i text k h = refl
as_sum_token b token.EndOfText names fin p i text k h = refl

-- a prime that begins so begins with a sum
pub as_sum : (d : ℕ) (r : Reader) → Compares (lexeme_of r.current.token) → (k : List Need) → verdict r (need prime (within d) ∷ k) ≡ verdict r (need sum (within d) ∷ compared (within d) ∷ k)
as_sum d r h k = as_sum_token (within d) r.current.token (names_in r) (length (text_of r)) r.current.place r.current.end (text_of r) k h

-- the lexeme that compares
pub data Chosen : Lexeme → Operator → Type 0 where
  by_equal : Chosen lexeme.Equal Equal
  by_at_most : Chosen lexeme.AtMost AtMost

pub chosen : (o : Option Lexeme) (c : Operator) → Some c ≡ comparer_of o → (m : Lexeme) × Chosen m c × (true ≡ is_lexeme o m)
chosen None c h = let z : ◌≡◌ {A = ℕ} 0 1 = cc in absurd (omega arith)
chosen (Some m) c h = either (same_lexeme m lexeme.Equal) (same_lexeme m lexeme.AtMost) refl refl h
  where
    either : (a b : Bool) → same_lexeme m lexeme.Equal ≡ a → same_lexeme m lexeme.AtMost ≡ b → Some c ≡ cond a (Some Equal) (cond b (Some AtMost) None) → (n : Lexeme) × Chosen n c × (true ≡ is_lexeme (Some m) n)
    either true b e f h = let is : Equal ≡ c = cc in (lexeme.Equal, subst (Chosen lexeme.Equal) is by_equal, sym e)
    either false true e f h = let is : AtMost ≡ c = cc in (lexeme.AtMost, subst (Chosen lexeme.AtMost) is by_at_most, sym f)
    either false false e f h = let z : ◌≡◌ {A = ℕ} 0 1 = cc in absurd (omega arith)

no_comparer_lexeme : (b : Bound) (m : Lexeme) (k : List Need) → None ≡ comparer_of (Some m) → step (fixed m) (compared b ∷ k) ≡ stop
no_comparer_lexeme b m k h = neither (same_lexeme m lexeme.Equal) (same_lexeme m lexeme.AtMost) h
  where
    neither : (p q : Bool) → None ≡ cond p (Some Equal) (cond q (Some AtMost) None) → when p (go (need sum b ∷ k)) (when q (go (need sum b ∷ k)) stop) ≡ stop
    neither true q h = let z : ◌≡◌ {A = ℕ} 0 1 = cc in absurd (omega arith)
    neither false true h = let z : ◌≡◌ {A = ℕ} 0 1 = cc in absurd (omega arith)
    neither false false h = refl

pub no_comparer : (b : Bound) (t : Token) (names : List (List ℕ)) (k : List Need) → None ≡ comparer_of (lexeme_of t) → Stops (symbol names t) (compared b ∷ k)
no_comparer b (token.Name w) names k h = refl
no_comparer b (token.Number w) names k h = refl
no_comparer b (token.Keyword m w) names k h = no_comparer_lexeme b m k h
no_comparer b (token.Sign m) names k h = no_comparer_lexeme b m k h
no_comparer b token.Stray names k h = refl
no_comparer b token.EndOfText names k h = refl

compared_step : {m : Lexeme} {c : Operator} → Chosen m c → (b : Bound) (k : List Need) → step (fixed m) (compared b ∷ k) ≡ go (need sum b ∷ k)
compared_step by_equal b k = refl
compared_step by_at_most b k = refl

pub compared_goes : (d : ℕ) {m : Lexeme} {c : Operator} {r q : Reader} → Chosen m c → Past (fixed m) r q → (k : List Need) → verdict r (compared (within d) ∷ k) ≡ verdict q (need sum (within d) ∷ k)
compared_goes d c past k = onward (compared (within d) ∷ k) (need sum (within d) ∷ k) past (compared_step c (within d) k)

relation : {m : Lexeme} {c : Operator} → Chosen m c → Relation
relation by_equal = tree.equal
relation by_at_most = tree.at_most

compares : {m : Lexeme} {c : Operator} {b : Bound} {p : ℕ} {s r q : List Spot} {t u : Sum} → (by : Chosen m c) → Derives sums sum b s t (at p (fixed m) ∷ r) → Derives sums sum b r u q → Derives conds prime b s (tree.compare p (relation by) t u) q
unfolding relation
compares by_equal h g = is_equal h g
compares by_at_most h g = is_at_most h g

compares_kind : {m : Lexeme} {c : Operator} (by : Chosen m c) (l r : ℕ) → comparison (relation by) l r ≡ operator_kind c l r
unfolding relation
compares_kind by_equal l r = refl
compares_kind by_at_most l r = refl

pub compare_read : {d l right root p : ℕ} {m : Lexeme} {c : Operator} {made : Kind} {r q1 q2 q3 o : Reader} → Compares (lexeme_of r.current.token) → WholeOf sum d r q1 l → Chosen m c → Past (fixed m) q1 q2 → p ≡ q1.current.place → WholeOf sum d q2 q3 right → made ≡ operator_kind c l right → Wrote (node p made) q3 o → root ≡ q3.count → WholeOf prime d r o root
compare_read {d} {l} {right} {root} {p} {m} {c} {made} {r} {q1} {q2} {q3} {o} begins g by past is h is_made wrote at-root =
    let t = g.tree in
    let u = h.tree in
    let w = tree.compare q1.current.place (relation by) t u in
    got w
    (compares by (subst (λ s. Derives sums sum (within d) (rest r) t s) past.spot g.derived) (subst (λ s. Derives sums sum (within d) (rest q2) u s) (sym wrote.rest_stays) h.derived))
    (let a = past.count in let b = wrote.count in let n = g.counted in let v = h.counted in omega arith)
    (let b = wrote.count in omega arith)
    (wrote.table ∙ (λ k. set (table_in q3) q3.count (node (is k) ((is_made ∙ sym (compares_kind by l right)) k))) ∙ two_nodes conds q1.current.place t u w (comparison (relation by)) refl (part refl refl refl refl g) (part past.count past.table refl refl h))
    (g.along >> past.along >> h.along >> wrote.along)
    (λ k. as_sum d r begins k ∙ g.goes (compared (within d) ∷ k) ∙ compared_goes d by past k ∙ h.goes k ∙ wrote_verdict wrote k)
