-- The turns of the readers of lists and statements.
use Rattle.std.proofs.Common.{◌≡◌, ℕ, ◌+◌, true, leb, List, ◌∷◌, set, sym, refl, ap, ◌∙◌, subst, arith}
use Rattle.tokens.specs.Tokens.{name, number, fixed, at}
use Rattle.tokens.specs.declared.lexeme.Lexeme.TheVariants as lexeme
use Rattle.grammar.specs.Trees as tree
use Rattle.grammar.specs.Grammar.{sums, conds, statements, Bound, within, sum, cond, statement, list, Derives, a_skip, a_leave, an_assignment, an_if, a_while, a_hold}
use Rattle.grammar.specs.Automaton.{Need, need, this, latch, over, go, when}
use Rattle.rules.specs.Nodes.{node}
use Rattle.rules.specs.Readers.{rest, Past, Wrote, Leaf, Named, verdict, WholeOf, table_in}
use Rattle.rules.specs.declared.node.Kind.TheVariants as kind
use Rattle.rules.specs.declared.reader.Reader.{Reader}
use Rattle.rules.proofs.Sizes.{one_node, two_nodes, three_nodes}
use Rattle.rules.proofs.Turns.{◌>>◌, onward, inside_of, opens, expected, wrote_verdict, got, part, leaf}

-- ## `skip` and `leave`

pub skip_read : {d root : ℕ} {r o : Reader} → Leaf (fixed lexeme.Skip) kind.Skip r o root → WholeOf statement d r o root
skip_read {r = r} l = leaf statement (fixed lexeme.Skip) (tree.skip r.current.place) (node r.current.place kind.Skip) (λ z. a_skip) (λ k. refl) refl refl l.past l.wrote l.number

pub leave_read : {d root : ℕ} {r o : Reader} → Leaf (fixed lexeme.Leave) kind.Leave r o root → WholeOf statement d r o root
leave_read {r = r} l = leaf statement (fixed lexeme.Leave) (tree.leave r.current.place) (node r.current.place kind.Leave) (λ z. a_leave) (λ k. refl) refl refl l.past l.wrote l.number

-- ## Assignments

pub assign_read : {d l root cell : ℕ} {r q1 q2 q3 o : Reader} → Named cell r q1 → Past (fixed lexeme.Becomes) q1 q2 → WholeOf sum d q2 q3 l → Wrote (node r.current.place (kind.Assign cell l)) q3 o → root ≡ q3.count → WholeOf statement d r o root
assign_read {d} {l} {root} {cell} {r} {q1} {q2} {q3} {o} n becomes g wrote at-root =
    let t = g.tree in
    let first = n.past in
    let w = tree.assign r.current.place cell t in
    got w
    (subst (λ s. Derives statements statement (within d) s w (rest o)) (sym (first.spot ∙ ap (λ s. at r.current.place (name n.word cell) ∷ s) becomes.spot)) (an_assignment n.fits (subst (λ s. Derives sums sum (within d) (rest q2) t s) (sym wrote.rest_stays) g.derived)))
    (let a = first.count in let e = becomes.count in let b = wrote.count in let m = g.counted in omega arith)
    (let b = wrote.count in omega arith)
    (wrote.table ∙ one_node statements r.current.place t w (kind.Assign cell) refl (part (becomes.count ∙ first.count) (becomes.table ∙ first.table) refl refl g))
    (first.along >> becomes.along >> g.along >> wrote.along)
    (λ k. onward (need statement (within d) ∷ k) (this lexeme.Becomes ∷ need sum (within d) ∷ k) first (ap (λ b. when b (go (this lexeme.Becomes ∷ need sum (within d) ∷ k)) over) n.fits) ∙ expected becomes (need sum (within d) ∷ k) ∙ g.goes k ∙ wrote_verdict wrote k)

-- ## What is needed after the lexemes of `if`, `while` and `hold`

abbrev pub after_second : List Need → List Need
after_second k = this lexeme.End ∷ k

abbrev pub after_first : Bound → List Need → List Need
after_first b k = this lexeme.Else ∷ need list b ∷ after_second k

abbrev pub after_test : Bound → List Need → List Need
after_test b k = this lexeme.Then ∷ need list b ∷ after_first b k

abbrev pub loop_body : Bound → List Need → List Need
loop_body b k = need list b ∷ this lexeme.End ∷ k

pub chooses : (d e : ℕ) {r q : Reader} → d ≡ e + 1 → Past (fixed lexeme.If) r q → (k : List Need) → verdict r (need statement (within d) ∷ k) ≡ verdict q (need cond (within e) ∷ after_test (within e) k)
chooses d e = opens statement lexeme.If d e (λ b k. need cond b ∷ after_test b k) (λ k. refl)

pub repeats : (d e : ℕ) {r q : Reader} → d ≡ e + 1 → Past (fixed lexeme.While) r q → (k : List Need) → verdict r (need statement (within d) ∷ k) ≡ verdict q (need cond (within e) ∷ this lexeme.Do ∷ loop_body (within e) k)
repeats d e = opens statement lexeme.While d e (λ b k. need cond b ∷ this lexeme.Do ∷ loop_body b k) (λ k. refl)

pub holds : (d e : ℕ) {r q : Reader} → d ≡ e + 1 → Past (fixed lexeme.Hold) r q → (k : List Need) → verdict r (need statement (within d) ∷ k) ≡ verdict q (latch (within d) ∷ this lexeme.Do ∷ loop_body (within e) k)
holds d e = opens statement lexeme.Hold d e (λ b k. latch (within d) ∷ this lexeme.Do ∷ loop_body b k) (λ k. refl)

pub latched : (d : ℕ) {n : ℕ} {r q : Reader} → leb n 7 ≡ true → Past (number n) r q → (k : List Need) → verdict r (latch (within d) ∷ k) ≡ verdict q k
latched d h past k = onward (latch (within d) ∷ k) k past (ap (λ b. when b (go k) over) h)

-- ## `if`, `while` and `hold`

pub if_read : {d e l x y root p : ℕ} {r q1 q2 q3 q4 q5 q6 q7 o : Reader} → d ≡ e + 1 → Past (fixed lexeme.If) r q1 → WholeOf cond e q1 q2 l → Past (fixed lexeme.Then) q2 q3 → WholeOf list e q3 q4 x → Past (fixed lexeme.Else) q4 q5 → WholeOf list e q5 q6 y → Past (fixed lexeme.End) q6 q7 → p ≡ r.current.place → Wrote (node p (kind.If l x y)) q7 o → root ≡ q7.count → WholeOf statement d r o root
if_read {d} {e} {l} {x} {y} {root} {p} {r} {q1} {q2} {q3} {q4} {q5} {q6} {q7} {o} h first g then-past a else-past b end-past is wrote at-root =
    let t = g.tree in
    let u = a.tree in
    let v = b.tree in
    let w = tree.choose r.current.place t u v in
    got w
    (subst (λ s. Derives statements statement (within d) s w (rest o)) (sym first.spot) (subst (λ s. Derives statements statement (within d) (at r.current.place (fixed lexeme.If) ∷ rest q1) w s) (sym wrote.rest_stays) (an_if (inside_of d e h) (subst (λ s. Derives conds cond (within e) (rest q1) t s) then-past.spot g.derived) (subst (λ s. Derives statements list (within e) (rest q3) u s) else-past.spot a.derived) (subst (λ s. Derives statements list (within e) (rest q5) v s) end-past.spot b.derived))))
    (let c0 = first.count in let c1 = g.counted in let c2 = then-past.count in let c3 = a.counted in let c4 = else-past.count in let c5 = b.counted in let c6 = end-past.count in let c7 = wrote.count in omega arith)
    (let c7 = wrote.count in omega arith)
    (wrote.table ∙ ap (λ o. set (table_in q7) q7.count (node o (kind.If l x y))) is ∙ three_nodes statements r.current.place t u v w kind.If refl (part first.count first.table refl refl g) (part then-past.count then-past.table refl refl a) (part else-past.count else-past.table end-past.count end-past.table b))
    (first.along >> g.along >> then-past.along >> a.along >> else-past.along >> b.along >> end-past.along >> wrote.along)
    (λ k. chooses d e h first k ∙ g.goes (after_test (within e) k) ∙ expected then-past (need list (within e) ∷ after_first (within e) k) ∙ a.goes (after_first (within e) k) ∙ expected else-past (need list (within e) ∷ after_second k) ∙ b.goes (after_second k) ∙ expected end-past k ∙ wrote_verdict wrote k)

pub while_read : {d e l x root p : ℕ} {r q1 q2 q3 q4 q5 o : Reader} → d ≡ e + 1 → Past (fixed lexeme.While) r q1 → WholeOf cond e q1 q2 l → Past (fixed lexeme.Do) q2 q3 → WholeOf list e q3 q4 x → Past (fixed lexeme.End) q4 q5 → p ≡ r.current.place → Wrote (node p (kind.While l x)) q5 o → root ≡ q5.count → WholeOf statement d r o root
while_read {d} {e} {l} {x} {root} {p} {r} {q1} {q2} {q3} {q4} {q5} {o} h first g do-past a end-past is wrote at-root =
    let t = g.tree in
    let u = a.tree in
    let w = tree.loop r.current.place t u in
    got w
    (subst (λ s. Derives statements statement (within d) s w (rest o)) (sym first.spot) (subst (λ s. Derives statements statement (within d) (at r.current.place (fixed lexeme.While) ∷ rest q1) w s) (sym wrote.rest_stays) (a_while (inside_of d e h) (subst (λ s. Derives conds cond (within e) (rest q1) t s) do-past.spot g.derived) (subst (λ s. Derives statements list (within e) (rest q3) u s) end-past.spot a.derived))))
    (let c0 = first.count in let c1 = g.counted in let c2 = do-past.count in let c3 = a.counted in let c6 = end-past.count in let c7 = wrote.count in omega arith)
    (let c7 = wrote.count in omega arith)
    (wrote.table ∙ ap (λ o. set (table_in q5) q5.count (node o (kind.While l x))) is ∙ two_nodes statements r.current.place t u w kind.While refl (part first.count first.table refl refl g) (part do-past.count do-past.table end-past.count end-past.table a))
    (first.along >> g.along >> do-past.along >> a.along >> end-past.along >> wrote.along)
    (λ k. repeats d e h first k ∙ g.goes (this lexeme.Do ∷ loop_body (within e) k) ∙ expected do-past (loop_body (within e) k) ∙ a.goes (this lexeme.End ∷ k) ∙ expected end-past k ∙ wrote_verdict wrote k)

pub hold_read : {d e n x root p : ℕ} {r q1 q2 q3 q4 q5 o : Reader} → d ≡ e + 1 → Past (fixed lexeme.Hold) r q1 → leb n 7 ≡ true → Past (number n) q1 q2 → Past (fixed lexeme.Do) q2 q3 → WholeOf list e q3 q4 x → Past (fixed lexeme.End) q4 q5 → p ≡ r.current.place → Wrote (node p (kind.Hold n x)) q5 o → root ≡ q5.count → WholeOf statement d r o root
hold_read {d} {e} {n} {x} {root} {p} {r} {q1} {q2} {q3} {q4} {q5} {o} h first fits latch-past do-past a end-past is wrote at-root =
    let u = a.tree in
    let w = tree.hold r.current.place n u in
    got w
    (subst (λ s. Derives statements statement (within d) s w (rest o)) (sym (first.spot ∙ ap (λ s. at r.current.place (fixed lexeme.Hold) ∷ s) (latch-past.spot ∙ ap (λ s. at q1.current.place (number n) ∷ s) do-past.spot))) (subst (λ s. Derives statements statement (within d) (at r.current.place (fixed lexeme.Hold) ∷ at q1.current.place (number n) ∷ at q2.current.place (fixed lexeme.Do) ∷ rest q3) w s) (sym wrote.rest_stays) (a_hold (inside_of d e h) fits (subst (λ s. Derives statements list (within e) (rest q3) u s) end-past.spot a.derived))))
    (let c0 = first.count in let c1 = latch-past.count in let c2 = do-past.count in let c3 = a.counted in let c6 = end-past.count in let c7 = wrote.count in omega arith)
    (let c7 = wrote.count in omega arith)
    (wrote.table ∙ ap (λ o. set (table_in q5) q5.count (node o (kind.Hold n x))) is ∙ one_node statements r.current.place u w (kind.Hold n) refl (part (do-past.count ∙ latch-past.count ∙ first.count) (do-past.table ∙ latch-past.table ∙ first.table) end-past.count end-past.table a))
    (first.along >> latch-past.along >> do-past.along >> a.along >> end-past.along >> wrote.along)
    (λ k. holds d e h first k ∙ latched d fits latch-past (this lexeme.Do ∷ loop_body (within e) k) ∙ expected do-past (loop_body (within e) k) ∙ a.goes (this lexeme.End ∷ k) ∙ expected end-past k ∙ wrote_verdict wrote k)
