-- The turns of the readers of sums, terms and factors.
use Rattle.std.proofs.Common.{◌≡◌, ℕ, ◌+◌, ◌^◌, true, ltb, List, [], ◌∷◌, ℤ, pos, sym, refl, ap, ◌∙◌, subst, arith}
use Rattle.tokens.specs.Tokens.{name, number, fixed}
use Rattle.tokens.specs.declared.lexeme.Lexeme.TheVariants as lexeme
use Rattle.grammar.specs.Trees as tree
use Rattle.grammar.specs.Grammar.{sums, within, sum, factor, Derives, a_number, a_name, in_round}
use Rattle.grammar.specs.Automaton.{Need, need, this, over, go, when}
use Rattle.rules.specs.Nodes.{node, nodes, written}
use Rattle.rules.specs.Readers.{rest, Past, Wrote, Named, verdict, WholeOf}
use Rattle.rules.specs.declared.node.Kind.TheVariants as kind
use Rattle.rules.specs.declared.reader.Reader.{Reader}
use Rattle.rules.proofs.Turns.{◌>>◌, inside_of, opens, expected, got, leaf}

-- ## Numbers and names

pub number_read : {d root n : ℕ} {v : ℤ} {r q o : Reader} → v ≡ pos n → ltb n (2 ^ 63) ≡ true → Past (number n) r q → Wrote (node r.current.place (kind.Number v)) q o → root ≡ q.count → WholeOf factor d r o root
number_read {n} {v} {r} is fits past wrote at-root = leaf factor (number n) (tree.number r.current.place (pos n)) (node r.current.place (kind.Number v)) (λ z. a_number fits) (λ k. ap (λ b. when b (go k) over) fits) refl (ap (λ z. node r.current.place (kind.Number z) ∷ []) (sym is)) past wrote at-root

pub name_read : {d root cell : ℕ} {r q o : Reader} → Named cell r q → Wrote (node r.current.place (kind.Cell cell)) q o → root ≡ q.count → WholeOf factor d r o root
name_read {cell} {r} n wrote at-root = leaf factor (name n.word cell) (tree.cell r.current.place cell) (node r.current.place (kind.Cell cell)) (λ z. a_name n.fits) (λ k. ap (λ b. when b (go k) over) n.fits) refl refl n.past wrote at-root

-- ## Round brackets

pub opened : (d e : ℕ) {r q : Reader} → d ≡ e + 1 → Past (fixed lexeme.Open) r q → (k : List Need) → verdict r (need factor (within d) ∷ k) ≡ verdict q (need sum (within e) ∷ this lexeme.Close ∷ k)
opened d e = opens factor lexeme.Open d e (λ b k. need sum b ∷ this lexeme.Close ∷ k) (λ k. refl)

pub round : {d e root : ℕ} {r q1 q2 q3 : Reader} → d ≡ e + 1 → Past (fixed lexeme.Open) r q1 → WholeOf sum e q1 q2 root → Past (fixed lexeme.Close) q2 q3 → WholeOf factor d r q3 root
round {d} {e} {root} {r} {q1} {q2} {q3} h first g last =
    let t = g.tree in
    got t (subst (λ s. Derives sums factor (within d) s t (rest q3)) (sym first.spot) (in_round (inside_of d e h) (subst (λ s. Derives sums sum (within e) (rest q1) t s) last.spot g.derived)))
    (let a = first.count in let b = last.count in let n = g.counted in omega arith)
    (let b = last.count in let n = g.rooted in omega arith)
    (last.table ∙ g.table ∙ (λ k. written (first.count k) (nodes sums (first.count k) t) (first.table k)))
    (first.along >> g.along >> last.along)
    (λ k. opened d e h first k ∙ g.goes (this lexeme.Close ∷ k) ∙ expected last k)
