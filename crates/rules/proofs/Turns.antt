-- The turns of the readers: what a token does, and how readings of parts make the reading of a whole.
use Rattle.std.proofs.Common.{◌≡◌, ℕ, zero, suc, ◌+◌, false, List, [], ◌∷◌, ◌++◌, length, set, Some, None, Option, sym, refl, ap, ◌∙◌, subst, arith}
use Rattle.tokens.specs.Lexemes.{same_lexeme}
use Rattle.tokens.specs.Tokens.{Symbol, fixed, Spot, at, names_with, tokens_from}
use Rattle.tokens.specs.Lexing.{symbol, placed, with_token, lexeme_of, is_lexeme}
use Rattle.tokens.specs.declared.lexeme.Lexeme.{Lexeme}
use Rattle.tokens.specs.declared.token.Token.{Token}
use Rattle.tokens.specs.declared.token.Token.TheVariants as token
use Rattle.tokens.proofs.Lexemes.{same_self}
use Rattle.grammar.specs.Grammar.{Class, Tree, Sort, Bound, within, inside, Joined, joined_names, joined_sum, joined_term, joined_cond, joined_list, Joins, by_comma, by_plus, by_minus, by_times, by_and, by_semicolon, join, Derives, single, more}
use Rattle.grammar.specs.Automaton.{Need, need, tail, this, Move, stop, go, when, deeper, joined, step, may_end, Verdict, misfit, at_end, moved, judge}
use Rattle.grammar.proofs.Unique.{sized as fewer}
use Rattle.rules.specs.Nodes.{node, size, nodes, written}
use Rattle.rules.specs.Readers.{text_of, names_in, rest, current, Past, Wrote, said, verdict, Got, WholeOf, PartOf, table_in, Along}
use Rattle.rules.specs.declared.fault.Fault.TheVariants.{Misfit}
use Rattle.rules.specs.declared.node.Kind.{Kind}
use Rattle.rules.specs.declared.node.Node.{Node}
use Rattle.rules.specs.declared.reader.Reader.{Reader}
use Rattle.rules.proofs.Sizes.{Noded, kind_of, join_size, join_nodes, sized, Read, two_nodes}

-- ## What the current token does

-- no token, or one that does not fit what is needed
abbrev pub Stops : Option Symbol → List Need → Type 0
Stops None k = may_end k ≡ false
Stops (Some x) k = step x k ≡ stop

no_symbol : (t : Token) (names : List (List ℕ)) → symbol names t ≡ None → t ≡ token.EndOfText
no_symbol (token.Name w) names h = let z : ◌≡◌ {A = ℕ} 0 1 = cc in absurd (omega arith)
no_symbol (token.Number w) names h = let z : ◌≡◌ {A = ℕ} 0 1 = cc in absurd (omega arith)
no_symbol (token.Keyword m w) names h = let z : ◌≡◌ {A = ℕ} 0 1 = cc in absurd (omega arith)
no_symbol (token.Sign m) names h = let z : ◌≡◌ {A = ℕ} 0 1 = cc in absurd (omega arith)
no_symbol token.Stray names h = let z : ◌≡◌ {A = ℕ} 0 1 = cc in absurd (omega arith)
no_symbol token.EndOfText names h = refl

stops_placed : (names : List (List ℕ)) (p i : ℕ) (text : List ℕ) (k : List Need) (o : Option Symbol) → (o ≡ None → p ≡ length text) → Stops o k → judge (length text) (placed names p o i text) k ≡ misfit p
stops_placed names p i text k None e h = ap (at_end (length text)) h ∙ ap misfit (sym (e refl))
stops_placed names p i text k (Some x) e h = ap (λ v. moved p v (judge (length text) (tokens_from (names_with names x) i text))) h

pub misfits : (r : Reader) (k : List Need) → Stops (current r) k → verdict r k ≡ said (Misfit r.current.place)
misfits r k h = stops_placed (names_in r) r.current.place r.current.end (text_of r) k (current r) (λ e. r.ended (no_symbol r.current.token (names_in r) e)) h

-- a lexeme that is none of those that join an X leaves what follows it
abbrev pub Leaves : {c : Class} → Sort c → Bound → Option Lexeme → Type 0
Leaves X b None = Unit {0}
Leaves X b (Some m) = (k : List Need) (n : Move) → joined X m b k n ≡ n

pub leaves_token : {c : Class} (X : Sort c) (b : Bound) (t : Token) (names : List (List ℕ)) (fin p i : ℕ) (text : List ℕ) (k : List Need) → Leaves X b (lexeme_of t) → judge fin (with_token names p t i text) (tail X b ∷ k) ≡ judge fin (with_token names p t i text) k
leaves_token X b (token.Name w) names fin p i text k h = refl
leaves_token X b (token.Number w) names fin p i text k h = refl
leaves_token X b (token.Keyword m w) names fin p i text k h = ap (λ v. moved p v (judge fin (tokens_from names i text))) (h k (step (fixed m) k))
leaves_token X b (token.Sign m) names fin p i text k h = ap (λ v. moved p v (judge fin (tokens_from names i text))) (h k (step (fixed m) k))
leaves_token X b token.Stray names fin p i text k h = refl
leaves_token X b token.EndOfText names fin p i text k h = refl

-- where one lexeme alone joins an X, and the token is another
pub leaves : {c : Class} (X : Sort c) (b : Bound) (m : Lexeme) (goes : List Need → Move) → ((n : Lexeme) (k : List Need) (v : Move) → joined X n b k v ≡ when (same_lexeme n m) (goes k) v) → (o : Option Lexeme) → false ≡ is_lexeme o m → Leaves X b o
leaves X b m goes h None e = tt
leaves X b m goes h (Some n) e = λ k v. h n k v ∙ ap (λ c. when c (goes k) v) (sym e)

-- a reader goes on with its text and its table
infixl 10 ◌>>◌
pub ◌>>◌ : {r q o : Reader} → Along r q → Along q o → Along r o
a >> b = record { text = b.text ∙ a.text; same_table = b.same_table ∙ a.same_table; places = b.places ∙ a.places }

-- what a token that was passed did
at_past : {x : Symbol} {r q : Reader} → Past x r q → (k : List Need) → verdict r k ≡ moved r.current.place (step x k) (verdict q)
at_past {x} {r} {q} h k = ap (λ s. judge (length (text_of r)) s k) h.spot ∙ ap (λ t. moved r.current.place (step x k) (judge (length t) (rest q))) (sym h.along.text)

-- it left n
pub onward : {x : Symbol} {r q : Reader} (k n : List Need) → Past x r q → step x k ≡ go n → verdict r k ≡ verdict q n
onward {x} {r} {q} k n h e = at_past h k ∙ ap (λ v. moved r.current.place v (verdict q)) e

-- a node that is written changes no verdict
pub wrote_verdict : {n : Node} {r q : Reader} → Wrote n r q → (k : List Need) → verdict r k ≡ verdict q k
wrote_verdict h k = λ i. judge (length (sym h.along.text i)) (sym h.rest_stays i) k

-- one more may be opened
pub inside_of : (d e : ℕ) → d ≡ e + 1 → inside (within d) ≡ Some (within e)
inside_of zero e h = absurd (omega arith)
inside_of (suc n) e h = ap (λ m. Some (within m)) (omega arith)

-- ## Readings

-- a reading takes as many tokens as its derivation
pub got : {c : Class} {X : Sort c} {d : ℕ} {left : List Need} {r q : Reader} {root : ℕ} (t : Tree c) → Derives c X (within d) (rest r) t (rest q) → q.count ≡ r.count + size c t → root + 1 ≡ q.count → table_in q ≡ written r.count (nodes c r.count t) (table_in r) → Along r q → ((k : List Need) → verdict r (need X (within d) ∷ k) ≡ verdict q (left ++ k)) → Got X d left r q root
got t h counted rooted table along goes =
    let a = sized h in
    record { tree = t; derived = h; counted = counted; rooted = rooted; table = table; along = along; goes = goes; fits = omega arith; shorter = fewer h }

-- what it wrote, where nothing was written between i and its beginning, nor between its end and j
pub part : {c : Class} {X : Sort c} {d i j l : ℕ} {left : List Need} {r q : Reader} {old mid : List Node} → r.count ≡ i → table_in r ≡ old → j ≡ q.count → mid ≡ table_in q → (g : Got X d left r q l) → Read c i j l g.tree old mid
part {c} {l} e o f m g =
    let t = g.tree in
    let a = g.counted in
    let b = g.rooted in
    record { counted = omega arith; rooted = omega arith; table = m ∙ g.table ∙ (λ k. written (e k) (nodes c (e k) t) (o k)) }

-- a lexeme that opens something
pub opens : {c : Class} (X : Sort c) (m : Lexeme) (d e : ℕ) {r q : Reader} (inner : Bound → List Need → List Need) → ((k : List Need) → step (fixed m) (need X (within d) ∷ k) ≡ deeper (inside (within d)) (λ b. inner b k)) → d ≡ e + 1 → Past (fixed m) r q → (k : List Need) → verdict r (need X (within d) ∷ k) ≡ verdict q (inner (within e) k)
opens X m d e inner h is past k = onward (need X (within d) ∷ k) (inner (within e) k) past (h k ∙ ap (λ o. deeper o (λ b. inner b k)) (inside_of d e is))

-- a lexeme that is expected
pub expected : {m : Lexeme} {r q : Reader} → Past (fixed m) r q → (k : List Need) → verdict r (this m ∷ k) ≡ verdict q k
expected {m} past k = onward (this m ∷ k) k past (ap (λ c. when c (go k) stop) (same_self m))

-- a token that is all of an X, and its node
pub leaf : {c : Class} (X : Sort c) {d root : ℕ} {r q o : Reader} (x : Symbol) (t : Tree c) (n : Node) → ((z : List Spot) → Derives c X (within d) (at r.current.place x ∷ z) t z) → ((k : List Need) → step x (need X (within d) ∷ k) ≡ go k) → size c t ≡ 1 → nodes c r.count t ≡ n ∷ [] → Past x r q → Wrote n q o → root ≡ q.count → WholeOf X d r o root
leaf {c} X {d} {root} {r} {q} {o} x t n derives steps one flat past wrote at-root =
    got t (subst (λ s. Derives c X (within d) s t (rest o)) (sym past.spot) (subst (λ s. Derives c X (within d) (at r.current.place x ∷ rest q) t s) (sym wrote.rest_stays) (derives (rest q))))
    (let a = past.count in let b = wrote.count in omega arith)
    (let b = wrote.count in omega arith)
    (wrote.table ∙ (λ k. set (past.table k) (past.count k) n) ∙ ap (λ l. written r.count l (table_in r)) (sym flat))
    (past.along >> wrote.along)
    (λ k. onward (need X (within d) ∷ k) k past (steps k) ∙ wrote_verdict wrote k)

-- ## Joined sorts

pub unit_step : {c : Class} {X Y : Sort c} → Joined c X Y → (fin : ℕ) (b : Bound) (s : List Spot) (k : List Need) → judge fin s (need X b ∷ k) ≡ judge fin s (need Y b ∷ tail X b ∷ k)
unit_step joined_names fin b [] k = refl
unit_step joined_names fin b (at p x ∷ s) k = refl
unit_step joined_sum fin b [] k = refl
unit_step joined_sum fin b (at p x ∷ s) k = refl
unit_step joined_term fin b [] k = refl
unit_step joined_term fin b (at p x ∷ s) k = refl
unit_step joined_cond fin b [] k = refl
unit_step joined_cond fin b (at p x ∷ s) k = refl
unit_step joined_list fin b [] k = refl
unit_step joined_list fin b (at p x ∷ s) k = refl

pub join_step : {c : Class} {X Y : Sort c} {m : Lexeme} → Joined c X Y → Joins c X m → (b : Bound) (k : List Need) → step (fixed m) (tail X b ∷ k) ≡ go (need Y b ∷ tail X b ∷ k)
join_step joined_names by_comma b k = refl
join_step joined_sum by_plus b k = refl
join_step joined_sum by_minus b k = refl
join_step joined_term by_times b k = refl
join_step joined_cond by_and b k = refl
join_step joined_list by_semicolon b k = refl

-- the first of them
pub start : {c : Class} {X Y : Sort c} {d root : ℕ} {r q : Reader} → Joined c X Y → WholeOf Y d r q root → PartOf X d r q root
start {X} {d} {r} u g = got g.tree (single u g.derived) g.counted g.rooted g.table g.along (λ k. unit_step u (length (text_of r)) (within d) (rest r) k ∙ g.goes (tail X (within d) ∷ k))

pub start_fails : {c : Class} {X Y : Sort c} (d : ℕ) (r : Reader) {v : Verdict} → Joined c X Y → ((k : List Need) → verdict r (need Y (within d) ∷ k) ≡ v) → (k : List Need) → verdict r (need X (within d) ∷ k) ≡ v
start_fails {X} d r u h k = unit_step u (length (text_of r)) (within d) (rest r) k ∙ h (tail X (within d) ∷ k)

-- one more of them
pub turn : {c : Class} {X Y : Sort c} {m : Lexeme} {d left right root p : ℕ} {made : Kind} {r q q1 q2 o : Reader} → Noded c → Joined c X Y → (j : Joins c X m) → PartOf X d r q left → Past (fixed m) q q1 → WholeOf Y d q1 q2 right → made ≡ kind_of j left right → Wrote (node p made) q2 o → p ≡ q.current.place → root ≡ q2.count → PartOf X d r o root
turn {c} {X} {Y} {m} {d} {left} {right} {root} {p} {made} {r} {q} {q1} {q2} {o} nd u j g past h is_made wrote at_p at-root =
    let t = g.tree in
    let v = h.tree in
    got (join j q.current.place t v)
    (more u j (subst (λ s. Derives c X (within d) (rest r) t s) past.spot g.derived) (subst (λ s. Derives c Y (within d) (rest q1) v s) (sym wrote.rest_stays) h.derived))
    (let a = wrote.count in let b = past.count in let n = h.counted in let l = g.counted in let s = join_size nd j q.current.place t v in omega arith)
    (let a = wrote.count in omega arith)
    (wrote.table ∙ (λ k. set (table_in q2) q2.count (node (at_p k) (is_made k))) ∙ two_nodes c q.current.place t v (join j q.current.place t v) (kind_of j) (join_nodes nd j r.count q.current.place t v) (part refl refl refl refl g) (part past.count past.table refl refl h))
    (g.along >> past.along >> h.along >> wrote.along)
    (λ k. g.goes k ∙ onward (tail X (within d) ∷ k) (need Y (within d) ∷ tail X (within d) ∷ k) past (join_step u j (within d) k) ∙ h.goes (tail X (within d) ∷ k) ∙ wrote_verdict wrote (tail X (within d) ∷ k))

pub turn_fails : {c : Class} {X Y : Sort c} {m : Lexeme} {d left : ℕ} {r q q1 : Reader} {v : Verdict} → Joined c X Y → Joins c X m → PartOf X d r q left → Past (fixed m) q q1 → ((k : List Need) → verdict q1 (need Y (within d) ∷ k) ≡ v) → (k : List Need) → verdict r (need X (within d) ∷ k) ≡ v
turn_fails {X} {Y} {d} u j g past h k = g.goes k ∙ onward (tail X (within d) ∷ k) (need Y (within d) ∷ tail X (within d) ∷ k) past (join_step u j (within d) k) ∙ h (tail X (within d) ∷ k)

-- the last of them
pub finish : {c : Class} {X : Sort c} {d root : ℕ} {r q : Reader} → PartOf X d r q root → Leaves X (within d) (lexeme_of q.current.token) → WholeOf X d r q root
finish {X} {d} {r} {q} g h = got g.tree g.derived g.counted g.rooted g.table g.along (λ k. g.goes k ∙ leaves_token X (within d) q.current.token (names_in q) (length (text_of q)) q.current.place q.current.end (text_of q) k h)
