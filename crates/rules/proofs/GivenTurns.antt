-- The turns of the readers of the given part and of a whole rule.
use Rattle.std.proofs.Common.{◌≡◌, ℕ, ◌^◌, false, List, [], ◌∷◌, length, sym, refl, ap, ◌∙◌, subst, arith}
use lib.Bits.{bit_or}
use Rattle.tokens.specs.Tokens.{fixed, name, at, tokens_from}
use Rattle.tokens.specs.Lexing.{with_token, lexeme_of, is_lexeme}
use Rattle.tokens.specs.declared.lexeme.Lexeme.TheVariants as lexeme
use Rattle.tokens.specs.declared.token.Token.{Token}
use Rattle.tokens.specs.declared.token.Token.TheVariants as token
use Rattle.grammar.specs.Grammar.{cells, statements, rules, Bound, limits, given_name, given_names, list, rule, joined_names, by_comma, Derives, single, more, a_given, with_given, no_given}
use Rattle.grammar.specs.Automaton.{Need, need, tail, this, over, go, when, begin_list, moved, judge, Verdict}
use Rattle.grammar.proofs.Unique.{sized as fewer}
use Rattle.rules.specs.Nodes.{nodes, written}
use Rattle.rules.specs.Readers.{text_of, names_in, rest, Past, Named, verdict, WholeOf, Given, Ruled}
use Rattle.rules.specs.declared.reader.Reader.{Reader}
use Rattle.rules.proofs.Turns.{◌>>◌, Leaves, leaves_token, onward, expected, unit_step, join_step}

-- ## Given names

pub given_read : {cell g : ℕ} {r q : Reader} → Named cell r q → g ≡ 2 ^ cell → Given given_name [] r q g
given_read {cell} {g} {r} {q} n is =
    let d : Derives cells given_name limits (rest r) g (rest q) = subst (λ s. Derives cells given_name limits s g (rest q)) (sym n.past.spot) (subst (λ u. Derives cells given_name limits (at r.current.place (name n.word cell) ∷ rest q) u (rest q)) (sym is) (a_given n.fits)) in
    record {
      derived = d;
      count = n.past.count;
      along = n.past.along;
      table = n.past.table;
      goes = λ k. onward (need given_name limits ∷ k) k n.past (ap (λ b. when b (go k) over) n.fits);
      shorter = fewer d;
    }

pub given_start : {g : ℕ} {r q : Reader} → Given given_name [] r q g → Given given_names (tail given_names limits ∷ []) r q g
given_start {r} h = record {
  derived = single joined_names h.derived;
  count = h.count;
  along = h.along;
  table = h.table;
  goes = λ k. unit_step joined_names (length (text_of r)) limits (rest r) k ∙ h.goes (tail given_names limits ∷ k);
  shorter = h.shorter;
}

comma_goes : {g : ℕ} {r q o : Reader} → Given given_names (tail given_names limits ∷ []) r q g → Past (fixed lexeme.Comma) q o → (k : List Need) → verdict r (need given_names limits ∷ k) ≡ verdict o (need given_name limits ∷ tail given_names limits ∷ k)
comma_goes h past k = h.goes k ∙ onward (tail given_names limits ∷ k) (need given_name limits ∷ tail given_names limits ∷ k) past (join_step joined_names by_comma limits k)

pub given_turn : {g h : ℕ} {r q o w : Reader} → Given given_names (tail given_names limits ∷ []) r q g → Past (fixed lexeme.Comma) q o → Given given_name [] o w h → Given given_names (tail given_names limits ∷ []) r w (bit_or g h)
given_turn {g} {h} {r} {q} {o} {w} a past b =
    let d : Derives cells given_names limits (rest r) (bit_or g h) (rest w) = more joined_names by_comma (subst (λ s. Derives cells given_names limits (rest r) g s) past.spot a.derived) b.derived in
    record {
      derived = d;
      count = b.count ∙ past.count ∙ a.count;
      along = a.along >> past.along >> b.along;
      table = b.table ∙ past.table ∙ a.table;
      goes = λ k. comma_goes a past k ∙ b.goes (tail given_names limits ∷ k);
      shorter = fewer d;
    }

pub given_turn_fails : {g : ℕ} {r q o : Reader} {v : Verdict} → Given given_names (tail given_names limits ∷ []) r q g → Past (fixed lexeme.Comma) q o → ((k : List Need) → verdict o (need given_name limits ∷ k) ≡ v) → (k : List Need) → verdict r (need given_names limits ∷ k) ≡ v
given_turn_fails a past h k = comma_goes a past k ∙ h (tail given_names limits ∷ k)

pub given_finish : {g : ℕ} {r q : Reader} → Given given_names (tail given_names limits ∷ []) r q g → Leaves given_names limits (lexeme_of q.current.token) → Given given_names [] r q g
given_finish {q} h e = record {
  derived = h.derived;
  count = h.count;
  along = h.along;
  table = h.table;
  goes = λ k. h.goes k ∙ leaves_token given_names limits q.current.token (names_in q) (length (text_of q)) q.current.place q.current.end (text_of q) k e;
  shorter = h.shorter;
}

-- ## A rule with a given part

pub given_goes : {r q : Reader} → Past (fixed lexeme.Given) r q → (k : List Need) → verdict r (need rule limits ∷ k) ≡ verdict q (need given_names limits ∷ this lexeme.Semicolon ∷ need list limits ∷ k)
given_goes past k = onward (need rule limits ∷ k) (need given_names limits ∷ this lexeme.Semicolon ∷ need list limits ∷ k) past refl

pub given_rule : {g root : ℕ} {r q o w z : Reader} → Past (fixed lexeme.Given) r q → Given given_names [] q o g → Past (fixed lexeme.Semicolon) o w → WholeOf list 16 w z root → Ruled r z g
given_rule {g} {root} {r} {q} {o} {w} {z} first h past b =
    let t = b.tree in
    let same : w.count ≡ r.count = past.count ∙ h.count ∙ first.count in
    record {
      tree = record { given = g; body = t };
      derived = subst (λ s. Derives rules rule limits s (record { given = g; body = t }) (rest z)) (sym first.spot) (with_given (subst (λ s. Derives cells given_names limits (rest q) g s) past.spot h.derived) b.derived);
      is_given = refl;
      counted = let n = b.counted in omega arith;
      table = b.table ∙ (λ k. written (same k) (nodes statements (same k) t) ((past.table ∙ h.table ∙ first.table) k));
      along = first.along >> h.along >> past.along >> b.along;
      goes = λ k. given_goes first k ∙ h.goes (this lexeme.Semicolon ∷ need list limits ∷ k) ∙ expected past (need list limits ∷ k) ∙ b.goes k;
    }

-- ## A rule without one

ungiven_token : (b : Bound) (t : Token) (names : List (List ℕ)) (fin p i : ℕ) (text : List ℕ) (k : List Need) → false ≡ is_lexeme (lexeme_of t) lexeme.Given → judge fin (with_token names p t i text) (need rule b ∷ k) ≡ judge fin (with_token names p t i text) (need list b ∷ k)
ungiven_token b (token.Name w) names fin p i text k h = refl
ungiven_token b (token.Number w) names fin p i text k h = refl
ungiven_token b (token.Keyword m w) names fin p i text k h = ap (λ c. moved p (when c (go (need given_names b ∷ this lexeme.Semicolon ∷ need list b ∷ k)) (begin_list (fixed m) b k)) (judge fin (tokens_from names i text))) (sym h)
ungiven_token b (token.Sign m) names fin p i text k h = ap (λ c. moved p (when c (go (need given_names b ∷ this lexeme.Semicolon ∷ need list b ∷ k)) (begin_list (fixed m) b k)) (judge fin (tokens_from names i text))) (sym h)
ungiven_token b token.Stray names fin p i text k h = refl
ungiven_token b token.EndOfText names fin p i text k h = refl

pub ungiven : (r : Reader) → false ≡ is_lexeme (lexeme_of r.current.token) lexeme.Given → (k : List Need) → verdict r (need rule limits ∷ k) ≡ verdict r (need list limits ∷ k)
ungiven r h k = ungiven_token limits r.current.token (names_in r) (length (text_of r)) r.current.place r.current.end (text_of r) k h

pub plain_rule : {root : ℕ} {r q : Reader} → false ≡ is_lexeme (lexeme_of r.current.token) lexeme.Given → WholeOf list 16 r q root → Ruled r q 0
plain_rule {r} h b = record {
  tree = record { given = 0; body = b.tree };
  derived = no_given b.derived;
  is_given = refl;
  counted = b.counted;
  table = b.table;
  along = b.along;
  goes = λ k. ungiven r h k ∙ b.goes k;
}
