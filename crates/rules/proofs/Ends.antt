-- The ends of a reading: the first token, the last, and the table.
use Rattle.std.proofs.Common.{◌≡◌, ℕ, suc, ◌+◌, ◌-◌, ◌<◌, ◌≤◌, ◌⊎◌, List, [], ◌∷◌, ◌++◌, length, take, drop, map, set, replicate, Some, None, Option, unwrap_or, sym, refl, ap, ◌∙◌, subst, inl, inr, append-nil, arith, length-drop, length-append, length-set, Bor}
use borrow.Rule.Slice.PartMut.{put_mid}
use Rattle.std.specs.Slice.{IsGetRangeResult}
use Rattle.std.proofs.lemmas.List.{take_all, drop_all, length-take-le, length-replicate}
use Rattle.tokens.specs.Tokens.{Spot, tokens_of, names_after, names_of}
use Rattle.tokens.specs.Lexing.{symbol, with_token}
use Rattle.tokens.specs.declared.token.Token.{Token}
use Rattle.tokens.specs.declared.token.Token.TheVariants as token
use Rattle.grammar.specs.Trees.{Rule}
use Rattle.grammar.specs.Grammar.{rules, rule, limits, Derives, Whole}
use Rattle.grammar.specs.Automaton.{need, judge}
use Rattle.rules.specs.Refusals.{refusal_of}
use Rattle.rules.specs.Names.{words_of}
use Rattle.rules.specs.declared.names.Names.{Names}
use Rattle.rules.specs.Nodes.{blank, size, nodes, table_of, written}
use Rattle.rules.specs.Reading.{longest, Reads, accepted, refused, read, full}
use Rattle.rules.specs.Readers.{text_of, names_in, rest, verdict, said, Fails, Ruled}
use Rattle.rules.specs.declared.fault.Fault.{Fault}
use Rattle.rules.specs.declared.fault.Fault.TheVariants as fault
use Rattle.rules.specs.declared.node.Node.{Node}
use Rattle.rules.specs.declared.reader.Reader.{Reader}
use Rattle.rules.specs.declared.refusal.ReadRefusal.TheVariants.{Misfit, TableFull}
use Rattle.rules.proofs.Numbering.{length_kept}
use Rattle.rules.proofs.Outcomes.{refused_by}
use Rattle.rules.proofs.Sizes.{length_nodes}
use Rattle.rules.proofs.Turns.{Stops, misfits}

-- ## Tokens

pub none_left : (r : Reader) → r.current.token ≡ token.EndOfText → rest r ≡ []
none_left r e = ap (λ t. with_token (names_in r) r.current.place t r.current.end (text_of r)) e

pub some_left : (r : Reader) → (r.current.token ≡ token.EndOfText → ⊥) → rest r ≡ [] → ⊥
some_left r h = there r.current.token h
  where
    there : (t : Token) → (t ≡ token.EndOfText → ⊥) → with_token (names_in r) r.current.place t r.current.end (text_of r) ≡ [] → ⊥
    there (token.Name w) h e = let z : ◌≡◌ {A = ℕ} 0 1 = cc in omega arith
    there (token.Number w) h e = let z : ◌≡◌ {A = ℕ} 0 1 = cc in omega arith
    there (token.Keyword m w) h e = let z : ◌≡◌ {A = ℕ} 0 1 = cc in omega arith
    there (token.Sign m) h e = let z : ◌≡◌ {A = ℕ} 0 1 = cc in omega arith
    there token.Stray h e = let z : ◌≡◌ {A = ℕ} 0 1 = cc in omega arith
    there token.EndOfText h e = h refl

-- the tokens before a reader that has no names yet
pub first_tokens : (names : Names) (t : Token) (p i : ℕ) (text : List ℕ) {from : List (List ℕ) → List Spot} → names.count ≡ 0 → ((ns : List (List ℕ)) → with_token ns p t i text ≡ from ns) → with_token (words_of names) p t i text ≡ from []
first_tokens names t p i text none h = ap (λ n. with_token (take n (map (λ x. x.now) names.words)) p t i text) none ∙ h []

-- where nothing is needed, no token fits
too_many : (t : Token) (names : List (List ℕ)) → (t ≡ token.EndOfText → ⊥) → Stops (symbol names t) []
too_many (token.Name w) names h = refl
too_many (token.Number w) names h = refl
too_many (token.Keyword m w) names h = refl
too_many (token.Sign m) names h = refl
too_many token.Stray names h = refl
too_many token.EndOfText names h = absurd (h refl)

module _ (text : List ℕ) (n : ℕ) (r : Reader) (begins : rest r ≡ tokens_of text) (is_text : text_of r ≡ text) (short : length text ≤ longest) where
  from_text : judge (length text) (tokens_of text) (need rule limits ∷ []) ≡ verdict r (need rule limits ∷ [])
  from_text = λ k. judge (length (sym is_text k)) (sym begins k) (need rule limits ∷ [])

  some_tokens : (r.current.token ≡ token.EndOfText → ⊥) → tokens_of text ≡ [] → ⊥
  some_tokens h e = some_left r h (begins ∙ e)

  said_of : (f : Fault) → (r.current.token ≡ token.EndOfText → ⊥) → verdict r (need rule limits ∷ []) ≡ said f → Reads text n (refused (refusal_of f))
  said_of f h e = refused_by text n f short (some_tokens h) (from_text ∙ e)

  pub fails : (f : Fault) {q : Reader} → (r.current.token ≡ token.EndOfText → ⊥) → Fails (need rule limits) r q f → Reads text n (refused (refusal_of f))
  fails f h e = said_of f h (e.1 [])

  module _ (q : Reader) (given : ℕ) (h : Ruled r q given) where
    pub goes_on : (r.current.token ≡ token.EndOfText → ⊥) → (q.current.token ≡ token.EndOfText → ⊥) → Reads text n (refused (Misfit q.current.place))
    goes_on some more = said_of (fault.Misfit q.current.place) some (h.goes [] ∙ misfits q [] (too_many q.current.token (names_in q) more))

    whole : q.current.token ≡ token.EndOfText → Whole limits (tokens_of text) h.tree
    whole e = subst (λ s. Derives rules rule limits s h.tree []) begins (subst (λ s. Derives rules rule limits (rest r) h.tree s) (none_left q e) h.derived)

    pub too_full : r.count ≡ 0 → q.current.token ≡ token.EndOfText → n < q.count → Reads text n (refused TableFull)
    too_full z e l = full short (whole e) (let a = h.counted in omega arith)

    pub accepts : r.count ≡ 0 → q.current.token ≡ token.EndOfText → q.count ≤ n → Reads text n (accepted h.tree)
    accepts z e l = read short (whole e) (let a = h.counted in omega arith)

    pub all_names : q.current.token ≡ token.EndOfText → names_in q ≡ names_of text
    all_names e = sym (ap (names_after (names_in q)) (none_left q e)) ∙ q.numbered ∙ ap names_of (h.along.text ∙ is_text)

    pub how_many : q.current.token ≡ token.EndOfText → q.names.count ≡ length (names_of text)
    how_many e = let a = q.names.few in let b = q.names.places in sym (length_kept q.names.words q.names.count (omega arith)) ∙ ap length (all_names e)

-- ## Tables

length_written : (i : ℕ) (ns table : List Node) → length (written i ns table) ≡ length table
length_written i [] table = refl
length_written i (n ∷ ns) table = length_written (i + 1) ns (set table i n) ∙ length-set table i n

written_cons : (i : ℕ) (ns : List Node) (x : Node) (table : List Node) → written (i + 1) ns (x ∷ table) ≡ x ∷ written i ns table
written_cons i [] x table = refl
written_cons i (n ∷ ns) x table = ap (λ t. written (i + 1 + 1) ns t) (next i table) ∙ written_cons (i + 1) ns x (set table i n)
  where
    next : (i : ℕ) (table : List Node) → set (x ∷ table) (i + 1) n ≡ x ∷ set table i n
    next i table = let e : i + 1 ≡ suc i = omega arith in ap (λ j. set (x ∷ table) j n) e

front : (ns table : List Node) → length ns ≤ length table → take (length ns) (written 0 ns table) ≡ ns
front [] table h = refl
front (n ∷ ns) [] h = absurd (omega arith)
front (n ∷ ns) (x ∷ table) h = ap (take (suc (length ns))) (written_cons 0 ns n table) ∙ ap (λ l. n ∷ l) (front ns table (omega arith))

pub tables : (t : Rule) (count : ℕ) (old new last : List Node) → count ≡ size rules t → count ≤ length old → new ≡ written 0 (nodes rules 0 t) old → last ≡ take count new ++ replicate (length new - count) blank → last ≡ table_of (length old) t
tables t count old new last is room w e =
    let ns = nodes rules 0 t in
    let l = length_nodes rules 0 t in
    let c : count ≡ length ns = omega arith in
    let s : length new ≡ length old = ap length w ∙ length_written 0 ns old in
    e ∙ (λ k. take (c k) (w k) ++ replicate (s k - is k) blank) ∙ ap (λ f. f ++ replicate (length old - size rules t) blank) (front ns old (omega arith))

-- the rest of a table is blanked
pub blanked : (xs ys : List Node) (i : ℕ) → i ≤ length xs → ys ≡ replicate (length (take (length xs - i) (drop i xs))) blank → put_mid i (length xs - i) xs ys ≡ take i xs ++ replicate (length xs - i) blank
blanked xs ys i h e =
    let d = length-drop i xs in
    let a : take (length xs - i) (drop i xs) ≡ drop i xs = take_all (length xs - i) (drop i xs) (omega arith) in
    let b : length (take (length xs - i) (drop i xs)) ≡ length xs - i = ap length a ∙ d in
    let g : drop (length xs - i) (drop i xs) ≡ [] = drop_all (length xs - i) (drop i xs) (omega arith) in
    (λ k. take i xs ++ ((e ∙ ap (λ n. replicate n blank) b) k ++ g k)) ∙ ap (λ l. take i xs ++ l) (append-nil (replicate (length xs - i) blank))

pub same_places : (xs : List Node) (i : ℕ) {ys : List Node} → i ≤ length xs → ys ≡ take i xs ++ replicate (length xs - i) blank → length ys ≡ length xs
same_places xs i h e =
    let a = length-append (take i xs) (replicate (length xs - i) blank) in
    let b = length-take-le i xs h in
    let d = length-replicate (length xs - i) blank in
    ap length e ∙ omega arith

-- the part of a table up to n, or all of a smaller one
pub front_part : (n : ℕ) (t : Bor (List Node)) (r : Option (Bor (List Node))) → IsGetRangeResult t.now 0 n r → (unwrap_or r t).now ≡ take n t.now
front_part n t None h = sym (take_all n t.now (small h.0))
  where
    small : (n < 0) ⊎ (length t.now < n) → length t.now ≤ n
    small (inl a) = omega arith
    small (inr a) = omega arith
front_part n t (Some x) h = h.0.2 ∙ ap (λ m. take m t.now) (omega arith)
