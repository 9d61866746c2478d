-- Each text and table size has exactly one outcome, and what the readers say is that outcome.
use Rattle.std.proofs.Common.{◌≡◌, ℕ, ◌<◌, ◌≤◌, ◌⊎◌, List, [], ◌∷◌, ◌++◌, length, sym, refl, ap, ◌∙◌, subst, inl, inr, arith}
use Rattle.std.proofs.lemmas.Bool.{cases_lt}
use Rattle.tokens.specs.Tokens.{Spot, tokens_of}
use Rattle.grammar.specs.Trees.{Rule}
use Rattle.grammar.specs.Grammar.{rules, rule, limits, Whole, Passes, passes}
use Rattle.grammar.specs.Automaton as automaton
use Rattle.grammar.specs.Automaton.{Verdict, need, judge}
use Rattle.grammar.specs.Laws.{Fate, a_rule, no_rule, too_much}
use Rattle.grammar.proofs.Fates.{one_fate_only}
use Rattle.grammar.proofs.Unique.{one_tree, sized as fewer}
use Rattle.grammar.proofs.Verdicts.{judged}
use Rattle.rules.specs.Refusals.{refusal_of}
use Rattle.rules.specs.Nodes.{size}
use Rattle.rules.specs.Reading.{longest, Outcome, accepted, refused, Reads, too_long, empty, misfit, limit, full, read, OneOutcome}
use Rattle.rules.specs.Readers.{said}
use Rattle.rules.specs.declared.fault.Fault.{Fault}
use Rattle.rules.specs.declared.fault.Fault.TheVariants as fault
use Rattle.rules.specs.declared.refusal.ReadRefusal.TheVariants.{TooLong, Empty, Misfit, Limit, TableFull}

-- ## At least one

sized_outcome : (text : List ℕ) (n : ℕ) (t : Rule) → length text ≤ longest → Whole limits (tokens_of text) t → (o : Outcome) × Reads text n o
sized_outcome text n t short w = go (cases_lt n (size rules t))
  where
    go : (n < size rules t) ⊎ (size rules t ≤ n) → (o : Outcome) × Reads text n o
    go (inl h) = (refused TableFull, full short w h)
    go (inr h) = (accepted t, read short w h)

fated : (text : List ℕ) (n : ℕ) {v : Verdict} → length text ≤ longest → (tokens_of text ≡ [] → ⊥) → Fate (tokens_of text) (length text) v → (o : Outcome) × Reads text n o
fated text n short some (a_rule t w) = sized_outcome text n t short w
fated text n short some (no_rule p m) = (refused (Misfit p), misfit short some m)
fated text n short some (too_much p m) = (refused (Limit p), limit short m)

none_or_some : (s : List Spot) → (s ≡ []) ⊎ (s ≡ [] → ⊥)
none_or_some [] = inl refl
none_or_some (x ∷ s) = inr (λ e. let z : ◌≡◌ {A = ℕ} 0 1 = cc in omega arith)

outcome : (text : List ℕ) (n : ℕ) → (o : Outcome) × Reads text n o
outcome text n = by_length (cases_lt longest (length text))
  where
    by_tokens : length text ≤ longest → (tokens_of text ≡ []) ⊎ (tokens_of text ≡ [] → ⊥) → (o : Outcome) × Reads text n o
    by_tokens short (inl e) = (refused Empty, empty short e)
    by_tokens short (inr e) = fated text n short e (judged (tokens_of text) (length text))

    by_length : (longest < length text) ⊎ (length text ≤ longest) → (o : Outcome) × Reads text n o
    by_length (inl h) = (refused TooLong, too_long h)
    by_length (inr h) = by_tokens h (none_or_some (tokens_of text))

-- ## At most one

-- how a verdict ends in the outcome o
abbrev Ends : List Spot → ℕ → Outcome → Verdict → Type 0
Ends s n o automaton.accepted = (t : Rule) × Whole limits s t × (((size rules t ≤ n) × (o ≡ accepted t)) ⊎ ((n < size rules t) × (o ≡ refused TableFull)))
Ends s n o (automaton.misfit p) = o ≡ refused (Misfit p)
Ends s n o (automaton.limited p) = o ≡ refused (Limit p)

-- what decides the outcome o
data Decided (text : List ℕ) (n : ℕ) (o : Outcome) : Type 0 where
  by_length : longest < length text → o ≡ refused TooLong → Decided text n o
  by_tokens : length text ≤ longest → tokens_of text ≡ [] → o ≡ refused Empty → Decided text n o
  by_fate : (v : Verdict) → length text ≤ longest → (tokens_of text ≡ [] → ⊥) → Fate (tokens_of text) (length text) v → Ends (tokens_of text) n o v → Decided text n o

-- a rule has tokens, and so has what passes a limit
rule_tokens : {s : List Spot} {t : Rule} → Whole limits s t → s ≡ [] → ⊥
rule_tokens {s} {t} w e = let h = fewer w in let z : length s ≡ 0 = ap length e in omega arith

limit_tokens : {s : List Spot} {p : ℕ} → Passes s p → s ≡ [] → ⊥
limit_tokens {s} (passes p r x is a b c) e = gone p r x (sym is ∙ e)
  where
    gone : (p r : List Spot) (x : Spot) → p ++ x ∷ r ≡ [] → ⊥
    gone [] r x e = let z : ◌≡◌ {A = ℕ} 0 1 = cc in omega arith
    gone (y ∷ p) r x e = let z : ◌≡◌ {A = ℕ} 0 1 = cc in omega arith

decided : {text : List ℕ} {n : ℕ} {o : Outcome} → Reads text n o → Decided text n o
decided (too_long h) = by_length h refl
decided (empty h e) = by_tokens h e refl
decided (misfit {p} h e m) = by_fate (automaton.misfit p) h e (no_rule p m) refl
decided (limit {p} h m) = by_fate (automaton.limited p) h (limit_tokens m) (too_much p m) refl
decided (full {t} h w l) = by_fate automaton.accepted h (rule_tokens w) (a_rule t w) (t, w, inr (l, refl))
decided (read {t} h w l) = by_fate automaton.accepted h (rule_tokens w) (a_rule t w) (t, w, inl (l, refl))

ends_alike : (s : List Spot) (n : ℕ) (o q : Outcome) (v : Verdict) → Ends s n o v → Ends s n q v → q ≡ o
ends_alike s n o q automaton.accepted (t, w, a) (u, x, b) = by_size (one_tree limits s t u w x) a b
  where
    by_size : t ≡ u → ((size rules t ≤ n) × (o ≡ accepted t)) ⊎ ((n < size rules t) × (o ≡ refused TableFull)) → ((size rules u ≤ n) × (q ≡ accepted u)) ⊎ ((n < size rules u) × (q ≡ refused TableFull)) → q ≡ o
    by_size e (inl a) (inl b) = b.1 ∙ ap accepted (sym e) ∙ sym a.1
    by_size e (inl a) (inr b) = let z = ap (size rules) e in absurd (omega arith)
    by_size e (inr a) (inl b) = let z = ap (size rules) e in absurd (omega arith)
    by_size e (inr a) (inr b) = b.1 ∙ sym a.1
ends_alike s n o q (automaton.misfit p) a b = b ∙ sym a
ends_alike s n o q (automaton.limited p) a b = b ∙ sym a

alike : {text : List ℕ} {n : ℕ} {o q : Outcome} → Decided text n o → Decided text n q → q ≡ o
alike (by_length h e) (by_length g f) = f ∙ sym e
alike (by_length h e) (by_tokens g x f) = absurd (omega arith)
alike (by_length h e) (by_fate v g x f k) = absurd (omega arith)
alike (by_tokens h y e) (by_length g f) = absurd (omega arith)
alike (by_tokens h y e) (by_tokens g x f) = f ∙ sym e
alike (by_tokens h y e) (by_fate v g x f k) = absurd (x y)
alike (by_fate v h y e k) (by_length g f) = absurd (omega arith)
alike (by_fate v h y e k) (by_tokens g x f) = absurd (y x)
alike {text} {n} {o} {q} (by_fate v h y e k) (by_fate w g x f l) = ends_alike (tokens_of text) n o q v k (subst (Ends (tokens_of text) n q) (one_fate_only (tokens_of text) (length text) w v f e) l)

pub one_outcome : OneOutcome
one_outcome text n = let o = outcome text n in (o.0, o.1, λ q h. alike (decided o.1) (decided h))

-- ## What the readers say

by_verdict : (text : List ℕ) (n : ℕ) (f : Fault) → length text ≤ longest → (tokens_of text ≡ [] → ⊥) → Fate (tokens_of text) (length text) (said f) → Reads text n (refused (refusal_of f))
by_verdict text n (fault.Misfit p) short some (no_rule o m) = misfit short some m
by_verdict text n (fault.Limit p) short some (too_much o m) = limit short m

pub refused_by : (text : List ℕ) (n : ℕ) (f : Fault) → length text ≤ longest → (tokens_of text ≡ [] → ⊥) → judge (length text) (tokens_of text) (need rule limits ∷ []) ≡ said f → Reads text n (refused (refusal_of f))
refused_by text n f short some e = by_verdict text n f short some (subst (Fate (tokens_of text) (length text)) e (judged (tokens_of text) (length text)))
