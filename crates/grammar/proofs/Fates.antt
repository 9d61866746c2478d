-- Limits only refuse, and tokens have at most one fate.
use Rattle.std.proofs.Common.{◌≡◌, ℕ, List, [], ◌∷◌, ◌++◌, sym, refl, ap, ◌∙◌, subst, append_assoc, append-nil}
use Rattle.tokens.specs.Tokens.{Spot}
use Rattle.grammar.specs.Trees.{Rule}
use Rattle.grammar.specs.Grammar.{Bound, unbounded, limits, Whole, Begins, place, at_token, at_end, passes}
use Rattle.grammar.specs.Automaton.{Verdict, misfit, limited}
use Rattle.grammar.specs.Laws.{LimitsOnlyRefuse, Fate, a_rule, no_rule, too_much}
use Rattle.grammar.proofs.Loosened.{loosened}

pub limits_only_refuse : LimitsOnlyRefuse
limits_only_refuse s t h = loosened h

-- what begins with p and more begins with p
shorter : (b : Bound) (p z s : List Spot) → s ≡ p ++ z → Begins b s → Begins b p
shorter b p z s e h = (z ++ h.0, h.1, subst (λ o. Whole b o h.1) (ap (λ o. o ++ h.0) e ∙ append_assoc p z h.0) h.2)

-- of two splits of a list at a token either one is earlier or they are the same
data Splits (p : List Spot) (x : Spot) (q : List Spot) (y : Spot) : Type 0 where
  earlier : (z : List Spot) → q ≡ (p ++ x ∷ []) ++ z → Splits p x q y
  later : (z : List Spot) → p ≡ (q ++ y ∷ []) ++ z → Splits p x q y
  same : p ≡ q → x ≡ y → Splits p x q y

one_more : {p q : List Spot} {x y : Spot} (w : Spot) → Splits p x q y → Splits (w ∷ p) x (w ∷ q) y
one_more w (earlier z e) = earlier z (ap (λ o. w ∷ o) e)
one_more w (later z e) = later z (ap (λ o. w ∷ o) e)
one_more w (same e f) = same (ap (λ o. w ∷ o) e) f

splits : (p r q o : List Spot) (x y : Spot) → p ++ x ∷ r ≡ q ++ y ∷ o → Splits p x q y
splits [] r [] o x y e = same refl (cc)
splits [] r (w ∷ q) o x y e = earlier q (cc)
splits (v ∷ p) r [] o x y e = later p (cc)
splits (v ∷ p) r (w ∷ q) o x y e = subst (λ u. Splits (v ∷ p) x (u ∷ q) y) (cc) (one_more v (splits p r q o x y (cc)))

-- the tokens s begin with p and x; a rule begins with p within the limits, but none with p and x
data Stuck (s p : List Spot) (x : Spot) : Type 0 where
  stuck : (r : List Spot) → s ≡ p ++ x ∷ r → Begins limits p → (Begins limits (p ++ x ∷ []) → ⊥) → Stuck s p x

-- so it is where no rule begins with p and x at all
without : {s : List Spot} (p r : List Spot) (x : Spot) → s ≡ p ++ x ∷ r → Begins limits p → (Begins unbounded (p ++ x ∷ []) → ⊥) → Stuck s p x
without p r x e b n = stuck r e b (λ h. n (h.0, h.1, loosened h.2))

-- then no rule begins with s within the limits
never_whole : {s p : List Spot} {x : Spot} → Stuck s p x → Begins limits s → ⊥
never_whole {s} {p} {x} (stuck r e b n) h = n (shorter limits (p ++ x ∷ []) r s (e ∙ sym (append_assoc p (x ∷ []) r)) h)

never_rule : {s p : List Spot} {x : Spot} → Stuck s p x → (t : Rule) → Whole limits s t → ⊥
never_rule {s} k t h = never_whole k ([], t, subst (λ o. Whole limits o t) (sym (append-nil s)) h)

-- tokens are stuck at one place
one_place : {s p q : List Spot} {x y : Spot} → Stuck s p x → Stuck s q y → (p ≡ q) × (x ≡ y)
one_place {s} {p} {q} {x} {y} (stuck r e b n) (stuck o f c m) = by (splits p r q o x y (sym e ∙ f))
  where
    by : Splits p x q y → (p ≡ q) × (x ≡ y)
    by (earlier z d) = absurd (n (shorter limits (p ++ x ∷ []) z q d c))
    by (later z d) = absurd (m (shorter limits (q ++ y ∷ []) z p d b))
    by (same d g) = (d, g)

-- and pass no limit where no rule goes on at all
not_both : {s p q : List Spot} {x y : Spot} → Stuck s p x → (Begins unbounded (p ++ x ∷ []) → ⊥) → Stuck s q y → Begins unbounded (q ++ y ∷ []) → ⊥
not_both k n l u = let e = one_place k l in n (subst (λ (o : List Spot × Spot). Begins unbounded (o.0 ++ o.1 ∷ [])) (λ i. (sym e.0 i, sym e.1 i)) u)

pub one_fate_only : (s : List Spot) (length : ℕ) (v w : Verdict) → Fate s length v → Fate s length w → v ≡ w
one_fate_only s l v w (a_rule t h) (a_rule u g) = refl
one_fate_only s l v w (a_rule t h) (no_rule i (at_token p r x e b n)) = absurd (never_rule (without p r x e b n) t h)
one_fate_only s l v w (a_rule t h) (no_rule i (at_end b n)) = absurd (n t (loosened h))
one_fate_only s l v w (a_rule t h) (too_much i (passes p r x e b u n)) = absurd (never_rule (stuck r e b n) t h)
one_fate_only s l v w (no_rule i (at_token p r x e b n)) (a_rule t h) = absurd (never_rule (without p r x e b n) t h)
one_fate_only s l v w (no_rule i (at_token p r x e b n)) (no_rule j (at_token q o y f c m)) = ap (λ z. misfit (place z)) (one_place (without p r x e b n) (without q o y f c m)).1
one_fate_only s l v w (no_rule i (at_token p r x e b n)) (no_rule j (at_end c m)) = absurd (never_whole (without p r x e b n) c)
one_fate_only s l v w (no_rule i (at_token p r x e b n)) (too_much j (passes q o y f c u m)) = absurd (not_both (without p r x e b n) n (stuck o f c m) u)
one_fate_only s l v w (no_rule i (at_end b n)) (a_rule t h) = absurd (n t (loosened h))
one_fate_only s l v w (no_rule i (at_end b n)) (no_rule j (at_token q o y f c m)) = absurd (never_whole (without q o y f c m) b)
one_fate_only s l v w (no_rule i (at_end b n)) (no_rule j (at_end c m)) = refl
one_fate_only s l v w (no_rule i (at_end b n)) (too_much j (passes q o y f c u m)) = absurd (never_whole (stuck o f c m) b)
one_fate_only s l v w (too_much i (passes p r x e b u n)) (a_rule t h) = absurd (never_rule (stuck r e b n) t h)
one_fate_only s l v w (too_much i (passes p r x e b u n)) (no_rule j (at_token q o y f c m)) = absurd (not_both (without q o y f c m) m (stuck r e b n) u)
one_fate_only s l v w (too_much i (passes p r x e b u n)) (no_rule j (at_end c m)) = absurd (never_whole (stuck r e b n) c)
one_fate_only s l v w (too_much i (passes p r x e b u n)) (too_much j (passes q o y f c a m)) = ap (λ z. limited (place z)) (one_place (stuck r e b n) (stuck o f c m)).1
