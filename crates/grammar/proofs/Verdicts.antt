-- The verdict of the stacks on a text is what the grammar says of it.
use Rattle.std.proofs.Common.{◌≡◌, ℕ, zero, suc, Bool, true, false, List, [], ◌∷◌, ◌++◌, sym, refl, ap, subst, append_assoc}
use Rattle.tokens.specs.Lexemes.{same_lexeme}
use Rattle.tokens.specs.Tokens.{Symbol, name, number, fixed, stray, Spot, at}
use Rattle.tokens.specs.declared.lexeme.Lexeme.{Lexeme}
use Rattle.tokens.specs.declared.lexeme.Lexeme.TheVariants as lexeme
use Rattle.grammar.specs.Grammar.{Class, Tree, Sort, given_name, given_names, factor, term, sum, prime, cond, statement, list, rule, Bound, within, unbounded, inside, name_fits, number_fits, latch_fits, limits, joined_names, joined_sum, joined_term, joined_cond, joined_list, Derives, single, more, a_number, a_true, is_equal, is_at_most, a_skip, a_given, no_given, Begins, place, at_token, at_end as no_end, passes}
use Rattle.grammar.specs.Automaton.{Need, need, tail, this, compared, latch, Move, stop, over, go, when, deeper, begin_factor, begin_comparison, begin_prime, begin_statement, begin_given, begin_list, begin_rule, begin, joined, follows, expect, compares, latched, step, may_end, Verdict, accepted, misfit, limited, at_end, moved, judge}
use Rattle.grammar.specs.Laws.{Fate, a_rule, no_rule, too_much, Judged}
use Rattle.grammar.proofs.Language.{no_more, here, equal_to, fitting, Of, Lang, done, then, Holds, Silent, onward, sum_lexemes, Fine, FineMove, fine_step, complete, Back, sound}

-- ## Every stack can be completed

-- a name, a number and a latch that fit every bound
name_within : (b : Bound) → name_fits b (97 ∷ []) 0 ≡ true
name_within (within n) = refl
name_within unbounded = refl

number_within : (b : Bound) → number_fits b 0 ≡ true
number_within (within n) = refl
number_within unbounded = refl

latch_within : (b : Bound) → latch_fits b 0 ≡ true
latch_within (within n) = refl
latch_within unbounded = refl

live_sort : {c : Class} (X : Sort c) (b : Bound) (r : List Spot) → (s : List Spot) × (t : Tree c) × Derives c X b s t r
live_sort given_name b r = (at 0 (name (97 ∷ []) 0) ∷ r, _, a_given (name_within b))
live_sort given_names b r = (at 0 (name (97 ∷ []) 0) ∷ r, _, single joined_names (a_given (name_within b)))
live_sort factor b r = (at 0 (number 0) ∷ r, _, a_number (number_within b))
live_sort term b r = (at 0 (number 0) ∷ r, _, single joined_term (a_number (number_within b)))
live_sort sum b r = (at 0 (number 0) ∷ r, _, single joined_sum (single joined_term (a_number (number_within b))))
live_sort prime b r = (at 0 (fixed lexeme.True) ∷ r, _, a_true)
live_sort cond b r = (at 0 (fixed lexeme.True) ∷ r, _, single joined_cond a_true)
live_sort statement b r = (at 0 (fixed lexeme.Skip) ∷ r, _, a_skip)
live_sort list b r = (at 0 (fixed lexeme.Skip) ∷ r, _, single joined_list a_skip)
live_sort rule b r = (at 0 (fixed lexeme.Skip) ∷ r, _, no_given (single joined_list a_skip))

live_of : (x : Need) (r : List Spot) → (s : List Spot) × Of x s r
live_of (need X b) r = let h = live_sort X b r in (h.0, (h.1, h.2))
live_of (tail X b) r = (r, no_more)
live_of (this m) r = (at 0 (fixed m) ∷ r, here)
live_of (compared b) r = let h = live_sort sum b r in (at 0 (fixed lexeme.Equal) ∷ h.0, equal_to h.2)
live_of (latch b) r = (at 0 (number 0) ∷ r, fitting (latch_within b))

pub live : (k : List Need) → (s : List Spot) × Lang k s
live [] = ([], done)
live (x ∷ k) =
    let l = live k in
    let h = live_of x l.0 in
    (h.0, then h.1 l.1)

-- ## The stack with no limit

abbrev loose : Need → Need
loose (need X b) = need X unbounded
loose (tail X b) = tail X unbounded
loose (this m) = this m
loose (compared b) = compared unbounded
loose (latch b) = latch unbounded

abbrev pub free : List Need → List Need
free [] = []
free (x ∷ k) = loose x ∷ free k

-- the move v with limits, and w with none
abbrev pub Looser : Move → Move → Type 0
Looser stop w = w ≡ stop
Looser over w = (k : List Need) × (w ≡ go k)
Looser (go k) w = w ≡ go (free k)

loose_when : (a b v w : Move) (c : Bool) → Looser a v → Looser b w → Looser (when c a b) (when c v w)
loose_when a b v w true f g = f
loose_when a b v w false f g = g

-- where there is no limit, a token that may pass one goes on
loose_fits : (c : Bool) (k : List Need) → Looser (when c (go k) over) (go (free k))
loose_fits true k = refl
loose_fits false k = (free k, refl)

loose_deeper : (b : Bound) (f : Bound → List Need) (k : List Need) → ((e : Bound) → k ≡ free (f e)) → Looser (deeper (inside b) f) (go k)
loose_deeper (within zero) f k h = (k, refl)
loose_deeper (within (suc n)) f k h = ap go (h (within n))
loose_deeper unbounded f k h = ap go (h unbounded)

loose_factor : (x : Symbol) (b : Bound) (k : List Need) → Looser (begin_factor x b k) (begin_factor x unbounded (free k))
loose_factor (name w c) b k = loose_fits (name_fits b w c) k
loose_factor (number v) b k = loose_fits (number_fits b v) k
loose_factor (fixed m) b k = loose_when _ _ _ _ (same_lexeme m lexeme.Open) (loose_deeper b _ _ (λ e. refl)) refl
loose_factor stray b k = refl

loose_comparison : (x : Symbol) (b : Bound) (k : List Need) → Looser (begin_comparison x b k) (begin_comparison x unbounded (free k))
loose_comparison x b k = loose_factor x b _

loose_prime : (x : Symbol) (b : Bound) (k : List Need) → Looser (begin_prime x b k) (begin_prime x unbounded (free k))
loose_prime (name w c) b k = loose_comparison (name w c) b k
loose_prime (number v) b k = loose_comparison (number v) b k
loose_prime (fixed m) b k =
    loose_when _ _ _ _ (same_lexeme m lexeme.True) refl
    (loose_when _ _ _ _ (same_lexeme m lexeme.False) refl
    (loose_when _ _ _ _ (same_lexeme m lexeme.Not) (loose_deeper b _ _ (λ e. refl))
    (loose_when _ _ _ _ (same_lexeme m lexeme.OpenSquare) (loose_deeper b _ _ (λ e. refl))
    (loose_comparison (fixed m) b k))))
loose_prime stray b k = refl

loose_statement : (x : Symbol) (b : Bound) (k : List Need) → Looser (begin_statement x b k) (begin_statement x unbounded (free k))
loose_statement (name w c) b k = loose_fits (name_fits b w c) _
loose_statement (number v) b k = refl
loose_statement (fixed m) b k =
    loose_when _ _ _ _ (same_lexeme m lexeme.Skip) refl
    (loose_when _ _ _ _ (same_lexeme m lexeme.Leave) refl
    (loose_when _ _ _ _ (same_lexeme m lexeme.If) (loose_deeper b _ _ (λ e. refl))
    (loose_when _ _ _ _ (same_lexeme m lexeme.While) (loose_deeper b _ _ (λ e. refl))
    (loose_when _ _ _ _ (same_lexeme m lexeme.Hold) (loose_deeper b _ _ (λ e. refl)) refl))))
loose_statement stray b k = refl

loose_given : (x : Symbol) (b : Bound) (k : List Need) → Looser (begin_given x b k) (begin_given x unbounded (free k))
loose_given (name w c) b k = loose_fits (name_fits b w c) k
loose_given (number v) b k = refl
loose_given (fixed m) b k = refl
loose_given stray b k = refl

loose_list : (x : Symbol) (b : Bound) (k : List Need) → Looser (begin_list x b k) (begin_list x unbounded (free k))
loose_list x b k = loose_statement x b _

loose_rule : (x : Symbol) (b : Bound) (k : List Need) → Looser (begin_rule x b k) (begin_rule x unbounded (free k))
loose_rule (name w c) b k = loose_list (name w c) b k
loose_rule (number v) b k = refl
loose_rule (fixed m) b k = loose_when _ _ _ _ (same_lexeme m lexeme.Given) refl (loose_list (fixed m) b k)
loose_rule stray b k = refl

loose_begin : {c : Class} (X : Sort c) (x : Symbol) (b : Bound) (k : List Need) → Looser (begin X x b k) (begin X x unbounded (free k))
loose_begin given_name x b k = loose_given x b k
loose_begin given_names x b k = loose_given x b _
loose_begin factor x b k = loose_factor x b k
loose_begin term x b k = loose_factor x b _
loose_begin sum x b k = loose_factor x b _
loose_begin prime x b k = loose_prime x b k
loose_begin cond x b k = loose_prime x b _
loose_begin statement x b k = loose_statement x b k
loose_begin list x b k = loose_list x b k
loose_begin rule x b k = loose_rule x b k

loose_joined : {c : Class} (X : Sort c) (m : Lexeme) (b : Bound) (k : List Need) (n o : Move) → Looser n o → Looser (joined X m b k n) (joined X m unbounded (free k) o)
loose_joined given_name m b k n o h = h
loose_joined given_names m b k n o h = loose_when _ _ _ _ (same_lexeme m lexeme.Comma) refl h
loose_joined factor m b k n o h = h
loose_joined term m b k n o h = loose_when _ _ _ _ (same_lexeme m lexeme.Times) refl h
loose_joined sum m b k n o h = loose_when _ _ _ _ (same_lexeme m lexeme.Plus) refl (loose_when _ _ _ _ (same_lexeme m lexeme.Minus) refl h)
loose_joined prime m b k n o h = h
loose_joined cond m b k n o h = loose_when _ _ _ _ (same_lexeme m lexeme.And) refl h
loose_joined statement m b k n o h = h
loose_joined list m b k n o h = loose_when _ _ _ _ (same_lexeme m lexeme.Semicolon) refl h
loose_joined rule m b k n o h = h

loose_follows : {c : Class} (X : Sort c) (x : Symbol) (b : Bound) (k : List Need) (n o : Move) → Looser n o → Looser (follows X x b k n) (follows X x unbounded (free k) o)
loose_follows X (name w c) b k n o h = h
loose_follows X (number v) b k n o h = h
loose_follows X (fixed m) b k n o h = loose_joined X m b k n o h
loose_follows X stray b k n o h = h

loose_expect : (e : Lexeme) (x : Symbol) (k : List Need) → Looser (expect e x k) (expect e x (free k))
loose_expect e (name w c) k = refl
loose_expect e (number v) k = refl
loose_expect e (fixed m) k = loose_when _ _ _ _ (same_lexeme m e) refl refl
loose_expect e stray k = refl

loose_compares : (x : Symbol) (b : Bound) (k : List Need) → Looser (compares x b k) (compares x unbounded (free k))
loose_compares (name w c) b k = refl
loose_compares (number v) b k = refl
loose_compares (fixed m) b k = loose_when _ _ _ _ (same_lexeme m lexeme.Equal) refl (loose_when _ _ _ _ (same_lexeme m lexeme.AtMost) refl refl)
loose_compares stray b k = refl

loose_latched : (x : Symbol) (b : Bound) (k : List Need) → Looser (latched x b k) (latched x unbounded (free k))
loose_latched (name w c) b k = refl
loose_latched (number v) b k = loose_fits (latch_fits b v) k
loose_latched (fixed m) b k = refl
loose_latched stray b k = refl

pub loose_step : (x : Symbol) (k : List Need) → Looser (step x k) (step x (free k))
loose_step x [] = refl
loose_step x (need X b ∷ k) = loose_begin X x b k
loose_step x (tail X b ∷ k) = loose_follows X x b k (step x k) (step x (free k)) (loose_step x k)
loose_step x (this m ∷ k) = loose_expect m x k
loose_step x (compared b ∷ k) = loose_compares x b k
loose_step x (latch b ∷ k) = loose_latched x b k

free_silent : (l : List Lexeme) (k : List Need) → Silent l k → Silent l (free k)
free_silent [] k q = tt
free_silent (m ∷ l) k q = (subst (λ v. Looser v (step (fixed m) (free k))) q.0 (loose_step (fixed m) k), free_silent l k q.1)

pub free_fine : (k : List Need) → Fine k → Fine (free k)
free_fine [] f = tt
free_fine (need X b ∷ k) f = (free_silent (onward X) k f.0, free_fine k f.1)
free_fine (tail X b ∷ k) f = (free_silent (onward X) k f.0, free_fine k f.1)
free_fine (this m ∷ k) f = free_fine k f
free_fine (compared b ∷ k) f = (free_silent sum_lexemes k f.0, free_fine k f.1)
free_fine (latch b ∷ k) f = free_fine k f

-- ## The end of the text

none_empty : {c : Class} {X : Sort c} {b : Bound} {t : Tree c} {r : List Spot} → Derives c X b [] t r → ⊥
none_empty (single i h) = none_empty h
none_empty (more i j h g) = none_empty h
none_empty (is_equal h g) = none_empty h
none_empty (is_at_most h g) = none_empty h
none_empty (no_given h) = none_empty h

-- the stack takes the end of the text, or does not even with no limit
abbrev Ends : Bool → List Need → Type 0
Ends true k = Lang k []
Ends false k = Lang (free k) [] → ⊥

unread : {x : Need} {k : List Need} → ((r : List Spot) → Of x [] r → ⊥) → Lang (x ∷ k) [] → ⊥
unread f (then h l) = f _ h

ends_tail : {c : Class} (X : Sort c) (b : Bound) (k : List Need) (v : Bool) → Ends v k → Ends v (tail X b ∷ k)
ends_tail X b k true h = then no_more h
ends_tail X b k false h = past
  where
    past : Lang (tail X unbounded ∷ free k) [] → ⊥
    past (then no_more l) = h l

ends : (k : List Need) → Ends (may_end k) k
ends [] = done
ends (need X b ∷ k) = unread (λ r h. none_empty h.1)
ends (tail X b ∷ k) = ends_tail X b k (may_end k) (ends k)
ends (this m ∷ k) = unread (λ r h. elim h [ ])
ends (compared b ∷ k) = unread (λ r h. elim h [ ])
ends (latch b ∷ k) = unread (λ r h. elim h [ ])

-- ## The verdicts

-- what becomes of the tokens s where k is needed
pub data Outcome (fin : ℕ) (k : List Need) (s : List Spot) : Verdict → Type 0 where
  takes : Lang k s → Outcome fin k s accepted
  refuses_token : (p r : List Spot) (x : Spot) → s ≡ p ++ x ∷ r → (z : List Spot) → Lang k (p ++ z) → ((w : List Spot) → Lang (free k) (p ++ x ∷ w) → ⊥) → Outcome fin k s (misfit (place x))
  refuses_end : (z : List Spot) → Lang k (s ++ z) → (Lang (free k) s → ⊥) → Outcome fin k s (misfit fin)
  limits_token : (p r : List Spot) (x : Spot) → s ≡ p ++ x ∷ r → (z : List Spot) → Lang k (p ++ z) → (v : List Spot) → Lang (free k) (p ++ x ∷ v) → ((w : List Spot) → Lang k (p ++ x ∷ w) → ⊥) → Outcome fin k s (limited (place x))

-- the move v takes just what the stack k takes after the token x
abbrev Exact : Move → List Need → Spot → Type 0
Exact v k x = (z : List Spot) → (Lang k (x ∷ z) → Holds v z) × Back v k x z

exact : (x : Symbol) (k : List Need) (p : ℕ) → Fine k → Exact (step x k) k (at p x)
exact x k p f z = (complete k f, sound x k p z)

-- what becomes of the tokens after x becomes of those with x before them
longer : {fin : ℕ} {k n : List Need} {s : List Spot} {v : Verdict} (x : Spot) → Exact (go n) k x → Exact (go (free n)) (free k) x → Outcome fin n s v → Outcome fin k (x ∷ s) v
longer x f g (takes l) = takes ((f _).1 l)
longer x f g (refuses_token p r y e z l m) = refuses_token (x ∷ p) r y (ap (λ o. x ∷ o) e) z ((f _).1 l) (λ w h. m w ((g _).0 h))
longer x f g (refuses_end z l m) = refuses_end z ((f _).1 l) (λ h. m ((g _).0 h))
longer x f g (limits_token p r y e z l v m n) = limits_token (x ∷ p) r y (ap (λ o. x ∷ o) e) z ((f _).1 l) v ((g _).1 m) (λ w h. n w ((f _).0 h))

advance : (fin p : ℕ) (x : Symbol) (s : List Spot) (k : List Need) (v w : Move) → Looser v w → Exact v k (at p x) → Exact w (free k) (at p x) → FineMove v → ((n : List Need) → Fine n → Outcome fin n s (judge fin s n)) → Outcome fin k (at p x ∷ s) (moved p v (judge fin s))
advance fin p x s k stop w h a e f ih =
    let l = live k in
    let o : Exact stop (free k) (at p x) = subst (λ u. Exact u (free k) (at p x)) h e in
    refuses_token [] s (at p x) refl l.0 l.1 (λ z. (o z).0)
advance fin p x s k over w h a e f ih =
    let l = live k in
    let m = live h.0 in
    let o : Exact (go h.0) (free k) (at p x) = subst (λ u. Exact u (free k) (at p x)) h.1 e in
    limits_token [] s (at p x) refl l.0 l.1 m.0 ((o m.0).1 m.1) (λ z. (a z).0)
advance fin p x s k (go n) w h a e f ih = longer (at p x) a (subst (λ u. Exact u (free k) (at p x)) h e) (ih n f)

ended : (fin : ℕ) (k : List Need) (v : Bool) → Ends v k → Outcome fin k [] (at_end fin v)
ended fin k true h = takes h
ended fin k false h = let l = live k in refuses_end l.0 l.1 h

pub outcome : (fin : ℕ) (s : List Spot) (k : List Need) → Fine k → Outcome fin k s (judge fin s k)
outcome fin [] k f = ended fin k (may_end k) (ends k)
outcome fin (at p x ∷ s) k f = advance fin p x s k (step x k) (step x (free k)) (loose_step x k) (exact x k p f) (exact x (free k) p (free_fine k f)) (fine_step x k f) (outcome fin s)

-- ## Of whole texts

begins : {b : Bound} (s z : List Spot) → Lang (need rule b ∷ []) (s ++ z) → Begins b s
begins s z (then h done) = (z, h.0, h.1)

begins_with : {b : Bound} (p w : List Spot) (x : Spot) → Lang (need rule b ∷ []) (p ++ x ∷ w) → Begins b (p ++ x ∷ [])
begins_with {b} p w x l = begins (p ++ x ∷ []) w (subst (Lang (need rule b ∷ [])) (sym (append_assoc p (x ∷ []) w)) l)

begins_not : {b : Bound} (p : List Spot) (x : Spot) → ((w : List Spot) → Lang (need rule b ∷ []) (p ++ x ∷ w) → ⊥) → Begins b (p ++ x ∷ []) → ⊥
begins_not {b} p x f h = f h.0 (subst (Lang (need rule b ∷ [])) (append_assoc p (x ∷ []) h.0) (then (h.1, h.2) done))

fate : {fin : ℕ} {s : List Spot} {v : Verdict} → Outcome fin (need rule limits ∷ []) s v → Fate s fin v
fate (takes (then h done)) = a_rule h.0 h.1
fate (refuses_token p r x e z l m) = no_rule _ (at_token p r x e (begins p z l) (begins_not p x m))
fate {s} (refuses_end z l m) = no_rule _ (no_end (begins s z l) (λ t h. m (then (t, h) done)))
fate (limits_token p r x e z l v m n) = too_much _ (passes p r x e (begins p z l) (begins_with p v x m) (begins_not p x n))

pub judged : Judged
judged s length = fate (outcome length s (need rule limits ∷ []) ((refl, (refl, (refl, (refl, tt)))), tt))
