-- The forms of a TEXT, byte by byte. Assumes nothing.
use Rattle.std.proofs.Common.{◌≡◌, ℕ, ◌+◌, ◌<◌, ◌≤◌, min, cond, ltb, List, [], ◌∷◌, ◌++◌, length, take, drop, set, is_some, Some, None, Option, sym, refl, ap, ◌∙◌, ⊎_elim, append_assoc, arith}
use Rattle.std.specs.Option.{option_map}
use Rattle.std.proofs.lemmas.List.{append-nil, drop-drop, drop-set-lt, length-set, length-take, length-take-le, nil_from_length, take_all, take-append-le, take_more_set}
use Rattle.std.proofs.lemmas.Bool.{cases_eq, cases_lt, eq-eqb, le-ltb, lt-ltb, ne_eqb}
use Rattle.console.specs.Hex.{before}
use Rattle.console.specs.Text.{coded_byte, escaped_byte, text_of, behind_backslash, behind_x, Begins}

-- a form stands for one byte, and is at least as long
before_fits : (b : Option ℕ) (o : Option (List ℕ)) (n : ℕ) → ((t : List ℕ) → o ≡ Some t → length t ≤ n) → (t : List ℕ) → before b o ≡ Some t → length t ≤ n + 1
before_fits None o n h t e = let z : ◌≡◌ {A = ℕ} 0 1 = cc in absurd (omega arith)
before_fits (Some b) None n h t e = let z : ◌≡◌ {A = ℕ} 0 1 = cc in absurd (omega arith)
before_fits (Some b) (Some bs) n h t e =
    let whole : b ∷ bs ≡ t = cc in omega (arith, h bs refl, ap length whole)

mutual
  pub texts_fit : (written t : List ℕ) → text_of written ≡ Some t → length t ≤ length written
  texts_fit [] t e = let nil : [] ≡ t = cc in omega (arith, ap length nil)
  texts_fit (b ∷ bs) t e =
      ⊎_elim
      (λ is. let h = backslash_fits bs t (rw (eq-eqb b 92 is) at e) in omega arith)
      (λ other. let h = before_fits (Some b) (text_of bs) (length bs) (texts_fit bs) t (rw (ne_eqb b 92 other) at e) in omega arith)
      (cases_eq b 92)

  backslash_fits : (written t : List ℕ) → behind_backslash written ≡ Some t → length t ≤ length written
  backslash_fits [] t e = let z : ◌≡◌ {A = ℕ} 0 1 = cc in absurd (omega arith)
  backslash_fits (b ∷ bs) t e =
      ⊎_elim
      (λ is. let h = x_fits bs t (rw (eq-eqb b 120 is) at e) in omega arith)
      (λ other. let h = before_fits (escaped_byte b) (text_of bs) (length bs) (texts_fit bs) t (rw (ne_eqb b 120 other) at e) in omega arith)
      (cases_eq b 120)

  x_fits : (written t : List ℕ) → behind_x written ≡ Some t → length t ≤ length written
  x_fits [] t e = let z : ◌≡◌ {A = ℕ} 0 1 = cc in absurd (omega arith)
  x_fits (high ∷ []) t e = let z : ◌≡◌ {A = ℕ} 0 1 = cc in absurd (omega arith)
  x_fits (high ∷ low ∷ bs) t e =
      let h = before_fits (coded_byte high low) (text_of bs) (length bs) (texts_fit bs) t e in omega arith

-- each form at the front of what is written
kept_mapped : (f g : List ℕ → List ℕ) (b : ℕ) (o : Option (List ℕ)) → ((text : List ℕ) → f text ≡ g (b ∷ text)) → option_map f o ≡ option_map g (before (Some b) o)
kept_mapped f g b None h = refl
kept_mapped f g b (Some text) h = ap Some (h text)

pub is_some_mapped : (f : List ℕ → ℕ) (o : Option (List ℕ)) → is_some (option_map f o) ≡ is_some o
is_some_mapped f None = refl
is_some_mapped f (Some text) = refl

-- the first n bytes of `out` and a text behind them, as far as there is room
abbrev pub held : ℕ → List ℕ → ℕ → List ℕ → List ℕ
held room out n text = take room (take n out ++ text)

held_more : (room : ℕ) (out : List ℕ) (n b : ℕ) (text : List ℕ) → n < length out → held room (set out n b) (n + 1) text ≡ held room out n (b ∷ text)
held_more room out n b text h = rw (take_more_set out n b h, append_assoc)

held_full : (room : ℕ) (out : List ℕ) (n b : ℕ) (text : List ℕ) → room ≤ length (take n out) → held room out n text ≡ held room out n (b ∷ text)
held_full room out n b text h =
    take-append-le room (take n out) text h ∙ sym (take-append-le room (take n out) (b ∷ text) h)

-- the first n bytes of `out` are filled in, and those of `old` are kept behind them
pub record Filling (room : ℕ) (whole : Option (List ℕ)) (old out : List ℕ) (n : ℕ) (rest : List ℕ) : Type 0 where
  pub within : n ≤ length out
  pub filled : option_map (held room out n) (text_of rest) ≡ option_map (take room) whole
  pub kept : drop n out ≡ drop n old

-- one more byte's form is read, and at the end none is left
module _ (room : ℕ) (whole : Option (List ℕ)) (old out : List ℕ) (n : ℕ) (rest : List ℕ) (long : length out ≡ room) (inv : Filling room whole old out n rest) where
  fill_placed : (b : ℕ) (after : List ℕ) → Begins rest b after → n < length out → Filling room whole old (set out n b) (n + 1) after
  fill_placed b after begins h = record {
    within = rw length-set (omega arith);
    filled =
        kept_mapped _ _ b (text_of after) (λ text. held_more room out n b text h) ∙ ap (option_map (held room out n)) (sym begins.0) ∙ inv.filled;
    kept =
        drop-set-lt (n + 1) out n b (omega arith) ∙ sym (drop-drop 1 n out) ∙ ap (drop 1) inv.kept ∙ drop-drop 1 n old;
  }

  fill_full : (b : ℕ) (after : List ℕ) → Begins rest b after → length out ≤ n → Filling room whole old out n after
  fill_full b after begins h =
      let full : room ≤ length (take n out) = rw length-take (omega (arith, inv.within)) in
      record {
        within = inv.within;
        filled =
            kept_mapped _ _ b (text_of after) (λ text. held_full room out n b text full) ∙ ap (option_map (held room out n)) (sym begins.0) ∙ inv.filled;
        kept = inv.kept;
      }

  pub fill_more : (b : ℕ) (after out' : List ℕ) (n' : ℕ) → Begins rest b after → out' ≡ cond (ltb n (length out)) (set out n b) out → n' ≡ cond (ltb n (length out)) (n + 1) n → Filling room whole old out' n' after
  fill_more b after out' n' begins e k =
      ⊎_elim
      (λ h. rw (e, k, lt-ltb n (length out) h) (fill_placed b after begins h))
      (λ h. rw (e, k, le-ltb n (length out) h) (fill_full b after begins h))
      (cases_lt n (length out))

  pub fill_spoiled : text_of rest ≡ None → whole ≡ None
  fill_spoiled none = spoiled whole (sym (ap (option_map (held room out n)) none) ∙ inv.filled)
    where
      spoiled : (o : Option (List ℕ)) → None ≡ option_map (take room) o → o ≡ None
      spoiled None e = refl
      spoiled (Some text) e = cc

  pub fill_text : length rest ≡ 0 → Some (take n out) ≡ option_map (take room) whole
  fill_text none =
      let nil = nil_from_length rest none in
      let front : length (take n out) ≤ room = rw length-take (omega arith) in
      let done : held room out n [] ≡ take n out = rw append-nil (take_all room (take n out) front) in
      ap Some (sym done) ∙ ap (λ r. option_map (held room out n) (text_of r)) (sym nil) ∙ inv.filled

  pub fill_count : length rest ≡ 0 → Some n ≡ option_map (λ text. min (length text) room) whole
  fill_count none = counted whole (fill_text none)
    where
      counted : (o : Option (List ℕ)) → Some (take n out) ≡ option_map (take room) o → Some n ≡ option_map (λ text. min (length text) room) o
      counted None e = cc
      counted (Some text) e =
          let same : take n out ≡ take room text = cc in
          ap Some (omega (arith, inv.within, length-take-le n out inv.within, ap length same, length-take room text))
