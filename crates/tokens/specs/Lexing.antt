-- What a token of the code stands for.
use Rattle.std.specs.Prelude.{◌≡◌, ℕ, ◌+◌, Bool, true, false, List, [], ◌∷◌, drop, Some, None, Option, slice_index, slice_range}
use Rattle.console.specs.Numbers.{all_digits, value_after}
use Rattle.tokens.specs.Lexemes.{same_lexeme}
use Rattle.tokens.specs.Tokens.{Symbol, name, number, fixed, stray, Spot, at, cell_of, reserved, sign, equals_first, names_with, tokens_from}
use Rattle.tokens.specs.declared.lexeme.Lexeme.{Lexeme}
use Rattle.tokens.specs.declared.token.Token.{Token}
use Rattle.tokens.specs.declared.token.Token.TheVariants as token

-- what the grammar sees of a token after the names so far; the end of the text has no symbol
abbrev pub symbol : List (List ℕ) → Token → Option Symbol
symbol names (token.Name w) = Some (name w.now (cell_of names w.now))
symbol names (token.Number w) = Some (number (value_after 0 w.now))
symbol names (token.Keyword m w) = Some (fixed m)
symbol names (token.Sign m) = Some (fixed m)
symbol names token.Stray = Some stray
symbol names token.EndOfText = None

-- the lexeme that a token is
abbrev pub lexeme_of : Token → Option Lexeme
lexeme_of (token.Name w) = None
lexeme_of (token.Number w) = None
lexeme_of (token.Keyword m w) = Some m
lexeme_of (token.Sign m) = Some m
lexeme_of token.Stray = None
lexeme_of token.EndOfText = None

-- whether that is the lexeme m
abbrev pub is_lexeme : Option Lexeme → Lexeme → Bool
is_lexeme None m = false
is_lexeme (Some n) m = same_lexeme n m

-- a symbol at p before the tokens of the text from the offset i on
abbrev pub placed : List (List ℕ) → ℕ → Option Symbol → ℕ → List ℕ → List Spot
placed names p None i text = []
placed names p (Some x) i text = at p x ∷ tokens_from (names_with names x) i text

-- a token at p before the tokens of the text from the offset i on
abbrev pub with_token : List (List ℕ) → ℕ → Token → ℕ → List ℕ → List Spot
with_token names p t i text = placed names p (symbol names t) i text

-- one digit or more
abbrev pub some_digits : List ℕ → Bool
some_digits [] = false
some_digits (b ∷ s) = all_digits (b ∷ s)

-- the sign that begins at the offset p, if one does
abbrev pub sign_at : List ℕ → ℕ → Option Lexeme
sign_at text p = (sign (slice_index text p) (equals_first (drop (p + 1) text))).0

-- a word or a number is the stretch of the text from p to q: a name is not reserved, a reserved word is that lexeme, a number is
-- digits; a sign begins at p, and a byte that starts no token begins none
abbrev pub Spelt : List ℕ → Token → ℕ → ℕ → Type 0
Spelt text (token.Name w) p q = (w.now ≡ slice_range text p q) × (reserved w.now ≡ None)
Spelt text (token.Number w) p q = (w.now ≡ slice_range text p q) × (some_digits w.now ≡ true)
Spelt text (token.Keyword m w) p q = (w.now ≡ slice_range text p q) × (reserved w.now ≡ Some m)
Spelt text (token.Sign m) p q = sign_at text p ≡ Some m
Spelt text token.Stray p q = sign_at text p ≡ None
Spelt text token.EndOfText p q = Unit {0}

-- a number is spelt in digits
abbrev pub digits_only : Token → Bool
digits_only (token.Name w) = true
digits_only (token.Number w) = some_digits w.now
digits_only (token.Keyword m w) = true
digits_only (token.Sign m) = true
digits_only token.Stray = true
digits_only token.EndOfText = true
