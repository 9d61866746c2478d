-- The tokens of a text as the grammar sees them: its symbols, each at its place, with the names numbered as cells.
use Rattle.std.specs.Prelude.{ℕ, zero, suc, ◌+◌, ◌-◌, Bool, false, cond, ◌&&◌, List, [], ◌∷◌, take, drop, Some, None, codes, Option, ◌==◌}
use Rattle.std.specs.List.{prefix_len}
use Rattle.std.specs.Str.{bytes_eq}
use Rattle.console.specs.Numbers.{is_digit, value_after}
use Rattle.tokens.specs.Classes.{is_blank, is_letter}
use Rattle.tokens.specs.declared.lexeme.Lexeme.{Lexeme}
use Rattle.tokens.specs.declared.lexeme.Lexeme.TheVariants as lexeme

-- what the grammar sees of a token: the letters of a name and its cell, the value of a number, or which reserved word or
-- sign it is; a byte that starts no token is a token of its own, which no rule contains
pub data Symbol : Type 0 where
  name : List ℕ → ℕ → Symbol
  number : ℕ → Symbol
  fixed : Lexeme → Symbol
  stray : Symbol

-- a token, by the offset of its first byte
pub data Spot : Type 0 where
  at : ℕ → Symbol → Spot

-- the reserved word that a word is
abbrev pub reserved : List ℕ → Option Lexeme
reserved w =
    cond (bytes_eq w (codes "given")) (Some lexeme.Given)
    (cond (bytes_eq w (codes "skip")) (Some lexeme.Skip)
    (cond (bytes_eq w (codes "leave")) (Some lexeme.Leave)
    (cond (bytes_eq w (codes "if")) (Some lexeme.If)
    (cond (bytes_eq w (codes "then")) (Some lexeme.Then)
    (cond (bytes_eq w (codes "else")) (Some lexeme.Else)
    (cond (bytes_eq w (codes "end")) (Some lexeme.End)
    (cond (bytes_eq w (codes "while")) (Some lexeme.While)
    (cond (bytes_eq w (codes "do")) (Some lexeme.Do)
    (cond (bytes_eq w (codes "hold")) (Some lexeme.Hold)
    (cond (bytes_eq w (codes "true")) (Some lexeme.True)
    (cond (bytes_eq w (codes "false")) (Some lexeme.False)
    (cond (bytes_eq w (codes "not")) (Some lexeme.Not)
    (cond (bytes_eq w (codes "and")) (Some lexeme.And) None)))))))))))))

-- the sign that begins with the byte b, by whether `=` follows it, and the width of a token that begins so
abbrev pub sign : ℕ → Bool → Option Lexeme × ℕ
sign b equals =
    cond (b == 43) (Some lexeme.Plus, 1)
    (cond (b == 45) (Some lexeme.Minus, 1)
    (cond (b == 42) (Some lexeme.Times, 1)
    (cond (b == 61) (Some lexeme.Equal, 1)
    (cond (b == 59) (Some lexeme.Semicolon, 1)
    (cond (b == 44) (Some lexeme.Comma, 1)
    (cond (b == 40) (Some lexeme.Open, 1)
    (cond (b == 41) (Some lexeme.Close, 1)
    (cond (b == 91) (Some lexeme.OpenSquare, 1)
    (cond (b == 93) (Some lexeme.CloseSquare, 1)
    (cond (b == 58 && equals) (Some lexeme.Becomes, 2)
    (cond (b == 60 && equals) (Some lexeme.AtMost, 2) (None, 1))))))))))))

-- the cell of a word, after the names so far: its number among them, or the next
abbrev pub cell_of : List (List ℕ) → List ℕ → ℕ
cell_of [] w = 0
cell_of (n ∷ names) w = cond (bytes_eq n w) 0 (suc (cell_of names w))

-- the names so far and a word, which is added where it is new
abbrev pub with_name : List (List ℕ) → List ℕ → List (List ℕ)
with_name [] w = w ∷ []
with_name (n ∷ names) w = cond (bytes_eq n w) (n ∷ names) (n ∷ with_name names w)

-- a word that is not reserved is a name
abbrev pub worded : List (List ℕ) → List ℕ → Option Lexeme → Symbol
worded names w None = name w (cell_of names w)
worded names w (Some m) = fixed m

-- a sign, or a byte that starts no token
abbrev pub signed : Option Lexeme → Symbol
signed None = stray
signed (Some m) = fixed m

-- whether the first byte is `=`
abbrev pub equals_first : List ℕ → Bool
equals_first [] = false
equals_first (b ∷ s) = b == 61

-- the token that begins with the byte b before s, and its width
abbrev pub symbol_at : List (List ℕ) → ℕ → List ℕ → Symbol
symbol_at names b s =
    cond (is_letter b) (worded names (take (prefix_len is_letter (b ∷ s)) (b ∷ s)) (reserved (take (prefix_len is_letter (b ∷ s)) (b ∷ s))))
    (cond (is_digit b) (number (value_after 0 (take (prefix_len is_digit (b ∷ s)) (b ∷ s))))
    (signed (sign b (equals_first s)).0))

abbrev pub width_at : ℕ → List ℕ → ℕ
width_at b s = cond (is_letter b) (prefix_len is_letter (b ∷ s)) (cond (is_digit b) (prefix_len is_digit (b ∷ s)) (sign b (equals_first s)).1)

-- the token that a text begins with, if it has one, and its width
abbrev pub first_symbol : List (List ℕ) → List ℕ → Option Symbol
first_symbol names [] = None
first_symbol names (b ∷ s) = Some (symbol_at names b s)

abbrev pub first_width : List ℕ → ℕ
first_width [] = 0
first_width (b ∷ s) = width_at b s

-- the names after one more token
abbrev pub names_with : List (List ℕ) → Symbol → List (List ℕ)
names_with names (name w c) = with_name names w
names_with names (number n) = names
names_with names (fixed m) = names
names_with names stray = names

-- the tokens of s, whose first n bytes belong to a token before; i is the offset of s, and names are those before it
abbrev pub tokens : ℕ → ℕ → List (List ℕ) → List ℕ → List Spot
tokens n i names [] = []
tokens (suc n) i names (b ∷ s) = tokens n (i + 1) names s
tokens zero i names (b ∷ s) =
    cond (is_blank b) (tokens 0 (i + 1) names s)
    (at i (symbol_at names b s) ∷ tokens (width_at b s - 1) (i + 1) (names_with names (symbol_at names b s)) s)

-- the tokens of a text from the offset i on, and all of them
abbrev pub tokens_from : List (List ℕ) → ℕ → List ℕ → List Spot
tokens_from names i text = tokens 0 i names (drop i text)

abbrev pub tokens_of : List ℕ → List Spot
tokens_of text = tokens 0 0 [] text

-- the names after some tokens
abbrev pub names_after : List (List ℕ) → List Spot → List (List ℕ)
names_after names [] = names
names_after names (at p x ∷ s) = names_after (names_with names x) s

-- the names of a text, in the order of their cells
abbrev pub names_of : List ℕ → List (List ℕ)
names_of text = names_after [] (tokens_of text)
