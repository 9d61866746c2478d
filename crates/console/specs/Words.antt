-- Lines, and the words that single spaces part.
use Rattle.std.specs.Prelude.{◌≡◌, ℕ, ◌-◌, ◌<◌, All, Bool, true, cond, List, [], ◌∷◌, ◌++◌, length, take, Some, None, Option, ◌==◌, ◌≢◌, slice_index}
use Rattle.std.specs.Option.{option_map, unwrap_or}
use Rattle.std.specs.List.{AllByRecursion}
use Rattle.console.specs.declared.words.Words.{Words}

-- a line without the line feed that ends it, if one does
abbrev pub without_line_feed : List ℕ → List ℕ
without_line_feed line = cond (slice_index line (length line - 1) == 10) (take (length line - 1) line) line

-- no byte is a line feed
abbrev pub IsOneLine : List ℕ → Type 0
IsOneLine line = All (λ b. b ≢ 10) line

-- the line that was read up to its line feed, or none where nothing was read
abbrev pub line_in : List ℕ → Option (List ℕ)
line_in [] = None
line_in (b ∷ bs) = Some (without_line_feed (b ∷ bs))

-- a line is passed over if it is empty or begins with '#'
abbrev pub is_passed_over : List ℕ → Bool
is_passed_over [] = true
is_passed_over (b ∷ bs) = b == 35

-- no byte of a word is a space
abbrev pub Unspaced : List ℕ → Type 0
Unspaced word = (k : ℕ) → k < length word → slice_index word k ≢ 32

-- a line is its first word alone, or that word, a space and the rest
abbrev pub Split : List ℕ → List ℕ → Option (List ℕ) → Type 0
Split line word None = Unspaced word × (line ≡ word)
Split line word (Some rest) = Unspaced word × (line ≡ word ++ 32 ∷ rest)

-- the bytes up to the first space, or to the end
abbrev pub first_word : List ℕ → List ℕ
first_word [] = []
first_word (b ∷ bs) = cond (b == 32) [] (b ∷ first_word bs)

-- a word begins after each space
abbrev pub later_words : List ℕ → List (List ℕ)
later_words [] = []
later_words (b ∷ bs) = cond (b == 32) (first_word bs ∷ later_words bs) (later_words bs)

-- the words of a line, of which there is at least one
abbrev pub words_of : List ℕ → List (List ℕ)
words_of line = first_word line ∷ later_words line

-- words with a single space between two
abbrev pub spaced : List (List ℕ) → List ℕ
spaced [] = []
spaced (word ∷ []) = word
spaced (word ∷ next ∷ words) = word ++ 32 ∷ spaced (next ∷ words)

-- the words of a line have no space in them, and are the line again with a single space between two
abbrev pub WordsPartLines : Type 0
WordsPartLines = (line : List ℕ) → (spaced (words_of line) ≡ line) × AllByRecursion Unspaced (words_of line)

-- what is left of the line after the words that were taken
abbrev pub text_left : Words → Option (List ℕ)
text_left w = option_map (λ x. x.now) w.rest

-- the words that are left of a line, none where the line is used up
abbrev pub words_left : Words → List (List ℕ)
words_left w = unwrap_or (option_map words_of (text_left w)) []

-- the first of some words
abbrev pub first : List (List ℕ) → Option (List ℕ)
first [] = None
first (word ∷ words) = Some word

-- one word is taken from the front of what is left; at the end there is none
abbrev pub Took : Option (List ℕ) → Option (List ℕ) → Option (List ℕ) → Type 0
Took None word after = (word ≡ None) × (after ≡ None)
Took (Some line) None after = ⊥
Took (Some line) (Some word) after = Split line word after
