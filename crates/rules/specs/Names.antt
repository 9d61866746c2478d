-- The names that the code keeps.
use Rattle.std.specs.Prelude.{◌≡◌, ℕ, ◌<◌, ◌≤◌, List, map, take, Some, None, Option}
use Rattle.tokens.specs.Tokens.{cell_of, with_name}
use Rattle.rules.specs.declared.names.Names.{Names}

-- the names in the order of their cells
abbrev pub words_of : Names → List (List ℕ)
words_of n = take n.count (map (λ x. x.now) n.words)

-- a word has that cell and is among the names, or it would be the 33rd
abbrev pub Celled : List ℕ → Names → Names → Option ℕ → Type 0
Celled w old new (Some c) = (c ≡ cell_of (words_of old) w) × (c < 32) × (words_of new ≡ with_name (words_of old) w)
Celled w old new None = (32 ≤ cell_of (words_of old) w) × (new ≡ old)
