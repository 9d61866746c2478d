-- How a refusal is written.
use Rattle.std.specs.Prelude.{ℕ, List, ◌++◌, codes, decimal}

-- a refusal by its number and its place
abbrev pub refused_text : ℕ → ℕ → List ℕ
refused_text number place = codes "refused " ++ (decimal number ++ (codes " at " ++ decimal place))
