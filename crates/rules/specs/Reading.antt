-- What reading a text into a table comes to.
use Rattle.std.specs.Prelude.{◌≡◌, ℕ, ◌<◌, ◌≤◌, List, [], length, ◌≢◌}
use Rattle.tokens.specs.Tokens.{tokens_of}
use Rattle.grammar.specs.Trees.{Rule}
use Rattle.grammar.specs.Grammar.{rules, limits, Whole, Misfit as Misfits, Passes}
use Rattle.rules.specs.Nodes.{size}
use Rattle.rules.specs.declared.refusal.ReadRefusal.{ReadRefusal}
use Rattle.rules.specs.declared.refusal.ReadRefusal.TheVariants.{TooLong, Empty, Misfit, Limit, TableFull}

-- the bytes that a text may have
abbrev pub longest : ℕ
longest = 16384

-- a rule, or a refusal
pub data Outcome : Type 0 where
  accepted : Rule → Outcome
  refused : ReadRefusal → Outcome

-- the outcome of reading a text into a table of n places
pub data Reads (text : List ℕ) (n : ℕ) : Outcome → Type 0 where
  too_long : longest < length text → Reads text n (refused TooLong)
  empty : length text ≤ longest → tokens_of text ≡ [] → Reads text n (refused Empty)
  misfit : {p : ℕ} → length text ≤ longest → (tokens_of text ≢ []) → Misfits (tokens_of text) (length text) p → Reads text n (refused (Misfit p))
  limit : {p : ℕ} → length text ≤ longest → Passes (tokens_of text) p → Reads text n (refused (Limit p))
  full : {t : Rule} → length text ≤ longest → Whole limits (tokens_of text) t → n < size rules t → Reads text n (refused TableFull)
  read : {t : Rule} → length text ≤ longest → Whole limits (tokens_of text) t → size rules t ≤ n → Reads text n (accepted t)

-- each text and table size has exactly one outcome
abbrev pub OneOutcome : Type 0
OneOutcome = (text : List ℕ) (n : ℕ) → (o : Outcome) × Reads text n o × ((q : Outcome) → Reads text n q → q ≡ o)
