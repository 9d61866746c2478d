-- What an accepted reading gives.
use Rattle.std.specs.Prelude.{◌≡◌, ℕ, List, length}
use Rattle.tokens.specs.Tokens.{names_of}
use Rattle.grammar.specs.Trees.{Rule}
use Rattle.grammar.specs.Grammar.{rules}
use Rattle.rules.specs.Names.{words_of}
use Rattle.rules.specs.Nodes.{size, table_of}
use Rattle.rules.specs.Reading.{Reads, accepted}
use Rattle.rules.specs.declared.node.Node.{Node}
use Rattle.rules.specs.declared.text.Reading.{Reading}

-- a text was read into a table of n places, which now holds the nodes of its rule and then blanks
pub record Accepted (text : List ℕ) (n : ℕ) (reading : Reading) (table : List Node) : Type 0 where
  pub rule : Rule
  pub reads : Reads text n (accepted rule)
  pub counted : reading.count ≡ size rules rule
  pub names : words_of reading.names ≡ names_of text
  pub named : reading.names.count ≡ length (names_of text)
  pub is_given : reading.given ≡ rule.given
  pub tabled : table ≡ table_of n rule
