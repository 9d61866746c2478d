-- Which of two lexemes are the same.
use Rattle.std.specs.Prelude.{Bool}
use denote.Enum.Bare.{sameb}
use Rattle.tokens.specs.contracts.lexeme.Lexeme.{the_type}
use Rattle.tokens.specs.declared.lexeme.Lexeme.{Lexeme}

-- whether two lexemes are the same, as `==` tells
abbrev pub same_lexeme : Lexeme → Lexeme → Bool
same_lexeme m n = sameb the_type m n
