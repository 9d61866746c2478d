-- `same_lexeme` tells which lexemes are equal.
use Rattle.std.proofs.Common.{◌≡◌, true, refl}
use denote.Enum.Bare.{same_true, true_same}
use Rattle.tokens.specs.contracts.lexeme.Lexeme.{the_type}
use Rattle.tokens.specs.Lexemes.{same_lexeme}
use Rattle.tokens.specs.declared.lexeme.Lexeme.{Lexeme}

pub same_lexemes : (m n : Lexeme) → same_lexeme m n ≡ true → m ≡ n
same_lexemes m n e = same_true the_type tt m n e

pub same_self : (m : Lexeme) → same_lexeme m m ≡ true
same_self m = true_same the_type m m refl
