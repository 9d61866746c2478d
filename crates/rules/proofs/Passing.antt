-- How a reader goes past a token.
use Rattle.std.proofs.Common.{◌≡◌, ℕ, suc, List, length, Some, None, Option, sym, ap, ◌∙◌, subst, Bor}
use Rattle.tokens.specs.Tokens.{with_name, tokens_from, names_after, names_of}
use Rattle.tokens.specs.Lexing.{symbol, with_token}
use Rattle.tokens.specs.declared.token.Token.{Token}
use Rattle.tokens.specs.declared.token.Token.TheVariants.{Name}
use Rattle.rules.specs.Names.{words_of, Celled}
use Rattle.rules.specs.Readers.{Settled}
use Rattle.rules.specs.declared.names.Names.{Names}
use Rattle.rules.proofs.Numbering.{again}

-- the names with a name token's word are still those of the text
numbered_with : (names : List (List ℕ)) (p i : ℕ) (text : List ℕ) (w : Bor (List ℕ)) (t : Token) → t ≡ Name w → names_after names (with_token names p t i text) ≡ names_of text → names_after (with_name names w.now) (with_token (with_name names w.now) p t i text) ≡ names_of text
numbered_with names p i text w t is h =
    let ns = with_name names w.now in
    ap (λ o. names_after ns (with_token ns p o i text)) is
    ∙ ap (λ l. names_after l (tokens_from l i text)) (again names w.now)
    ∙ sym (ap (λ o. names_after names (with_token names p o i text)) is)
    ∙ h

pub still_numbered : (old new : Names) (o : Option ℕ) (p i : ℕ) (text : List ℕ) (w : Bor (List ℕ)) (t : Token) → Celled w.now old new o → t ≡ Name w → names_after (words_of old) (with_token (words_of old) p t i text) ≡ names_of text → names_after (words_of new) (with_token (words_of new) p t i text) ≡ names_of text
still_numbered old new (Some c) p i text w t h is e = subst (λ l. names_after l (with_token l p t i text) ≡ names_of text) (sym h.2) (numbered_with (words_of old) p i text w t is e)
still_numbered old new None p i text w t h is e = subst (λ n. names_after (words_of n) (with_token (words_of n) p t i text) ≡ names_of text) (sym h.1) e

-- and there are as many tokens as before
as_many_with : (names : List (List ℕ)) (p i : ℕ) (text : List ℕ) (w : Bor (List ℕ)) (t : Token) → t ≡ Name w → length (with_token names p t i text) ≡ length (with_token (with_name names w.now) p t i text)
as_many_with names p i text w t is =
    let ns = with_name names w.now in
    ap (λ o. length (with_token names p o i text)) is
    ∙ ap (λ l. suc (length (tokens_from l i text))) (sym (again names w.now))
    ∙ sym (ap (λ o. length (with_token ns p o i text)) is)

pub as_many : (old new : Names) (o : Option ℕ) (p i : ℕ) (text : List ℕ) (w : Bor (List ℕ)) (t : Token) → Celled w.now old new o → t ≡ Name w → length (with_token (words_of old) p t i text) ≡ length (with_token (words_of new) p t i text)
as_many old new (Some c) p i text w t h is = as_many_with (words_of old) p i text w t is ∙ ap (λ l. length (with_token l p t i text)) (sym h.2)
as_many old new None p i text w t h is = ap (λ n. length (with_token (words_of n) p t i text)) (sym h.1)

-- a name token adds nothing once its word is among the names
pub settled_name : (names before : List (List ℕ)) (w : Bor (List ℕ)) (t : Token) → t ≡ Name w → names ≡ with_name before w.now → Settled (symbol names t) names
settled_name names before w t is e = subst (λ o. Settled (symbol names o) names) (sym is) (subst (λ l. with_name l w.now ≡ l) (sym e) (again before w.now))
