use Rattle.std.proofs.Common.{rules, ◌≡◌, ◌∙◌, ap, drop, Some}
use Rattle.std.specs.Option.{option_map}
use Rattle.std.specs.Result.{result_ok}
use Rattle.commands.specs.Commands.{asked, word, keyword_of, arguments_of, by_keyword, command_of}
use Rattle.commands.proofs.read.read_command.Goals as goal

pub returns-clause-command : goal.returns-clause-command
returns-clause-command c =
    let words = c.new-words.result in
    let keyword : Some c.in_ok-keyword.keyword ≡ keyword_of (word words) = search rules in
    let command : option_map asked (result_ok c.map_err.result) ≡ arguments_of c.in_ok-keyword.keyword (drop 1 words) = search rules in
    command ∙ ap (λ k. by_keyword k (drop 1 words)) keyword ∙ ap command_of c.new-words.ensures
