use Rattle.std.proofs.Common.{◌∙◌, ap, sym}
use Rattle.command_text.specs.ReadOf.{read_of}
use Rattle.command_text.proofs.WordFacts.{after_first}
use Rattle.command_text.proofs.line_reader.read_line.Goals as goal

pub returns-in-Some : goal.returns-in-Some
returns-in-Some c =
    c.read_command.ensures ∙ ap read_of (sym (after_first c.args.line.now c.in-Some.verb.now c.new-words.result c.next_word.new.self c.new-words.ensures c.in-Some.ensures.some))
