use Rattle.std.proofs.Common.{◌∙◌, sym, ap, Option, Some}
use Rattle.program_words.specs.Parting.{read_parts, with_value, with_word}
use Rattle.program_words.specs.declared.options.OptionName.{OptionName}
use Rattle.program_words.proofs.parting.Parts.put.Goals as goal

pub returns-in-Some : goal.returns-in-Some
returns-in-Some c =
    let parts = read_parts c.args.self.now in
    c.put_value.ensures ∙ ap (λ text. with_value parts (Some c.in-Some.name) text) c.as_bytes.ensures.value
    ∙ ap (λ (name : Option OptionName). with_word parts name c.args.word.now) (sym c.in-Some.is)
