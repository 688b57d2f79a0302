use Rattle.std.proofs.Common.{◌∙◌, sym, ap, map, drop, string_bytes, suc, arith}
use Rattle.std.specs.Prelude.{option_map}
use Rattle.program_words.specs.Parting.{read_parts, with_word}
use Rattle.program_words.proofs.PartingFacts.{refused, next_word}
use Rattle.program_words.proofs.parting.parts_of.Goals as goal

pub returns-in_err-put : goal.returns-in_err-put
returns-in_err-put c =
    let words = c.args.words.now in
    let i = c.loop-word.word-index in
    let parts = read_parts c.loop-word.parts in
    let out = refused parts (map string_bytes words) (map string_bytes (drop i words)) (map string_bytes (drop (suc i) words)) (string_bytes c.word-item.result)
    c.loop-word.invariant (next_word string_bytes words i c.word-item.result (omega arith) c.word-item.is)
    (ap (λ w. with_word parts parts.waiting w) (sym c.as_str.ensures.value) ∙ sym c.in_err-put.ensures) in
    ap (option_map read_parts) c.from_residual.ensures ∙ sym out
