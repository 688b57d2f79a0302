use Rattle.std.proofs.Common.{IsTrue, sym, ◌∙◌}
use Rattle.units_core.specs.Name.{is_name}
use Rattle.units_core.proofs.NameFacts.{kept}
use Rattle.units_core.proofs.name.Name.read.Goals as goal

pub invariant_of-result : goal.invariant_of-result
invariant_of-result c =
    let form : IsTrue (is_name c.args.text.now) = sym c.is_text_of_name-is_form.ensures ∙ c.if-not-is_form.false in
    rw c.copy_from_slice.ensures.after (kept c.args.text.now form)
