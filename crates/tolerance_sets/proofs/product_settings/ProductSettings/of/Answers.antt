use Rattle.tolerance_sets.proofs.product_settings.ProductSettings.of.Goals as goal

pub invariant_of-result : goal.invariant_of-result
invariant_of-result c = c.marks.ensures
