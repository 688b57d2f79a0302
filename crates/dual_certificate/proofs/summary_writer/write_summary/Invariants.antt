use Rattle.std.proofs.Common.{◌≡◌}
use Rattle.dual_certificate.specs.SummaryText.{summary_below}
use Rattle.dual_certificate.proofs.summary_writer.write_summary.Given as goal

abbrev pub invariant-loop-product : goal.invariant-loop-product
invariant-loop-product l = l.out.items ≡ summary_below l.fn.roster l.fn.old l.fn.solutions l.product
