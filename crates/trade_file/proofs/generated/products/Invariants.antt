use Rattle.std.proofs.Common.{◌≡◌}
use Rattle.trade_file.specs.Generated.{first_products}
use Rattle.trade_file.proofs.generated.products.Given as goal

abbrev pub invariant-loop-product : goal.invariant-loop-product
invariant-loop-product l = l.products.items ≡ first_products l.product
