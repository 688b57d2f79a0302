use Rattle.std.proofs.Common.{◌≡◌, None}
use Rattle.file_market.specs.Check.{first_failing_below}
use Rattle.file_market.proofs.checking.first_failing.Given as goal

abbrev pub invariant-loop-product : goal.invariant-loop-product
invariant-loop-product g l = first_failing_below l.fn.terms.roster.now l.fn.terms.mode l.fn.networks l.fn.parts l.product ≡ None
