use Rattle.std.proofs.Common.{length, ap, arith}
use Rattle.record_pool.specs.Pages.{PagesView}
use Rattle.record_pool.proofs.PageFacts.{used_length}
use Rattle.record_pool.proofs.pages.Pages.len.Goals as goal

pub returns-clause-count : goal.returns-clause-count
returns-clause-count c =
    omega (arith, ap (λ (v : PagesView). length v.bytes) c.self.view_is, used_length c.self.inside.pages.items c.self.inside.used c.self.invariant.0 (omega (arith, c.self.invariant.1)))
