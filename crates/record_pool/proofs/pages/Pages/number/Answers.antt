use Rattle.std.proofs.Common.{ℕ, ◌+◌, ◌≤◌, List, length, take, drop, sym, ◌∙◌, ap, arith}
use Rattle.std.specs.List.{concat}
use Rattle.record_pool.specs.Pages.{PagesView}
use Rattle.record_pool.proofs.PageFacts.{used_length, part_used}
use Rattle.record_pool.proofs.pages.Pages.number.Goals as goal

pub returns : goal.returns
returns c =
    let pages = c.self.inside.pages.items in
    let used = c.self.inside.used in
    let at = c.args.at in
    let size = used_length pages used c.self.invariant.0 (omega (arith, c.self.invariant.1)) in
    let inside : at + 4 ≤ used = omega (arith, c.requires, ap (λ (v : PagesView). length v.bytes) c.self.view_is, size) in
    c.number_at.ensures ∙ ap (λ (l : List (List ℕ)). take 4 (drop at (concat l))) c.deref.ensures.value ∙ sym (part_used (concat pages) used at 4 inside)
    ∙ ap (λ (v : PagesView). take 4 (drop at v.bytes)) c.self.view_is
