use Rattle.std.proofs.Common.{◌≡◌, ℕ, ◌+◌, List, [], ◌∷◌, length, take, ◌∙◌, ap, subst, sym, arith, length-append}
use Rattle.std.specs.List.{concat}
use Rattle.record_pool.specs.Pages.{PagesView, AreFull}
use Rattle.record_pool.proofs.PageFacts.{full_more, same_before}
use Rattle.record_pool.proofs.pages.Pages.add_page.Goals as goal

pub invariant_of-self-2 : goal.invariant_of-self-2
invariant_of-self-2 c =
    let pages = c.self.inside.pages.items in
    let page = c.in_ok-page.page in
    let more = c.in_ok-push.ensures.items in (
      subst AreFull (sym more) (full_more pages page c.self.invariant.0 c.in_ok-page.ensures),
      omega (arith, c.self.invariant.1, ap length more, length-append pages (page ∷ [])),
      omega (arith, c.if-self.false),
    )

pub returns-clause-ok : goal.returns-clause-ok
returns-clause-ok c =
    let pages = c.self.inside.pages.items in
    let page = c.in_ok-page.page in
    let used = c.self.inside.used in
    let bytes : take used (concat c.push.new.self.items) ≡ c.args.self.now.bytes =
    ap (λ (l : List (List ℕ)). take used (concat l)) c.in_ok-push.ensures.items ∙ same_before pages page used c.self.invariant.0 (omega (arith, c.self.invariant.1)) ∙ ap (λ (v : PagesView). v.bytes) c.self.view_is in
    let room : c.self.inside.room + 65536 ≡ c.args.self.now.room + 65536 = ap (λ (v : PagesView). v.room + 65536) c.self.view_is in
    λ i. record { bytes = bytes i; room = room i }
