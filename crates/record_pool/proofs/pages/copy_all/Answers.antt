use Rattle.std.proofs.Common.{ℕ, ◌+◌, ◌-◌, List, ◌++◌, length, take, drop, ◌∙◌, ap, arith}
use Rattle.std.specs.List.{concat}
use Rattle.record_pool.proofs.PageFacts.{copied}
use Rattle.record_pool.proofs.pages.copy_all.Goals as goal

pub loop-left-preserved : goal.loop-left-preserved
loop-left-preserved c =
    let all = concat c.args.pages.now in
    let at = c.loop-left.at in
    let left = c.loop-left.left in
    let piece = c.front-piece.result.now in
    record {
      sum = omega (arith, c.loop-left.invariant.sum, c.front-piece.ensures.most);
      told = ap (λ (l : List ℕ). l ++ take (left - length piece) (drop (at + length piece) all)) c.in_ok-extend_from_slice.ensures.items
          ∙ copied all c.loop-left.into.items piece at left c.front-piece.ensures.bytes c.front-piece.ensures.most ∙ c.loop-left.invariant.told;
    }
