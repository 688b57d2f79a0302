use Rattle.std.proofs.Common.{not, length, ap, ◌∙◌, arith}
use Rattle.house.specs.Batch.{BatchView}
use Rattle.house.proofs.CallingFacts.{any_by_length}
use Rattle.house.proofs.AllFacts.{calls_none, calls_made, done_tried}
use Rattle.house.proofs.BehindFacts.{adds_all, leaves_all, running, stored_there, made_house, stopped_house}
use Rattle.house.proofs.FailedFacts.{keeps_failed, failed_tried, failed_calls}
use Rattle.house.proofs.EndingFacts.{done_house, failed_house, all_failed}
use Rattle.house.proofs.PushFacts.{frame_at, longer_at, longer_none, longer_whole}
use Rattle.house.proofs.YoungFacts.{size_small, young_behind}
use Rattle.house.proofs.MoreFacts.{front_more, front_none}
use Rattle.house.proofs.LoopFacts.{front_begins, front_next, again_next, same_next, alone_at, alone_none, before_few, begun_on, goes_begins}
use Rattle.house.proofs.batch.Batch.any.Goals as goal

pub returns : goal.returns
returns c =
    let e = ap (λ (b : BatchView). length b.entries) c.self.view_is in
    ap not c.is_empty.ensures ∙ any_by_length c.args.self.now.entries _ (omega (arith, e, c.self.inside.entries.ok.0))
