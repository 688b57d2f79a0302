use Rattle.std.proofs.Common.{◌≡◌, ◌++◌, map, ◌∙◌, ap}
use Rattle.std.proofs.lemmas.List.{append-nil}
use Rattle.recovery.specs.Bodies.{changes_in}
use Rattle.record_pool.specs.Appended.{AppendedView}
use Rattle.record_pool.specs.Parts.{in_second}
use Rattle.record_pool.proofs.pool.Pool.opened.Goals as goal

pub returns : goal.returns
returns c = λ base all holds.
    let opened = c.in_ok-opened.opened in
    let changes : opened ++ map in_second c.new.result.records ≡ changes_in c.args.start all =
    ap (λ (v : AppendedView). opened ++ map in_second v.records) c.new.ensures ∙ append-nil opened ∙ c.in_ok-opened.ensures base all holds in
    let room : c.new.result.room ≡ 0 = ap (λ (v : AppendedView). v.room) c.new.ensures in
    λ i. record { changes = changes i; room = room i }
