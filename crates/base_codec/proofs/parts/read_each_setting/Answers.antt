use Rattle.std.proofs.lemmas.Result.{err_from_is_err_and}
use Rattle.record_codec.proofs.LoopFacts.{fails}
use Rattle.base_codec.specs.Reading.{settings_each}
use Rattle.base_codec.proofs.SettingReading.{next_place, settings_go}
use Rattle.base_codec.proofs.FromReading.{from_goes_on, from_ends, from_done}
use Rattle.base_codec.proofs.parts.read_each_setting.Goals as goal

pub returns-in_err-row : goal.returns-in_err-row
returns-in_err-row c =
    let p = err_from_is_err_and c.from_residual.result c.from_residual.ensures.1 in
    rw (p.1, p.2) (from_ends next_place settings_each settings_go _ _ _ _ _ _ _ c.loop-test.true (fails _ _ c.in_err-row.ensures.reads) c.loop.invariant)

pub loop-preserved : goal.loop-preserved
loop-preserved c =
    rw (c.in_ok-push.ensures.items, c.in_ok-row.ensures.place)
    (from_goes_on next_place settings_each settings_go _ _ _ _ _ _ _ _ c.loop-test.true c.in_ok-row.ensures.reads c.loop.invariant)

pub returns : goal.returns
returns c = from_done next_place settings_each settings_go _ _ _ _ _ _ c.loop-test.false c.loop.invariant
