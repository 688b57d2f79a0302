use Rattle.std.proofs.Common.{◌≡◌, Err, IfErr, rules, refl, sym, subst}
use Rattle.compress_server.proofs.RollFacts.{made_can_be_written, is_rolled, rests_writable, rolled_at_rest, fits_at_rest, unmade_at_rest}
use Rattle.compress_server.specs.Cancelled.{rolled_past}
use Rattle.compress_server.specs.Roll.{IsUnmade}
use Rattle.compress_server.proofs.rolling.text_of.Goals as goal

pub fresh_journal-requires : goal.fresh_journal-requires
fresh_journal-requires c =
    let was = c.args.read.now in
    let period = c.args.period.now in
    let r = c.requires in
    let s = c.bring_to_rest.new.read.machine.state in
    let rests = c.in-Ok.ensures in
    let writable = rests_writable period.cancel was.machine.state s was.past r.replayed rests.replayed c.in-Ok.position rests.position was.machine.state.roster r.base in
    let goes_on = rolled_at_rest period.cancel was.machine.state s was.past r.replayed rests.replayed c.in-Ok.position rests.position period.roster.now period.matured _ c.in_ok-made.ensures.rolled in
    made_can_be_written was.machine.state.roster period.roster.now period.matured (rolled_past period.cancel was.past) writable s rests.replayed r.old r.new c.in_ok-made.made goes_on

pub returns-in-Ok-Some-clause-text : goal.returns-in-Ok-Some-clause-text
returns-in-Ok-Some-clause-text c =
    let was = c.args.read.now in
    let period = c.args.period.now in
    let r = c.requires in
    let s = c.bring_to_rest.new.read.machine.state in
    let rests = c.in-Ok.ensures in
    let writable = rests_writable period.cancel was.machine.state s was.past r.replayed rests.replayed c.in-Ok.position rests.position was.machine.state.roster r.base in
    let e = c.in_ok-made.ensures in
    let goes_on = rolled_at_rest period.cancel was.machine.state s was.past r.replayed rests.replayed c.in-Ok.position rests.position period.roster.now period.matured _ e.rolled in
    let fits = fits_at_rest period.cancel was.machine.state s was.past r.replayed rests.replayed c.in-Ok.position rests.position e.fits in
    let now = c.in-Ok-Some in
    let bytes = rw now.field-0-is at now.ensures.bytes in
    let stands = rw now.field-0-is at now.ensures.stands in
    is_rolled was.machine.state.roster period.roster.now period.matured (rolled_past period.cancel was.past) writable s rests.replayed r.old r.new c.in_ok-made.made goes_on fits now.text.items bytes stands

pub returns-in_err-made-clause-other : goal.returns-in_err-made-clause-other
returns-in_err-made-clause-other c =
    let was = c.args.read.now in
    let period = c.args.period.now in
    let s = c.bring_to_rest.new.read.machine.state in
    let rests = c.in-Ok.ensures in
    let cause = c.in_err-made.field-0.0 in
    let is : c.from_residual.result ≡ Err cause = search rules in
    subst (λ r. IfErr r (IsUnmade was.machine.state.roster period.roster.now period.matured (rolled_past period.cancel was.past))) (sym is)
    (unmade_at_rest period.cancel was.machine.state s was.past c.requires.replayed rests.replayed c.in-Ok.position rests.position period.roster.now period.matured cause c.in_err-made.ensures.other)

pub returns-in-Ok-None-clause-other : goal.returns-in-Ok-None-clause-other
returns-in-Ok-None-clause-other c =
    let was = c.args.read.now in
    let period = c.args.period.now in
    let s = c.bring_to_rest.new.read.machine.state in
    let rests = c.in-Ok.ensures in
    let goes_on = rolled_at_rest period.cancel was.machine.state s was.past c.requires.replayed rests.replayed c.in-Ok.position rests.position period.roster.now period.matured _ c.in_ok-made.ensures.rolled in
    let now = c.in-Ok-None in
    let too_long = rw now.field-0-is at now.ensures.too_long in
    (c.in_ok-made.made, goes_on, too_long.0 refl)
