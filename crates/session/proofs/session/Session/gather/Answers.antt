use Rattle.std.proofs.Common.{◌+◌, ◌-◌, ◌++◌, ◌∷◌, [], List, take, drop, ◌∙◌, ap, sym, subst, arith}
use Rattle.command_types.specs.declared.ask.Entry.{Entry}
use Rattle.session.specs.declared.run.Run.{Run}
use Rattle.session.specs.AskedRun.{IsRunOf}
use Rattle.session.specs.Runs.{IsCommandOf}
use Rattle.session.specs.Serving.{roster_of}
use Rattle.session.specs.Standing.{Stand, stand_of}
use Rattle.session.proofs.CommandFacts.{feed_within, part_is, piece_push}
use Rattle.session.proofs.session.Session.gather.Goals as goal

pub loop-end-preserved : goal.loop-end-preserved
loop-end-preserved g c =
    let clock = g.C.Clock.tells c.args.clock.now in
    let stand = stand_of c.args.self.now in
    let piece = c.args.piece.now in
    let end = c.loop-end.end in
    let size = c.in-Some.size in
    let command = c.in-Some-command_of.command in
    let stays = c.loop-end.invariant.stays in
    let within = feed_within piece end size c.in-Some.ensures.feed.0 in
    let P : Stand → Type 0 = λ s. IsCommandOf clock (roster_of s.sight) s.sight.seat.number s.speaker (take (end + size - end) (drop end piece)) command in
    let of = subst P stays c.in-Some-command_of.ensures.command in
    let longer = piece_push clock (roster_of stand.sight) stand.sight.seat.number stand.speaker piece _ end size c.loop-end.self.run.commands.items command c.loop-end.invariant.run (part_is piece end) within c.in-Some.ensures.feed.1 c.in-Some.ensures.feed.2 of in
    let items = c.push.ensures ∙ ap (λ (r : Run). r.commands.items ++ command ∷ []) c.command_of.ensures.run in
    let R : List Entry → Type 0 = λ es. IsRunOf clock stand (take (end + (size + 1)) piece) es in
    record {
      within = omega (arith, within);
      stays = c.command_of.ensures.stays ∙ stays;
      run = subst R (sym items) longer;
    }
