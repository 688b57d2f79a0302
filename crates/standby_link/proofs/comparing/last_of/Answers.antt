use Rattle.std.proofs.Common.{◌≡◌, ◌+◌, ◌-◌, sym, subst, arith}
use Rattle.command_types.specs.History.{end_of}
use Rattle.standby_link.specs.Compared.{IsToldLast}
use Rattle.standby_link.proofs.LastFacts.{told_last, told_same}
use Rattle.standby_link.proofs.comparing.last_of.Goals as goal

pub returns-clause-same : goal.returns-clause-same
returns-clause-same g c =
    let last : c.length-length.result - 1 + 1 ≡ end_of c.args.house.now.history = omega (arith, c.if-length-eq0.false, c.length-length.ensures.length) in
    told_same c.args.house.now c.args.name (c.length-length.result - 1) c.new.result last c.call-reply.new.self 0 c.call-reply.result c.call-reply.ensures.calls

pub returns-clause-last : goal.returns-clause-last
returns-clause-last g c =
    let last : c.length-length.result - 1 + 1 ≡ end_of c.args.house.now.history = omega (arith, c.if-length-eq0.false, c.length-length.ensures.length) in
    subst (IsToldLast c.args.house.now c.args.name) (sym c.last_in.ensures)
    (told_last c.args.house.now c.args.name (c.length-length.result - 1) c.new.result last c.call-reply.new.self 0 c.call-reply.result c.call-reply.ensures.calls)
