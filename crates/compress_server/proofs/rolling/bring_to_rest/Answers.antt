use Rattle.cycle_states.proofs.CycleFacts.{young_small}
use Rattle.compress_server.proofs.RollFacts.{rests}
use Rattle.compress_server.proofs.rolling.bring_to_rest.Goals as goal

pub cancel_open-requires : goal.cancel_open-requires
cancel_open-requires c =
    let read = c.args.read.now in
    young_small read.machine.state read.past c.requires c.length-length.ensures.small c.length-length.ensures.few

pub returns-clause-replayed : goal.returns-clause-replayed
returns-clause-replayed c =
    let read = c.args.read.now in
    rests c.args.cancel read.machine.state c.cancel_open.new.machine.state read.past c.if-not-cancel.false c.requires c.in_ok-more.ensures.state c.in_ok-more.ensures.legal
