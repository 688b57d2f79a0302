use Rattle.cycle_states.proofs.CycleFacts.{young_small}
use Rattle.compress_server.proofs.replay_text.text_of.Goals as goal

pub push_members-requires : goal.push_members-requires
push_members-requires c = young_small c.args.read.now.machine.state c.args.read.now.past c.requires c.length-length.ensures.small c.length-length.ensures.few
