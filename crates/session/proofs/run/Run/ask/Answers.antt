use Rattle.std.proofs.Common.{length, vec_len, arith}
use Rattle.cycle_lock.proofs.Slices.{put_back}
use Rattle.session.proofs.run.Run.ask.Goals as goal

pub returns-clause-rest : goal.returns-clause-rest
returns-clause-rest g c =
    put_back c.deref_mut.result.now c.args.self.now.commands.items c.ask_all.new.commands c.args.at (vec_len c.ask_all.new.replies) (length c.ask_all.new.replies.items) c.args.self.now.commands.len c.deref_mut.ensures.value c.deref_mut.ensures.len
    c.requires.within (omega arith) (omega (arith, c.ask_all.ensures.few, c.ask_all.auto.commands)) c.ask_all.auto.commands c.ask_all.ensures.rest
