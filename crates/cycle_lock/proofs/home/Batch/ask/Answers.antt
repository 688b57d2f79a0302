use Rattle.std.proofs.Common.{vec_len, sym, arith}
use Rattle.cycle_lock.proofs.Slices.{put_back}
use Rattle.cycle_lock.proofs.home.Batch.ask.Goals as goal

pub returns-clause-rest : goal.returns-clause-rest
returns-clause-rest g c =
    put_back c.deref_mut.result.now c.args.self.now.commands.items c.ask_all.new.commands c.args.from (vec_len c.ask_all.new.replies) (vec_len c.reverse.new.self) c.args.self.now.commands.len c.deref_mut.ensures.value c.deref_mut.ensures.len
    (let w = c.requires.within in omega arith) (sym c.reverse.ensures.len) (omega (arith, c.ask_all.ensures.few, c.ask_all.auto.commands, c.reverse.ensures.len)) c.ask_all.auto.commands c.ask_all.ensures.rest
