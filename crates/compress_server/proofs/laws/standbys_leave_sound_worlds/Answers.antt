use Rattle.compress_server.proofs.StandbyFacts.{leave_sound_worlds}
use Rattle.compress_server.proofs.laws.standbys_leave_sound_worlds.Goals as goal

pub returns : goal.returns
returns c = leave_sound_worlds c.folds_keep_the_list.ensures c.crashes_leave_sound_worlds.ensures
