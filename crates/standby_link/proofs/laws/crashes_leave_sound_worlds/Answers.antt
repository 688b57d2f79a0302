use Rattle.standby_link.proofs.CrashFacts.{crashes_leave}
use Rattle.standby_link.proofs.laws.crashes_leave_sound_worlds.Goals as goal

pub returns : goal.returns
returns c = crashes_leave c.worlds_stay_sound.ensures c.crashes_keep_worlds_sound.ensures
