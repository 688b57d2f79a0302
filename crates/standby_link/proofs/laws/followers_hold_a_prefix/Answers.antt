use Rattle.standby_link.proofs.AnswerFacts.{follows_prefix}
use Rattle.standby_link.proofs.laws.followers_hold_a_prefix.Goals as goal

pub returns : goal.returns
returns c = follows_prefix c.writing_is_read.ensures c.only_the_same_is_read.ensures c.refusals_are_read.ensures c.worlds_stay_sound.ensures
