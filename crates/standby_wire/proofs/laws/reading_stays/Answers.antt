use Rattle.standby_wire.proofs.StayFacts.{reply_stays_bad, reply_stays, reply_front}
use Rattle.standby_wire.proofs.laws.reading_stays.Goals as goal

pub returns : goal.returns
returns c = record { bad = reply_stays_bad; read = reply_stays; front = reply_front }
