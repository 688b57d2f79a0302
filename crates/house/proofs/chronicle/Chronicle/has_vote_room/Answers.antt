use Rattle.std.proofs.Common.{subst}
use Rattle.house.specs.Chronicle.{ChronicleView, HasVoteRoom}
use Rattle.house.proofs.chronicle.Chronicle.has_vote_room.Goals as goal

pub returns : goal.returns
returns c = subst (λ (v : ChronicleView). HasVoteRoom v.history v.room) c.self.view_is c.self.invariant.1
