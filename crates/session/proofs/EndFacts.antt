-- What every end of a session keeps.
use Rattle.std.proofs.Common.{◌≡◌, ℕ, Bool, List, Option, inl, inr, ap}
use Rattle.outside.specs.Flow.{Flow}
use Rattle.session.specs.declared.serve.SessionEnd.{SessionEnd}
use Rattle.session.specs.declared.serve.SessionEnd.TheVariants.{Ended, SourceFault, SinkFault, Limit, Memory}
use Rattle.session.specs.Serving.{Sight}
use Rattle.session.specs.Ending.{Ends}

-- the seat stays
pub seat_stays : (clock : ℕ → Bool) (start : Sight) (opened flow : Option Flow) (begun taken : Option (List ℕ)) (now : Sight) (end : SessionEnd) → Ends clock start opened flow begun taken now end → now.seat ≡ start.seat
seat_stays clock start opened flow begun taken now Ended (bytes, gives, inl (at_end, within, written)) = written.grows.seat
seat_stays clock start opened flow begun taken now Ended (bytes, gives, inr (within, left)) = left.written.grows.seat
seat_stays clock start opened flow begun taken now SourceFault (bytes, gives, within, (written, on)) = written.grows.seat
seat_stays clock start opened flow begun taken now SinkFault (bytes, gives, inl (within, cut)) = cut.cut.grows.seat
seat_stays clock start opened flow begun taken now SinkFault (bytes, gives, inr (at_end, within, cut)) = cut.cut.grows.seat
seat_stays clock start opened flow begun taken now Limit (bytes, gives, within, (written, on)) = written.grows.seat
seat_stays clock start opened flow begun taken now Memory (read, wrote, same) = ap (λ s. s.seat) same
