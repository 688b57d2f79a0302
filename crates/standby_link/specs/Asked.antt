-- A wire over which more was said and heard.
use Rattle.std.specs.Prelude.{◌≡◌, List, ◌++◌, Option}
use Rattle.standby_wire.specs.Replied.{Replied, HearingView}
use Rattle.standby.specs.Ending.{is_cut_by}
use Rattle.standby.specs.Sent.{Sent}
use Rattle.standby.specs.declared.follow.FollowEnd.{FollowEnd}
use Rattle.standby_link.specs.Wire.{WireView, IsWire}

-- From old to new, lines were said over a wire and replies read, of which this holds, up to an end, if there is one.
pub record WireGoes (P : HearingView → List Sent → List Replied → Option FollowEnd → Type 0) (old new : WireView) (end : Option FollowEnd) : Type 0 where
  pub said : List Sent
  pub replied : List Replied
  pub says : new.said ≡ old.said ++ said
  pub reads : new.hearing.replied ≡ old.hearing.replied ++ replied
  pub holds : P new.hearing said replied end
  pub start : new.start ≡ old.start
  pub last : new.last ≡ old.last
  pub cut : new.cut ≡ is_cut_by old.cut end
  pub is : IsWire new
