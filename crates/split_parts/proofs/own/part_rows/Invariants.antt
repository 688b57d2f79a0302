use Rattle.std.proofs.Common.{◌≡◌, ◌≤◌, ◌<◌, ◌-◌, length, take}
use Rattle.std.specs.Prelude.{filter_map}
use Rattle.split_parts.specs.Own.{own_row}
use Rattle.split_parts.proofs.Sellers.{StandsAt, StandsIn}
use Rattle.split_parts.proofs.own.part_rows.Given as goal

abbrev pub invariant-loop-number : goal.invariant-loop-number
invariant-loop-number l = record {
  end : l.at ≤ length l.rows;
  own : l.own.items ≡ filter_map (own_row l.part.members.now) (take l.at l.rows);
  stands : StandsAt (λ row. row.seller) l.part.members.now l.rows l.at l.number;
}

abbrev pub invariant-loop-at : goal.invariant-loop-at
invariant-loop-at l = record {
  end : l.at ≤ length l.rows;
  here : l.number < length l.part.members.now;
  own : l.own.items ≡ filter_map (own_row l.part.members.now) (take l.at l.rows);
  stands : StandsIn (λ row. row.seller) l.rows l.at l.seller;
}

abbrev pub decreases-loop-at : goal.decreases-loop-at
decreases-loop-at l = length l.rows - l.at
