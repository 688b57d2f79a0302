use Rattle.std.proofs.Common.{◌≡◌, ◌+◌, ◌≤◌, take}
use Rattle.command_types.specs.Plans.{is_end, is_cut, is_new, count_of}
use Rattle.posting.proofs.counts.counts_of.Given as goal

abbrev pub invariant-loop-step : goal.invariant-loop-step
invariant-loop-step l = record {
  ended : l.counts.ended ≡ count_of is_end (take l.step-index l.plan);
  cut : l.counts.cut ≡ count_of is_cut (take l.step-index l.plan);
  made : l.counts.made ≡ count_of is_new (take l.step-index l.plan);
  few : l.counts.ended + l.counts.cut + l.counts.made ≤ l.step-index;
}
