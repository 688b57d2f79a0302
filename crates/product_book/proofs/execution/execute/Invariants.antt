use Rattle.std.proofs.Common.{◌≡◌, ◌+◌, length, take, vec_len, vec_capacity}
use Rattle.command_types.specs.Plans.{executed, count_of, is_new}
use Rattle.product_book.specs.Execution.{IsRunning}
use Rattle.product_book.proofs.execution.execute.Given as goal

abbrev pub invariant-loop-step : goal.invariant-loop-step
invariant-loop-step l = record {
  items : l.rows.items ≡ executed (take l.step-index l.plan) l.initial.rows.items;
  len : vec_len l.rows ≡ vec_len l.initial.rows + count_of is_new (take l.step-index l.plan);
  capacity : vec_capacity l.rows ≡ vec_capacity l.initial.rows;
  members : l.sums.members ≡ l.initial.sums.members;
  spare : l.links.spare + count_of is_new (take l.step-index l.plan) ≡ l.initial.links.spare;
  running : IsRunning l.initial.sums.members (length l.initial.links.by_product.lists) l.sums l.links.by_product l.links.by_pair l.links.spare l.rows.items;
}
