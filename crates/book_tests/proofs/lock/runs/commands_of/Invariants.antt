use Rattle.std.proofs.Common.{◌≡◌, All, vec_len}
use Rattle.command_types.specs.declared.ask.Entry.{Entry}
use Rattle.book_tests.proofs.lock.runs.commands_of.Given as goal

abbrev pub invariant-loop-row : goal.invariant-loop-row
invariant-loop-row l = record {
  seats : All (λ (e : Entry). e.seat ≡ l.seat) l.commands.items;
  count : vec_len l.commands ≡ l.row-index;
}
