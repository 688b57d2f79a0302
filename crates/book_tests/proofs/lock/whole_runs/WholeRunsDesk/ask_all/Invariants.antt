use Rattle.std.proofs.Common.{◌≡◌, false, length, take, drop, vec_len, vec_capacity}
use Rattle.command_types.specs.InTurn.{AreToldInTurn}
use Rattle.cycle_states.specs.PlainDesk.{plain_figures}
use Rattle.book_tests.proofs.lock.whole_runs.WholeRunsDesk.ask_all.Given as goal

abbrev pub invariant-loop-i : goal.invariant-loop-i
invariant-loop-i l = record {
  told : AreToldInTurn (plain_figures l.fn.self.desk) false false l.fn.self.desk (take l.i l.fn.commands) l.replies.items l.self.desk;
  figures : plain_figures l.self.desk ≡ plain_figures l.fn.self.desk;
  rest : drop l.i l.commands ≡ drop l.i l.fn.commands;
  long : length l.commands ≡ length l.fn.commands;
  many : vec_len l.replies ≡ l.i;
  capacity : vec_capacity l.replies ≡ vec_capacity l.fn.replies;
}
