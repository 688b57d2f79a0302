-- A machine, a change and a desk without a journal may go to another thread. A search over all that they own stops at its limits, so each
-- row has a fact of its own; a test whose desk goes to a thread cites `plain_desk_send` for what its call asks, as `calls-requires-send-T`.
use denote.Param.Send.{IsSend, sendable}
use denote.Param.SendFields.{declared_send}
use Rattle.std.proofs.Crossing.{crosses}
use Rattle.network_laws.specs.contracts.problem.Problem as Problem
use Rattle.network_laws.specs.contracts.solution.Solution as Solution
use Rattle.command_types.specs.contracts.roster.Roster as Roster
use Rattle.command_types.specs.contracts.ask.What as What
use Rattle.command_types.specs.contracts.ask.Ask as Ask
use Rattle.command_types.specs.contracts.ask.Entry as Entry
use Rattle.command_types.specs.contracts.moment.Moment as Moment
use Rattle.acceptance.specs.contracts.free_trades.FreeTrades as FreeTrades
use Rattle.product_book.specs.contracts.book.Book as Book
use Rattle.tolerance_sets.specs.contracts.settings.Settings as Settings
use Rattle.tolerance_sets.specs.contracts.tolerances.Tolerances as Tolerances
use Rattle.cycle_states.specs.contracts.machine.begun.Begun as Begun
use Rattle.cycle_states.specs.contracts.machine.cycle.Cycle as Cycle
use Rattle.cycle_states.specs.contracts.machine.frozen.Frozen as Frozen
use Rattle.cycle_states.specs.contracts.machine.Machine as Machine
use Rattle.cycle_states.specs.contracts.plain_desk.PlainDesk as PlainDesk

roster_send : IsSend Roster.the_row
roster_send = search (sendable, crosses) depth 60

book_send : IsSend Book.the_row
book_send = search (sendable, crosses) depth 60

settings_send : IsSend Settings.the_row
settings_send = search (sendable, crosses) depth 60

tolerances_send : IsSend Tolerances.the_row
tolerances_send = search (settings_send, sendable, crosses) depth 60

problem_send : IsSend Problem.the_row
problem_send = search (sendable, crosses) depth 60

solution_send : IsSend Solution.the_row
solution_send = search (sendable, crosses) depth 60

begun_send : IsSend Begun.the_row
begun_send = search (problem_send, sendable, crosses) depth 60

cycle_send : IsSend Cycle.the_row
cycle_send = search (begun_send, solution_send, sendable, crosses) depth 60 fits 100000

free_send : IsSend FreeTrades.the_row
free_send = search (sendable, crosses) depth 60

frozen_send : IsSend Frozen.the_row
frozen_send = search (free_send, sendable, crosses) depth 60 fits 100000

pub machine_send : IsSend Machine.the_row
machine_send = search (roster_send, book_send, tolerances_send, cycle_send, frozen_send, sendable, crosses) depth 60

what_send : IsSend What.the_row
what_send = search (solution_send, sendable, crosses) depth 200 fits 100000

moment_send : IsSend Moment.the_row
moment_send = search (sendable, crosses) depth 60

ask_send : IsSend Ask.the_row
ask_send = declared_send Ask.the_type (search (sendable, crosses) depth 60, (what_send, (moment_send, tt)))

pub entry_send : IsSend Entry.the_row
entry_send = declared_send Entry.the_type (search (sendable, crosses) depth 60, (ask_send, tt))

pub plain_desk_send : IsSend PlainDesk.the_row
plain_desk_send = search (machine_send, entry_send, sendable, crosses) depth 60 fits 100000
