use Rattle.std.proofs.Common.{◌≤◌, ℕ, length, IsTrue, sym, subst}
use Rattle.command_types.specs.Cycles.{is_proposed}
use Rattle.command_types.specs.Trades.{gross_of}
use Rattle.acceptance.specs.Parties.{IsPlanBelow}
use Rattle.product_book.specs.Book.{gross_limit, AreTrades, BookView}
use Rattle.cycle_states.specs.Machine.{IsWhole}
use Rattle.cycle_states.specs.Undo.{rows_undone}
use Rattle.cycle_states.proofs.BallotFacts.{ballot_back}
use Rattle.cycle_states.proofs.FrozenFacts.{same_frozen_of}
use Rattle.cycle_states.proofs.SettledFacts.{proposal_settled}
use Rattle.cycle_states.proofs.UndoFacts.{machine_back, undone_parties}
use Rattle.cycle_states.proofs.machine.Machine.undo.Goals as goal

pub invariant_of-self : goal.invariant_of-self
invariant_of-self c =
    let m = c.self.inside in
    let is = c.take_back.ensures in
    let may = rw (← c.self.view_is) at c.requires in
    let rows = rows_undone m.book.rows c.args.undo.now in
    let machine = machine_back m.roster m.book.members m.book.products m.book.rows rows m.cycle may.frozen c.self.invariant.0 in
    let trades = subst (λ (book : BookView). AreTrades book.members book.products 1 book.rows) is c.rows-rows.ensures.trades in
    let bounded = subst (λ (book : BookView). (product : ℕ) → gross_of product book.rows ≤ gross_limit) is c.rows-rows.ensures.bounded in
    let below : IsTrue (is_proposed m.cycle.phase) → IsPlanBelow rows (length m.roster.members) m.cycle.plan =
    λ on. (proposal_settled m.roster m.book.members m.book.products rows m.cycle machine on trades bounded).parties in
    subst (λ (book : BookView). IsWhole m.roster book m.tolerances m.cycle m.ballot m.frozen) (sym is) (
      machine,
      ballot_back (length m.roster.members) m.book.rows rows m.cycle m.ballot below (undone_parties m.book.rows c.args.undo.now may.trades) c.self.invariant.1,
      c.self.invariant.2,
      λ breaks. same_frozen_of m.book.members m.book.rows rows m.frozen (may.frozen breaks) (c.self.invariant.3 breaks),
      c.self.invariant.4,
    )
