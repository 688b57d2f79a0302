use Rattle.std.proofs.Common.{◌∙◌, ◌≤◌, length, arith, refl, ap, sym, subst}
use Rattle.std.proofs.lemmas.Bool.{false≢true}
use Rattle.command_types.specs.declared.figures.Cycle.{Cycle}
use Rattle.command_types.specs.Cycles.{closed}
use Rattle.cycle_states.specs.Ballot.{planned_rows, IsBallot}
use Rattle.cycle_states.specs.Frozen.{AreOfFreeze}
use Rattle.cycle_states.specs.Machine.{AreTaken, IsCycle, IsUnbroken}
use Rattle.cycle_states.proofs.BallotFacts.{no_ballot}
use Rattle.cycle_states.proofs.KeptFacts.{closed_kept}
use Rattle.cycle_states.proofs.machine.Machine.new.Goals as goal

pub invariant_of-result : goal.invariant_of-result
invariant_of-result c =
    let roster = c.args.roster in
    let rows = c.in_ok-book.book.rows in (
      record {
        few_members = omega (arith, ap length c.members.ensures.rows, c.members.ensures.few);
        few_products = omega (arith, ap length c.products.ensures.rows, c.products.ensures.few);
        book = record {
          members_all = c.in_ok-book.ensures.members ∙ ap length c.members.ensures.rows;
          products_all = c.in_ok-book.ensures.products ∙ ap length c.products.ensures.rows;
        };
        unbroken = subst (λ (cycle : Cycle). IsUnbroken cycle.phase rows) (sym c.in_ok-cycle.ensures) (λ may. absurd (false≢true may));
        cycle_kept = subst (λ (cycle : Cycle). IsCycle roster rows cycle) (sym c.in_ok-cycle.ensures) (closed_kept roster rows 0 0);
      },
      subst (λ (cycle : Cycle). IsBallot (length roster.members) rows cycle c.none-2.result) (sym c.in_ok-cycle.ensures) (no_ballot (length roster.members) rows (closed 0 0) c.none-2.result refl),
      subst (λ (cycle : Cycle). AreTaken cycle c.new-2.result.taken) (sym c.in_ok-cycle.ensures) (λ stands. absurd (false≢true stands)),
      subst (λ (cycle : Cycle). AreOfFreeze c.in_ok-book.book.members rows cycle.phase c.none-3.result) (sym c.in_ok-cycle.ensures) (λ may. absurd (false≢true may)),
      subst (λ (cycle : Cycle). planned_rows cycle ≤ c.in_ok-book.book.spare) (sym c.in_ok-cycle.ensures) (omega arith),
    )
