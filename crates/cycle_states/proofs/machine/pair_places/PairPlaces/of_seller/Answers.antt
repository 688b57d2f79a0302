use Rattle.cycle_states.specs.PairPlaces.{pair_place}
use Rattle.cycle_states.proofs.PlaceFacts.{limits_before, rows_before}
use Rattle.cycle_states.proofs.machine.pair_places.PairPlaces.of_seller.Goals as goal

pub returns : goal.returns
returns c =
    let part = c.args.part.now in
    let place = pair_place c.args.seller 0 in
    record {
      limit = limits_before c.limit_rows.result.now part.problem.now.limits.rows c.first_limit-limit.result place c.limit_rows.ensures.rows c.first_limit-limit.ensures.end c.first_limit-limit.ensures.cursor;
      now = rows_before c.rows_now.result.now part.problem.now.network.rows c.first_row-now.result place c.rows_now.ensures.rows c.first_row-now.ensures.end c.first_row-now.ensures.cursor;
      next = rows_before c.rows_next.result.now part.solution.now.network.rows c.first_row-next.result place c.rows_next.ensures.rows c.first_row-next.ensures.end c.first_row-next.ensures.cursor;
    }
