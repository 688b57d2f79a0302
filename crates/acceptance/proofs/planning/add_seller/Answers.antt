use Rattle.std.proofs.Common.{◌≡◌, ℕ, ◌+◌, ◌*◌, ◌≤◌, ◌++◌, List, length, arith, sym, ap, ◌∙◌, subst}
use Rattle.network_laws.specs.declared.rows.Row.{Row}
use Rattle.network_laws.specs.Networks.{amount_in, IsCursor}
use Rattle.command_types.specs.declared.plan.PlanRow.{PlanRow}
use Rattle.command_types.specs.Books.{listed_below}
use Rattle.command_types.specs.Plans.{free_rows, pair_plan}
use Rattle.acceptance.specs.Planning.{pair_steps}
use Rattle.acceptance.proofs.PlanFacts.{one_more, amount_le}
use Rattle.acceptance.proofs.SamePlans.{steps_same}
use Rattle.acceptance.proofs.PairRows.{passed}
use Rattle.acceptance.proofs.RowCursors.{before_next}
use Rattle.acceptance.proofs.planning.add_seller.Goals as goal

-- what a buyer's place says of the cursors up to it
abbrev Raises : List Row → ℕ → ℕ → ℕ → Type 0
Raises rows m i end = (buyer : ℕ) → buyer ≤ end → IsCursor rows m (i * 65536 + buyer) → (to : ℕ) → buyer ≤ to → to ≤ end → IsCursor rows m (i * 65536 + to)

raised : (rows due : List Row) (m i from to end : ℕ) → rows ≡ due → Raises rows m i end → from ≤ to → to ≤ end → IsCursor due m (i * 65536 + from) → IsCursor due m (i * 65536 + to)
raised rows due m i from to end e raises up most at =
    subst (λ (xs : List Row). IsCursor xs m (i * 65536 + to)) e (raises from (omega arith) (subst (λ (xs : List Row). IsCursor xs m (i * 65536 + from)) (sym e) at) to up most)

first_from : (rows due : List Row) (m i from members end : ℕ) → rows ≡ due → ((buyer : ℕ) → buyer ≤ members → IsCursor rows m (i * 65536 + buyer) → buyer ≤ end) → from ≤ members → IsCursor due m (i * 65536 + from) → from ≤ end
first_from rows due m i from members end e low within at = low from within (subst (λ (xs : List Row). IsCursor xs m (i * 65536 + from)) (sym e) at)

pub returns-then-buyer-members-clause-steps : goal.returns-then-buyer-members-clause-steps
returns-then-buyer-members-clause-steps c =
    let change = c.args.change.now in
    let i = c.args.seller in
    let from = c.loop-from.from in
    let to = c.min-buyer.result in
    let inv = c.loop-from.invariant in
    let low = first_from _ change.old.now.rows c.loop-from.at.old i from c.members-members.result c.buyer_at-old_buyer.result c.rows-old.ensures.value c.buyer_at-old_buyer.ensures.from inv.within inv.old in
    let low' = first_from _ change.new.now.rows c.loop-from.at.new i from c.members-members.result c.buyer_at.result c.rows-new.ensures.value c.buyer_at.ensures.from inv.within inv.new in
    let up : from ≤ to = omega (arith, low, low', c.min-buyer.ensures) in
    let f = pair_plan c.args.free.now change.day change.product change.old.now change.new.now i in
    let same = passed c.args.free.now change.day change.product change.old.now change.new.now c.loop-from.at.old c.loop-from.at.new i from to (record {
      le = up;
      old_first = inv.old;
      old_last = raised _ change.old.now.rows c.loop-from.at.old i from to c.buyer_at-old_buyer.result c.rows-old.ensures.value c.buyer_at-old_buyer.ensures.cursor up (omega (arith, c.min-buyer.ensures)) inv.old;
      new_first = inv.new;
      new_last = raised _ change.new.now.rows c.loop-from.at.new i from to c.buyer_at.result c.rows-new.ensures.value c.buyer_at.ensures.cursor up (omega (arith, c.min-buyer.ensures)) inv.new;
    }) in
    inv.steps ∙ ap (λ xs. c.args.plan.now.items ++ xs) (sym same ∙ ap (λ n. listed_below n f) (c.if-buyer-members.true ∙ c.members-members.ensures.value))

pub returns-then-buyer-members-clause-old : goal.returns-then-buyer-members-clause-old
returns-then-buyer-members-clause-old c =
    before_next c.args.change.now.old.now.rows c.loop-from.at.old c.args.seller c.loop-from.from c.loop-from.invariant.old_end (omega (arith, c.loop-from.invariant.within)) c.loop-from.invariant.old

pub returns-then-buyer-members-clause-new : goal.returns-then-buyer-members-clause-new
returns-then-buyer-members-clause-new c =
    before_next c.args.change.now.new.now.rows c.loop-from.at.new c.args.seller c.loop-from.from c.loop-from.invariant.new_end (omega (arith, c.loop-from.invariant.within)) c.loop-from.invariant.new

pub add_pair-requires-clause-bound : goal.add_pair-requires-clause-bound
add_pair-requires-clause-bound c =
    omega (arith, c.amount_at-in-loop-from.ensures, amount_le c.rows-new.result.now c.args.seller c.min-buyer.result, c.rows-new.ensures.rows.within)

pub loop-from-preserved : goal.loop-from-preserved
loop-from-preserved c =
    let change = c.args.change.now in
    let i = c.args.seller in
    let from = c.loop-from.from in
    let to = c.min-buyer.result in
    let inv = c.loop-from.invariant in
    let low = first_from _ change.old.now.rows c.loop-from.at.old i from c.members-members.result c.buyer_at-old_buyer.result c.rows-old.ensures.value c.buyer_at-old_buyer.ensures.from inv.within inv.old in
    let low' = first_from _ change.new.now.rows c.loop-from.at.new i from c.members-members.result c.buyer_at.result c.rows-new.ensures.value c.buyer_at.ensures.from inv.within inv.new in
    let up : from ≤ to = omega (arith, low, low', c.min-buyer.ensures) in
    let f = pair_plan c.args.free.now change.day change.product change.old.now change.new.now i in
    let same = passed c.args.free.now change.day change.product change.old.now change.new.now c.loop-from.at.old c.loop-from.at.new i from to (record {
      le = up;
      old_first = inv.old;
      old_last = raised _ change.old.now.rows c.loop-from.at.old i from to c.buyer_at-old_buyer.result c.rows-old.ensures.value c.buyer_at-old_buyer.ensures.cursor up (omega (arith, c.min-buyer.ensures)) inv.old;
      new_first = inv.new;
      new_last = raised _ change.new.now.rows c.loop-from.at.new i from to c.buyer_at.result c.rows-new.ensures.value c.buyer_at.ensures.cursor up (omega (arith, c.min-buyer.ensures)) inv.new;
    }) in
    let before : List PlanRow = c.loop-from.plan.items in
    let reached : before ≡ c.args.plan.now.items ++ listed_below to f = inv.steps ∙ ap (λ xs. c.args.plan.now.items ++ xs) (sym same) in
    let is_before = c.amount_at.ensures ∙ ap (λ (xs : List Row). amount_in xs i to) c.rows-old.ensures.value in
    let is_after = c.amount_at-in-loop-from.ensures ∙ ap (λ (xs : List Row). amount_in xs i to) c.rows-new.ensures.value in
    let left = c.from_pair-left.result.now in
    let same_left : (buyer : ℕ) → to ≤ buyer → free_rows left change.product i buyer ≡ free_rows c.args.free.now change.product i buyer = λ buyer le. c.from_pair-left.ensures.free buyer le ∙ inv.left buyer (omega (arith, up, le)) in
    let steps : List PlanRow = pair_steps change.product change.day left i to c.amount_at.result c.amount_at-in-loop-from.result in
    let due : steps ≡ f to =
    steps_same left c.args.free.now change.product change.day i to c.amount_at.result c.amount_at-in-loop-from.result (same_left to (omega arith))
    ∙ ap (λ a. pair_steps change.product change.day c.args.free.now i to a c.amount_at-in-loop-from.result) is_before ∙ ap (pair_steps change.product change.day c.args.free.now i to (amount_in change.old.now.rows i to)) is_after in
    record {
      steps = one_more to f c.args.plan.now.items before c.add_pair.new.plan.items steps reached c.in_ok-add_pair.ensures due;
      sorted = c.from_pair-left.ensures.sorted;
      left = λ buyer le. same_left buyer (omega (arith, le));
      within = omega (arith, c.min-buyer.ensures, c.buyer_at.ensures.end, c.if-buyer-members.false);
      old_end = subst (λ (xs : List Row). c.next_row.result ≤ length xs) c.rows-old.ensures.value c.next_row.ensures.end;
      old = subst (λ (xs : List Row). IsCursor xs c.next_row.result (i * 65536 + (to + 1))) c.rows-old.ensures.value c.next_row.ensures.cursor;
      new_end = subst (λ (xs : List Row). c.next_row-in-loop-from.result ≤ length xs) c.rows-new.ensures.value c.next_row-in-loop-from.ensures.end;
      new = subst (λ (xs : List Row). IsCursor xs c.next_row-in-loop-from.result (i * 65536 + (to + 1))) c.rows-new.ensures.value c.next_row-in-loop-from.ensures.cursor;
    }
