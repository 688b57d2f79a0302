use Rattle.std.proofs.Common.{◌≡◌, ◌++◌, ap, ◌∙◌}
use Rattle.std.specs.Option.{option_to_list}
use Rattle.command_types.specs.Cycles.{limit_line}
use Rattle.tolerance_sets.proofs.Walk.{one_more}
use Rattle.cycle_states.proofs.LoopFacts.{added_some, added_none}
use Rattle.cycle_states.proofs.machine.limit_lines.add_seller.Goals as goal
use Rattle.cycle_states.proofs.machine.limit_lines.add_seller.Goals.{in-Some+in_ok-push, in_default}

pub loop-buyer-preserved : goal.loop-buyer-preserved
loop-buyer-preserved c =
    let before = c.loop-buyer.lines.items in
    let after = c.match-line_of.lines.items in
    let line = c.line_of.result in
    let added : after ≡ before ++ option_to_list line = elim c.match-line_of.branch [
      | in-Some+in_ok-push w ↦ added_some before after line w.in-Some.line w.in-Some.is (ap (λ v. v.items) w.lines-is ∙ w.in_ok-push.ensures.items)
      | in_default w ↦ added_none before after line w.in_default.is (ap (λ v. v.items) w.lines-is)
    ] in
    one_more c.loop-buyer.buyer (limit_line c.args.problem.now c.args.seller) c.args.lines.now.items before after (option_to_list line) c.loop-buyer.invariant added c.line_of.ensures
