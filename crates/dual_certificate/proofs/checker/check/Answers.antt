use Rattle.std.proofs.Common.{Some, sym, ◌∙◌}
use Rattle.dual_certificate.proofs.Walked.{bounds_of_rows, prices_of_rows, first_of_bounds, first_of_nets, first_of_prices, first_where_clean, certified_iff}
use Rattle.dual_certificate.proofs.checker.check.Goals as goal

pub returns-then-are_clean-clause-clash : goal.returns-then-are_clean-clause-clash
returns-then-are_clean-clause-clash c =
    let limits = c.args.limits.now in
    let old = c.args.old.now in
    let new = c.args.new.now in
    let p = c.args.potentials.now in
    let e = bounds_of_rows limits new c.members-members.result old.members c.rows-limit_rows.result.now c.rows-rows.result.now c.members-members.ensures.value c.rows-limit_rows.ensures.value c.rows-rows.ensures.value in
    let e' = prices_of_rows limits new p c.members-members.result old.members c.rows-limit_rows.result.now c.rows-rows.result.now c.members-members.ensures.value c.rows-limit_rows.ensures.value c.rows-rows.ensures.value in
    first_where_clean limits old new p c.first_net_clash.result (sym e ∙ c.are_clean.ensures.bounds c.if-are_clean.true) (sym e' ∙ c.are_clean.ensures.prices c.if-are_clean.true) c.first_net_clash.ensures

pub returns-then-are_clean-clause-certified : goal.returns-then-are_clean-clause-certified
returns-then-are_clean-clause-certified c =
    certified_iff c.args.limits.now c.args.old.now c.args.new.now c.args.potentials.now c.requires.limit_members c.requires.new_members c.first_net_clash.result (returns-then-are_clean-clause-clash c)

pub returns-in-Some-clause-clash : goal.returns-in-Some-clause-clash
returns-in-Some-clause-clash c =
    let limits = c.args.limits.now in
    let old = c.args.old.now in
    let new = c.args.new.now in
    let e = bounds_of_rows limits new c.members-members.result old.members c.rows-limit_rows.result.now c.rows-rows.result.now c.members-members.ensures.value c.rows-limit_rows.ensures.value c.rows-rows.ensures.value in
    first_of_bounds limits old new c.args.potentials.now c.in-Some.clash (sym e ∙ sym c.first_bounds_clash.ensures ∙ c.in-Some.is)

pub returns-in-Some-clause-certified : goal.returns-in-Some-clause-certified
returns-in-Some-clause-certified c =
    certified_iff c.args.limits.now c.args.old.now c.args.new.now c.args.potentials.now c.requires.limit_members c.requires.new_members (Some c.in-Some.clash) (
    let limits = c.args.limits.now in
    let old = c.args.old.now in
    let new = c.args.new.now in
    let e = bounds_of_rows limits new c.members-members.result old.members c.rows-limit_rows.result.now c.rows-rows.result.now c.members-members.ensures.value c.rows-limit_rows.ensures.value c.rows-rows.ensures.value in
    first_of_bounds limits old new c.args.potentials.now c.in-Some.clash (sym e ∙ sym c.first_bounds_clash.ensures ∙ c.in-Some.is)
    )

pub returns-in-Some-first_net_clash-clause-clash : goal.returns-in-Some-first_net_clash-clause-clash
returns-in-Some-first_net_clash-clause-clash c =
    let limits = c.args.limits.now in
    let old = c.args.old.now in
    let new = c.args.new.now in
    let e = bounds_of_rows limits new c.members-members.result old.members c.rows-limit_rows.result.now c.rows-rows.result.now c.members-members.ensures.value c.rows-limit_rows.ensures.value c.rows-rows.ensures.value in
    first_of_nets limits old new c.args.potentials.now c.in-Some-first_net_clash.clash (sym e ∙ sym c.first_bounds_clash.ensures ∙ c.in_default.is) (sym c.first_net_clash-2.ensures ∙ c.in-Some-first_net_clash.is)

pub returns-in-Some-first_net_clash-clause-certified : goal.returns-in-Some-first_net_clash-clause-certified
returns-in-Some-first_net_clash-clause-certified c =
    certified_iff c.args.limits.now c.args.old.now c.args.new.now c.args.potentials.now c.requires.limit_members c.requires.new_members (Some c.in-Some-first_net_clash.clash) (
    let limits = c.args.limits.now in
    let old = c.args.old.now in
    let new = c.args.new.now in
    let e = bounds_of_rows limits new c.members-members.result old.members c.rows-limit_rows.result.now c.rows-rows.result.now c.members-members.ensures.value c.rows-limit_rows.ensures.value c.rows-rows.ensures.value in
    first_of_nets limits old new c.args.potentials.now c.in-Some-first_net_clash.clash (sym e ∙ sym c.first_bounds_clash.ensures ∙ c.in_default.is) (sym c.first_net_clash-2.ensures ∙ c.in-Some-first_net_clash.is)
    )

pub returns-clause-clash : goal.returns-clause-clash
returns-clause-clash c =
    let limits = c.args.limits.now in
    let old = c.args.old.now in
    let new = c.args.new.now in
    let p = c.args.potentials.now in
    let e = bounds_of_rows limits new c.members-members.result old.members c.rows-limit_rows.result.now c.rows-rows.result.now c.members-members.ensures.value c.rows-limit_rows.ensures.value c.rows-rows.ensures.value in
    let e' = prices_of_rows limits new p c.members-members.result old.members c.rows-limit_rows.result.now c.rows-rows.result.now c.members-members.ensures.value c.rows-limit_rows.ensures.value c.rows-rows.ensures.value in
    first_of_prices limits old new p c.first_price_clash.result (sym e ∙ sym c.first_bounds_clash.ensures ∙ c.in_default.is) (sym c.first_net_clash-2.ensures ∙ c.in_default-first_net_clash.is) (c.first_price_clash.ensures ∙ e')

pub returns-clause-certified : goal.returns-clause-certified
returns-clause-certified c =
    certified_iff c.args.limits.now c.args.old.now c.args.new.now c.args.potentials.now c.requires.limit_members c.requires.new_members c.first_price_clash.result (returns-clause-clash c)
