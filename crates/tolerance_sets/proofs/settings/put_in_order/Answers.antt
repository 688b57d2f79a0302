use Rattle.std.proofs.Common.{rules, ◌≡◌, ℕ, ◌-◌, ◌<◌, ◌∙◌, length, drop, slice_get, Some, ap}
use Rattle.std.specs.Map.{values_of}
use Rattle.std.specs.BTreeMap.{insert_entry}
use Rattle.std.specs.Ordering.{nat_cmp}
use Rattle.command_types.specs.declared.tolerance.ToleranceRow.{ToleranceRow}
use Rattle.tolerance_sets.specs.Settings.{settings_of, put_over}
use Rattle.tolerance_sets.proofs.OrderedFacts.{put_before}
use Rattle.tolerance_sets.proofs.settings.put_in_order.Goals as goal

pub loop-behind-preserved : goal.loop-behind-preserved
loop-behind-preserved c =
    let es = c.args.rows.now.entries in
    let below = values_of c.args.ordered.now.entries in
    let behind = c.loop-behind.behind in
    let e : ℕ × ToleranceRow = (c.in-Some.place.now, c.in-Some.kept.now) in
    let lt : behind < length es = search rules in
    let is : slice_get es (length es - 1 - behind) ≡ Some e = search rules in
    let put : c.insert.new.self.entries ≡ insert_entry nat_cmp c.loop-behind.ordered.entries e.0 e.1 = search rules in
    put_before below es c.loop-behind.ordered.entries c.insert.new.self.entries (length es) behind e c.requires.kept lt is c.loop-behind.invariant put

pub returns-clause-settings : goal.returns-clause-settings
returns-clause-settings c =
    let es = c.args.rows.now.entries in
    let below = values_of c.args.ordered.now.entries in
    let none : length es - c.loop-behind.behind ≡ 0 = search rules in
    c.loop-behind.invariant.0 ∙ ap (λ (n : ℕ). put_over below (settings_of (drop n es))) none
