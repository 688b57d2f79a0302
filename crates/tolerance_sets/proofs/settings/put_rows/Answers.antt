use Rattle.std.proofs.Common.{rules, arith, ◌≡◌, ℕ, ◌-◌, ◌<◌, ◌∙◌, length, drop, slice_get, Some, ap}
use Rattle.command_types.specs.declared.tolerance.ToleranceRow.{ToleranceRow}
use Rattle.command_types.specs.Tolerances.{with_setting}
use Rattle.tolerance_sets.specs.Settings.{settings_of, put_over}
use Rattle.tolerance_sets.proofs.OrderedFacts.{set_before}
use Rattle.tolerance_sets.proofs.settings.put_rows.Goals as goal

pub loop-behind-preserved : goal.loop-behind-preserved
loop-behind-preserved c =
    let es = c.args.rows.now.entries in
    let behind = c.loop-behind.behind in
    let e : ℕ × ToleranceRow = (c.in-Some._place.now, c.in-Some.kept.now) in
    let lt : behind < length es = search rules in
    let is : slice_get es (length es - 1 - behind) ≡ Some e = search rules in
    let put : c.put.new.self.settings ≡ with_setting e.1 c.loop-behind.settings.settings = search rules in
    record {
      settings = set_before c.args.settings.now.settings es c.loop-behind.settings.settings c.put.new.self.settings (length es) behind e lt is c.loop-behind.invariant.settings put;
      room = omega (arith, c.loop-behind.invariant.room, c.put.ensures.spare);
    }

pub returns : goal.returns
returns c =
    let es = c.args.rows.now.entries in
    let none : length es - c.loop-behind.behind ≡ 0 = search rules in
    c.loop-behind.invariant.settings ∙ ap (λ (n : ℕ). put_over c.args.settings.now.settings (settings_of (drop n es))) none
