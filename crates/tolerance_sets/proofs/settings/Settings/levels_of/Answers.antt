use Rattle.std.proofs.Common.{◌∙◌, ap, sym}
use Rattle.std.specs.Prelude.{nat_eq}
use Rattle.std.specs.Map.{lookup}
use Rattle.command_types.specs.Tolerances.{floor_in, ceiling_in}
use Rattle.tolerance_sets.proofs.SettingOrder.{found_by, found_nothing, floor_by, ceiling_by}
use Rattle.tolerance_sets.proofs.settings.Settings.levels_of.Goals as goal

pub returns-in-Some-clause-floor : goal.returns-in-Some-clause-floor
returns-in-Some-clause-floor c =
    let entries = c.self.inside.rows.entries in
    let found = found_by entries c.args.member c.args.product c.args.other c.args.side c.place.ensures.product c.place.ensures.other c.self.invariant.kept in
    c.get-in-Some.ensures.value ∙ ap floor_by (c.in-Some.ensures.value ∙ ap (λ k. lookup (nat_eq k) entries) c.place.ensures.place) ∙ sym found.0 ∙ ap (λ v. floor_in v.settings c.args.member c.args.product c.args.other c.args.side) c.self.view_is

pub returns-in-Some-clause-ceiling : goal.returns-in-Some-clause-ceiling
returns-in-Some-clause-ceiling c =
    let entries = c.self.inside.rows.entries in
    let found = found_by entries c.args.member c.args.product c.args.other c.args.side c.place.ensures.product c.place.ensures.other c.self.invariant.kept in
    ap ceiling_by (c.in-Some.ensures.value ∙ ap (λ k. lookup (nat_eq k) entries) c.place.ensures.place) ∙ sym found.1 ∙ ap (λ v. ceiling_in v.settings c.args.member c.args.product c.args.other c.args.side) c.self.view_is

pub returns-in-None-clause-floor : goal.returns-in-None-clause-floor
returns-in-None-clause-floor c =
    let entries = c.self.inside.rows.entries in
    let found = found_by entries c.args.member c.args.product c.args.other c.args.side c.place.ensures.product c.place.ensures.other c.self.invariant.kept in
    ap floor_by (c.in-None.ensures.value ∙ ap (λ k. lookup (nat_eq k) entries) c.place.ensures.place) ∙ sym found.0 ∙ ap (λ v. floor_in v.settings c.args.member c.args.product c.args.other c.args.side) c.self.view_is

pub returns-in-None-clause-ceiling : goal.returns-in-None-clause-ceiling
returns-in-None-clause-ceiling c =
    let entries = c.self.inside.rows.entries in
    let found = found_by entries c.args.member c.args.product c.args.other c.args.side c.place.ensures.product c.place.ensures.other c.self.invariant.kept in
    ap ceiling_by (c.in-None.ensures.value ∙ ap (λ k. lookup (nat_eq k) entries) c.place.ensures.place) ∙ sym found.1 ∙ ap (λ v. ceiling_in v.settings c.args.member c.args.product c.args.other c.args.side) c.self.view_is

pub returns-then-is_empty-clause-floor : goal.returns-then-is_empty-clause-floor
returns-then-is_empty-clause-floor c =
    let found = found_nothing c.self.inside.rows.entries c.args.member c.args.product c.args.other c.args.side (c.is_empty.ensures.0 c.if-is_empty.true) in
    sym found.0 ∙ ap (λ v. floor_in v.settings c.args.member c.args.product c.args.other c.args.side) c.self.view_is

pub returns-then-is_empty-clause-ceiling : goal.returns-then-is_empty-clause-ceiling
returns-then-is_empty-clause-ceiling c =
    let found = found_nothing c.self.inside.rows.entries c.args.member c.args.product c.args.other c.args.side (c.is_empty.ensures.0 c.if-is_empty.true) in
    sym found.1 ∙ ap (λ v. ceiling_in v.settings c.args.member c.args.product c.args.other c.args.side) c.self.view_is
