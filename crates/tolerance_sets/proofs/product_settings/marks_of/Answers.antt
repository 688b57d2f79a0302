use Rattle.std.proofs.Common.{rules, ◌≡◌, ◌≤◌, ◌+◌, ◌%◌, ◌∙◌, ℕ, Bool, true, List, length, take, set, slice_get, Some, ap, sym, subst, length-set}
use Rattle.command_types.specs.declared.tolerance.ToleranceRow.{ToleranceRow}
use Rattle.tolerance_sets.proofs.NoSetting.{Marks, marks_all, marks_other, marks_own}
use Rattle.tolerance_sets.proofs.product_settings.marks_of.Goals as goal
use Rattle.tolerance_sets.proofs.product_settings.marks_of.Goals.{then-eq, else-eq}

pub loop-place-preserved : goal.loop-place-preserved
loop-place-preserved c =
    let product = c.args.product in
    let es = c.args.rows.now.entries in
    let at = c.loop-place.place in
    let marks = c.loop-place.marks in
    let e : ℕ × ToleranceRow = (c.in-Some._place.now, c.in-Some.row.now) in
    let is : slice_get es at ≡ Some e = search rules in
    let inv = c.loop-place.invariant in
    let Are : List Bool → Type 0 = λ after. (length after ≡ 256) × Marks product (take (at + 1) es) after in
    let both : Are c.if-eq.marks =
    elim c.if-eq.branch [
      | then-eq w ↦
          subst Are (sym (w.marks-is ∙ ap (λ n. set marks (n % 256) true) w.index.ensures))
          (length-set marks (e.1.member % 256) true ∙ inv.long, marks_own product at es e marks inv.long is inv.marks)
      | else-eq w ↦ subst Are (sym w.marks-is) (inv.long, marks_other product at es e marks is (sym c.eq.ensures ∙ w.if-eq.false) inv.marks)
    ] in
    record { long = both.0; marks = both.1 }

pub returns : goal.returns
returns c =
    let over : length c.args.rows.now.entries ≤ c.loop-place.place = search rules in
    marks_all c.args.product c.args.rows.now.entries c.loop-place.place c.loop-place.marks over c.loop-place.invariant.marks
