use Rattle.std.proofs.Common.{◌≡◌, ℕ, ◌<◌, false, List, length, get_or, None, arith, sym, ap, ◌∙◌}
use Rattle.std.proofs.lemmas.List.{get_or_default}
use Rattle.network_laws.specs.declared.rows.LimitRow.{LimitRow}
use Rattle.network_laws.specs.Limits.{is_for}
use Rattle.network_laws.proofs.LimitOrder.{is_for-yes, is_for-seller, is_for-buyer, found_at, found_none}
use Rattle.network_laws.proofs.walk.bounds_at.Goals as goal
use Rattle.network_laws.proofs.walk.bounds_at.Goals.{else-at-rows-via-then-at-rows+then-rows-at+else-rows-at-2, else-at-rows-via-then-at-rows+else-rows-at, else-at-rows-via-else-at-rows}

other : (rows : List LimitRow) (i j m : ℕ) (d e : LimitRow) → m < length rows → is_for i j (get_or rows m d) ≡ false → is_for i j (get_or rows m e) ≡ false
other rows i j m d e l h = ap (is_for i j) (get_or_default rows m e d l) ∙ h

pub returns-then-rows-at-2-clause-lower : goal.returns-then-rows-at-2-clause-lower
returns-then-rows-at-2-clause-lower c =
    let i = c.args.seller in
    let j = c.args.buyer in
    let rows = c.args.rows.now in
    let d : LimitRow = record { seller = 0; buyer = 0; lower = 0; upper = None } in
    sym (found_at rows i j c.args.at c.requires.rising c.requires.cursor d c.if-at-rows.true (is_for-yes i j (get_or rows c.args.at d) c.if-rows-at.true c.if-rows-at-2.true)).0

pub returns-then-rows-at-2-clause-upper : goal.returns-then-rows-at-2-clause-upper
returns-then-rows-at-2-clause-upper c =
    let i = c.args.seller in
    let j = c.args.buyer in
    let rows = c.args.rows.now in
    let d : LimitRow = record { seller = 0; buyer = 0; lower = 0; upper = None } in
    sym (found_at rows i j c.args.at c.requires.rising c.requires.cursor d c.if-at-rows.true (is_for-yes i j (get_or rows c.args.at d) c.if-rows-at.true c.if-rows-at-2.true)).1

pub returns-else-at-rows-clause-lower : goal.returns-else-at-rows-clause-lower
returns-else-at-rows-clause-lower c =
    let i = c.args.seller in
    let j = c.args.buyer in
    let rows = c.args.rows.now in
    let m = c.args.at in
    let d : LimitRow = record { seller = 0; buyer = 0; lower = 0; upper = None } in
    sym (found_none rows i j m c.requires.rising c.requires.cursor (λ e l. elim c.else-at-rows.branch [
      | else-at-rows-via-then-at-rows+then-rows-at+else-rows-at-2 w ↦ other rows i j m d e l (is_for-buyer i j (get_or rows m d) w.if-rows-at-2.false)
      | else-at-rows-via-then-at-rows+else-rows-at w ↦ other rows i j m d e l (is_for-seller i j (get_or rows m d) w.if-rows-at.false)
      | else-at-rows-via-else-at-rows w ↦ absurd (omega arith)
    ])).0

pub returns-else-at-rows-clause-upper : goal.returns-else-at-rows-clause-upper
returns-else-at-rows-clause-upper c =
    let i = c.args.seller in
    let j = c.args.buyer in
    let rows = c.args.rows.now in
    let m = c.args.at in
    let d : LimitRow = record { seller = 0; buyer = 0; lower = 0; upper = None } in
    sym (found_none rows i j m c.requires.rising c.requires.cursor (λ e l. elim c.else-at-rows.branch [
      | else-at-rows-via-then-at-rows+then-rows-at+else-rows-at-2 w ↦ other rows i j m d e l (is_for-buyer i j (get_or rows m d) w.if-rows-at-2.false)
      | else-at-rows-via-then-at-rows+else-rows-at w ↦ other rows i j m d e l (is_for-seller i j (get_or rows m d) w.if-rows-at.false)
      | else-at-rows-via-else-at-rows w ↦ absurd (omega arith)
    ])).1
