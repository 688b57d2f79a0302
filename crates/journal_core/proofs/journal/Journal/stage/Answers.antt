use Rattle.std.proofs.Common.{◌≡◌, ◌+◌, ◌≤◌, List, ℕ, length, subst, ap, ◌∙◌, arith}
use Rattle.journal_core.specs.Holds.{limit, slot_place, Holds}
use Rattle.journal_core.specs.Moments.{LeavesOnly, TornOf, Puts}
use Rattle.journal_core.specs.Form.{fold_place}
use Rattle.journal_core.proofs.MomentFacts.{leaves_both}
use Rattle.journal_core.proofs.FrameFacts.{length-staged}
use Rattle.journal_core.proofs.FoldFacts.{body_place_is, slot_place_is, first_staging, second_staging, staged_beside, staged_new, beside_ready}
use Rattle.journal_core.proofs.journal.Journal.stage.Goals as goal

pub put-requires-clause-place : goal.put-requires-clause-place
put-requires-clause-place g c =
    body_place_is c.args.self.now.form (g.D.Disk.history c.args.self.now.disk) c.args.self.now.end c.body_place-offset.result (length c.behind_gate-body.result.now) c.requires.slots c.requires.ready c.body_place-offset.ensures

pub put-requires-2-clause-place : goal.put-requires-2-clause-place
put-requires-2-clause-place g c =
    let bytes = c.args.base.now in
    let was = g.D.Disk.history c.args.self.now.disk in
    let mid = g.D.Disk.history c.put.new.disk in
    let form = c.args.self.now.form in
    let end = c.args.self.now.end in
    let place = c.body_place-offset.result in
    let there : place ≡ fold_place form end (5 + length bytes) = c.body_place-offset.ensures ∙ ap (λ (n : ℕ). fold_place form end n) (ap length c.behind_gate-body.ensures ∙ length-staged bytes) in
    let puts = subst (λ (b : List ℕ). Puts was place b mid) c.behind_gate-body.ensures c.in_ok-put.ensures.done in
    slot_place_is form was mid end place c.place_of.result bytes c.requires.slots c.requires.ready there (c.place_of.ensures ∙ ap slot_place c.other_slot-selected.ensures) puts

pub returns-in_err-put-clause-any_moment : goal.returns-in_err-put-clause-any_moment
returns-in_err-put-clause-any_moment g c =
    first_staging c.args.self.now.form (g.D.Disk.history c.args.self.now.disk) (g.D.Disk.history c.put.new.disk) c.args.self.now.end c.body_place-offset.result (length c.behind_gate-body.result.now)
    c.requires.slots c.body_place-offset.ensures c.put.ensures.any_moment

pub returns-in_err-put-2-clause-any_moment : goal.returns-in_err-put-2-clause-any_moment
returns-in_err-put-2-clause-any_moment g c = λ base records rest.
    let bytes = c.args.base.now in
    let was = g.D.Disk.history c.args.self.now.disk in
    let mid = g.D.Disk.history c.put.new.disk in
    let after = g.D.Disk.history c.put-2.new.disk in
    let form = c.args.self.now.form in
    let end = c.args.self.now.end in
    let place = c.body_place-offset.result in
    let there : place ≡ fold_place form end (5 + length bytes) = c.body_place-offset.ensures ∙ ap (λ (n : ℕ). fold_place form end n) (ap length c.behind_gate-body.ensures ∙ length-staged bytes) in
    let puts = subst (λ (b : List ℕ). Puts was place b mid) c.behind_gate-body.ensures c.in_ok-put.ensures.done in
    leaves_both was mid after (λ image. Holds image base records)
    (first_staging form was mid end place (length c.behind_gate-body.result.now) c.requires.slots c.body_place-offset.ensures c.put.ensures.any_moment base records rest)
    (second_staging form was mid after end place c.place_of.result bytes c.requires.slots there (c.place_of.ensures ∙ ap slot_place c.other_slot-selected.ensures) puts
    (subst (λ (n : ℕ). LeavesOnly mid after (TornOf mid c.place_of.result n)) (ap length c.to_le_bytes.ensures) c.put-2.ensures.any_moment) base records rest)

pub returns-clause-any_moment : goal.returns-clause-any_moment
returns-clause-any_moment g c = λ base records rest.
    let bytes = c.args.base.now in
    let was = g.D.Disk.history c.args.self.now.disk in
    let mid = g.D.Disk.history c.put.new.disk in
    let after = g.D.Disk.history c.put-2.new.disk in
    let form = c.args.self.now.form in
    let end = c.args.self.now.end in
    let place = c.body_place-offset.result in
    let there : place ≡ fold_place form end (5 + length bytes) = c.body_place-offset.ensures ∙ ap (λ (n : ℕ). fold_place form end n) (ap length c.behind_gate-body.ensures ∙ length-staged bytes) in
    let puts = subst (λ (b : List ℕ). Puts was place b mid) c.behind_gate-body.ensures c.in_ok-put.ensures.done in
    leaves_both was mid after (λ image. Holds image base records)
    (first_staging form was mid end place (length c.behind_gate-body.result.now) c.requires.slots c.body_place-offset.ensures c.put.ensures.any_moment base records rest)
    (second_staging form was mid after end place c.place_of.result bytes c.requires.slots there (c.place_of.ensures ∙ ap slot_place c.other_slot-selected.ensures) puts
    (subst (λ (n : ℕ). LeavesOnly mid after (TornOf mid c.place_of.result n)) (ap length c.to_le_bytes.ensures) c.put-2.ensures.any_moment) base records rest)

pub returns-clause-done : goal.returns-clause-done
returns-clause-done g c =
    let bytes = c.args.base.now in
    let was = g.D.Disk.history c.args.self.now.disk in
    let mid = g.D.Disk.history c.put.new.disk in
    let after = g.D.Disk.history c.put-2.new.disk in
    let form = c.args.self.now.form in
    let end = c.args.self.now.end in
    let place = c.body_place-offset.result in
    let there : place ≡ fold_place form end (5 + length bytes) = c.body_place-offset.ensures ∙ ap (λ (n : ℕ). fold_place form end n) (ap length c.behind_gate-body.ensures ∙ length-staged bytes) in
    let puts = subst (λ (b : List ℕ). Puts was place b mid) c.behind_gate-body.ensures c.in_ok-put.ensures.done in
    let noted = subst (λ (b : List ℕ). Puts mid c.place_of.result b after) c.to_le_bytes.ensures c.in_ok-put-2.ensures.done in
    staged_beside form was mid after end place c.place_of.result bytes c.requires.slots there (c.place_of.ensures ∙ ap slot_place c.other_slot-selected.ensures) puts noted

pub returns-clause-ready : goal.returns-clause-ready
returns-clause-ready g c =
    beside_ready (g.D.Disk.history c.args.self.now.disk) (g.D.Disk.history c.put-2.new.disk) c.args.self.now.form c.args.self.now.end c.requires.ready (returns-clause-done g c)

pub returns-clause-staged : goal.returns-clause-staged
returns-clause-staged g c =
    let bytes = c.args.base.now in
    let was = g.D.Disk.history c.args.self.now.disk in
    let mid = g.D.Disk.history c.put.new.disk in
    let after = g.D.Disk.history c.put-2.new.disk in
    let form = c.args.self.now.form in
    let end = c.args.self.now.end in
    let place = c.body_place-offset.result in
    let size : length c.behind_gate-body.result.now ≡ 5 + length bytes = ap length c.behind_gate-body.ensures ∙ length-staged bytes in
    let there : place ≡ fold_place form end (5 + length bytes) = c.body_place-offset.ensures ∙ ap (λ (n : ℕ). fold_place form end n) size in
    let puts = subst (λ (b : List ℕ). Puts was place b mid) c.behind_gate-body.ensures c.in_ok-put.ensures.done in
    let noted = subst (λ (b : List ℕ). Puts mid c.place_of.result b after) c.to_le_bytes.ensures c.in_ok-put-2.ensures.done in
    let fits : place + (5 + length bytes) ≤ limit = omega (arith, c.requires.fits, there) in
    staged_new form was mid after end place c.place_of.result bytes c.other_slot-selected.result (place + length c.behind_gate-body.result.now) c.requires.slots there (c.place_of.ensures ∙ ap slot_place c.other_slot-selected.ensures) fits
    c.other_slot-selected.ensures (ap (λ (n : ℕ). place + n) size) c.requires.ready puts noted

pub returns-clause-to_switch : goal.returns-clause-to_switch
returns-clause-to_switch g c = (c.requires.slots, c.other_slot-selected.ensures, (c.args.base.now, returns-clause-staged g c))
