use Rattle.std.proofs.Common.{◌≡◌, inr, ℕ, ◌+◌, ◌-◌, ◌<◌, List, length, drop, ap, ◌∙◌, arith}
use Rattle.command_types.specs.declared.answer.Answer.TheVariants.{EntryBytes}
use Rattle.command_types.specs.declared.ask.Entry.{Entry}
use Rattle.command_types.specs.Offers.{first_behind}
use Rattle.house.specs.Chronicle.{ChronicleView}
use Rattle.house.proofs.ChronicleFacts.{as_many, behind}
use Rattle.house.proofs.chronicle.Chronicle.entry_behind.Goals as goal

pub get-requires : goal.get-requires
get-requires c =
    let i = c.self.inside in
    let same = ap (λ (v : ChronicleView). v.history.entries) c.self.view_is in
    omega (arith, ap length same, as_many i.pool.changes i.past.entries c.self.invariant.0)

pub returns-in-Ok : goal.returns-in-Ok
returns-in-Ok c =
    let i = c.self.inside in
    let h = c.args.self.now.history in
    let position = c.args.position in
    let number = position - c.places-places.result.base in
    let same : i.past.entries ≡ h.entries = ap (λ (v : ChronicleView). v.history.entries) c.self.view_is in
    let within : number < length i.past.entries = omega (arith, ap length same) in
    inr (ap (EntryBytes (position + 1)) (c.new.ensures ∙ c.in-Ok.ensures)
    ∙ behind position number i.pool.changes i.past.entries c.self.invariant.0 within
    ∙ ap (λ (es : List Entry). first_behind position (drop number es)) same
    ∙ ap (λ (n : ℕ). first_behind position (drop (position - n) h.entries)) c.places-places.ensures.base_at)
