use Rattle.std.proofs.Common.{ℕ, List, ◌++◌, length, subst, ◌∙◌, ap, arith}
use Rattle.std.specs.List.{flat_map}
use Rattle.journal_core.specs.Holds.{frame}
use Rattle.record_pool.specs.Appended.{AppendedView, AreShort}
use Rattle.record_pool.proofs.PlaceFacts.{place_room, sized, taken}
use Rattle.record_pool.proofs.appended.Appended.copy.Goals as goal

pub overflow_add-at : goal.overflow_add-at
overflow_add-at c =
    let frames = c.self.invariant.frames ∙ ap (λ (v : AppendedView). flat_map frame v.records) c.self.view_is in
    omega (arith, c.place-at.ensures, place_room c.args.self.now.records c.args.number c.requires, ap length frames, c.self.invariant.few)

pub number-size-requires : goal.number-size-requires
number-size-requires c =
    let frames = c.self.invariant.frames ∙ ap (λ (v : AppendedView). flat_map frame v.records) c.self.view_is in
    omega (arith, c.place-at.ensures, place_room c.args.self.now.records c.args.number c.requires, ap length frames)

pub copy-requires : goal.copy-requires
copy-requires c =
    let frames = c.self.invariant.frames ∙ ap (λ (v : AppendedView). flat_map frame v.records) c.self.view_is in
    let short = subst (λ (v : AppendedView). AreShort v.records) c.self.view_is c.self.invariant.short in
    let size = sized c.args.self.now.records c.self.inside.pages.bytes c.args.number c.place-at.result c.number-size.result frames short c.requires c.place-at.ensures (omega arith) c.number-size.ensures in
    omega (arith, size.1)

pub returns : goal.returns
returns c =
    let frames = c.self.invariant.frames ∙ ap (λ (v : AppendedView). flat_map frame v.records) c.self.view_is in
    let short = subst (λ (v : AppendedView). AreShort v.records) c.self.view_is c.self.invariant.short in
    let size = sized c.args.self.now.records c.self.inside.pages.bytes c.args.number c.place-at.result c.number-size.result frames short c.requires c.place-at.ensures (omega arith) c.number-size.ensures in
    c.in_ok-copy.ensures ∙ ap (λ (l : List ℕ). c.args.into.now.items ++ l) (taken c.args.self.now.records c.self.inside.pages.bytes c.args.number c.place-at.result c.number-size.result frames c.requires c.place-at.ensures size.0)
