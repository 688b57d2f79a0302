use Rattle.std.proofs.Common.{◌≡◌, ◌+◌, ◌<◌, ◌≤◌, ◌^◌, length, sym, subst, ◌∙◌, ap, arith}
use Rattle.command_types.specs.Sizes.{journal_limit}
use Rattle.journal_core.specs.Frame.{frames_length}
use Rattle.house.specs.Batch.{BatchView, FitsJournal, size_of_batch}
use Rattle.house.proofs.YoungFacts.{size_small}
use Rattle.house.proofs.batch.Batch.size.Goals as goal

pub returns : goal.returns
returns c =
    let i = c.self.inside in
    let fits : 0 < length i.frames → i.size + frames_length i.frames ≤ journal_limit = subst FitsJournal (sym c.self.view_is) c.requires in
    let small : i.size < 2 ^ 64 = omega arith in
    let sum : c.saturating_add.result ≡ i.size + frames_length i.frames = omega (arith, c.saturating_add.ensures, c.size.ensures, size_small i.size i.frames small fits) in
    sum ∙ ap (λ (b : BatchView). size_of_batch b) c.self.view_is
