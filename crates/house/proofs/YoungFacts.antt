-- A machine behind the changes of a batch is young, and the journal's size is told in one word.
use Rattle.std.proofs.Common.{◌≡◌, ℕ, suc, ◌+◌, ◌<◌, ◌≤◌, ◌^◌, refl, ap, List, [], ◌∷◌, ◌++◌, length, inl, inr, arith, length-append}
use Rattle.std.proofs.lemmas.Bool.{cases_lt}
use Rattle.std.specs.List.{AllZip}
use Rattle.command_types.specs.declared.ask.Entry.{Entry}
use Rattle.command_types.specs.declared.answer.Reply.{Reply}
use Rattle.command_types.specs.declared.figures.State.{State}
use Rattle.command_types.specs.declared.spelling.Spelling.TheVariants.{Second}
use Rattle.command_types.specs.History.{longer}
use Rattle.command_types.specs.Sizes.{journal_limit}
use Rattle.command_types.specs.Spelling.{Spells}
use Rattle.cycle_states.specs.Machine.{IsYoung}
use Rattle.cycle_states.proofs.CycleFacts.{young_small}
use Rattle.journal_core.specs.Frame.{frames_length}
use Rattle.house.specs.Batch.{BatchView, FitsJournal, IsMade}
use Rattle.house.specs.Front.{IsBegun, IsFront}
use Rattle.house.proofs.PushFacts.{as_many_spelled}

pub size_small : (size : ℕ) (records : List (List ℕ)) → size < 2 ^ 64 → (0 < length records → size + frames_length records ≤ journal_limit) → size + frames_length records < 2 ^ 64
size_small size [] small fits = omega arith
size_small size (r ∷ records) small fits = let within : size + frames_length (r ∷ records) ≤ journal_limit = fits (omega arith) in omega (arith, within)

module _ (s then : State) (batch : BatchView) (before : ℕ) (commands : List Entry) (replies : List Reply) (front : IsFront s then batch before commands replies) (begun : IsBegun s batch.at batch.size) where
  made : IsMade s then begun.h batch
  made = front.made begun.h begun.replayed

  -- it has as many records and as many that lead back
  pub as_many_records : length batch.records ≡ length batch.entries
  as_many_records = as_many_spelled batch.records batch.entries made.spells

  pub as_many_undos : length batch.undos ≡ length batch.entries
  as_many_undos = made.undos

  pub few_behind : FitsJournal batch → length batch.entries ≤ 64 → length (begun.h.entries ++ batch.entries) < 2 ^ 62
  few_behind fits few = elim (cases_lt 0 (length batch.records)) [
    | inl some ↦ (let within = fits some in omega (arith, begun.within, within, few, length-append begun.h.entries batch.entries))
    | inr none ↦ omega (arith, begun.few, none, as_many_records, length-append begun.h.entries batch.entries)
  ]

  pub young_behind : FitsJournal batch → length batch.entries ≤ 64 → IsYoung then.cycle
  young_behind fits few = young_small then (longer begun.h batch.entries) made.replayed begun.small (few_behind fits few)
