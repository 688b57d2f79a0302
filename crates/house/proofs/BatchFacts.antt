-- Changes of a batch, one more and one less.
use Rattle.std.proofs.Common.{◌≡◌, ℕ, ◌+◌, false, List, [], ◌∷◌, ◌++◌, length, reverse, refl, sym, ◌∙◌, subst, ap, arith, append_assoc, length-append}
use Rattle.std.proofs.lemmas.List.{append-nil, reverse-append}
use Rattle.std.proofs.lemmas.List.Concat.{flat_map-append}
use Rattle.std.proofs.lemmas.List.Sums.{sum_by-append}
use Rattle.std.specs.List.{AllZip, flat_map}
use Rattle.command_types.specs.declared.answer.Reply.{Reply}
use Rattle.command_types.specs.declared.ask.Entry.{Entry}
use Rattle.command_types.specs.declared.figures.State.{State}
use Rattle.command_types.specs.declared.figures.Figures.{Figures}
use Rattle.command_types.specs.declared.spelling.Spelling.TheVariants.{Second}
use Rattle.command_types.specs.History.{History, end_of, longer}
use Rattle.command_types.specs.Machine.{answer_to}
use Rattle.command_types.specs.Sizes.{frame_size, frames_size}
use Rattle.command_types.specs.Spelling.{Spells}
use Rattle.cycle_states.specs.Replayed.{IsReplayed}
use Rattle.cycle_states.specs.Undo.{undone, GoesBack, MayUndo, Undoes}
use Rattle.cycle_states.specs.declared.machine.undo.Undo.{Undo}
use Rattle.cycle_states.proofs.DeskFacts.{grown, replayed_more, told_recorded}
use Rattle.journal_core.specs.Frame.{frames_length}
use Rattle.journal_core.specs.Holds.{frame}
use Rattle.journal_core.proofs.PartFacts.{length-frame}
use Rattle.recovery.proofs.EntryFacts.{AllZip-more}
use Rattle.house.specs.Batch.{BatchView, end_of_batch, TakeBack, IsMade}
use Rattle.command_types.specs.InTurn.{IsToldNext}
use Rattle.house.specs.Step.{IsMadeNext}

newest_first : (rest : List Undo) (u : Undo) → reverse (rest ++ u ∷ []) ≡ u ∷ reverse rest
newest_first rest u = reverse-append rest (u ∷ [])

-- the newest is taken back first
pub newest_back : (s first : State) (undos rest : List Undo) (u : Undo) → undos ≡ rest ++ u ∷ [] → TakeBack s undos first → MayUndo s u × TakeBack (undone s u) rest first
newest_back s first undos rest u is back = subst (λ (us : List Undo). GoesBack s us first) (ap reverse is ∙ newest_first rest u) back

-- and one more may be
pub one_more_back : (s next first : State) (undos more : List Undo) (u : Undo) → more ≡ undos ++ u ∷ [] → Undoes s next u → TakeBack s undos first → TakeBack next more first
one_more_back s next first undos more u is undoes back =
    let here : GoesBack next (u ∷ reverse undos) first = (undoes.1, subst (λ (t : State). GoesBack t (reverse undos) first) (sym undoes.0) back) in
    subst (λ (us : List Undo). GoesBack next us first) (sym (ap reverse is ∙ newest_first undos u)) here

pub frames_more : (frames : List (List ℕ)) (record_bytes : List ℕ) → frames_length (frames ++ record_bytes ∷ []) ≡ frames_length frames + (5 + length record_bytes)
frames_more frames record_bytes =
    let split : length (flat_map frame (frames ++ record_bytes ∷ [])) ≡ length (flat_map frame frames) + length (frame record_bytes ++ []) =
    ap length (flat_map-append frame frames (record_bytes ∷ [])) ∙ length-append (flat_map frame frames) (frame record_bytes ++ []) in
    omega (arith, split, length-frame record_bytes, ap length (append-nil (frame record_bytes)))

longer_twice : (h : History) (xs ys : List Entry) → longer (longer h xs) ys ≡ longer h (xs ++ ys)
longer_twice h xs ys = ap (λ (es : List Entry). record h { entries = es }) (append_assoc h.entries xs ys)

module _ (first s then : State) (h : History) (old new : BatchView) (command : Entry) (reply : Reply) (made : IsMade first s h old) (next : IsMadeNext s then old new command reply) where
  entries_more : new.entries ≡ old.entries ++ command ∷ []
  entries_more = ap (λ (b : BatchView). b.entries) next.more

  undos_more : new.undos ≡ old.undos ++ next.undo ∷ []
  undos_more = ap (λ (b : BatchView). b.undos) next.more

  records_more : new.records ≡ old.records ++ next.bytes ∷ []
  records_more = ap (λ (b : BatchView). b.records) next.more

  behind : longer (longer h old.entries) (command ∷ []) ≡ longer h new.entries
  behind = longer_twice h old.entries (command ∷ []) ∙ ap (longer h) (sym entries_more)

  -- the batch with the change is one that was made
  pub made_more : IsMade first then h new
  made_more = record {
    begins = made.begins;
    replayed = subst (IsReplayed then) behind
        (replayed_more s then (longer h old.entries) ((h.entries ++ old.entries) ++ command ∷ []) command made.replayed next.state refl next.accepted next.solutions);
    back = one_more_back s then first old.undos new.undos next.undo undos_more next.undoes made.back;
    undos = omega (arith, ap length undos_more, ap length entries_more, length-append old.undos (next.undo ∷ []), length-append old.entries (command ∷ []), made.undos);
    spells = subst (λ (rs : List (List ℕ)). AllZip (Spells Second) rs new.entries) (sym records_more)
        (subst (λ (es : List Entry). AllZip (Spells Second) (old.records ++ next.bytes ∷ []) es) (sym entries_more)
        (AllZip-more (Spells Second) old.records old.entries next.bytes command made.spells next.spells));
    sized =
        let records : frames_length new.records ≡ frames_length old.records + (5 + length next.bytes) = ap frames_length records_more ∙ frames_more old.records next.bytes in
        let entries : frames_size new.entries ≡ frames_size old.entries + frames_size (command ∷ []) =
        ap frames_size entries_more ∙ sum_by-append (λ (e : Entry). frame_size e.ask) old.entries (command ∷ []) in
        omega (arith, records, entries, made.sized, next.sized);
  }

  -- and the change is told behind it
  pub made_told : (figures : Figures) → end_of_batch old ≡ end_of (longer h old.entries) → IsToldNext figures false false (longer h old.entries) command reply (longer h new.entries)
  made_told figures place =
      let before : History = longer h old.entries in
      let answer = answer_to s command.ask in
      let at : ℕ = end_of_batch old in
      let literal : Reply = record { at = at + 1; answer = answer } in
      subst (λ (n : History). IsToldNext figures false false before command reply n) behind
      (subst (λ (r : Reply). IsToldNext figures false false before command r (longer before (command ∷ []))) (sym next.replied) (record {
        grows = grown before (before.entries ++ command ∷ []) command.seat command.ask answer refl next.accepted;
        place = omega (arith, place, length-append before.entries (command ∷ []));
        told = told_recorded s before (before.entries ++ command ∷ []) command.seat (at + 1) command.ask answer figures made.replayed refl next.accepted refl (omega (arith, place));
        runs = λ _. refl;
        stays = λ stopped. stopped;
      }))
