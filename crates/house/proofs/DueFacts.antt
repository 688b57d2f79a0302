-- A fold that is due, and its base's bytes.
use Rattle.std.proofs.Common.{◌≡◌, List, ℕ, sym, subst}
use Rattle.command_types.specs.declared.base.Base.{Base}
use Rattle.command_types.specs.declared.figures.State.{State}
use Rattle.command_types.specs.declared.spelling.Spelling.TheVariants.{Second}
use Rattle.command_types.specs.Bases.{CanBeWritten, Fits, SpellsBase, base_in, base_spelling, written}
use Rattle.command_types.specs.Folds.{folded}
use Rattle.command_types.specs.History.{History, replayed}
use Rattle.command_types.specs.Roster.{Rows}
use Rattle.cycle_laws.specs.Bases.{IsWritable}
use Rattle.cycle_laws.proofs.Bases.{folds_are_writable}
use Rattle.cycle_laws.proofs.Written.{writable_can_be_written, spellings_stand_for_bases}
use Rattle.cycle_states.specs.Replayed.{IsReplayed, IsSmall}
use Rattle.recovery.specs.StandsFor.{StandsForBase}
use Rattle.house.specs.Folding.{MayBeFolded, fold_bytes}
use Rattle.house.specs.Due.{IsFoldOf}

module _ (s : State) (h : History) (replayed_there : IsReplayed s h) (writable : IsWritable h.base.state.roster h.base.state) (may : MayBeFolded h) where
  fold_writable : IsWritable h.base.state.roster (replayed h)
  fold_writable = folds_are_writable h.base.state.roster h writable replayed_there.legal may.at_rest

  -- what is due can be written
  pub due_written : (base : Base) → base ≡ written (folded h).base → CanBeWritten base
  due_written base is = subst CanBeWritten (sym is) (writable_can_be_written h.base.state.roster (folded h).base fold_writable)

  fold_small : IsSmall (folded h).base
  fold_small = record { position = may.position; cycle = may.cycle; version = may.version }

  -- and its spelling stands for it
  pub due_fold : (base : Base) (bytes : List ℕ) → base ≡ written (folded h).base → bytes ≡ base_spelling Second base → SpellsBase bytes base → IsFoldOf h bytes
  due_fold base bytes is exact spells =
      let here : bytes ≡ fold_bytes h = subst (λ (b : Base). bytes ≡ base_spelling Second b) is exact in
      let spelled : SpellsBase (fold_bytes h) (written (folded h).base) = subst (λ (l : List ℕ). SpellsBase l (written (folded h).base)) here (subst (SpellsBase bytes) is spells) in
      let r : Rows = h.base.state.roster in
      let same : (replayed h).roster ≡ r = fold_writable.market.same in
      let stands = spellings_stand_for_bases r (folded h).base (fold_bytes h) fold_writable fold_small spelled in
      let there : StandsForBase (fold_bytes h) (folded h).base = (
        written (folded h).base,
        spelled,
        subst (λ (x : Rows). Fits x (written (folded h).base)) (sym same) stands.0,
        subst (λ (x : Rows). (folded h).base ≡ base_in x (written (folded h).base)) (sym same) stands.1,
      ) in
      (here, subst (λ (l : List ℕ). StandsForBase l (folded h).base) (sym here) there)
