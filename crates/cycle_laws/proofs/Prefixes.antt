-- A list of changes, entry by entry: what holds of every front of a legal one.
use Rattle.std.proofs.Common.{◌≡◌, List, [], ◌∷◌, ◌++◌, append_assoc, append-nil, IsTrue, sym, subst}
use Rattle.std.proofs.lemmas.List.Sums.{fold-append}
use Rattle.command_types.specs.declared.ask.Entry.{Entry}
use Rattle.command_types.specs.declared.figures.State.{State}
use Rattle.command_types.specs.Machine.{answer_to, state_after}
use Rattle.command_types.specs.History.{IsLegalFrom, is_recorded, replayed_from}

-- the state after one entry more
pub replayed_push : (s : State) (entries : List Entry) (entry : Entry) → replayed_from s (entries ++ entry ∷ []) ≡ state_after (replayed_from s entries) entry.ask
replayed_push s entries entry = fold-append (λ state e. state_after state e.ask) s entries (entry ∷ [])

module _ (P : List Entry → Type 0) (base : State) (step : (past : List Entry) (entry : Entry) → IsTrue (is_recorded entry.ask.what (answer_to (replayed_from base past) entry.ask)) → P past → P (past ++ entry ∷ [])) where
  from : (past rest : List Entry) → P past → IsLegalFrom (replayed_from base past) rest → P (past ++ rest)
  from past [] holds legal = subst P (sym (append-nil past)) holds
  from past (entry ∷ rest) holds (here, later) =
      subst P (append_assoc past (entry ∷ []) rest)
      (from (past ++ entry ∷ []) rest (step past entry here.0 holds) (subst (λ s. IsLegalFrom s rest) (sym (replayed_push base past entry)) later))

  -- what holds of no entries, and goes on at each accepted one, holds of a legal list
  pub by_entries : P [] → (entries : List Entry) → IsLegalFrom base entries → P entries
  by_entries none entries legal = from [] entries none legal
