-- What a member's STATEMENT is answered.
use Rattle.std.proofs.Common.{◌≡◌, ℕ, false, not, ◌||◌, List, [], ◌∷◌, Some, slice_get, is_some, unwrap_or}
use Rattle.command_types.specs.declared.answer.Answer.TheVariants.{Statement as Statements}
use Rattle.command_types.specs.declared.ask.What.TheVariants.{Statement}
use Rattle.command_types.specs.declared.figures.State.{State}
use Rattle.command_types.specs.declared.refusal.Refusal.TheVariants.{NotGreeted, NotParty}
use Rattle.command_types.specs.declared.roster.MemberRow.{MemberRow}
use Rattle.command_types.specs.declared.trade.TradeRow.{TradeRow}
use Rattle.command_types.specs.Roster.{IsRoster, member_place, is_operator}
use Rattle.command_types.specs.CycleSteps.{rows_of_member}
use Rattle.command_types.specs.Machine.{answer_to, first_of, refused_or}
use Rattle.dual_certificate.proofs.PlaceFacts.{place_back}
use Rattle.cycle_states.proofs.PartyFacts.{not_the_operators}

module _ (s : State) (place : ℕ) (row : MemberRow) (roster : IsRoster s.roster) (there : slice_get s.roster.members place ≡ Some row) where
  found : member_place s.roster row.name ≡ Some place
  found = place_back s.roster place row roster there

  no_operator : is_operator s.roster row.name ≡ false
  no_operator = not_the_operators s.roster row.name place roster found

  -- it is answered by the member's rows
  pub statement_told : (moment : ℕ) → answer_to s (record { by = Some row.name; what = Statement; moment = moment }) ≡ Statements (rows_of_member place s.trades)
  statement_told moment =
      (λ i. refused_or (Statements (rows_of_member (unwrap_or (found i) 0) s.trades)) (first_of ((not (is_some (found i) || is_operator s.roster row.name), NotGreeted) ∷ (no_operator i, NotParty) ∷ [])))

pub same_rows : (rows own : List TradeRow) → Statements rows ≡ Statements own → rows ≡ own
same_rows rows own e = cc
