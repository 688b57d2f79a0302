-- What is decided of a command: a refusal and a read change nothing, and an accepted change may be committed.
use Rattle.std.proofs.Common.{◌≡◌, ℕ, ◌≤◌, ◌&&◌, ◌||◌, not, Bool, true, false, List, [], ◌∷◌, Option, Some, None, is_some, unwrap_or, if◌then◌else◌, IsTrue, refl, ap, sym, subst, ◌∙◌}
use Rattle.std.proofs.lemmas.Bool.{false≢true}
use Rattle.network_laws.specs.Solutions.{SolutionData}
use Rattle.command_types.specs.declared.answer.Answer.{Answer}
use Rattle.command_types.specs.declared.answer.Answer.TheVariants.{Marked, Ended, No}
use Rattle.command_types.specs.declared.ask.Ask.{Ask}
use Rattle.command_types.specs.declared.ask.Entry.{Entry}
use Rattle.command_types.specs.declared.ask.What.{What}
use Rattle.command_types.specs.declared.ask.What.TheVariants.{End, Nets, Post, Accept, Proof, Unreadable}
use Rattle.command_types.specs.declared.figures.Cycle.{Cycle}
use Rattle.command_types.specs.declared.figures.State.{State}
use Rattle.command_types.specs.declared.refusal.Refusal.{Refusal}
use Rattle.command_types.specs.declared.refusal.Refusal.TheVariants.{NotGreeted}
use Rattle.command_types.specs.declared.trade.TradeRow.{TradeRow}
use Rattle.command_types.specs.Cycles.{posted_plan}
use Rattle.command_types.specs.CycleSteps.{left_after, proposed_answer, touched_in, vote_answer}
use Rattle.command_types.specs.History.{is_recorded}
use Rattle.command_types.specs.Machine.{accepted, answer_to, changes, end_answer, end_refusals, first_of, is_refusal, member_of, refusals, refused_or}
use Rattle.command_types.specs.Roster.{is_party}
use Rattle.command_types.specs.Spelling.{posted, most_solutions}
use Rattle.command_types.specs.Trades.{is_alleged, trade_numbered}
use Rattle.cycle_states.specs.Decision.{ChangesNothing, MayCommit}
use Rattle.cycle_states.specs.Effects.{rows_added, settings_added}
use Rattle.cycle_states.specs.Machine.{MachineView}
use Rattle.cycle_states.specs.Ready.{ReadyView, IsReady}
use Rattle.cycle_states.proofs.MachineFacts.{accepted_answer, none_of}

never_both : (b : Bool) → (b && false) ≡ false
never_both true = refl
never_both false = refl

-- a refusal is not recorded,
pub refusal_unkept : (what : What) (refusal : Refusal) → is_recorded what (No refusal) ≡ false
refusal_unkept what refusal = never_both (changes what)

-- so what is refused changes nothing,
pub refused_changes_nothing : (m : MachineView) (entry : Entry) (refusal : Refusal) → Some refusal ≡ first_of (refusals m.state entry.ask.by entry.ask.what) → ChangesNothing m entry (No refusal)
refused_changes_nothing m entry refusal is = record {
  told = ap (λ r. refused_or (accepted m.state entry.ask.by entry.ask.what) r) is;
  no_change = refusal_unkept entry.ask.what refusal;
}

-- nor does a read
pub read_changes_nothing : (m : MachineView) (entry : Entry) (answer : Answer) → first_of (refusals m.state entry.ask.by entry.ask.what) ≡ None → changes entry.ask.what ≡ false
    → answer ≡ accepted m.state entry.ask.by entry.ask.what → ChangesNothing m entry answer
read_changes_nothing m entry answer none off is = record {
  told = is ∙ sym (accepted_answer m.state entry.ask none);
  no_change = ap (λ (t : Bool). t && not (is_refusal answer)) off;
}

-- an accepted change is not answered by a refusal
told_either : (b : Bool) (trade : ℕ) → is_refusal (if b then Ended trade else Marked trade) ≡ false
told_either true trade = refl
told_either false trade = refl

end_told : (s : State) (by : List ℕ) (trade : ℕ) (o : Option TradeRow) → first_of (end_refusals s by o) ≡ None → is_refusal (end_answer trade o) ≡ false
end_told s by trade None none = cc
end_told s by trade (Some row) none = told_either (is_alleged row.state || is_some row.mark) trade

posting_told : (s : State) (solutions : List SolutionData) (touched : List ℕ) → is_refusal (proposed_answer s solutions touched) ≡ false
posting_told s solutions [] = refl
posting_told s solutions (member ∷ members) = refl

vote_told : (cycle : Cycle) (left : List ℕ) → is_refusal (vote_answer cycle left) ≡ false
vote_told cycle [] = refl
vote_told cycle (voter ∷ voters) = refl

change_told : (s : State) (by : Option (List ℕ)) (what : What) → changes what ≡ true → first_of (refusals s by what) ≡ None → is_refusal (accepted s by what) ≡ false
change_told s by (End trade) change none =
    let row = trade_numbered s.trades trade in
    end_told s (unwrap_or by []) trade row (none_of (not (is_party s.roster by)) NotGreeted (end_refusals s (unwrap_or by []) row) none).1
change_told s by (Post cycle version solutions) change none = posting_told s solutions (touched_in s (posted_plan s.cycle s.trades solutions))
change_told s by (Accept cycle version) change none = vote_told s.cycle (left_after s (member_of s (unwrap_or by [])))
change_told s by (Nets product) change none = absurd (false≢true change)
change_told s by (Proof cycle) change none = absurd (false≢true change)
change_told s by (Unreadable at) change none = absurd (false≢true change)
change_told s by what change none = refl

-- so it is recorded
pub change_recorded : (s : State) (ask : Ask) → changes ask.what ≡ true → first_of (refusals s ask.by ask.what) ≡ None → IsTrue (is_recorded ask.what (answer_to s ask))
change_recorded s ask change none =
    ap (λ (t : Bool). t && not (is_refusal (answer_to s ask))) change
    ∙ ap (λ (a : Answer). not (is_refusal a)) (accepted_answer s ask none)
    ∙ ap not (change_told s ask.by ask.what change none)

-- what was made ready in a machine's state may be committed by it
pub may_commit : (m : MachineView) (s : State) (entry : Entry) (ready : ReadyView) → m.state ≡ s → ready.entry ≡ entry → IsTrue (is_recorded entry.ask.what (answer_to s entry.ask)) → IsTrue (is_some entry.ask.by)
    → posted entry.ask.what ≤ most_solutions → IsReady s ready → rows_added s entry.ask ≤ m.spare → settings_added s entry.ask ≤ m.slots → MayCommit m ready
may_commit m s entry ready same is change party few made room slot = record {
  accepted = rw (same, is) change;
  party = rw is party;
  few = rw is few;
  ready = rw same made;
  room = rw (same, is) room;
  slot = rw (same, is) slot;
}

-- what may be committed was made ready in that state, with the room that it needs
module _ (m : MachineView) (s : State) (entry : Entry) (ready : ReadyView) (same : m.state ≡ s) (is : ready.entry ≡ entry) (may : MayCommit m ready) where
  pub ready_in : IsReady s ready
  ready_in = subst (λ (t : State). IsReady t ready) same may.ready

  pub rows_fit : rows_added s entry.ask ≤ m.spare
  rows_fit = subst (λ (t : State). rows_added t entry.ask ≤ m.spare) same (subst (λ (e : Entry). rows_added m.state e.ask ≤ m.spare) is may.room)

  pub settings_fit : settings_added s entry.ask ≤ m.slots
  settings_fit = subst (λ (t : State). settings_added t entry.ask ≤ m.slots) same (subst (λ (e : Entry). settings_added m.state e.ask ≤ m.slots) is may.slot)

-- what changes nothing is not recorded
pub nothing_recorded : (m : MachineView) (s : State) (entry : Entry) (answer : Answer) → m.state ≡ s → ChangesNothing m entry answer → IsTrue (is_recorded entry.ask.what (answer_to s entry.ask)) → ⊥
nothing_recorded m s entry answer same nothing recorded =
    let told : answer ≡ answer_to s entry.ask = nothing.told ∙ ap (λ (t : State). answer_to t entry.ask) same in
    false≢true (sym nothing.no_change ∙ ap (λ (a : Answer). is_recorded entry.ask.what a) told ∙ recorded)

-- what may be committed is recorded in that state, and answered as there
module _ (m : MachineView) (s : State) (entry : Entry) (ready : ReadyView) (same : m.state ≡ s) (is : ready.entry ≡ entry) (may : MayCommit m ready) where
  pub change_before : IsTrue (is_recorded entry.ask.what (answer_to s entry.ask))
  change_before =
      subst (λ (t : State). IsTrue (is_recorded entry.ask.what (answer_to t entry.ask))) same
      (subst (λ (e : Entry). IsTrue (is_recorded e.ask.what (answer_to m.state e.ask))) is may.accepted)

pub answered_before : (m : MachineView) (s : State) (entry : Entry) (ready : ReadyView) (answer : Answer) → m.state ≡ s → ready.entry ≡ entry → MayCommit m ready → answer ≡ answer_to m.state ready.entry.ask
    → (answer ≡ answer_to s entry.ask) × IsTrue (is_recorded entry.ask.what answer)
answered_before m s entry ready answer same is may told =
    let here : answer ≡ answer_to s entry.ask = told ∙ ap (λ (t : State). answer_to t ready.entry.ask) same ∙ ap (λ (e : Entry). answer_to s e.ask) is in
    (here, ap (λ (a : Answer). is_recorded entry.ask.what a) here ∙ change_before m s entry ready same is may)
