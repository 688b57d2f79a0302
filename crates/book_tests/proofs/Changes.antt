-- Changes of a machine, one after another.
use Rattle.std.proofs.Common.{◌≡◌, ℕ, ◌+◌, ◌<◌, ◌^◌, [], ◌∷◌, ◌++◌, length, length-append, All, IsTrue, sym, subst, ap, ◌∙◌, arith}
use Rattle.network_laws.specs.Solutions.{IsSolution}
use Rattle.command_types.specs.declared.ask.Entry.{Entry}
use Rattle.command_types.specs.declared.figures.State.{State}
use Rattle.command_types.specs.History.{IsLegalFrom, is_recorded, replayed_from, solutions_posted}
use Rattle.command_types.specs.Machine.{answer_to, state_after}
use Rattle.trade_history.proofs.Folds.{folds_go_on, replayed-append}
use Rattle.cycle_states.specs.Machine.{IsYoung}
use Rattle.cycle_states.specs.Replayed.{base_at, history_from, IsSmall}
use Rattle.cycle_states.proofs.CycleFacts.{young_small}
use Rattle.book_tests.specs.Changes.{LeadTo}

pub lead_none : (most : ℕ) (s n : State) → n ≡ s → LeadTo most s n
lead_none most s n same = record { entries = []; few = omega arith; replayed = record { same = same; legal = tt } }

pub lead_one : (s n : State) (entry : Entry) → n ≡ state_after s entry.ask → IsTrue (is_recorded entry.ask.what (answer_to s entry.ask)) → All IsSolution (solutions_posted entry.ask.what) → LeadTo 1 s n
lead_one s n entry same change sound = record { entries = entry ∷ []; few = omega arith; replayed = record { same = same; legal = ((change, sound), tt) } }

pub lead_on : (most : ℕ) (s m n : State) → LeadTo most s m → LeadTo 1 m n → LeadTo (most + 1) s n
lead_on most s m n first next =
    let h = history_from 0 s first.entries in
    let low = first.few in
    let one = next.few in
    let before = first.replayed in
    let after = next.replayed in
    record {
      entries = first.entries ++ next.entries;
      few = omega (arith, low, one, length-append first.entries next.entries);
      replayed = record {
        same = after.same ∙ ap (λ (t : State). replayed_from t next.entries) before.same ∙ sym (replayed-append s first.entries next.entries);
        legal = (folds_go_on h before.legal next.entries).legal.0 (subst (λ (t : State). IsLegalFrom t next.entries) before.same after.legal);
      };
    }

-- few changes behind small numbers leave a machine young
pub young_led : (most : ℕ) (s n : State) → IsSmall (base_at 0 s) → most < 2 ^ 62 → LeadTo most s n → IsYoung n.cycle
young_led most s n small few led =
    let low = led.few in
    young_small n (history_from 0 s led.entries) led.replayed small (omega (arith, low, few))
