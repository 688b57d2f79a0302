-- One turn of the loops of a call of several commands.
use Rattle.std.proofs.Common.{◌≡◌, ◌⊎◌, ℕ, ◌+◌, ◌<◌, ◌≤◌, Bool, true, false, is_some, Some, None, Option, List, [], ◌∷◌, ◌++◌, length, get_or, take, drop, refl, sym, ◌∙◌, subst, ap, arith, add-one, length-append}
use Rattle.std.proofs.Math.Seq.{drop-cons}
use Rattle.std.proofs.lemmas.List.{take_more, drop-append-le, drop_all, take-append-le, take_all}
use Rattle.command_types.specs.declared.ask.Entry.{Entry}
use Rattle.command_types.specs.declared.answer.Reply.{Reply}
use Rattle.command_types.specs.declared.figures.State.{State}
use Rattle.cycle_states.specs.Undo.{goes_back}
use Rattle.house.specs.Batch.{BatchView, FitsJournal, empty_batch, is_shared}
use Rattle.house.specs.CallingAll.{IsAskedAlone}
use Rattle.house.specs.Chronicle.{ChronicleView}
use Rattle.house.specs.Front.{before_more, IsBegun, IsFront}
use Rattle.house.specs.Step.{AreToldAfterFault, GoesOn, IsStep, IsToldAfterFault}
use Rattle.house.proofs.MoreFacts.{front_more, front_none}

-- ---- a front

-- before the first turn
pub front_begins : (s : State) (batch : BatchView) (replies : List Reply) → batch ≡ empty_batch batch.at batch.size → replies ≡ [] → IsFront s s batch 0 [] replies
front_begins s batch replies empty none =
    subst (λ (rs : List Reply). IsFront s s batch 0 [] rs) (sym none) (subst (λ (b : BatchView). IsFront s s b 0 [] []) (sym empty) (front_none s batch.at batch.size))

pub goes_begins : (batch : BatchView) (past : ChronicleView) → batch ≡ empty_batch batch.at batch.size → GoesOn batch batch past past
goes_begins batch past empty =
    let none : length batch.records ≡ 0 = ap (λ (b : BatchView). length b.records) empty in
    record { at = refl; size = refl; history = refl; fits = λ some. absurd (omega (arith, none, some)); room = λ some. absurd (omega (arith, none, some)) }

-- a batch goes on behind the same history
pub begun_on : (s : State) (old new : BatchView) (p q : ChronicleView) → GoesOn old new p q → IsBegun s old.at old.size → IsBegun s new.at new.size
begun_on s old new p q goes begun =
    subst (λ (n : ℕ). IsBegun s new.at n) (sym goes.size) (subst (λ (n : ℕ). IsBegun s n old.size) (sym goes.at) begun)

-- one command more
pub front_next : (s now next : State) (old new : BatchView) (before first : ℕ) (commands : List Entry) (i : ℕ) (command : Entry) (reply : Reply) (replies then_replies : List Reply) → i < length commands → command ≡ get_or commands i command
    → is_shared command.ask.what ≡ true → IsFront s now old before (take i commands) replies → FitsJournal new → IsStep now next old new command reply → first ≡ before_more before new.entries
    → then_replies ≡ replies ++ reply ∷ [] → IsFront s next new first (take (i + 1) commands) then_replies
front_next s now next old new before first commands i command reply replies then_replies within is shared front fits step place more =
    let one : take (i + 1) commands ≡ take i commands ++ command ∷ [] = take_more commands i command within ∙ ap (λ (c : Entry). take i commands ++ c ∷ []) (sym is) in
    subst (λ (rs : List Reply). IsFront s next new first (take (i + 1) commands) rs) (sym more)
    (subst (λ (cs : List Entry). IsFront s next new first cs (replies ++ reply ∷ [])) (sym one)
    (subst (λ (n : ℕ). IsFront s next new n (take i commands ++ command ∷ []) (replies ++ reply ∷ [])) (sym place)
    (front_more s now next old new before (take i commands) replies front command reply shared fits step)))

pub before_few : (before : ℕ) (entries : List Entry) (i : ℕ) → before ≤ i → before_more before entries ≤ i + 1
before_few before [] i few = omega (arith, few)
before_few before (e ∷ entries) i few = omega (arith, few)

-- the front ends before a command
pub alone_at : (s : State) (commands : List Entry) (i : ℕ) (command : Entry) → i < length commands → command ≡ get_or commands i command → (is_shared command.ask.what ≡ false) ⊎ (goes_back s command.ask.what ≡ false)
    → IsAskedAlone s (drop i commands)
alone_at s commands i command within is why =
    let here : drop i commands ≡ command ∷ drop (i + 1) commands = rw add-one (drop-cons commands i command within) ∙ ap (λ (c : Entry). c ∷ drop (i + 1) commands) (sym is) in
    subst (IsAskedAlone s) (sym here) why

pub alone_none : (s : State) (commands : List Entry) (i : ℕ) → length commands ≤ i → IsAskedAlone s (drop i commands)
alone_none s commands i over = subst (IsAskedAlone s) (sym (drop_all i commands over)) tt

-- ---- what is told again

told_more : (s : State) (size at : ℕ) (commands : List Entry) (replies : List Reply) (command : Entry) (reply : Reply) → AreToldAfterFault s size at commands replies → IsToldAfterFault s size at command reply
    → AreToldAfterFault s size at (commands ++ command ∷ []) (replies ++ reply ∷ [])
told_more s size at [] [] command reply told here = (here, tt)
told_more s size at [] (r ∷ replies) command reply told here = absurd told
told_more s size at (c ∷ commands) [] command reply told here = absurd told
told_more s size at (c ∷ commands) (r ∷ replies) command reply told here = (told.0, told_more s size at commands replies command reply told.1 here)

-- one command more
pub again_next : (s : State) (size at n : ℕ) (commands : List Entry) (i : ℕ) (command : Entry) (reply : Reply) (replies then_replies : List Reply) → i < length commands → command ≡ get_or commands i command → n ≤ length replies
    → AreToldAfterFault s size at (take i commands) (drop n replies) → IsToldAfterFault s size at command reply → then_replies ≡ replies ++ reply ∷ []
    → AreToldAfterFault s size at (take (i + 1) commands) (drop n then_replies)
again_next s size at n commands i command reply replies then_replies within is few told here more =
    let one : take (i + 1) commands ≡ take i commands ++ command ∷ [] = take_more commands i command within ∙ ap (λ (c : Entry). take i commands ++ c ∷ []) (sym is) in
    let back : drop n then_replies ≡ drop n replies ++ reply ∷ [] = ap (drop n) more ∙ drop-append-le n replies (reply ∷ []) few in
    subst (λ (rs : List Reply). AreToldAfterFault s size at (take (i + 1) commands) rs) (sym back)
    (subst (λ (cs : List Entry). AreToldAfterFault s size at cs (drop n replies ++ reply ∷ [])) (sym one) (told_more s size at (take i commands) (drop n replies) command reply told here))

pub same_next : (n : ℕ) (first replies then_replies : List Reply) (reply : Reply) → n ≤ length replies → take n replies ≡ first → then_replies ≡ replies ++ reply ∷ [] → take n then_replies ≡ first
same_next n first replies then_replies reply few same more = ap (take n) more ∙ take-append-le n replies (reply ∷ []) few ∙ same
