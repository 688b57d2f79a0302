-- Sessions whose commands are replied to in one history as in another.
use Rattle.std.proofs.Common.{◌≡◌, ℕ, Bool, ◌≤◌, List, [], ◌∷◌, length, Option, Result, Ok, Err, All, filter, ◌==◌, ◌-◌, sym, ap, ◌∙◌, subst, arith, inl, inr}
use Rattle.command_types.specs.declared.ask.Ask.{Ask}
use Rattle.command_types.specs.declared.ask.Entry.{Entry}
use Rattle.command_types.specs.declared.answer.Answer.{Answer}
use Rattle.command_types.specs.declared.answer.Answer.TheVariants.{Begun, Problems}
use Rattle.command_types.specs.declared.answer.Reply.{Reply}
use Rattle.command_types.specs.declared.figures.Figures.{Figures}
use Rattle.command_types.specs.declared.line.Line.{Line}
use Rattle.command_types.specs.declared.line.Line.TheVariants.{Hello, Trade, Affirm, End, Hold, Free, Tol, Nets, Statement, Freeze, Begin, Limits, Row, Pot, Post, Propose, Next, Plan, Proof, Accept, Decline, Cancel, Bye}
use Rattle.command_types.specs.Roster.{Rows}
use Rattle.command_types.specs.Details.{reply_text}
use Rattle.command_types.specs.Grammar.{line_within}
use Rattle.command_types.specs.History.{History, end_of, entries_of_seat, longer}
use Rattle.command_types.specs.Folds.{IsAtRest, folded}
use Rattle.command_types.specs.Session.{Draft, what_or_fault, Speaker, Standing, Mark, mark_of, IsAsked, GoesOnFetched, GoesOnBegun, IsReplied, IsAnswered, IsTalk, ask_begin, ask_fetch, ask_post}
use Rattle.std.proofs.lemmas.List.Elements.{All-head, All-tail}
use Rattle.trade_history.specs.Book.{IsClosedBase}
use Rattle.trade_history.specs.Folds.{AsksBehind, ReadsBehind, SessionsStayInFolds, figures_behind}
use Rattle.trade_history.proofs.Rosters.{roster_on}
use Rattle.trade_history.proofs.Telling.{drop_behind, folds_tell_the_same}

-- a line that asks for no change in front of a position gives a command that asks for none
asks_behind : (low : ℕ) (rows : Rows) (draft : Draft) (read : Result Line ℕ) → ReadsBehind low read → AsksBehind low (what_or_fault rows draft read)
asks_behind low rows draft (Ok (Hello name key)) behind = tt
asks_behind low rows draft (Ok (Trade seller buyer product amount day)) behind = tt
asks_behind low rows draft (Ok (Affirm trade)) behind = tt
asks_behind low rows draft (Ok (End trade)) behind = tt
asks_behind low rows draft (Ok (Hold trade)) behind = tt
asks_behind low rows draft (Ok (Free trade)) behind = tt
asks_behind low rows draft (Ok (Tol other product side floor ceiling)) behind = tt
asks_behind low rows draft (Ok (Nets product)) behind = tt
asks_behind low rows draft (Ok Statement) behind = tt
asks_behind low rows draft (Ok (Freeze day)) behind = tt
asks_behind low rows draft (Ok (Begin cycle mode)) behind = tt
asks_behind low rows draft (Ok (Limits product)) behind = tt
asks_behind low rows draft (Ok (Row product seller buyer amount)) behind = tt
asks_behind low rows draft (Ok (Pot product member value)) behind = tt
asks_behind low rows draft (Ok (Post cycle version)) behind = tt
asks_behind low rows draft (Ok (Propose cycle mode)) behind = tt
asks_behind low rows draft (Ok (Next position)) behind = behind
asks_behind low rows draft (Ok (Plan cycle)) behind = tt
asks_behind low rows draft (Ok (Proof cycle)) behind = tt
asks_behind low rows draft (Ok (Accept cycle version)) behind = tt
asks_behind low rows draft (Ok (Decline cycle version)) behind = tt
asks_behind low rows draft (Ok (Cancel cycle)) behind = tt
asks_behind low rows draft (Ok Bye) behind = tt
asks_behind low rows draft (Err at) behind = tt

-- Each command that a session asks at this position or later is replied to in the second history as in the first.
module _ (clock : ℕ → Bool) (f g : Figures) (h k : History) (seat low : ℕ)
    (asked : (from : Mark) (ask : Ask) (reply : Reply) (made : List Entry) (to : Mark) → low ≤ from.position → AsksBehind low ask.what → IsAsked clock f h seat from ask reply made to → IsAsked clock g k seat from ask reply made to)
    (rosters : h.base.state.roster ≡ k.base.state.roster) where
  -- a session goes on at no earlier position
  later : (from : Mark) (ask : Ask) (reply : Reply) (made : List Entry) (to : Mark) → low ≤ from.position → IsAsked clock f h seat from ask reply made to → low ≤ to.position
  later from ask reply made to at a = let l = a.later in let p = a.position in omega (arith, at, l, p)

  fetched_on : (answer : Answer) (mid : Mark) (by : Option (List ℕ)) (cycle version begun_at : ℕ) (fetched reply : Reply) (made : List Entry) (to : Mark) → low ≤ mid.position →
      GoesOnFetched answer clock f h seat mid by cycle version begun_at fetched reply made to → GoesOnFetched answer clock g k seat mid by cycle version begun_at fetched reply made to
  fetched_on (Problems problems) mid by cycle version begun_at fetched reply made to at (inl unsolved) = inl unsolved
  fetched_on (Problems problems) mid by cycle version begun_at fetched reply made to at (inr p) =
      inr (record { solutions = p.solutions; solved = p.solved; moment = p.moment; asked = asked mid (ask_post by cycle version p.solutions p.moment) reply made to at tt p.asked })
  fetched_on answer mid by cycle version begun_at fetched reply made to at last = last

  begun_on : (answer : Answer) (mid : Mark) (by : Option (List ℕ)) (cycle : ℕ) (begun reply : Reply) (made : List Entry) (to : Mark) → low ≤ mid.position →
      GoesOnBegun answer clock f h seat mid by cycle begun reply made to → GoesOnBegun answer clock g k seat mid by cycle begun reply made to
  begun_on (Begun number version) mid by cycle begun reply made to at p = record {
    fetched = p.fetched;
    mid = p.mid;
    first = p.first;
    others = p.others;
    moment = p.moment;
    asked = asked mid (ask_fetch by cycle version p.moment) p.fetched p.first p.mid at tt p.asked;
    goes_on = fetched_on p.fetched.answer p.mid by cycle version begun.at p.fetched reply p.others to (later mid (ask_fetch by cycle version p.moment) p.fetched p.first p.mid at p.asked) p.goes_on;
    order = p.order;
  }
  begun_on answer mid by cycle begun reply made to at last = last

  replied : (from : Mark) (rows : Rows) (speaker : Speaker) (read : Result Line ℕ) (reply : Reply) (made : List Entry) (to : Mark) → low ≤ from.position → ReadsBehind low read →
      IsReplied clock f h seat from rows speaker read reply made to → IsReplied clock g k seat from rows speaker read reply made to
  replied from rows speaker (Ok (Propose cycle mode)) reply made to at behind p = record {
    begun = p.begun;
    mid = p.mid;
    first = p.first;
    others = p.others;
    moment = p.moment;
    asked = asked from (ask_begin speaker.party cycle mode p.moment) p.begun p.first p.mid at tt p.asked;
    goes_on = begun_on p.begun.answer p.mid speaker.party cycle p.begun reply p.others to (later from (ask_begin speaker.party cycle mode p.moment) p.begun p.first p.mid at p.asked) p.goes_on;
    order = p.order;
  }
  replied from rows speaker read reply made to at behind a = (a.0, asked from _ reply made to at (asks_behind low rows speaker.draft read behind) a.1)

  -- a command's reply comes at the position that the session then has seen
  fetched_later : (answer : Answer) (mid : Mark) (by : Option (List ℕ)) (cycle version begun_at : ℕ) (fetched reply : Reply) (made : List Entry) (to : Mark) → low ≤ mid.position →
      GoesOnFetched answer clock f h seat mid by cycle version begun_at fetched reply made to → low ≤ to.position
  fetched_later (Problems problems) mid by cycle version begun_at fetched reply made to at (inl unsolved) = subst (λ (m : Mark). low ≤ m.position) (sym unsolved.2) at
  fetched_later (Problems problems) mid by cycle version begun_at fetched reply made to at (inr p) = later mid (ask_post by cycle version p.solutions p.moment) reply made to at p.asked
  fetched_later answer mid by cycle version begun_at fetched reply made to at last = subst (λ (m : Mark). low ≤ m.position) (sym last.2) at

  begun_later : (answer : Answer) (mid : Mark) (by : Option (List ℕ)) (cycle : ℕ) (begun reply : Reply) (made : List Entry) (to : Mark) → low ≤ mid.position →
      GoesOnBegun answer clock f h seat mid by cycle begun reply made to → low ≤ to.position
  begun_later (Begun number version) mid by cycle begun reply made to at p =
      fetched_later p.fetched.answer p.mid by cycle version begun.at p.fetched reply p.others to (later mid (ask_fetch by cycle version p.moment) p.fetched p.first p.mid at p.asked) p.goes_on
  begun_later answer mid by cycle begun reply made to at last = subst (λ (m : Mark). low ≤ m.position) (sym last.2) at

  replied_later : (from : Mark) (rows : Rows) (speaker : Speaker) (read : Result Line ℕ) (reply : Reply) (made : List Entry) (to : Mark) → low ≤ from.position →
      IsReplied clock f h seat from rows speaker read reply made to → low ≤ to.position
  replied_later from rows speaker (Ok (Propose cycle mode)) reply made to at p =
      begun_later p.begun.answer p.mid speaker.party cycle p.begun reply p.others to (later from (ask_begin speaker.party cycle mode p.moment) p.begun p.first p.mid at p.asked) p.goes_on
  replied_later from rows speaker read reply made to at a = later from _ reply made to at a.1

  answered : (from : Standing) (line head : List ℕ) (first : List Entry) (to : Standing) → low ≤ from.position → ReadsBehind low (line_within line) → IsAnswered clock f h seat from line head first to → IsAnswered clock g k seat from line head first to
  answered from line head first to at behind a = record {
    reply = a.reply;
    open_yet = a.open_yet;
    replied = subst (λ (rows : Rows). IsReplied clock g k seat (mark_of from) rows from.speaker (line_within line) a.reply first (mark_of to)) rosters
        (replied (mark_of from) h.base.state.roster from.speaker (line_within line) a.reply first (mark_of to) at behind a.replied);
    text = a.text ∙ ap (λ (rows : Rows). reply_text rows a.reply) rosters;
    speaker = a.speaker;
    over = a.over;
  }

  pub talks : (from : Standing) (lines : List (List ℕ)) (text : List ℕ) (made : List Entry) (to : Standing) → low ≤ from.position → All (λ line. ReadsBehind low (line_within line)) lines → IsTalk clock f h seat from lines text made to → IsTalk clock g k seat from lines text made to
  talks from [] text made to at behind t = t
  talks from (line ∷ lines) text made to at behind (next, head, rest, first, others, a, is_text, is_made, talk) = (
    next,
    head,
    rest,
    first,
    others,
    answered from line head first next at (All-head (λ line. ReadsBehind low (line_within line)) line lines behind) a,
    is_text,
    is_made,
    talks next lines rest others to (replied_later (mark_of from) h.base.state.roster from.speaker (line_within line) a.reply first (mark_of next) at a.replied) (All-tail (λ line. ReadsBehind low (line_within line)) line lines behind) talk,
  )

-- ---- the fold

module _ (h : History) (closed : IsClosedBase h.base.state) (rest : IsAtRest h) (more : List Entry) (clock : ℕ → Bool) (figures : Figures) (base : figures.base ≡ h.base) (late : end_of h ≤ figures.opening) (seat : ℕ) where
  asked_whole : (from : Mark) (ask : Ask) (reply : Reply) (made : List Entry) (to : Mark) → end_of h ≤ from.position → AsksBehind (end_of h) ask.what →
      IsAsked clock (figures_behind h figures) (longer (folded h) more) seat from ask reply made to → IsAsked clock figures (longer h more) seat from ask reply made to
  asked_whole from ask reply made to at behind a = record {
    time = a.time;
    before = a.before;
    told = ((folds_tell_the_same h closed rest more figures base late a.before to.stopped seat ask behind reply).0 a.told).1;
    later = a.later;
    known = a.known;
    stays = a.stays;
    runs = a.runs;
    keeps = a.keeps;
    position = a.position;
  }

  asked_behind : (from : Mark) (ask : Ask) (reply : Reply) (made : List Entry) (to : Mark) → end_of h ≤ from.position → AsksBehind (end_of h) ask.what →
      IsAsked clock figures (longer h more) seat from ask reply made to → IsAsked clock (figures_behind h figures) (longer (folded h) more) seat from ask reply made to
  asked_behind from ask reply made to at behind a =
      let l = a.later in
      let made_is = ap length a.keeps in
      record {
        time = a.time;
        before = a.before;
        told = (folds_tell_the_same h closed rest more figures base late a.before to.stopped seat ask behind reply).1 (omega (arith, at, l, made_is), a.told);
        later = a.later;
        known = a.known;
        stays = a.stays;
        runs = a.runs;
        keeps = a.keeps;
        position = a.position;
      }

  own_same : (n : ℕ) → end_of h ≤ n → entries_of_seat (longer (folded h) more) seat n ≡ entries_of_seat (longer h more) seat n
  own_same n at =
      ap (λ (es : List Entry). filter (λ (entry : Entry). entry.seat == seat) es)
      (sym (drop_behind h.entries more (n - end_of h) (n - h.base.position) (omega (arith, at))))

pub sessions_stay_in_folds : SessionsStayInFolds
sessions_stay_in_folds h closed rest more clock figures base late seat from lines text at behind =
    let low = end_of h in
    let rosters = roster_on h.base.state h.entries in
    let fold_figures = figures_behind h figures in
    let own = own_same h closed rest more clock figures base late seat from.position at in (
      λ session. record {
        made = session.made;
        to = session.to;
        talk = talks clock fold_figures figures (longer (folded h) more) (longer h more) seat low (asked_whole h closed rest more clock figures base late seat) rosters from lines text session.made session.to at behind session.talk;
        own = session.own ∙ own;
      },
      λ session. record {
        made = session.made;
        to = session.to;
        talk = talks clock figures fold_figures (longer h more) (longer (folded h) more) seat low (asked_behind h closed rest more clock figures base late seat) (sym rosters) from lines text session.made session.to at behind session.talk;
        own = session.own ∙ sym own;
      },
    )
