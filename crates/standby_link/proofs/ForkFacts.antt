-- What a standby that compared its last entry knows of its primary.
use Rattle.std.proofs.Common.{◌≡◌, ◌⊎◌, ℕ, true, List, [], ◌∷◌, ◌++◌, None, Ok, Err, sym, ap, ◌∙◌, subst, inl, inr}
use Rattle.std.proofs.lemmas.Bool.{false≢true}
use Rattle.command_types.specs.declared.answer.Answer.TheVariants as answers
use Rattle.command_types.specs.declared.ask.Entry.{Entry}
use Rattle.command_types.specs.Details.{reply_text}
use Rattle.command_types.specs.Roster.{Rows}
use Rattle.house.specs.House.{HouseView}
use Rattle.standby_wire.specs.Seen.{Seen}
use Rattle.standby_wire.specs.Laws.{OnlyTheSameIsRead, WritingIsRead, RefusalsAreRead}
use Rattle.standby_wire.specs.Replies.{reply_to}
use Rattle.standby_wire.specs.Replied.{Replied, AreRead}
use Rattle.standby_wire.specs.Taking.{Pending}
use Rattle.standby_wire.specs.declared.reply.Question.{Question}
use Rattle.standby_wire.specs.declared.reply.Question.TheVariants.{Hello, Again}
use Rattle.standby_wire.specs.declared.reply.Reply.{Reply}
use Rattle.standby_wire.specs.declared.reply.Reply.TheVariants as replies
use Rattle.standby_link.specs.Compared.{AreReply, AsksAgain, ComesTo, Compares, HasNone, IsLastOf}
use Rattle.standby_link.specs.Laws.{Answers, AreAnswers, HasAlike, ForksAreSeen}
use Rattle.standby_link.specs.declared.comparing.TheConstants.{GONE}
use Rattle.standby_link.proofs.AnswerFacts.{read_one}

abbrev reply_in : Seen Reply → Reply
reply_in (Ok read) = read.0
reply_in (Err stop) = replies.Greeted

module _ (writing : WritingIsRead) (only : OnlyTheSameIsRead) (refusals : RefusalsAreRead) (rows : Rows) (entries : List Entry) where
  refused_not : (number : ℕ) (rest behind : List ℕ) → ◌≡◌ {A = Seen Reply} (Ok (replies.Refused number, rest)) (Ok (replies.Same, behind)) → ⊥
  refused_not number rest behind is = let e : replies.Refused number ≡ replies.Same = ap reply_in is in absurd cc

  -- what is read as the same entry is the primary's
  alike : (position : ℕ) (bytes text rest behind : List ℕ) → Answers rows entries (Again position bytes) text
      → reply_to (Again position bytes) (text ++ rest) ≡ Ok (replies.Same, behind) → HasAlike entries position bytes
  alike position bytes text rest behind (at, small, inl refused) heard =
      absurd (refused_not refused.number rest behind (sym (refusals (Again position bytes) rows at refused.refusal refused.number rest small refused.small refused.numbered)
      ∙ sym (ap (λ v. reply_to (Again position bytes) (v ++ rest)) refused.is) ∙ heard))
  alike position bytes text rest behind (at, small, inr (few, inl (here, is))) heard =
      absurd (only.none rows at position bytes rest replies.Same behind small (sym (ap (λ v. reply_to (Again position bytes) (v ++ rest)) is) ∙ heard))
  alike position bytes text rest behind (at, small, inr (few, inr e)) heard =
      let same = only.entry rows at position bytes e.bytes rest replies.Same behind small few e.short (sym (ap (λ v. reply_to (Again position bytes) (v ++ rest)) e.is) ∙ heard) in
      (e.entry, e.fits, same.0 ∙ e.spells.same)

  -- so it is behind a greeting
  greeted_alike : (name : List ℕ) (position due : ℕ) (bytes input : List ℕ) (left : Pending)
      → AreRead 0 (record { question = Hello name; due = 0; reply = replies.Greeted } ∷ record { question = Again position bytes; due = due; reply = replies.Same } ∷ []) input left
      → AreAnswers rows entries (record { question = Hello name; due = 0; reply = replies.Greeted } ∷ record { question = Again position bytes; due = due; reply = replies.Same } ∷ []) input
      → HasAlike entries position bytes
  greeted_alike name position due bytes input left (behind, here, read, (after, there, same, pending)) (text, rest, is, greets, (text', rest', is', tells, none)) =
      let one = read_one writing only refusals rows entries (Hello name) text rest behind replies.Greeted greets (subst (λ v. reply_to (Hello name) v ≡ Ok (replies.Greeted, behind)) is read) in
      alike position bytes text' rest' after tells (subst (λ v. reply_to (Again position bytes) v ≡ Ok (replies.Same, after)) (one.0 ∙ is') same)

pub forks_seen : WritingIsRead → OnlyTheSameIsRead → RefusalsAreRead → ForksAreSeen
forks_seen writing only refusals login first now old new end f roster primary written compares some = by_compared f.begins.compares
  where
    by_reply : (position : ℕ) (bytes : List ℕ) → ComesTo position bytes f.hearing f.replied None → HasAlike primary position bytes ⊎ AreReply position bytes f.replied (replies.Refused GONE)
    by_reply position bytes (inl (due, is)) =
        let hello : Replied = record { question = Hello login.name; due = 0; reply = replies.Greeted } in
        let again : Replied = record { question = Again position bytes; due = due; reply = replies.Same } in
        let all : f.hearing.replied ≡ hello ∷ again ∷ [] =
        f.reads ∙ ap (λ (rs : List Replied). rs ++ f.replied) f.greeted.answered ∙ ap (λ (rs : List Replied). hello ∷ rs) is in
        inl (greeted_alike writing only refusals roster primary login.name position due bytes f.heard.taken f.hearing.pending
        (subst (λ (rs : List Replied). AreRead 0 rs f.heard.taken f.hearing.pending) all f.heard.read)
        (subst (λ (rs : List Replied). AreAnswers roster primary rs f.heard.taken) all written))
    by_reply position bytes (inr gone) = inr gone

    by_compared : Compares login old f.hearing f.asked f.replied None
        → (position : ℕ) × (bytes : List ℕ) × IsLastOf old position bytes × (HasAlike primary position bytes ⊎ AreReply position bytes f.replied (replies.Refused GONE))
    by_compared (inl (none, unread, inl off)) = absurd (false≢true (sym off ∙ compares))
    by_compared (inl (none, unread, inr nothing)) = absurd (some nothing)
    by_compared (inr (does, asks)) = (asks.position, asks.bytes, asks.last, by_reply asks.position asks.bytes asks.came)
