-- What is read of a primary's answers is the primary's.
use Rattle.std.proofs.Common.{◌≡◌, ℕ, ◌+◌, ◌-◌, List, [], ◌∷◌, ◌++◌, length, Ok, Err, sym, ap, ◌∙◌, subst, inl, inr, arith}
use Rattle.std.proofs.lemmas.List.Elements.{All-nil, All-cons, All-append, All-contains_itself, Contains-append_right, recursion_from_All}
use Rattle.std.specs.Prelude.{All}
use Rattle.std.specs.List.{AllByRecursion, Contains}
use Rattle.command_types.specs.declared.answer.Answer.TheVariants as answers
use Rattle.command_types.specs.declared.ask.Entry.{Entry}
use Rattle.command_types.specs.Details.{reply_text}
use Rattle.command_types.specs.Roster.{Rows}
use Rattle.standby_wire.specs.Seen.{Seen}
use Rattle.standby_wire.specs.Laws.{OnlyTheSameIsRead, WritingIsRead, RefusalsAreRead}
use Rattle.standby_wire.specs.Replies.{reply_to}
use Rattle.standby_wire.specs.Replied.{Replied, AreRead}
use Rattle.standby_wire.specs.Taking.{Pending, moved_on}
use Rattle.standby_wire.specs.declared.reply.Question.{Question}
use Rattle.standby_wire.specs.declared.reply.Question.TheVariants.{Hello, Next, Again}
use Rattle.standby_wire.specs.declared.reply.Reply.{Reply}
use Rattle.standby_wire.specs.declared.reply.Reply.TheVariants as replies
use Rattle.standby.specs.Laws.{WorldsStaySound}
use Rattle.standby.specs.Link.{Offer, Fits, World, AreAmong, moved, IsSound}
use Rattle.standby.specs.Sent.{numbers_in}
use Rattle.standby_link.specs.Laws.{Answers, AreAnswers, FollowersHoldAPrefix}
use Rattle.standby_link.specs.Read.{place_behind, offered, offers_of}

abbrev read_or : Reply × List ℕ → Seen Reply → Reply × List ℕ
read_or other (Ok read) = read
read_or other (Err stop) = other

module _ (writing : WritingIsRead) (only : OnlyTheSameIsRead) (refusals : RefusalsAreRead) (rows : Rows) (entries : List Entry) where
  -- what was read of a text is what is known to be read of it
  known : (question : Question) (text written rest behind : List ℕ) (reply read : Reply) → text ≡ written → reply_to question (written ++ rest) ≡ Ok (read, rest)
      → All (Fits entries) (offered question read) → reply_to question (text ++ rest) ≡ Ok (reply, behind) → (behind ≡ rest) × All (Fits entries) (offered question reply)
  known question text written rest behind reply read is back fits heard =
      let one : (reply, behind) ≡ (read, rest) = ap (read_or (reply, behind)) (sym heard ∙ ap (λ v. reply_to question (v ++ rest)) is ∙ back) in
      (ap (λ p. p.1) one, subst (λ (r : Reply). All (Fits entries) (offered question r)) (sym (ap (λ p. p.0) one)) fits)

  pub read_one : (question : Question) (text rest behind : List ℕ) (reply : Reply) → Answers rows entries question text → reply_to question (text ++ rest) ≡ Ok (reply, behind)
      → (behind ≡ rest) × All (Fits entries) (offered question reply)
  read_one (Hello name) text rest behind reply (at, small, inl refused) heard =
      known (Hello name) text (reply_text rows (record { at = at; answer = answers.No refused.refusal })) rest behind reply (replies.Refused refused.number) refused.is
      (refusals (Hello name) rows at refused.refusal refused.number rest small refused.small refused.numbered) (All-nil (Fits entries)) heard
  read_one (Hello name) text rest behind reply (at, small, inr is) heard =
      known (Hello name) text (reply_text rows (record { at = at; answer = answers.Hello name })) rest behind reply replies.Greeted is
      (writing.hello rows at name rest small) (All-nil (Fits entries)) heard
  read_one (Next position) text rest behind reply (at, small, inl refused) heard =
      known (Next position) text (reply_text rows (record { at = at; answer = answers.No refused.refusal })) rest behind reply (replies.Refused refused.number) refused.is
      (refusals (Next position) rows at refused.refusal refused.number rest small refused.small refused.numbered) (All-nil (Fits entries)) heard
  read_one (Next position) text rest behind reply (at, small, inr (inl (here, is))) heard =
      known (Next position) text (reply_text rows (record { at = at; answer = answers.NoNext })) rest behind reply replies.Nothing is
      (subst (λ p. reply_to (Next p) (reply_text rows (record { at = at; answer = answers.NoNext }) ++ rest) ≡ Ok (replies.Nothing, rest)) here (writing.none rows at rest small))
      (All-nil (Fits entries)) heard
  read_one (Next position) text rest behind reply (at, small, inr (inr e)) heard =
      let place : place_behind position ≡ position + 1 = omega (arith, e.place) in
      known (Next position) text (reply_text rows (record { at = at; answer = answers.EntryBytes (position + 1) e.bytes })) rest behind reply (replies.Entry e.entry) e.is
      (writing.entry rows at position e.bytes e.entry rest small e.short e.spells)
      (All-cons (Fits entries) (record { position = place_behind position; entry = e.entry }) []
      (subst (λ n. Fits entries (record { position = n; entry = e.entry })) (sym place) e.fits) (All-nil (Fits entries))) heard
  read_one (Again position bytes) text rest behind reply (at, small, inl refused) heard =
      known (Again position bytes) text (reply_text rows (record { at = at; answer = answers.No refused.refusal })) rest behind reply (replies.Refused refused.number) refused.is
      (refusals (Again position bytes) rows at refused.refusal refused.number rest small refused.small refused.numbered) (All-nil (Fits entries)) heard
  read_one (Again position bytes) text rest behind reply (at, small, inr (few, inl (here, is))) heard =
      absurd (only.none rows at position bytes rest reply behind small (sym (ap (λ v. reply_to (Again position bytes) (v ++ rest)) is) ∙ heard))
  read_one (Again position bytes) text rest behind reply (at, small, inr (few, inr e)) heard =
      let same = only.entry rows at position bytes e.bytes rest reply behind small few e.short (sym (ap (λ v. reply_to (Again position bytes) (v ++ rest)) e.is) ∙ heard) in
      (same.2, All-nil (Fits entries))

  -- and so all that was read
  read_all : (at : ℕ) (rs : List Replied) (input : List ℕ) (left : Pending) → AreRead at rs input left → AreAnswers rows entries rs input → All (Fits entries) (offers_of rs)
  read_all at [] input left read written = All-nil (Fits entries)
  read_all at (r ∷ rs) input left (behind, due, read, others) (text, rest, is, answer, more) =
      let one = read_one r.question text rest behind r.reply answer (subst (λ v. reply_to r.question v ≡ Ok (r.reply, behind)) is read) in
      All-append (Fits entries) (offered r.question r.reply) (offers_of rs) one.1
      (read_all (moved_on at (length input - length behind)) rs behind left others (subst (AreAnswers rows entries rs) (sym one.0) more))

among : (xs ys zs : List Offer) → AllByRecursion (Contains zs) ys → AreAmong ys (xs ++ zs)
among xs [] zs all = tt
among xs (y ∷ ys) zs (here, others) = (Contains-append_right xs zs y here, among xs ys zs others)

-- what a standby takes of a primary's answers is the primary's
pub follows_prefix : WritingIsRead → OnlyTheSameIsRead → RefusalsAreRead → WorldsStaySound → FollowersHoldAPrefix
follows_prefix writing only refusals stay login first now old new end followed roster primary before written history begins =
    let f = followed.follows.follows in
    let g = followed.greeted in
    let sent : List Offer = offers_of g.wire.hearing.replied in
    let w : World = record { primary = primary; sent = sent; standby = before; asked = [] } in
    let own : AreAmong f.offers sent = subst (λ os. AreAmong f.offers os) (sym f.hears)
    (among (offers_of followed.hearing.replied) f.offers f.offers (recursion_from_All (Contains f.offers) f.offers (All-contains_itself f.offers))) in
    let l = f.linked roster w history own in
    let fits : All (Fits primary) sent = read_all writing only refusals roster primary 0 g.wire.hearing.replied g.is.hearing.taken g.wire.hearing.pending g.is.hearing.read written in
    let sound : IsSound w = record { fits = fits; front = begins; asked = All-nil _ } in
    let after : IsSound (moved w l.entries (numbers_in f.sends)) = stay l.events w (moved w l.entries (numbers_in f.sends)) sound l.leads in
    (l.entries, l.stands, after.front)
