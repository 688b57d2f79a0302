-- The ways through a turn, and how following ends.
use Rattle.std.proofs.Common.{◌≡◌, ℕ, ◌+◌, ◌≤◌, Bool, true, false, not, List, [], ◌∷◌, ◌++◌, length, Option, Some, None, Result, Ok, Err, is_none, IsTrue, refl, sym, ap, ◌∙◌, subst, inl, inr, arith, length-append}
use Rattle.std.specs.Prelude.{◌||◌}
use Rattle.std.proofs.lemmas.Bool.{false≢true}
use Rattle.std.proofs.lemmas.List.{append-nil}
use Rattle.command_types.specs.declared.ask.Entry.{Entry}
use Rattle.command_types.specs.History.{end_of, longer, is_recorded}
use Rattle.house.specs.Storing.{any_kept}
use Rattle.house.specs.House.{HouseView, Keeps}
use Rattle.house.specs.Calling.{is_disk_fault}
use Rattle.standby.specs.Link.{Offer}
use Rattle.standby.specs.Sent.{offers_in, Sent}
use Rattle.standby.specs.Following.{Follows, FollowsTo, TakesEntry, EndsSo, SaysSo, IsSayEnd}
use Rattle.standby.specs.declared.follow.FollowEnd.{FollowEnd}
use Rattle.standby.specs.declared.follow.FollowEnd.TheVariants.{SinkFault, DiskFault, Memory}
use Rattle.outside.specs.Faults.{Rose}
use Rattle.outside.specs.declared.failed.Failed.{Failed}
use Rattle.standby.specs.declared.peer.Heard.{Heard}
use Rattle.standby.specs.declared.peer.Heard.TheVariants as hears
use Rattle.standby.specs.declared.peer.Said.TheVariants.{Next, Bye}
use Rattle.standby.proofs.HeldFacts.{grows_by_one, runs_on}
use Rattle.standby.proofs.FollowFacts.{follows_start, follows_on, asks_only, says_bye, not_taken, takes}

-- a reply has at most one entry
pub offers_few : (r : Result Heard Failed) → length (offers_in r) ≤ 1
offers_few (Err failed) = omega arith
offers_few (Ok (hears.Entry due position entry)) = omega arith
offers_few (Ok hears.Nothing) = omega arith
offers_few (Ok (hears.Refused number)) = omega arith
offers_few (Ok (hears.Broken at)) = omega arith
offers_few (Ok hears.Memory) = omega arith

module _ (v : HouseView) (keeps : Keeps v) (none : v.kept ≡ []) where
  -- it asked, and heard this
  pub asked_and_heard : (said said1 said2 : List Sent) (heard heard1 heard2 offers : List Offer) (n : ℕ) → length offers ≤ 1 → n ≡ end_of v.history
      → said1 ≡ said ++ record { house = v; line = Next n } ∷ [] → heard1 ≡ heard → said2 ≡ said1 → heard2 ≡ heard1 ++ offers → (f : Follows v v said said2 heard heard2) × (f.rest ≡ offers)
  asked_and_heard said said1 said2 heard heard1 heard2 offers n few is s1 h1 s2 h2 =
      let s : said ++ record { house = v; line = Next (end_of v.history) } ∷ [] ≡ said2 = sym (s2 ∙ s1 ∙ ap (λ k. said ++ record { house = v; line = Next k } ∷ []) is) in
      let h : heard ++ offers ≡ heard2 = sym (h2 ∙ ap (λ os. os ++ offers) h1) in
      subst (λ ss. (f : Follows v v said ss heard heard2) × (f.rest ≡ offers)) s
      (subst (λ os. (f : Follows v v said (said ++ record { house = v; line = Next (end_of v.history) } ∷ []) heard os) × (f.rest ≡ offers)) h (asks_only v keeps none said heard offers few))

  -- and said goodbye
  pub left : (said said1 : List Sent) (heard heard1 : List Offer) → said1 ≡ said ++ record { house = v; line = Bye } ∷ [] → heard1 ≡ heard → (f : Follows v v said said1 heard heard1) × (f.rest ≡ [])
  left said said1 heard heard1 s h =
      subst (λ ss. (f : Follows v v said ss heard heard1) × (f.rest ≡ [])) (sym s)
      (subst (λ os. (f : Follows v v said (said ++ record { house = v; line = Bye } ∷ []) heard os) × (f.rest ≡ [])) (sym h) (says_bye v keeps none said heard))

  -- it had asked, and heard no entry, and said goodbye
  pub asked_and_left : (said said1 said2 said3 : List Sent) (heard heard1 heard2 heard3 : List Offer) (n : ℕ) (end : Option FollowEnd) → n ≡ end_of v.history
      → said1 ≡ said ++ record { house = v; line = Next n } ∷ [] → heard1 ≡ heard → said2 ≡ said1 → heard2 ≡ heard1 ++ []
      → said3 ≡ said2 ++ record { house = v; line = Bye } ∷ [] → heard3 ≡ heard2 → FollowsTo v v said said3 heard heard3 end
  asked_and_left said said1 said2 said3 heard heard1 heard2 heard3 n end is s1 h1 s2 h2 s3 h3 =
      let first = asked_and_heard said said1 said2 heard heard1 heard2 [] n (omega arith) is s1 h1 s2 h2 in
      let second = left said2 said3 heard2 heard3 s3 h3 in
      let all = follows_on v v v said said2 said3 heard heard2 heard3 first.0 first.1 second.0 in
      record { follows = all.0; whole = λ is. all.1 ∙ second.1 }

  -- it could not ask
  pub not_asked : (said said1 : List Sent) (heard heard1 : List Offer) (n : ℕ) (end : FollowEnd) → n ≡ end_of v.history → SaysSo v (Next n) said said1 (Some end) → IsSayEnd (Some end) → heard1 ≡ heard
      → FollowsTo v v said said1 heard heard1 (Some end) × EndsSo v v (Some end)
  not_asked said said1 heard heard1 n SinkFault is says why h1 =
      let f = asked_and_heard said said1 said1 heard heard1 heard1 [] n (omega arith) is says h1 refl (sym (append-nil heard1)) in
      (record { follows = f.0; whole = λ is. absurd (false≢true is) }, none)
  not_asked said said1 heard heard1 n Memory is says why h1 =
      let f = follows_start v said heard keeps none in
      let g : Follows v v said said1 heard heard1 = subst (λ ss. Follows v v said ss heard heard1) (sym says) (subst (λ hs. Follows v v said said heard hs) (sym h1) f.0) in
      (record { follows = g; whole = λ is. absurd (false≢true is) }, none)
  not_asked said said1 heard heard1 n end is says why h1 = absurd why

  -- it had asked, and heard no entry, and could not say goodbye
  pub asked_and_not_left : (said said1 said2 said3 : List Sent) (heard heard1 heard2 heard3 : List Offer) (n : ℕ) (end : FollowEnd) → n ≡ end_of v.history
      → said1 ≡ said ++ record { house = v; line = Next n } ∷ [] → heard1 ≡ heard → said2 ≡ said1 → heard2 ≡ heard1 ++ []
      → SaysSo v Bye said2 said3 (Some end) → IsSayEnd (Some end) → heard3 ≡ heard2 → FollowsTo v v said said3 heard heard3 (Some end) × EndsSo v v (Some end)
  asked_and_not_left said said1 said2 said3 heard heard1 heard2 heard3 n SinkFault is s1 h1 s2 h2 s3 why h3 =
      (asked_and_left said said1 said2 said3 heard heard1 heard2 heard3 n (Some SinkFault) is s1 h1 s2 h2 s3 h3, none)
  asked_and_not_left said said1 said2 said3 heard heard1 heard2 heard3 n Memory is s1 h1 s2 h2 s3 why h3 =
      let f = asked_and_heard said said1 said2 heard heard1 heard2 [] n (omega arith) is s1 h1 s2 h2 in
      let g : Follows v v said said3 heard heard3 = subst (λ ss. Follows v v said ss heard heard3) (sym s3) (subst (λ hs. Follows v v said said2 heard hs) (sym h3) f.0) in
      (record { follows = g; whole = λ is. absurd (false≢true is) }, none)
  asked_and_not_left said said1 said2 said3 heard heard1 heard2 heard3 n end is s1 h1 s2 h2 s3 why h3 = absurd why

  -- the house was asked to make the change of the next entry
  pub asked_and_took : (b : HouseView) (said said1 said2 : List Sent) (heard heard1 heard2 : List Offer) (n position : ℕ) (entry : Entry) (end : Option FollowEnd) → n ≡ end_of v.history
      → said1 ≡ said ++ record { house = v; line = Next n } ∷ [] → heard1 ≡ heard → said2 ≡ said1 → heard2 ≡ heard1 ++ record { position = position; entry = entry } ∷ []
      → position ≡ n + 1 → TakesEntry v b entry end → FollowsTo v b said said2 heard heard2 end
  asked_and_took b said said1 said2 heard heard1 heard2 n position entry end is s1 h1 s2 h2 place t =
      let s : said ++ record { house = v; line = Next (end_of v.history) } ∷ [] ≡ said2 = sym (s2 ∙ s1 ∙ ap (λ k. said ++ record { house = v; line = Next k } ∷ []) is) in
      let h : heard ++ record { position = position; entry = entry } ∷ [] ≡ heard2 = sym (h2 ∙ ap (λ os. os ++ record { position = position; entry = entry } ∷ []) h1) in
      subst (λ ss. FollowsTo v b said ss heard heard2 end) s (subst (λ os. FollowsTo v b said (said ++ record { house = v; line = Next (end_of v.history) } ∷ []) heard os end) h
      (either (is_recorded entry.ask.what t.reply.answer) refl))
    where
      either : (made : Bool) → is_recorded entry.ask.what t.reply.answer ≡ made
          → FollowsTo v b said (said ++ record { house = v; line = Next (end_of v.history) } ∷ []) heard (heard ++ record { position = position; entry = entry } ∷ []) end
      either true made =
          let f = takes v keeps none b entry.seat entry.ask t.reply t.calls said heard position (omega arith) made in
          record { follows = f.0; whole = λ is. f.1 }
      either false made = record {
        follows = not_taken v keeps none b entry.seat entry.ask t.reply t.calls said heard position (omega arith) made;
        whole = λ is. absurd (t.caught is (sym t.made ∙ made));
      }

-- where nothing is told, the house runs on with one entry more
pub goes_on : (v b : HouseView) (entry : Entry) (end : Option FollowEnd) → Keeps v → v.kept ≡ [] → TakesEntry v b entry end → is_none end ≡ true
    → (b.kept ≡ []) × (end_of b.history ≡ end_of v.history + 1)
goes_on v b entry end keeps none t nothing =
    let made : is_recorded entry.ask.what t.reply.answer ≡ true = t.made ∙ nothing in
    let more : b.history ≡ longer v.history (entry ∷ []) = grows_by_one v b entry.seat entry.ask t.reply keeps none t.calls made in
    (runs_on v b entry.seat entry.ask t.reply keeps none t.calls made, ap end_of more ∙ (let l = length-append v.history.entries (entry ∷ []) in omega arith))

-- how it ended
pub ends_so : (v b : HouseView) (entry : Entry) (end : Option FollowEnd) → Keeps v → v.kept ≡ [] → TakesEntry v b entry end → EndsSo v b end
ends_so v b entry None keeps none t = runs_on v b entry.seat entry.ask t.reply keeps none t.calls t.made
ends_so v b entry (Some DiskFault) keeps none t = ((t.calls.failed t.fault).0, ap any_kept (t.calls.failed t.fault).1)
ends_so v b entry (Some end) keeps none t =
    let plain : IsTrue (not (is_recorded entry.ask.what t.reply.answer || is_disk_fault t.reply.answer)) = ap not (ap (λ x. x || is_disk_fault t.reply.answer) t.made ∙ t.fault) in
    ap (λ (x : HouseView). x.kept) (t.calls.same plain) ∙ none

rose_later : (a b c : ℕ) → a ≤ b → Rose b c → Rose a c
rose_later a b c le (inl more) = inl (omega arith)
rose_later a b c le (inr most) = inr most

pub ends_later : (a b c : HouseView) (end : FollowEnd) → a.faults ≤ b.faults → EndsSo b c (Some end) → EndsSo a c (Some end)
ends_later a b c DiskFault le ends = (rose_later a.faults b.faults c.faults le ends.0, ends.1)
ends_later a b c end le ends = ends

-- following that went on came to an end
pub goes_to : (a b c : HouseView) (s0 s1 s2 : List Sent) (h0 h1 h2 : List Offer) (end : Option FollowEnd) → FollowsTo a b s0 s1 h0 h1 None → FollowsTo b c s1 s2 h1 h2 end → FollowsTo a c s0 s2 h0 h2 end
goes_to a b c s0 s1 s2 h0 h1 h2 end f g =
    let k = follows_on a b c s0 s1 s2 h0 h1 h2 f.follows (f.whole refl) g.follows in
    record { follows = k.0; whole = λ is. k.1 ∙ g.whole is }
