-- What following over a source and a sink comes to, from its parts.
use Rattle.std.proofs.Common.{◌≡◌, ℕ, ◌+◌, ◌<◌, ◌≤◌, ◌^◌, false, List, [], ◌∷◌, ◌++◌, length, Option, Some, None, Result, Ok, Err, refl, sym, ap, ◌∙◌, subst, inl, inr, arith, length-append}
use Rattle.std.specs.Prelude.{All}
use Rattle.std.proofs.lemmas.List.Elements.{All-nil, All-cons}
use Rattle.command_types.specs.History.{end_of}
use Rattle.command_types.specs.Roster.{Rows}
use Rattle.outside.specs.Faults.{Rose}
use Rattle.outside.specs.Flow.{Takes}
use Rattle.outside.specs.declared.failed.Failed.{Failed}
use Rattle.house.specs.House.{HouseView, figures_of, Keeps}
use Rattle.standby_wire.specs.Lines.{hello_line}
use Rattle.standby_wire.specs.Replied.{Replied, HearingView}
use Rattle.standby_wire.specs.declared.reply.Reply.TheVariants as replies
use Rattle.standby.specs.Ending.{Came, CameTo, CameToOther, CameToUntaken, SaysLines, EndsBy, is_cut_by}
use Rattle.standby.specs.Following.{FollowsTo, EndsSo, HeldSince, IsLinked}
use Rattle.standby.specs.Link.{World}
use Rattle.standby.specs.Link.Event.{AsksAgain}
use Rattle.standby.specs.Lists.{IsHistoryOf}
use Rattle.standby.specs.Sent.{Sent, numbers_in}
use Rattle.standby.specs.declared.peer.Said.TheVariants.{Next}
use Rattle.standby.specs.declared.peer.Heard.{Heard}
use Rattle.standby.specs.declared.peer.Heard.TheVariants as hears
use Rattle.standby.specs.declared.follow.FollowEnd.{FollowEnd}
use Rattle.standby.specs.declared.follow.FollowEnd.TheVariants.{Caught, Refused, Broken, Full, SourceFault, SinkFault, DiskFault, Memory}
use Rattle.standby.proofs.HeldFacts.{held_now}
use Rattle.standby.proofs.RunFacts.{moved_not, one_asks_again}
use Rattle.standby_link.specs.Asked.{WireGoes}
use Rattle.standby_link.specs.Compared.{Compares}
use Rattle.standby_link.specs.Read.{place_behind, offers_of, IsCause, IsLast}
use Rattle.standby_link.specs.Wire.{WireStart, WireView, IsWire}
use Rattle.standby_link.specs.Followed.{Streams, IsAnswered, IsGreeting, IsFresh, IsUntaken, EndsFor, Ungreeted, Greeted, IsSaidWithin, Begins, Parted, Followed, FollowsOver, IsCounted}
use Rattle.standby_link.specs.declared.login.Login.{Login}
use Rattle.standby_link.proofs.WireFacts.{rose_from}

-- ---- causes

module _ (house : HouseView) (hearing : HearingView) (last : Option Came) (is : IsLast hearing last) where
  -- what the last NEXT came to, as it was read
  cause : (heard : Result Heard Failed) → CameTo house last heard → IsCause hearing (end_of house.history) heard
  cause heard came = subst (IsLast hearing) came is

  untaken : (end : FollowEnd) → CameToUntaken house last end → (due : ℕ) × IsUntaken house hearing due end
  untaken end u = (
    u.due,
    record {
      entry = u.entry;
      heard = (cause (Ok (hears.Entry u.due (end_of house.history + 1) u.entry)) u.came).0;
      old = u.old;
      same = u.same;
      declines = u.declines;
    },
  )

  -- an entry that was read has the next position
  no_other : (at : ℕ) → end_of house.history < 2 ^ 63 → CameToOther house last at → ⊥
  no_other at short (place, entry, other, came) =
      let e : place ≡ place_behind (end_of house.history) = (cause (Ok (hears.Entry at place entry)) came).1 in
      other (omega arith)

  broken_untaken : (at : ℕ) → CameToUntaken house last (Broken at) → IsUntaken house hearing at (Broken at)
  unfolding untaken
  broken_untaken at u =
      let due : u.due ≡ at = sym u.declines.tells.0 in
      subst (λ n. IsUntaken house hearing n (Broken at)) due (untaken (Broken at) u).1

  pub ends_for : end_of house.history < 2 ^ 63 → (end : FollowEnd) → EndsBy house last end → EndsFor house hearing end
  ends_for short Caught came = cause (Ok hears.Nothing) came
  ends_for short (Refused number) came = cause (Ok (hears.Refused number)) came
  ends_for short (Broken at) (inl came) = inl (cause (Ok (hears.Broken at)) came)
  ends_for short (Broken at) (inr (inl other)) = absurd (no_other at short other)
  ends_for short (Broken at) (inr (inr u)) = inr (broken_untaken at u)
  ends_for short (Full size) u = untaken (Full size) u
  ends_for short DiskFault u = untaken DiskFault u
  ends_for short SourceFault (failed, came) = cause (Err failed) came
  ends_for short SinkFault came = tt
  ends_for short Memory came = tt

-- ---- the whole

-- what a wire was when a primary had greeted, in the words of the wire at its end
module _ (login : Login) (first now : Streams) (end : FollowEnd) (w w0 : WireView) (is : IsWire w) (starts : w.start ≡ w0.start)
    (hearing : HearingView) (taken : Option (List ℕ)) (sink_faults : ℕ)
    (begun : w0.start ≡ record { login = login; hearing = hearing; taken = taken; sink_faults = sink_faults }) where
  same : w.start ≡ record { login = login; hearing = hearing; taken = taken; sink_faults = sink_faults }
  same = starts ∙ begun

  pub here : w.start.hearing ≡ hearing
  here = ap (λ (s : WireStart). s.hearing) same

  module _ (fresh : IsFresh first hearing) (answered : IsAnswered login hearing replies.Greeted) (greets : Takes first.taken taken (hello_line login.name login.key))
      (falls : first.sink_faults ≤ sink_faults) (flow : now.flow ≡ w.hearing.flow) (source_faults : now.source_faults ≡ w.hearing.faults) (has : now.taken ≡ w.taken)
      (faults : now.sink_faults ≡ w.sink_faults) (uncut : w0.cut ≡ false) (cut : w.cut ≡ is_cut_by w0.cut (Some end)) where
    pub greeted : Greeted login first now end
    greeted = record {
      wire = w;
      is = is;
      party = ap (λ (s : WireStart). s.login) same;
      fresh = subst (IsFresh first) (sym here) fresh;
      answered = subst (λ (h : HearingView). IsAnswered login h replies.Greeted) (sym here) answered;
      greets = subst (λ t. Takes first.taken t (hello_line login.name login.key)) (sym (ap (λ (s : WireStart). s.taken) same)) greets;
      falls = subst (λ n. first.sink_faults ≤ n) (sym (ap (λ (s : WireStart). s.sink_faults) same)) falls;
      flow = flow;
      source_faults = source_faults;
      taken = has;
      sink_faults = faults;
      cut = cut ∙ ap (λ b. is_cut_by b (Some end)) uncut;
    }

-- ---- what was said before following

module _ (login : Login) (old new : HouseView) (runs : old.kept ≡ []) (keeps : Keeps old) (since : HeldSince old new) where
  nothing_linked : (roster : Rows) (w : World) → IsHistoryOf roster old.history w.standby → IsLinked roster old old [] w
  nothing_linked roster w is = record { events = []; entries = w.standby; leads = moved_not w; stands = is }

  one_linked : (position : ℕ) → position < end_of old.history → (roster : Rows) (w : World) → IsHistoryOf roster old.history w.standby → IsLinked roster old old (position ∷ []) w
  one_linked position fewer roster w is =
      record { events = AsksAgain position ∷ []; entries = w.standby; leads = one_asks_again roster old.history w position fewer is; stands = is }

  -- a line for the last entry is tied to the disk, and is an event
  pub begins : (hearing : HearingView) (said : List Sent) (replied : List Replied) (end : Option FollowEnd) → Compares login old hearing said replied end
      → Begins login old new hearing said replied end
  begins hearing said replied end (inl (none, unheard, why)) = record {
    compares = inl (none, unheard, why);
    before = subst (All (IsSaidWithin new)) (sym none) (All-nil (IsSaidWithin new));
    linked = subst (λ (ss : List Sent). (roster : Rows) (w : World) → IsHistoryOf roster old.history w.standby → IsLinked roster old old (numbers_in ss) w) (sym none) nothing_linked;
  }
  begins hearing said replied end (inr (compares, asks)) =
      let one : Sent = record { house = old; line = Next asks.position } in
      let fewer : asks.position < end_of old.history =
      omega (arith, asks.last.place, ap length asks.last.split, length-append asks.last.front (asks.last.entry ∷ [])) in
      record {
        compares = inr (compares, asks);
        before = subst (All (IsSaidWithin new)) (sym asks.one) (All-cons (IsSaidWithin new) one [] (record {
          position = asks.position;
          line = refl;
          fewer = fewer;
          running = runs;
          has = keeps.leaves runs;
          since = since;
        }) (All-nil (IsSaidWithin new)));
        linked = subst (λ (ss : List Sent). (roster : Rows) (w : World) → IsHistoryOf roster old.history w.standby → IsLinked roster old old (numbers_in ss) w) (sym asks.one)
            (one_linked asks.position fewer);
      }

-- ---- the ways through

-- A primary greeted, and a wire was made over the source and the sink as they were then.
module _ (login : Login) (first : Streams) (w0 : WireView) (hearing : HearingView) (taken : Option (List ℕ)) (sink_faults : ℕ)
    (begun : w0.start ≡ record { login = login; hearing = hearing; taken = taken; sink_faults = sink_faults })
    (fresh : IsFresh first hearing) (answered : IsAnswered login hearing replies.Greeted) (greets : Takes first.taken taken (hello_line login.name login.key))
    (falls : first.sink_faults ≤ sink_faults) (uncut : w0.cut ≡ false) (unsaid : w0.said ≡ []) (heard : w0.hearing ≡ hearing) where
  -- the streams, as a wire has them
  abbrev pub streams_in : WireView → Streams
  streams_in w = record { flow = w.hearing.flow; taken = w.taken; source_faults = w.hearing.faults; sink_faults = w.sink_faults }

  over : (end : FollowEnd) (w : WireView) → IsWire w → w.start ≡ w0.start → w.cut ≡ is_cut_by w0.cut (Some end) → Greeted login first (streams_in w) end
  over end w is starts cut = greeted login first (streams_in w) end w w0 is starts hearing taken sink_faults begun fresh answered greets falls refl refl refl refl uncut cut

  module _ (old : HouseView) (runs : old.kept ≡ []) (keeps : Keeps old) (w1 : WireView) where
    said_here : (end : Option FollowEnd) (goes : WireGoes (Compares w0.start.login old) w0 w1 end) → goes.said ≡ w1.said
    said_here end goes = sym (goes.says ∙ ap (λ (ss : List Sent). ss ++ goes.said) unsaid)

    read_here : (end : Option FollowEnd) (goes : WireGoes (Compares w0.start.login old) w0 w1 end) (start : WireStart) → start ≡ w0.start → w1.hearing.replied ≡ start.hearing.replied ++ goes.replied
    read_here end goes start same =
        goes.reads ∙ ap (λ (h : HearingView). h.replied ++ goes.replied) (heard ∙ sym (ap (λ (s : WireStart). s.hearing) (same ∙ begun)))

    compared : (end : Option FollowEnd) (goes : WireGoes (Compares w0.start.login old) w0 w1 end) → Compares login old w1.hearing w1.said goes.replied end
    compared end goes =
        subst (λ (ss : List Sent). Compares login old w1.hearing ss goes.replied end) (said_here end goes)
        (subst (λ (s : WireStart). Compares s.login old w1.hearing goes.said goes.replied end) begun goes.holds)

    -- it ended by what was compared
    pub parted : (end : FollowEnd) → WireGoes (Compares w0.start.login old) w0 w1 (Some end) → Parted login first (streams_in w1) old old end
    unfolding over greeted
    parted end goes = record {
      greeted = over end w1 goes.is goes.start goes.cut;
      replied = goes.replied;
      reads = read_here (Some end) goes w1.start goes.start;
      begins = begins login old old runs keeps (held_now old keeps runs) w1.hearing w1.said goes.replied (Some end) (compared (Some end) goes);
      same = refl;
    }

    -- or followed
    pub followed : (new : HouseView) (w : WireView) (end : FollowEnd) → WireGoes (Compares w0.start.login old) w0 w1 None → IsWire w → w.start ≡ w1.start → w.cut ≡ is_cut_by w1.cut (Some end)
        → end_of new.history < 2 ^ 63 → FollowsTo old new w1.said w.said (offers_of w1.hearing.replied) (offers_of w.hearing.replied) (Some end) → SaysLines old new w1.said w.said (Some end)
        → EndsBy new w.last end → Followed login first (streams_in w) old new end
    unfolding over greeted
    followed new w end goes is starts cut short follows lines why = record {
      greeted = over end w is (starts ∙ goes.start) (cut ∙ ap (λ b. is_cut_by b (Some end)) goes.cut);
      asked = w1.said;
      hearing = w1.hearing;
      fresh = record {
        first = goes.is.hears.first ∙ ap (λ (s : WireStart). s.hearing.first) (goes.start ∙ begun) ∙ fresh.first;
        first_faults = goes.is.hears.first_faults ∙ ap (λ (s : WireStart). s.hearing.first_faults) (goes.start ∙ begun) ∙ fresh.first_faults;
      };
      heard = goes.is.hearing;
      replied = goes.replied;
      reads = read_here None goes w.start (starts ∙ goes.start);
      begins = begins login old new runs keeps (follows.follows.held old (omega arith) (held_now old keeps runs)) w1.hearing w1.said goes.replied None (compared None goes);
      follows = follows;
      lines = lines;
      why = ends_for new w.hearing w.last is.last short end why;
    }

-- nobody greeted, and the house runs as before
pub ends_ungreeted : (login : Login) (hearing : HearingView) (before after : ℕ) (v : HouseView) (end : FollowEnd) → IsGreeting login hearing before after (Some end) → v.kept ≡ []
    → EndsSo v v (Some end)
ends_ungreeted login hearing before after v DiskFault why runs = absurd why
ends_ungreeted login hearing before after v end why runs = runs

-- ---- counts

rose_of : (a b c d : ℕ) → b ≡ a → d ≡ c → Rose b c → Rose a d
rose_of a b c d same still rose = subst (λ n. Rose n d) same (subst (Rose b) (sym still) rose)

pub counted_ungreeted : (login : Login) (first now : Streams) (old new : HouseView) (end : FollowEnd) → Ungreeted login first now old new end → IsCounted first now end
counted_ungreeted login first now old new SourceFault u =
    rose_of first.source_faults u.hearing.first_faults u.hearing.faults now.source_faults u.fresh.first_faults u.source_faults u.why.1.1
counted_ungreeted login first now old new SinkFault u = u.why.1
counted_ungreeted login first now old new end u = tt

module _ (login : Login) (first now : Streams) where
  -- the input failed where more was due
  unheard : (end : FollowEnd) (g : Greeted login first now end) → Rose g.wire.hearing.first_faults g.wire.hearing.faults → Rose first.source_faults now.source_faults
  unheard end g rose = rose_of first.source_faults g.wire.hearing.first_faults g.wire.hearing.faults now.source_faults (g.is.hears.first_faults ∙ g.fresh.first_faults) g.source_faults rose

  -- a line was cut
  cut_short : (g : Greeted login first now SinkFault) → Rose first.sink_faults now.sink_faults
  cut_short g = subst (Rose first.sink_faults) (sym g.sink_faults) (rose_from first.sink_faults g.wire.start.sink_faults g.wire.sink_faults g.falls (g.is.cuts g.cut))

  module _ (old new : HouseView) where
    asked_unheard : (p : Parted login first now old new SourceFault) → Compares login old p.greeted.wire.hearing p.greeted.wire.said p.replied (Some SourceFault)
        → Rose first.source_faults now.source_faults
    asked_unheard p (inl (none, unread, why)) = absurd why
    asked_unheard p (inr (compares, asks)) = unheard SourceFault p.greeted asks.came.1.1

    counted_parted : (end : FollowEnd) → Parted login first now old new end → IsCounted first now end
    counted_parted SourceFault p = asked_unheard p p.begins.compares
    counted_parted SinkFault p = cut_short p.greeted
    counted_parted end p = tt

    counted_followed : (end : FollowEnd) → Followed login first now old new end → IsCounted first now end
    counted_followed SourceFault f = unheard SourceFault f.greeted f.why.1
    counted_followed SinkFault f = cut_short f.greeted
    counted_followed end f = tt

    pub follows_counted : (end : FollowEnd) → FollowsOver login first now old new end → IsCounted first now end
    follows_counted end (inl u) = counted_ungreeted login first now old new end u
    follows_counted end (inr (inl p)) = counted_parted end p
    follows_counted end (inr (inr f)) = counted_followed end f

-- a standby that parted runs as before
pub ends_parted : (login : Login) (house : HouseView) (hearing : HearingView) (said : List Sent) (replied : List Replied) (end : FollowEnd)
    → Compares login house hearing said replied (Some end) → house.kept ≡ [] → EndsSo house house (Some end)
ends_parted login house hearing said replied DiskFault (inl (none, unread, why)) runs = absurd why
ends_parted login house hearing said replied DiskFault (inr (compares, asks)) runs = absurd asks.came
ends_parted login house hearing said replied end compares runs = runs

-- what a house was when it was made stays
pub follows_figures : (login : Login) (first now : Streams) (old new : HouseView) (end : FollowEnd) → FollowsOver login first now old new end → figures_of new ≡ figures_of old
follows_figures login first now old new end (inl u) = ap figures_of u.same
follows_figures login first now old new end (inr (inl p)) = ap figures_of p.same
follows_figures login first now old new end (inr (inr f)) = f.follows.follows.figures
