-- The lines of a turn and of the turns before it, and why following ends.
use Rattle.std.proofs.Common.{◌≡◌, ◌≢◌, ℕ, zero, suc, ◌+◌, ◌-◌, ◌≤◌, Bool, true, false, not, List, [], ◌∷◌, ◌++◌, map, Option, Some, None, Result, Ok, is_none, IfSome, refl, sym, ap, ◌∙◌, inl, inr, arith, append_assoc, append-nil}
use Rattle.std.proofs.lemmas.Bool.{and_parts, false≢true}
use Rattle.std.proofs.lemmas.List.{map-append}
use Rattle.command_types.specs.declared.ask.Entry.{Entry}
use Rattle.command_types.specs.declared.ask.What.{What}
use Rattle.command_types.specs.declared.answer.Answer.{Answer}
use Rattle.command_types.specs.declared.answer.Reply.{Reply}
use Rattle.command_types.specs.History.{end_of, is_recorded}
use Rattle.command_types.specs.Machine.{changes, is_refusal}
use Rattle.outside.specs.declared.failed.Failed.{Failed}
use Rattle.house.specs.House.{HouseView, Keeps}
use Rattle.house.specs.Calling.{Calls}
use Rattle.standby.specs.Sent.{Sent}
use Rattle.standby.specs.Following.{SaysSo, IsSayEnd}
use Rattle.standby.specs.Ending.{line_of, nexts, AreLast, SaysLines, Came, CameTo, CameToUntaken, Tells, Declines, EndsBy}
use Rattle.standby.specs.declared.peer.Said.{Said}
use Rattle.standby.specs.declared.peer.Said.TheVariants.{Next, Bye}
use Rattle.standby.specs.declared.peer.Heard.{Heard}
use Rattle.standby.specs.declared.peer.Heard.TheVariants as hears
use Rattle.standby.specs.declared.follow.FollowEnd.{FollowEnd}
use Rattle.standby.specs.declared.follow.FollowEnd.TheVariants.{Caught, Refused, Broken, Full, SourceFault, SinkFault, DiskFault, Memory}
use Rattle.standby.proofs.HeldFacts.{grows_not}

-- ---- lines

lines_more : (said : List Sent) (sent : Sent) → map line_of (said ++ sent ∷ []) ≡ map line_of said ++ sent.line ∷ []
lines_more said sent = map-append line_of said (sent ∷ [])

nexts_append : (n a b c : ℕ) → c ≡ a + b → nexts n a ++ nexts (n + a) b ≡ nexts n c
nexts_append n zero b c is =
    let e : n + 0 ≡ n = omega arith in let f : b ≡ c = omega arith in ap (λ k. nexts k b) e ∙ ap (nexts n) f
nexts_append n (suc a) b zero is = absurd (omega arith)
nexts_append n (suc a) b (suc c) is =
    let e : n + suc a ≡ n + 1 + a = omega arith in
    ap (λ ls. Next n ∷ ls) (ap (λ k. nexts (n + 1) a ++ nexts k b) e ∙ nexts_append (n + 1) a b c (omega arith))

-- following that went on came to an end
pub lines_on : (a b c : HouseView) (s0 s1 s2 : List Sent) (end : Option FollowEnd) → SaysLines a b s0 s1 None → SaysLines b c s1 s2 end → SaysLines a c s0 s2 end
lines_on a b c s0 s1 s2 end f g =
    let i : ℕ = end_of a.history in let j : ℕ = end_of b.history in let k : ℕ = end_of c.history in
    let le : i ≤ j = f.grows in let le2 : j ≤ k = g.grows in
    let first : map line_of s1 ≡ map line_of s0 ++ nexts i (j - i) =
    f.says ∙ ap (λ ls. map line_of s0 ++ (nexts i (j - i) ++ ls)) f.are_last ∙ ap (λ ls. map line_of s0 ++ ls) (append-nil (nexts i (j - i))) in
    let place : i + (j - i) ≡ j = omega arith in
    let both : nexts i (j - i) ++ nexts j (k - j) ≡ nexts i (k - i) =
    ap (λ n. nexts i (j - i) ++ nexts n (k - j)) (sym place) ∙ nexts_append i (j - i) (k - j) (k - i) (omega arith) in
    record {
      grows = omega arith;
      last = g.last;
      are_last = g.are_last;
      says = g.says ∙ ap (λ ls. ls ++ (nexts j (k - j) ++ g.last)) first
          ∙ append_assoc (map line_of s0) (nexts i (j - i)) (nexts j (k - j) ++ g.last)
          ∙ ap (λ ls. map line_of s0 ++ ls) (sym (append_assoc (nexts i (j - i)) (nexts j (k - j)) g.last) ∙ ap (λ ls. ls ++ g.last) both);
    }

-- nothing was said
pub lines_first : (v : HouseView) (said : List Sent) → SaysLines v v said said None
lines_first v said = record {
  grows = omega arith;
  last = [];
  are_last = refl;
  says =
      let e : end_of v.history - end_of v.history ≡ 0 = omega arith in
      sym (ap (λ n. map line_of said ++ (nexts (end_of v.history) n ++ [])) e ∙ append-nil (map line_of said));
}

module _ (v : HouseView) (said said1 : List Sent) (n : ℕ) (is : n ≡ end_of v.history) where
  -- it came to an end where it was
  ends_here : (b : HouseView) (said2 : List Sent) (last : List Said) (end : Option FollowEnd) → end_of b.history ≡ end_of v.history → AreLast (end_of b.history) last end
      → map line_of said2 ≡ map line_of said ++ last → SaysLines v b said said2 end
  ends_here b said2 last end same are says = record {
    grows = omega arith;
    last = last;
    are_last = are;
    says =
        let e : end_of b.history - end_of v.history ≡ 0 = omega arith in
        says ∙ sym (ap (λ k. map line_of said ++ (nexts (end_of v.history) k ++ last)) e);
  }

  module _ (asks : said1 ≡ said ++ record { house = v; line = Next n } ∷ []) where
    asked : (b : HouseView) (said2 : List Sent) → said2 ≡ said1 → end_of b.history ≡ end_of v.history → map line_of said2 ≡ map line_of said ++ Next (end_of b.history) ∷ []
    asked b said2 s2 same =
        ap (map line_of) (s2 ∙ asks) ∙ lines_more said (record { house = v; line = Next n }) ∙ ap (λ k. map line_of said ++ Next k ∷ []) (is ∙ sym same)

    -- it asked, and then came to this
    pub asked_once : (b : HouseView) (said2 : List Sent) (end : Option FollowEnd) → said2 ≡ said1 → end_of b.history ≡ end_of v.history
        → AreLast (end_of b.history) (Next (end_of b.history) ∷ []) end → SaysLines v b said said2 end
    asked_once b said2 end s2 same are = ends_here b said2 (Next (end_of b.history) ∷ []) end same are (asked b said2 s2 same)

    -- and said goodbye
    pub asked_and_bye : (said2 said3 : List Sent) (end : FollowEnd) → said2 ≡ said1 → said3 ≡ said2 ++ record { house = v; line = Bye } ∷ []
        → AreLast (end_of v.history) (Next (end_of v.history) ∷ Bye ∷ []) (Some end) → SaysLines v v said said3 (Some end)
    asked_and_bye said2 said3 end s2 s3 are =
        ends_here v said3 (Next (end_of v.history) ∷ Bye ∷ []) (Some end) refl are
        (ap (map line_of) s3 ∙ lines_more said2 (record { house = v; line = Bye }) ∙ ap (λ ls. ls ++ Bye ∷ []) (asked v said2 s2 refl)
        ∙ append_assoc (map line_of said) (Next (end_of v.history) ∷ []) (Bye ∷ []))

    pub asked_no_bye : (said2 said3 : List Sent) (end : FollowEnd) → said2 ≡ said1 → SaysSo v Bye said2 said3 (Some end) → IsSayEnd (Some end) → SaysLines v v said said3 (Some end)
    asked_no_bye said2 said3 SinkFault s2 s3 why = asked_and_bye said2 said3 SinkFault s2 s3 (inr refl)
    asked_no_bye said2 said3 Memory s2 s3 why = asked_once v said3 (Some Memory) (s3 ∙ s2) refl (inr refl)
    asked_no_bye said2 said3 end s2 s3 why = absurd why

    -- and the house took the entry
    pub asked_and_taken : (b : HouseView) (said2 : List Sent) → said2 ≡ said1 → end_of b.history ≡ end_of v.history + 1 → SaysLines v b said said2 None
    asked_and_taken b said2 s2 more = record {
      grows = omega arith;
      last = [];
      are_last = refl;
      says =
          let e : end_of b.history - end_of v.history ≡ 1 = omega arith in
          asked v said2 s2 refl ∙ sym (ap (λ k. map line_of said ++ (nexts (end_of v.history) k ++ [])) e);
    }

  -- it could not ask
  pub not_asked_lines : (end : FollowEnd) → SaysSo v (Next n) said said1 (Some end) → IsSayEnd (Some end) → SaysLines v v said said1 (Some end)
  not_asked_lines SinkFault asks why = asked_once asks v said1 (Some SinkFault) refl refl (inl refl)
  not_asked_lines Memory same why = ends_here v said1 [] (Some Memory) refl (inl refl) (ap (map line_of) same ∙ sym (append-nil (map line_of said)))
  not_asked_lines end asks why = absurd why

-- ---- causes

-- a house that declines an entry has the history that it had
pub declined_same : (a b : HouseView) (due : ℕ) (entry : Entry) (end : FollowEnd) → Keeps a → a.kept ≡ [] → Declines a b due entry end → a.history ≡ b.history
declined_same a b due entry end keeps none d = sym (grows_not a b entry.seat entry.ask d.reply keeps none d.calls (unmade _ d.unmade))
  where
    unmade : (made : Bool) → made ≢ true → made ≡ false
    unmade true not_made = absurd (not_made refl)
    unmade false not_made = refl

module _ (a b : HouseView) (keeps : Keeps a) (none : a.kept ≡ []) (n due at : ℕ) (entry : Entry) (last : Option Came)
    (is : n ≡ end_of a.history) (place : at ≡ n + 1) (came : last ≡ Some (record { position = n; heard = Ok (hears.Entry due at entry) })) where
  untaken : (end : FollowEnd) → Declines a b due entry end → CameToUntaken b last end
  untaken end d =
      let same = declined_same a b due entry end keeps none d in
      let here : n ≡ end_of b.history = is ∙ ap end_of same in record {
        old = a;
        same = same;
        due = due;
        entry = entry;
        came = came ∙ ap (λ k. Some (record { position = n; heard = Ok (hears.Entry due k entry) })) (place ∙ ap (λ k. k + 1) here)
            ∙ ap (λ k. Some (record { position = k; heard = Ok (hears.Entry due (end_of b.history + 1) entry) })) here;
        declines = d;
      }

  -- the house did not take the entry that was heard
  because : (end : FollowEnd) → Declines a b due entry end → EndsBy b last end
  because (Full size) d = untaken (Full size) d
  because DiskFault d = untaken DiskFault d
  because (Broken at) d = inr (inr (untaken (Broken at) d))
  because SinkFault d = tt
  because Memory d = tt
  because Caught d = absurd d.tells
  because (Refused number) d = absurd d.tells
  because SourceFault d = absurd d.tells

  pub because_untaken : (end : Option FollowEnd) → IfSome end (Declines a b due entry) → IfSome end (EndsBy b last)
  because_untaken None d = tt
  because_untaken (Some end) d = because end d

  -- and the lines that were said by then
  are_last_of : (end : FollowEnd) → Declines a b due entry end → AreLast (end_of b.history) (Next (end_of b.history) ∷ []) (Some end)
  are_last_of (Full size) d = refl
  are_last_of DiskFault d = refl
  are_last_of (Broken at) d = refl
  are_last_of SinkFault d = inl refl
  are_last_of Memory d = inr refl
  are_last_of Caught d = absurd d.tells
  are_last_of (Refused number) d = refl
  are_last_of SourceFault d = refl

  pub lines_taken : (said said1 said2 : List Sent) → said1 ≡ said ++ record { house = a; line = Next n } ∷ [] → said2 ≡ said1 → (end : Option FollowEnd) → IfSome end (Declines a b due entry)
      → (end ≡ None → end_of b.history ≡ end_of a.history + 1) → SaysLines a b said said2 end
  lines_taken said said1 said2 asks s2 None d more = asked_and_taken a said said1 n is asks b said2 s2 (more refl)
  lines_taken said said1 said2 asks s2 (Some end) d more =
      asked_once a said said1 n is asks b said2 (Some end) s2 (sym (ap end_of (declined_same a b due entry end keeps none d))) (are_last_of end d)

-- a line that was not said whole, and want of memory, are told by others
pub because_unsaid : (v : HouseView) (last : Option Came) (end : FollowEnd) → IsSayEnd (Some end) → EndsBy v last end
because_unsaid v last SinkFault why = tt
because_unsaid v last Memory why = tt
because_unsaid v last end why = absurd why

-- what the last NEXT came to, at the position where the house is
pub came_here : (v : HouseView) (n : ℕ) (last : Option Came) (heard : Result Heard Failed) → n ≡ end_of v.history
    → last ≡ Some (record { position = n; heard = heard }) → CameTo v last heard
came_here v n last heard is came = came ∙ ap (λ k. Some (record { position = k; heard = heard })) is

-- an entry at another position
pub because_other : (v : HouseView) (n due at : ℕ) (entry : Entry) (last : Option Came) → n ≡ end_of v.history → (at ≡ n + 1 → ⊥)
    → last ≡ Some (record { position = n; heard = Ok (hears.Entry due at entry) }) → EndsBy v last (Broken due)
because_other v n due at entry last is other came =
    inr (inl (at, entry, (λ e. other (e ∙ ap (λ k. k + 1) (sym is))), came_here v n last (Ok (hears.Entry due at entry)) is came))

-- what a house tells of an entry that it did not take
unrecorded : (what : What) (answer : Answer) → false ≡ not (is_refusal answer) → is_recorded what answer ≢ true
unrecorded what answer refused made =
    let kept : not (is_refusal answer) ≡ true = (and_parts (changes what) (not (is_refusal answer)) made).1 in absurd (false≢true (refused ∙ kept))

pub declines_of : (a b : HouseView) (due : ℕ) (entry : Entry) (reply : Reply) → Calls a b entry.seat entry.ask reply → (end : Option FollowEnd)
    → is_none end ≡ not (is_refusal reply.answer) → IfSome end (Tells due reply.answer) → IfSome end (Declines a b due entry)
declines_of a b due entry reply calls None made tells = tt
declines_of a b due entry reply calls (Some end) made tells =
    record { reply = reply; calls = calls; unmade = unrecorded entry.ask.what reply.answer made; tells = tells }
