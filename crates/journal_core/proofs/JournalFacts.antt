-- Journals as lists of bytes, and what a write into one leaves.
use Rattle.std.proofs.Common.{◌≡◌, ◌≢◌, inl, inr, ℕ, ◌+◌, ◌-◌, ◌≤◌, ◌<◌, List, [], ◌∷◌, ◌++◌, length, drop, get_or, Option, Some, None, refl, sym, ◌∙◌, subst, ap, arith, append_assoc, length-append, take-append-drop}
use Rattle.std.proofs.lemmas.Bool.{cases_eq}
use Rattle.std.proofs.lemmas.List.{take_at, drop_at, drop_more}
use Rattle.std.proofs.lemmas.Grind.{flat_map-append}
use Rattle.std.proofs.Math.Seq.{drop-append-add}
use Rattle.std.specs.List.{flat_map}
use Rattle.outside.specs.Disk.{History, IsTorn, IsSettled, IsPlace, overwritten}
use Rattle.journal_core.specs.Holds.{limit, frame, LeadsTo, IsJournal, end_in, Holds}
use Rattle.journal_core.specs.Frame.{framed}
use Rattle.journal_core.specs.Moments.{LeavesOnly, TornOf, Puts, MayLeaveYet, IsContent}
use Rattle.journal_core.specs.Journal.{DiskHolds, IsAtRest, IsReady, HoldsAllOrNone}
use Rattle.journal_core.proofs.MomentFacts.{started, leaves_more, torn_done, yet_more}
use Rattle.journal_core.proofs.FrameFacts.{framed_size}
use Rattle.journal_core.proofs.PartFacts.{journal_holds, lead, laid, lead_size, lead_leads, laid_out}
use Rattle.journal_core.specs.declared.form.Form.{Form}

-- a write at a place between two parts
pub overwritten_at : (xs ys bytes : List ℕ) (place : ℕ) → place ≡ length xs → overwritten place bytes (xs ++ ys) ≡ xs ++ (bytes ++ drop (length bytes) ys)
overwritten_at xs ys bytes place is =
    let behind : drop (place + length bytes) (xs ++ ys) ≡ drop (length bytes) ys = ap (λ (k : ℕ). drop (k + length bytes) (xs ++ ys)) is ∙ drop-append-add xs ys (length bytes) in
    ap (λ (l : List ℕ). l ++ bytes ++ drop (place + length bytes) (xs ++ ys)) (take_at xs ys place (sym is))
    ∙ ap (λ (l : List ℕ). xs ++ bytes ++ l) behind ∙ append_assoc xs bytes (drop (length bytes) ys)

-- a write there that was broken off
torn_at : (xs ys image : List ℕ) (place count : ℕ) → place ≡ length xs → IsTorn place count (xs ++ ys) image → image ≡ xs ++ drop place image
torn_at xs ys image place count is torn =
    sym (take-append-drop place image) ∙ ap (λ (l : List ℕ). l ++ drop place image) (torn.before ∙ take_at xs ys place (sym is))

-- what stands before the gate behind these records
abbrev front : List ℕ → List (List ℕ) → List ℕ
front ahead rs = ahead ++ flat_map frame rs

front_size : (ahead : List ℕ) (rs : List (List ℕ)) → length (front ahead rs) ≡ length ahead + length (flat_map frame rs)
front_size ahead rs = length-append ahead (flat_map frame rs)

-- a write behind the closed gate leaves the records, broken off or not
behind_gate : (form : Form) (ahead base : List ℕ) → LeadsTo form ahead base (length ahead) → (records : List (List ℕ)) (file image rest : List ℕ) (gate end count : ℕ)
    → file ≡ front ahead records ++ gate ∷ rest → gate ≢ 1 → length (front ahead records) < limit → end ≡ length (front ahead records) + 1
    → IsTorn end count file image → (j : IsJournal form image base records) × (j.place ≡ length ahead)
behind_gate form ahead base leads records file image rest gate end count split closed within is torn =
    let before = front ahead records ++ gate ∷ [] in
    let size : end ≡ length before = omega (arith, is, length-append (front ahead records) (gate ∷ [])) in
    let whole : file ≡ before ++ rest = split ∙ sym (append_assoc (front ahead records) (gate ∷ []) rest) in
    let kept : image ≡ before ++ drop end image = torn_at before rest image end count size (subst (λ (f : List ℕ). IsTorn end count f image) whole torn) in
    laid_out form ahead base records image gate (drop end image) leads (kept ∙ append_assoc (front ahead records) (gate ∷ []) (drop end image)) closed (omega (arith, within, front_size ahead records))

-- the frames of some records take as many bytes as stand behind the gate of the first, with the closed gate
behind_size : (more : List (List ℕ)) (behind : List ℕ) → 1 ∷ behind ≡ framed more → length behind ≡ length (flat_map frame more)
behind_size more behind is = omega (arith, ap length is, framed_size more)

-- A journal with what stands before its first gate, to which records are appended, with these bytes behind the gate of the first.
module _ (form : Form) (ahead base : List ℕ) (leads : LeadsTo form ahead base (length ahead)) (records more : List (List ℕ)) (behind : List ℕ) (framed_is : 1 ∷ behind ≡ framed more) where
  fronts : front ahead (records ++ more) ≡ front ahead records ++ flat_map frame more
  fronts = ap (λ (l : List ℕ). ahead ++ l) (flat_map-append frame records more) ∙ sym (append_assoc ahead (flat_map frame records) (flat_map frame more))

  longer : length (front ahead (records ++ more)) ≡ length (front ahead records) + length behind
  longer = ap length fronts ∙ length-append (front ahead records) (flat_map frame more) ∙ ap (λ (n : ℕ). length (front ahead records) + n) (sym (behind_size more behind framed_is))

  -- with the gate open, the records are more
  opened : (file rest : List ℕ) → file ≡ front ahead records ++ 1 ∷ (behind ++ rest) → length (front ahead records) + 1 + length behind ≤ limit
      → (j : IsJournal form file base (records ++ more)) × (j.place ≡ length ahead)
  opened file rest is fits =
      let spread : 1 ∷ (behind ++ rest) ≡ flat_map frame more ++ 0 ∷ rest = ap (λ (l : List ℕ). l ++ rest) framed_is ∙ append_assoc (flat_map frame more) (0 ∷ []) rest in
      let split : file ≡ front ahead (records ++ more) ++ 0 ∷ rest =
      is ∙ ap (λ (l : List ℕ). front ahead records ++ l) spread
      ∙ sym (append_assoc (front ahead records) (flat_map frame more) (0 ∷ rest))
      ∙ ap (λ (l : List ℕ). l ++ 0 ∷ rest) (sym fronts) in
      laid_out form ahead base (records ++ more) file 0 rest leads split (omega arith) (omega (arith, fits, longer, front_size ahead (records ++ more)))

  -- with any gate, they are more or they are not
  either : (file rest : List ℕ) (gate : ℕ) → file ≡ front ahead records ++ gate ∷ (behind ++ rest) → length (front ahead records) + 1 + length behind ≤ limit
      → HoldsAllOrNone base records more file
  either file rest gate is fits = elim (cases_eq gate 1) [
    | inl is_open ↦ inr (journal_holds form file base (records ++ more) (opened file rest (is ∙ ap (λ (g : ℕ). front ahead records ++ g ∷ (behind ++ rest)) is_open) fits).0)
    | inr shut ↦ inl (journal_holds form file base records (laid_out form ahead base records file gate (behind ++ rest) leads is shut (omega (arith, fits, front_size ahead records))).0)
  ]

  -- the first write, when it is done
  behind_done : (file rest : List ℕ) (gate end : ℕ) → file ≡ front ahead records ++ gate ∷ rest → end ≡ length (front ahead records) + 1
      → overwritten end behind file ≡ front ahead records ++ gate ∷ (behind ++ drop (length behind) rest)
  behind_done file rest gate end split is =
      let before = front ahead records ++ gate ∷ [] in
      let size : end ≡ length before = omega (arith, is, length-append (front ahead records) (gate ∷ [])) in
      let whole : file ≡ before ++ rest = split ∙ sym (append_assoc (front ahead records) (gate ∷ []) rest) in
      ap (overwritten end behind) whole ∙ overwritten_at before rest behind end size ∙ append_assoc (front ahead records) (gate ∷ []) (behind ++ drop (length behind) rest)

  -- the second write leaves them with all the new ones or with none
  at_gate : (file image rest : List ℕ) (gate shut : ℕ) → file ≡ front ahead records ++ shut ∷ (behind ++ rest) → gate ≡ length (front ahead records) → length (front ahead records) + 1 + length behind ≤ limit
      → IsTorn gate 1 file image → HoldsAllOrNone base records more image
  at_gate file image rest gate shut is place fits torn =
      let torn_here = subst (λ (f : List ℕ). IsTorn gate 1 f image) is torn in
      let kept : image ≡ front ahead records ++ drop gate image = torn_at (front ahead records) (shut ∷ (behind ++ rest)) image gate 1 place torn_here in
      let no_shorter : length (front ahead records ++ shut ∷ (behind ++ rest)) ≤ length image = torn_here.no_shorter in
      let long : gate < length image = omega (arith, no_shorter, place, length-append (front ahead records) (shut ∷ (behind ++ rest))) in
      let before = front ahead records ++ shut ∷ [] in
      let before_size : length before ≡ gate + 1 = omega (arith, place, length-append (front ahead records) (shut ∷ [])) in
      let back : drop (gate + 1) image ≡ behind ++ rest =
      torn_here.behind ∙ ap (λ (l : List ℕ). drop (gate + 1) l) (sym (append_assoc (front ahead records) (shut ∷ []) (behind ++ rest))) ∙ drop_at before (behind ++ rest) (gate + 1) before_size in
      let now = get_or image gate 0 in
      let split : image ≡ front ahead records ++ now ∷ (behind ++ rest) =
      kept ∙ ap (λ (l : List ℕ). front ahead records ++ l) (drop_more image gate 0 long ∙ ap (λ (l : List ℕ). now ∷ l) back) in
      either image rest now split fits

  -- and the new ones with them when it is done
  gate_done : (file rest : List ℕ) (gate shut : ℕ) → file ≡ front ahead records ++ shut ∷ (behind ++ rest) → gate ≡ length (front ahead records)
      → overwritten gate (1 ∷ []) file ≡ front ahead records ++ 1 ∷ (behind ++ rest)
  gate_done file rest gate shut is place =
      ap (overwritten gate (1 ∷ [])) is ∙ overwritten_at (front ahead records) (shut ∷ (behind ++ rest)) (1 ∷ []) gate place

-- a journal ends within its file
pub end_within : (form : Form) (file base : List ℕ) (records : List (List ℕ)) (end : ℕ) (j : IsJournal form file base records) → end ≡ end_in j → end ≤ length file
end_within form file base records end j is =
    let ahead = lead form file base records j in
    omega (arith, is, lead_size form file base records j, ap length (laid form file base records j), length-append (ahead ++ flat_map frame records) (j.gate ∷ j.rest), length-append ahead (flat_map frame records))

-- a torn write at a journal's end leaves the journal
pub end_torn : (form : Form) (file base : List ℕ) (records : List (List ℕ)) (image : List ℕ) (end count : ℕ) (j : IsJournal form file base records) → end ≡ end_in j → IsTorn end count file image
    → (k : IsJournal form image base records) × (end ≡ end_in k)
end_torn form file base records image end count j is torn =
    let ahead = lead form file base records j in
    let size = lead_size form file base records j in
    let whole : length (ahead ++ flat_map frame records) ≡ length ahead + length (flat_map frame records) = length-append ahead (flat_map frame records) in
    let kept = behind_gate form ahead base (lead_leads form file base records j) records file image j.rest j.gate end count (laid form file base records j) j.closed
    (omega (arith, j.within, size, whole)) (omega (arith, is, size, whole)) torn in
    (kept.0, omega (arith, is, kept.1, size))

module _ (form : Form) (base : List ℕ) (records more : List (List ℕ)) (behind : List ℕ) (framed_is : 1 ∷ behind ≡ framed more) where
  pub first_moments : (o mid : Option History) (end count : ℕ) → IsAtRest o form end base records → LeavesOnly o mid (TornOf o end count) → LeavesOnly o mid (HoldsAllOrNone base records more)
  first_moments None mid end count rest leaves = leaves
  first_moments (Some h) mid end count rest leaves =
      leaves_more (Some h) mid (IsTorn end count h.content) (HoldsAllOrNone base records more)
      (λ image torn. inl (journal_holds form image base records (end_torn form h.content base records image end count rest.1.0 rest.1.1 torn).0)) leaves

  -- what the first write makes of the content
  module _ (content : List ℕ) (end gate : ℕ) (j : IsJournal form content base records) (is : end ≡ end_in j) (place : gate ≡ end - 1) (fits : end + length behind ≤ limit) where
    abbrev ahead_of : List ℕ
    ahead_of = lead form content base records j

    leads_of : LeadsTo form ahead_of base (length ahead_of)
    leads_of = lead_leads form content base records j

    size_of_lead : length ahead_of ≡ j.place
    size_of_lead = lead_size form content base records j

    whole_size : length (ahead_of ++ flat_map frame records) ≡ length ahead_of + length (flat_map frame records)
    whole_size = length-append ahead_of (flat_map frame records)

    ends : end ≡ length (ahead_of ++ flat_map frame records) + 1
    ends = omega (arith, is, size_of_lead, whole_size)

    abbrev left_over : List ℕ
    left_over = drop (length behind) j.rest

    pub written : overwritten end behind content ≡ (ahead_of ++ flat_map frame records) ++ j.gate ∷ (behind ++ left_over)
    written = behind_done form ahead_of base leads_of records more behind framed_is content j.rest j.gate end (laid form content base records j) ends

    pub torn_open : (file image : List ℕ) → file ≡ overwritten end behind content → IsTorn gate 1 file image → HoldsAllOrNone base records more image
    torn_open file image is_file torn =
        at_gate form ahead_of base leads_of records more behind framed_is file image left_over gate j.gate (is_file ∙ written) (omega (arith, place, ends)) (omega (arith, fits, ends)) torn

    pub now_open : (file : List ℕ) → file ≡ overwritten gate (1 ∷ []) (overwritten end behind content) → (k : IsJournal form file base (records ++ more)) × (end + length behind ≡ end_in k)
    now_open file is_file =
        let split = is_file ∙ gate_done form ahead_of base leads_of records more behind framed_is (overwritten end behind content) left_over gate j.gate written (omega (arith, place, ends)) in
        let size_more = longer form ahead_of base leads_of records more behind framed_is in
        let all = length-append ahead_of (flat_map frame (records ++ more)) in
        let next : end + length behind ≡ length ahead_of + length (flat_map frame (records ++ more)) + 1 = omega (arith, ends, size_more, all) in
        let made = opened form ahead_of base leads_of records more behind framed_is file left_over split (omega (arith, fits, ends)) in
        (made.0, omega (arith, next, made.1))

  pub second_moments : (o mid after : Option History) (end gate : ℕ) → IsAtRest o form end base records → gate ≡ end - 1 → end + length behind ≤ limit → Puts o end behind mid
      → LeavesOnly mid after (TornOf mid gate 1) → LeavesOnly mid after (HoldsAllOrNone base records more)
  second_moments None mid after end gate rest place fits puts leaves =
      subst (λ (m : Option History). LeavesOnly m after (HoldsAllOrNone base records more)) (sym puts) (subst (λ (m : Option History). LeavesOnly m after (TornOf m gate 1)) puts leaves)
  second_moments (Some h) mid after end gate rest place fits puts leaves =
      subst (λ (m : Option History). LeavesOnly m after (HoldsAllOrNone base records more)) (sym puts.1)
      (leaves_more (Some puts.0) after (IsTorn gate 1 puts.0.content) (HoldsAllOrNone base records more)
      (λ image torn. torn_open h.content end gate rest.1.0 rest.1.1 place fits puts.0.content image puts.2 torn)
      (subst (λ (m : Option History). LeavesOnly m after (TornOf m gate 1)) puts.1 leaves))

  -- until the last moment of the first write, and of the second, a crash may leave the records from before
  pub first_yet : (o mid : Option History) (end : ℕ) → IsAtRest o form end base records → MayLeaveYet o mid (IsContent o) → MayLeaveYet o mid (λ image. Holds image base records)
  first_yet None mid end rest yet = tt
  first_yet (Some h) mid end rest yet =
      yet_more (Some h) mid (IsContent (Some h)) (λ image. Holds image base records)
      (λ image same. subst (λ (f : List ℕ). Holds f base records) (sym same) (journal_holds form h.content base records rest.1.0)) yet

  pub second_yet : (o mid after : Option History) (end : ℕ) → IsAtRest o form end base records → Puts o end behind mid → MayLeaveYet mid after (IsContent mid)
      → MayLeaveYet mid after (λ image. Holds image base records)
  second_yet None mid after end rest puts yet = subst (λ (m : Option History). MayLeaveYet m after (λ image. Holds image base records)) (sym puts) tt
  second_yet (Some h) mid after end rest puts yet =
      let place : end ≤ length h.content = end_within form h.content base records end rest.1.0 rest.1.1 in
      let torn : IsTorn end (length behind) h.content puts.0.content =
      subst (λ (f : List ℕ). IsTorn end (length behind) h.content f) (sym puts.2) (torn_done end behind h.content place) in
      let holds : Holds puts.0.content base records =
      journal_holds form puts.0.content base records (end_torn form h.content base records puts.0.content end (length behind) rest.1.0 rest.1.1 torn).0 in
      subst (λ (m : Option History). MayLeaveYet m after (λ image. Holds image base records)) (sym puts.1)
      (yet_more (Some puts.0) after (IsContent (Some puts.0)) (λ image. Holds image base records)
      (λ image same. subst (λ (f : List ℕ). Holds f base records) (sym same) holds)
      (subst (λ (m : Option History). MayLeaveYet m after (IsContent m)) puts.1 yet))

  pub appended : (o mid after : Option History) (end gate next : ℕ) → IsAtRest o form end base records → gate ≡ end - 1 → end + length behind ≤ limit → next ≡ end + length behind
      → Puts o end behind mid → Puts mid gate (1 ∷ []) after → IsAtRest after form next base (records ++ more)
  appended None mid after end gate next rest place fits is first second =
      let none : after ≡ None = subst (λ (m : Option History). Puts m gate (1 ∷ []) after) first second in
      subst (λ (a : Option History). IsAtRest a form next base (records ++ more)) (sym none) tt
  appended (Some h) mid after end gate next rest place fits is first second =
      let done = subst (λ (m : Option History). Puts m gate (1 ∷ []) after) first.1 second in
      let now = now_open h.content end gate rest.1.0 rest.1.1 place fits done.0.content (done.2 ∙ ap (overwritten gate (1 ∷ [])) first.2) in
      subst (λ (a : Option History). IsAtRest a form next base (records ++ more)) (sym done.1) (done.3, (now.0, is ∙ now.1))

pub ready_place : (o : Option History) (form : Form) (end : ℕ) → IsReady o form end → IsPlace o end
ready_place None form end ready = tt
ready_place (Some h) form end ready = end_within form h.content ready.0 ready.1 end ready.2.1.0 ready.2.1.1

-- the gate in front of that place, once something stands behind it
pub gate_place : (o mid : Option History) (form : Form) (end gate : ℕ) (bytes : List ℕ) → IsReady o form end → gate ≡ end - 1 → Puts o end bytes mid → IsPlace mid gate
gate_place None mid form end gate bytes ready is puts = subst (λ (m : Option History). IsPlace m gate) (sym puts) tt
gate_place (Some h) mid form end gate bytes ready is puts =
    let place : end ≤ length h.content = ready_place (Some h) form end ready in
    let longer : length h.content ≤ length (overwritten end bytes h.content) = (torn_done end bytes h.content place).no_shorter in
    subst (λ (m : Option History). IsPlace m gate) (sym puts.1) (omega (arith, place, longer, ap length puts.2, is))

pub ready_again : (o after : Option History) (form : Form) (end next : ℕ) (more : List (List ℕ)) → IsReady o form end
    → ((base : List ℕ) (records : List (List ℕ)) → IsAtRest o form end base records → IsAtRest after form next base (records ++ more)) → IsReady after form next
ready_again None None form end next more ready rest = tt
ready_again None (Some k) form end next more ready rest = ([], more, rest [] [] tt)
ready_again (Some h) None form end next more ready rest = tt
ready_again (Some h) (Some k) form end next more ready rest = (ready.0, ready.1 ++ more, rest ready.0 ready.1 ready.2)

pub holds_now : (o : Option History) (base : List ℕ) (records : List (List ℕ)) → IsSettled o → DiskHolds o base records → LeavesOnly o o (λ image. Holds image base records)
holds_now None base records settled holds = refl
holds_now (Some h) base records settled holds = started h (λ image. Holds image base records) (λ image now. subst (λ (f : List ℕ). Holds f base records) (sym (settled image now)) holds)

-- where nothing is appended, all stays
pub none_moments : (o : Option History) (form : Form) (end : ℕ) (base : List ℕ) (records more : List (List ℕ)) → IsAtRest o form end base records → LeavesOnly o o (HoldsAllOrNone base records more)
none_moments None form end base records more rest = refl
none_moments (Some h) form end base records more rest =
    started h (HoldsAllOrNone base records more) (λ image now. inl (subst (λ (f : List ℕ). Holds f base records) (sym (rest.0 image now)) (journal_holds form h.content base records rest.1.0)))
