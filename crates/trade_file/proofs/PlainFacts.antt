-- Rows that are cut at their commas and line ends alone are those that the machine reads.
use Rattle.std.specs.Prelude.{◌⊎◌}
use Rattle.std.proofs.Common.{◌≡◌, ◌∙◌, sym, ap, subst, refl, ℕ, List, [], ◌∷◌, ◌++◌, Bool, true, false, ◌==◌, ◌&&◌, ◌||◌, Some, None, inl, inr, ⊎_elim, eqb}
use Rattle.std.proofs.lemmas.Bool.{cases_Bool, eqb-true}
use Rattle.std.proofs.lemmas.List.{append-nil}
use Rattle.std.specs.List.{list_all, list_any}
use Rattle.csv.specs.Machine.{next_record, ends_at_end}
use Rattle.csv.specs.Reading.{default_config}
use Rattle.csv.specs.Writing.{default_writer, field_text, needs_byte}
use Rattle.csv.specs.declared.parser.State.{State}
use Rattle.csv.specs.declared.parser.State.TheVariants as st
use Rattle.csv.proofs.RoundTrip.{plain-run, start-same, record-same, field-run}
use Rattle.trade_file.specs.PlainRow.{is_line_end, first_record, IsLine, TakesRecord}

-- no byte of the text is a mark of the format
abbrev pub IsPlain : List ℕ → Type 0
IsPlain text = list_any (needs_byte default_writer) text ≡ false

-- a byte that passes a test differs from one that does not
pub other_byte : (p : ℕ → Bool) (b m : ℕ) → p m ≡ false → p b ≡ true → (b == m) ≡ false
other_byte p b m fails passes = ⊎_elim (λ (t : eqb b m ≡ true). absurd (let e = ap p (eqb-true b m t) in cc)) (λ (f : eqb b m ≡ false). f) (cases_Bool (eqb b m))

-- bytes that pass a test which the four marks do not pass
pub plain_of : (p : ℕ → Bool) → p 44 ≡ false → p 34 ≡ false → p 13 ≡ false → p 10 ≡ false → (text : List ℕ) → list_all p text ≡ true → IsPlain text
plain_of p comma quote return feed [] h = refl
plain_of p comma quote return feed (b ∷ rest) h = by (p b) (plain_of p comma quote return feed rest) refl h
  where
    by : (t : Bool) → (list_all p rest ≡ true → IsPlain rest) → p b ≡ t → (t && list_all p rest) ≡ true → IsPlain (b ∷ rest)
    by false more e f = absurd cc
    by true more e f =
        let a = other_byte p b 44 comma e in
        let q = other_byte p b 34 quote e in
        let r = other_byte p b 13 return e in
        let n = other_byte p b 10 feed e in
        rw (a, q, r, n) (more f)

-- the first byte of a plain text is no mark
no_mark : (b : ℕ) (rest : List ℕ) → IsPlain (b ∷ rest) → ((b == 34) ≡ false) × ((b == 13) ≡ false) × ((b == 10) ≡ false)
no_mark b rest h = by (b == 44) (b == 34) (b == 13) (b == 10) (list_any (needs_byte default_writer) rest) h
  where
    by : (a q r n more : Bool) → ((a || q || (r || n) || false || false) || more) ≡ false → (q ≡ false) × (r ≡ false) × (n ≡ false)
    by true q r n more e = absurd cc
    by false true r n more e = absurd cc
    by false false true n more e = absurd cc
    by false false false true more e = absurd cc
    by false false false false more e = (refl, refl, refl)

-- a plain field, up to the byte behind it
field : (fields : List (List ℕ)) (text : List ℕ) (c : ℕ) (rest : List ℕ) → (c == 34) ≡ false → IsPlain text
    → next_record default_config st.StartField fields [] (text ++ c ∷ rest) ≡ next_record default_config st.InField fields text (c ∷ rest)
field fields text c rest n plain =
    let same : field_text default_writer text ≡ text = rw plain refl in
    subst (λ t. next_record default_config st.StartField fields [] (t ++ c ∷ rest) ≡ next_record default_config st.InField fields text (c ∷ rest)) same (field-run fields text c rest n)

-- a plain field that a comma ends
next : (fields : List (List ℕ)) (text rest : List ℕ) → IsPlain text
    → next_record default_config st.StartField fields [] (text ++ 44 ∷ rest) ≡ next_record default_config st.StartField (fields ++ text ∷ []) [] rest
unfolding next_record
next fields text rest plain = field fields text 44 rest refl plain ∙ refl

-- the same of a record's first field
first : (text rest : List ℕ) → IsPlain text → first_record (text ++ 44 ∷ rest) ≡ next_record default_config st.StartField (text ∷ []) [] rest
first [] rest plain = record-same [] [] 44 rest refl refl ∙ next [] [] rest plain
first (b ∷ text) rest plain =
    let m = no_mark b text plain in
    record-same [] [] b (text ++ 44 ∷ rest) m.1 m.2 ∙ next [] (b ∷ text) rest plain

line_feed_or_return : (c : ℕ) → is_line_end c ≡ true → (c ≡ 13) ⊎ (c ≡ 10)
line_feed_or_return c h = ⊎_elim (λ (t : eqb c 13 ≡ true). inl (eqb-true c 13 t))
    (λ (f : eqb c 13 ≡ false). inr (eqb-true c 10 (rw f at h))) (cases_Bool (eqb c 13))

-- the fields of a record, of which the last one is read from here, and what stands behind it
abbrev Ends : List (List ℕ) → List ℕ → List (List ℕ) → List ℕ → Type 0
Ends before text fields rest = (s : State) × (next_record default_config st.StartField before [] text ≡ Some (fields, s, rest)) × (ends_at_end s ≡ false)

by_byte : (before : List (List ℕ)) (text : List ℕ) (c : ℕ) (rest : List ℕ) → IsPlain text → (c ≡ 13) ⊎ (c ≡ 10) → Ends before (text ++ c ∷ rest) (before ++ text ∷ []) rest
unfolding next_record
by_byte before text c rest plain (inl e) =
    subst (λ c. Ends before (text ++ c ∷ rest) (before ++ text ∷ []) rest) (sym e) (st.AfterCr, field before text 13 rest refl plain ∙ refl, refl)
by_byte before text c rest plain (inr e) =
    subst (λ c. Ends before (text ++ c ∷ rest) (before ++ text ∷ []) rest) (sym e) (st.StartRecord, field before text 10 rest refl plain ∙ refl, refl)

by_end : (before : List (List ℕ)) (text : List ℕ) → IsPlain text → Ends before text (before ++ text ∷ []) []
unfolding next_record
by_end before [] plain = (st.StartRecord, refl, refl)
by_end before (b ∷ text) plain =
    let m = no_mark b text plain in
    let run = plain-run before [] (b ∷ text) [] plain in
    let whole : (b ∷ text) ++ [] ≡ b ∷ text = append-nil (b ∷ text) in
    let read = subst (λ t. next_record default_config st.InField before [] t ≡ next_record default_config st.InField before (b ∷ text) []) whole run in
    (st.StartRecord, start-same before [] b text m.0 ∙ read ∙ refl, refl)

last : (before : List (List ℕ)) (line text rest : List ℕ) → IsPlain text → IsLine line text rest → Ends before line (before ++ text ∷ []) rest
last before line text rest plain (inl whole) = rw (whole.0, whole.1) (by_end before text plain)
last before line text rest plain (inr ended) = rw ended.2 (by_byte before text ended.0 rest plain (line_feed_or_return ended.0 ended.1))

-- four fields are a record, where none has a mark
pub takes_row : (text a b c line d rest : List ℕ) → text ≡ a ++ (44 ∷ (b ++ (44 ∷ (c ++ (44 ∷ line))))) → IsLine line d rest → IsPlain a → IsPlain b → IsPlain c → IsPlain d
    → TakesRecord text (a ∷ b ∷ c ∷ d ∷ []) rest
takes_row text a b c line d rest whole ended plain_a plain_b plain_c plain_d =
    let third : List ℕ = c ++ (44 ∷ line) in
    let second : List ℕ = b ++ (44 ∷ third) in
    let one : first_record (a ++ (44 ∷ second)) ≡ next_record default_config st.StartField (a ∷ []) [] second = first a second plain_a in
    let two : next_record default_config st.StartField (a ∷ []) [] second ≡ next_record default_config st.StartField (a ∷ b ∷ []) [] third = next (a ∷ []) b third plain_b in
    let three : next_record default_config st.StartField (a ∷ b ∷ []) [] third ≡ next_record default_config st.StartField (a ∷ b ∷ c ∷ []) [] line = next (a ∷ b ∷ []) c line plain_c in
    let end : Ends (a ∷ b ∷ c ∷ []) line (a ∷ b ∷ c ∷ d ∷ []) rest = last (a ∷ b ∷ c ∷ []) line d rest plain_d ended in
    (end.0, ap first_record whole ∙ one ∙ two ∙ three ∙ end.1, end.2)

-- a state between two records reads on as the first one does
pub between_records : (s : State) (text : List ℕ) → ends_at_end s ≡ false → next_record default_config s [] [] text ≡ first_record text
unfolding next_record
between_records st.StartRecord text h = refl
between_records st.AfterCr [] h = refl
between_records st.AfterCr (c ∷ text) h = ⊎_elim (λ (t : eqb c 10 ≡ true).
    subst (λ c. next_record default_config st.AfterCr [] [] (c ∷ text) ≡ first_record (c ∷ text)) (sym (eqb-true c 10 t)) refl)
    (λ (f : eqb c 10 ≡ false). rw f refl) (cases_Bool (eqb c 10))
between_records st.StartField text h = absurd cc
between_records st.InField text h = absurd cc
between_records st.InQuoted text h = absurd cc
between_records st.AfterQuote text h = absurd cc
between_records st.InEscape text h = absurd cc
between_records st.InComment text h = absurd cc

-- a line end before a record belongs to none
pub line_end_first : (c : ℕ) (text : List ℕ) → is_line_end c ≡ true → first_record (c ∷ text) ≡ first_record text
unfolding next_record
line_end_first c text h = ⊎_elim (λ (e : c ≡ 13). rw e refl) (λ (e : c ≡ 10). rw e refl) (line_feed_or_return c h)

pub nothing_first : first_record [] ≡ None
unfolding next_record
nothing_first = refl
