-- The base in front of a file's records.
use Rattle.std.proofs.Common.{◌≡◌, ◌≢◌, inl, inr, ℕ, suc, List, [], ◌∷◌, length, Option, Some, None, refl, sym, ◌∙◌, subst, ap, arith}
use Rattle.std.specs.Prelude.{◌⊎◌}
use Rattle.command_types.specs.declared.base.Base.{Base}
use Rattle.command_types.specs.declared.figures.Start.{Start}
use Rattle.command_types.specs.declared.trade.TradeRow.{TradeRow}
use Rattle.command_types.specs.Bases.{base_in, AreTradeRows, AreNumbered, IsWrittenBase, SpellsBase, CanBeWritten, Fits}
use Rattle.command_types.specs.Roster.{Rows}
use Rattle.journal_core.specs.Holds.{IsJournal, Holds}
use Rattle.journal_core.specs.declared.form.Form.TheVariants.{Slots}
use Rattle.journal_core.proofs.PartFacts.{journal_holds}
use Rattle.journal_core.proofs.OneReading.{one_lead, one_reading}
use Rattle.base_codec.proofs.BaseReading.{bases_unique}
use Rattle.recovery.specs.StandsFor.{first_start, StandsForBase, SpellsSomeBase, IsBadBase}
use Rattle.recovery.specs.Reading.{HasBase, FitsIn, start_of}
use Rattle.recovery.specs.declared.contents.BaseAt.{BaseAt}

-- no bytes spell no base
pub none_spelled : (b : Base) → SpellsBase [] b → ⊥
none_spelled b spells = omega (arith, ap length spells.same)

pub some_bytes : (bytes : List ℕ) (b : Base) → SpellsBase bytes b → bytes ≢ []
some_bytes bytes b spells none = none_spelled b (subst (λ (l : List ℕ). SpellsBase l b) none spells)

-- what spells a base that fits a roster stands for it
pub base_stands : (roster : Rows) (bytes : List ℕ) (b : Base) → SpellsBase bytes b → Fits roster b → StandsForBase bytes (base_in roster b)
base_stands roster [] b spells fits = absurd (none_spelled b spells)
base_stands roster (byte ∷ bytes) b spells fits = (b, spells, fits, refl)

-- and it stands for that alone
pub stands_base : (bytes : List ℕ) (b : Base) (start : Start) → SpellsBase bytes b → StandsForBase bytes start → Fits start.state.roster b × (start ≡ base_in start.state.roster b)
stands_base [] b start spells stands = absurd (none_spelled b spells)
stands_base (byte ∷ bytes) b start spells stands =
    let same : stands.0 ≡ b = bases_unique (byte ∷ bytes) stands.0 b stands.1 spells in (
      subst (λ (c : Base). Fits start.state.roster c) same stands.2,
      stands.3 ∙ ap (λ (c : Base). base_in start.state.roster c) same,
    )

-- what stands for a start is no bytes, or spells some base
pub stands_spelled : (bytes : List ℕ) (start : Start) → StandsForBase bytes start → (bytes ≡ []) ⊎ SpellsSomeBase bytes
stands_spelled [] start stands = inl refl
stands_spelled (byte ∷ bytes) start stands = inr (stands.0, stands.1)

-- no bytes stand for two starts of one roster
pub one_start : (bytes : List ℕ) (a b : Start) → a.state.roster ≡ b.state.roster → StandsForBase bytes a → StandsForBase bytes b → a ≡ b
one_start [] a b roster s t = s ∙ ap first_start roster ∙ sym t
one_start (byte ∷ bytes) a b roster s t =
    let here = stands_base (byte ∷ bytes) t.0 a t.1 s in
    here.1 ∙ ap (λ (r : Rows). base_in r t.0) roster ∙ sym t.3

-- ---- the base that was read

-- a base that was read, as the bytes that the file holds
pub record ReadOf (file : List ℕ) (base : Option BaseAt) : Type 0 where
  pub bytes : List ℕ
  pub records : List (List ℕ)
  pub holds : Holds file bytes records
  pub spelled : (bytes ≡ []) ⊎ SpellsSomeBase bytes
  pub starts : (roster : Rows) → FitsIn roster base → StandsForBase bytes (start_of roster base)
  pub begins : (start : Start) → StandsForBase bytes start → FitsIn start.state.roster base × (start ≡ start_of start.state.roster base)

pub read_of : (file : List ℕ) (base : Option BaseAt) → HasBase file base → ReadOf file base
read_of file None has = record {
  bytes = [];
  records = has.0;
  holds = has.1;
  spelled = inl refl;
  starts = λ roster fits. refl;
  begins = λ start stands. (tt, stands);
}
read_of file (Some x) has = record {
  bytes = has.1;
  records = has.2;
  holds = journal_holds (Slots has.0 x.at) file has.1 has.2 has.3;
  spelled = inr (x.base, has.4);
  starts = λ roster fits. base_stands roster has.1 x.base has.4 fits;
  begins = λ start stands. stands_base has.1 x.base start has.4 stands;
}

-- a base's length stands at one offset
pub one_offset : (file b c : List ℕ) (rs ss : List (List ℕ)) (m o n p : ℕ) → IsJournal (Slots m o) file b rs → IsJournal (Slots n p) file c ss → o ≡ p
one_offset file b c rs ss m o n p j k =
    let lead = one_lead (Slots m o) (Slots n p) file b c j.place k.place (omega (arith, j.within)) (omega (arith, k.within)) j.leads k.leads in
    omega (arith, j.leads.place_is, k.leads.place_is, lead.1, ap length lead.0)

-- a file has one base
pub one_base : (file : List ℕ) (a b : Option BaseAt) → HasBase file a → HasBase file b → a ≡ b
one_base file None None s t = refl
one_base file None (Some y) s t =
    let one = one_reading file [] t.1 s.0 t.2 s.1 (journal_holds (Slots t.0 y.at) file t.1 t.2 t.3) in
    absurd (some_bytes t.1 y.base t.4 (sym one.0))
one_base file (Some x) None s t =
    let one = one_reading file s.1 [] s.2 t.0 (journal_holds (Slots s.0 x.at) file s.1 s.2 s.3) t.1 in
    absurd (some_bytes s.1 x.base s.4 one.0)
one_base file (Some x) (Some y) s t =
    let one = one_reading file s.1 t.1 s.2 t.2 (journal_holds (Slots s.0 x.at) file s.1 s.2 s.3) (journal_holds (Slots t.0 y.at) file t.1 t.2 t.3) in
    let offset : x.at ≡ y.at = one_offset file s.1 t.1 s.2 t.2 s.0 x.at t.0 y.at s.3 t.3 in
    let base : x.base ≡ y.base = bases_unique t.1 x.base y.base (subst (λ (l : List ℕ). SpellsBase l x.base) one.0 s.4) t.4 in
    ap (λ (n : ℕ). Some (record { at = n; base = x.base })) offset ∙ ap (λ (c : Base). Some (record { at = y.at; base = c })) base

-- ---- a base that is spelled by no bytes

pub bad_holds : (file : List ℕ) (place : ℕ) (bad : IsBadBase file place) → Holds file bad.1 bad.2
bad_holds file place bad = journal_holds (Slots bad.0 place) file bad.1 bad.2 bad.3

-- it is none of what is read
pub bad_unread : (file : List ℕ) (place : ℕ) (base : List ℕ) (records : List (List ℕ)) → IsBadBase file place → Holds file base records → ((base ≡ []) ⊎ SpellsSomeBase base) → ⊥
bad_unread file place base records bad holds (inl none) =
    let one = one_reading file bad.1 base bad.2 records (bad_holds file place bad) holds in bad.4 (one.0 ∙ none)
bad_unread file place base records bad holds (inr spelled) =
    let one = one_reading file bad.1 base bad.2 records (bad_holds file place bad) holds in
    bad.5 (subst (λ (l : List ℕ). SpellsSomeBase l) (sym one.0) spelled)

pub bad_at : (file : List ℕ) (p q : ℕ) → IsBadBase file p → IsBadBase file q → p ≡ q
bad_at file p q a b = one_offset file a.1 b.1 a.2 b.2 a.0 p b.0 q a.3 b.3

-- ---- a base that is spelled can be written

rows_numbered : (number : ℕ) (rows : List TradeRow) → AreTradeRows number rows → AreNumbered number rows
rows_numbered number [] are = tt
rows_numbered number (row ∷ rows) are = (are.0.numbered, are.0.free, rows_numbered (suc number) rows are.1)

pub written_can : (b : Base) → IsWrittenBase b → CanBeWritten b
written_can b is = record { few_members = is.few_members; few_products = is.few_products; rising = is.rising; numbered = rows_numbered 1 b.trades is.trades }
