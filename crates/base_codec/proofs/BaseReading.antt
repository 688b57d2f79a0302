-- Whole bases: what is read is spelled so, what is spelled so is read, and no bytes spell two bases.
use Rattle.std.proofs.Common.{◌≡◌, ℕ, suc, ◌||◌, ◌⊎◌, inl, inr, Bool, true, false, cond, eqb, List, [], ◌∷◌, ◌++◌, length, flat_map, Result, Ok, Err, refl, sym, ap, subst, ◌∙◌, append_assoc, append-nil, eqb-true}
use Rattle.std.specs.Prelude.{IfOk}
use Rattle.std.proofs.lemmas.List.{nil_from_length}
use Rattle.command_types.specs.declared.base.Base.{Base}
use Rattle.command_types.specs.declared.tolerance.ToleranceRow.{ToleranceRow}
use Rattle.command_types.specs.declared.trade.TradeRow.{TradeRow}
use Rattle.command_types.specs.declared.spelling.Spelling.{Spelling}
use Rattle.command_types.specs.declared.spelling.Spelling.TheVariants.{First, Second}
use Rattle.command_types.specs.Spelling.{number_spelling}
use Rattle.command_types.specs.Bases.{names_spelling, mark_byte, setting_spelling, trade_spelling, base_spelling, IsWrittenBase, SpellsBase}
use Rattle.record_codec.specs.declared.fault.DecodeFault.{DecodeFault}
use Rattle.record_codec.specs.Reading.{Read, ◌>>=◌, number_at, by_offset}
use Rattle.record_codec.specs.Laws.{Decodes}
use Rattle.record_codec.proofs.FieldFacts.{IsBytes, IsBytes-rest, Takes, Takes-then, bind_ok, ok_is, seq_takes, seq_again}
use Rattle.record_codec.proofs.KindFacts.{number_format}
use Rattle.base_codec.specs.Laws.{BasesAreUnique}
use Rattle.base_codec.specs.Reading.{names_at, settings_at, trades_at, base_fields, base_at, base_of, read_whole_base}
use Rattle.base_codec.proofs.BaseKinds.{names_format}
use Rattle.base_codec.proofs.SettingReading.{counted_settings, settings_format, settings_from, rising_of, rows_of}
use Rattle.base_codec.proofs.TradeReading.{counted_trades, trades_format, trades_from, trade_rows_of}

abbrev made : ℕ → ℕ → ℕ → List (List ℕ) → List (List ℕ) → List ToleranceRow → List TradeRow → Base
made position cycle version members products tolerances trades =
    record { position = position; cycle = cycle; version = version; members = members; products = products; tolerances = tolerances; trades = trades }

abbrev after_trades : ℕ → ℕ → ℕ → List (List ℕ) → List (List ℕ) → List ToleranceRow → List TradeRow × List ℕ → Read Base
after_trades position cycle version members products tolerances trades = Ok (made position cycle version members products tolerances trades.0, trades.1)

abbrev after_tolerances : ℕ → ℕ → ℕ → List (List ℕ) → List (List ℕ) → List ToleranceRow × List ℕ → Read Base
after_tolerances position cycle version members products tolerances = trades_at tolerances.1 >>= after_trades position cycle version members products tolerances.0

abbrev after_products : ℕ → ℕ → ℕ → List (List ℕ) → List (List ℕ) × List ℕ → Read Base
after_products position cycle version members products = settings_at products.1 >>= after_tolerances position cycle version members products.0

abbrev after_members : ℕ → ℕ → ℕ → List (List ℕ) × List ℕ → Read Base
after_members position cycle version members = names_at members.1 >>= after_products position cycle version members.0

abbrev after_version : ℕ → ℕ → ℕ × List ℕ → Read Base
after_version position cycle version = names_at version.1 >>= after_members position cycle version.0

abbrev after_cycle : ℕ → ℕ × List ℕ → Read Base
after_cycle position cycle = number_at cycle.1 >>= after_version position cycle.0

abbrev after_position : ℕ × List ℕ → Read Base
after_position position = number_at position.1 >>= after_cycle position.0

-- the spelling with its counts beside their lists
abbrev parts_spelling : ℕ → Base → List ℕ
parts_spelling mark b =
    mark ∷ number_spelling b.position ++ number_spelling b.cycle ++ number_spelling b.version ++ names_spelling b.members ++ names_spelling b.products
    ++ counted_settings b.tolerances ++ counted_trades b.trades

regroup_parts : (p c v m n k s j t : List ℕ) → p ++ c ++ v ++ m ++ n ++ (k ++ s) ++ (j ++ t) ≡ p ++ c ++ v ++ m ++ n ++ k ++ s ++ j ++ t
regroup_parts p c v m n k s j t = simp append_assoc

pub same_parts : (behind : Spelling) (b : Base) → parts_spelling (mark_byte behind) b ≡ base_spelling behind b
same_parts behind b =
    regroup_parts (mark_byte behind ∷ number_spelling b.position) (number_spelling b.cycle) (number_spelling b.version) (names_spelling b.members) (names_spelling b.products)
    (number_spelling (length b.tolerances)) (flat_map setting_spelling b.tolerances) (number_spelling (length b.trades)) (flat_map trade_spelling b.trades)

regroup_lists : (out a m n s t : List ℕ) → out ++ a ++ m ++ n ++ s ++ t ≡ out ++ (a ++ m ++ n ++ s ++ t)
regroup_lists out a m n s t = simp append_assoc

-- the spelling behind what stands, list by list
pub written_behind : (out : List ℕ) (b : Base)
    → out ++ (2 ∷ number_spelling b.position ++ number_spelling b.cycle ++ number_spelling b.version) ++ names_spelling b.members ++ names_spelling b.products ++ counted_settings b.tolerances ++ counted_trades b.trades
    ≡ out ++ base_spelling Second b
written_behind out b =
    regroup_lists out (2 ∷ number_spelling b.position ++ number_spelling b.cycle ++ number_spelling b.version) (names_spelling b.members) (names_spelling b.products) (counted_settings b.tolerances) (counted_trades b.trades)
    ∙ ap (λ (text : List ℕ). out ++ text) (same_parts Second b)

fields_take : (behind : Spelling) (bytes : List ℕ) (x : Base × List ℕ) → IsBytes bytes → base_fields bytes ≡ Ok x → Takes (mark_byte behind ∷ bytes) (base_spelling behind x.0) x.1 × IsWrittenBase x.0
unfolding base_fields
fields_take behind bytes x fits e =
    let mark : ℕ = mark_byte behind in
    let p = seq_takes number_format bytes after_position x fits e in
    let c = seq_takes number_format p.0.1 (after_cycle p.0.0) x p.1.rest_fits p.3 in
    let v = seq_takes number_format c.0.1 (after_version p.0.0 c.0.0) x c.1.rest_fits c.3 in
    let m = seq_takes names_format v.0.1 (after_members p.0.0 c.0.0 v.0.0) x v.1.rest_fits v.3 in
    let n = seq_takes names_format m.0.1 (after_products p.0.0 c.0.0 v.0.0 m.0.0) x m.1.rest_fits m.3 in
    let s = seq_takes settings_format n.0.1 (after_tolerances p.0.0 c.0.0 v.0.0 m.0.0 n.0.0) x n.1.rest_fits n.3 in
    let t = seq_takes trades_format s.0.1 (after_trades p.0.0 c.0.0 v.0.0 m.0.0 n.0.0 s.0.0) x s.1.rest_fits s.3 in
    let whole : List ℕ = mark ∷ bytes in
    let tagged : Takes whole (mark ∷ number_spelling p.0.0) p.0.1 = record { parts = ap (λ (b : List ℕ). mark ∷ b) p.1.parts; rest_fits = p.1.rest_fits } in
    let t2 = Takes-then whole (mark ∷ number_spelling p.0.0) p.0.1 (number_spelling c.0.0) c.0.1 tagged c.1 in
    let t3 = Takes-then whole (mark ∷ number_spelling p.0.0 ++ number_spelling c.0.0) c.0.1 (number_spelling v.0.0) v.0.1 t2 v.1 in
    let t4 = Takes-then whole (mark ∷ number_spelling p.0.0 ++ number_spelling c.0.0 ++ number_spelling v.0.0) v.0.1 (names_spelling m.0.0) m.0.1 t3 m.1 in
    let t5 = Takes-then whole (mark ∷ number_spelling p.0.0 ++ number_spelling c.0.0 ++ number_spelling v.0.0 ++ names_spelling m.0.0) m.0.1 (names_spelling n.0.0) n.0.1 t4 n.1 in
    let t6 = Takes-then whole (mark ∷ number_spelling p.0.0 ++ number_spelling c.0.0 ++ number_spelling v.0.0 ++ names_spelling m.0.0 ++ names_spelling n.0.0) n.0.1 (counted_settings s.0.0) s.0.1 t5 s.1 in
    let t7 = Takes-then whole (mark ∷ number_spelling p.0.0 ++ number_spelling c.0.0 ++ number_spelling v.0.0 ++ names_spelling m.0.0 ++ names_spelling n.0.0 ++ counted_settings s.0.0) s.0.1 (counted_trades t.0.0) t.0.1 t6 t.1 in
    let b = made p.0.0 c.0.0 v.0.0 m.0.0 n.0.0 s.0.0 t.0.0 in
    let is : IsWrittenBase b = record {
      position = p.2;
      cycle = c.2;
      version = v.2;
      few_members = m.2.0;
      few_products = n.2.0;
      members = m.2.1;
      products = n.2.1;
      settings = rows_of 0 s.0.0 s.2;
      rising = rising_of 0 s.0.0 s.2;
      trades = trade_rows_of 1 t.0.0 t.2.1;
      few_trades = t.2.0;
    } in
    let takes : Takes whole (base_spelling behind b) t.0.1 = subst (λ (text : List ℕ). Takes whole text t.0.1) (same_parts behind b) t7 in
    subst (λ (y : Base × List ℕ). Takes whole (base_spelling behind y.0) y.1 × IsWrittenBase y.0) (ok_is (b, t.0.1) x t.3) (takes, is)

regroup_all : (p c v m n s t rest : List ℕ) → p ++ c ++ v ++ m ++ n ++ s ++ t ++ rest ≡ p ++ (c ++ (v ++ (m ++ (n ++ (s ++ (t ++ rest))))))
regroup_all p c v m n s t rest = simp append_assoc

marked_fields : (behind : Spelling) (rest : List ℕ) → base_at (mark_byte behind ∷ rest) ≡ base_fields rest
unfolding base_at
marked_fields First rest = refl
marked_fields Second rest = refl

fields_again : (behind : Spelling) (b : Base) (rest : List ℕ) → IsWrittenBase b → base_at (base_spelling behind b ++ rest) ≡ Ok (b, rest)
unfolding base_fields
fields_again behind b rest is =
    let r6 : List ℕ = counted_trades b.trades ++ rest in
    let r5 : List ℕ = counted_settings b.tolerances ++ r6 in
    let r4 : List ℕ = names_spelling b.products ++ r5 in
    let r3 : List ℕ = names_spelling b.members ++ r4 in
    let r2 : List ℕ = number_spelling b.version ++ r3 in
    let r1 : List ℕ = number_spelling b.cycle ++ r2 in
    ap (λ (text : List ℕ). base_at (text ++ rest)) (sym (same_parts behind b))
    ∙ ap base_at (regroup_all (mark_byte behind ∷ number_spelling b.position) (number_spelling b.cycle) (number_spelling b.version) (names_spelling b.members) (names_spelling b.products)
    (counted_settings b.tolerances) (counted_trades b.trades) rest)
    ∙ marked_fields behind (number_spelling b.position ++ r1)
    ∙ seq_again number_format b.position r1 after_position is.position
    ∙ seq_again number_format b.cycle r2 (after_cycle b.position) is.cycle
    ∙ seq_again number_format b.version r3 (after_version b.position b.cycle) is.version
    ∙ seq_again names_format b.members r4 (after_members b.position b.cycle b.version) (is.few_members, is.members)
    ∙ seq_again names_format b.products r5 (after_products b.position b.cycle b.version b.members) (is.few_products, is.products)
    ∙ seq_again settings_format b.tolerances r6 (after_tolerances b.position b.cycle b.version b.members b.products) (settings_from 0 b.tolerances is.settings is.rising)
    ∙ seq_again trades_format b.trades rest (after_trades b.position b.cycle b.version b.members b.products b.tolerances) (is.few_trades, trades_from 1 b.trades is.trades)

-- one of the two marks
marked : (a b : Bool) (l : Read Base) (left : ℕ) (x : Base × List ℕ) → cond (a || b) l (Err left) ≡ Ok x → ((a ≡ true) ⊎ (b ≡ true)) × (l ≡ Ok x)
marked true b l left x e = (inl refl, e)
marked false true l left x e = (inr refl, e)
marked false false l left x e = absurd cc

marked_takes : (behind : Spelling) (mark : ℕ) (bytes : List ℕ) (x : Base × List ℕ) → IsBytes (mark ∷ bytes) → mark ≡ mark_byte behind → base_fields bytes ≡ Ok x → Takes (mark ∷ bytes) (base_spelling behind x.0) x.1 × IsWrittenBase x.0
marked_takes behind mark bytes x fits is e =
    subst (λ (k : ℕ). Takes (k ∷ bytes) (base_spelling behind x.0) x.1 × IsWrittenBase x.0) (sym is) (fields_take behind bytes x (IsBytes-rest mark bytes fits) e)

base_takes : (bytes : List ℕ) (x : Base × List ℕ) → IsBytes bytes → base_at bytes ≡ Ok x → (behind : Spelling) × Takes bytes (base_spelling behind x.0) x.1 × IsWrittenBase x.0
unfolding base_at
base_takes [] x fits e = absurd cc
base_takes (mark ∷ bytes) x fits e =
    let g = marked (eqb mark 1) (eqb mark 2) (base_fields bytes) (suc (length bytes)) x e in
    elim g.0 [
      | inl p ↦ let t = marked_takes First mark bytes x fits (eqb-true mark 1 p) g.1 in (First, t.0, t.1)
      | inr p ↦ let t = marked_takes Second mark bytes x fits (eqb-true mark 2 p) g.1 in (Second, t.0, t.1)
    ]

-- ---- all of the bytes

abbrev ended : Base × List ℕ → Result Base ℕ
ended x = cond (eqb (length x.1) 0) (Ok x.0) (Err (length x.1))

ended_ok : (b : Bool) (left : ℕ) (x y : Base) → cond b (Ok x) (Err left) ≡ Ok y → (b ≡ true) × (x ≡ y)
ended_ok true left x y e = (refl, cc)
ended_ok false left x y e = absurd cc

whole_takes : (bytes : List ℕ) (b : Base) → IsBytes bytes → base_of bytes ≡ Ok b → SpellsBase bytes b
unfolding base_of
whole_takes bytes b fits h =
    let x = bind_ok (base_at bytes) ended b h in
    let t = base_takes bytes x.0 fits x.1 in
    let g = ended_ok (eqb (length x.0.1) 0) (length x.0.1) x.0.0 b x.2 in
    let nothing : x.0.1 ≡ [] = nil_from_length x.0.1 (eqb-true _ _ g.0) in
    let all : bytes ≡ base_spelling t.0 x.0.0 = t.1.parts ∙ ap (λ (r : List ℕ). base_spelling t.0 x.0.0 ++ r) nothing ∙ append-nil (base_spelling t.0 x.0.0) in
    subst (λ (y : Base). SpellsBase bytes y) g.1 (record { fields = t.2; behind = t.0; same = all })

whole_again : (bytes : List ℕ) (b : Base) → SpellsBase bytes b → base_of bytes ≡ Ok b
unfolding base_of
whole_again bytes b s =
    let read : base_at bytes ≡ Ok (b, []) = ap base_at (s.same ∙ sym (append-nil (base_spelling s.behind b))) ∙ fields_again s.behind b [] s.fields in
    ap (λ (r : Read Base). r >>= ended) read

offset_ok : (size : ℕ) (r : Result Base ℕ) (b : Base) → by_offset size r ≡ Ok b → r ≡ Ok b
offset_ok size (Ok x) b h = h
offset_ok size (Err left) b h = absurd cc

pub base_read_takes : (bytes : List ℕ) (b : Base) → IsBytes bytes → read_whole_base bytes ≡ Ok b → SpellsBase bytes b
base_read_takes bytes b fits h = whole_takes bytes b fits (offset_ok (length bytes) (base_of bytes) b h)

pub base_read_again : (bytes : List ℕ) (b : Base) → SpellsBase bytes b → read_whole_base bytes ≡ Ok b
base_read_again bytes b s = ap (by_offset (length bytes)) (whole_again bytes b s)

-- ---- what decode_base says

pub base_found : (bytes : List ℕ) (r : Result Base DecodeFault) → IsBytes bytes → Decodes r (read_whole_base bytes) → IfOk r (λ b. SpellsBase bytes b)
base_found bytes (Ok b) fits given = base_read_takes bytes b fits given
base_found bytes (Err fault) fits given = tt

pub base_bad : (bytes : List ℕ) (at : ℕ) (b : Base) → read_whole_base bytes ≡ Err at → SpellsBase bytes b → ⊥
base_bad bytes at b h s = clash (read_whole_base bytes) h (base_read_again bytes b s)
  where
    clash : (r : Result Base ℕ) → r ≡ Err at → r ≡ Ok b → ⊥
    clash (Ok x) p q = absurd cc
    clash (Err left) p q = absurd cc

pub bases_unique : BasesAreUnique
bases_unique bytes a b s t = ok_is a b (sym (base_read_again bytes a s) ∙ base_read_again bytes b t)
