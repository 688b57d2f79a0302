-- Trades of a base: what is read is spelled so, numbered one after another, and what is spelled so is read.
use Rattle.std.proofs.Common.{◌≡◌, ℕ, ◌+◌, ◌^◌, ◌<◌, Bool, false, List, [], ◌∷◌, ◌++◌, length, flat_map, Option, Ok, refl, sym, ap, subst, ◌∙◌, append_assoc, arith, IsTrue}
use Rattle.units_core.specs.Number.{is_amount}
use Rattle.std.specs.Int.{w16, to_le_bytes}
use Rattle.units_core.specs.Day.{DayParts}
use Rattle.command_types.specs.declared.trade.Side.{Side}
use Rattle.command_types.specs.declared.trade.TradeRow.{TradeRow}
use Rattle.command_types.specs.declared.trade.TradeState.{TradeState}
use Rattle.command_types.specs.Spelling.{number_spelling, day_spelling, IsDay}
use Rattle.command_types.specs.Bases.{trade_spelling, state_byte, party_byte, IsTradeRow, AreTradeRows}
use Rattle.record_codec.specs.Reading.{Read, ◌>>=◌, amount_at, day_at}
use Rattle.record_codec.proofs.FieldFacts.{IsBytes, Takes, Takes-then, IsFormat, ok_is, seq_takes, seq_again}
use Rattle.record_codec.proofs.KindFacts.{number_format, amount_format, day_format}
use Rattle.base_codec.specs.Reading.{short_at, state_at, party_at, holds_at, trade_at, trades_each, trades_at}
use Rattle.base_codec.proofs.BaseKinds.{short_format, state_format, party_format, holds_byte, holds_format}
use Rattle.base_codec.proofs.FromReading.{ReadsFrom, AreFrom, from_takes, from_again}

-- the places, the amount and the day
pub record Terms : Type 0 where
  pub seller : ℕ
  pub buyer : ℕ
  pub product : ℕ
  pub amount : ℕ
  pub day : DayParts

abbrev made : ℕ → Terms → TradeState → Option Side → Option Side → Bool × Bool → TradeRow
made number terms state submitter mark holds = record {
  number = number;
  seller = terms.seller;
  buyer = terms.buyer;
  product = terms.product;
  amount = terms.amount;
  day = terms.day;
  state = state;
  submitter = submitter;
  mark = mark;
  hold_out = holds.0;
  hold_in = holds.1;
  frozen = false;
}

abbrev after_holds : ℕ → Terms → TradeState → Option Side → Option Side → (Bool × Bool) × List ℕ → Read TradeRow
after_holds number terms state submitter mark holds = Ok (made number terms state submitter mark holds.0, holds.1)

abbrev after_mark : ℕ → Terms → TradeState → Option Side → Option Side × List ℕ → Read TradeRow
after_mark number terms state submitter mark = holds_at mark.1 >>= after_holds number terms state submitter mark.0

abbrev after_submitter : ℕ → Terms → TradeState → Option Side × List ℕ → Read TradeRow
after_submitter number terms state submitter = party_at submitter.1 >>= after_mark number terms state submitter.0

abbrev after_state : ℕ → Terms → TradeState × List ℕ → Read TradeRow
after_state number terms state = party_at state.1 >>= after_submitter number terms state.0

abbrev after_day : ℕ → ℕ → ℕ → ℕ → ℕ → DayParts × List ℕ → Read TradeRow
after_day number seller buyer product amount day =
    state_at day.1 >>= after_state number (record { seller = seller; buyer = buyer; product = product; amount = amount; day = day.0 })

abbrev after_amount : ℕ → ℕ → ℕ → ℕ → ℕ × List ℕ → Read TradeRow
after_amount number seller buyer product amount = day_at amount.1 >>= after_day number seller buyer product amount.0

abbrev after_product : ℕ → ℕ → ℕ → ℕ × List ℕ → Read TradeRow
after_product number seller buyer product = amount_at product.1 >>= after_amount number seller buyer product.0

abbrev after_buyer : ℕ → ℕ → ℕ × List ℕ → Read TradeRow
after_buyer number seller buyer = short_at buyer.1 >>= after_product number seller buyer.0

abbrev after_seller : ℕ → ℕ × List ℕ → Read TradeRow
after_seller number seller = short_at seller.1 >>= after_buyer number seller.0

-- the state, the submitter, the mark and the holds
pub record Marks : Type 0 where
  pub state : TradeState
  pub submitter : Option Side
  pub mark : Option Side
  pub holds : Bool × Bool

abbrev terms_text : Terms → List ℕ
terms_text t = to_le_bytes w16 t.seller ++ to_le_bytes w16 t.buyer ++ to_le_bytes w16 t.product ++ number_spelling t.amount ++ day_spelling t.day

abbrev marks_text : Marks → List ℕ
marks_text m = state_byte m.state ∷ party_byte m.submitter ∷ party_byte m.mark ∷ holds_byte m.holds ∷ []

abbrev row_of : ℕ → Terms → Marks → TradeRow
row_of number terms marks = made number terms marks.state marks.submitter marks.mark marks.holds

-- the terms have a spelling
record AreTerms (t : Terms) : Type 0 where
  seller : t.seller < 65536
  buyer : t.buyer < 65536
  product : t.product < 65536
  amount : IsTrue (is_amount t.amount)
  day : IsDay t.day

-- what was read of the terms, and what is read behind them
record TermsTaken (number : ℕ) (bytes : List ℕ) (x : TradeRow × List ℕ) : Type 0 where
  terms : Terms
  rest : List ℕ
  takes : Takes bytes (terms_text terms) rest
  are : AreTerms terms
  more : (state_at rest >>= after_state number terms) ≡ Ok x

terms_take : (number : ℕ) (bytes : List ℕ) (x : TradeRow × List ℕ) → IsBytes bytes → trade_at number bytes ≡ Ok x → TermsTaken number bytes x
unfolding trade_at
terms_take number bytes x fits e =
    let s = seq_takes short_format bytes (after_seller number) x fits e in
    let b = seq_takes short_format s.0.1 (after_buyer number s.0.0) x s.1.rest_fits s.3 in
    let p = seq_takes short_format b.0.1 (after_product number s.0.0 b.0.0) x b.1.rest_fits b.3 in
    let a = seq_takes amount_format p.0.1 (after_amount number s.0.0 b.0.0 p.0.0) x p.1.rest_fits p.3 in
    let d = seq_takes day_format a.0.1 (after_day number s.0.0 b.0.0 p.0.0 a.0.0) x a.1.rest_fits a.3 in
    let sb = Takes-then bytes (to_le_bytes w16 s.0.0) s.0.1 (to_le_bytes w16 b.0.0) b.0.1 s.1 b.1 in
    let sbp = Takes-then bytes (to_le_bytes w16 s.0.0 ++ to_le_bytes w16 b.0.0) b.0.1 (to_le_bytes w16 p.0.0) p.0.1 sb p.1 in
    let sbpa = Takes-then bytes (to_le_bytes w16 s.0.0 ++ to_le_bytes w16 b.0.0 ++ to_le_bytes w16 p.0.0) p.0.1 (number_spelling a.0.0) a.0.1 sbp a.1 in
    record {
      terms = record { seller = s.0.0; buyer = b.0.0; product = p.0.0; amount = a.0.0; day = d.0.0 };
      rest = d.0.1;
      takes = Takes-then bytes (to_le_bytes w16 s.0.0 ++ to_le_bytes w16 b.0.0 ++ to_le_bytes w16 p.0.0 ++ number_spelling a.0.0) a.0.1 (day_spelling d.0.0) d.0.1 sbpa d.1;
      are = record { seller = s.2; buyer = b.2; product = p.2; amount = a.2; day = d.2 };
      more = d.3;
    }

-- what was read of the marks
record MarksTaken (number : ℕ) (terms : Terms) (bytes : List ℕ) (x : TradeRow × List ℕ) : Type 0 where
  marks : Marks
  rest : List ℕ
  takes : Takes bytes (marks_text marks) rest
  same : (row_of number terms marks, rest) ≡ x

marks_take : (number : ℕ) (terms : Terms) (bytes : List ℕ) (x : TradeRow × List ℕ) → IsBytes bytes → (state_at bytes >>= after_state number terms) ≡ Ok x → MarksTaken number terms bytes x
marks_take number terms bytes x fits e =
    let t = seq_takes state_format bytes (after_state number terms) x fits e in
    let u = seq_takes party_format t.0.1 (after_submitter number terms t.0.0) x t.1.rest_fits t.3 in
    let m = seq_takes party_format u.0.1 (after_mark number terms t.0.0 u.0.0) x u.1.rest_fits u.3 in
    let h = seq_takes holds_format m.0.1 (after_holds number terms t.0.0 u.0.0 m.0.0) x m.1.rest_fits m.3 in
    let mh = Takes-then u.0.1 (party_byte m.0.0 ∷ []) m.0.1 (holds_byte h.0.0 ∷ []) h.0.1 m.1 h.1 in
    let umh = Takes-then t.0.1 (party_byte u.0.0 ∷ []) u.0.1 (party_byte m.0.0 ∷ holds_byte h.0.0 ∷ []) h.0.1 u.1 mh in
    record {
      marks = record { state = t.0.0; submitter = u.0.0; mark = m.0.0; holds = h.0.0 };
      rest = h.0.1;
      takes = Takes-then bytes (state_byte t.0.0 ∷ []) t.0.1 (party_byte u.0.0 ∷ party_byte m.0.0 ∷ holds_byte h.0.0 ∷ []) h.0.1 t.1 umh;
      same = ok_is (row_of number terms (record { state = t.0.0; submitter = u.0.0; mark = m.0.0; holds = h.0.0 }), h.0.1) x h.3;
    }

both_taken : (number : ℕ) (terms : Terms) (marks : Marks) (bytes mid rest : List ℕ) (x : TradeRow × List ℕ) → Takes bytes (terms_text terms) mid → Takes mid (marks_text marks) rest → AreTerms terms
    → (row_of number terms marks, rest) ≡ x → Takes bytes (trade_spelling x.0) x.1 × IsTradeRow number x.0
both_taken number terms marks bytes mid rest x front back are same =
    let is : IsTradeRow number (row_of number terms marks) =
    record { numbered = refl; seller = are.seller; buyer = are.buyer; product = are.product; amount = are.amount; day = are.day; free = refl } in
    subst (λ (y : TradeRow × List ℕ). Takes bytes (trade_spelling y.0) y.1 × IsTradeRow number y.0) same
    (Takes-then bytes (terms_text terms) mid (marks_text marks) rest front back, is)

trade_takes : (number : ℕ) (bytes : List ℕ) (x : TradeRow × List ℕ) → IsBytes bytes → trade_at number bytes ≡ Ok x → Takes bytes (trade_spelling x.0) x.1 × IsTradeRow number x.0
trade_takes number bytes x fits e =
    let t = terms_take number bytes x fits e in
    let m = marks_take number t.terms t.rest x t.takes.rest_fits t.more in
    both_taken number t.terms m.marks bytes t.rest m.rest x t.takes m.takes t.are m.same

regroup_6 : (a b c d e l rest : List ℕ) → a ++ b ++ c ++ d ++ e ++ l ++ rest ≡ a ++ (b ++ (c ++ (d ++ (e ++ (l ++ rest)))))
regroup_6 a b c d e l rest = simp append_assoc

-- the row with this number, frozen or not
abbrev with_number : ℕ → Bool → TradeRow → TradeRow
with_number number frozen row = record {
  number = number;
  seller = row.seller;
  buyer = row.buyer;
  product = row.product;
  amount = row.amount;
  day = row.day;
  state = row.state;
  submitter = row.submitter;
  mark = row.mark;
  hold_out = row.hold_out;
  hold_in = row.hold_in;
  frozen = frozen;
}

trade_again : (number : ℕ) (row : TradeRow) (rest : List ℕ) → IsTradeRow number row → trade_at number (trade_spelling row ++ rest) ≡ Ok (row, rest)
unfolding trade_at
trade_again number row rest is =
    let terms : Terms = record { seller = row.seller; buyer = row.buyer; product = row.product; amount = row.amount; day = row.day } in
    let holds : Bool × Bool = (row.hold_out, row.hold_in) in
    let r8 : List ℕ = (holds_byte holds ∷ []) ++ rest in
    let r7 : List ℕ = (party_byte row.mark ∷ []) ++ r8 in
    let r6 : List ℕ = (party_byte row.submitter ∷ []) ++ r7 in
    let r5 : List ℕ = (state_byte row.state ∷ []) ++ r6 in
    let r4 : List ℕ = day_spelling row.day ++ r5 in
    let r3 : List ℕ = number_spelling row.amount ++ r4 in
    let r2 : List ℕ = to_le_bytes w16 row.product ++ r3 in
    let r1 : List ℕ = to_le_bytes w16 row.buyer ++ r2 in
    ap (trade_at number) (regroup_6 (to_le_bytes w16 row.seller) (to_le_bytes w16 row.buyer) (to_le_bytes w16 row.product) (number_spelling row.amount) (day_spelling row.day)
    (state_byte row.state ∷ party_byte row.submitter ∷ party_byte row.mark ∷ holds_byte holds ∷ []) rest)
    ∙ seq_again short_format row.seller r1 (after_seller number) is.seller
    ∙ seq_again short_format row.buyer r2 (after_buyer number row.seller) is.buyer
    ∙ seq_again short_format row.product r3 (after_product number row.seller row.buyer) is.product
    ∙ seq_again amount_format row.amount r4 (after_amount number row.seller row.buyer row.product) is.amount
    ∙ seq_again day_format row.day r5 (after_day number row.seller row.buyer row.product row.amount) is.day
    ∙ seq_again state_format row.state r6 (after_state number terms) tt
    ∙ seq_again party_format row.submitter r7 (after_submitter number terms row.state) tt
    ∙ seq_again party_format row.mark r8 (after_mark number terms row.state row.submitter) tt
    ∙ seq_again holds_format holds rest (after_holds number terms row.state row.submitter row.mark) tt
    ∙ ap (λ (n : ℕ). Ok (with_number n false row, rest)) (sym is.numbered)
    ∙ ap (λ (f : Bool). Ok (with_number row.number f row, rest)) (sym is.free)

trade_format : (number : ℕ) → IsFormat (trade_at number) trade_spelling (IsTradeRow number)
trade_format number = record { takes = trade_takes number; again = trade_again number }

-- ---- all trades

abbrev pub next_number : ℕ → TradeRow → ℕ
next_number number row = number + 1

pub trades_go : ReadsFrom trade_at next_number trades_each
unfolding trades_each
trades_go = record { none = λ n bytes. refl; one = λ count n bytes. refl }

-- trades numbered from 1, each with a spelling, so many that eight bytes count them
abbrev pub AreTrades : List TradeRow → Type 0
AreTrades rows = (length rows < 2 ^ 64) × AreFrom IsTradeRow next_number 1 rows

abbrev pub counted_trades : List TradeRow → List ℕ
counted_trades rows = number_spelling (length rows) ++ flat_map trade_spelling rows

abbrev after_count : ℕ × List ℕ → Read (List TradeRow)
after_count count = trades_each count.0 1 count.1

trades_take : (bytes : List ℕ) (x : List TradeRow × List ℕ) → IsBytes bytes → trades_at bytes ≡ Ok x → Takes bytes (counted_trades x.0) x.1 × AreTrades x.0
unfolding trades_at
trades_take bytes x fits e =
    let c = seq_takes number_format bytes after_count x fits e in
    let each = from_takes next_number trades_each trade_format trades_go c.0.0 1 c.0.1 x c.1.rest_fits c.3 in
    let counted : Takes bytes (number_spelling (length x.0)) c.0.1 = subst (λ (k : ℕ). Takes bytes (number_spelling k) c.0.1) (sym each.1) c.1 in
    (Takes-then bytes (number_spelling (length x.0)) c.0.1 (flat_map trade_spelling x.0) x.1 counted each.0, (subst (λ (k : ℕ). k < 2 ^ 64) (sym each.1) c.2, each.2))

trades_again : (rows : List TradeRow) (rest : List ℕ) → AreTrades rows → trades_at (counted_trades rows ++ rest) ≡ Ok (rows, rest)
unfolding trades_at
trades_again rows rest is =
    ap trades_at (append_assoc (number_spelling (length rows)) (flat_map trade_spelling rows) rest)
    ∙ seq_again number_format (length rows) (flat_map trade_spelling rows ++ rest) after_count is.0
    ∙ from_again next_number trades_each trade_format trades_go rows 1 rest is.1

pub trades_format : IsFormat trades_at counted_trades AreTrades
trades_format = record { takes = trades_take; again = trades_again }

-- ---- the same in the words of bases

pub trade_rows_of : (number : ℕ) (rows : List TradeRow) → AreFrom IsTradeRow next_number number rows → AreTradeRows number rows
trade_rows_of number [] h = tt
trade_rows_of number (row ∷ rows) h = (h.0, subst (λ (k : ℕ). AreTradeRows k rows) (omega arith) (trade_rows_of (number + 1) rows h.1))

pub trades_from : (number : ℕ) (rows : List TradeRow) → AreTradeRows number rows → AreFrom IsTradeRow next_number number rows
trades_from number [] h = tt
trades_from number (row ∷ rows) h = (h.0, trades_from (number + 1) rows (subst (λ (k : ℕ). AreTradeRows k rows) (omega arith) h.1))
