-- How far a reading of plain rows has come.
use Rattle.std.proofs.Common.{◌≡◌, ◌∙◌, sym, ap, refl, ℕ, ◌+◌, ◌≤◌, List, [], ◌∷◌, ◌++◌, true, false, length, ◌-◌, ◌<◌, take, drop, get_or, Some, Ok, arith, length-append}
use Rattle.std.proofs.lemmas.List.{drop_more, take_rest, take-append-drop}
use Rattle.csv.specs.Machine.{next_record}
use Rattle.csv.specs.Reading.{Reached, default_config, is_bom, records, strip_bom}
use Rattle.csv.specs.declared.parser.State.{State}
use Rattle.csv.specs.declared.parser.State.TheVariants as st
use Rattle.csv.proofs.ReadFacts.{reached-more}
use Rattle.command_types.specs.Roster.{Rows}
use Rattle.trade_file.specs.declared.file_trade.FileTrade.{FileTrade}
use Rattle.trade_file.specs.TradeFile.{with_trade_records, trades_of}
use Rattle.trade_file.specs.PlainRow.{first_record, TakesHeader, TakesTrade}
use Rattle.trade_file.proofs.CsvFacts.{reached-all}
use Rattle.trade_file.proofs.TradeFacts.{read_on, whole}
use Rattle.trade_file.proofs.PlainFacts.{between_records, nothing_first}

-- the records before this one are these trades, and the text goes on with the rest
pub record IsUpTo (rows : Rows) (text : List ℕ) (n : ℕ) (trades : List FileTrade) (rest : List ℕ) : Type 0 where
  pub front : List (List (List ℕ))
  pub state : State
  pub left : List ℕ
  pub reached : Reached default_config st.StartRecord text front state left
  pub goes_on : next_record default_config state [] [] left ≡ first_record rest
  pub trades_are : with_trade_records rows 1 [] front ≡ Ok trades
  pub count : n ≡ length front + 1
  pub later : 2 ≤ n

pub up_to_header : (rows : Rows) (text from rest : List ℕ) → first_record from ≡ first_record text → TakesHeader from rest → IsUpTo rows text 2 [] rest
unfolding Reached with_trade_records
up_to_header rows text from rest same header =
    let read = header.1.1 in
    let took : first_record text ≡ Some (header.0, header.1.0, rest) = sym same ∙ read in
    record {
      front = header.0 ∷ [];
      state = header.1.0;
      left = rest;
      reached = ((header.0, header.1.0, rest), took, refl, (refl, refl));
      goes_on = between_records header.1.0 rest header.1.2;
      trades_are = rw header.2 refl;
      count = refl;
      later = omega arith;
    }

pub up_to_skipped : (rows : Rows) (text : List ℕ) (n : ℕ) (trades : List FileTrade) (rest behind : List ℕ)
    → IsUpTo rows text n trades rest → first_record behind ≡ first_record rest → IsUpTo rows text n trades behind
up_to_skipped rows text n trades rest behind h same =
    record {
      front = h.front;
      state = h.state;
      left = h.left;
      reached = h.reached;
      goes_on = h.goes_on ∙ sym same;
      trades_are = h.trades_are;
      count = h.count;
      later = h.later;
    }

pub up_to_more : (rows : Rows) (text : List ℕ) (n : ℕ) (trades more : List FileTrade) (rest behind : List ℕ)
    → IsUpTo rows text n trades rest → TakesTrade rows n trades rest more behind → IsUpTo rows text (n + 1) more behind
up_to_more rows text n trades more rest behind h takes =
    let read = h.goes_on ∙ takes.1.1 in
    record {
      front = h.front ++ takes.0 ∷ [];
      state = takes.1.0;
      left = behind;
      reached = reached-more default_config st.StartRecord h.state text h.left h.front (takes.0, takes.1.0, behind) h.reached read;
      goes_on = between_records takes.1.0 behind takes.1.2;
      trades_are = read_on rows h.front takes.0 trades more h.trades_are (rw h.count at takes.2);
      count = omega (arith, length-append h.front (takes.0 ∷ []), h.count);
      later = omega (arith, h.later);
    }

pub up_to_end : (rows : Rows) (text : List ℕ) (n : ℕ) (trades : List FileTrade) (rest : List ℕ)
    → IsUpTo rows text n trades rest → rest ≡ [] → trades_of rows (records default_config text) ≡ Ok trades
up_to_end rows text n trades rest h end =
    let none = h.goes_on ∙ ap first_record end ∙ nothing_first in
    let all = reached-all text h.left h.state h.front h.reached none in
    ap (trades_of rows) all ∙ whole rows h.front trades (length h.front) refl (λ z. absurd (omega (arith, h.later, h.count))) h.trades_are

-- a text of three bytes or more that starts with a byte-order mark, and one that does not
pub marked : (text : List ℕ) → 3 ≤ length text → is_bom (get_or text 0 0) (get_or text 1 0) (get_or text 2 0) ≡ true → strip_bom text ≡ drop 3 text
unfolding strip_bom
marked [] long h = absurd (omega arith)
marked (a ∷ []) long h = absurd (omega arith)
marked (a ∷ b ∷ []) long h = absurd (omega arith)
marked (a ∷ b ∷ c ∷ text) long h = rw h refl

pub unmarked : (text : List ℕ) → 3 ≤ length text → is_bom (get_or text 0 0) (get_or text 1 0) (get_or text 2 0) ≡ false → strip_bom text ≡ text
unfolding strip_bom
unmarked [] long h = absurd (omega arith)
unmarked (a ∷ []) long h = absurd (omega arith)
unmarked (a ∷ b ∷ []) long h = absurd (omega arith)
unmarked (a ∷ b ∷ c ∷ text) long h = rw h refl

-- the text behind one of its bytes
abbrev pub behind : List ℕ → ℕ → List ℕ
behind text at = take (length text - (at + 1)) (drop (at + 1) text)

-- a text is cut at one of its bytes
pub cut_behind : (text : List ℕ) (at : ℕ) → at < length text → text ≡ take at text ++ get_or text at 0 ∷ behind text at
cut_behind text at within =
    let rest : drop at text ≡ get_or text at 0 ∷ drop (at + 1) text = drop_more text at 0 within in
    rw (take_rest text (at + 1)) (sym (take-append-drop at text) ∙ ap (λ t. take at text ++ t) rest)

-- a text is cut at one of its commas
pub cut_at : (text : List ℕ) (at : ℕ) → at < length text → get_or text at 0 ≡ 44 → text ≡ take at text ++ 44 ∷ behind text at
cut_at text at within e = cut_behind text at within ∙ ap (λ b. take at text ++ b ∷ behind text at) e

pub none_left : (text : List ℕ) → length text ≡ 0 → text ≡ []
none_left [] h = refl
none_left (c ∷ text) h = absurd (omega arith)
