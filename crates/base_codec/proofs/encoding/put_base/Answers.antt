use Rattle.std.proofs.Common.{◌≡◌, ◌++◌, ◌∙◌, List, ℕ, All, length, ap, subst}
use Rattle.command_types.specs.declared.tolerance.ToleranceRow.{ToleranceRow}
use Rattle.command_types.specs.declared.trade.TradeRow.{TradeRow}
use Rattle.command_types.specs.Spelling.{IsNumber}
use Rattle.command_types.specs.Bases.{names_spelling, IsSettingRow}
use Rattle.base_codec.specs.Writing.{IsTradeForm}
use Rattle.base_codec.proofs.BaseForms.{trade_rows}
use Rattle.base_codec.proofs.BaseKinds.{IsName}
use Rattle.base_codec.proofs.SettingReading.{counted_settings}
use Rattle.base_codec.proofs.TradeReading.{counted_trades}
use Rattle.base_codec.proofs.BaseReading.{written_behind}
use Rattle.base_codec.proofs.encoding.put_base.Goals as goal

pub returns-clause-form : goal.returns-clause-form
returns-clause-form c =
    let b = c.args.base.now in
    record {
      position = c.put_numbers.ensures.position;
      cycle = c.put_numbers.ensures.cycle;
      version = c.put_numbers.ensures.version;
      few_members = c.requires.few_members;
      few_products = c.requires.few_products;
      members = subst (λ (names : List (List ℕ)). All IsName names) c.rows.ensures c.in_ok-put_names.ensures.form;
      products = subst (λ (names : List (List ℕ)). All IsName names) c.rows-2.ensures c.in_ok-put_names-2.ensures.form;
      settings = subst (λ (rows : List ToleranceRow). All IsSettingRow rows) c.rows-3.ensures c.in_ok-put_settings.ensures.form;
      rising = c.requires.rising;
      trades = trade_rows 1 b.trades c.requires.numbered (subst (λ (rows : List TradeRow). All IsTradeForm rows) c.rows-4.ensures c.in_ok-put_trades.ensures.form);
      few_trades = subst (λ (rows : List TradeRow). IsNumber (length rows)) c.rows-4.ensures c.in_ok-put_trades.ensures.few;
    }

pub returns-clause-appends : goal.returns-clause-appends
returns-clause-appends c =
    let b = c.args.base.now in
    let out = c.args.out.now.items in
    let trades = subst (λ (rows : List TradeRow). c.put_trades.new.out.items ≡ c.put_settings.new.out.items ++ counted_trades rows) c.rows-4.ensures c.in_ok-put_trades.ensures.appends in
    let settings = subst (λ (rows : List ToleranceRow). c.put_settings.new.out.items ≡ c.put_names-2.new.out.items ++ counted_settings rows) c.rows-3.ensures c.in_ok-put_settings.ensures.appends in
    let products = subst (λ (names : List (List ℕ)). c.put_names-2.new.out.items ≡ c.put_names.new.out.items ++ names_spelling names) c.rows-2.ensures c.in_ok-put_names-2.ensures.appends in
    let members = subst (λ (names : List (List ℕ)). c.put_names.new.out.items ≡ c.put_numbers.new.out.items ++ names_spelling names) c.rows.ensures c.in_ok-put_names.ensures.appends in
    trades
    ∙ ap (λ (l : List ℕ). l ++ counted_trades b.trades) (settings
    ∙ ap (λ (l : List ℕ). l ++ counted_settings b.tolerances) (products
    ∙ ap (λ (l : List ℕ). l ++ names_spelling b.products) (members
    ∙ ap (λ (l : List ℕ). l ++ names_spelling b.members) c.in_ok-put_numbers.ensures.appends)))
    ∙ written_behind out b
