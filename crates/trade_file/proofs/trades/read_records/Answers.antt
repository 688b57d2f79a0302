use Rattle.std.proofs.Common.{Bor, List, ℕ, ◌≡◌, ◌∙◌, ◌++◌, ◌+◌, ◌-◌, sym, refl, subst, arith, inl, inr, length, Ok, Err, Some, ◌∷◌, [], length-append, rules, IfErr, ◌⊎◌}
use Rattle.csv.specs.Reading.{Reached, ReadRecord, default_config, strip_bom}
use Rattle.csv.specs.Records.{fields_of}
use Rattle.csv.specs.declared.parser.State.TheVariants as st
use Rattle.csv.proofs.ReadFacts.{rows-end, rows-more}
use Rattle.command_types.specs.declared.file_fault.FileFault.TheVariants.{Memory}
use Rattle.trade_file.specs.RosterFile.{records_of}
use Rattle.trade_file.specs.TradeFile.{trades_of, with_trade_record, with_trade_records}
use Rattle.trade_file.specs.TradeDraft.{trades_of_draft}
use Rattle.trade_file.proofs.CsvFacts.{reached-all, reached-front, reached-size, strip_bom-size}
use Rattle.trade_file.proofs.TradeFacts.{read_on, ends, whole_answer}
use Rattle.trade_file.proofs.trades.read_records.Goals as goal

pub loop-number-init : goal.loop-number-init
unfolding Reached with_trade_records
loop-number-init c =
    let fr = c.from_reader-reader.ensures in
    let e = c.has_headers.ensures in
    let d = c.flexible.ensures in (
      rw (d, e) at fr.trim ∙ c.new.ensures.trim,
      inr (inr (rw (d, e) at fr.has_headers, fr.headers)),
      rw (d, e) at fr.config ∙ c.new.ensures.config,
      strip_bom c.args.bytes.now,
      fr.source,
      [],
      (sym fr.state, refl),
      c.new-draft.ensures.draft,
      rw c.new-draft.ensures.trades refl,
      refl,
    )

pub loop-number-preserved : goal.loop-number-preserved
loop-number-preserved c =
    let inv = c.loop-number.invariant in
    let reader = c.loop-number.reader in
    let next = c.read_byte_record.new.self in
    let fields = fields_of c.read_byte_record.new.row in
    let s = subst (λ b. ReadRecord (λ (s : Bor (List ℕ)). Some s.now) reader next b fields) c.if-not-found.false (c.in-Ok.ensures.reads inv.0 inv.1) in
    let m = rows-more (λ (s : Bor (List ℕ)). Some s.now) reader next fields default_config st.StartRecord (strip_bom c.args.bytes.now) inv.3 inv.5 inv.2 inv.4 inv.6 s in
    let fine = c.in_ok-take_record.ensures in
    let step : with_trade_record c.args.roster.now (length inv.5 + 1) (trades_of_draft c.loop-number.draft) fields ≡ Ok (trades_of_draft c.take_record.new.draft) = rw inv.9 at fine.1 in (
      s.3 ∙ inv.0,
      inl (c.in-Ok.ensures.ready inv.0),
      s.2 ∙ inv.2,
      m.0,
      m.1,
      inv.5 ++ (fields ∷ []),
      m.2,
      fine.0,
      read_on c.args.roster.now inv.5 fields (trades_of_draft c.loop-number.draft) (trades_of_draft c.take_record.new.draft) inv.8 step,
      omega (arith, length-append inv.5 (fields ∷ []), inv.9),
    )

pub returns-in_err-take_record-clause-fault : goal.returns-in_err-take_record-clause-fault
returns-in_err-take_record-clause-fault c =
    let inv = c.loop-number.invariant in
    let reader = c.loop-number.reader in
    let next = c.read_byte_record.new.self in
    let fields = fields_of c.read_byte_record.new.row in
    let s = subst (λ b. ReadRecord (λ (s : Bor (List ℕ)). Some s.now) reader next b fields) c.if-not-found.false (c.in-Ok.ensures.reads inv.0 inv.1) in
    let m = rows-more (λ (s : Bor (List ℕ)). Some s.now) reader next fields default_config st.StartRecord (strip_bom c.args.bytes.now) inv.3 inv.5 inv.2 inv.4 inv.6 s in
    let bad = rw inv.9 at c.in_err-take_record.ensures in
    let f = reached-front (strip_bom c.args.bytes.now) m.0 next.state (inv.5 ++ (fields ∷ [])) m.2 in
    let is : c.from_residual.result ≡ Err c.in_err-take_record.field-0.0 = search rules in
    subst (λ r. IfErr r (λ fault. (fault ≡ Memory) ⊎ (trades_of c.args.roster.now (records_of c.args.bytes.now) ≡ Err fault))) (sym is)
    (ends c.args.roster.now (records_of c.args.bytes.now) inv.5 f.0 fields (trades_of_draft c.loop-number.draft) c.in_err-take_record.field-0.0 f.1 inv.8 bad)

pub returns-then-not-found-clause-trades : goal.returns-then-not-found-clause-trades
returns-then-not-found-clause-trades c =
    let inv = c.loop-number.invariant in
    let reader = c.loop-number.reader in
    let fields = fields_of c.read_byte_record.new.row in
    let s = subst (λ b. ReadRecord (λ (s : Bor (List ℕ)). Some s.now) reader c.read_byte_record.new.self b fields) c.if-not-found.true (c.in-Ok.ensures.reads inv.0 inv.1) in
    let end = rows-end (λ (s : Bor (List ℕ)). Some s.now) reader c.read_byte_record.new.self fields default_config inv.3 inv.2 inv.4 s in
    let all = reached-all (strip_bom c.args.bytes.now) inv.3 reader.state inv.5 inv.6 end in
    (whole_answer c.args.roster.now (records_of c.args.bytes.now) inv.5 c.loop-number.draft (c.loop-number.number - 1) c.whole_draft.result all inv.8 (omega (arith, inv.9)) c.whole_draft.ensures.draft c.whole_draft.ensures.fault).0

pub returns-then-not-found-clause-fault : goal.returns-then-not-found-clause-fault
returns-then-not-found-clause-fault c =
    let inv = c.loop-number.invariant in
    let reader = c.loop-number.reader in
    let fields = fields_of c.read_byte_record.new.row in
    let s = subst (λ b. ReadRecord (λ (s : Bor (List ℕ)). Some s.now) reader c.read_byte_record.new.self b fields) c.if-not-found.true (c.in-Ok.ensures.reads inv.0 inv.1) in
    let end = rows-end (λ (s : Bor (List ℕ)). Some s.now) reader c.read_byte_record.new.self fields default_config inv.3 inv.2 inv.4 s in
    let all = reached-all (strip_bom c.args.bytes.now) inv.3 reader.state inv.5 inv.6 end in
    (whole_answer c.args.roster.now (records_of c.args.bytes.now) inv.5 c.loop-number.draft (c.loop-number.number - 1) c.whole_draft.result all inv.8 (omega (arith, inv.9)) c.whole_draft.ensures.draft c.whole_draft.ensures.fault).1

pub unreachable-requires : goal.unreachable-requires
unreachable-requires c =
    let inv = c.loop-number.invariant in
    let size = reached-size default_config st.StartRecord c.loop-number.reader.state (strip_bom c.args.bytes.now) inv.3 inv.5 refl inv.6 in
    omega (arith, size, strip_bom-size c.args.bytes.now, inv.9, c.loop-number-test.false, c.requires)
