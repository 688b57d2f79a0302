use Rattle.std.proofs.Common.{Bor, List, ℕ, ◌≡◌, ◌∙◌, ◌++◌, ◌+◌, sym, refl, ap, arith, inl, inr, length, Ok, Err, Some, ◌∷◌, [], length-append, rules, IfErr, subst, ◌⊎◌}
use Rattle.csv.specs.Reading.{Reached, default_config, strip_bom}
use Rattle.csv.specs.Records.{fields_of}
use Rattle.csv.specs.declared.parser.State.TheVariants as st
use Rattle.csv.proofs.ReadFacts.{rows-end, rows-more}
use Rattle.command_types.specs.declared.file_fault.FileFault.TheVariants.{Memory}
use Rattle.trade_file.specs.RosterFile.{records_of, roster_of, with_record, with_records}
use Rattle.trade_file.specs.Draft.{rows_of}
use Rattle.trade_file.proofs.CsvFacts.{reached-all, reached-front, reached-size, strip_bom-size}
use Rattle.trade_file.proofs.RosterFacts.{read_on, ends, whole, nothing}
use Rattle.trade_file.proofs.roster.read_records.Goals as goal

pub loop-record-init : goal.loop-record-init
unfolding Reached with_records
loop-record-init c =
    let fr = c.from_reader-reader.ensures in
    let e = c.has_headers.ensures in
    let d = c.flexible.ensures in
    let start = c.into_iter-record-iterator.ensures.into_iter_gives ∙ refl in
    let rdr = c.into_byte_records-record-items.ensures.rdr in
    let left = c.into_byte_records-record-items.ensures.left in
    rw (start, rdr) (
      rw (d, e) at fr.trim ∙ c.new.ensures.trim,
      inr (inr (rw (d, e) at fr.has_headers, fr.headers)),
      left,
      rw (d, e) at fr.config ∙ c.new.ensures.config,
      strip_bom c.args.bytes.now,
      fr.source,
      [],
      (sym fr.state, refl),
      c.new-draft.ensures.draft,
      rw c.new-draft.ensures.rows refl,
      refl,
    )

pub overflow_add-number : goal.overflow_add-number
overflow_add-number c =
    let inv = c.loop-record.invariant in
    let size = reached-size default_config st.StartRecord c.loop-record.record-iterator.rdr.state (strip_bom c.args.bytes.now) inv.4 inv.6 refl inv.7 in
    omega (arith, size, strip_bom-size c.args.bytes.now, inv.10)

pub loop-record-preserved : goal.loop-record-preserved
loop-record-preserved c =
    let inv = c.loop-record.invariant in
    let s = rw (c.in-Some.is, c.in-Ok.is) at ((c.next.ensures.steps inv.2 inv.0).0 inv.1) in
    let fields = fields_of c.in-Ok.record in
    let m = rows-more (λ (s : Bor (List ℕ)). Some s.now) c.loop-record.record-iterator.rdr c.next.new.self.rdr fields default_config st.StartRecord (strip_bom c.args.bytes.now) inv.4 inv.6 inv.3 inv.5 inv.7 s.0 in
    let fine = c.in_ok-take_record.ensures in
    let step : with_record (length inv.6 + 1) (rows_of c.loop-record.draft) fields ≡ Ok (rows_of c.take_record.new.draft) = rw inv.10 at fine.1 in (
      s.0.3 ∙ inv.0,
      inl s.1,
      s.2,
      s.0.2 ∙ inv.3,
      m.0,
      m.1,
      inv.6 ++ (fields ∷ []),
      m.2,
      fine.0,
      read_on inv.6 fields (rows_of c.loop-record.draft) (rows_of c.take_record.new.draft) inv.9 step,
      omega (arith, length-append inv.6 (fields ∷ []), inv.10),
    )

pub returns-in_err-take_record-clause-fault : goal.returns-in_err-take_record-clause-fault
returns-in_err-take_record-clause-fault c =
    let inv = c.loop-record.invariant in
    let s = rw (c.in-Some.is, c.in-Ok.is) at ((c.next.ensures.steps inv.2 inv.0).0 inv.1) in
    let fields = fields_of c.in-Ok.record in
    let m = rows-more (λ (s : Bor (List ℕ)). Some s.now) c.loop-record.record-iterator.rdr c.next.new.self.rdr fields default_config st.StartRecord (strip_bom c.args.bytes.now) inv.4 inv.6 inv.3 inv.5 inv.7 s.0 in
    let bad = rw inv.10 at c.in_err-take_record.ensures in
    let f = reached-front (strip_bom c.args.bytes.now) m.0 c.next.new.self.rdr.state (inv.6 ++ (fields ∷ [])) m.2 in
    let is : c.from_residual.result ≡ Err c.in_err-take_record.field-0.0 = search rules in
    subst (λ r. IfErr r (λ fault. (fault ≡ Memory) ⊎ (roster_of (records_of c.args.bytes.now) ≡ Err fault))) (sym is)
    (ends (records_of c.args.bytes.now) inv.6 f.0 fields (rows_of c.loop-record.draft) c.in_err-take_record.field-0.0 f.1 inv.9 bad)

pub returns-then-number-eq0-clause-fault : goal.returns-then-number-eq0-clause-fault
returns-then-number-eq0-clause-fault c =
    let inv = c.loop-record.invariant in
    let s = rw c.in-None.is at ((c.next.ensures.steps inv.2 inv.0).0 inv.1) in
    let end = rows-end (λ (s : Bor (List ℕ)). Some s.now) c.loop-record.record-iterator.rdr c.next.new.self.rdr [] default_config inv.4 inv.3 inv.5 s in
    let all = reached-all (strip_bom c.args.bytes.now) inv.4 c.loop-record.record-iterator.rdr.state inv.6 inv.7 end in
    inr (ap roster_of all ∙ nothing inv.6 c.loop-record.number inv.10 c.if-number-eq0.true)

pub returns-clause-rows : goal.returns-clause-rows
returns-clause-rows c =
    let inv = c.loop-record.invariant in
    let s = rw c.in-None.is at ((c.next.ensures.steps inv.2 inv.0).0 inv.1) in
    let end = rows-end (λ (s : Bor (List ℕ)). Some s.now) c.loop-record.record-iterator.rdr c.next.new.self.rdr [] default_config inv.4 inv.3 inv.5 s in
    let all = reached-all (strip_bom c.args.bytes.now) inv.4 c.loop-record.record-iterator.rdr.state inv.6 inv.7 end in
    ap roster_of all ∙ whole inv.6 (rows_of c.loop-record.draft) c.loop-record.number inv.10 c.if-number-eq0.false inv.9
