use Rattle.std.proofs.Common.{subst, arith}
use Rattle.record_codec.specs.Reading.{read_record}
use Rattle.record_codec.specs.Laws.{Decodes}
use Rattle.record_codec.proofs.RecordReading.{is_found, is_bad, read_again}
use Rattle.record_codec.proofs.decoding.decode.Goals as goal

pub returns-clause-found : goal.returns-clause-found
returns-clause-found c = is_found c.args.form c.args.bytes.now c.with_offset.result (λ i. omega (arith, c.type_inv.bytes i)) c.with_offset.ensures

pub returns-clause-only : goal.returns-clause-only
returns-clause-only c = λ e s. subst (λ r. Decodes c.with_offset.result r) (read_again c.args.form c.args.bytes.now e s) c.with_offset.ensures

pub returns-clause-bad : goal.returns-clause-bad
returns-clause-bad c = λ at is e s. is_bad c.args.form c.args.bytes.now at e (subst (λ r. Decodes r (read_record c.args.form c.args.bytes.now)) is c.with_offset.ensures) s
