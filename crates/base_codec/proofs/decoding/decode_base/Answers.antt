use Rattle.std.proofs.Common.{subst, arith}
use Rattle.record_codec.specs.Laws.{Decodes}
use Rattle.base_codec.specs.Reading.{read_whole_base}
use Rattle.base_codec.proofs.BaseReading.{base_found, base_bad, base_read_again}
use Rattle.base_codec.proofs.decoding.decode_base.Goals as goal

pub returns-clause-found : goal.returns-clause-found
returns-clause-found c = base_found c.args.bytes.now c.with_offset.result (λ i. omega (arith, c.type_inv.bytes i)) c.with_offset.ensures

pub returns-clause-only : goal.returns-clause-only
returns-clause-only c = λ b s. subst (λ r. Decodes c.with_offset.result r) (base_read_again c.args.bytes.now b s) c.with_offset.ensures

pub returns-clause-bad : goal.returns-clause-bad
returns-clause-bad c = λ at is b s. base_bad c.args.bytes.now at b (subst (λ r. Decodes r (read_whole_base c.args.bytes.now)) is c.with_offset.ensures) s
