use Rattle.dual_certificate.proofs.WrittenTexts.{what_is_written_reads_back}
use Rattle.dual_certificate.proofs.laws.what_is_written_reads_back.Goals as goal

pub returns : goal.returns
returns c = what_is_written_reads_back
