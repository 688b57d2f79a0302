use Rattle.dual_certificate.proofs.ExactTexts.{what_is_read_is_its_text}
use Rattle.dual_certificate.proofs.WrittenParts.{their_text_is_read}
use Rattle.dual_certificate.proofs.WrittenTexts.{what_is_written_is_its_text}
use Rattle.dual_certificate.proofs.laws.what_is_read_is_its_text.Goals as goal

pub returns-clause-read : goal.returns-clause-read
returns-clause-read c = what_is_read_is_its_text

pub returns-clause-back : goal.returns-clause-back
returns-clause-back c = their_text_is_read

pub returns-clause-written : goal.returns-clause-written
returns-clause-written c = what_is_written_is_its_text
