use Rattle.product_book.proofs.FreezeFacts.{freezes_by_maturity}
use Rattle.product_book.proofs.laws.freezes_by_maturity.Goals as goal

pub returns : goal.returns
returns c = freezes_by_maturity
