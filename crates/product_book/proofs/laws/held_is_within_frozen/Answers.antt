use Rattle.product_book.proofs.HeldFacts.{held_is_within_frozen}
use Rattle.product_book.proofs.laws.held_is_within_frozen.Goals as goal

pub returns : goal.returns
returns c = held_is_within_frozen
