-- Histories by their entries, and answers that tell of a stop.
use Rattle.std.proofs.Common.{◌≡◌, List}
use Rattle.command_types.specs.declared.ask.Entry.{Entry}
use Rattle.command_types.specs.declared.figures.Figures.{Figures}
use Rattle.command_types.specs.History.{History}
use Rattle.cycle_lock.specs.Accounts.{whole, Extends}
use Rattle.cycle_lock.specs.Passes.{Continues}

-- a history is that of its entries, from its base on
pub from_base : {T : Type 0} (history : T → History) (figures_of : T → Figures) (d : T) → (history d).base ≡ (figures_of d).base → history d ≡ whole (figures_of d) (history d).entries
from_base history figures_of d base = λ i. record { base = base i; entries = (history d).entries }

pub continues : (f g : Figures) (xs ys : List Entry) → f ≡ g → Extends xs ys → Continues (whole f xs) (whole g ys)
continues f g xs ys same x = (x.0, λ i. record { base = (same i).base; entries = x.1 i })
