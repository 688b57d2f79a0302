use Rattle.std.proofs.Common.{◌≡◌, ◌⊎◌, ◌%◌, ℕ, sym, subst, get_or, rules}
use Rattle.std.proofs.Math.ListN.{set}
use Rattle.trade_file.specs.FoundNames.{StandsFor}
use Rattle.trade_file.proofs.FoundFacts.{kept, slot_below}
use Rattle.trade_file.proofs.found_names.FoundNames.keep.Goals as goal

pub returns : goal.returns
returns c = λ read name knows short is slot below.
    let found = c.args.self.now in
    let here = c.args.key % 1024 in
    subst (λ (mark : ℕ). (get_or (set found.stamps here mark) slot 0 ≡ 0) ⊎ StandsFor read (get_or (set found.stamps here mark) slot 0) (get_or (set found.places here c.args.place) slot 0))
    (sym c.stamp_of.ensures) (kept read found name c.args.key c.args.size c.args.place here (search rules) (search rules) knows short is (slot_below c.args.key) slot below)
