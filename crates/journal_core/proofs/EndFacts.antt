-- A file ends at one place.
use Rattle.std.proofs.Common.{◌≡◌, ℕ, List, length, sym, ◌∙◌, ap, arith}
use Rattle.std.specs.List.{flat_map}
use Rattle.journal_core.specs.Holds.{frame, IsJournal, IsShort, end_in}
use Rattle.journal_core.specs.Journal.{EndsAs, IsFormOf}
use Rattle.journal_core.specs.declared.form.Form.{Form}
use Rattle.journal_core.specs.declared.form.Form.TheVariants.{Short, Plain, SlotsShort, Slots}
use Rattle.journal_core.proofs.OneReading.{one_lead, one_reading}
use Rattle.journal_core.proofs.PartFacts.{journal_holds}

-- two journals in a file have one end
pub same_end : (f g : Form) (file b c : List ℕ) (rs ss : List (List ℕ)) (j : IsJournal f file b rs) (k : IsJournal g file c ss) → end_in j ≡ end_in k
same_end f g file b c rs ss j k =
    let one = one_reading file b c rs ss (journal_holds f file b rs j) (journal_holds g file c ss k) in
    let lead = one_lead f g file b c j.place k.place (omega (arith, j.within)) (omega (arith, k.within)) j.leads k.leads in
    let sizes : length (flat_map frame rs) ≡ length (flat_map frame ss) = ap (λ (l : List (List ℕ)). length (flat_map frame l)) one.1 in
    omega (arith, lead.1, sizes)

short_ends : (f : Form) (file b : List ℕ) (rs : List (List ℕ)) (end : ℕ) → IsShort file → IsFormOf f file → EndsAs f file end b rs → end ≡ 30
short_ends Short file b rs end short is ends = ends.3
short_ends SlotsShort file b rs end short is ends = ends.4
short_ends Plain file b rs end short is ends = absurd (is short)
short_ends (Slots which offset) file b rs end short is ends = absurd (is short)

long_ends : (f : Form) (file b : List ℕ) (rs : List (List ℕ)) (end : ℕ) → (IsShort file → ⊥) → IsFormOf f file → EndsAs f file end b rs → (form : Form) × (j : IsJournal form file b rs) × (end ≡ end_in j)
long_ends Short file b rs end long is ends = absurd (long is)
long_ends SlotsShort file b rs end long is ends = absurd (long is)
long_ends Plain file b rs end long is ends = (Plain, ends.0, ends.1)
long_ends (Slots which offset) file b rs end long is ends = (Slots which offset, ends.0, ends.1)

pub one_end : (file b c : List ℕ) (rs ss : List (List ℕ)) (f g : Form) (end last : ℕ) → IsFormOf f file → EndsAs f file end b rs → IsFormOf g file → EndsAs g file last c ss → end ≡ last
one_end file b c rs ss Short g end last is ends is' ends' = ends.3 ∙ sym (short_ends g file c ss last is is' ends')
one_end file b c rs ss SlotsShort g end last is ends is' ends' = ends.4 ∙ sym (short_ends g file c ss last is is' ends')
one_end file b c rs ss Plain g end last is ends is' ends' =
    let other = long_ends g file c ss last is is' ends' in ends.1 ∙ same_end Plain other.0 file b c rs ss ends.0 other.1 ∙ sym other.2
one_end file b c rs ss (Slots which offset) g end last is ends is' ends' =
    let other = long_ends g file c ss last is is' ends' in ends.1 ∙ same_end (Slots which offset) other.0 file b c rs ss ends.0 other.1 ∙ sym other.2
