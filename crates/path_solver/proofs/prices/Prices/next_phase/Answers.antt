use Rattle.std.proofs.Common.{◌≡◌, not, ℕ, ◌+◌, ◌<◌, List, length, get_or, sym, ap, ◌∙◌, subst, arith}
use Rattle.std.proofs.lemmas.Bool.{and_parts}
use Rattle.member_set.specs.Members.{has}
use Rattle.residual_graph.specs.Arcs.{head}
use Rattle.path_solver.specs.declared.entries.Entry.{Entry}
use Rattle.path_solver.specs.declared.prices.Prices.{Prices}
use Rattle.path_solver.specs.declared.work.Work.{Work}
use Rattle.path_solver.specs.Entries.{is_entry}
use Rattle.path_solver.specs.Groups.{AreGroups, AreSortedIn}
use Rattle.path_solver.specs.Levels.{AreCut}
use Rattle.path_solver.specs.Phases.{IsPhase, raised_price}
use Rattle.path_solver.specs.Works.{IsWork, IsFeasibleIn, ArePhased}
use Rattle.path_solver.proofs.Entered.{all_entered, entry_in}
use Rattle.path_solver.proofs.Phased.{raised_phase}
use Rattle.path_solver.proofs.Spreads.{few_levels}
use Rattle.path_solver.proofs.WentBack.{cut_raised, still_priced, spread_back, passed_back, whole_back}
use Rattle.path_solver.proofs.prices.Prices.next_phase.Goals as goal

-- prices that rose outside a cut are those of the next phase, and sorted
next : (w : Work) (p new : Prices) (levels : List ℕ) (sender : ℕ) → IsWork w → IsFeasibleIn w → 0 < get_or w.balance.surplus.items sender 0 → length levels ≡ w.residual.members → AreSortedIn w.residual.members p → ArePhased w p → AreCut w.residual.flows p.by_member.items w.balance.surplus.items w.balance.lack.items levels
    → length new.by_member.items ≡ length p.by_member.items → ((v : ℕ) → v < length p.by_member.items → get_or new.by_member.items v 0 ≡ raised_price levels p.by_member.items v) → new.top ≡ p.top + 1 → length new.groups.items ≡ length p.groups.items → AreGroups new.by_member.items new.groups.items
    → ArePhased w new × AreSortedIn w.residual.members new
next w p new levels sender work feasible sends len sorted phase cut one_each raised top groups again =
    let all = raised_phase new.by_member.items sender work.residual feasible (sym sorted.one_each) one_each len (sym work.surplus) sends phase cut raised in
    let later : ArePhased w new = subst (IsPhase w.residual w.residual w.balance.surplus.items w.balance.lack.items w.balance.surplus.items w.balance.lack.items new.by_member.items) (sym top) all.1 in (
      later,
      record {
        one_each = sorted.one_each ∙ sym one_each;
        low = λ v. omega (arith, later.rated.most v, later.few);
        long = groups ∙ sorted.long;
        sorted = again;
      },
    )

pub entered_from-entered-requires-clause-exits : goal.entered_from-entered-requires-clause-exits
entered_from-entered-requires-clause-exits c v on =
    let known = c.requires.searched.spread.known in
    let both = and_parts (has c.around.result v) (not (has c.args.search.now.seen v)) (sym (c.without-others.ensures v) ∙ on) in
    let near = c.around.ensures.near v both.0 in
    let entry = ap (λ (es : List Entry). is_entry es near.0 v) (sym c.deref.ensures.value) ∙ near.2 in
    omega (arith, entry_in c.args.work.now.residual c.args.work.now.neighbours.entries.items near.0 v c.requires.work.residual c.requires.work.neighbours.entries ((known near.0).0 near.1).0 entry, ap length c.deref-in-raises.ensures.value, c.requires.work.neighbours.exits.one_each)

pub entered_from-entered-requires-clause-low : goal.entered_from-entered-requires-clause-low
entered_from-entered-requires-clause-low c v =
    let rising = c.raises.invariant in
    let cut = cut_raised c.raises.self.by_member.items c.raises.entered c.requires.cut rising.entered (c.is_empty.ensures.none.0 c.raises-test.true) in
    let sorted = (next c.args.work.now c.raises.self c.raise.new.self c.args.levels.now c.requires.sends.0 c.requires.work c.requires.feasible c.requires.sends.1 c.requires.searched.spread.one_each rising.sorted rising.phase cut c.raise.ensures.one_each c.raise.ensures.raised c.raise.ensures.top c.raise.ensures.groups c.raise.ensures.sorted).1 in
    omega (arith, sorted.low v, sorted.long, ap (λ (p : List ℕ). get_or p v 0) c.deref-in-raises-3.ensures.value, ap length c.deref-in-raises-2.ensures.value)

pub raises-preserved : goal.raises-preserved
raises-preserved c =
    let rising = c.raises.invariant in
    let new = c.raise.new.self in
    let cut = cut_raised c.raises.self.by_member.items c.raises.entered c.requires.cut rising.entered (c.is_empty.ensures.none.0 c.raises-test.true) in
    let all = next c.args.work.now c.raises.self c.raise.new.self c.args.levels.now c.requires.sends.0 c.requires.work c.requires.feasible c.requires.sends.1 c.requires.searched.spread.one_each rising.sorted rising.phase cut c.raise.ensures.one_each c.raise.ensures.raised c.raise.ensures.top c.raise.ensures.groups c.raise.ensures.sorted in
    record {
      phase = all.0;
      entered = all_entered c.args.levels.now c.args.search.now.seen c.around.result c.without-others.result c.entered_from-entered.result c.requires.work.residual c.requires.work.neighbours all.1
          c.requires.searched.spread.known
          (λ h u on e. c.around.ensures.all h u on (ap (λ (es : List Entry). is_entry es h u) c.deref.ensures.value ∙ e))
          c.without-others.ensures
          (rw (c.deref-in-raises.ensures.value, c.deref-in-raises-2.ensures.value, c.deref-in-raises-3.ensures.value) at c.entered_from-entered.ensures.all);
      inside = c.entered_from-entered.ensures.inside;
      later = λ v on. omega (arith, rising.up, c.raise.ensures.top);
      kept = λ v l is. c.raise.ensures.raised v (omega (arith, l, rising.sorted.one_each)) ∙ still_priced c.args.levels.now c.raises.self.by_member.items v is ∙ rising.kept v l is;
      sorted = all.1;
      up = omega (arith, rising.up, c.raise.ensures.top);
    }

pub go_back-requires-clause-room : goal.go_back-requires-clause-room
go_back-requires-clause-room c =
    omega (arith, few_levels c.requires.work.residual c.requires.searched.spread, c.requires.layers)

pub returns-clause-searched : goal.returns-clause-searched
returns-clause-searched c =
    let r = c.args.work.now.residual in
    let rising = c.raises.invariant in
    let old = c.requires.searched in
    let back = c.go_back.ensures in
    let few = few_levels c.requires.work.residual old.spread in
    record {
      spread = spread_back r c.args.self.now.by_member.items c.raises.self.by_member.items c.args.work.now.balance.surplus.items c.args.work.now.balance.lack.items c.args.levels.now c.go_back.new.levels c.args.search.now.level c.go_back.new.search.level c.args.search.now.now c.args.search.now.seen c.go_back.new.search.now c.go_back.new.search.seen c.args.layers.now c.requires.work.residual old.spread
          rising.kept c.go_back.auto.levels back.cut_off back.lower old.passed old.whole back.now back.seen
          (λ a l is_open was e. back.entered (head r.flows a) (rising.entered a l is_open was e));
      passed = passed_back c.args.levels.now c.go_back.new.levels c.args.layers.now c.args.search.now.level c.go_back.new.search.level c.go_back.auto.levels back.cut_off back.lower old.passed;
      whole = whole_back c.args.levels.now c.go_back.new.levels c.args.layers.now c.args.search.now.level c.go_back.new.search.level (omega (arith, few, c.requires.work.residual.few, back.lower)) c.go_back.auto.levels back.cut_off back.lower old.whole;
    }
