use Rattle.std.proofs.Common.{◌≡◌, ◌+◌, ◌<◌, List, length, map, sym, ap, ◌∙◌, subst, arith}
use Rattle.std.proofs.lemmas.List.{with_items_is}
use Rattle.residual_graph.specs.declared.flow.Flow.{Flow}
use Rattle.residual_graph.specs.Arcs.{flow_at}
use Rattle.path_solver.specs.declared.entries.Entry.{Entry}
use Rattle.path_solver.specs.Entries.{AreEntriesTo, IsNoted}
use Rattle.path_solver.specs.Neighbours.{turned, turned_graph}
use Rattle.path_solver.proofs.Noted.{IsNew, next_pair, noted_more, not_noted}
use Rattle.path_solver.proofs.Turned.{flow_turned, count_turned, residual_turned, next_turned}
use Rattle.path_solver.proofs.neighbours.Neighbours.of.Goals as goal

fresh : (c : goal.After-turned) → IsNew c.deref_mut-in-loop-number.result.now c.turned.result
fresh c =
    let within : c.loop-number.number < length c.args.residual.now.flows = omega (arith, c.loop-number-test.true, ap length c.flows-flows.ensures.value) in
    let same : c.turned.result ≡ flow_at (map turned c.args.residual.now.flows) c.loop-number.number =
    c.turned.ensures ∙ ap (λ fs. turned (flow_at fs c.loop-number.number)) c.flows-flows.ensures.value ∙ sym (flow_turned c.args.residual.now.flows c.loop-number.number) in
    subst (λ (es : List Entry). IsNew es c.turned.result) (sym c.deref_mut-in-loop-number.ensures.value)
    (subst (λ (f : Flow). IsNew c.loop-number.exits.items f) (sym same)
    (not_noted (turned_graph c.args.residual.now) c.loop-number.exits.items c.loop-number.number (residual_turned c.args.residual.now c.flows-flows.ensures.residual) (omega (arith, within, count_turned c.args.residual.now.flows)) c.loop-number.invariant.exits))

pub note_first-requires-in-loop-number-clause-growing : goal.note_first-requires-in-loop-number-clause-growing
note_first-requires-in-loop-number-clause-growing c = (fresh c).0

pub note_first-requires-in-loop-number-clause-falling : goal.note_first-requires-in-loop-number-clause-falling
note_first-requires-in-loop-number-clause-falling c = (fresh c).1

pub loop-number-preserved : goal.loop-number-preserved
loop-number-preserved c =
    let r = c.args.residual.now in
    let t = turned_graph c.args.residual.now in
    let k = c.loop-number.number in
    let residual = c.flows-flows.ensures.residual in
    let within : c.loop-number.number < length c.args.residual.now.flows = omega (arith, c.loop-number-test.true, ap length c.flows-flows.ensures.value) in
    let next = next_pair c.args.residual.now c.loop-number.number within in
    let noted : IsNoted (flow_at c.args.residual.now.flows c.loop-number.number) c.loop-number.entries.items c.note_first.new.entries =
    subst (λ (es : List Entry). IsNoted (flow_at c.args.residual.now.flows c.loop-number.number) es c.note_first.new.entries) c.deref_mut.ensures.value
    (subst (λ fs. IsNoted (flow_at fs c.loop-number.number) c.deref_mut.result.now c.note_first.new.entries) c.flows-flows.ensures.value c.note_first.ensures) in
    let entries = with_items_is c.loop-number.entries c.note_first.new.entries (c.note_first.auto.entries ∙ c.deref_mut.ensures.len) in
    let noted_there : IsNoted (flow_at (map turned c.args.residual.now.flows) c.loop-number.number) c.loop-number.exits.items c.note_first-in-loop-number.new.entries =
    subst (λ (f : Flow). IsNoted f c.loop-number.exits.items c.note_first-in-loop-number.new.entries) (c.turned.ensures ∙ ap (λ fs. turned (flow_at fs c.loop-number.number)) c.flows-flows.ensures.value ∙ sym (flow_turned c.args.residual.now.flows c.loop-number.number))
    (subst (λ (es : List Entry). IsNoted c.turned.result es c.note_first-in-loop-number.new.entries) c.deref_mut-in-loop-number.ensures.value c.note_first-in-loop-number.ensures) in
    let exits = with_items_is c.loop-number.exits c.note_first-in-loop-number.new.entries (c.note_first-in-loop-number.auto.entries ∙ c.deref_mut-in-loop-number.ensures.len) in
    record {
      entries = subst (λ (es : List Entry). AreEntriesTo (c.loop-number.number + 1) c.args.residual.now es) (sym entries)
          (noted_more k (k + 1) k r r c.loop-number.entries.items c.note_first.new.entries residual next c.loop-number.invariant.entries noted);
      exits = subst (λ (es : List Entry). AreEntriesTo (c.loop-number.number + 1) (turned_graph c.args.residual.now) es) (sym exits)
          (noted_more k (k + 1) k t t c.loop-number.exits.items c.note_first-in-loop-number.new.entries (residual_turned r residual) (next_turned k (k + 1) k r r next) c.loop-number.invariant.exits noted_there);
    }

pub returns : goal.returns
returns c =
    let all : c.loop-number.number ≡ length c.args.residual.now.flows = omega (arith, c.loop-number-test.false, c.loop-number.auto.number-end, ap length c.flows-flows.ensures.value) in
    let turned_all : c.loop-number.number ≡ length (map turned c.args.residual.now.flows) = omega (arith, all, count_turned c.args.residual.now.flows) in
    record {
      entries = subst (λ n. AreEntriesTo n c.args.residual.now c.loop-number.entries.items) all c.loop-number.invariant.entries;
      exits = subst (λ n. AreEntriesTo n (turned_graph c.args.residual.now) c.loop-number.exits.items) turned_all c.loop-number.invariant.exits;
      rows = c.in_ok-rows.ensures;
    }
