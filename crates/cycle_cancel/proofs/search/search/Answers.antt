use Rattle.std.proofs.Common.{◌≡◌, ℕ, ◌+◌, ◌<◌, List, [], ◌∷◌, ◌++◌, length, get_or, map, Option, None, arith, sym, ap, ◌∙◌, subst, length-append}
use Rattle.std.specs.Prelude.{MatchOption}
use Rattle.std.specs.declared.alloc.Global.{Global}
use Rattle.std.specs.declared.vec.Vec.{Vec}
use Rattle.std.proofs.Math.Seq.{get_or-append_seam}
use Rattle.std.proofs.lemmas.List.{get_or_default}
use Rattle.residual_graph.specs.Arcs.{arc_count}
use Rattle.cycle_cancel.specs.declared.round.Step.{Step}
use Rattle.cycle_cancel.specs.Rounds.{IsLevel, IsRound, label_of}
use Rattle.cycle_cancel.specs.Traces.{IsTable, IsGain, arc_at}
use Rattle.cycle_cancel.specs.Cancels.{AreSettled}
use Rattle.cycle_cancel.proofs.LevelTable.{settled, table_push, next_level}
use Rattle.cycle_cancel.proofs.search.search.Goals as goal

none_case : {X : Type 0} (o : Option X) (A : Type 0) (B : X → Type 0) → o ≡ None → MatchOption o A B → A
none_case o A B e h = subst (λ x. MatchOption x A B) e h

pub returns-in_default : goal.returns-in_default
returns-in_default c one =
    let r = c.args.residual.now in
    let h = c.members-members.ensures.residual in
    let k = c.loop-level.level in
    let levels = c.loop-level.levels.items in
    let inv = c.loop-level.invariant in
    let any = c.index.result.now in
    let l : c.loop-level.level < length c.loop-level.levels.items = omega (arith, inv.counted) in
    let before : c.deref.result.now ≡ (get_or c.loop-level.levels.items c.loop-level.level c.index.result.now).items = c.deref.ensures.value ∙ ap (λ (v : Vec Step Global). v.items) c.index.ensures in
    let round : IsRound c.args.least c.args.residual.now.flows (get_or c.loop-level.levels.items c.loop-level.level c.index.result.now).items c.in_ok-next.next.items (arc_count c.args.residual.now.flows) = subst (λ (b : List Step). IsRound c.args.least c.args.residual.now.flows b c.in_ok-next.next.items (arc_count c.args.residual.now.flows)) before c.in_ok-next.ensures in
    let next = next_level r levels any k c.in_ok-next.next.items h inv.table l (inv.level any) round in
    let none = subst (λ (s : List Step). (v : ℕ) → v < length s → arc_at s v ≡ None) c.deref-in-loop-level.ensures.value c.in_default.ensures in
    let labels : c.in_ok-labels.labels.items ≡ map label_of c.in_ok-next.next.items = c.in_ok-labels.ensures ∙ ap (map label_of) c.deref-in_default.ensures.value in
    subst (AreSettled c.args.residual.now) (sym labels) (settled r (get_or levels k any).items c.in_ok-next.next.items (k + 1) one h (inv.table.wide k any l) next.0 (omega (arith, c.loop-level-test.true, c.members-members.ensures.value)) round none)

pub trace-requires-clause-table : goal.trace-requires-clause-table
trace-requires-clause-table c =
    let r = c.args.residual.now in
    let h = c.members-members.ensures.residual in
    let k = c.loop-level.level in
    let levels = c.loop-level.levels.items in
    let inv = c.loop-level.invariant in
    let any = c.index.result.now in
    let next = c.in_ok-next.next in
    let l : c.loop-level.level < length c.loop-level.levels.items = omega (arith, inv.counted) in
    let before = λ (d : Vec Step Global). c.deref.ensures.value ∙ ap (λ (v : Vec Step Global). v.items) (c.index.ensures ∙ get_or_default levels k any d l) in
    let round = λ (d : Vec Step Global). subst (λ (b : List Step). IsRound c.args.least c.args.residual.now.flows b c.in_ok-next.next.items (arc_count c.args.residual.now.flows)) (before d) c.in_ok-next.ensures in
    let longer : c.push-in-loop-level.new.self.items ≡ c.loop-level.levels.items ++ c.in_ok-next.next ∷ [] = c.in_ok-push-2.ensures.items in
    let wide : length c.in_ok-next.next.items ≡ c.args.residual.now.members = (round any).same_length ∙ inv.table.wide k any l in
    (c.args.least, subst (IsTable c.args.least c.args.residual.now.flows c.args.residual.now.members) (sym (c.deref-in-loop-level-2.ensures.value ∙ longer)) (table_push r.flows r.members levels next k inv.table inv.counted wide round))

pub loop-level-preserved : goal.loop-level-preserved
loop-level-preserved c =
    let r = c.args.residual.now in
    let h = c.members-members.ensures.residual in
    let k = c.loop-level.level in
    let levels = c.loop-level.levels.items in
    let inv = c.loop-level.invariant in
    let any = c.index.result.now in
    let next = c.in_ok-next.next in
    let l : c.loop-level.level < length c.loop-level.levels.items = omega (arith, inv.counted) in
    let before = λ (d : Vec Step Global). c.deref.ensures.value ∙ ap (λ (v : Vec Step Global). v.items) (c.index.ensures ∙ get_or_default levels k any d l) in
    let round = λ (d : Vec Step Global). subst (λ (b : List Step). IsRound c.args.least c.args.residual.now.flows b c.in_ok-next.next.items (arc_count c.args.residual.now.flows)) (before d) c.in_ok-next.ensures in
    let longer : c.push-in-loop-level.new.self.items ≡ c.loop-level.levels.items ++ c.in_ok-next.next ∷ [] = c.in_ok-push-2.ensures.items in
    let level = next_level r levels any k c.in_ok-next.next.items h inv.table l (inv.level any) (round any) in
    let at_new = λ (d : Vec Step Global). ap (λ x. get_or (levels ++ next ∷ []) x d) (sym inv.counted) ∙ get_or-append_seam levels next [] d in
    record {
      counted = ap length longer ∙ omega (arith, inv.counted, length-append levels (next ∷ []));
      table = subst (IsTable c.args.least c.args.residual.now.flows c.args.residual.now.members) (sym longer) (table_push r.flows r.members levels next k inv.table inv.counted level.1 round);
      level = λ d. subst (λ (ls : List (Vec Step Global)). IsLevel (k + 1) (get_or ls (k + 1) d).items) (sym longer) (subst (λ (v : Vec Step Global). IsLevel (k + 1) v.items) (sym (at_new d)) level.0);
      few = λ _. none_case c.in_ok-arcs.field-0 (c.loop-level.level + 1 < c.args.residual.now.members) (λ (arcs : Vec ℕ Global). IsGain c.args.residual.now.flows arcs.items) c.in_default-2.is c.in_ok-arcs.ensures;
    }
