use Rattle.std.proofs.Common.{◌≡◌, ℕ, suc, ◌+◌, ◌-◌, ◌<◌, ◌≤◌, List, [], ◌∷◌, ◌++◌, length, get_or, set, drop, reverse, Option, None, Some, arith, sym, ap, ◌∙◌, subst, ⊎_elim}
use Rattle.std.proofs.lemmas.Bool.{cases_lt}
use Rattle.std.specs.declared.alloc.Global.{Global}
use Rattle.std.specs.declared.vec.Vec.{Vec}
use Rattle.cycle_cancel.specs.declared.round.Step.{Step}
use Rattle.cycle_cancel.specs.Traces.{IsGain, arc_at}
use Rattle.cycle_cancel.proofs.Tracing.{IsTracing, tracing_step, tracing_found, tracing_full, arc_in_flows}
use Rattle.cycle_cancel.proofs.trace.trace.Goals as goal

pub end_of-requires : goal.end_of-requires
end_of-requires c =
    let t = c.loop-back.invariant.3 c.index-levels-0.result in
    let seen : get_or c.loop-back.marks.items c.loop-back.at None ≡ Some c.in-Some.mark = ap (λ (xs : List (Option ℕ)). get_or xs c.loop-back.at None) (sym c.deref.ensures.value) ∙ sym c.in-Some.ensures in
    omega (arith, (t.marked c.loop-back.at c.in-Some.mark t.at_in seen).0, ap length c.deref-in-Some.ensures.value, t.path_length)

pub returns-in-Some : goal.returns-in-Some
returns-in-Some c =
    let any = c.index-levels-0.result in
    let t = c.loop-back.invariant.3 c.index-levels-0.result in
    let seen : get_or c.loop-back.marks.items c.loop-back.at None ≡ Some c.in-Some.mark = ap (λ (xs : List (Option ℕ)). get_or xs c.loop-back.at None) (sym c.deref.ensures.value) ∙ sym c.in-Some.ensures in
    let gain = tracing_found c.args.residual.now.flows c.args.levels.now c.args.residual.now.members c.args.rounds any c.requires.table.1 c.requires.levels c.members.ensures.residual.good c.loop-back.path.items c.loop-back.marks.items c.loop-back.at c.loop-back.back c.in-Some.mark t (omega arith) seen in
    let is : c.in_ok-arcs.arcs.items ≡ reverse (drop c.in-Some.mark c.loop-back.path.items) = c.in_ok-arcs.ensures ∙ ap (λ (p : List ℕ). reverse (drop c.in-Some.mark p)) c.deref-in-Some.ensures.value in
    subst (IsGain c.args.residual.now.flows) (sym is) gain

level_up : (n b : ℕ) → b < n → n - b ≡ suc (n - (b + 1))
level_up n b l = omega arith

pub arc_of-arc-requires-clause-lowered : goal.arc_of-arc-requires-clause-lowered
arc_of-arc-requires-clause-lowered c d none =
    let t = c.loop-back.invariant.3 d in
    let n = c.args.rounds in
    let b = c.loop-back.back in
    t.falls (n - (b + 1)) (omega arith) (subst (λ k. arc_at (get_or c.args.levels.now k d).items c.loop-back.at ≡ None) (level_up n b c.loop-back-test.true) none)

pub tail-at-requires : goal.tail-at-requires
tail-at-requires c =
    let any = c.index-levels-0.result in
    let n = c.args.rounds in
    let b = c.loop-back.back in
    let is = subst (λ k. arc_at (get_or c.args.levels.now k any).items c.loop-back.at ≡ Some c.arc_of-arc.result) (level_up n b c.loop-back-test.true) (c.arc_of-arc.ensures any) in
    arc_in_flows c.args.residual.now.flows c.args.levels.now c.args.residual.now.members n any c.requires.table.1 c.requires.levels c.members.ensures.residual.good c.loop-back.at (n - (b + 1)) c.arc_of-arc.result (omega arith) c.loop-back.invariant.2 is

pub loop-back-preserved : goal.loop-back-preserved
loop-back-preserved c =
    let flows = c.args.residual.now.flows in
    let levels = c.args.levels.now in
    let members = c.args.residual.now.members in
    let n = c.args.rounds in
    let b = c.loop-back.back in
    let a = c.arc_of-arc.result in
    let at = c.loop-back.at in
    let path = c.loop-back.path.items in
    let marks = c.loop-back.marks.items in
    let longer : c.push.new.self.items ≡ c.loop-back.path.items ++ c.arc_of-arc.result ∷ [] = c.in_ok-push.ensures.items in
    let free : get_or c.loop-back.marks.items c.loop-back.at None ≡ None = ap (λ (xs : List (Option ℕ)). get_or xs c.loop-back.at None) (sym c.deref.ensures.value) ∙ sym c.mark_of.ensures ∙ c.in_default.is in
    let step = λ (any : Vec Step Global).
    tracing_step flows levels members n any c.requires.table.1 c.requires.levels c.members.ensures.residual.good path marks at b (n - (b + 1)) a (c.loop-back.invariant.3 any) (omega arith) free
    (subst (λ k. arc_at (get_or levels k any).items at ≡ Some a) (level_up n b c.loop-back-test.true) (c.arc_of-arc.ensures any)) in
    let one = step c.index-levels-0.result in (
      ap length longer ∙ one.path_length,
      one.marks_length,
      subst (λ v. v < members) (sym c.tail-at.ensures.value) one.at_in,
      λ any. subst (λ (p : List ℕ). IsTracing flows levels members n any p (set marks at (Some b)) c.tail-at.result (b + 1)) (sym longer) (subst (λ v. IsTracing flows levels members n any (path ++ a ∷ []) (set marks at (Some b)) v (b + 1)) (sym c.tail-at.ensures.value) (step any)),
    )

pub end_of-requires-in-Some-mark_of : goal.end_of-requires-in-Some-mark_of
end_of-requires-in-Some-mark_of c =
    let t = c.loop-back.invariant.3 c.index-levels-0.result in
    let seen : get_or c.loop-back.marks.items c.loop-back.at None ≡ Some c.in-Some-mark_of.mark = ap (λ (xs : List (Option ℕ)). get_or xs c.loop-back.at None) (sym c.deref-2.ensures.value) ∙ sym c.in-Some-mark_of.ensures in
    omega (arith, (t.marked c.loop-back.at c.in-Some-mark_of.mark t.at_in seen).0, ap length c.deref-in-Some-mark_of.ensures.value, t.path_length)

pub returns-in-Some-mark_of : goal.returns-in-Some-mark_of
returns-in-Some-mark_of c =
    let any = c.index-levels-0.result in
    let t = c.loop-back.invariant.3 c.index-levels-0.result in
    let seen : get_or c.loop-back.marks.items c.loop-back.at None ≡ Some c.in-Some-mark_of.mark = ap (λ (xs : List (Option ℕ)). get_or xs c.loop-back.at None) (sym c.deref-2.ensures.value) ∙ sym c.in-Some-mark_of.ensures in
    let gain = tracing_found c.args.residual.now.flows c.args.levels.now c.args.residual.now.members c.args.rounds any c.requires.table.1 c.requires.levels c.members.ensures.residual.good c.loop-back.path.items c.loop-back.marks.items c.loop-back.at c.loop-back.back c.in-Some-mark_of.mark t (omega arith) seen in
    let is : c.in_ok-arcs-in-Some-mark_of.arcs.items ≡ reverse (drop c.in-Some-mark_of.mark c.loop-back.path.items) = c.in_ok-arcs-in-Some-mark_of.ensures ∙ ap (λ (p : List ℕ). reverse (drop c.in-Some-mark_of.mark p)) c.deref-in-Some-mark_of.ensures.value in
    subst (IsGain c.args.residual.now.flows) (sym is) gain

pub returns : goal.returns
returns c =
    let any = c.index-levels-0.result in
    let members = c.args.residual.now.members in
    let t = c.loop-back.invariant.3 c.index-levels-0.result in
    let none : get_or c.loop-back.marks.items c.loop-back.at None ≡ None = ap (λ (xs : List (Option ℕ)). get_or xs c.loop-back.at None) (sym c.deref-2.ensures.value) ∙ sym c.mark_of-2.ensures ∙ c.in-None.is in
    ⊎_elim (λ (l : c.args.rounds < c.args.residual.now.members). l)
    (λ (le : c.args.residual.now.members ≤ c.args.rounds).
    let done : c.loop-back.back ≡ c.args.residual.now.members = omega (arith, c.requires.rounds) in
    absurd (tracing_full c.args.residual.now.flows c.args.levels.now c.args.residual.now.members c.args.rounds any c.requires.table.1 c.requires.levels c.members.ensures.residual.good c.loop-back.path.items c.loop-back.marks.items c.loop-back.at (subst (IsTracing c.args.residual.now.flows c.args.levels.now c.args.residual.now.members c.args.rounds any c.loop-back.path.items c.loop-back.marks.items c.loop-back.at) done t) none))
    (cases_lt c.args.rounds c.args.residual.now.members)
