use Rattle.std.proofs.Common.{◌+◌, ◌∙◌, ◌++◌, ◌∷◌, [], ap, List, ℕ, sym, subst, arith}
use Rattle.split_parts.specs.Labels.{AreNext, AreClassesTo}
use Rattle.split_parts.proofs.Classes.{classes_yes, classes_one, classes_skip}
use Rattle.split_parts.proofs.members.parts_with.Goals as goal
use Rattle.split_parts.proofs.members.parts_with.Goals.{then-labels-member+in_ok-members+then-len-gt1+in_ok-push, then-labels-member+in_ok-members+else-len-gt1, else-labels-member}

pub members_with-requires-clause-next : goal.members_with-requires-clause-next
members_with-requires-clause-next c = subst (AreNext c.args.labels.now) (sym c.deref.ensures.value) c.in_ok-next.ensures

pub loop-member-preserved : goal.loop-member-preserved
loop-member-preserved c =
    let i = c.loop-member.invariant in
    let labels = c.args.labels.now in
    let n = c.loop-member.member in
    let P : List (List ℕ) → Type 0 = AreClassesTo labels (n + 1) in
    elim c.if-labels-member.branch [
      | then-labels-member+in_ok-members+then-len-gt1+in_ok-push w ↦
          subst P (sym (ap (λ v. v.items) w.parts-is))
          (classes_yes labels n w.in_ok-members.members.items c.loop-member.parts.items _ i w.in_ok-members.ensures (let a = w.len.ensures in let b = w.in_ok-members.members.ok.0 in omega (arith, w.if-len-gt1.true))
          (w.in_ok-push.ensures.items ∙ ap (λ p. c.loop-member.parts.items ++ p ∷ []) w.from_members.ensures))
      | then-labels-member+in_ok-members+else-len-gt1 w ↦
          subst P (sym (ap (λ v. v.items) w.parts-is))
          (classes_one labels n w.in_ok-members.members.items c.loop-member.parts.items i w.in_ok-members.ensures c.loop-member-test.true w.if-labels-member.true (let a = w.len.ensures in let b = w.in_ok-members.members.ok.0 in omega (arith, w.if-len-gt1.false)))
      | else-labels-member w ↦ subst P (sym (ap (λ v. v.items) w.parts-is)) (classes_skip labels n c.loop-member.parts.items i c.requires.own w.if-labels-member.false)
    ]
