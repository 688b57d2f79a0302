use Rattle.std.proofs.Common.{◌≤◌, IsTrue, List, length, sym, subst}
use Rattle.network_laws.specs.Solutions.{ProblemData}
use Rattle.command_types.specs.Cycles.{has_limits}
use Rattle.posting.specs.Posted.{AreOfMembers}
use Rattle.cycle_states.proofs.CycleFacts.{solving_limits}
use Rattle.cycle_states.proofs.SettledFacts.{few_problems, of_members}
use Rattle.cycle_states.proofs.machine.Machine.if_bad_post.Goals as goal

pub bad_post-requires-clause-few : goal.bad_post-requires-clause-few
bad_post-requires-clause-few c =
    let m = c.self.inside in
    let on : IsTrue (has_limits m.cycle.phase) = solving_limits m.cycle.phase (rw (← c.self.view_is) at c.requires.solving) in
    let given = rw (← c.self.view_is) at c.requires.problems in
    subst (λ (problems : List ProblemData). length problems ≤ 64) (sym given) (few_problems m.roster m.book.members m.book.products m.book.rows m.cycle c.self.invariant.0 on)

pub bad_post-requires-clause-same_members : goal.bad_post-requires-clause-same_members
bad_post-requires-clause-same_members c =
    let m = c.self.inside in
    let on : IsTrue (has_limits m.cycle.phase) = solving_limits m.cycle.phase (rw (← c.self.view_is) at c.requires.solving) in
    let given = rw (← c.self.view_is) at c.requires.problems in
    subst (λ (problems : List ProblemData). AreOfMembers c.member_count.result problems) (sym given)
    (subst (λ n. AreOfMembers n m.cycle.begun) (sym c.member_count.ensures.count) (of_members m.roster m.book.members m.book.products m.book.rows m.cycle c.self.invariant.0 on))
