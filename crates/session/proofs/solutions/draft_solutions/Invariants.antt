use Rattle.std.proofs.Common.{◌≡◌, ◌++◌, drop}
use Rattle.command_types.specs.Session.{solutions_for}
use Rattle.session.specs.KeptDraft.{draft_of}
use Rattle.session.proofs.solutions.draft_solutions.Given as goal

abbrev pub invariant-loop-product : goal.invariant-loop-product
invariant-loop-product l =
    l.solutions.items ++ solutions_for l.roster.members (draft_of l.draft) (drop l.product-index l.product-items)
    ≡ solutions_for l.roster.members (draft_of l.draft) l.product-items
