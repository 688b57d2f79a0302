use Rattle.std.proofs.Common.{◌≡◌, ◌∙◌, ℕ, ◌≤◌, ◌<◌, false, ltb, List, [], ◌++◌, refl, ap, sym, arith, length, get_or}
use Rattle.std.specs.Prelude.{slice_get, Option, Some, None}
use Rattle.std.proofs.lemmas.Bool.Decides.{nat_tests}
use Rattle.std.proofs.lemmas.List.{append-nil}
use Rattle.std.proofs.lemmas.Option.{slice_get_past, slice_get_read}
use Rattle.network_laws.specs.Solutions.{ProblemData, SolutionData}
use Rattle.command_types.specs.declared.cycle.Mode.{Mode}
use Rattle.command_types.specs.declared.proof.ProofRow.{ProofRow}
use Rattle.command_types.specs.declared.roster.MemberRow.{MemberRow}
use Rattle.command_types.specs.declared.tolerance.ToleranceRow.{ToleranceRow}
use Rattle.command_types.specs.declared.trade.TradeRow.{TradeRow}
use Rattle.command_types.specs.Books.{held_network}
use Rattle.command_types.specs.MemberProofs.{part_rows, product_rows}
use Rattle.cycle_states.specs.MemberProofs.{asked_rows, asked_state}
use Rattle.cycle_states.specs.declared.machine.member_proofs.MemberProof.{MemberProof}
use Rattle.cycle_states.proofs.machine.member_proofs.add_product.Goals as goal

past : (i n : ℕ) → false ≡ ltb i n → n ≤ i
past i n off = grind (arith, nat_tests)

entry_at : {X : Type 0} (xs ys : List X) (i j : ℕ) (o : Option X) → xs ≡ ys → i ≡ j → slice_get xs i ≡ o → slice_get ys j ≡ o
entry_at xs ys i j o same at is = sym (λ k. slice_get (same k) (at k)) ∙ is

-- an entry that is past a list's end, or within it, is so of an equal list
gone_at : {X : Type 0} {xs ys : List X} {i j : ℕ} → xs ≡ ys → i ≡ j → false ≡ ltb i (length xs) → slice_get ys j ≡ None
gone_at {X} {xs} {ys} {i} {j} same at off = entry_at xs ys i j None same at (slice_get_past xs i (past i (length xs) off))

here_at : {X : Type 0} {xs ys : List X} {i j : ℕ} (x : X) → xs ≡ ys → i ≡ j → i < length xs → x ≡ get_or xs i x → slice_get ys j ≡ Some x
here_at {X} {xs} {ys} {i} {j} x same at within is = entry_at xs ys i j (Some x) same at (slice_get_read xs (length xs) i x refl within is)

-- without a problem, nothing is told
no_problem : (proof : MemberProof) (product : ℕ) → slice_get proof.cycle.now.begun product ≡ None → asked_rows proof product ≡ []
no_problem proof product none =
    ap (λ (o : Option ProblemData). product_rows (asked_state proof) proof.mode proof.member product o (slice_get proof.cycle.now.solutions product)) none

-- nor is it without a solution
no_solution : (proof : MemberProof) (product : ℕ) (problem : ProblemData) → slice_get proof.cycle.now.begun product ≡ Some problem → slice_get proof.cycle.now.solutions product ≡ None → asked_rows proof product ≡ []
no_solution proof product problem some none =
    ap (λ (o : Option ProblemData). product_rows (asked_state proof) proof.mode proof.member product o (slice_get proof.cycle.now.solutions product)) some
    ∙ ap (λ (o : Option SolutionData). product_rows (asked_state proof) proof.mode proof.member product (Some problem) o) none

unchanged : (rows told : List ProofRow) → told ≡ [] → rows ≡ rows ++ told
unchanged rows told none = sym (append-nil rows) ∙ ap (λ (more : List ProofRow). rows ++ more) (sym none)

-- and with both, the rows of the product
both : (proof : MemberProof) (product : ℕ) (members : List MemberRow) (settings : List ToleranceRow) (rows : List TradeRow) (problem : ProblemData) (solution : SolutionData) (mode : Mode) (member : ℕ) →
    mode ≡ proof.mode → member ≡ proof.member → members ≡ proof.roster.now.members → settings ≡ proof.cycle.now.settings → rows ≡ proof.book.now.rows →
    slice_get proof.cycle.now.begun product ≡ Some problem → slice_get proof.cycle.now.solutions product ≡ Some solution →
    part_rows (record { product = product; mode = mode; members = members; settings = settings; held = held_network (length members) product rows; problem = problem; solution = solution }) member ≡ asked_rows proof product
both proof product members settings rows problem solution mode member begins asks are set trades begun posted =
    let s = asked_state proof in
    (λ i. part_rows (record { product = product; mode = begins i; members = are i; settings = set i; held = held_network (length (are i)) product (trades i); problem = problem; solution = solution }) (asks i))
    ∙ sym (ap (λ (o : Option ProblemData). product_rows s proof.mode proof.member product o (slice_get proof.cycle.now.solutions product)) begun
    ∙ ap (λ (o : Option SolutionData). product_rows s proof.mode proof.member product (Some problem) o) posted)

pub returns-in_default : goal.returns-in_default
returns-in_default c =
    let proof = c.args.proof.now in
    let gone : slice_get proof.cycle.now.begun c.args.product ≡ None =
    gone_at (ap (λ (p : MemberProof). p.problems.now) c.proof.view_is ∙ c.requires.problems) c.index.ensures c.in_default.ensures.lookup.0 in
    unchanged c.args.rows.now.items (asked_rows proof c.args.product) (no_problem proof c.args.product gone)

pub returns-in_default-get : goal.returns-in_default-get
returns-in_default-get c =
    let proof = c.args.proof.now in
    let here : slice_get proof.cycle.now.begun c.args.product ≡ Some c.in-Some.problem.now =
    here_at c.in-Some.problem.now (ap (λ (p : MemberProof). p.problems.now) c.proof.view_is ∙ c.requires.problems) c.index.ensures c.in-Some.ensures.lookup.3.0 c.in-Some.ensures.lookup.1 in
    let gone : slice_get proof.cycle.now.solutions c.args.product ≡ None =
    gone_at (c.solutions.ensures ∙ ap (λ (p : MemberProof). p.cycle.now.solutions) c.proof.view_is) c.index-2.ensures c.in_default-get.ensures.lookup.0 in
    unchanged c.args.rows.now.items (asked_rows proof c.args.product) (no_solution proof c.args.product c.in-Some.problem.now here gone)

pub returns : goal.returns
returns c =
    let proof = c.args.proof.now in
    let here : slice_get proof.cycle.now.begun c.args.product ≡ Some c.in-Some.problem.now =
    here_at c.in-Some.problem.now (ap (λ (p : MemberProof). p.problems.now) c.proof.view_is ∙ c.requires.problems) c.index.ensures c.in-Some.ensures.lookup.3.0 c.in-Some.ensures.lookup.1 in
    let posted : slice_get proof.cycle.now.solutions c.args.product ≡ Some c.in-Some-get.solution.now =
    here_at c.in-Some-get.solution.now (c.solutions.ensures ∙ ap (λ (p : MemberProof). p.cycle.now.solutions) c.proof.view_is) c.index-2.ensures c.in-Some-get.ensures.lookup.3.0 c.in-Some-get.ensures.lookup.1 in
    c.in_ok-add_part.ensures ∙ ap (λ (told : List ProofRow). c.args.rows.now.items ++ told)
    (both proof c.args.product c.members.result.now _ _ c.in-Some.problem.now c.in-Some-get.solution.now _ _
    (ap (λ (p : MemberProof). p.mode) c.proof.view_is) (ap (λ (p : MemberProof). p.member) c.proof.view_is)
    (c.members.ensures.rows ∙ ap (λ (p : MemberProof). p.roster.now.members) c.proof.view_is) (ap (λ (p : MemberProof). p.tolerances.now.taken) c.proof.view_is ∙ c.requires.taken) (ap (λ (p : MemberProof). p.book.now.rows) c.proof.view_is)
    here posted)
