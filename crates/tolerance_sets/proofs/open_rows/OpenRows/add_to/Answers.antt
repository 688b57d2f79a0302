use Rattle.std.proofs.Common.{◌+◌, ◌++◌, ap, ◌∙◌, arith, ⊎_elim}
use Rattle.std.specs.Prelude.{slice_range}
use Rattle.std.proofs.lemmas.List.{append_assoc}
use Rattle.tolerance_sets.proofs.OpenRows.{others_run, both_runs}
use Rattle.tolerance_sets.proofs.open_rows.OpenRows.add_to.Goals as goal

pub returns-then-own-from : goal.returns-then-own-from
returns-then-own-from c =
    let own = c.args.self.now.seller in
    let alike = c.args.self.now.rows.items in
    let start = c.args.rows.now.items in
    let from = c.args.from in
    let to = c.args.to in
    let copied = others_run own alike c.requires.rows from to c.requires.from c.requires.to (λ k lk l e. ⊎_elim (λ before. omega (arith, before, lk, e)) (λ behind. omega (arith, behind.1, l, e)) c.then-own-from.either) in
    c.in_ok-extend_from_slice.ensures.items ∙ ap (λ xs. start ++ slice_range xs from to) c.deref.ensures.value ∙ ap (λ xs. start ++ xs) copied

pub returns : goal.returns
returns c =
    let own = c.args.self.now.seller in
    let alike = c.args.self.now.rows.items in
    let start = c.args.rows.now.items in
    let from = c.args.from in
    let to = c.args.to in
    let first = c.in_ok-extend_from_slice-2.ensures.items ∙ ap (λ xs. start ++ slice_range xs from own) c.deref-2.ensures.value in
    let both = both_runs own alike c.requires.rows from to (omega (arith, c.if-own-from.false)) (omega (arith, c.if-own-to.false)) c.requires.to in
    c.in_ok-extend_from_slice-3.ensures.items
    ∙ ap (λ xs. c.extend_from_slice-2.new.self.items ++ slice_range xs (own + 1) to) c.deref-3.ensures.value
    ∙ ap (λ xs. xs ++ slice_range alike (own + 1) to) first
    ∙ append_assoc start (slice_range alike from own) (slice_range alike (own + 1) to)
    ∙ ap (λ xs. start ++ xs) both
