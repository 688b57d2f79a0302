use Rattle.std.proofs.Common.{◌≡◌, ℕ, ◌+◌, ◌*◌, ◌/◌, ◌<◌, List, [], length, get_or, drop, sym, ◌∙◌, ap, subst, arith}
use Rattle.journal_core.specs.Records.{AreAhead}
use Rattle.record_pool.specs.Marks.{place_at}
use Rattle.record_pool.proofs.AheadFacts.{ahead_behind, ahead_more}
use Rattle.record_pool.proofs.opened.record_of.Goals as goal

pub split_at-requires : goal.split_at-requires
split_at-requires c =
    let records = c.args.marks.now.records in
    let n = 16 * (c.args.number / 16) in
    let inside : n < length records = omega (arith, c.requires.inside) in
    let held = c.requires.held in
    let ahead = c.records-whole.ensures.all c.requires.walked held.0 records held.1 in
    omega (arith, c.near.ensures, (ahead_behind c.records-whole.result.at c.records-whole.result.rest.now records n ahead inside).0)

pub loop-before-init : goal.loop-before-init
loop-before-init c =
    let records = c.args.marks.now.records in
    let n = 16 * (c.args.number / 16) in
    let rest = c.records-whole.result.rest.now in
    let inside : n < length records = omega (arith, c.requires.inside) in
    let held = c.requires.held in
    let ahead = c.records-whole.ensures.all c.requires.walked held.0 records held.1 in
    let there = (ahead_behind c.records-whole.result.at rest records n ahead inside).1 in
    let here : c.split_at.result.1.now ≡ drop (place_at records n) rest = c.split_at.ensures.back ∙ ap (λ (k : ℕ). drop k rest) c.near.ensures in
    let same : n ≡ n + 0 = omega arith in
    subst (λ (k : ℕ). AreAhead 0 c.split_at.result.1.now (drop k records)) same (subst (λ (l : List ℕ). AreAhead 0 l (drop n records)) (sym here) there)

pub loop-before-preserved : goal.loop-before-preserved
loop-before-preserved c =
    let records = c.args.marks.now.records in
    let n = 16 * (c.args.number / 16) + c.loop-before._before in
    let inside : n < length records = omega (arith, c.requires.inside, c.loop-before-test.true) in
    let ahead = ahead_more c.loop-before.ahead.at c.loop-before.ahead.rest.now records n inside c.loop-before.invariant in
    let next = (c.next_of-record.ensures (get_or records n []) (drop (n + 1) records) ahead).1 in
    let same : n + 1 ≡ 16 * (c.args.number / 16) + (c.loop-before._before + 1) = omega arith in
    subst (λ (k : ℕ). AreAhead c.next_of-record.new.ahead.at c.next_of-record.new.ahead.rest.now (drop k records)) same next

pub returns : goal.returns
returns c =
    let records = c.args.marks.now.records in
    let n = 16 * (c.args.number / 16) + c.loop-before._before in
    let here : n ≡ c.args.number = omega (arith, c.loop-before-test.false, c.loop-before.auto) in
    let inside : n < length records = omega (arith, c.requires.inside, here) in
    let ahead = ahead_more c.loop-before.ahead.at c.loop-before.ahead.rest.now records n inside c.loop-before.invariant in
    (c.next_of.ensures (get_or records n []) (drop (n + 1) records) ahead).0 ∙ ap (λ (k : ℕ). get_or records k []) here
