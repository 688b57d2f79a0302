use Rattle.std.proofs.Common.{◌≡◌, ℕ, ◌+◌, ◌*◌, ◌/◌, ◌%◌, ◌<◌, ◌≤◌, List, [], length, get_or, take, drop, sym, ◌∙◌, ap, arith}
use Rattle.std.proofs.lemmas.List.{length-drop, length-take-le, get_or_default}
use Rattle.std.specs.List.{concat}
use Rattle.record_pool.proofs.PageFacts.{full_at, read_page}
use Rattle.record_pool.proofs.pages.front.Goals as goal

pub part-requires : goal.part-requires
part-requires c =
    let pages = c.args.pages.now in
    let p = c.args.at / 65536 in
    let inside : p < length pages = omega (arith, c.requires.place) in
    let same : c.index-pages-at.result ≡ get_or pages p [] = c.index-pages-at.is ∙ get_or_default pages p c.index-pages-at.result [] inside in
    omega (arith, full_at pages p c.requires.full inside, ap length same, c.min-count.ensures)

pub returns-clause-some : goal.returns-clause-some
returns-clause-some c some =
    let pages = c.args.pages.now in
    let p = c.args.at / 65536 in
    let o = c.args.at % 65536 in
    let page = c.index-pages-at.result in
    let inside : p < length pages = omega (arith, c.requires.place) in
    let same : page ≡ get_or pages p [] = c.index-pages-at.is ∙ get_or_default pages p page [] inside in
    let room : c.min-count.result ≤ length (drop o page) = omega (arith, full_at pages p c.requires.full inside, ap length same, c.min-count.ensures, length-drop o page) in
    omega (arith, c.min-count.ensures, ap length c.part.ensures, length-take-le c.min-count.result (drop o page) room)

pub returns-clause-bytes : goal.returns-clause-bytes
returns-clause-bytes c =
    let pages = c.args.pages.now in
    let at = c.args.at in
    let p = at / 65536 in
    let o = at % 65536 in
    let n = c.min-count.result in
    let page = c.index-pages-at.result in
    let inside : p < length pages = omega (arith, c.requires.place) in
    let same : page ≡ get_or pages p [] = c.index-pages-at.is ∙ get_or_default pages p page [] inside in
    let room : n ≤ length (drop o page) = omega (arith, full_at pages p c.requires.full inside, ap length same, c.min-count.ensures, length-drop o page) in
    let long : length c.part.result.now ≡ n = ap length c.part.ensures ∙ length-take-le n (drop o page) room in
    let here : at ≡ 65536 * p + o = omega arith in
    let small : o + n ≤ 65536 = omega (arith, c.min-count.ensures) in
    c.part.ensures ∙ ap (λ (l : List ℕ). take n (drop o l)) same ∙ sym (read_page pages p o n at c.requires.full inside here small)
    ∙ ap (λ (k : ℕ). take k (drop at (concat pages))) (sym long)
