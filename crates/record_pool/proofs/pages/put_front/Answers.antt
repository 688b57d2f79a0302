use Rattle.std.proofs.Common.{◌≡◌, ℕ, ◌+◌, ◌*◌, ◌/◌, ◌%◌, ◌<◌, ◌≤◌, List, [], length, get_or, set, take, sym, ◌∙◌, ap, arith}
use Rattle.std.proofs.lemmas.List.{length-take-le, get_or_default}
use Rattle.std.specs.List.{concat}
use Rattle.record_pool.proofs.PageFacts.{full_at, full_set, with_piece, piece_size, write_page}
use Rattle.record_pool.proofs.pages.put_front.Goals as goal

pub put-requires : goal.put-requires
put-requires c =
    let pages = c.args.pages.now.items in
    let p = c.args.at / 65536 in
    let page = c.index_mut-page.result.now in
    let inside : p < length pages = omega (arith, c.requires.place) in
    let same : page ≡ get_or pages p [] = c.index_mut-page.ensures.value ∙ get_or_default pages p page [] inside in
    omega (arith, full_at pages p c.requires.full inside, ap length same, c.min-count.ensures, length-take-le c.min-count.result c.args.bytes.now (omega (arith, c.min-count.ensures)))

pub returns-clause-full : goal.returns-clause-full
returns-clause-full c =
    let pages = c.args.pages.now.items in
    let p = c.args.at / 65536 in
    let o = c.args.at % 65536 in
    let page = c.index_mut-page.result.now in
    let piece = take c.min-count.result c.args.bytes.now in
    let inside : p < length pages = omega (arith, c.requires.place) in
    let same : page ≡ get_or pages p [] = c.index_mut-page.ensures.value ∙ get_or_default pages p page [] inside in
    let size : length page ≡ 65536 = ap length same ∙ full_at pages p c.requires.full inside in
    let small : o + length piece ≤ 65536 = omega (arith, c.min-count.ensures, length-take-le c.min-count.result c.args.bytes.now (omega (arith, c.min-count.ensures))) in
    full_set pages p c.put.new.self c.requires.full (ap length c.put.ensures ∙ piece_size page o piece size small)

pub returns-clause-bytes : goal.returns-clause-bytes
returns-clause-bytes c =
    let pages = c.args.pages.now.items in
    let at = c.args.at in
    let p = at / 65536 in
    let o = at % 65536 in
    let page = c.index_mut-page.result.now in
    let piece = take c.min-count.result c.args.bytes.now in
    let inside : p < length pages = omega (arith, c.requires.place) in
    let same : page ≡ get_or pages p [] = c.index_mut-page.ensures.value ∙ get_or_default pages p page [] inside in
    let long : length piece ≡ c.min-count.result = length-take-le c.min-count.result c.args.bytes.now (omega (arith, c.min-count.ensures)) in
    let small : o + length piece ≤ 65536 = omega (arith, c.min-count.ensures, long) in
    let here : at ≡ 65536 * p + o = omega arith in
    ap (λ (k : ℕ). take (at + k) (concat (set pages p c.put.new.self))) (sym long)
    ∙ ap (λ (l : List ℕ). take (at + length piece) (concat (set pages p l))) (c.put.ensures ∙ ap (λ (l : List ℕ). with_piece l o piece) same)
    ∙ write_page pages p o at piece c.requires.full inside here small
