use Rattle.std.proofs.Common.{◌≡◌, ℕ, List, [], ◌∷◌, ◌++◌, length, sym, ◌∙◌, ap, subst, arith, length-append}
use Rattle.journal_core.specs.Frame.{frames_length}
use Rattle.journal_core.specs.RecordBytes.{walked_of}
use Rattle.journal_core.specs.Walk.{bytes_of, base_of}
use Rattle.record_pool.specs.Marks.{MarksView}
use Rattle.record_pool.specs.Parts.{AreParts}
use Rattle.record_pool.proofs.AheadFacts.{HasMarked, walked_these, marked_more, marked_all, frames_longer}
use Rattle.record_pool.proofs.PartFacts.{none_parted}
use Rattle.record_pool.proofs.opened.marks_of.Goals as goal

pub loop-found-init : goal.loop-found-init
loop-found-init c =
    let w = walked_of c.args.bytes.now in
    let at = c.records-ahead.result.at in
    let rest = c.records-ahead.result.rest.now in
    let none : c.new-marks.result.records ≡ [] = ap (λ (v : MarksView). v.records) c.new-marks.ensures in
    let held = walked_these w c.requires in
    let first : HasMarked (bytes_of w) [] at rest = (base_of w, c.requires.1.0, held, c.records-ahead.ensures.all c.requires (base_of w) c.requires.1.0 held) in
    record {
      ahead = subst (λ (l : List (List ℕ)). HasMarked (bytes_of w) l at rest) (sym none) first;
      place = omega (arith, ap frames_length none);
      few = omega (arith, ap length none, c.records-ahead.ensures.few);
      parts = subst (λ (l : List (List ℕ)). AreParts c.args.start l (record { spelling = c.args.start; first = 0; skipped = 0 })) (sym none) (none_parted c.args.start);
    }

pub loop-found-preserved : goal.loop-found-preserved
loop-found-preserved c =
    let w = walked_of c.args.bytes.now in
    let so_far = c.loop-found.invariant in
    let records = c.loop-found.marks.records in
    let bytes = c.in-Some.found.bytes.now in
    let at = c.next.new.self.at in
    let rest = c.next.new.self.rest.now in
    let more : c.push.new.self.records ≡ records ++ bytes ∷ [] = c.push.ensures.records ∙ ap (λ (l : List (List ℕ)). l ++ bytes ∷ []) c.in_ok-make_room.ensures.records in
    let next = marked_more (bytes_of w) records c.loop-found.ahead.at c.loop-found.ahead.rest.now so_far.ahead bytes at rest (c.in-Some.ensures.some so_far.ahead.1 so_far.ahead.3) in
    record {
      ahead = subst (λ (l : List (List ℕ)). HasMarked (bytes_of w) l at rest) (sym more) next.0;
      place = omega (arith, so_far.place, next.1, ap frames_length more, frames_longer records bytes);
      few = omega (arith, so_far.few, c.in-Some.ensures.shorter, ap length more, length-append records (bytes ∷ []));
      parts = subst (λ (l : List (List ℕ)). AreParts c.args.start l c.behind-parts.result) (sym more) (c.behind-parts.ensures c.args.start records so_far.parts);
    }

pub returns : goal.returns
returns c =
    let w = walked_of c.args.bytes.now in
    let so_far = c.loop-found.invariant in
    record {
      held = marked_all (bytes_of w) c.loop-found.marks.records c.loop-found.ahead.at c.loop-found.ahead.rest.now so_far.ahead (c.in_default.ensures.none so_far.ahead.1 so_far.ahead.3);
      parted = so_far.parts;
      few = omega (arith, so_far.few);
    }
