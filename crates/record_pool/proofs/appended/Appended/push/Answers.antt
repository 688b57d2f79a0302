use Rattle.std.proofs.Common.{◌≡◌, ℕ, ◌+◌, List, [], ◌∷◌, ◌++◌, length, subst, sym, ◌∙◌, ap, arith, length-append}
use Rattle.std.specs.List.{flat_map}
use Rattle.journal_core.specs.Holds.{frame}
use Rattle.record_pool.specs.Appended.{AreShort}
use Rattle.record_pool.proofs.PlaceFacts.{frames_least, framed_more, short_more}
use Rattle.record_pool.proofs.appended.Appended.push.Goals as goal

pub push-requires-clause-few : goal.push-requires-clause-few
push-requires-clause-few c = omega (arith, frames_least c.self.inside.marks.records, ap length c.self.invariant.frames, c.self.invariant.few)

pub invariant_of-self : goal.invariant_of-self
invariant_of-self c =
    let records = c.self.inside.marks.records in
    let before = c.self.inside.pages.bytes in
    let bytes = c.args.record_bytes.now in
    let size = c.to_le_bytes.result in
    let four : length size ≡ 4 = ap length c.to_le_bytes.ensures in
    let behind : c.put-3.new.self.bytes ≡ ((before ++ 1 ∷ []) ++ size) ++ bytes =
    c.put-3.ensures.bytes ∙ ap (λ (l : List ℕ). l ++ bytes) (c.put-2.ensures.bytes ∙ ap (λ (l : List ℕ). l ++ size) c.put.ensures.bytes) in
    let long : length c.put-3.new.self.bytes ≡ length before + (5 + length bytes) =
    omega (arith, ap length behind, length-append ((before ++ 1 ∷ []) ++ size) bytes, length-append (before ++ 1 ∷ []) size, length-append before (1 ∷ []), four) in
    record {
      frames = behind ∙ ap (λ (l : List ℕ). ((before ++ 1 ∷ []) ++ l) ++ bytes) c.to_le_bytes.ensures ∙ framed_more records bytes before c.self.invariant.frames
          ∙ ap (λ (l : List (List ℕ)). flat_map frame l) (sym c.push.ensures.records);
      short = subst AreShort (sym c.push.ensures.records) (short_more records bytes c.self.invariant.short c.requires.small);
      few = omega (arith, c.self.invariant.few, c.put.ensures.room, c.put-2.ensures.room, c.put-3.ensures.room, long, four);
      in_pages = omega (arith, c.self.invariant.in_pages, c.put.ensures.room, c.put-2.ensures.room, c.put-3.ensures.room, four);
      in_marks = omega (arith, c.self.invariant.in_marks, c.push.ensures.room);
    }
