-- What changes leave of a disk, and what a disk in memory keeps of them.
use Rattle.std.proofs.Common.{◌≡◌, ℕ, zero, suc, ◌+◌, ◌≤◌, List, [], ◌∷◌, ◌++◌, length, take, drop, refl, sym, ◌∙◌, ap, arith, length-append}
use Rattle.std.proofs.lemmas.List.{length-take, length-drop, take-append-le}
use Rattle.std.proofs.Math.Seq.{take-length}
use Rattle.outside.specs.Disk.{Change, Alters, LeftOf, History, overwritten, after_write, after_cut, after_sync, settled_history}
use Rattle.outside.specs.MemoryDisk.{replayed, written_by, IsKept}
use Rattle.outside.specs.declared.memory_disk.Step.{Step}

-- a change may leave all as it was
alters_same : (change : Change) (bytes : List ℕ) → Alters change bytes bytes
alters_same (Change.Write place count) bytes = record { before = refl; behind = refl; no_shorter = omega arith; no_longer = omega arith }
alters_same (Change.Cut size) bytes = record { front = sym (take-length bytes); no_shorter = omega arith }

-- and so may several
pub left_same : (bytes : List ℕ) (changes : List Change) → LeftOf bytes changes bytes
left_same bytes [] = refl
left_same bytes (change ∷ earlier) = (bytes, left_same bytes earlier, alters_same change bytes)

drop_front : (n : ℕ) (xs ys : List ℕ) → n ≤ length xs → drop n (xs ++ ys) ≡ drop n xs ++ ys
drop_front zero xs ys le = refl
drop_front (suc n) [] ys le = absurd (omega (arith, le))
drop_front (suc n) (x ∷ xs) ys le = drop_front n xs ys (omega (arith, le))

-- one step more
pub replayed_write : (steps : List Step) (written : List ℕ) (h : History) (place : ℕ) (bytes : List ℕ) → written_by steps ≡ length written
    → replayed (steps ++ Step.Write place (length bytes) ∷ []) (written ++ bytes) h ≡ after_write place bytes (replayed steps written h)
replayed_write [] [] h place bytes same = ap (λ (l : List ℕ). after_write place l h) (take-length bytes)
replayed_write [] (w ∷ ws) h place bytes same = absurd (omega (arith, same))
replayed_write (Step.Write at count ∷ steps) written h place bytes same =
    let fits : count ≤ length written = omega (arith, same) in
    let rest : written_by steps ≡ length (drop count written) = omega (arith, same, length-drop count written) in
    let first = λ (l m : List ℕ). replayed (steps ++ Step.Write place (length bytes) ∷ []) m (after_write at l h) in
    ap (λ (l : List ℕ). first l (drop count (written ++ bytes))) (take-append-le count written bytes fits)
    ∙ ap (first (take count written)) (drop_front count written bytes fits)
    ∙ replayed_write steps (drop count written) (after_write at (take count written) h) place bytes rest
replayed_write (Step.Cut size ∷ steps) written h place bytes same = replayed_write steps written (after_cut size h) place bytes same
replayed_write (Step.Sync ∷ steps) written h place bytes same = replayed_write steps written (after_sync h) place bytes same

pub replayed_cut : (steps : List Step) (written : List ℕ) (h : History) (size : ℕ) → replayed (steps ++ Step.Cut size ∷ []) written h ≡ after_cut size (replayed steps written h)
replayed_cut [] written h size = refl
replayed_cut (Step.Write place count ∷ steps) written h size = replayed_cut steps (drop count written) (after_write place (take count written) h) size
replayed_cut (Step.Cut n ∷ steps) written h size = replayed_cut steps written (after_cut n h) size
replayed_cut (Step.Sync ∷ steps) written h size = replayed_cut steps written (after_sync h) size

pub replayed_sync : (steps : List Step) (written : List ℕ) (h : History) → replayed (steps ++ Step.Sync ∷ []) written h ≡ after_sync (replayed steps written h)
replayed_sync [] written h = refl
replayed_sync (Step.Write place count ∷ steps) written h = replayed_sync steps (drop count written) (after_write place (take count written) h)
replayed_sync (Step.Cut n ∷ steps) written h = replayed_sync steps written (after_cut n h)
replayed_sync (Step.Sync ∷ steps) written h = replayed_sync steps written (after_sync h)

written_by-append : (steps more : List Step) → written_by (steps ++ more) ≡ written_by steps + written_by more
written_by-append [] more = omega arith
written_by-append (Step.Write place count ∷ steps) more = omega (arith, written_by-append steps more)
written_by-append (Step.Cut size ∷ steps) more = written_by-append steps more
written_by-append (Step.Sync ∷ steps) more = written_by-append steps more

length-overwritten : (place : ℕ) (bytes old : List ℕ) → length (take place old ++ bytes ++ drop (place + length bytes) old) ≤ length old + length bytes
length-overwritten place bytes old =
    omega (arith, length-append (take place old ++ bytes) (drop (place + length bytes) old), length-append (take place old) bytes, length-take place old, length-drop (place + length bytes) old)

pub kept_write : (first : List ℕ) (steps : List Step) (written synced content : List ℕ) (place : ℕ) (bytes : List ℕ) → IsKept first steps written synced content
    → IsKept first (steps ++ Step.Write place (length bytes) ∷ []) (written ++ bytes) synced (overwritten place bytes content)
kept_write first steps written synced content place bytes kept =
    let step = replayed_write steps written (settled_history first) place bytes kept.written in
    let grows : length (overwritten place bytes content) ≤ length content + length bytes = length-overwritten place bytes content in record {
      content = ap (overwritten place bytes) kept.content ∙ sym (ap (λ (h : History). h.content) step);
      synced = kept.synced ∙ sym (ap (λ (h : History). h.now.synced) step);
      written = omega (arith, kept.written, written_by-append steps (Step.Write place (length bytes) ∷ []), length-append written bytes);
      content_size = omega (arith, kept.content_size, grows, length-append written bytes);
      synced_size = omega (arith, kept.synced_size, length-append written bytes);
    }

pub kept_cut : (first : List ℕ) (steps : List Step) (written synced content : List ℕ) (size : ℕ) → IsKept first steps written synced content
    → IsKept first (steps ++ Step.Cut size ∷ []) written synced (take size content)
kept_cut first steps written synced content size kept =
    let step = replayed_cut steps written (settled_history first) size in record {
      content = ap (λ (l : List ℕ). take size l) kept.content ∙ sym (ap (λ (h : History). h.content) step);
      synced = kept.synced ∙ sym (ap (λ (h : History). h.now.synced) step);
      written = omega (arith, kept.written, written_by-append steps (Step.Cut size ∷ []));
      content_size = omega (arith, kept.content_size, length-take size content);
      synced_size = kept.synced_size;
    }

pub kept_sync : (first : List ℕ) (steps : List Step) (written synced content : List ℕ) → IsKept first steps written synced content
    → IsKept first (steps ++ Step.Sync ∷ []) written content content
kept_sync first steps written synced content kept =
    let step = replayed_sync steps written (settled_history first) in record {
      content = kept.content ∙ sym (ap (λ (h : History). h.content) step);
      synced = kept.content ∙ sym (ap (λ (h : History). h.now.synced) step);
      written = omega (arith, kept.written, written_by-append steps (Step.Sync ∷ []));
      content_size = kept.content_size;
      synced_size = kept.content_size;
    }
