-- Records that were appended since a journal was opened.
use Rattle.std.specs.Prelude.{◌≡◌, ℕ, ◌+◌, ◌*◌, ◌<◌, ◌≤◌, ◌^◌, List, [], ◌∷◌, length}
use Rattle.std.specs.List.{flat_map}
use Rattle.journal_core.specs.Holds.{frame}
use Rattle.record_pool.specs.Marks.{MarksView}
use Rattle.record_pool.specs.Pages.{PagesView}

-- the records, and for how many more bytes of frames there is room without memory
pub record AppendedView : Type 0 where
  pub records : List (List ℕ)
  pub room : ℕ

-- each has a length of four bytes
abbrev pub AreShort : List (List ℕ) → Type 0
AreShort [] = Unit {0}
AreShort (bytes ∷ records) = (length bytes < 2 ^ 32) × AreShort records

-- the pages have the records' frames, and there is the room that is promised
pub record IsAppended (pages : PagesView) (marks : MarksView) (room : ℕ) : Type 0 where
  pub frames : pages.bytes ≡ flat_map frame marks.records
  pub short : AreShort marks.records
  pub few : length pages.bytes + pages.room < 2 ^ 63
  pub in_pages : room ≤ pages.room
  pub in_marks : room ≤ 5 * marks.room
