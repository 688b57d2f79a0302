-- Cursors that go past rows one by one.
use Rattle.std.proofs.Common.{◌≡◌, ◌≢◌, ℕ, ◌+◌, ◌*◌, ◌<◌, ◌≤◌, List, length, get_or, ap, arith, ⊎_elim}
use Rattle.std.proofs.lemmas.Bool.{cases_eq}
use Rattle.std.proofs.lemmas.List.{get_or_default}
use Rattle.network_laws.specs.declared.rows.Row.{Row}
use Rattle.network_laws.specs.Networks.{place, IsCursor, IsRising}
use Rattle.acceptance.specs.Planning.{AreBefore}

-- one row more stands before a place
pub one_before : (rows : List Row) (m w : ℕ) (d : Row) → m < length rows → place (get_or rows m d) < w → AreBefore rows m w → AreBefore rows (m + 1) w
one_before rows m w d within here are = record {
  end = omega (arith, within);
  before = λ k e l.
      ⊎_elim (λ (q : k ≡ m). omega (arith, here, ap (λ j. place (get_or rows j e)) q, ap place (get_or_default rows m d e within)))
      (λ (ne : k ≢ m). are.before k e (omega (arith, l, ne)))
      (cases_eq k m);
}

-- the first row that does not stand before it is where its cursor is
pub first_behind : (rows : List Row) (m w : ℕ) (d : Row) → m < length rows → IsRising rows → w ≤ place (get_or rows m d) → AreBefore rows m w → IsCursor rows m w
first_behind rows m w d within rising here are = record {
  before = are.before;
  behind = λ k e le l.
      ⊎_elim (λ (q : k ≡ m). omega (arith, here, ap (λ j. place (get_or rows j e)) q, ap place (get_or_default rows m d e within)))
      (λ (ne : k ≢ m). omega (arith, here, ap place (get_or_default rows m d e within), rising m k e (omega (arith, le, ne)) l))
      (cases_eq k m);
}

-- what stands before a buyer's place stands before the next seller's
pub before_next : (rows : List Row) (m i j : ℕ) → m ≤ length rows → j ≤ 65536 → IsCursor rows m (i * 65536 + j) → AreBefore rows m (i * 65536 + 65536)
before_next rows m i j end le cursor = record {
  end = end;
  before = λ k e l. omega (arith, le, cursor.before k e l);
}
