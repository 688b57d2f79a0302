use Rattle.std.proofs.Common.{◌≡◌, length, take}
use Rattle.tolerance_sets.proofs.NoSetting.{Marks}
use Rattle.tolerance_sets.proofs.product_settings.marks_of.Given as goal

abbrev pub invariant-loop-place : goal.invariant-loop-place
invariant-loop-place l = record {
  long : length l.marks ≡ 256;
  marks : Marks l.product (take l.place l.rows.entries) l.marks;
}
