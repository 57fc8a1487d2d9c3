-- Counts of marks under one key more or less.
use Rattle.std.proofs.Common.{◌≡◌, ℕ, ◌+◌, ◌-◌, Some, ◌∙◌}
use Rattle.vtep_base.specs.Maps.{Map}
use Rattle.vtep_rows.specs.declared.stamps.Stamp.{Stamp}
use Rattle.vtep_rows.specs.Rows.{Key}
use Rattle.vtep_rows.specs.Tallies.{count_at, raised, lowered}
use Rattle.vtep_rows.specs.Marks.{Mark, mark_cmp, mark_by, same_mark, times}
use Rattle.vtep_rows.specs.MarkOrders.{mark_total, mark_exact}
use Rattle.vtep_rows.proofs.TallyLaws.{count-raised, count-lowered, up, down}

pub mark_raised : (m : Map mark_cmp ℕ) (q : Mark) (k : Key) (place : ℕ) (s : Stamp) → count_at (raised m (mark_by k place s)) q ≡ count_at m q + times q k place (Some s)
mark_raised m q k place s = count-raised mark_total mark_exact m (mark_by k place s) q ∙ up (same_mark q (mark_by k place s)) (count_at m q)

pub mark_lowered : (m : Map mark_cmp ℕ) (q : Mark) (k : Key) (place : ℕ) (s : Stamp) → count_at (lowered m (mark_by k place s)) q ≡ count_at m q - times q k place (Some s)
mark_lowered m q k place s = count-lowered mark_total mark_exact m (mark_by k place s) q ∙ down (same_mark q (mark_by k place s)) (count_at m q)
