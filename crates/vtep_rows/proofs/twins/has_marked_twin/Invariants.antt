use Rattle.std.proofs.Common.{◌≡◌}
use Rattle.std.specs.Prelude.{◌==◌, ◌&&◌, not}
use Rattle.std.specs.List.{list_any, filter}
use Rattle.vtep_base.specs.Maps as maps
use Rattle.vtep_rows.specs.Marks.{is_at_place, agree_there}
use Rattle.vtep_rows.proofs.twins.has_marked_twin.Given as goal

abbrev pub invariant-marks : goal.invariant-marks
invariant-marks l =
    list_any (λ e. not (e.0.4 == l.fn.id) && agree_there l.fn.table l.fn.place l.row (maps.get l.store (l.fn.table, e.0.4))) l.mark-iterator
    ≡ list_any (λ e. not (e.0.4 == l.fn.id) && agree_there l.fn.table l.fn.place l.row (maps.get l.store (l.fn.table, e.0.4)))
    (filter (λ e. is_at_place (l.fn.table, l.fn.place, l.fn.stamp.number, l.fn.stamp.id) e.0) l.fn.marks.list)
