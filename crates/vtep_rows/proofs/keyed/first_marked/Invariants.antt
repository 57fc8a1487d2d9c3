use Rattle.std.proofs.Common.{◌≡◌, map}
use Rattle.std.specs.List.{filter}
use Rattle.vtep_base.specs.Maps as maps
use Rattle.vtep_rows.specs.Row.{first}
use Rattle.vtep_rows.specs.Marks.{is_at_place}
use Rattle.vtep_rows.specs.Keyed.{holds_there}
use Rattle.vtep_rows.proofs.keyed.first_marked.Given as goal

abbrev pub invariant-marks : goal.invariant-marks
invariant-marks l =
    first (map (λ e. e.0.4) (filter (λ e. holds_there l.fn.table l.key (maps.get l.store (l.fn.table, e.0.4))) l.mark-iterator))
    ≡ first (map (λ e. e.0.4) (filter (λ e. holds_there l.fn.table l.key (maps.get l.store (l.fn.table, e.0.4)))
    (filter (λ e. is_at_place (l.fn.table, 0, l.fn.stamp.number, l.fn.stamp.id) e.0) l.fn.marks.list)))
