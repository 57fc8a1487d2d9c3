use Rattle.std.proofs.Common.{◌≡◌, ◌++◌, map, drop}
use Rattle.std.specs.Prelude.{pos}
use Rattle.vtep_base.specs.Maps as maps
use Rattle.ovsdb_values.specs.declared.atoms.Atom.TheVariants.{Integer}
use Rattle.fabric_world.specs.Intentions.{bytes_cmp}
use Rattle.fabric_world.specs.Installer.{row_in}
use Rattle.vtep_fabric.proofs.operations.bound_rows.Given as goal

abbrev pub invariant-bindings : goal.invariant-bindings
invariant-bindings l =
    l.pairs ++ map (λ b. (Integer (pos b.0), row_in (maps.map_by bytes_cmp l.rows) b.1)) (drop l.vlan-index l.bindings)
    ≡ map (λ b. (Integer (pos b.0), row_in (maps.map_by bytes_cmp l.rows) b.1)) l.bindings
