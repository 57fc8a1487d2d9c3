use Rattle.ovsdb_values.specs.Exact.{same_datum_exact}
use Rattle.ovsdb_values.proofs.Members.{set_members, set_ordered, map_ordered, map_values}
use Rattle.ovsdb_values.proofs.sets_hold_their_atoms.Goals as goal

pub returns : goal.returns
returns c = record {
  in_order = set_ordered;
  members = set_members;
  keys_in_order = map_ordered;
  values = map_values;
  same = same_datum_exact;
}
