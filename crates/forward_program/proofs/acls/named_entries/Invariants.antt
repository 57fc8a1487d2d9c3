use Rattle.std.proofs.Common.{◌≡◌, ◌≤◌, ◌++◌, drop, vec_len}
use Rattle.std.specs.List.{filter_map}
use Rattle.std.specs.Option.{option_and_then}
use Rattle.vtep_rows.specs.Row.{id_in}
use Rattle.forward_program.specs.Acls.{entry_at}
use Rattle.forward_program.proofs.acls.named_entries.Given as goal

abbrev pub invariant-atoms : goal.invariant-atoms
invariant-atoms l = record {
  items : l.entries.items ++ filter_map (λ a. option_and_then (entry_at l.rows) (id_in a)) (drop l.atom-index l.atoms) ≡ filter_map (λ a. option_and_then (entry_at l.rows) (id_in a)) l.atoms;
  few : vec_len l.entries ≤ l.atom-index;
}
