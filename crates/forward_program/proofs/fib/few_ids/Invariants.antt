use Rattle.std.proofs.Common.{◌≡◌, ◌≤◌, ◌++◌, drop, vec_len}
use Rattle.std.specs.List.{filter_map}
use Rattle.vtep_rows.specs.Row.{id_in}
use Rattle.forward_program.proofs.fib.few_ids.Given as goal

abbrev pub invariant-atoms : goal.invariant-atoms
invariant-atoms l = record {
  ids : l.ids.items ++ filter_map id_in (drop l.atom-index l.atoms) ≡ filter_map id_in l.atoms;
  few : vec_len l.ids ≤ l.atom-index;
}
