use Rattle.std.proofs.Common.{List, ap, ◌∙◌}
use Rattle.std.specs.List.{filter_map, list_any}
use Rattle.ovsdb_values.specs.declared.atoms.Atom.{Atom}
use Rattle.vtep_schema.specs.declared.Table.TheVariants.{AclEntry}
use Rattle.vtep_rows.specs.Row.{id_in}
use Rattle.forward_program.specs.Follows.{has_row}
use Rattle.forward_program.proofs.AclEntries.{any_picked}
use Rattle.forward_program.proofs.follow.has_its_entry.Goals as goal

pub returns : goal.returns
returns c =
    c.has_some_entry.ensures ∙ any_picked (has_row c.args.change.now AclEntry) id_in c.atoms.result.now
    ∙ ap (λ (xs : List Atom). list_any (has_row c.args.change.now AclEntry) (filter_map id_in xs)) c.atoms.ensures
