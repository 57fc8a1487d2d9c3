use Rattle.std.proofs.Common.{◌∙◌}
use Rattle.std.specs.Option.{option_and_then}
use Rattle.vtep_rows.specs.Row.{id_in}
use Rattle.forward_program.specs.Acls.{entry_at}
use Rattle.forward_program.proofs.AclEntries.{all_done, picked_twice}
use Rattle.forward_program.proofs.acls.named_entries.Goals as goal

pub returns-clause-items : goal.returns-clause-items
returns-clause-items c =
    all_done (λ a. option_and_then (entry_at c.args.rows.now) (id_in a)) c.atoms.entries.items c.args.atoms.now c.atoms.atom-index c.atoms-test.false c.atoms.invariant.items ∙ picked_twice (entry_at c.args.rows.now) id_in c.args.atoms.now
