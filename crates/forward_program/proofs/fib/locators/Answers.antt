use Rattle.forward_program.proofs.Bounds.{few_locators}
use Rattle.forward_program.proofs.fib.locators.Goals as goal

pub few_ids-requires : goal.few_ids-requires
few_ids-requires c = few_locators c.args.row.now _ c.table.ensures.row c.atoms.ensures
