use Rattle.vtep_schema.specs.declared.Table.TheVariants.{UcastMacsLocal}
use Rattle.forward_program.proofs.Puts.{ok_so}
use Rattle.local_tables.specs.Followed.{followed}
use Rattle.local_tables.specs.Following.{without_all, without_rows, address_keys}
use Rattle.local_tables.proofs.Versioned.{forgotten}
use Rattle.local_tables.proofs.Forgetting.{forgotten_is}
use Rattle.local_tables.proofs.learning.forget.Goals as goal

pub returns : goal.returns
returns c = record {
  rows = λ own before is listed.
      let r = c.args.database.now.current in
      let gone = c.args.gone.now in
      ok_so c.collect.result
      (λ e. forgotten c.args.database.now c.remove_addresses.new.database c.collect.new.self (without_rows UcastMacsLocal r (address_keys gone)) (followed own r r (without_all gone before)).rows c.in_ok-remove_addresses.ensures e
      (forgotten_is own r before is gone listed))
      c.collect.ensures;
}
