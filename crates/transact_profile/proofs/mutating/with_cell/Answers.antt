use Rattle.std.proofs.Common.{subst}
use Rattle.ovsdb_values.specs.declared.datums.Datum.{Datum}
use Rattle.transact_profile.specs.Refusing.{Reads}
use Rattle.transact_profile.specs.Mutations.{written}
use Rattle.transact_profile.proofs.mutating.with_cell.Goals as goal

pub returns-clause-value : goal.returns-clause-value
returns-clause-value c =
    let P : Datum → Type 0 = λ d. Reads c.written.result (written c.args.row.now c.args.cell.now.0 d) in
    subst P c.in_ok-datum.ensures c.written.ensures.value
