-- Rows that are changed are those of equal lists.
use Rattle.std.proofs.Common.{◌≡◌, ℕ, List, Result, subst}
use Rattle.vtep_schema.specs.declared.Table.{Table}
use Rattle.vtep_rows.specs.Row.{Contents}
use Rattle.vtep_rows.specs.Rows.{Rows as AllRows}
use Rattle.transact_profile.specs.declared.faults.Fault.{Fault}
use Rattle.transact_profile.specs.declared.outcomes.OpResult.{OpResult}
use Rattle.transact_profile.specs.Refusing.{Reading, ReadsAs}
use Rattle.transact_profile.specs.Meaning.{Reply, change}

pub along : (seen : OpResult → Reply × AllRows) (r : Result OpResult Fault) (t : Table) (f : Contents → Reading Contents) (ids other : List ℕ) (rows : AllRows)
    → ids ≡ other → ReadsAs seen r (change t f ids rows) → ReadsAs seen r (change t f other rows)
along seen r t f ids other rows e h =
    let P : List ℕ → Type 0 = λ i. ReadsAs seen r (change t f i rows) in
    subst P e h
