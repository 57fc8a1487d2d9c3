-- The operations of a transaction, up to the first that can't be read.
use Rattle.std.specs.Prelude.{ℕ, ◌+◌, List, [], ◌∷◌, ◌++◌, length, drop, Option, Some, None, unwrap_or}
use Rattle.vtep_base.specs.Maps as maps
use Rattle.serde_json.specs.Data.{Data}
use Rattle.transact_profile.specs.declared.known.Known.{Known}
use Rattle.transact_profile.specs.declared.known.Known.TheVariants.{AnyName, OneOf}
use Rattle.transact_profile.specs.declared.operations.Op.{Op}
use Rattle.transact_profile.specs.declared.operations.Op.TheVariants as op
use Rattle.transact_profile.specs.declared.operations.OpFault.{OpFault}
use Rattle.transact_profile.specs.declared.operations.Ops.{Ops}
use Rattle.transact_profile.specs.declared.transaction.Insertions.{Insertions}
use Rattle.transact_profile.specs.Names.{with_name}
use Rattle.transact_profile.specs.Refusing.{by_reading}
use Rattle.transact_profile.specs.Members.{items_in}
use Rattle.transact_profile.specs.Operations.{Earlier, op_read}

-- ---- the known insertions: those before the first operation that can't be read where each name is known

abbrev pub no_insertion : Insertions
no_insertion = record { names = []; taken = maps.empty }

abbrev pub with_insertion : Insertions → Op → Insertions
with_insertion i (op.Insert t row name) = record { names = i.names ++ name ∷ []; taken = with_name i.taken name }
with_insertion i _ = i

abbrev pub known_from : Insertions → List Data → Insertions
known_from i [] = i
known_from i (d ∷ ds) = by_reading (op_read AnyName i.taken d) (λ w. i) (λ o. known_from (with_insertion i o) ds)

abbrev pub known_insertions : List Data → Insertions
known_insertions ds = known_from no_insertion ds

-- ---- the operations that are read with those names, and the first fault

-- with the name of an insertion
abbrev pub with_name_of : Earlier → Op → Earlier
with_name_of earlier (op.Insert t row name) = with_name earlier name
with_name_of earlier _ = earlier

pub record ReadSoFar : Type 0 where
  pub ops : List Op
  pub fault : Option OpFault

abbrev pub read_from : Known → Earlier → List Op → ℕ → List Data → ReadSoFar
read_from known earlier done i [] = record { ops = done; fault = None }
read_from known earlier done i (d ∷ ds) =
    by_reading (op_read known earlier d) (λ w. record { ops = done; fault = Some (record { index = i; word = w }) })
    (λ o. read_from known (with_name_of earlier o) (done ++ o ∷ []) (i + 1) ds)

abbrev pub read_with : Insertions → List Data → Ops
read_with known ds =
    let read : ReadSoFar = read_from (OneOf known.taken) maps.empty [] 0 ds in
    record { ops = read.ops; names = known.names; fault = read.fault; count = length ds }

-- all but the first of the list
abbrev pub operations : Data → List Data
operations params = drop 1 (unwrap_or (items_in params) [])

abbrev pub ops_in : Data → Ops
ops_in params = read_with (known_insertions (operations params)) (operations params)
