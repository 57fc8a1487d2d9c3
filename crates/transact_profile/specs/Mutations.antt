-- What mutations and updates make of a row.
use Rattle.std.specs.Prelude.{◌^◌, ◌==◌, ℤ, pos, negsuc, ◌+ℤ◌, ◌-ℤ◌, ◌*ℤ◌, int_div, int_rem, nat_lt, Bool, true, false, ◌&&◌, if◌then◌else◌, List, [], ◌∷◌, Ok, Err}
use Rattle.vtep_base.specs.declared.words.Word.TheVariants as word
use Rattle.ovsdb_values.specs.declared.atoms.Atom.{Atom}
use Rattle.ovsdb_values.specs.declared.atoms.Atom.TheVariants.{Integer}
use Rattle.ovsdb_values.specs.declared.datums.Datum.{Datum}
use Rattle.ovsdb_values.specs.declared.datums.Datum.TheVariants as datum
use Rattle.ovsdb_values.specs.Sets.{set_of, with_all, without_all}
use Rattle.vtep_schema.specs.declared.Column.{Column}
use Rattle.vtep_rows.specs.Row.{Contents, changed_row}
use Rattle.transact_profile.specs.declared.operations.Mutator.{Mutator}
use Rattle.transact_profile.specs.declared.operations.Mutator.TheVariants as mutator
use Rattle.transact_profile.specs.declared.operations.Mutation.{Mutation}
use Rattle.transact_profile.specs.Refusing.{Reading, ◌>>?◌, given, each}
use Rattle.transact_profile.specs.Conditions.{value_of, number_in}

-- division cuts towards zero, and the remainder has the sign of the dividend
abbrev pub arithmetic : Mutator → ℤ → ℤ → ℤ
arithmetic mutator.Add a b = a +ℤ b
arithmetic mutator.Subtract a b = a -ℤ b
arithmetic mutator.Multiply a b = a *ℤ b
arithmetic mutator.Divide a b = int_div a b
arithmetic mutator.Remainder a b = int_rem a b
arithmetic _ a b = a

abbrev pub divides : Mutator → Bool
divides mutator.Divide = true
divides mutator.Remainder = true
divides _ = false

abbrev pub is_zero : ℤ → Bool
is_zero (pos n) = n == 0
is_zero (negsuc n) = false

-- it is a number of 64 bits
abbrev pub fits_64 : ℤ → Bool
fits_64 (pos n) = nat_lt n (2 ^ 63)
fits_64 (negsuc n) = nat_lt n (2 ^ 63)

unfoldable pub mutated_number : Mutator → ℤ → ℤ → Reading ℤ
mutated_number m b a =
    if divides m && is_zero b then Err word.DomainError
    else if fits_64 (arithmetic m a b) then Ok (arithmetic m a b) else Err word.RangeError

unfoldable pub mutated_atom : Mutator → ℤ → Atom → Reading Atom
mutated_atom m b (Integer a) = mutated_number m b a >>? λ z. Ok (Integer z)
mutated_atom m b a = Ok a

-- arithmetic works on each number of a set
abbrev pub computed : Mutator → ℤ → Datum → Reading Datum
computed m b (datum.Set xs) = each (mutated_atom m b) xs >>? λ ys. Ok (datum.Set (set_of ys))
computed m b (datum.Map ps) = Ok (datum.Map ps)

abbrev pub is_insert : Mutator → Bool
is_insert mutator.Insert = true
is_insert _ = false

abbrev pub is_delete : Mutator → Bool
is_delete mutator.Delete = true
is_delete _ = false

-- a key that is there keeps its value
abbrev pub mutated_value : Mutator → Datum → Datum → Reading Datum
mutated_value m old by =
    if is_insert m then Ok (with_all old by)
    else if is_delete m then Ok (without_all old by)
    else computed m (number_in by) old

-- a value that the column does not allow is refused
unfoldable pub written : Contents → Column → Datum → Reading Contents
written row c d = given word.ConstraintViolation (changed_row row c d)

abbrev pub mutated_once : Contents → Mutation → Reading Contents
mutated_once row m =
    given word.ConstraintViolation (value_of row m.column) >>? λ old.
    mutated_value m.mutator old m.value >>? written row m.column

-- one mutation after the other
abbrev pub mutated : Contents → List Mutation → Reading Contents
mutated row [] = Ok row
mutated row (m ∷ ms) = mutated_once row m >>? λ next. mutated next ms

-- each value put in its column
abbrev pub updated : Contents → List (Column × Datum) → Reading Contents
updated row [] = Ok row
updated row (v ∷ vs) = written row v.0 v.1 >>? λ next. updated next vs
