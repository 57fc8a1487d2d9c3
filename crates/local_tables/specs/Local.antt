-- When the Local tables are those of the learnt list and the bound switches, and what a change leaves of them.
use Rattle.std.specs.Prelude.{◌≡◌, ◌⊎◌, ℕ, true, List, Some, None, is_some}
use Rattle.std.specs.List.{list_all}
use Rattle.vtep_schema.specs.declared.Table.TheVariants.{UcastMacsLocal, McastMacsLocal, PhysicalLocatorSet, PhysicalLocator}
use Rattle.vtep_rows.specs.Row.{Contents}
use Rattle.vtep_rows.specs.Rows.{Rows, IsRows, row_at, collected}
use Rattle.vtep_rows.specs.Sound.{Sound}
use Rattle.mac_learning.specs.declared.Learnt.{Learnt}
use Rattle.mac_learning.specs.Learning.{IsOnce, found}
use Rattle.forward_program.specs.Built.{IsIn}
use Rattle.forward_program.specs.Follows.{learnt_address}
use Rattle.local_tables.specs.LocalRows.{address_key, row_with, is_individual, set_row, address_row, flood_row}
use Rattle.local_tables.specs.Followed.{is_bound_there, own_locator}
use Rattle.local_tables.specs.Following.{is_bound, has_flood}

-- the row of a learnt address, with the own locator
pub record IsAddressRow (own : ℕ) (r : Rows) (l : List Learnt) (row : Contents) : Type 0 where
  pub entry : Learnt
  pub learnt : IsIn entry l
  pub locator : ℕ
  pub at_own : own_locator own r ≡ Some locator
  pub row_is : row ≡ address_row (learnt_address entry) locator

-- the row of a bound switch, whose set has the own locator alone
pub record IsFloodRow (own : ℕ) (r : Rows) (row : Contents) : Type 0 where
  pub switch : ℕ
  pub bound : is_bound r switch ≡ true
  pub set : ℕ
  pub locator : ℕ
  pub at_own : own_locator own r ≡ Some locator
  pub set_is : row_at r (PhysicalLocatorSet, set) ≡ Some (set_row locator)
  pub row_is : row ≡ flood_row switch set

-- the Local tables have a row for each learnt address and one for each bound switch, and no other; what is learnt is bound
pub record IsLocal (own : ℕ) (r : Rows) (l : List Learnt) : Type 0 where
  pub once : IsOnce l
  pub individual : list_all (λ e. is_individual e.mac) l ≡ true
  pub bound : list_all (is_bound_there r) l ≡ true
  pub address_rows : (i : ℕ) (row : Contents) → row_at r (UcastMacsLocal, i) ≡ Some row → IsAddressRow own r l row
  pub each_address : list_all (λ e. is_some (row_with UcastMacsLocal (address_key (learnt_address e)) r)) l ≡ true
  pub flood_rows : (i : ℕ) (row : Contents) → row_at r (McastMacsLocal, i) ≡ Some row → IsFloodRow own r row
  pub each_flood : (s : ℕ) → is_bound r s ≡ true → has_flood r s ≡ true

-- rows that a commit follows from such ones: the change left the Local tables as they were
pub record IsChanged (own : ℕ) (old r : Rows) (l : List Learnt) : Type 0 where
  pub before : IsRows old
  pub sound : Sound old
  pub referenced : collected old ≡ old
  pub local : IsLocal own old l
  pub after : IsRows r
  pub addresses : (i : ℕ) → row_at r (UcastMacsLocal, i) ≡ row_at old (UcastMacsLocal, i)
  pub floods : (i : ℕ) → row_at r (McastMacsLocal, i) ≡ row_at old (McastMacsLocal, i)

-- an address that is not known yet is seen at a binding of its switch, and no row is changed
pub record IsLearning (own : ℕ) (r : Rows) (l : List Learnt) (new : Learnt) : Type 0 where
  pub unchanged : IsChanged own r r l
  pub unknown : found new.switch new.mac l ≡ None
  pub individual : is_individual new.mac ≡ true
  pub bound : is_bound_there r new ≡ true

-- the columns of locators and of their sets can't change: a row of before that is still there is what it was
pub record IsFixed (old r : Rows) : Type 0 where
  pub locators : (i : ℕ) (row : Contents) → row_at r (PhysicalLocator, i) ≡ Some row → (row_at old (PhysicalLocator, i) ≡ Some row) ⊎ (row_at old (PhysicalLocator, i) ≡ None)
  pub sets : (i : ℕ) (row : Contents) → row_at r (PhysicalLocatorSet, i) ≡ Some row → (row_at old (PhysicalLocatorSet, i) ≡ Some row) ⊎ (row_at old (PhysicalLocatorSet, i) ≡ None)
