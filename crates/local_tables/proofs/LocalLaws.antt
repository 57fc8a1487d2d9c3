-- The Local rows of a change are those from before it, of what was learnt and bound then.
use Rattle.std.proofs.Common.{◌≡◌, ℕ, true, List, is_some, Option, Some, None, refl, sym, ap, ◌∙◌, true≢false}
use Rattle.std.specs.Prelude.{◌==◌}
use Rattle.std.proofs.lemmas.Bool.Decides.{nat_tests}
use Rattle.std.proofs.Common.{arith}
use Rattle.vtep_schema.specs.declared.Table.TheVariants.{UcastMacsLocal, McastMacsLocal}
use Rattle.vtep_rows.specs.Row.{Contents}
use Rattle.vtep_rows.specs.Rows.{Rows, row_at}
use Rattle.mac_learning.specs.declared.Learnt.{Learnt}
use Rattle.mac_learning.specs.Learning.{is_of, same_address}
use Rattle.vtep_rows.proofs.Entries.{both}
use Rattle.forward_program.specs.Built.{IsIn}
use Rattle.forward_program.specs.Follows.{learnt_address}
use Rattle.local_tables.specs.LocalRows.{address_key, flood_key, row_with, is_individual}
use Rattle.local_tables.specs.Following.{is_bound}
use Rattle.local_tables.specs.Local.{IsAddressRow, IsFloodRow, IsChanged}
use Rattle.local_tables.proofs.Members.{all_in}
use Rattle.local_tables.proofs.Keyed.{HasKey, IsKeyed, first_has, sound_keyed, keyed_part}

-- ---- numbers

pub number_itself : (n : ℕ) → (n == n) ≡ true
number_itself n = grind (arith, nat_tests)

pub number_same : (a b : ℕ) → (a == b) ≡ true → a ≡ b
number_same a b h = grind (arith, nat_tests, h)

-- ---- addresses of entries

pub same_is : (d e : Learnt) → d.switch ≡ e.switch → d.mac ≡ e.mac → same_address d e ≡ true
same_is d e s m = both _ _ (ap (λ n. n == e.switch) s ∙ number_itself e.switch) (ap (λ n. n == e.mac) m ∙ number_itself e.mac)

pub same_self : (e : Learnt) → same_address e e ≡ true
same_self e = same_is e e refl refl

-- entries of one address have the same answer
pub same_for : (d e : Learnt) → d.switch ≡ e.switch → d.mac ≡ e.mac → (f : Learnt) → same_address d f ≡ same_address e f
same_for d e s m f i = is_of (s i) (m i) f

-- ---- the rows

some_id : {P : Type 0} (o : Option ℕ) → is_some o ≡ true → ((i : ℕ) → o ≡ Some i → P) → P
some_id None h so = absurd (true≢false (sym h))
some_id (Some i) h so = so i refl

module _ (own : ℕ) (old r : Rows) (l : List Learnt) (is : IsChanged own old r l) where
  pub address_was : (i : ℕ) (row : Contents) → row_at r (UcastMacsLocal, i) ≡ Some row → IsAddressRow own old l row
  address_was i row there = is.local.address_rows i row (sym (is.addresses i) ∙ there)

  pub flood_was : (i : ℕ) (row : Contents) → row_at r (McastMacsLocal, i) ≡ Some row → IsFloodRow own old row
  flood_was i row there = is.local.flood_rows i row (sym (is.floods i) ∙ there)

  pub addresses_keyed : IsKeyed r UcastMacsLocal
  addresses_keyed = keyed_part old r UcastMacsLocal (λ i row there. sym (is.addresses i) ∙ there) (sound_keyed old UcastMacsLocal is.sound)

  pub floods_keyed : IsKeyed r McastMacsLocal
  floods_keyed = keyed_part old r McastMacsLocal (λ i row there. sym (is.floods i) ∙ there) (sound_keyed old McastMacsLocal is.sound)

  pub is_single : (e : Learnt) → IsIn e l → is_individual e.mac ≡ true
  is_single e h = all_in (λ e. is_individual e.mac) l e is.local.individual h

  -- a learnt address has a row
  pub address_has : (e : Learnt) → IsIn e l → (i : ℕ) × HasKey r UcastMacsLocal (address_key (learnt_address e)) i
  address_has e h =
      some_id (row_with UcastMacsLocal (address_key (learnt_address e)) old) (all_in (λ e. is_some (row_with UcastMacsLocal (address_key (learnt_address e)) old)) l e is.local.each_address h)
      (λ i found. let was = first_has old UcastMacsLocal (address_key (learnt_address e)) i found in (i, record { row = was.row; there = is.addresses i ∙ was.there; held = was.held }))

  -- and a switch that was bound
  pub flood_has : (s : ℕ) → is_bound old s ≡ true → (i : ℕ) × HasKey r McastMacsLocal (flood_key s) i
  flood_has s bound =
      some_id (row_with McastMacsLocal (flood_key s) old) (is.local.each_flood s bound)
      (λ i found. let was = first_has old McastMacsLocal (flood_key s) i found in (i, record { row = was.row; there = is.floods i ∙ was.there; held = was.held }))
