-- Which keys the rows have that the gateway writes.
use Rattle.std.proofs.Common.{◌≡◌, ℕ, ◌<◌, ◌^◌, true, not, ◌&&◌, nat_lt, codes, refl, sym, ap, ◌∙◌, arith}
use Rattle.std.proofs.lemmas.Bool.Decides.{nat_tests}
use Rattle.std.specs.Cmp.{eq_by_cmp_equiv, first_so, second_so}
use Rattle.vtep_base.specs.Texts.{ipv4_text}
use Rattle.vtep_base.specs.Addresses.{mac_of, mac_text, is_group}
use Rattle.vtep_base.proofs.AddressLaws.{mac_printed_is_read}
use Rattle.ovsdb_values.specs.declared.atoms.Atom.{Atom}
use Rattle.ovsdb_values.specs.declared.atoms.Atom.TheVariants.{Text, Id}
use Rattle.ovsdb_values.specs.Atoms.{atom_total, same_atom}
use Rattle.ovsdb_values.specs.Exact.{same_atom_exact}
use Rattle.vtep_schema.specs.declared.Table.TheVariants.{UcastMacsLocal, McastMacsLocal, PhysicalLocator}
use Rattle.vtep_rows.specs.Row.{id_in, text_in}
use Rattle.vtep_rows.proofs.Entries.{both, same_some}
use Rattle.forward_program.specs.Follows.{Address}
use Rattle.local_tables.specs.LocalRows.{address_key, flood_key, locator_key, encapsulation, has_key, is_individual, locator_row, address_row, flood_row}

atom_itself : (a : Atom) → same_atom a a ≡ true
atom_itself a = (eq_by_cmp_equiv atom_total).refl a

same_id : (a b : ℕ) → same_atom (Id a) (Id b) ≡ true → a ≡ b
same_id a b h = same_some a b (ap id_in ((same_atom_exact (Id a) (Id b)).0 h))

pub small : (mac : ℕ) → is_individual mac ≡ true → mac < 2 ^ 48
small mac h = let lt : nat_lt mac (2 ^ 48) ≡ true = first_so (nat_lt mac (2 ^ 48)) (not (is_group mac)) h in grind (arith, nat_tests, lt)

same_mac : (a b : ℕ) → is_individual a ≡ true → is_individual b ≡ true → same_atom (Text (mac_text a)) (Text (mac_text b)) ≡ true → a ≡ b
same_mac a b p q h =
    let text : mac_text a ≡ mac_text b = same_some (mac_text a) (mac_text b) (ap text_in ((same_atom_exact (Text (mac_text a)) (Text (mac_text b))).0 h)) in
    same_some a b (sym (mac_printed_is_read a (small a p)) ∙ ap mac_of text ∙ mac_printed_is_read b (small b q))

-- ---- learnt addresses

address_keyed : (a b : Address) (locator : ℕ) → has_key UcastMacsLocal (address_key a) (address_row b locator) ≡ (same_atom (Id b.0) (Id a.0) && (same_atom (Text (mac_text b.1)) (Text (mac_text a.1)) && true))
address_keyed a b locator = refl

pub address_itself : (a : Address) (locator : ℕ) → has_key UcastMacsLocal (address_key a) (address_row a locator) ≡ true
address_itself a locator = address_keyed a a locator ∙ both _ _ (atom_itself (Id a.0)) (both _ _ (atom_itself (Text (mac_text a.1))) refl)

pub address_same : (a b : Address) (locator : ℕ) → is_individual a.1 ≡ true → is_individual b.1 ≡ true → has_key UcastMacsLocal (address_key a) (address_row b locator) ≡ true → (b.0 ≡ a.0) × (b.1 ≡ a.1)
address_same a b locator p q h =
    let held = sym (address_keyed a b locator) ∙ h in (
      same_id b.0 a.0 (first_so (same_atom (Id b.0) (Id a.0)) _ held),
      same_mac b.1 a.1 q p (first_so (same_atom (Text (mac_text b.1)) (Text (mac_text a.1))) true (second_so (same_atom (Id b.0) (Id a.0)) _ held)),
    )

-- ---- bound switches

flood_keyed : (s u set : ℕ) → has_key McastMacsLocal (flood_key s) (flood_row u set) ≡ (same_atom (Id u) (Id s) && (same_atom (Text (codes "unknown-dst")) (Text (codes "unknown-dst")) && true))
flood_keyed s u set = refl

pub flood_itself : (s set : ℕ) → has_key McastMacsLocal (flood_key s) (flood_row s set) ≡ true
flood_itself s set = flood_keyed s s set ∙ both _ _ (atom_itself (Id s)) (both _ _ (atom_itself (Text (codes "unknown-dst"))) refl)

pub flood_same : (s u set : ℕ) → has_key McastMacsLocal (flood_key s) (flood_row u set) ≡ true → u ≡ s
flood_same s u set h = same_id u s (first_so (same_atom (Id u) (Id s)) _ (sym (flood_keyed s u set) ∙ h))

-- ---- the own locator

locator_keyed : (ip : ℕ) → has_key PhysicalLocator (locator_key ip) (locator_row ip) ≡ (same_atom (Text encapsulation) (Text encapsulation) && (same_atom (Text (ipv4_text ip)) (Text (ipv4_text ip)) && true))
locator_keyed ip = refl

pub locator_itself : (ip : ℕ) → has_key PhysicalLocator (locator_key ip) (locator_row ip) ≡ true
locator_itself ip = locator_keyed ip ∙ both _ _ (atom_itself (Text encapsulation)) (both _ _ (atom_itself (Text (ipv4_text ip))) refl)
