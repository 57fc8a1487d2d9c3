-- What gives the entry at a place: a row, a binding, or a learnt address.
use Rattle.std.proofs.Common.{◌≡◌, ◌⊎◌, inl, inr, ℕ, false, List, Option, Some, None, refl, sym, ap, ◌∙◌}
use Rattle.std.specs.Option.{option_map}
use Rattle.vtep_base.specs.Maps as maps
use Rattle.vtep_schema.specs.declared.Table.TheVariants.{Acl}
use Rattle.vtep_rows.specs.Row.{Contents}
use Rattle.vtep_rows.specs.Rows.{Rows, IsRows, row_at}
use Rattle.vtep_rows.specs.Sound.{Sound}
use Rattle.vtep_rows.proofs.Entries.{same_some}
use Rattle.mac_learning.specs.declared.Learnt.{Learnt}
use Rattle.mac_learning.specs.Learning.{IsOnce, found}
use Rattle.forward_program.specs.declared.spots.Spot.{Spot}
use Rattle.forward_program.specs.declared.spots.Spot.TheVariants as spot
use Rattle.forward_program.specs.declared.spots.Part.{Part}
use Rattle.forward_program.specs.declared.spots.Part.TheVariants as part
use Rattle.forward_program.specs.declared.held.Held.{Held}
use Rattle.forward_program.specs.declared.held.Held.TheVariants as held
use Rattle.forward_program.specs.Acls.{entries_at}
use Rattle.forward_program.specs.Built.{IsIn}
use Rattle.forward_program.specs.Hosts.{port_of, learnt_port, host, there_in}
use Rattle.forward_program.specs.Shown.{rows_shown, with_acls, shown}
use Rattle.forward_program.proofs.Given.{Given, GivenPart}
use Rattle.forward_program.proofs.Unique.{given_at, at_given}
use Rattle.forward_program.proofs.AclPlaces.{is_acl, not_acl, acl_there, at_acl}
use Rattle.forward_program.proofs.HostLaws.{is_host, merged, with_plain, with_host, found_entry, found_address, entry_found}

-- an address is learnt, or is not and has a remote row
abbrev pub KnownHost : Rows → List Learnt → ℕ → ℕ → Held → Type 0
KnownHost r l s a h =
    ((e : Learnt) × IsIn e l × (e.switch ≡ s) × (e.mac ≡ a) × (h ≡ held.Host (Some (port_of e)) (there_in (maps.get (rows_shown r) (host s a)))))
    ⊎ ((found s a l ≡ None) × GivenPart r s (part.Host a) h)

abbrev pub KnownPart : Rows → List Learnt → ℕ → Part → Held → Type 0
KnownPart r l s (part.Host a) h = KnownHost r l s a h
KnownPart r l s part.Itself h = GivenPart r s part.Itself h
KnownPart r l s (part.Member p v) h = GivenPart r s (part.Member p v) h
KnownPart r l s (part.Group g) h = GivenPart r s (part.Group g) h

abbrev pub Known : Rows → List Learnt → Spot → Held → Type 0
Known r l (spot.Switch s p) h = KnownPart r l s p h
Known r l (spot.Port p v) h = Given r (spot.Port p v) h
Known r l (spot.Vni n) h = Given r (spot.Vni n) h
Known r l (spot.Set i) h = Given r (spot.Set i) h
Known r l (spot.Locator i) h = Given r (spot.Locator i) h
Known r l (spot.Acl i) h = (row : Contents) × (row_at r (Acl, i) ≡ Some row) × (h ≡ held.Rules (entries_at r row))

module _ (r : Rows) (l : List Learnt) (rows : IsRows r) (sound : Sound r) (once : IsOnce l) where
  stands : (k : Spot) → is_host k ≡ false → is_acl k ≡ false → maps.get (shown r l) k ≡ maps.get (rows_shown r) k
  stands k out other = with_plain l once (with_acls r (rows_shown r)) k out ∙ not_acl r (rows_shown r) k other

  host_stands : (s a : ℕ) → maps.get (shown r l) (host s a) ≡ merged (learnt_port l s a) (maps.get (rows_shown r) (host s a))
  host_stands s a = with_host l once (with_acls r (rows_shown r)) s a ∙ ap (merged (learnt_port l s a)) (not_acl r (rows_shown r) (host s a) refl)

  learnt_stands : (e : Learnt) (s a : ℕ) → IsIn e l → e.switch ≡ s → e.mac ≡ a → maps.get (shown r l) (host s a) ≡ Some (held.Host (Some (port_of e)) (there_in (maps.get (rows_shown r) (host s a))))
  learnt_stands e s a is at_switch at_mac =
      host_stands s a
      ∙ ap (λ o. merged (option_map port_of o) (maps.get (rows_shown r) (host s a))) ((λ i. found (sym at_switch i) (sym at_mac i) l) ∙ entry_found l once e is)

  rows_stand : (s a : ℕ) → found s a l ≡ None → maps.get (shown r l) (host s a) ≡ maps.get (rows_shown r) (host s a)
  rows_stand s a none = host_stands s a ∙ ap (λ o. merged (option_map port_of o) (maps.get (rows_shown r) (host s a))) none

  by_rows : (k : Spot) (h : Held) → maps.get (shown r l) k ≡ maps.get (rows_shown r) k → Given r k h → maps.get (shown r l) k ≡ Some h
  by_rows k h same x = same ∙ given_at r rows sound k h x

  -- what is known stands at its place
  pub known_at : (k : Spot) (h : Held) → Known r l k h → maps.get (shown r l) k ≡ Some h
  known_at (spot.Port p v) h x = by_rows (spot.Port p v) h (stands (spot.Port p v) refl refl) x
  known_at (spot.Switch s part.Itself) h x = by_rows (spot.Switch s part.Itself) h (stands (spot.Switch s part.Itself) refl refl) x
  known_at (spot.Switch s (part.Member p v)) h x = by_rows (spot.Switch s (part.Member p v)) h (stands (spot.Switch s (part.Member p v)) refl refl) x
  known_at (spot.Switch s (part.Group g)) h x = by_rows (spot.Switch s (part.Group g)) h (stands (spot.Switch s (part.Group g)) refl refl) x
  known_at (spot.Switch s (part.Host a)) h (inl (e, is, at_switch, at_mac, value)) = learnt_stands e s a is at_switch at_mac ∙ ap Some (sym value)
  known_at (spot.Switch s (part.Host a)) h (inr (none, x)) = by_rows (spot.Switch s (part.Host a)) h (rows_stand s a none) x
  known_at (spot.Vni n) h x = by_rows (spot.Vni n) h (stands (spot.Vni n) refl refl) x
  known_at (spot.Set i) h x = by_rows (spot.Set i) h (stands (spot.Set i) refl refl) x
  known_at (spot.Locator i) h x = by_rows (spot.Locator i) h (stands (spot.Locator i) refl refl) x
  known_at (spot.Acl i) h (row, at, value) = with_plain l once (with_acls r (rows_shown r)) (spot.Acl i) refl ∙ acl_there r (rows_shown r) i row at ∙ ap Some (sym value)

  from_rows : (k : Spot) (h : Held) → maps.get (shown r l) k ≡ maps.get (rows_shown r) k → maps.get (shown r l) k ≡ Some h → Given r k h
  from_rows k h same is = at_given r rows sound k h (sym same ∙ is)

  host_known : (s a : ℕ) (h : Held) (o : Option Learnt) → found s a l ≡ o → maps.get (shown r l) (host s a) ≡ Some h → KnownHost r l s a h
  host_known s a h None none is = inr (none, from_rows (host s a) h (rows_stand s a none) is)
  host_known s a h (Some e) there is =
      let same = found_address s a l e there in
      let listed = found_entry s a l e there in
      inl (e, listed, same.0, same.1, same_some h (held.Host (Some (port_of e)) (there_in (maps.get (rows_shown r) (host s a)))) (sym is ∙ learnt_stands e s a listed same.0 same.1))

  -- what stands at a place is known
  pub at_known : (k : Spot) (h : Held) → maps.get (shown r l) k ≡ Some h → Known r l k h
  at_known (spot.Port p v) h is = from_rows (spot.Port p v) h (stands (spot.Port p v) refl refl) is
  at_known (spot.Switch s part.Itself) h is = from_rows (spot.Switch s part.Itself) h (stands (spot.Switch s part.Itself) refl refl) is
  at_known (spot.Switch s (part.Member p v)) h is = from_rows (spot.Switch s (part.Member p v)) h (stands (spot.Switch s (part.Member p v)) refl refl) is
  at_known (spot.Switch s (part.Group g)) h is = from_rows (spot.Switch s (part.Group g)) h (stands (spot.Switch s (part.Group g)) refl refl) is
  at_known (spot.Switch s (part.Host a)) h is = host_known s a h (found s a l) refl is
  at_known (spot.Vni n) h is = from_rows (spot.Vni n) h (stands (spot.Vni n) refl refl) is
  at_known (spot.Set i) h is = from_rows (spot.Set i) h (stands (spot.Set i) refl refl) is
  at_known (spot.Locator i) h is = from_rows (spot.Locator i) h (stands (spot.Locator i) refl refl) is
  at_known (spot.Acl i) h is =
      let x = at_acl r i h (sym (with_plain l once (with_acls r (rows_shown r)) (spot.Acl i) refl) ∙ is) in
      (x.0, x.1, x.2)
