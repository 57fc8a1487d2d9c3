-- Settled tables of the only gateway of a fabric send nothing to others.
use Rattle.std.proofs.Common.{◌≡◌, inl, inr, ℕ, Bool, true, false, [], ◌∷◌, Option, Some, None, refl, sym, ap, subst, ◌∙◌}
use Rattle.std.specs.Prelude.{◌==◌, if◌then◌else◌}
use Rattle.std.specs.List.{filter_map}
use Rattle.std.specs.Option.{option_and_then, option_map}
use Rattle.vtep_base.specs.Reading.{Bytes, same_bytes}
use Rattle.vtep_base.specs.declared.Mode.{Mode}
use Rattle.vtep_base.specs.declared.Mode.TheVariants.{Source, Service}
use Rattle.vtep_schema.specs.declared.Table.TheVariants.{UcastMacsRemote, McastMacsRemote}
use Rattle.vtep_rows.specs.Row.{Contents}
use Rattle.vtep_rows.specs.Rows.{Rows, rows_of}
use Rattle.forward_program.specs.declared.readings.Remote.{Remote}
use Rattle.forward_program.specs.declared.readings.Group.{Group}
use Rattle.forward_program.specs.declared.facts.Fact.{Fact}
use Rattle.forward_program.specs.declared.facts.Fact.TheVariants as fact
use Rattle.forward_program.specs.declared.facts.Place.TheVariants.{There}
use Rattle.forward_program.specs.Readings.{own_ip, remote_of, group_of, locator_address, other_address, set_locators}
use Rattle.forward_program.specs.Built.{IsIn, bindings, is_bound, remote_fact, flood_fact, flood_to, mode_at, set_addresses}
use Rattle.forward_program.proofs.InLists.{map_in, picked_in}
use Rattle.forward_program.proofs.HopLaws.{passes, if_so, number_same}
use Rattle.forward_program.proofs.RowsIn.{in_rows}
use Rattle.forward_program.proofs.Unique.{map_of, bytes_itself}
use Rattle.local_tables.proofs.Members.{any_in}
use Rattle.replication.specs.Targets.{targets}
use Rattle.fabric_world.specs.World.{World}
use Rattle.fabric_world.specs.Logical.{switch_of, place, member, members}
use Rattle.fabric_world.specs.Settled.{NamedGateway, IsGateway, IsBoundAt, IsElsewhere, IsBoundElsewhere, Flood, flood_by, floods, Floods, Settled}
use Rattle.fabric_world.proofs.Facts.{IsQuiet}

other_is : (own : ℕ) (o : Option ℕ) (ip : ℕ) → other_address own o ≡ Some ip → o ≡ Some ip
other_is own None ip e = e
other_is own (Some n) ip e = by (n == own) e
  where
    by : (b : Bool) → (if b then None else Some n) ≡ Some ip → Some n ≡ Some ip
    by true f = absurd (cc)
    by false f = f

module _ (w : World) (e : NamedGateway) (only : w.gateways.list ≡ e ∷ []) (settled : Settled w) where
  abbrev r : Rows
  r = e.1.vtep.rows

  is_gateway : IsGateway w e
  is_gateway = subst (IsIn e) (sym only) (inl refl)

  no_other : (there : NamedGateway) → IsGateway w there → (there.0 ≡ e.0 → ⊥) → ⊥
  no_other there is other = elim (subst (IsIn there) only is) [ inl same ↦ other (ap (λ (x : NamedGateway). x.0) same) | inr never ↦ never ]

  nowhere_else : (s : Bytes) (mac ip : ℕ) → IsElsewhere w e.0 s mac ip → ⊥
  nowhere_else s mac ip x = no_other x.there x.is_gateway x.other

  bound_nowhere_else : (s : Bytes) (ip : ℕ) → IsBoundElsewhere w e.0 s ip → ⊥
  bound_nowhere_else s ip x = no_other x.there x.is_gateway x.other

  -- a switch that the rows bind
  bound_at : (s : ℕ) → is_bound r s ≡ true → IsBoundAt (switch_of r s) e
  bound_at s bound =
      let b = any_in (λ b. b.switch == s) (bindings r) bound in
      (place e.0 b.0, subst (λ n. IsIn (switch_of r n, place e.0 b.0) (members e)) (number_same b.0.switch s b.2) (map_in (member e.0 r) b.0 (bindings r) b.1))

  no_remote : (x : ℕ × Contents) (a : Remote) (f : Fact) → IsIn x (rows_of UcastMacsRemote r) → remote_of x.1 ≡ Some a → remote_fact r a ≡ Some f → ⊥
  no_remote x a f is so made =
      let b = if_so (is_bound r a.switch) (option_map (λ ip. fact.Mac a.switch a.mac (There ip)) (other_address (own_ip r) (locator_address r a.locator))) f made in
      let ip = map_of (λ ip. fact.Mac a.switch a.mac (There ip)) (other_address (own_ip r) (locator_address r a.locator)) f b.1 in
      let s : Bytes = switch_of r a.switch in
      nowhere_else s a.mac ip.0
      (((settled.remotes s e is_gateway (bound_at a.switch b.0)).exact a.mac ip.0).0 (record {
        id = x.0;
        row = x.1;
        there = in_rows r UcastMacsRemote x is;
        remote = a;
        is_so = so;
        of_switch = refl;
        of_mac = refl;
        at = other_is (own_ip r) (locator_address r a.locator) ip.0 ip.1;
      }))

  listed : (x : ℕ × Contents) (g : Group) → IsIn x (rows_of McastMacsRemote r) → group_of x.1 ≡ Some g → (f : Flood) × IsIn f (floods r (switch_of r g.switch))
  listed x g is so =
      let s : Bytes = switch_of r g.switch in
      let f : Flood = (g.group, filter_map (locator_address r) (set_locators r g.set)) in
      (f, picked_in (λ (row : ℕ × Contents). option_and_then (flood_by r s) (group_of row.1)) f x (rows_of McastMacsRemote r) is (ap (option_and_then (flood_by r s)) so ∙ passes (same_bytes s s) f (bytes_itself s)))

  none_flood : (s : Bytes) (m : Mode) → Floods w s e m → floods r s ≡ []
  none_flood s Source (inl some) = absurd (bound_nowhere_else s some.first ((some.exact some.first).0 some.some))
  none_flood s Source (inr none) = none.none
  none_flood s Service never = absurd never

  no_flood : (x : ℕ × Contents) (g : Group) (f : Fact) → IsIn x (rows_of McastMacsRemote r) → group_of x.1 ≡ Some g → flood_fact r g ≡ Some f → ⊥
  no_flood x g f is so made =
      let b = if_so (is_bound r g.switch) (flood_to g.switch g.group (targets (mode_at r g.switch) (set_addresses r g.set))) f made in
      let s : Bytes = switch_of r g.switch in
      let bound : IsBoundAt s e = bound_at g.switch b.0 in
      let net = settled.networks s e is_gateway bound in
      let none : floods r s ≡ [] = none_flood s net.mode (settled.flooded s e (Some net.key) net.mode is_gateway bound (net.same e is_gateway bound)) in
      let there = listed x g is so in
      subst (IsIn there.0) none there.1

  pub settled_quiet : IsQuiet r
  settled_quiet = record { remotes = no_remote; floods = no_flood }
