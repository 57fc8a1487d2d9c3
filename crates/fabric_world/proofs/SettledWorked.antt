-- A fabric whose tables are settled.
use Rattle.std.proofs.Common.{◌≡◌, inl, inr, ℕ, [], ◌∷◌, Option, Some, codes, refl, sym, ap, subst, ◌∙◌, false, true≢false}
use Rattle.vtep_base.specs.Reading.{Bytes}
use Rattle.vtep_base.specs.declared.Mode.{Mode}
use Rattle.vtep_base.specs.declared.Mode.TheVariants.{Source}
use Rattle.vtep_base.specs.declared.bindings.Binding.{Binding}
use Rattle.vtep_schema.specs.declared.Table.{Table}
use Rattle.vtep_schema.specs.declared.Table.TheVariants.{Global, PhysicalSwitch, PhysicalPort, LogicalSwitch, UcastMacsRemote}
use Rattle.vtep_schema.specs.Tables.{same_table}
use Rattle.vtep_schema.specs.declared.Column.TheVariants.{LogicalName}
use Rattle.vtep_rows.specs.Row.{Contents, text_at}
use Rattle.vtep_rows.specs.Rows.{Rows, Key, row_at}
use Rattle.vtep_rows.specs.Orders.{key_exact}
use Rattle.vtep_rows.proofs.Kept.{same_table_itself}
use Rattle.forward_program.specs.Readings.{mode_of}
use Rattle.forward_program.specs.Built.{IsIn}
use Rattle.forward_program.proofs.MapLists.{get_in}
use Rattle.fabric_world.specs.World.{World}
use Rattle.fabric_world.specs.Logical.{members}
use Rattle.fabric_world.specs.Settled.{NamedGateway, IsGateway, IsBoundAt, IsSwitch, HasNetwork, SaysRemote, KnowsRemotes, Floods, floods, Settled}
use Rattle.fabric_world.proofs.Worked.{one_switch, with_gateways, gateway, red}

abbrev e : NamedGateway
e = (codes "g1", gateway (codes "g1") 0x0a000001 one_switch [])

abbrev w : World
w = with_gateways (gateway (codes "g1") 0x0a000001 one_switch [] ∷ [])

abbrev r : Rows
r = e.1.vtep.rows

abbrev Row : Type 0
Row = Key × Contents

only : (x : NamedGateway) → IsGateway w x → x ≡ e
only x (inl is) = is
only x (inr never) = absurd never

no_other : (x : NamedGateway) → IsGateway w x → (x.0 ≡ codes "g1" → ⊥) → ⊥
no_other x is other = other (ap (λ (y : NamedGateway). y.0) (only x is))

abbrev table_of : Row → Table
table_of x = x.0.0

other_table : {A : Type 0} (a b : Table) → a ≡ b → same_table a b ≡ false → A
other_table a b same apart = absurd (true≢false (sym (same_table_itself a) ∙ ap (same_table a) same ∙ apart))

-- its one switch is red
is_red : (i : ℕ) (row : Contents) → row_at r (LogicalSwitch, i) ≡ Some row → row ≡ red
is_red i row at = by (get_in key_exact r.rows (LogicalSwitch, i) row at)
  where
    by : IsIn ((LogicalSwitch, i), row) r.rows.list → row ≡ red
    by (inl is) = other_table LogicalSwitch Global (ap table_of is) refl
    by (inr (inl is)) = other_table LogicalSwitch PhysicalSwitch (ap table_of is) refl
    by (inr (inr (inl is))) = other_table LogicalSwitch PhysicalPort (ap table_of is) refl
    by (inr (inr (inr (inl is)))) = other_table LogicalSwitch PhysicalPort (ap table_of is) refl
    by (inr (inr (inr (inr (inl is))))) = ap (λ (x : Row). x.1) is
    by (inr (inr (inr (inr (inr never))))) = absurd never

-- it has no remote address
no_remote : (i : ℕ) (row : Contents) → row_at r (UcastMacsRemote, i) ≡ Some row → ⊥
no_remote i row at = by (get_in key_exact r.rows (UcastMacsRemote, i) row at)
  where
    by : IsIn ((UcastMacsRemote, i), row) r.rows.list → ⊥
    by (inl is) = other_table UcastMacsRemote Global (ap table_of is) refl
    by (inr (inl is)) = other_table UcastMacsRemote PhysicalSwitch (ap table_of is) refl
    by (inr (inr (inl is))) = other_table UcastMacsRemote PhysicalPort (ap table_of is) refl
    by (inr (inr (inr (inl is)))) = other_table UcastMacsRemote PhysicalPort (ap table_of is) refl
    by (inr (inr (inr (inr (inl is))))) = other_table UcastMacsRemote LogicalSwitch (ap table_of is) refl
    by (inr (inr (inr (inr (inr never))))) = never

bound_red : (s : Bytes) (b : Binding) → IsIn (s, b) (members e) → s ≡ codes "red"
bound_red s b (inl is) = ap (λ (x : Bytes × Binding). x.0) is
bound_red s b (inr (inl is)) = ap (λ (x : Bytes × Binding). x.0) is
bound_red s b (inr (inr never)) = absurd never

-- ---- a gateway of the fabric, which is that one

module _ (s : Bytes) (x : NamedGateway) (is : IsGateway w x) where
  not_there : (y : NamedGateway) → IsGateway w y → (y.0 ≡ x.0 → ⊥) → ⊥
  not_there y is_y other = other (ap (λ (z : NamedGateway). z.0) (only y is_y ∙ sym (only x is)))

  its_name : IsBoundAt s x → s ≡ codes "red"
  its_name bound = bound_red s bound.0 (subst (λ (y : NamedGateway). IsIn (s, bound.0) (members y)) (only x is) bound.1)

  network : IsBoundAt s x → HasNetwork w s
  network bound = record {
    key = 100;
    mode = Source;
    same = λ y is_y bound_y.
        subst (λ (z : NamedGateway). IsSwitch z.1.vtep.rows s (Some 100) Source) (sym (only y is_y))
        (record { id = 5; row = red; there = refl; named = sym (its_name bound); keyed = refl; replicates = refl });
    alone = λ y name m is_y switch.
        let its : IsSwitch r name (Some 100) m = subst (λ (z : NamedGateway). IsSwitch z.1.vtep.rows name (Some 100) m) (only y is_y) switch in
        sym its.named ∙ ap (λ row. text_at row LogicalName) (is_red its.id its.row its.there) ∙ sym (its_name bound);
  }

  remotes : KnowsRemotes w s x
  remotes = record {
    exact = λ mac ip. (
      λ says. (let its : SaysRemote r s mac ip = subst (λ (z : NamedGateway). SaysRemote z.1.vtep.rows s mac ip) (only x is) says in absurd (no_remote its.id its.row its.there)),
      λ there. absurd (not_there there.there there.is_gateway there.other),
    );
    apart = λ mac ip learnt there. not_there there.there there.is_gateway there.other;
  }

  flooded : (key : Option ℕ) (mode : Mode) → IsSwitch x.1.vtep.rows s key mode → Floods w s x mode
  flooded key mode switch =
      let its : IsSwitch r s key mode = subst (λ (z : NamedGateway). IsSwitch z.1.vtep.rows s key mode) (only x is) switch in
      subst (Floods w s x) (sym (ap mode_of (is_red its.id its.row its.there)) ∙ its.replicates)
      (inr (record { none = subst (λ (z : NamedGateway). floods z.1.vtep.rows s ≡ []) (sym (only x is)) refl; nobody = λ ip there. not_there there.there there.is_gateway there.other }))

settled : Settled w
settled = record {
  networks = λ s x is bound. network s x is bound;
  remotes = λ s x is bound. remotes s x is;
  flooded = λ s x key mode is bound switch. flooded s x is key mode switch;
  unbound = λ s x is free. subst (λ (z : NamedGateway). floods z.1.vtep.rows s ≡ []) (sym (only x is)) refl;
}
