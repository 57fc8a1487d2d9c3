-- When the tables of a fabric are settled: each gateway knows of the others what its frames need.
use Rattle.std.specs.Prelude.{◌≡◌, ◌≢◌, ◌⊎◌, ◌↔◌, ℕ, if◌then◌else◌, List, [], ◌∷◌, filter_map, Option, Some, None, option_and_then}
use Rattle.vtep_base.specs.Reading.{Bytes, same_bytes}
use Rattle.vtep_base.specs.declared.Mode.{Mode}
use Rattle.vtep_base.specs.declared.Mode.TheVariants.{Source, Service}
use Rattle.vtep_base.specs.declared.bindings.Binding.{Binding}
use Rattle.vtep_schema.specs.declared.Table.TheVariants.{LogicalSwitch, UcastMacsRemote, McastMacsRemote}
use Rattle.vtep_schema.specs.declared.Column.TheVariants.{LogicalName, LogicalTunnelKey}
use Rattle.vtep_rows.specs.Row.{Contents, text_at, number_at}
use Rattle.vtep_rows.specs.Rows.{Rows, row_at, rows_of}
use Rattle.forward_program.specs.declared.readings.Remote.{Remote}
use Rattle.forward_program.specs.declared.readings.Group.{Group}
use Rattle.forward_program.specs.Readings.{own_ip, mode_of, remote_of, group_of, locator_address, set_locators}
use Rattle.forward_program.specs.Built.{IsIn}
use Rattle.vtep_gateway.specs.Gateway.{Gateway}
use Rattle.fabric_world.specs.World.{World}
use Rattle.fabric_world.specs.Logical.{switch_of, members, owners}

-- a gateway of the fabric, with its name
abbrev pub NamedGateway : Type 0
NamedGateway = Bytes × Gateway

abbrev pub IsGateway : World → NamedGateway → Type 0
IsGateway w e = IsIn e w.gateways.list

-- a switch of this name is bound at a gateway
abbrev pub IsBoundAt : Bytes → NamedGateway → Type 0
IsBoundAt s e = (b : Binding) × IsIn (s, b) (members e)

-- a gateway has learnt an address on a switch
abbrev pub HasLearnt : Bytes → ℕ → NamedGateway → Type 0
HasLearnt s mac e = (b : Binding) × IsIn (s, mac, b) (owners e)

-- ---- one network

-- a row of Logical_Switch with this name, key and mode
pub record IsSwitch (r : Rows) (name : Bytes) (key : Option ℕ) (mode : Mode) : Type 0 where
  pub id : ℕ
  pub row : Contents
  pub there : row_at r (LogicalSwitch, id) ≡ Some row
  pub named : text_at row LogicalName ≡ name
  pub keyed : number_at row LogicalTunnelKey ≡ key
  pub replicates : mode_of row ≡ mode

-- a switch has one key and one mode wherever it is bound, and no other switch has the key
pub record HasNetwork (w : World) (s : Bytes) : Type 0 where
  pub key : ℕ
  pub mode : Mode
  pub same : (e : NamedGateway) → IsGateway w e → IsBoundAt s e → IsSwitch e.1.vtep.rows s (Some key) mode
  pub alone : (e : NamedGateway) (name : Bytes) (m : Mode) → IsGateway w e → IsSwitch e.1.vtep.rows name (Some key) m → name ≡ s

-- ---- remote addresses

-- a row of Ucast_Macs_Remote says that an address of a switch is behind the gateway with this tunnel address
pub record SaysRemote (r : Rows) (s : Bytes) (mac ip : ℕ) : Type 0 where
  pub id : ℕ
  pub row : Contents
  pub there : row_at r (UcastMacsRemote, id) ≡ Some row
  pub remote : Remote
  pub is_so : remote_of row ≡ Some remote
  pub of_switch : switch_of r remote.switch ≡ s
  pub of_mac : remote.mac ≡ mac
  pub at : locator_address r remote.locator ≡ Some ip

-- an address of a switch is learnt at another gateway, which has this tunnel address
pub record IsElsewhere (w : World) (g s : Bytes) (mac ip : ℕ) : Type 0 where
  pub there : NamedGateway
  pub is_gateway : IsGateway w there
  pub other : there.0 ≢ g
  pub has_learnt : HasLearnt s mac there
  pub has_ip : own_ip there.1.vtep.rows ≡ ip

-- the rows say of each address that is learnt elsewhere where it is, and no more; and none of them is learnt here too
pub record KnowsRemotes (w : World) (s : Bytes) (e : NamedGateway) : Type 0 where
  pub exact : (mac ip : ℕ) → SaysRemote e.1.vtep.rows s mac ip ↔ IsElsewhere w e.0 s mac ip
  pub apart : (mac ip : ℕ) → HasLearnt s mac e → IsElsewhere w e.0 s mac ip → ⊥

-- ---- floods

-- a group or none, and where frames of a switch to the group, or else, are sent
abbrev pub Flood : Type 0
Flood = Option ℕ × List ℕ

abbrev pub flood_by : Rows → Bytes → Group → Option Flood
flood_by r s g = if same_bytes (switch_of r g.switch) s then Some (g.group, filter_map (locator_address r) (set_locators r g.set)) else None

-- what the rows of Mcast_Macs_Remote say of a switch, one for each row
abbrev pub floods : Rows → Bytes → List Flood
floods r s = filter_map (λ row. option_and_then (flood_by r s) (group_of row.1)) (rows_of McastMacsRemote r)

-- the switch is bound at another gateway, which has this tunnel address
pub record IsBoundElsewhere (w : World) (g s : Bytes) (ip : ℕ) : Type 0 where
  pub there : NamedGateway
  pub is_gateway : IsGateway w there
  pub other : there.0 ≢ g
  pub bound : IsBoundAt s there
  pub has_ip : own_ip there.1.vtep.rows ≡ ip

-- one row, which sends to each other gateway at which the switch is bound
pub record FloodsOthers (w : World) (s : Bytes) (e : NamedGateway) : Type 0 where
  pub ips : List ℕ
  pub one : floods e.1.vtep.rows s ≡ (None, ips) ∷ []
  pub first : ℕ
  pub some : IsIn first ips
  pub exact : (ip : ℕ) → IsIn ip ips ↔ IsBoundElsewhere w e.0 s ip

-- none, where there are no others
pub record FloodsNobody (w : World) (s : Bytes) (e : NamedGateway) : Type 0 where
  pub none : floods e.1.vtep.rows s ≡ []
  pub nobody : (ip : ℕ) → IsBoundElsewhere w e.0 s ip → ⊥

-- a service node sends in place of the gateways, and no fabric has one
abbrev pub Floods : World → Bytes → NamedGateway → Mode → Type 0
Floods w s e Source = FloodsOthers w s e ⊎ FloodsNobody w s e
Floods w s e Service = ⊥

-- ---- all of it

pub record Settled (w : World) : Type 0 where
  pub networks : (s : Bytes) (e : NamedGateway) → IsGateway w e → IsBoundAt s e → HasNetwork w s
  pub remotes : (s : Bytes) (e : NamedGateway) → IsGateway w e → IsBoundAt s e → KnowsRemotes w s e
  pub flooded : (s : Bytes) (e : NamedGateway) (key : Option ℕ) (mode : Mode) → IsGateway w e → IsBoundAt s e → IsSwitch e.1.vtep.rows s key mode → Floods w s e mode
  pub unbound : (s : Bytes) (e : NamedGateway) → IsGateway w e → (IsBoundAt s e → ⊥) → floods e.1.vtep.rows s ≡ []
