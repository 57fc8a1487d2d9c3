-- The logical networks: where a frame is to be delivered. There are no tunnels, packets or VNIs here.
use Rattle.std.specs.Prelude.{◌≡◌, ◌≢◌, ◌⊎◌, ◌↔◌, ℕ, Bool, true, false, ◌==◌, ◌%◌, List, map, take, drop, slice_index, [], option_map, unwrap_or}
use Rattle.std.specs.List.{flat_map}
use Rattle.vtep_base.specs.Reading.{Bytes}
use Rattle.vtep_base.specs.Addresses.{be}
use Rattle.vtep_base.specs.declared.bindings.Binding.{Binding}
use Rattle.vtep_base.specs.declared.shapes.Direction.{Direction}
use Rattle.vtep_base.specs.declared.shapes.Direction.TheVariants.{Ingress, Egress}
use Rattle.ether_frames.specs.Frames.{Carries, tagged}
use Rattle.ether_frames.specs.Headers.{headers_of}
use Rattle.acl_rules.specs.declared.entry.Entry.{Entry}
use Rattle.acl_rules.specs.Permits.{Permits}
use Rattle.vtep_schema.specs.declared.Table.TheVariants.{LogicalSwitch, Acl}
use Rattle.vtep_schema.specs.declared.Column.TheVariants.{LogicalName}
use Rattle.vtep_rows.specs.Rows.{Rows, row_at}
use Rattle.mac_learning.specs.declared.Learnt.{Learnt}
use Rattle.forward_program.specs.Built as built
use Rattle.forward_program.specs.Built.{IsIn, acl_rows}
use Rattle.forward_program.specs.Acls.{entries_at}
use Rattle.vtep_gateway.specs.Gateway.{Gateway}
use Rattle.vtep_gateway.specs.Show.{row_name}
use Rattle.fabric_world.specs.World.{World}

-- finite sets, as lists of their members
pub record Logical : Type 0 where
  pub bindings : List (Bytes × Binding)  -- a switch's name and a binding
  pub owners : List (Bytes × ℕ × Binding)  -- the number of an address of a switch, and where it is
  pub lists : List (Binding × List Entry)  -- a binding and the entries of an access list of it

abbrev pub destination : Bytes → Bytes
destination inner = take 6 inner

abbrev pub source : Bytes → Bytes
source inner = take 6 (drop 6 inner)

-- the lowest bit of the first byte says that an address is a group's
abbrev pub is_group : Bytes → Bool
is_group address = slice_index address 0 % 2 == 1

-- an individual address has an owner on the switch
abbrev pub Owns : Logical → Bytes → Bytes → Binding → Type 0
Owns l s address c = (is_group address ≡ false) × IsIn (s, be address, c) l.owners

-- each list of the binding permits the frame this way
abbrev pub MayPass : Logical → Direction → Bytes → Binding → Type 0
MayPass l direction inner b = (entries : List Entry) → IsIn (b, entries) l.lists → Permits entries (headers_of inner) direction

-- a frame that enters at b leaves at c, as the lists permit: at an owner of its destination, or where that has none at each other
-- binding
pub record DeliversOn (l : Logical) (s : Bytes) (b : Binding) (inner : Bytes) (c : Binding) : Type 0 where
  pub enters : IsIn (s, b) l.bindings
  pub let_in : MayPass l Ingress inner b
  pub to_another : destination inner ≢ source inner
  pub leaves : IsIn (s, c) l.bindings
  pub elsewhere : c ≢ b
  pub let_out : MayPass l Egress inner c
  pub owned : Owns l s (destination inner) c ⊎ ((d : Binding) → Owns l s (destination inner) d → ⊥)

-- bytes that enter at b leave at c as `out`
abbrev pub Delivers : Logical → Binding → Bytes → Binding → Bytes → Type 0
Delivers l b bytes c out = (s : Bytes) × (inner : Bytes) × Carries bytes b.vlan inner × DeliversOn l s b inner c × (out ≡ tagged c.vlan inner)

-- what is known after a frame from an address that entered at b: the address is at b alone, unless it is that of a group or there was
-- no room, and all others are where they were
pub record Teaches (l m : Logical) (s : Bytes) (b : Binding) (address : Bytes) (full : Bool) : Type 0 where
  pub bindings : m.bindings ≡ l.bindings
  pub lists : m.lists ≡ l.lists
  pub nothing : (is_group address ≡ true) ⊎ (full ≡ true) → m.owners ≡ l.owners
  pub there : is_group address ≡ false → full ≡ false → (c : Binding) → Owns m s address c ↔ (c ≡ b)
  pub others : (t : Bytes) (a : ℕ) (c : Binding) → ((t ≡ s) × (a ≡ be address) → ⊥) → IsIn (t, a, c) m.owners ↔ IsIn (t, a, c) l.owners

-- ---- read off the gateways of a fabric

-- the name of a switch, in its row of Logical_Switch
abbrev pub switch_of : Rows → ℕ → Bytes
switch_of r switch = row_name r LogicalSwitch LogicalName switch

-- what a binding in the rows of a gateway is in the fabric
abbrev pub place : Bytes → built.Binding → Binding
place g c = record { gateway = g; port = c.port; vlan = c.vlan }

abbrev pub member : Bytes → Rows → built.Binding → Bytes × Binding
member g r c = (switch_of r c.switch, place g c)

abbrev pub members : Bytes × Gateway → List (Bytes × Binding)
members e = map (member e.0 e.1.vtep.rows) (built.bindings e.1.vtep.rows)

-- where an address is that a gateway has learnt
abbrev pub learnt_at : Bytes → Learnt → Binding
learnt_at g e = record { gateway = g; port = e.port; vlan = e.vlan }

abbrev pub owner : Bytes → Rows → Learnt → Bytes × ℕ × Binding
owner g r e = (switch_of r e.switch, e.mac, learnt_at g e)

abbrev pub owners : Bytes × Gateway → List (Bytes × ℕ × Binding)
owners e = map (owner e.0 e.1.vtep.rows) e.1.vtep.learned

-- the entries of a row of ACL, where it is there
abbrev pub entries_of : Rows → ℕ → List Entry
entries_of r acl = unwrap_or (option_map (entries_at r) (row_at r (Acl, acl))) []

-- the lists of a binding: that of all VLANs, and that of its VLAN
abbrev pub listed : Bytes → Rows → built.Binding → List (Binding × List Entry)
listed g r c = map (λ acl. (place g c, entries_of r acl)) (acl_rows c.lists)

abbrev pub lists : Bytes × Gateway → List (Binding × List Entry)
lists e = flat_map (listed e.0 e.1.vtep.rows) (built.bindings e.1.vtep.rows)

-- the bindings of the rows with their lists, and the addresses that are learnt at them
abbrev pub logical_of : World → Logical
logical_of w = record { bindings = flat_map members w.gateways.list; owners = flat_map owners w.gateways.list; lists = flat_map lists w.gateways.list }
