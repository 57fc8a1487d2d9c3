-- Where a frame goes that entered at a port or came out of a tunnel.
use Rattle.std.specs.Prelude.{ℕ, Bool, true, false, not, ◌&&◌, ◌==◌, if◌then◌else◌, List, [], ◌∷◌, map, filter, filter_map, take, drop, Option, Some, None, option_map, unwrap_or}
use Rattle.std.specs.List.{list_all}
use Rattle.vtep_base.specs.Reading.{Bytes, same_bytes}
use Rattle.vtep_base.specs.Addresses.{be, is_group}
use Rattle.vtep_base.specs.Maps as maps
use Rattle.vtep_base.specs.declared.shapes.Direction.{Direction}
use Rattle.vtep_base.specs.declared.shapes.Direction.TheVariants.{Ingress, Egress}
use Rattle.ether_frames.specs.declared.fields.Headers.{Headers}
use Rattle.ether_frames.specs.Headers.{headers_of}
use Rattle.vlan_bindings.specs.Places.{place_cmp}
use Rattle.vtep_rows.specs.Row.{first}
use Rattle.acl_rules.specs.declared.entry.Entry.{Entry}
use Rattle.acl_rules.specs.Permits.{permits}
use Rattle.forward_program.specs.declared.facts.Fact.{Fact}
use Rattle.forward_program.specs.declared.facts.Fact.TheVariants as fact
use Rattle.forward_program.specs.declared.facts.Place.{Place}
use Rattle.forward_program.specs.declared.facts.Place.TheVariants.{Here, There}
use Rattle.forward_program.specs.declared.hops.Admission.{Admission}
use Rattle.forward_program.specs.declared.hops.Admission.TheVariants as enter
use Rattle.forward_program.specs.declared.hops.Origin.{Origin}
use Rattle.forward_program.specs.declared.hops.Origin.TheVariants as origin
use Rattle.forward_program.specs.declared.hops.Outcome.{Outcome}
use Rattle.forward_program.specs.declared.hops.Outcome.TheVariants.{Done, Unbound, Denied, NoVni}
use Rattle.forward_program.specs.Built.{acl_rows}
use Rattle.forward_program.specs.Spots.{Entries}
use Rattle.forward_program.specs.Joins.{Port, bound_at, network_at, vni_at, place_at, flood_at, members_at, rules_at}

-- the address that a frame without tag comes from
abbrev pub source : Bytes → ℕ
source inner = be (take 6 (drop 6 inner))

-- a VLAN of a port that is bound, with the rows of its ACLs
abbrev pub Listed : Type 0
Listed = Port × List ℕ

-- what a forwarding state says
pub record Ways : Type 0 where
  pub bound : Port → Option ℕ  -- the switch of a VLAN of a port
  pub lists : Port → List ℕ  -- the rows of its ACLs
  pub entries : ℕ → List Entry  -- the entries of an ACL, in order
  pub network : ℕ → Option ℕ  -- the switch of a network
  pub vni : ℕ → Option ℕ  -- the network of a switch
  pub place : ℕ → ℕ → Option Place  -- where an address of a switch is
  pub flood : ℕ → Option ℕ → List ℕ  -- where frames of a switch to a group, or else, are sent
  pub ports : ℕ → List Listed  -- the bindings of a switch, by port and VLAN

-- where a frame goes: out of ports, and to addresses in packets of a network
pub record Way : Type 0 where
  pub outcome : Outcome
  pub ports : List Port
  pub addresses : List ℕ
  pub vni : Option ℕ

abbrev pub nowhere : Outcome → Option ℕ → Way
nowhere outcome vni = record { outcome = outcome; ports = []; addresses = []; vni = vni }

-- ---- what the lists of a binding permit

-- each list permits the frame this way
abbrev pub may_pass : Ways → Direction → Headers → List ℕ → Bool
may_pass w direction h lists = list_all (λ acl. permits (w.entries acl) h direction) lists

-- the bindings that may be given the frame
abbrev pub let_out : Ways → Headers → List Listed → List Port
let_out w h bs = map (λ b. b.0) (filter (λ b. may_pass w Egress h b.1) bs)

abbrev pub admitted : Ways → Port → Headers → Option ℕ → Admission
admitted w p h None = enter.Unbound
admitted w p h (Some switch) = if may_pass w Ingress h (w.lists p) then enter.To switch else enter.Denied

-- whether a frame may enter at a VLAN of a port, and the switch that it then comes to
abbrev pub admission : Ways → Port → Bytes → Admission
admission w p inner = admitted w p (headers_of inner) (w.bound p)

-- ---- the ports and addresses

abbrev pub same_port : Port → Port → Bool
same_port p q = same_bytes p.0 q.0 && (p.1 == q.1)

-- but for the binding at which the frame entered
abbrev pub but : Option Port → List Port → List Port
but None ps = ps
but (Some q) ps = filter (λ p. not (same_port p q)) ps

-- a switch without a network sends no packet
abbrev pub tunnelled : Option ℕ → List ℕ → List ℕ
tunnelled None ips = []
tunnelled (Some vni) ips = ips

abbrev pub or_else : List ℕ → List ℕ → List ℕ
or_else [] ys = ys
or_else (x ∷ xs) ys = x ∷ xs

abbrev pub group_targets : Ways → ℕ → ℕ → List ℕ
group_targets w switch dst = if is_group dst then w.flood switch (Some dst) else []

-- the addresses for the group where it has some, else those for destinations that are not known
abbrev pub flooded : Ways → ℕ → ℕ → List ℕ
flooded w switch dst = or_else (group_targets w switch dst) (w.flood switch None)

-- the place of an individual address
abbrev pub place_of : Ways → ℕ → ℕ → Option Place
place_of w switch dst = if is_group dst then None else w.place switch dst

abbrev pub ports_to : Ways → ℕ → Option Port → Headers → Option Place → List Port
ports_to w switch from h (Some (Here port vlan)) = but from (let_out w h (((port, vlan), w.lists (port, vlan)) ∷ []))
ports_to w switch from h (Some (There ip)) = []
ports_to w switch from h None = but from (let_out w h (w.ports switch))

abbrev pub addresses_to : Ways → ℕ → Option ℕ → ℕ → Option Place → List ℕ
addresses_to w switch vni dst (Some (Here port vlan)) = []
addresses_to w switch vni dst (Some (There ip)) = tunnelled vni (ip ∷ [])
addresses_to w switch vni dst None = tunnelled vni (flooded w switch dst)

abbrev pub forwarded : Ways → ℕ → Option Port → Option ℕ → Headers → Way
forwarded w switch from vni h = record {
  outcome = Done;
  ports = ports_to w switch from h (place_of w switch h.destination);
  addresses = addresses_to w switch vni h.destination (place_of w switch h.destination);
  vni = vni;
}

-- a frame to its own source goes nowhere
abbrev pub sent_on : Ways → ℕ → Option Port → Option ℕ → Headers → Way
sent_on w switch from vni h = if h.destination == h.source then nowhere Done vni else forwarded w switch from vni h

abbrev pub from_port : Ways → Port → Headers → Admission → Way
from_port w p h enter.Unbound = nowhere Unbound None
from_port w p h enter.Denied = nowhere Denied None
from_port w p h (enter.To switch) = sent_on w switch (Some p) (w.vni switch) h

-- a frame out of a tunnel is not sent into one
abbrev pub from_tunnel : Ways → Headers → Option ℕ → Way
from_tunnel w h None = nowhere NoVni None
from_tunnel w h (Some switch) = sent_on w switch None None h

abbrev pub hop : Ways → Origin → Bytes → Way
hop w (origin.Port port vlan) inner = from_port w (port, vlan) (headers_of inner) (admission w (port, vlan) inner)
hop w (origin.Tunnel vni) inner = from_tunnel w (headers_of inner) (w.network vni)

-- ---- by the facts

abbrev pub bound_by : Port → Fact → Option ℕ
bound_by p (fact.Bind port vlan switch lists) = if same_port p (port, vlan) then Some switch else None
bound_by p _ = None

abbrev pub lists_by : Port → Fact → Option (List ℕ)
lists_by p (fact.Bind port vlan switch lists) = if same_port p (port, vlan) then Some lists else None
lists_by p _ = None

abbrev pub entries_by : ℕ → Fact → Option (List Entry)
entries_by n (fact.Acl acl entries) = if acl == n then Some entries else None
entries_by n _ = None

abbrev pub network_by : ℕ → Fact → Option ℕ
network_by n (fact.Vni vni switch) = if vni == n then Some switch else None
network_by n _ = None

abbrev pub vni_by : ℕ → Fact → Option ℕ
vni_by s (fact.Vni vni switch) = if switch == s then Some vni else None
vni_by s _ = None

abbrev pub place_by : ℕ → ℕ → Fact → Option Place
place_by s mac (fact.Mac switch address place) = if (switch == s) && (address == mac) then Some place else None
place_by s mac _ = None

abbrev pub same_group : Option ℕ → Option ℕ → Bool
same_group None None = true
same_group (Some m) (Some n) = m == n
same_group _ _ = false

abbrev pub flood_by : ℕ → Option ℕ → Fact → Option (List ℕ)
flood_by s group (fact.Flood switch key addresses) = if (switch == s) && same_group key group then Some addresses else None
flood_by s group _ = None

abbrev pub port_by : ℕ → Fact → Option Listed
port_by s (fact.Bind port vlan switch lists) = if switch == s then Some ((port, vlan), lists) else None
port_by s _ = None

-- by name, and then by VLAN
abbrev pub in_order : List Listed → List Listed
in_order bs = (maps.of_list {R = place_cmp} bs).list

abbrev pub ways_of : List Fact → Ways
ways_of facts = record {
  bound = λ p. first (filter_map (bound_by p) facts);
  lists = λ p. unwrap_or (first (filter_map (lists_by p) facts)) [];
  entries = λ acl. unwrap_or (first (filter_map (entries_by acl) facts)) [];
  network = λ n. first (filter_map (network_by n) facts);
  vni = λ s. first (filter_map (vni_by s) facts);
  place = λ s mac. first (filter_map (place_by s mac) facts);
  flood = λ s group. unwrap_or (first (filter_map (flood_by s group) facts)) [];
  ports = λ s. in_order (filter_map (port_by s) facts);
}

-- ---- by the entries

abbrev pub ways_at : Entries → Ways
ways_at m = record {
  bound = λ p. option_map (λ b. b.switch) (bound_at m p);
  lists = λ p. unwrap_or (option_map (λ b. acl_rows b.lists) (bound_at m p)) [];
  entries = λ acl. unwrap_or (rules_at m acl) [];
  network = network_at m;
  vni = vni_at m;
  place = place_at m;
  flood = flood_at m;
  ports = λ switch. map (λ b. (b.0, acl_rows b.1)) (members_at m switch);
}
