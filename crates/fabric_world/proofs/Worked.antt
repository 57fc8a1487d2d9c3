-- Frames at gateways whose rows stand as they are written here, by computation.
use Rattle.std.specs.Prelude.{◌≡◌, ℕ, pos, List, [], ◌∷◌, ◌++◌, map, Result, Ok, Err, codes, refl}
use Rattle.vtep_base.specs.Reading.{Bytes}
use Rattle.vtep_base.specs.Maps as maps
use Rattle.ovsdb_values.specs.declared.atoms.Atom.TheVariants.{Integer, Text, Id}
use Rattle.ovsdb_values.specs.declared.datums.Datum.TheVariants as datum
use Rattle.ovsdb_values.specs.Sets.{one}
use Rattle.vtep_schema.specs.declared.Table.TheVariants.{PhysicalSwitch, LogicalSwitch, PhysicalPort, McastMacsRemote, PhysicalLocatorSet, PhysicalLocator}
use Rattle.vtep_schema.specs.declared.Column.TheVariants.{LogicalName, LogicalDescription, LogicalTunnelKey, LogicalReplicationMode, PortVlanBindings, McastRemoteMac, McastRemoteLogicalSwitch, McastRemoteLocatorSet, SetLocators, LocatorDstIp}
use Rattle.vtep_rows.specs.Row.{Contents, with_value, default_row}
use Rattle.vtep_rows.specs.Rows.{Rows, replaced}
use Rattle.mac_learning.specs.declared.Learnt.{Learnt}
use Rattle.mac_learning.specs.Learning.{entry}
use Rattle.vtep_gateway.specs.Gateway.{Gateway, new_gateway}
use Rattle.vtep_gateway.specs.Ports.{switch_id, port_row}
use Rattle.vtep_gateway.specs.Settled.{switch_with}
use Rattle.vtep_gateway.specs.Vtep.{Vtep}
use Rattle.fabric_world.specs.declared.Fault.{Fault}
use Rattle.fabric_world.specs.declared.Line.TheVariants.{Frame}
use Rattle.fabric_world.specs.Outputs.{Output, Out, Lost}
use Rattle.fabric_world.specs.World.{World, Outcome, start, run}
use Rattle.fabric_world.specs.Logical.{logical_of}
use Rattle.fabric_world.specs.Computes.{texts}

-- ---- rows

-- a switch without a network, or with the network 100
abbrev named : Bytes → Contents
named name = with_value (with_value (default_row LogicalSwitch) LogicalName (one (Text name))) LogicalDescription (one (Text (codes "a switch")))

abbrev pub red : Contents
red = with_value (with_value (named (codes "red")) LogicalTunnelKey (one (Integer (pos 100)))) LogicalReplicationMode (one (Text (codes "source_node")))

-- a port with one VLAN
abbrev port : Bytes → ℕ → ℕ → Contents
port name vlan switch = with_value (port_row name) PortVlanBindings (datum.Map ((Integer (pos vlan), Id switch) ∷ []))

abbrev locator : Bytes → Contents
locator ip = with_value (default_row PhysicalLocator) LocatorDstIp (one (Text ip))

-- what has no other place goes to the set of row 20
abbrev unknown : ℕ → Contents
unknown switch =
    with_value (with_value (with_value (default_row McastMacsRemote) McastRemoteMac (one (Text (codes "unknown-dst")))) McastRemoteLogicalSwitch (one (Id switch))) McastRemoteLocatorSet (one (Id 20))

abbrev pub gateway : Bytes → ℕ → (Rows → Rows) → List Learnt → Gateway
gateway name ip change learned =
    let new : Gateway = new_gateway name ip in
    let v : Vtep = new.vtep in
    record new { vtep = record v { rows = change v.rows; learned = learned } }

-- red at three ports and blue, with the same description, at one
abbrev bound : Rows → Rows
bound r =
    let switches : Rows = replaced (replaced r (LogicalSwitch, 5) red) (LogicalSwitch, 6) (named (codes "blue")) in
    replaced (replaced (replaced (replaced switches (PhysicalPort, 13) (port (codes "p3") 7 5)) (PhysicalPort, 12) (port (codes "p2") 0 5)) (PhysicalPort, 11) (port (codes "p1") 0 5))
    (PhysicalPort, 14) (port (codes "p4") 0 6)

-- red at two ports
abbrev pub one_switch : Rows → Rows
one_switch r = replaced (replaced (replaced r (LogicalSwitch, 5) red) (PhysicalPort, 12) (port (codes "p2") 0 5)) (PhysicalPort, 11) (port (codes "p1") 0 5)

-- red at p1, and elsewhere at three locators, of which two have one address
abbrev tunnels : Rows → Rows
tunnels r =
    let locators : Rows = replaced (replaced (replaced r (PhysicalLocator, 30) (locator (codes "10.0.0.3"))) (PhysicalLocator, 31) (locator (codes "10.0.0.2"))) (PhysicalLocator, 32) (locator (codes "10.0.0.3")) in
    let set : Rows = replaced locators (PhysicalLocatorSet, 20) (with_value (default_row PhysicalLocatorSet) SetLocators (datum.Set (Id 30 ∷ Id 31 ∷ Id 32 ∷ []))) in
    replaced (replaced (replaced set (LogicalSwitch, 5) red) (PhysicalPort, 11) (port (codes "p1") 0 5)) (McastMacsRemote, 40) (unknown 5)

-- ---- frames

-- to an individual address, from that of a group, which is not learnt
abbrev addresses : ℕ → ℕ → Bytes
addresses dst src = 2 ∷ 0 ∷ 0 ∷ 0 ∷ 0 ∷ dst ∷ 3 ∷ 0 ∷ 0 ∷ 0 ∷ 0 ∷ src ∷ []

abbrev rest : Bytes
rest = 0x88 ∷ 0xb5 ∷ []

abbrev frame : ℕ → ℕ → Bytes
frame dst src = addresses dst src ++ rest

abbrev to_itself : Bytes
to_itself = (3 ∷ 0 ∷ 0 ∷ 0 ∷ 0 ∷ 1 ∷ 3 ∷ 0 ∷ 0 ∷ 0 ∷ 0 ∷ 1 ∷ []) ++ rest

abbrev written : Result Outcome Fault → List Output
written (Ok o) = o.output
written (Err why) = []

abbrev pub with_gateways : List Gateway → World
with_gateways gs = record start { gateways = maps.of_list (map (λ g. (g.vtep.name, g)) gs) }

abbrev one_gateway : World
one_gateway = with_gateways (gateway (codes "g1") 0x0a000001 bound [] ∷ [])

-- where an address is learnt at p3
abbrev one_learnt : World
one_learnt = with_gateways (gateway (codes "g1") 0x0a000001 bound (entry 5 0x020000000009 (codes "p3") 7 0 ∷ []) ∷ [])

abbrev two_gateways : World
two_gateways = with_gateways (gateway (codes "g1") 0x0a000001 tunnels [] ∷ gateway (codes "g3") 0x0a000003 tunnels [] ∷ [])

-- at the other bindings of its switch, each in its form
leaves_at_two : written (run one_gateway (Frame (record { g = codes "g1"; p = codes "p1"; hex = frame 9 1 })))
    ≡ Out (codes "g1") (codes "p2") (frame 9 1) ∷ Out (codes "g1") (codes "p3") (addresses 9 1 ++ (0x81 ∷ 0 ∷ 0 ∷ 7 ∷ []) ++ rest) ∷ []
unfolding texts
leaves_at_two = refl

-- at the binding where its destination is known alone
leaves_where_known : written (run one_learnt (Frame (record { g = codes "g1"; p = codes "p1"; hex = frame 9 1 }))) ≡ Out (codes "g1") (codes "p3") (addresses 9 1 ++ (0x81 ∷ 0 ∷ 0 ∷ 7 ∷ []) ++ rest) ∷ []
unfolding texts
leaves_where_known = refl

-- and nowhere, where that is the binding at which it enters
stays_where_known : written (run one_learnt (Frame (record { g = codes "g1"; p = codes "p3"; hex = addresses 9 1 ++ (0x81 ∷ 0 ∷ 0 ∷ 7 ∷ []) ++ rest }))) ≡ []
unfolding texts
stays_where_known = refl

-- to its own source
leaves_nowhere : written (run one_gateway (Frame (record { g = codes "g1"; p = codes "p1"; hex = to_itself }))) ≡ []
unfolding texts
leaves_nowhere = refl

-- packets in ascending order of their addresses, one for each: that of nobody is lost, and the other comes to its gateway
is_carried : written (run two_gateways (Frame (record { g = codes "g1"; p = codes "p1"; hex = frame 9 1 })))
    ≡ Lost 0x0a000002 ∷ Out (codes "g3") (codes "p1") (frame 9 1) ∷ []
unfolding texts
is_carried = refl

-- the other way round, where the own address is passed over
is_lost : written (run two_gateways (Frame (record { g = codes "g3"; p = codes "p1"; hex = frame 9 1 }))) ≡ Lost 0x0a000002 ∷ []
unfolding texts
is_lost = refl

-- the logical network has switches by name
names : map (λ b. b.0) (logical_of one_gateway).bindings ≡ codes "red" ∷ codes "red" ∷ codes "red" ∷ codes "blue" ∷ []
names = refl

owned : (logical_of one_learnt).owners ≡ (codes "red", 0x020000000009, record { gateway = codes "g1"; port = codes "p3"; vlan = 7 }) ∷ []
owned = refl

-- ---- learning

-- red at two ports that the gateway's own row has
abbrev joined : Rows → Rows
joined r = replaced (one_switch r) (PhysicalSwitch, switch_id r) (switch_with (codes "g1") 0x0a000001 (11 ∷ 12 ∷ []))

abbrev one_joined : World
one_joined = with_gateways (gateway (codes "g1") 0x0a000001 joined [] ∷ [])

abbrev from_one : ℕ → Bytes
from_one dst = (2 ∷ 0 ∷ 0 ∷ 0 ∷ 0 ∷ dst ∷ 2 ∷ 0 ∷ 0 ∷ 0 ∷ 0 ∷ 1 ∷ []) ++ rest

abbrev world_of : Result Outcome Fault → World
world_of (Ok o) = o.world
world_of (Err why) = start

-- a frame from the address 1 enters
abbrev entered : World → Bytes → World
entered w port = world_of (run w (Frame (record { g = codes "g1"; p = port; hex = from_one 9 })))

-- its source is learnt there
learns : (logical_of (entered one_joined (codes "p1"))).owners ≡ (codes "red", 0x020000000001, record { gateway = codes "g1"; port = codes "p1"; vlan = 0 }) ∷ []
unfolding texts
learns = refl

-- and only where it entered last
moves : (logical_of (entered (entered one_joined (codes "p1")) (codes "p2"))).owners ≡ (codes "red", 0x020000000001, record { gateway = codes "g1"; port = codes "p2"; vlan = 0 }) ∷ []
unfolding texts
moves = refl
