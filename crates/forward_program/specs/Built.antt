-- The forwarding state as a set of facts, each taken anew from all rows of the gateway (vtep(5)) and its learnt addresses.
use Rattle.std.specs.Prelude.{◌≡◌, ◌⊎◌, ℕ, Bool, ◌==◌, if◌then◌else◌, List, [], ◌∷◌, ◌++◌, map, filter_map, flat_map, Option, Some, None, option_map, option_and_then, unwrap_or, is_some}
use Rattle.std.specs.List.{list_any}
use Rattle.std.specs.Option.{option_to_list}
use Rattle.vtep_base.specs.Reading.{Bytes}
use Rattle.vtep_base.specs.declared.Mode.{Mode}
use Rattle.vtep_base.specs.declared.Mode.TheVariants.{Service}
use Rattle.vtep_schema.specs.declared.Table.TheVariants.{PhysicalPort, LogicalSwitch, UcastMacsRemote, McastMacsRemote, Acl}
use Rattle.vtep_schema.specs.declared.Column.TheVariants.{LogicalTunnelKey}
use Rattle.vtep_rows.specs.Row.{Contents, number_at}
use Rattle.vtep_rows.specs.Rows.{Rows, rows_of, row_at}
use Rattle.locator_sets.specs.Locators.{other_addresses}
use Rattle.replication.specs.Targets.{targets}
use Rattle.mac_learning.specs.declared.Learnt.{Learnt}
use Rattle.mac_learning.specs.Learning.{found}
use Rattle.forward_program.specs.declared.readings.Remote.{Remote}
use Rattle.forward_program.specs.declared.readings.Group.{Group}
use Rattle.forward_program.specs.declared.held.Lists.{Lists}
use Rattle.forward_program.specs.declared.facts.Fact.{Fact}
use Rattle.forward_program.specs.declared.facts.Fact.TheVariants as fact
use Rattle.forward_program.specs.declared.facts.Place.TheVariants.{Here, There}
use Rattle.forward_program.specs.Acls.{entries_at}
use Rattle.forward_program.specs.Readings.{port_name, vlan_bindings, lists_at, mode_of, remote_of, group_of, own_ip, locator_address, other_address, set_locators}

-- a member of a list
abbrev pub IsIn : {A : Type 0} → A → List A → Type 0
IsIn x [] = ⊥
IsIn x (y ∷ ys) = (x ≡ y) ⊎ IsIn x ys

-- each stands once
abbrev pub AreApart : {A : Type 0} → List A → Type 0
AreApart [] = Unit {0}
AreApart (x ∷ xs) = (IsIn x xs → ⊥) × AreApart xs

-- ---- bindings

-- a VLAN of a port, its switch, and its ACLs
pub record Binding : Type 0 where
  pub port : Bytes
  pub vlan : ℕ
  pub switch : ℕ
  pub lists : Lists

abbrev pub binding : Bytes → Contents → ℕ × ℕ → Binding
binding port row b = record { port = port; vlan = b.0; switch = b.1; lists = lists_at row b.0 }

abbrev pub bindings_with : Contents → Option Bytes → List Binding
bindings_with row None = []
bindings_with row (Some port) = map (binding port row) (vlan_bindings row)

abbrev pub bindings_of : Contents → List Binding
bindings_of row = bindings_with row (port_name row)

abbrev pub bindings : Rows → List Binding
bindings r = flat_map (λ e. bindings_of e.1) (rows_of PhysicalPort r)

-- some port's bindings name the switch
abbrev pub is_bound : Rows → ℕ → Bool
is_bound r switch = list_any (λ b. b.switch == switch) (bindings r)

abbrev pub if_bound : {A : Type 0} → Bool → Option A → Option A
if_bound bound x = if bound then x else None

-- ---- the facts

-- the row of each ACL, that of key 0 first
abbrev pub acl_rows : Lists → List ℕ
acl_rows lists = option_to_list lists.all ++ option_to_list lists.own

abbrev pub bind_fact : Binding → Fact
bind_fact b = fact.Bind b.port b.vlan b.switch (acl_rows b.lists)

-- a bound switch with a tunnel_key
abbrev pub vni_fact : Rows → ℕ × Contents → Option Fact
vni_fact r e = if_bound (is_bound r e.0) (option_map (λ vni. fact.Vni vni e.0) (number_at e.1 LogicalTunnelKey))

-- an address of a bound switch whose locator is not the gateway's own
abbrev pub remote_fact : Rows → Remote → Option Fact
remote_fact r a = if_bound (is_bound r a.switch) (option_map (λ ip. fact.Mac a.switch a.mac (There ip)) (other_address (own_ip r) (locator_address r a.locator)))

-- the same, where the address is not learnt on the switch
abbrev pub unlearnt_fact : Rows → List Learnt → Remote → Option Fact
unlearnt_fact r l a = if is_some (found a.switch a.mac l) then None else remote_fact r a

-- a learnt address
abbrev pub learnt_fact : Learnt → Fact
learnt_fact e = fact.Mac e.switch e.mac (Here e.port e.vlan)

abbrev pub mode_at : Rows → ℕ → Mode
mode_at r switch = unwrap_or (option_map mode_of (row_at r (LogicalSwitch, switch))) Service

-- the addresses of a set but for the gateway's own, ascending, each once
abbrev pub set_addresses : Rows → ℕ → List ℕ
set_addresses r set = other_addresses (locator_address r) (own_ip r) (set_locators r set)

abbrev pub flood_to : ℕ → Option ℕ → List ℕ → Option Fact
flood_to switch group [] = None
flood_to switch group (ip ∷ ips) = Some (fact.Flood switch group (ip ∷ ips))

-- a set of a bound switch with an address to send to
abbrev pub flood_fact : Rows → Group → Option Fact
flood_fact r g = if_bound (is_bound r g.switch) (flood_to g.switch g.group (targets (mode_at r g.switch) (set_addresses r g.set)))

-- the lists name the ACL
abbrev pub names_acl : ℕ → Lists → Bool
names_acl acl lists = list_any (λ id. id == acl) (acl_rows lists)

-- some binding's lists name it
abbrev pub is_listed : Rows → ℕ → Bool
is_listed r acl = list_any (λ b. names_acl acl b.lists) (bindings r)

-- an ACL that is listed
abbrev pub acl_fact : Rows → ℕ × Contents → Option Fact
acl_fact r e = if is_listed r e.0 then Some (fact.Acl e.0 (entries_at r e.1)) else None

abbrev pub built : Rows → List Learnt → List Fact
built r l =
    filter_map (vni_fact r) (rows_of LogicalSwitch r)
    ++ map bind_fact (bindings r)
    ++ map learnt_fact l
    ++ filter_map (λ e. option_and_then (unlearnt_fact r l) (remote_of e.1)) (rows_of UcastMacsRemote r)
    ++ filter_map (λ e. option_and_then (flood_fact r) (group_of e.1)) (rows_of McastMacsRemote r)
    ++ filter_map (acl_fact r) (rows_of Acl r)
