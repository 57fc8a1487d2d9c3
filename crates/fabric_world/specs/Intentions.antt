-- What the operator wants, and how a line of the intent changes it.
use Rattle.std.specs.Prelude.{ℕ, ⊤, Bool, false, true, not, ◌&&◌, ◌==◌, nat_lt, nat_le, if◌then◌else◌, List, [], ◌∷◌, ◌++◌, length, fold, unwrap_or, Result, Ok, Err, refl}
use Rattle.std.specs.Coded.{Coded, code_by, coded×, coded_ℕ, coded_list}
use Rattle.std.specs.List.{list_any}
use Rattle.std.specs.Ordering.{nat_cmp, ordering_then}
use Rattle.std.specs.Cmp.Lexicographic.{slice_cmp}
use Rattle.std.specs.declared.cmp.Ordering.{Ordering}
use Rattle.vtep_base.specs.Chains.{◌>>=◌}
use Rattle.vtep_base.specs.Reading.{Bytes}
use Rattle.vtep_base.specs.Maps as maps
use Rattle.vtep_base.specs.Maps.{Map}
use Rattle.vtep_base.specs.declared.answers.Mode.{Mode}
use Rattle.vtep_base.specs.declared.answers.Mode.TheVariants.{Source, Service}
use Rattle.vtep_base.specs.declared.answers.LineReason.{LineReason}
use Rattle.vtep_base.specs.declared.answers.LineReason.TheVariants.{Unknown, Repeated, Limit, Use}
use Rattle.vtep_base.specs.contracts.bindings.Binding as binding
use Rattle.vtep_base.specs.declared.bindings.Binding.{Binding}
use Rattle.fabric_world.specs.contracts.Network as network
use Rattle.fabric_world.specs.contracts.WantedEntry as wanted_entry
use Rattle.fabric_world.specs.declared.Fault.{Fault}
use Rattle.fabric_world.specs.declared.Intent.{Intent}
use Rattle.fabric_world.specs.declared.Intent.TheVariants.{Switch, Bind, Acl, Guard, Unguard}
use Rattle.fabric_world.specs.declared.Network.{Network}
use Rattle.fabric_world.specs.declared.WantedEntry.{WantedEntry}

abbrev pub bytes_cmp : Bytes → Bytes → Ordering
bytes_cmp = slice_cmp nat_cmp

-- by gateway, port and VLAN
abbrev pub binding_cmp : Binding → Binding → Ordering
binding_cmp a b = ordering_then (bytes_cmp a.gateway b.gateway) (ordering_then (bytes_cmp a.port b.port) (nat_cmp a.vlan b.vlan))

-- the switches by name, the bindings with the names of their switches, the entries of access lists by name, in the order of their
-- lines, and the guarded bindings with the names of their access lists
pub record Intention : Type 0 where
  pub switches : Map bytes_cmp Network
  pub bindings : Map binding_cmp Bytes
  pub acls : Map bytes_cmp (List WantedEntry)
  pub guards : Map binding_cmp Bytes

abbrev pub nothing : Intention
nothing = record { switches = maps.empty; bindings = maps.empty; acls = maps.empty; guards = maps.empty }

abbrev Places : Type 0
Places = Map binding_cmp Bytes

abbrev places_code : Coded Places
places_code = maps.code (binding.the_row).coded (coded_list coded_ℕ)

abbrev pub intention_code : Coded Intention
intention_code =
    code_by (Map bytes_cmp Network × (Places × (Map bytes_cmp (List WantedEntry) × Places)))
    (coded× (maps.code (coded_list coded_ℕ) (network.the_row).coded)
    (coded× places_code (coded× (maps.code (coded_list coded_ℕ) (coded_list (wanted_entry.the_row).coded)) places_code)))
    (λ i. (i.switches, (i.bindings, (i.acls, i.guards)))) (λ p. record { switches = p.0; bindings = p.1.0; acls = p.1.1.0; guards = p.1.1.1 }) (λ _. refl)

-- ---- refusals

-- a line is refused at its word of this place
abbrev pub refuse : {A : Type 0} → ℕ → LineReason → Result A Fault
refuse place why = Err (record { word = place; reason = why })

abbrev pub refuse_if : Bool → ℕ → LineReason → Result ⊤ Fault
refuse_if holds place why = if holds then refuse place why else Ok tt

-- ---- lines

abbrev pub has_vni : ℕ → Bytes × Network → Bool
has_vni vni e = e.1.vni == vni

abbrev pub is_service : Mode → Bool
is_service Source = false
is_service Service = true

-- how many switches there may be
abbrev pub most_switches : ℕ
most_switches = 1024

abbrev pub most_acls : ℕ
most_acls = 256

-- how many entries an access list may have
abbrev pub most_entries : ℕ
most_entries = 64

abbrev pub entries_of : Intention → Bytes → List WantedEntry
entries_of i acl = unwrap_or (maps.get i.acls acl) []

-- what is wanted after a line; `knows` tells of a name whether it is that of a gateway
abbrev pub intended : (Bytes → Bool) → Intention → Intent → Result Intention Fault
intended knows i (Switch s vni mode) = do
  known ← refuse_if (maps.has i.switches s) 1 Repeated
  taken ← refuse_if (list_any (has_vni vni) i.switches.list) 2 Repeated
  full ← refuse_if (nat_le most_switches (maps.size i.switches)) 0 Limit
  replicates ← refuse_if (is_service mode) 0 Use
  Ok (record i { switches = maps.insert i.switches s (record { vni = vni; mode = mode }) })
intended knows i (Bind s g p vlan) = do
  switch ← refuse_if (not (maps.has i.switches s)) 1 Unknown
  gateway ← refuse_if (not (knows g)) 2 Unknown
  bound ← refuse_if (maps.has i.bindings (record { gateway = g; port = p; vlan = vlan })) 3 Repeated
  Ok (record i { bindings = maps.insert i.bindings (record { gateway = g; port = p; vlan = vlan }) s })
intended knows i (Acl name sequence direction action fields) = do
  listed ← refuse_if (not (maps.has i.acls name) && nat_le most_acls (maps.size i.acls)) 0 Limit
  full ← refuse_if (nat_le most_entries (length (entries_of i name))) 0 Limit
  Ok (record i { acls = maps.insert i.acls name (entries_of i name ++ record { sequence = sequence; direction = direction; action = action; fields = fields } ∷ []) })
intended knows i (Guard g p vlan name) = do
  gateway ← refuse_if (not (knows g)) 1 Unknown
  guarded ← refuse_if (maps.has i.guards (record { gateway = g; port = p; vlan = vlan })) 2 Repeated
  acl ← refuse_if (not (maps.has i.acls name)) 4 Unknown
  Ok (record i { guards = maps.insert i.guards (record { gateway = g; port = p; vlan = vlan }) name })
intended knows i (Unguard g p vlan) = do
  gateway ← refuse_if (not (knows g)) 1 Unknown
  guarded ← refuse_if (not (maps.has i.guards (record { gateway = g; port = p; vlan = vlan }))) 2 Unknown
  Ok (record i { guards = maps.remove i.guards (record { gateway = g; port = p; vlan = vlan }) })

-- ---- access lists

-- behind the entries with the same sequence or a lesser one
abbrev pub placed : WantedEntry → List WantedEntry → List WantedEntry
placed e [] = e ∷ []
placed e (x ∷ xs) = if nat_lt e.sequence x.sequence then e ∷ x ∷ xs else x ∷ placed e xs

-- by sequence, and those of one sequence as they were
abbrev pub in_sequence : List WantedEntry → List WantedEntry
in_sequence entries = fold (λ sorted e. placed e sorted) [] entries
