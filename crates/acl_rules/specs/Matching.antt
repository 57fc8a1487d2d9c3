-- Which frames an entry matches: those that pass its way, and of whose headers each field that it gives holds.
use Rattle.std.specs.Prelude.{ℕ, Bool, true, false, ◌&&◌, nat_le, ◌==◌, bit_and, Option, Some, None, option_map, option_and_then, unwrap_or}
use Rattle.vtep_base.specs.declared.shapes.Direction.{Direction}
use Rattle.vtep_base.specs.declared.shapes.Direction.TheVariants.{Ingress, Egress}
use Rattle.ether_frames.specs.declared.fields.Headers.{Headers}
use Rattle.ether_frames.specs.declared.fields.Icmp.{Icmp}
use Rattle.ether_frames.specs.declared.fields.Ip.{Ip}
use Rattle.ether_frames.specs.declared.fields.Ports.{Ports}
use Rattle.acl_rules.specs.declared.entry.Entry.{Entry}

-- a field that is absent holds; one that is given holds of what is there
abbrev pub holds : {A : Type 0} → (A → A → Bool) → Option A → Option A → Bool
holds test None there = true
holds test (Some a) None = false
holds test (Some a) (Some b) = test a b

abbrev pub is_same : {A : Type 0} → (A → A → Bool) → Option A → Option A → Bool
is_same eq wanted there = holds eq wanted there

-- the same in the bits of the mask, which are all where it is absent
abbrev pub is_under_mask : ℕ → Option ℕ → Option ℕ → Option ℕ → Bool
is_under_mask all wanted mask there = holds (λ a b. bit_and a (unwrap_or mask all) == bit_and b (unwrap_or mask all)) wanted there

-- within the ends of which one at least is given
abbrev pub is_within : ℕ → ℕ → Option ℕ → Bool
is_within least most None = false
is_within least most (Some n) = nat_le least n && nat_le n most

abbrev pub is_in_range : Option ℕ → Option ℕ → Option ℕ → Bool
is_in_range None None there = true
is_in_range (Some least) most there = is_within least (unwrap_or most 65535) there
is_in_range None (Some most) there = is_within 0 most there

abbrev pub same_direction : Direction → Direction → Bool
same_direction Ingress Ingress = true
same_direction Egress Egress = true
same_direction _ _ = false

abbrev pub frame_matches : Entry → Headers → Bool
frame_matches e h =
    is_same ◌==◌ e.source_mac (Some h.source)
    && is_same ◌==◌ e.dest_mac (Some h.destination)
    && is_same ◌==◌ e.ethertype (Some h.ethertype)

abbrev pub ip_matches : Entry → Option Ip → Bool
ip_matches e ip =
    is_under_mask 0xffff_ffff e.source_ip e.source_mask (option_map (λ i. i.source) ip)
    && is_under_mask 0xffff_ffff e.dest_ip e.dest_mask (option_map (λ i. i.destination) ip)
    && is_same ◌==◌ e.protocol (option_map (λ i. i.protocol) ip)

abbrev pub ports_match : Entry → Option Ports → Bool
ports_match e ports =
    is_in_range e.source_port_min e.source_port_max (option_map (λ p. p.source) ports)
    && is_in_range e.dest_port_min e.dest_port_max (option_map (λ p. p.destination) ports)

abbrev pub tcp_matches : Entry → Option ℕ → Bool
tcp_matches e flags = is_under_mask 511 e.tcp_flags e.tcp_flags_mask flags

abbrev pub icmp_matches : Entry → Option Icmp → Bool
icmp_matches e icmp =
    is_same ◌==◌ e.icmp_type (option_map (λ i. i.kind) icmp)
    && is_same ◌==◌ e.icmp_code (option_map (λ i. i.code) icmp)

abbrev pub matches : Entry → Direction → Headers → Bool
matches e direction h =
    same_direction e.direction direction
    && frame_matches e h
    && ip_matches e h.ip
    && ports_match e (option_and_then (λ i. i.ports) h.ip)
    && tcp_matches e (option_and_then (λ i. i.tcp_flags) h.ip)
    && icmp_matches e (option_and_then (λ i. i.icmp) h.ip)
