-- Places of a gateway, which are ports and VLANs, in order.
use Rattle.std.specs.Prelude.{ℕ, ◌==◌, List, map, filter}
use Rattle.std.specs.Ordering.{nat_cmp, ordering_then}
use Rattle.std.specs.Cmp.Lexicographic.{slice_cmp}
use Rattle.std.specs.declared.cmp.Ordering.{Ordering}
use Rattle.std.specs.Coded.{Coded, coded×, coded_ℕ, coded_list}
use Rattle.vtep_base.specs.Reading.{Bytes}
use Rattle.vtep_base.specs.Maps as maps

-- a port's name and a VLAN
abbrev pub Place : Type 0
Place = Bytes × ℕ

-- by name, and then by VLAN
abbrev pub place_cmp : Place → Place → Ordering
place_cmp a b = ordering_then (slice_cmp nat_cmp a.0 b.0) (nat_cmp a.1 b.1)

abbrev pub places_code : Coded (maps.Map place_cmp ℕ)
places_code = maps.code (coded× (coded_list coded_ℕ) coded_ℕ) coded_ℕ

-- the places that are bound to a switch, in order
abbrev pub places_of : ℕ → List (Place × ℕ) → List Place
places_of switch entries = map (λ e. e.0) (filter (λ e. e.1 == switch) entries)
