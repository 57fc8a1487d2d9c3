-- Where a frame goes, as it is handed on.
use Rattle.std.specs.Prelude.{ℕ, List, Option, refl}
use Rattle.std.specs.Coded.{Coded, code_by, coded×, coded_ℕ, coded_list, coded_option}
use Rattle.vtep_base.specs.Reading.{Bytes}

-- ports with a VLAN, addresses, the network of the packets to them, and for how many ports and addresses there is room
pub record Hops : Type 0 where
  pub ports : List (Bytes × ℕ)
  pub addresses : List ℕ
  pub vni : Option ℕ
  pub port_room : ℕ
  pub address_room : ℕ

abbrev pub hops_code : Coded Hops
hops_code = code_by (List (Bytes × ℕ) × (List ℕ × (Option ℕ × (ℕ × ℕ))))
    (coded× (coded_list (coded× (coded_list coded_ℕ) coded_ℕ)) (coded× (coded_list coded_ℕ) (coded× (coded_option coded_ℕ) (coded× coded_ℕ coded_ℕ))))
    (λ h. (h.ports, (h.addresses, (h.vni, (h.port_room, h.address_room))))) (λ p. record { ports = p.0; addresses = p.1.0; vni = p.1.1.0; port_room = p.1.1.1.0; address_room = p.1.1.1.1 }) (λ _. refl)
