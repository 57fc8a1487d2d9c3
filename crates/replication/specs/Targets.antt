-- Where frames of a switch that go to several gateways are sent (vtep(5), `replication_mode`).
use Rattle.std.specs.Prelude.{ℕ, List, take}
use Rattle.vtep_base.specs.declared.Mode.{Mode}
use Rattle.vtep_base.specs.declared.Mode.TheVariants.{Source, Service}

-- the gateway sends to each address itself, or to one service node
abbrev pub targets : Mode → List ℕ → List ℕ
targets Source addresses = addresses
targets Service addresses = take 1 addresses
