-- Places of addresses.
use Rattle.std.specs.Prelude.{Bool, true, false}
use Rattle.forward_program.specs.declared.facts.Place.{Place}
use Rattle.forward_program.specs.declared.facts.Place.TheVariants.{Here, There}

abbrev pub is_here : Place → Bool
is_here (Here port vlan) = true
is_here (There ip) = false
