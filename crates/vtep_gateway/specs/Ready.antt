-- The forwarding state that a gateway keeps beside its rows and what it has learnt.
use Rattle.std.specs.Prelude.{◌≡◌, false, List}
use Rattle.vtep_rows.specs.Rows.{Rows}
use Rattle.mac_learning.specs.declared.Learnt.{Learnt}
use Rattle.forward_program.specs.Spots.{State}
use Rattle.forward_program.specs.Shown.{shown}
use Rattle.vtep_gateway.specs.Gateway.{Running}
use Rattle.vtep_gateway.specs.Good.{IsGood}

-- what the rows and the learnt addresses have in it
abbrev pub fib_of : Rows → List Learnt → State
fib_of r l = record { entries = shown r l; broken = false }

-- all is good, and the forwarding state is theirs
pub record IsReady (g : Running) : Type 0 where
  pub good : IsGood g.state.vtep.rows g.state.vtep.learned
  pub fib : g.fib ≡ fib_of g.state.vtep.rows g.state.vtep.learned
