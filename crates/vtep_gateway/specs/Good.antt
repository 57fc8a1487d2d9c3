-- What a gateway that is not stopped always has, of its rows and of what it has learnt.
use Rattle.std.specs.Prelude.{◌≡◌, true, List}
use Rattle.std.specs.List.{list_all}
use Rattle.vtep_base.specs.Texts.{is_name}
use Rattle.vtep_rows.specs.Rows.{Rows}
use Rattle.mac_learning.specs.declared.Learnt.{Learnt}
use Rattle.forward_program.specs.Readings.{own_ip}
use Rattle.local_tables.specs.Local.{IsLocal}
use Rattle.vtep_gateway.specs.Settled.{IsSettled}

-- the rows are settled, the Local tables are those of what is learnt and of the bound switches, and addresses are learnt at ports
-- that have names
pub record IsGood (r : Rows) (l : List Learnt) : Type 0 where
  pub settled : IsSettled r
  pub local : IsLocal (own_ip r) r l
  pub named : list_all (λ e. is_name e.port) l ≡ true
