-- What a change of the rows or of what is learnt leaves of a gateway.
use Rattle.std.specs.Prelude.{List, [], Result, Ok, Err}
use Rattle.vtep_rows.specs.declared.soundness.Rule.{Rule}
use Rattle.vtep_rows.specs.Rows.{Rows}
use Rattle.mac_learning.specs.declared.Learnt.{Learnt}
use Rattle.forward_program.specs.Readings.{own_ip}
use Rattle.local_tables.specs.Followed.{Committed, commit}
use Rattle.vtep_gateway.specs.declared.Outgoing.{Outgoing}
use Rattle.vtep_gateway.specs.Monitors.{told_all}
use Rattle.vtep_gateway.specs.Vtep.{Vtep}

-- the tunnel end point after something, and what is sent
pub record Taken : Type 0 where
  pub vtep : Vtep
  pub sends : List Outgoing

abbrev pub quiet : Vtep → Taken
quiet v = record { vtep = v; sends = [] }

-- what a commit leaves, and what the monitors are told of it
abbrev pub committed : Vtep → Committed → Taken
committed v c = record { vtep = record v { rows = c.rows; learned = c.learned }; sends = told_all v.rows c.rows v.monitors }

-- where a rule is broken all is as it was
abbrev pub kept : Vtep → Result Committed Rule → Taken
kept v (Ok c) = committed v c
kept v (Err rule) = quiet v

-- the commit of these rows and of this learnt list
abbrev pub commit_of : Vtep → Rows → List Learnt → Result Committed Rule
commit_of v r l = commit (own_ip v.rows) v.rows r l

abbrev pub changed : Vtep → Rows → List Learnt → Taken
changed v r l = kept v (commit_of v r l)
