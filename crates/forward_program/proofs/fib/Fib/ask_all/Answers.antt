use Rattle.std.proofs.Common.{map}
use Rattle.std.specs.List.{flat_map}
use Rattle.forward_program.specs.Follows.{learnt_address, remote_addresses}
use Rattle.forward_program.proofs.Asked.{both_asked}
use Rattle.forward_program.proofs.fib.Fib.ask_all.Goals as goal

pub returns-clause-ok : goal.returns-clause-ok
returns-clause-ok g c =
    both_asked _ c.args.learned.now.entries (flat_map remote_addresses c.args.change.now) (map learnt_address c.args.moved.now) c.args.self.now.entries _ _ c.in_ok-ask_rows.ensures.ok c.ask_moved.ensures.ok
