use Rattle.std.proofs.Common.{List, ap, ◌∙◌}
use Rattle.vtep_rows.specs.declared.differences.RowChange.{RowChange}
use Rattle.forward_program.specs.Follows.{acls_followed}
use Rattle.forward_program.proofs.Led.{ok_led}
use Rattle.forward_program.proofs.Moves.{own_ip_was, own_ip_is}
use Rattle.forward_program.proofs.fib.Fib.follow.Goals as goal

pub returns-clause-state : goal.returns-clause-state
returns-clause-state g c before known sound_before once_known is moved was =
    ok_led before c.args.rows.now sound_before c.requires.rows c.requires.sound c.args.own (own_ip_was before c.args.rows.now sound_before c.args.change.now is c.requires.keeps c.args.own c.requires.own)
    (own_ip_is before c.args.rows.now sound_before c.args.change.now is c.requires.keeps c.args.own c.requires.own) c.args.change.now is c.clear_rows.ensures.rows known c.args.learned.now.entries c.args.moved.now once_known c.requires.once moved
    c.ask_all.result c.args.self.now.entries c.clear_rows.new.self.entries c.put_rows.new.self.entries c.follow_acls.new.self.entries c.ask_all.new.self.entries was c.clear_rows.ensures.cleared c.in_ok-put_rows.ensures.ok
    (c.in_ok-follow_acls.ensures.ok ∙ ap (λ (cs : List RowChange). acls_followed c.args.rows.now cs c.put_rows.new.self.entries) c.acl_tail.ensures) c.ask_all.ensures.ok
