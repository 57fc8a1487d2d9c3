use Rattle.std.proofs.Common.{sym, ap, subst, ◌∙◌}
use Rattle.vtep_rows.specs.Rows.{IsRows, collected}
use Rattle.vtep_rows.proofs.Collected.{all_left_out, still_collected}
use Rattle.vtep_rows.proofs.rows.Rows.leave_out.Goals as goal

pub returns : goal.returns
returns c =
    all_left_out (record { made = c.self.inside.made; counter = c.self.inside.counter; rows = c.self.inside.rows }) c.args.self.now c.args.keys c.remove_all.new.self
    c.self.view_is c.self.invariant c.requires c.remove_all.ensures
    ∙ ap collected c.self.view_is

pub invariant_of-self : goal.invariant_of-self
invariant_of-self c =
    subst IsRows
    (sym (all_left_out (record { made = c.self.inside.made; counter = c.self.inside.counter; rows = c.self.inside.rows }) c.args.self.now c.args.keys c.remove_all.new.self
    c.self.view_is c.self.invariant c.requires c.remove_all.ensures))
    (still_collected (record { made = c.self.inside.made; counter = c.self.inside.counter; rows = c.self.inside.rows }) c.self.invariant)
