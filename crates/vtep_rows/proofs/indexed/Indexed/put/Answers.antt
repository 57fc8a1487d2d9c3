use Rattle.std.proofs.Common.{is_some, ap, ◌∙◌}
use Rattle.vtep_base.specs.Maps as maps
use Rattle.vtep_rows.proofs.IndexLaws.{put_there, put_back_is, indexed_put, indexed_same}
use Rattle.vtep_rows.proofs.indexed.Indexed.put.Goals as goal

pub put_back-requires : goal.put_back-requires
put_back-requires c = ap (λ m. maps.has m (c.args.table, c.args.id)) c.in_ok-old.ensures.ok ∙ ap is_some (put_there c.self.inside.store (c.args.table, c.args.id) c.args.row)

pub returns-in_default-clause-err : goal.returns-in_default-clause-err
returns-in_default-clause-err c =
    c.put_back.ensures ∙ put_back_is c.self.inside.store c.swap.new.self (c.args.table, c.args.id) c.args.row c.in_ok-old.old c.in_ok-old.ensures.ok c.in_ok-old.ensures.before ∙ c.self.view_is

pub invariant_of-self-in_default : goal.invariant_of-self-in_default
invariant_of-self-in_default c =
    indexed_same c.self.inside.indexes c.add_at-counted.new.self c.self.inside.store c.put_back.new.self c.self.invariant
    (c.put_back.ensures ∙ put_back_is c.self.inside.store c.swap.new.self (c.args.table, c.args.id) c.args.row c.in_ok-old.old c.in_ok-old.ensures.ok c.in_ok-old.ensures.before) c.in_default.ensures.err

pub invariant_of-self-2 : goal.invariant_of-self-2
invariant_of-self-2 c =
    indexed_put c.self.inside.indexes c.add_at-counted.new.self c.take_old.new.self c.self.inside.store c.swap.new.self (c.args.table, c.args.id) c.args.row c.in_ok-old.old c.self.invariant
    c.in_ok-old.ensures.ok c.in_ok-old.ensures.before c.in-Ok.ensures.ok c.take_old.ensures

pub returns-clause-ok : goal.returns-clause-ok
returns-clause-ok c = c.in_ok-old.ensures.ok ∙ ap (λ m. maps.insert m (c.args.table, c.args.id) c.args.row) c.self.view_is
