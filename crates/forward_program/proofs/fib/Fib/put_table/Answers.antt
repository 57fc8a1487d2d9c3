use Rattle.std.proofs.Common.{refl, ap, ◌∙◌}
use Rattle.vtep_rows.specs.Row.{put_all}
use Rattle.forward_program.proofs.RowsThere.{table_is, one_row, rest_is}
use Rattle.forward_program.proofs.fib.Fib.put_table.Goals as goal

pub ids-init : goal.ids-init
ids-init g c = record {
  put = ap (put_all c.args.self.now.entries) (table_is c.args.rows.now c.args.table c.args.own _ _ c.requires c.into_iter-id-iterator.ensures.into_iter_gives c.ids-id-items.ensures);
  same = refl;
}

pub ids-preserved-in-Continue-1 : goal.ids-preserved-in-Continue-1
ids-preserved-in-Continue-1 g c = record {
  put = one_row c.args.rows.now c.args.table c.args.own c.ids.self.entries _ _ _ c.next.new.self c.ids.id-iterator (rest_is _ _ _ c.in-Some.is c.next.ensures.steps) c.in-Some-get.ensures.value c.in_ok-put_row.ensures.ok ∙ c.ids.invariant.put;
  same = c.put_row.ensures.same ∙ c.ids.invariant.same;
}
