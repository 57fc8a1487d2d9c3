use Rattle.std.proofs.Common.{refl, sym, ap, subst, ◌∙◌}
use Rattle.std.specs.Vec.Iter.{into_iter_items}
use Rattle.vtep_rows.specs.Database.{IsCollecting, after_table}
use Rattle.vtep_rows.proofs.TouchedCollected.{first_looked, next_id_looked, still_formed, formed_at}
use Rattle.vtep_rows.proofs.database.Database.collect_table.Goals as goal

pub ids-init : goal.ids-init
ids-init c = record {
  committed = refl;
  current = refl;
  rows = λ m is.
      subst (λ ids. IsCollecting m c.args.self.now.current.rows (after_table c.args.table ids c.args.candidates.now.keys))
      (sym (c.into_iter-id-iterator.ensures.into_iter_gives.0 ∙ c.into_vec-id-items.ensures ∙ c.in_ok-ids.ensures))
      (first_looked m c.args.self.now.current.rows c.args.table c.args.candidates.now.keys is);
}

pub ids-preserved : goal.ids-preserved
ids-preserved c =
    let current = ap (λ v. v.current) c.in_ok-collect_row.ensures.row in
    record {
      committed = ap (λ v. v.committed) c.in_ok-collect_row.ensures.row ∙ c.ids.invariant.committed;
      current = still_formed c.collect_row.new.self.current c.ids.self.current c.args.self.now.current (formed_at c.collect_row.new.self.current c.ids.self.current (c.args.table, c.in-Some.id) current) c.ids.invariant.current;
      rows = λ m is.
          subst (λ r. IsCollecting m r.rows (after_table c.args.table (into_iter_items c.next.new.self) c.collect_row.new.candidates.keys)) (sym current)
          (next_id_looked m c.ids.self.current c.args.table c.in-Some.id (into_iter_items c.next.new.self) c.ids.candidates.keys c.collect_row.new.candidates.keys
          c.in_ok-collect_row.ensures.candidates c.in_ok-collect_row.ensures.later
          (subst (λ ids. IsCollecting m c.ids.self.current.rows (after_table c.args.table ids c.ids.candidates.keys)) c.in-Some.ensures.steps.0 (c.ids.invariant.rows m is)));
    }
