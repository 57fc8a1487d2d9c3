use Rattle.std.proofs.Common.{ap, ◌∙◌, refl, arith}
use Rattle.vtep_schema.specs.declared.Table.TheVariants.{Global}
use Rattle.vtep_rows.specs.Tallies.{count_at}
use Rattle.vtep_rows.proofs.NameCounts.{lowered_more}
use Rattle.vtep_rows.proofs.names.Names.lower_first.Goals as goal

pub keys-preserved : goal.keys-preserved
keys-preserved c = record {
  counts = λ k t. ap (λ m. count_at m (k.0, k.1, t)) c.lower.ensures
      ∙ lowered_more c.keys.self c.args.self.now c.args.of t k c.args.keys.now c.keys.i _ (Global, 0) (omega arith) refl (c.keys.invariant.counts k t);
  within = omega arith;
}
