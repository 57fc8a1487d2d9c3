use Rattle.std.proofs.Common.{◌≡◌, drop}
use Rattle.vtep_gateway.specs.contracts.vtep.Vtep.{the_view}
use Rattle.local_tables.specs.Following.{without_all}
use Rattle.vtep_gateway.specs.Learning.{most_learnt}
use Rattle.vtep_gateway.proofs.vtep.Vtep.evict.Given as goal

abbrev pub invariant-gone : goal.invariant-gone
invariant-gone l = record {
  left : without_all (drop l.entry-index l.gone) l.self-inside.learned.entries ≡ without_all l.gone l.fn.self.learned;
  limit : l.self-inside.learned.limit ≡ most_learnt;
  others : the_view l.self-inside ≡ record l.fn.self { learned = l.self-inside.learned.entries };
}
