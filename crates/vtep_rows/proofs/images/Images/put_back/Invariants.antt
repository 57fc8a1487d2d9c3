use Rattle.std.proofs.Common.{◌≡◌, true}
use Rattle.vtep_rows.specs.Database.{images_fit, all_backed}
use Rattle.vtep_rows.proofs.images.Images.put_back.Given as goal

abbrev pub invariant-images : goal.invariant-images
invariant-images l = record {
  fit : images_fit l.rows l.table-iterator ≡ true;
  done : all_backed l.rows l.table-iterator ≡ all_backed l.initial.rows l.fn.self.list;
}
