-- The orders of these keys are total, and only equal ones tie.
use Rattle.std.specs.Prelude.{◌≡◌}
use Rattle.std.proofs.Common.{ap, ◌∙◌}
use Rattle.std.specs.Cmp.{IsTotalOrder, nat_cmp_total, Equal-is, first_so, second_so, tied_then}
use Rattle.std.specs.Ordering.{nat_cmp, ordering_then, is_eq}
use Rattle.std.specs.declared.cmp.Ordering.{Ordering}
use Rattle.std.specs.declared.cmp.Ordering.TheVariants.{Equal}
use Rattle.std.specs.FinMap.{IsAntisymmetric}
use Rattle.std.proofs.lemmas.Cmp.{on_total, then_total}
use Rattle.std.proofs.lemmas.Map.Lookups.{exact_unsigned}
use Rattle.vtep_schema.specs.Tables.{table_cmp}
use Rattle.vtep_schema.specs.Orders.{table_total, table_exact}
use Rattle.vtep_rows.specs.Names.{naming_cmp}

pub first_equal : (r s : Ordering) → ordering_then r s ≡ Equal → r ≡ Equal
first_equal r s e = (Equal-is r).0 (first_so (is_eq r) (is_eq s) (tied_then r s ∙ ap is_eq e))

pub second_equal : (r s : Ordering) → ordering_then r s ≡ Equal → s ≡ Equal
second_equal r s e = (Equal-is s).0 (second_so (is_eq r) (is_eq s) (tied_then r s ∙ ap is_eq e))

pub naming_total : IsTotalOrder naming_cmp
naming_total = then_total (then_total (on_total (λ k. k.0) table_total) (on_total (λ k. k.1) nat_cmp_total)) (on_total (λ k. k.2) table_total)

pub naming_exact : IsAntisymmetric naming_cmp
naming_exact a b e =
    let t = table_cmp a.0 b.0 in
    let n = nat_cmp a.1 b.1 in
    let two = first_equal (ordering_then t n) (table_cmp a.2 b.2) e in
    λ i. (table_exact a.0 b.0 (first_equal t n two) i, exact_unsigned a.1 b.1 (second_equal t n two) i, table_exact a.2 b.2 (second_equal (ordering_then t n) (table_cmp a.2 b.2) e) i)
