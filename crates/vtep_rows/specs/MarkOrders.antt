-- The order of marks is total, and only equal ones tie.
use Rattle.std.specs.Cmp.{IsTotalOrder, nat_cmp_total}
use Rattle.std.specs.FinMap.{IsAntisymmetric}
use Rattle.std.proofs.lemmas.Cmp.{on_total, then_total}
use Rattle.std.proofs.lemmas.Map.Lookups.{exact_unsigned}
use Rattle.std.specs.Ordering.{nat_cmp, ordering_then}
use Rattle.vtep_schema.specs.Tables.{table_cmp}
use Rattle.vtep_schema.specs.Orders.{table_total, table_exact}
use Rattle.vtep_rows.specs.Marks.{mark_cmp, place_cmp, Mark}
use Rattle.vtep_rows.specs.NameOrders.{first_equal, second_equal}

pub place_total : IsTotalOrder place_cmp
place_total = then_total (then_total (then_total (on_total (λ k. k.0) table_total) (on_total (λ k. k.1) nat_cmp_total)) (on_total (λ k. k.2) nat_cmp_total)) (on_total (λ k. k.3) nat_cmp_total)

pub mark_total : IsTotalOrder mark_cmp
mark_total = then_total (on_total (λ (k : Mark). (k.0, k.1, k.2, k.3)) place_total) (on_total (λ (k : Mark). k.4) nat_cmp_total)

pub mark_exact : IsAntisymmetric mark_cmp
mark_exact a b e =
    let r0 = table_cmp a.0 b.0 in
    let r1 = nat_cmp a.1 b.1 in
    let r2 = nat_cmp a.2 b.2 in
    let r3 = nat_cmp a.3 b.3 in
    let r4 = nat_cmp a.4 b.4 in
    let four = first_equal (ordering_then (ordering_then (ordering_then r0 r1) r2) r3) r4 e in
    let three = first_equal (ordering_then (ordering_then r0 r1) r2) r3 four in
    let two = first_equal (ordering_then r0 r1) r2 three in
    λ i. (table_exact a.0 b.0 (first_equal r0 r1 two) i, exact_unsigned a.1 b.1 (second_equal r0 r1 two) i, exact_unsigned a.2 b.2 (second_equal (ordering_then r0 r1) r2 three) i, exact_unsigned a.3 b.3 (second_equal (ordering_then (ordering_then r0 r1) r2) r3 four) i, exact_unsigned a.4 b.4 (second_equal (ordering_then (ordering_then (ordering_then r0 r1) r2) r3) r4 e) i)
