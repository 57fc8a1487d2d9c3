-- What the rows are after the commits of what is learnt and forgotten.
use Rattle.std.proofs.Common.{◌≡◌, List, Result, Ok, Err, sym, ap, ◌∙◌}
use Rattle.std.specs.Prelude.{IfOk}
use Rattle.vtep_rows.specs.declared.differences.RowChange.{RowChange}
use Rattle.vtep_rows.specs.Rows.{Rows}
use Rattle.vtep_rows.specs.Changes.{changes}
use Rattle.vtep_rows.specs.Database.{Versions}

pub rows_led : (e f : Versions) (r : Rows) → f ≡ record { committed = e.current; current = e.current } → e.current ≡ r → f.current ≡ r
rows_led e f r left is = ap (λ v. v.current) left ∙ is

pub change_led : {E : Type 0} (d b e f : Versions) (r : Rows) (x : Result (List RowChange) E) → b ≡ record { committed = d.current; current = d.current } → e ≡ record b { current = r } → f ≡ record { committed = e.current; current = e.current }
    → IfOk x (λ cs. cs ≡ changes e.committed e.current) → IfOk x (λ cs. cs ≡ changes d.current f.current)
change_led d b e f r (Ok cs) begun led left h = h ∙ (λ i. changes ((ap (λ v. v.committed) led ∙ ap (λ v. v.committed) begun) i) (sym (ap (λ v. v.current) left) i))
change_led d b e f r (Err x) begun led left h = tt
