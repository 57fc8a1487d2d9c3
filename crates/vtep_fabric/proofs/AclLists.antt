-- A list that is taken out of a map and put back.
use Rattle.std.proofs.Common.{◌≡◌, Bool, true, false, cond, refl, sym, ap, ◌∙◌}
use Rattle.std.specs.Ordering.{eq_by_cmp}
use Rattle.std.specs.declared.cmp.Ordering.{Ordering}
use Rattle.std.specs.Cmp.{IsTotalOrder}
use Rattle.std.specs.FinMap.{IsAntisymmetric}
use Rattle.std.specs.Prelude.{Some, None}
use Rattle.vtep_base.specs.Maps as maps
use Rattle.vtep_base.specs.Maps.{Map}

module _ {K X : Type 0} {R : K → K → Ordering} (o : IsTotalOrder R) (same : IsAntisymmetric R) where
  pub put_back : (m : Map R X) (k : K) (v : X) → maps.insert (maps.remove m k) k v ≡ maps.insert m k v
  put_back m k v = maps.same_map o same _ _ at
    where
      by : (q : K) (b : Bool) → eq_by_cmp R q k ≡ b → cond b (Some v) (cond (eq_by_cmp R q k) None (maps.get m q)) ≡ cond b (Some v) (maps.get m q)
      by q true e = refl
      by q false e = ap (λ t. cond t None (maps.get m q)) e

      at : (q : K) → maps.get (maps.insert (maps.remove m k) k v) q ≡ maps.get (maps.insert m k v) q
      at q = maps.get-insert o (maps.remove m k) k v q ∙ ap (λ t. cond (eq_by_cmp R q k) (Some v) t) (maps.get-remove o m k q)
          ∙ by q (eq_by_cmp R q k) refl ∙ sym (maps.get-insert o m k v q)
