-- Places that are emptied one by one, but for those that stay.
use Rattle.std.proofs.Common.{◌≡◌, ◌⊎◌, inl, inr, Bool, true, false, cond, List, [], ◌∷◌, ◌++◌, None, refl, sym, ap, ◌∙◌, subst}
use Rattle.std.specs.Ordering.{eq_by_cmp}
use Rattle.std.specs.Cmp.{Equal-is, eq_by_cmp_equiv}
use Rattle.vtep_base.specs.Maps as maps
use Rattle.forward_program.specs.declared.spots.Spot.{Spot}
use Rattle.forward_program.specs.Built.{IsIn}
use Rattle.forward_program.specs.Spots.{Entries, spot_cmp, spot_total}
use Rattle.forward_program.specs.Follows.{IsCleared}
use Rattle.forward_program.proofs.InLists.{in_front, in_back, in_either}
use Rattle.forward_program.proofs.SpotOrder.{spot_exact}

pub none_cleared : (m : Entries) (staying : List Spot) → IsCleared m m [] staying
none_cleared m staying k out = inr (λ h. h, refl)

pub both_cleared : (m n p : Entries) (gone more staying : List Spot) → IsCleared m n gone staying → IsCleared n p more staying → IsCleared m p (gone ++ more) staying
both_cleared m n p gone more staying first second k out = by (first k out) (second k out)
  where
    by : (IsIn k gone × (maps.get n k ≡ None)) ⊎ ((IsIn k gone → ⊥) × (maps.get n k ≡ maps.get m k)) → (IsIn k more × (maps.get p k ≡ None)) ⊎ ((IsIn k more → ⊥) × (maps.get p k ≡ maps.get n k))
        → (IsIn k (gone ++ more) × (maps.get p k ≡ None)) ⊎ ((IsIn k (gone ++ more) → ⊥) × (maps.get p k ≡ maps.get m k))
    by f (inl s) = inl (in_back k gone more s.0, s.1)
    by (inl f) (inr s) = inl (in_front k gone more f.0, s.1 ∙ f.1)
    by (inr f) (inr s) = inr (λ h. elim (in_either k gone more h) [ inl a ↦ f.0 a | inr b ↦ s.0 b ], s.1 ∙ f.1)

-- of fewer places that stay more is said
pub more_stay : (m n : Entries) (gone staying more : List Spot) → ((k : Spot) → IsIn k staying → IsIn k more) → IsCleared m n gone staying → IsCleared m n gone more
more_stay m n gone staying more so h k out = h k (λ g. out (so k g))

pub one_removed : (m n : Entries) (q : Spot) (staying : List Spot) → n ≡ maps.remove m q → IsCleared m n (q ∷ []) staying
one_removed m n q staying is k out = by (eq_by_cmp spot_cmp k q) refl (ap (λ (x : Entries). maps.get x k) is ∙ maps.get-remove spot_total m q k)
  where
    by : (b : Bool) → eq_by_cmp spot_cmp k q ≡ b → maps.get n k ≡ cond b None (maps.get m k) → (IsIn k (q ∷ []) × (maps.get n k ≡ None)) ⊎ ((IsIn k (q ∷ []) → ⊥) × (maps.get n k ≡ maps.get m k))
    by true tie e = inl (inl (spot_exact k q ((Equal-is (spot_cmp k q)).0 tie)), e)
    by false tie e = inr (λ h. elim h [ inl same ↦ never same tie | inr g ↦ g ], e)
      where
        never : k ≡ q → eq_by_cmp spot_cmp k q ≡ false → ⊥
        never same apart = let clash : true ≡ false = sym (itself k) ∙ ap (eq_by_cmp spot_cmp k) same ∙ apart in cc
          where
            itself : (x : Spot) → eq_by_cmp spot_cmp x x ≡ true
            itself x = (eq_by_cmp_equiv spot_total).refl x

pub one_stays : (m : Entries) (q : Spot) (staying : List Spot) → IsIn q staying → IsCleared m m (q ∷ []) staying
one_stays m q staying is k out = inr (λ h. elim h [ inl same ↦ out (subst (λ x. IsIn x staying) (sym same) is) | inr g ↦ g ], refl)
