-- What a list has at a key that was made key by key.
use Rattle.std.proofs.Common.{◌≡◌, Bool, true, false, cond, ◌||◌, List, [], ◌∷◌, ◌++◌, Option, Some, None, is_some, option_map, refl, sym, ap, ◌∙◌}
use Rattle.std.specs.List.{list_any, cons_option}
use Rattle.std.specs.Ordering.{eq_by_cmp}
use Rattle.std.specs.Cmp.{Equal-is}
use Rattle.std.specs.FinMap.{find}
use Rattle.vtep_rows.specs.Rows.{Key, key_cmp}
use Rattle.vtep_rows.specs.Orders.{key_exact}
use Rattle.monitor_updates.specs.Noted.{listed}

pub none_of : {A : Type 0} (x : Option A) → is_some x ≡ false → x ≡ None
none_of None e = refl
none_of (Some a) e = cc

-- where an item is in front
abbrev front : {U : Type 0} → Bool → Option U → Option U → Option U
front b None x = x
front b (Some u) x = cond b (Some u) x

front_of : {U : Type 0} (b a : Bool) (r y : Option U) → (b ≡ true → r ≡ y) → front b r (cond a y None) ≡ cond (b || a) y None
front_of false a None y e = refl
front_of false a (Some u) y e = refl
front_of true a (Some u) y e = e refl
front_of true true None y e = refl
front_of true false None y e = e refl

absent : {U : Type 0} (b : Bool) (y : Option U) → (b ≡ false → y ≡ None) → cond b y None ≡ y
absent true y e = refl
absent false y e = sym (e refl)

find-front : {U : Type 0} (q k : Key) (r : Option U) (es : List (Key × U)) → find key_cmp q (cons_option (option_map (λ u. (k, u)) r) es) ≡ front (eq_by_cmp key_cmp q k) r (find key_cmp q es)
find-front q k None es = refl
find-front q k (Some u) es = refl

find-among : {U : Type 0} (f : Key → Option U) (ks : List Key) (q : Key) → find key_cmp q (listed f ks) ≡ cond (list_any (eq_by_cmp key_cmp q) ks) (f q) None
find-among f [] q = refl
find-among f (k ∷ ks) q =
    find-front q k (f k) (listed f ks)
    ∙ ap (front (eq_by_cmp key_cmp q k) (f k)) (find-among f ks q)
    ∙ front_of (eq_by_cmp key_cmp q k) (list_any (eq_by_cmp key_cmp q) ks) (f k) (f q) (λ e. ap f (sym (key_exact q k ((Equal-is (key_cmp q k)).0 e))))

-- the list has at a key what f gives there, where f gives nothing elsewhere
pub find-listed : {U : Type 0} (f : Key → Option U) (ks : List Key) (q : Key) → (list_any (eq_by_cmp key_cmp q) ks ≡ false → f q ≡ None) → find key_cmp q (listed f ks) ≡ f q
find-listed f ks q gone = find-among f ks q ∙ absent (list_any (eq_by_cmp key_cmp q) ks) (f q) gone

-- what isn't in two lists is in neither
pub both_gone : {U : Type 0} (q : Key) (es fs : List (Key × U)) → is_some (find key_cmp q (es ++ fs)) ≡ false → (find key_cmp q es ≡ None) × (find key_cmp q fs ≡ None)
both_gone q [] fs e = (refl, none_of _ e)
both_gone q (x ∷ es) fs e = by (eq_by_cmp key_cmp q x.0) e (both_gone q es fs)
  where
    by : (b : Bool) → is_some (cond b (Some x.1) (find key_cmp q (es ++ fs))) ≡ false → (is_some (find key_cmp q (es ++ fs)) ≡ false → (find key_cmp q es ≡ None) × (find key_cmp q fs ≡ None))
        → (cond b (Some x.1) (find key_cmp q es) ≡ None) × (find key_cmp q fs ≡ None)
    by true e rest = absurd (cc)
    by false e rest = rest e
