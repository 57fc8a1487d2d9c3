-- Finite maps that compute: std's `FinMap` with its operations open to every proof, the entries in the order of their keys.
--     Map R X                               from keys in the order R to values of X
--     empty, get, has, insert, remove, keep      as Rust's `BTreeMap`
--     keys, values, of_list                 the keys and the values in order;  the map of entries, where the first value of a key stays
--     map_by R, not_below R                 the map of entries in the order R;  its entries from a key on
--     same_map                              maps that answer alike are equal
use Rattle.std.specs.Prelude.{◌≡◌, ℕ, Bool, true, false, cond, not, T, List, [], ◌∷◌, map, filter, length, is_some, Option, Some, None, refl}
use Rattle.std.proofs.Common.{sym, ap, subst, ◌∙◌}
use Rattle.std.specs.Ordering.{eq_by_cmp, is_eq, is_le}
use Rattle.std.specs.Cmp.{IsTotalOrder, alike_right, eq_by_cmp_equiv}
use Rattle.std.specs.declared.cmp.Ordering.{Ordering}
use Rattle.std.specs.FinMap.{find, put, is_sorted, IsAntisymmetric}
use Rattle.std.specs.FinMap.Entries.{where_key, is_sorted-put, is_sorted-where_key, find-put, find-where_key, same_entries}
use Rattle.std.specs.Coded.{Coded, coded×, coded_list}
use base.Stored.{coded_via}
use mathlib.Core.HLevel.{Σ_prop_path}
use lib.Dec.{T_prop}

pub record Map {K : Type 0} (R : K → K → Ordering) (X : Type 0) : Type 0 where
  pub list : List (K × X)
  pub sorted : T (is_sorted R list)

module _ {K X : Type 0} {R : K → K → Ordering} where
  abbrev pub empty : Map R X
  empty = record { list = []; sorted = tt }

  abbrev pub get : Map R X → K → Option X
  get m q = find R q m.list

  abbrev pub has : Map R X → K → Bool
  has m q = is_some (find R q m.list)

  abbrev pub keys : Map R X → List K
  keys m = map (λ e. e.0) m.list

  abbrev pub values : Map R X → List X
  values m = map (λ e. e.1) m.list

  abbrev pub size : Map R X → ℕ
  size m = length m.list

  -- the map of entries that are in order; else the map that is given
  abbrev pub checked : (es : List (K × X)) (b : Bool) → is_sorted R es ≡ b → Map R X → Map R X
  checked es true e m = record { list = es; sorted = subst T (sym e) tt }
  checked es false e m = m

  abbrev pub insert : Map R X → K → X → Map R X
  insert m k v = checked (put R k v m.list) _ refl m

  abbrev pub keep : (K → Bool) → Map R X → Map R X
  keep p m = record { list = where_key R p m.list; sorted = is_sorted-where_key R p m.list m.sorted }

  abbrev pub remove : Map R X → K → Map R X
  remove m k = keep (λ x. not (eq_by_cmp R k x)) m

  abbrev pub of_list : List (K × X) → Map R X
  of_list [] = empty
  of_list (e ∷ es) = insert (of_list es) e.0 e.1

  pub same_list : (m n : Map R X) → m.list ≡ n.list → m ≡ n
  same_list m n e =
      let pairs : ◌≡◌ {A = (es : List (K × X)) × T (is_sorted R es)} (m.list, m.sorted) (n.list, n.sorted) = Σ_prop_path (λ es. T_prop _) e in
      λ i. record { list = (pairs i).0; sorted = (pairs i).1 }

  abbrev entries : Map R X → List (K × X)
  entries m = m.list

  -- how a map is stored
  abbrev pub code : Coded K → Coded X → Coded (Map R X)
  code k x = coded_via (coded_list (coded× k x)) entries same_list

  pub list-checked : (es : List (K × X)) (b : Bool) (e : is_sorted R es ≡ b) (m : Map R X) → T b → (checked es b e m).list ≡ es
  list-checked es true e m h = refl
  list-checked es false e m h = absurd h

turned : {A : Type 0} (b : Bool) (x y : A) → cond (not b) x y ≡ cond b y x
turned true x y = refl
turned false x y = refl

module _ {K X : Type 0} {R : K → K → Ordering} (o : IsTotalOrder R) where
  pub same_map : IsAntisymmetric R → (m n : Map R X) → ((q : K) → get m q ≡ get n q) → m ≡ n
  same_map same m n is = same_list m n (same_entries R o same m.list n.list m.sorted n.sorted is)

  pub list-insert : (m : Map R X) (k : K) (v : X) → (insert m k v).list ≡ put R k v m.list
  list-insert m k v = list-checked _ _ refl m (is_sorted-put R o k v m.list m.sorted)

  pub get-insert : (m : Map R X) (k : K) (v : X) (q : K) → get (insert m k v) q ≡ cond (eq_by_cmp R q k) (Some v) (get m q)
  get-insert m k v q = ap (find R q) (list-insert m k v) ∙ find-put R o q k v m.list

  pub get-remove : (m : Map R X) (k q : K) → get (remove m k) q ≡ cond (eq_by_cmp R q k) None (get m q)
  get-remove m k q = find-where_key R (λ x. not (eq_by_cmp R k x)) q (λ x t. ap (λ r. not (is_eq r)) (sym (alike_right o q x k t))) m.list
      ∙ turned (eq_by_cmp R k q) _ _ ∙ ap (λ b. cond b None (get m q)) ((eq_by_cmp_equiv o).symm k q)

  pub get-of_list : (es : List (K × X)) (q : K) → get (of_list {R = R} es) q ≡ find R q es
  get-of_list [] q = refl
  get-of_list (e ∷ es) q = get-insert (of_list es) e.0 e.1 q ∙ ap (cond (eq_by_cmp R q e.0) (Some e.1)) (get-of_list es q)

module _ {K X : Type 0} (R : K → K → Ordering) where
  -- the map of these entries, in the order R
  abbrev pub map_by : List (K × X) → Map R X
  map_by es = of_list es

  -- the entries whose keys are not below this one, or all
  abbrev pub not_below : Option K → Map R X → List (K × X)
  not_below None m = m.list
  not_below (Some k) m = filter (λ e. is_le (R k e.0)) m.list
