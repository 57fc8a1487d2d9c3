-- The first row that holds the atoms of a key is found by their stamp.
use Rattle.std.proofs.Common.{◌≡◌, ℕ, zero, suc, ◌<◌, Bool, true, false, cond, T, ◌&&◌, ◌||◌, ◌==◌, nat_lt, List, [], ◌∷◌, map, length, drop, Option, Some, None, refl, sym, ap, ◌∙◌, true≢false, arith}
use Rattle.std.proofs.lemmas.Bool.Decides.{nat_tests}
use Rattle.std.specs.List.{list_any, filter}
use Rattle.std.specs.Option.{option_and_then}
use Rattle.std.specs.Ordering.{eq_by_cmp, nat_cmp, ordering_then, is_lt}
use Rattle.std.specs.Cmp.{Equal-is, eq_by_cmp_equiv, first_so, second_so, ranked}
use Rattle.std.specs.declared.cmp.Ordering.{Ordering}
use Rattle.std.specs.declared.cmp.Ordering.TheVariants.{Less, Equal}
use Rattle.std.specs.FinMap.{is_sorted}
use Rattle.std.specs.FinMap.Entries.{below_all}
use Rattle.vtep_base.specs.Maps as maps
use Rattle.vtep_base.specs.Maps.{Map}
use Rattle.ovsdb_values.specs.declared.atoms.Atom.{Atom}
use Rattle.ovsdb_values.specs.Exact.{same_atom_exact}
use Rattle.vtep_schema.specs.declared.Table.{Table}
use Rattle.vtep_schema.specs.declared.Column.{Column}
use Rattle.vtep_schema.specs.Tables.{table_cmp, same_table, unique_keys}
use Rattle.vtep_rows.specs.declared.stamps.Stamp.{Stamp}
use Rattle.vtep_rows.specs.declared.indexes.Indexes.{Indexes}
use Rattle.vtep_rows.specs.Row.{Contents, atoms_at, first}
use Rattle.vtep_rows.specs.Rows.{Key, key_cmp, Rows, rows_of}
use Rattle.vtep_rows.specs.Orders.{key_exact}
use Rattle.vtep_rows.specs.Marks.{Mark, Place, place_of, place_cmp, mark_cmp, mark_by, is_at_place, stamp_from, stamp_of, with_atom, with_atoms, nth}
use Rattle.vtep_rows.specs.MarkOrders.{place_total, mark_exact}
use Rattle.vtep_rows.specs.Keyed.{holds_only, holds_in, holds, first_key, holds_there, stamp_with}
use Rattle.vtep_rows.specs.Indexes.{IsIndexed}
use Rattle.vtep_rows.proofs.Entries.{both, less, t_first, t_second}
use Rattle.vtep_rows.proofs.Kept.{same_table_exact, same_table_itself}
use Rattle.vtep_rows.proofs.TwinLaws.{one_answer, any_so, any_found, entry_so, counted_so, marked_row}

-- ---- rows that hold the atoms have their stamp

only_so : (xs : List Atom) (x : Atom) → holds_only xs x ≡ true → xs ≡ x ∷ []
only_so [] x h = absurd (true≢false (sym h))
only_so (y ∷ []) x h = ap (λ z. z ∷ []) ((same_atom_exact y x).0 h)
only_so (y ∷ z ∷ zs) x h = absurd (true≢false (sym h))

nothing_left : (xs : List Atom) → (length xs == 0) ≡ true → xs ≡ []
nothing_left [] h = refl
nothing_left (x ∷ xs) h = let none : suc (length xs) ≡ 0 = grind (arith, nat_tests, h) in cc

held_stamp : (cs : List Column) (s : Stamp) (xs : List Atom) (row : Contents) → holds_in cs xs row ≡ true → stamp_from s cs row ≡ Some (with_atoms s xs)
held_stamp [] s xs row h = ap (λ ys. Some (with_atoms s ys)) (sym (nothing_left xs h))
held_stamp (c ∷ cs) s [] row h = absurd (true≢false (sym h))
held_stamp (c ∷ cs) s (x ∷ xs) row h =
    (λ i. let ys = only_so (atoms_at row c) x (first_so (holds_only (atoms_at row c) x) (holds_in cs xs row) h) i in cond (length ys == 0) None (stamp_from (with_atoms s ys) cs row))
    ∙ held_stamp cs (with_atom s x) xs row (second_so (holds_only (atoms_at row c) x) (holds_in cs xs row) h)

its_stamp : (ks : List (List Column)) (xs : List Atom) (row : Contents) → holds (first ks) xs row ≡ true → option_and_then (stamp_of row) (nth 0 ks) ≡ Some (stamp_with xs)
its_stamp [] xs row h = absurd (true≢false (sym h))
its_stamp (cs ∷ ks) xs row h = held_stamp cs (record { id = 0; number = 0 }) xs row h

-- too few atoms
pub too_few : (i : ℕ) (cs : List Column) (xs : List Atom) (row : Contents) → i < length cs → length xs ≡ 0 → holds_in (drop i cs) xs row ≡ false
too_few i [] xs row more none = absurd (omega (arith, more))
too_few zero (c ∷ cs) [] row more none = refl
too_few zero (c ∷ cs) (x ∷ xs) row more none = absurd (omega (arith, none))
too_few (suc i) (c ∷ cs) xs row more none = too_few i cs xs row (omega (arith, more)) none

-- ---- the first of ordered elements

-- a number that may be there is below n
abbrev under : ℕ → Option ℕ → Bool
under n None = false
under n (Some i) = nat_lt i n

next_above : (i : ℕ) → nat_lt i (suc i) ≡ true
next_above i = grind (arith, nat_tests)

level : (i j : ℕ) → nat_lt i (suc j) ≡ true → nat_lt j (suc i) ≡ true → i ≡ j
level i j h g = grind (arith, nat_tests, h, g)

same_under : (a b : Option ℕ) → ((n : ℕ) → under n a ≡ under n b) → a ≡ b
same_under None None h = refl
same_under None (Some j) h = absurd (true≢false (sym (h (suc j) ∙ next_above j)))
same_under (Some i) None h = absurd (true≢false (sym (sym (h (suc i)) ∙ next_above i)))
same_under (Some i) (Some j) h = ap Some (level i j (h (suc j) ∙ next_above j) (sym (h (suc i)) ∙ next_above i))

filter_twice : {A : Type 0} (p q : A → Bool) (xs : List A) → filter p (filter q xs) ≡ filter (λ x. q x && p x) xs
filter_twice p q [] = refl
filter_twice p q (x ∷ xs) =
    elim (q x) as (λ b. filter p (cond b (x ∷ filter q xs) (filter q xs)) ≡ cond (b && p x) (x ∷ filter (λ y. q y && p y) xs) (filter (λ y. q y && p y) xs)) [
      | true ↦ ap (λ ys. cond (p x) (x ∷ ys) ys) (filter_twice p q xs)
      | false ↦ filter_twice p q xs
    ]

still_out : (i j n : ℕ) → i < j → nat_lt i n ≡ false → nat_lt j n ≡ false
still_out i j n h g = grind (arith, nat_tests, h, g)

module _ {K X : Type 0} (R : K → K → Ordering) (id : K → ℕ) (p : K × X → Bool) (rises : (a b : K × X) → p a ≡ true → p b ≡ true → R a.0 b.0 ≡ Less → id a.0 < id b.0) where
  none_under : (e : K × X) (n : ℕ) (es : List (K × X)) → p e ≡ true → T (below_all R e.0 es) → nat_lt (id e.0) n ≡ false → list_any (λ x. p x && nat_lt (id x.0) n) es ≡ false
  none_under e n [] here below out = refl
  none_under e n (x ∷ es) here below out = λ i. one (p x) refl i || none_under e n es here (t_second (is_lt (R e.0 x.0)) (below_all R e.0 es) below) out i
    where
      one : (b : Bool) → p x ≡ b → (p x && nat_lt (id x.0) n) ≡ false
      one true is = ap (λ b. b && nat_lt (id x.0) n) is ∙ still_out (id e.0) (id x.0) n (rises e x here is (less (R e.0 x.0) (t_first (is_lt (R e.0 x.0)) (below_all R e.0 es) below))) out
      one false is = ap (λ b. b && nat_lt (id x.0) n) is

  -- the first that passes has the least number
  least : (es : List (K × X)) → T (is_sorted R es) → (n : ℕ) → list_any (λ x. p x && nat_lt (id x.0) n) es ≡ under n (first (map (λ x. id x.0) (filter p es)))
  least [] sorted n = refl
  least (e ∷ es) sorted n =
      elim (p e) as (λ b. p e ≡ b → ((b && nat_lt (id e.0) n) || list_any (λ x. p x && nat_lt (id x.0) n) es) ≡ under n (first (map (λ x. id x.0) (cond b (e ∷ filter p es) (filter p es))))) [
        | true ↦ λ here. at here (nat_lt (id e.0) n) refl
        | false ↦ λ _. least es (t_second (below_all R e.0 es) (is_sorted R es) sorted) n
      ] refl
    where
      at : p e ≡ true → (b : Bool) → nat_lt (id e.0) n ≡ b → (nat_lt (id e.0) n || list_any (λ x. p x && nat_lt (id x.0) n) es) ≡ nat_lt (id e.0) n
      at here true is = ap (λ b. b || list_any (λ x. p x && nat_lt (id x.0) n) es) is ∙ sym is
      at here false is =
          ap (λ b. b || list_any (λ x. p x && nat_lt (id x.0) n) es) is
          ∙ none_under e n es here (t_first (below_all R e.0 es) (is_sorted R es) sorted) is ∙ sym is

rising : (r : Ordering) (i j : ℕ) → r ≡ Equal → ordering_then r (nat_cmp i j) ≡ Less → i < j
rising r i j tie h = ranked i j Less (sym h ∙ ap (λ x. ordering_then x (nat_cmp i j)) tie)

-- ---- the marks of the stamp show the rows that hold the atoms

module _ (x : Indexes) (m : Map key_cmp Contents) (t : Table) (key : List Atom) where
  abbrev place : Place
  place = (t, 0, (stamp_with key).number, (stamp_with key).id)

  abbrev target : Key × Contents → Bool
  target e = same_table e.0.0 t && holds (first_key t) key e.1

  abbrev there : Mark × ℕ → Bool
  there e = holds_there t key (maps.get m (t, e.0.4))

  abbrev marked : Mark × ℕ → Bool
  marked e = is_at_place place e.0 && there e

  rows_rise : (a b : Key × Contents) → target a ≡ true → target b ≡ true → key_cmp a.0 b.0 ≡ Less → a.0.1 < b.0.1
  rows_rise a b h g =
      let u : a.0.0 ≡ t = same_table_exact a.0.0 t (first_so (same_table a.0.0 t) _ h) in
      let v : b.0.0 ≡ t = same_table_exact b.0.0 t (first_so (same_table b.0.0 t) _ g) in
      rising (table_cmp a.0.0 b.0.0) a.0.1 b.0.1 ((λ i. table_cmp (u i) (v i)) ∙ (Equal-is (table_cmp t t)).0 (same_table_itself t))

  marks_rise : (a b : Mark × ℕ) → marked a ≡ true → marked b ≡ true → mark_cmp a.0 b.0 ≡ Less → a.0.4 < b.0.4
  marks_rise a b h g =
      let u : eq_by_cmp place_cmp (place_of a.0) place ≡ true = first_so (is_at_place place a.0) (there a) h in
      let v : eq_by_cmp place_cmp (place_of b.0) place ≡ true = first_so (is_at_place place b.0) (there b) g in
      rising (place_cmp (place_of a.0) (place_of b.0)) a.0.4 b.0.4
      ((Equal-is (place_cmp (place_of a.0) (place_of b.0))).0
      ((eq_by_cmp_equiv place_total).congr (place_of a.0) place (place_of b.0) u ∙ (eq_by_cmp_equiv place_total).symm place (place_of b.0) ∙ v))

  row_there : (n i : ℕ) (o : Option Contents) → maps.get m (t, i) ≡ o → holds_there t key o ≡ true → nat_lt i n ≡ true → list_any (λ e. target e && nat_lt e.0.1 n) m.list ≡ true
  row_there n i None is h low = absurd (true≢false (sym h))
  row_there n i (Some b) is h low = any_found key_exact (λ e. target e && nat_lt e.0.1 n) (t, i) b m.list is (both (target ((t, i), b)) (nat_lt i n) (both (same_table t t) _ (same_table_itself t) h) low)

  row_found : (n : ℕ) → list_any (λ e. marked e && nat_lt e.0.4 n) x.marks.list ≡ true → list_any (λ e. target e && nat_lt e.0.1 n) m.list ≡ true
  row_found n = any_so (λ e. marked e && nat_lt e.0.4 n) x.marks.list (λ e h.
      row_there n e.0.4 (maps.get m (t, e.0.4)) refl (second_so (is_at_place place e.0) (there e) (first_so (marked e) (nat_lt e.0.4 n) h)) (second_so (marked e) (nat_lt e.0.4 n) h))

  mark_found : (n : ℕ) → IsIndexed x m → list_any (λ e. target e && nat_lt e.0.1 n) m.list ≡ true → list_any (λ e. marked e && nat_lt e.0.4 n) x.marks.list ≡ true
  mark_found n indexed = entry_so (λ e. target e && nat_lt e.0.1 n) m.list m.sorted (λ k b here h.
      let passes : target (k, b) ≡ true = first_so (target (k, b)) (nat_lt k.1 n) h in
      let u : k.0 ≡ t = same_table_exact k.0 t (first_so (same_table k.0 t) _ passes) in
      let held : holds (first_key t) key b ≡ true = second_so (same_table k.0 t) _ passes in
      let is : maps.get m (t, k.1) ≡ Some b = ap (λ y. maps.get m (y, k.1)) (sym u) ∙ here in
      let q = mark_by (t, k.1) 0 (stamp_with key) in
      counted_so (maps.get x.marks q) (marked_row x m (t, k.1) 0 (stamp_with key) b indexed is (its_stamp (unique_keys t) key b held)) (λ c at.
      any_found mark_exact (λ e. marked e && nat_lt e.0.4 n) q c x.marks.list at
      (both (marked (q, c)) (nat_lt k.1 n) (both (is_at_place place q) (there (q, c)) ((eq_by_cmp_equiv place_total).refl place) (ap (holds_there t key) is ∙ held)) (second_so (target (k, b)) (nat_lt k.1 n) h))))

  pub first_is : IsIndexed x m → first (map (λ e. e.0.4) (filter (λ e. holds_there t key (maps.get m (t, e.0.4))) (filter (λ e. is_at_place place e.0) x.marks.list))) ≡ first (map (λ e. e.0.1) (filter target m.list))
  first_is indexed =
      ap (λ es. first (map (λ e. e.0.4) es)) (filter_twice there (λ e. is_at_place place e.0) x.marks.list)
      ∙ same_under (first (map (λ e. e.0.4) (filter marked x.marks.list))) (first (map (λ e. e.0.1) (filter target m.list))) (λ n.
      sym (least mark_cmp (λ k. k.4) marked marks_rise x.marks.list x.marks.sorted n)
      ∙ one_answer _ _ (row_found n) (mark_found n indexed)
      ∙ least key_cmp (λ k. k.1) target rows_rise m.list m.sorted n)

-- ---- the rows of a table

module _ (t : Table) (p : ℕ × Contents → Bool) where
  abbrev in_table : Key × Contents → Bool
  in_table e = same_table e.0.0 t

  abbrev passes : Key × Contents → Bool
  passes e = same_table e.0.0 t && p (e.0.1, e.1)

  ids_pass : (es : List (Key × Contents)) → map (λ row. row.0) (filter p (map (λ e. (e.0.1, e.1)) (filter in_table es))) ≡ map (λ e. e.0.1) (filter passes es)
  ids_pass [] = refl
  ids_pass (e ∷ es) =
      elim (same_table e.0.0 t) as (λ s. map (λ row. row.0) (filter p (map (λ y. (y.0.1, y.1)) (cond s (e ∷ filter in_table es) (filter in_table es)))) ≡ map (λ y. y.0.1) (cond (s && p (e.0.1, e.1)) (e ∷ filter passes es) (filter passes es))) [
        | true ↦ in_it (ids_pass es)
        | false ↦ ids_pass es
      ]
    where
      in_it : map (λ row. row.0) (filter p (map (λ y. (y.0.1, y.1)) (filter in_table es))) ≡ map (λ y. y.0.1) (filter passes es) → map (λ row. row.0) (filter p ((e.0.1, e.1) ∷ map (λ y. (y.0.1, y.1)) (filter in_table es))) ≡ map (λ y. y.0.1) (cond (p (e.0.1, e.1)) (e ∷ filter passes es) (filter passes es))
      in_it rest =
          elim (p (e.0.1, e.1)) as (λ b. map (λ (row : ℕ × Contents). row.0) (cond b ((e.0.1, e.1) ∷ filter p (map (λ y. (y.0.1, y.1)) (filter in_table es))) (filter p (map (λ y. (y.0.1, y.1)) (filter in_table es)))) ≡ map (λ y. y.0.1) (cond b (e ∷ filter passes es) (filter passes es))) [
            | true ↦ ap (λ ids. e.0.1 ∷ ids) rest
            | false ↦ rest
          ]

pub first_of_rows : (r : Rows) (t : Table) (p : ℕ × Contents → Bool)
    → map (λ row. row.0) (filter p (rows_of t r)) ≡ map (λ e. e.0.1) (filter (λ e. same_table e.0.0 t && p (e.0.1, e.1)) r.rows.list)
first_of_rows r t p = ids_pass t p r.rows.list
