-- Rows with one unique key are found by its stamp.
use Rattle.std.proofs.Common.{◌≡◌, ℕ, zero, suc, ◌+◌, ◌≤◌, ◌==◌, Bool, true, false, not, cond, T, ◌&&◌, ◌||◌, List, [], ◌∷◌, length, Option, Some, None, refl, sym, ap, ◌∙◌, true≢false, arith}
use Rattle.std.proofs.lemmas.Bool.Decides.{nat_tests}
use Rattle.std.specs.List.{list_any, filter}
use Rattle.std.specs.Option.{unwrap_or, option_and_then}
use Rattle.std.specs.Ordering.{eq_by_cmp, is_eq}
use Rattle.std.specs.Cmp.{eq_by_cmp_equiv, first_so, second_so}
use Rattle.std.specs.declared.cmp.Ordering.{Ordering}
use Rattle.std.specs.declared.cmp.Ordering.TheVariants.{Less, Equal, Greater}
use Rattle.std.specs.FinMap.{find, is_sorted, IsAntisymmetric}
use Rattle.std.specs.FinMap.Entries.{below_all}
use Rattle.vtep_base.specs.Maps as maps
use Rattle.vtep_base.specs.Maps.{Map}
use Rattle.ovsdb_values.specs.declared.atoms.Atom.{Atom}
use Rattle.ovsdb_values.specs.Exact.{same_atoms_exact}
use Rattle.vtep_schema.specs.declared.Table.{Table}
use Rattle.vtep_schema.specs.declared.Table.TheVariants.{Global}
use Rattle.vtep_schema.specs.declared.Column.{Column}
use Rattle.vtep_schema.specs.Tables.{same_table, unique_keys}
use Rattle.vtep_rows.specs.declared.stamps.Stamp.{Stamp}
use Rattle.vtep_rows.specs.declared.indexes.Indexes.{Indexes}
use Rattle.vtep_rows.specs.Row.{Contents, atoms_at}
use Rattle.vtep_rows.specs.Rows.{Key, key_cmp, Rows, rows_of}
use Rattle.vtep_rows.specs.Orders.{key_exact}
use Rattle.vtep_rows.specs.Sound.{hold_same, agree, has_twin}
use Rattle.vtep_rows.specs.Tallies.{count_at}
use Rattle.vtep_rows.specs.Marks.{Mark, mark_cmp, mark_by, is_at_place, times, marked_by, stamp_from, stamp_of, stamp_at, with_atoms, nth, agree_in, agree_at, agree_there}
use Rattle.vtep_rows.specs.MarkOrders.{place_total, mark_total, mark_exact}
use Rattle.vtep_rows.specs.Indexes.{Marked, adds, total, part, IsIndexed}
use Rattle.vtep_rows.proofs.Entries.{both, same_some, t_second}
use Rattle.vtep_rows.proofs.Kept.{same_table_exact, same_table_itself}
use Rattle.vtep_rows.proofs.Anys.{any_alike, any_filter, any_none, any_either}
use Rattle.vtep_rows.proofs.SoundLaws.{first_found, later_found}
use Rattle.vtep_rows.proofs.Sums.{total-gone}

-- ---- elements that pass

pub one_answer : (a b : Bool) → (a ≡ true → b ≡ true) → (b ≡ true → a ≡ true) → a ≡ b
one_answer true b f g = sym (f refl)
one_answer false true f g = g refl
one_answer false false f g = refl

or_later : (a b : Bool) → b ≡ true → (a || b) ≡ true
or_later true b e = refl
or_later false b e = e

pub any_so : {A C : Type 0} (p : A → Bool) (xs : List A) → ((x : A) → p x ≡ true → C) → list_any p xs ≡ true → C
any_so p [] so h = absurd (true≢false (sym h))
any_so {A} {C} p (x ∷ xs) so h =
    elim (p x) as (λ b. p x ≡ b → (b || list_any p xs) ≡ true → C) [ true ↦ λ e _. so x e | false ↦ λ _ g. any_so p xs so g ] refl h

-- an entry that is found, and passes
pub any_found : {K X : Type 0} {R : K → K → Ordering} → IsAntisymmetric R → (p : K × X → Bool) (q : K) (x : X) (es : List (K × X)) → find R q es ≡ Some x → p (q, x) ≡ true → list_any p es ≡ true
any_found same p q x [] is h = cc
any_found {R = R} same p q x (e ∷ es) is h =
    elim (R q e.0) as (λ r. R q e.0 ≡ r → cond (is_eq r) (Some e.1) (find R q es) ≡ Some x → (p e || list_any p es) ≡ true) [
      | Less ↦ λ _ later. or_later (p e) (list_any p es) (any_found same p q x es later h)
      | Equal ↦ λ tie here. ap (λ b. b || list_any p es) ((λ i. p (sym (same q e.0 tie) i, same_some e.1 x here i)) ∙ h)
      | Greater ↦ λ _ later. or_later (p e) (list_any p es) (any_found same p q x es later h)
    ] refl is

-- what passes is a row that is found
pub entry_so : {C : Type 0} (p : Key × Contents → Bool) (es : List (Key × Contents)) → T (is_sorted key_cmp es) → ((k : Key) (row : Contents) → find key_cmp k es ≡ Some row → p (k, row) ≡ true → C) → list_any p es ≡ true → C
entry_so p [] sorted so h = absurd (true≢false (sym h))
entry_so {C} p (e ∷ es) sorted so h =
    elim (p e) as (λ b. p e ≡ b → (b || list_any p es) ≡ true → C) [
      | true ↦ λ passes _. so e.0 e.1 (first_found e es) passes
      | false ↦ λ _ g. entry_so p es (t_second (below_all key_cmp e.0 es) (is_sorted key_cmp es) sorted) (λ k row is. so k row (later_found k row e es sorted is)) g
    ] refl h

-- ---- rows that agree in a key have one stamp

held_same : (xs ys : List Atom) → hold_same xs ys ≡ true → xs ≡ ys
held_same [] ys h = absurd (true≢false (sym h))
held_same (x ∷ xs) ys h = (same_atoms_exact (x ∷ xs) ys).0 h

holds_some : (xs ys : List Atom) → hold_same xs ys ≡ true → (length xs == 0) ≡ false
holds_some [] ys h = absurd (true≢false (sym h))
holds_some (x ∷ xs) ys h = grind (arith, nat_tests)

agree_stamp : (cs : List Column) (s : Stamp) (a b : Contents) → agree cs a b ≡ true → stamp_from s cs a ≡ stamp_from s cs b
agree_stamp [] s a b h = refl
agree_stamp (c ∷ cs) s a b h =
    let e : atoms_at a c ≡ atoms_at b c = held_same (atoms_at a c) (atoms_at b c) (first_so (hold_same (atoms_at a c) (atoms_at b c)) (agree cs a b) h) in
    (λ i. cond (length (e i) == 0) None (stamp_from (with_atoms s (e i)) cs a))
    ∙ ap (cond (length (atoms_at b c) == 0) None) (agree_stamp cs (with_atoms s (atoms_at b c)) a b (second_so (hold_same (atoms_at a c) (atoms_at b c)) (agree cs a b) h))

agree_stamped : (cs : List Column) (s : Stamp) (a b : Contents) → agree cs a b ≡ true → stamp_from s cs a ≡ None → ⊥
agree_stamped [] s a b h none = cc
agree_stamped (c ∷ cs) s a b h none =
    agree_stamped cs (with_atoms s (atoms_at a c)) a b (second_so (hold_same (atoms_at a c) (atoms_at b c)) (agree cs a b) h)
    (sym (ap (λ x. cond x None (stamp_from (with_atoms s (atoms_at a c)) cs a)) (holds_some (atoms_at a c) (atoms_at b c) (first_so (hold_same (atoms_at a c) (atoms_at b c)) (agree cs a b) h))) ∙ none)

in_same : (o : Option (List Column)) (a b : Contents) → agree_in o a b ≡ true → option_and_then (stamp_of a) o ≡ option_and_then (stamp_of b) o
in_same None a b h = refl
in_same (Some cs) a b h = agree_stamp cs (record { id = 0; number = 0 }) a b h

in_stamped : (o : Option (List Column)) (a b : Contents) → agree_in o a b ≡ true → option_and_then (stamp_of a) o ≡ None → ⊥
in_stamped None a b h none = true≢false (sym h)
in_stamped (Some cs) a b h none = agree_stamped cs (record { id = 0; number = 0 }) a b h none

-- ---- each key of a row has its mark

beyond : (t : Table) (n : ℕ) → nth (suc (suc n)) (unique_keys t) ≡ None
beyond Global n = refl
beyond _ n = refl

itself : (q : Mark) → eq_by_cmp mark_cmp q q ≡ true
itself q = (eq_by_cmp_equiv mark_total).refl q

in_front : (a b : ℕ) → a ≡ 1 → 1 ≤ a + b
in_front a b e = omega arith

behind : (a b : ℕ) → b ≡ 1 → 1 ≤ a + b
behind a b e = omega arith

once : (k : Key) (place : ℕ) (s : Stamp) (o : Option Stamp) → o ≡ Some s → times (mark_by k place s) k place o ≡ 1
once k place s o e = ap (times (mark_by k place s) k place) e ∙ ap (λ b. cond b 1 0) (itself (mark_by k place s))

is_marked : (place : ℕ) (k : Key) (s : Stamp) (row : Contents) → stamp_at k.0 place row ≡ Some s → 1 ≤ marked_by (mark_by k place s) k row
is_marked zero k s row is = in_front _ _ (once k 0 s (stamp_at k.0 0 row) is)
is_marked (suc zero) k s row is = behind _ _ (once k 1 s (stamp_at k.0 1 row) is)
is_marked (suc (suc n)) k s row is =
    let none : stamp_at k.0 (suc (suc n)) row ≡ None = ap (option_and_then (stamp_of row)) (beyond k.0 n) in
    let clash : Some s ≡ None = sym is ∙ none in
    cc

within : (p f t c : ℕ) → p + f ≡ t → c ≡ t → 1 ≤ f → 1 ≤ c
within p f t c e g h = omega (arith, e, g, h)

pub counted_so : {C : Type 0} (o : Option ℕ) → 1 ≤ unwrap_or o 0 → ((n : ℕ) → o ≡ Some n → C) → C
counted_so None h so = absurd (omega (arith, h))
counted_so (Some n) h so = so n refl

-- a row with this key stands among the marks of its stamp
pub marked_row : (x : Indexes) (m : Map key_cmp Contents) (k : Key) (place : ℕ) (s : Stamp) (row : Contents) → IsIndexed x m → maps.get m k ≡ Some row → stamp_at k.0 place row ≡ Some s
    → 1 ≤ count_at x.marks (mark_by k place s)
marked_row x m k place s row is there stamp =
    let q = mark_by k place s in
    within (total (adds (Marked q)) (maps.remove m k)) (marked_by q k row) (total (adds (Marked q)) m) (count_at x.marks q)
    (ap (λ o. total (adds (Marked q)) (maps.remove m k) + part (adds (Marked q)) k o) (sym there) ∙ total-gone (adds (Marked q)) m k) (is (Marked q)) (is_marked place k s row stamp)

module _ (x : Indexes) (m : Map key_cmp Contents) (t : Table) (place id : ℕ) (row : Contents) where
  abbrev twin : Key × Contents → Bool
  twin e = same_table e.0.0 t && (not (e.0.1 == id) && agree_at t place row e.1)

  abbrev found : Stamp → Mark × ℕ → Bool
  found s e = is_at_place (t, place, s.number, s.id) e.0 && (not (e.0.4 == id) && agree_there t place row (maps.get m (t, e.0.4)))

  is_there : (i : ℕ) (o : Option Contents) → maps.get m (t, i) ≡ o → not (i == id) ≡ true → agree_there t place row o ≡ true → list_any twin m.list ≡ true
  is_there i None is other h = absurd (true≢false (sym h))
  is_there i (Some b) is other h = any_found key_exact twin (t, i) b m.list is (both (same_table t t) _ (same_table_itself t) (both (not (i == id)) _ other h))

  twin_found : (s : Stamp) → list_any (found s) x.marks.list ≡ true → list_any twin m.list ≡ true
  twin_found s = any_so (found s) x.marks.list (λ e h.
      let rest = second_so (is_at_place (t, place, s.number, s.id) e.0) (not (e.0.4 == id) && agree_there t place row (maps.get m (t, e.0.4))) h in
      is_there e.0.4 (maps.get m (t, e.0.4)) refl (first_so _ _ rest) (second_so _ _ rest))

  found_twin : (s : Stamp) → IsIndexed x m → stamp_at t place row ≡ Some s → list_any twin m.list ≡ true → list_any (found s) x.marks.list ≡ true
  found_twin s indexed is = entry_so twin m.list m.sorted (λ k b here h.
      let u : k.0 ≡ t = same_table_exact k.0 t (first_so (same_table k.0 t) _ h) in
      let rest : (not (k.1 == id) && agree_at t place row b) ≡ true = second_so (same_table k.0 t) _ h in
      let same : agree_at t place row b ≡ true = second_so (not (k.1 == id)) (agree_at t place row b) rest in
      let there : maps.get m (t, k.1) ≡ Some b = ap (λ y. maps.get m (y, k.1)) (sym u) ∙ here in
      let stamp : stamp_at t place b ≡ Some s = sym (in_same (nth place (unique_keys t)) row b same) ∙ is in
      let q = mark_by (t, k.1) place s in
      counted_so (maps.get x.marks q) (marked_row x m (t, k.1) place s b indexed there stamp) (λ n held.
      any_found mark_exact (found s) q n x.marks.list held
      (both _ _ (at_place s k.1) (both (not (k.1 == id)) _ (first_so (not (k.1 == id)) (agree_at t place row b) rest) (ap (agree_there t place row) there ∙ same)))))
    where
      at_place : (s : Stamp) (i : ℕ) → is_at_place (t, place, s.number, s.id) (mark_by (t, i) place s) ≡ true
      at_place s i = (eq_by_cmp_equiv place_total).refl (t, place, s.number, s.id)

  pub twin_is : (s : Stamp) → IsIndexed x m → stamp_at t place row ≡ Some s
      → list_any (λ e. not (e.0.4 == id) && agree_there t place row (maps.get m (t, e.0.4))) (filter (λ e. is_at_place (t, place, s.number, s.id) e.0) x.marks.list) ≡ list_any twin m.list
  twin_is s indexed is =
      any_filter (λ e. not (e.0.4 == id) && agree_there t place row (maps.get m (t, e.0.4))) (λ e. is_at_place (t, place, s.number, s.id) e.0) x.marks.list
      ∙ one_answer (list_any (found s) x.marks.list) (list_any twin m.list) (twin_found s) (found_twin s indexed is)

  pub no_twin : stamp_at t place row ≡ None → false ≡ list_any twin m.list
  no_twin none = sym (any_alike twin (λ e. false) (λ e. off e (twin e) refl) m.list ∙ any_none m.list)
    where
      off : (e : Key × Contents) (b : Bool) → twin e ≡ b → twin e ≡ false
      off e false is = is
      off e true is = absurd (in_stamped (nth place (unique_keys t)) row e.1 (second_so (not (e.0.1 == id)) _ (second_so (same_table e.0.0 t) _ is)) none)

-- ---- a table has at most two unique keys

two_keys : (t : Table) (a b : Contents) → list_any (λ cs. agree cs a b) (unique_keys t) ≡ (agree_at t 0 a b || agree_at t 1 a b)
two_keys t a b = by (unique_keys t) (beyond t 0)
  where
    alone : (x : Bool) → (x || false) ≡ x
    alone true = refl
    alone false = refl

    by : (ks : List (List Column)) → nth 2 ks ≡ None → list_any (λ cs. agree cs a b) ks ≡ (agree_in (nth 0 ks) a b || agree_in (nth 1 ks) a b)
    by [] e = refl
    by (k ∷ []) e = refl
    by (k ∷ l ∷ []) e = ap (λ x. agree k a b || x) (alone (agree l a b))
    by (k ∷ l ∷ n ∷ ks) e = cc

apart : (n a b : Bool) → (n && (a || b)) ≡ ((n && a) || (n && b))
apart true a b = refl
apart false a b = refl

pub either_key : (r : Rows) (t : Table) (id : ℕ) (row : Contents)
    → (list_any (λ (other : ℕ × Contents). not (other.0 == id) && agree_at t 0 row other.1) (rows_of t r) || list_any (λ (other : ℕ × Contents). not (other.0 == id) && agree_at t 1 row other.1) (rows_of t r))
    ≡ has_twin r t (id, row)
either_key r t id row =
    sym (any_alike (λ (other : ℕ × Contents). not (other.0 == id) && list_any (λ cs. agree cs row other.1) (unique_keys t))
    (λ other. (not (other.0 == id) && agree_at t 0 row other.1) || (not (other.0 == id) && agree_at t 1 row other.1))
    (λ other. ap (λ b. not (other.0 == id) && b) (two_keys t row other.1) ∙ apart (not (other.0 == id)) (agree_at t 0 row other.1) (agree_at t 1 row other.1)) (rows_of t r)
    ∙ any_either (λ (other : ℕ × Contents). not (other.0 == id) && agree_at t 0 row other.1) (λ other. not (other.0 == id) && agree_at t 1 row other.1) (rows_of t r))

pub by_first : (r a b h : Bool) → r ≡ a → r ≡ true → (a || b) ≡ h → r ≡ h
by_first r a b h is on e = on ∙ sym (ap (λ x. x || b) (sym is ∙ on)) ∙ e

pub by_second : (r s a b h : Bool) → r ≡ a → r ≡ false → s ≡ b → (a || b) ≡ h → s ≡ h
by_second r s a b h is off is_b e = is_b ∙ sym (ap (λ x. x || b) (sym is ∙ off)) ∙ e
