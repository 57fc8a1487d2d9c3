-- The rows that a commit inserts: which they are, and that no two of them have one key.
use Rattle.std.proofs.Common.{◌≡◌, ◌⊎◌, inl, inr, ℕ, ◌+◌, Bool, true, false, not, cond, T, ◌&&◌, ◌||◌, List, [], ◌∷◌, ◌++◌, map, is_some, Option, Some, None, refl, sym, ap, ◌∙◌, subst, true≢false}
use Rattle.std.specs.Prelude.{if◌then◌else◌}
use Rattle.std.specs.List.{filter, list_any}
use Rattle.std.specs.Cmp.{IsTotalOrder, Equal-is, eq_by_cmp_equiv}
use Rattle.std.specs.declared.cmp.Ordering.{Ordering}
use Rattle.std.specs.FinMap.{is_sorted}
use Rattle.std.specs.FinMap.Entries.{below_all}
use Rattle.vtep_base.specs.Maps as maps
use Rattle.ovsdb_values.specs.declared.atoms.Atom.{Atom}
use Rattle.vtep_schema.specs.declared.Table.{Table}
use Rattle.vtep_schema.specs.declared.Table.TheVariants.{LogicalSwitch, UcastMacsLocal, McastMacsLocal, PhysicalLocatorSet, PhysicalLocator}
use Rattle.vtep_schema.specs.Tables.{same_table}
use Rattle.vtep_rows.specs.Row.{Contents, references}
use Rattle.vtep_rows.specs.Rows.{Key, Rows, same_key, row_id, next_id, ids_of, names}
use Rattle.vtep_rows.proofs.Entries.{both, t_first, t_second, none_below}
use Rattle.vtep_rows.proofs.Kept.{same_table_itself}
use Rattle.vtep_rows.proofs.Restored.{itself}
use Rattle.mac_learning.specs.declared.Learnt.{Learnt}
use Rattle.forward_program.specs.Built.{IsIn, AreApart}
use Rattle.forward_program.specs.Follows.{Address, learnt_address}
use Rattle.forward_program.proofs.Ascending.{some_picked, ids_ascend}
use Rattle.forward_program.proofs.InLists.{in_front, in_back, in_either, in_map, map_in}
use Rattle.local_tables.specs.LocalRows.{address_key, flood_key, has_key, row_with, address_cmp, is_individual, locator_row, set_row, address_row, flood_row}
use Rattle.local_tables.specs.Followed.{is_named_by_port, bound_switches, own_locator, locator_of, missing_floods, by_address, missing_addresses, are_none}
use Rattle.local_tables.specs.Following.{address_keys, flood_keys}
use Rattle.local_tables.specs.Follows.{has_one_of, flood_rows, local_rows, own_rows, new_rows, numbered, new_places}
use Rattle.local_tables.proofs.Members.{in_any, in_filter, filter_in}
use Rattle.local_tables.proofs.Texts.{address_itself, address_same, flood_itself, flood_same}
use Rattle.local_tables.proofs.LearningLaws.{key_found, address_in}
use Rattle.local_tables.proofs.Missing.{address_total, by_address_in}
use Rattle.local_tables.proofs.Matched.{ascending_apart}
use Rattle.local_tables.proofs.Numbered.{PassOnce, placed_in, in_placed, one_place}

-- ---- keys of a map are apart, and what is picked of what is apart

module _ {K X : Type 0} {R : K → K → Ordering} (o : IsTotalOrder R) where
  pub keys_apart : (es : List (K × X)) → T (is_sorted R es) → AreApart (map (λ (e : K × X). e.0) es)
  keys_apart [] sorted = tt
  keys_apart (e ∷ es) sorted = (
    λ h.
        let none = none_below o e.0 e.0 es ((Equal-is (R e.0 e.0)).0 ((eq_by_cmp_equiv o).refl e.0)) (t_first (below_all R e.0 es) (is_sorted R es) sorted) in
        true≢false (sym (key_found o e.0 es h) ∙ ap is_some none),
    keys_apart es (t_second (below_all R e.0 es) (is_sorted R es) sorted),
  )

picked_apart : {A : Type 0} (p : A → Bool) (xs : List A) → AreApart xs → AreApart (filter p xs)
picked_apart p [] h = tt
picked_apart p (x ∷ xs) h =
    let rest = picked_apart p xs h.1 in
    elim (p x) as (λ b. AreApart (cond b (x ∷ filter p xs) (filter p xs))) [
      | true ↦ (λ is. h.0 (in_filter p xs x is).0, rest)
      | false ↦ rest
    ]

pub floods_apart : (r : Rows) → AreApart (missing_floods r)
floods_apart r =
    ascending_apart (missing_floods r)
    (some_picked (λ s. not (is_some (row_with McastMacsLocal (flood_key s) r))) (bound_switches r) (some_picked (is_named_by_port r) (ids_of LogicalSwitch r) (ids_ascend LogicalSwitch r)))

pub addresses_apart : (r : Rows) (l : List Learnt) → AreApart (missing_addresses r l)
addresses_apart r l =
    let m = maps.map_by address_cmp (map (λ (e : Learnt). (learnt_address e, e)) l) in
    picked_apart (λ a. not (is_some (row_with UcastMacsLocal (address_key a) r))) (by_address l) (keys_apart address_total m.list m.sorted)

-- ---- which they are

abbrev pub IsFloodOf : List ℕ → Contents → Type 0
IsFloodOf floods row = (s : ℕ) × (set : ℕ) × IsIn s floods × (row ≡ flood_row s set)

abbrev pub IsAddressOf : ℕ → List Address → Contents → Type 0
IsAddressOf locator addresses row = (a : Address) × IsIn a addresses × (row ≡ address_row a locator)

-- the row of one of them, or a set of the locator
abbrev pub IsLocalRow : ℕ → List ℕ → List Address → Contents → Type 0
IsLocalRow locator floods addresses row = (row ≡ set_row locator) ⊎ (IsFloodOf floods row ⊎ IsAddressOf locator addresses row)

in_floods : (made locator number : ℕ) (ss : List ℕ) (row : Contents) → IsIn row (flood_rows made locator number ss) → (row ≡ set_row locator) ⊎ IsFloodOf ss row
in_floods made locator number [] row h = absurd h
in_floods made locator number (s ∷ ss) row (inl set) = inl set
in_floods made locator number (s ∷ ss) row (inr (inl flood)) = inr (s, row_id made number, inl refl, flood)
in_floods made locator number (s ∷ ss) row (inr (inr later)) = elim (in_floods made locator (number + 1 + 1) ss row later) [
  | inl set ↦ inl set
  | inr flood ↦ inr (flood.0, flood.1, inr flood.2, flood.3)
]

pub in_local : (made locator number : ℕ) (floods : List ℕ) (addresses : List Address) (row : Contents) → IsIn row (local_rows made locator number floods addresses) → IsLocalRow locator floods addresses row
in_local made locator number floods addresses row h = elim (in_either row (flood_rows made locator number floods) (map (λ a. address_row a locator) addresses) h) [
  | inl first ↦ elim (in_floods made locator number floods row first) [ inl set ↦ inl set | inr flood ↦ inr (inl flood) ]
  | inr last ↦ inr (inr (in_map (λ a. address_row a locator) row addresses last))
]

pub flood_in : (made locator number : ℕ) (ss : List ℕ) (s : ℕ) → IsIn s ss → (set : ℕ) × IsIn (flood_row s set) (flood_rows made locator number ss)
flood_in made locator number [] s h = absurd h
flood_in made locator number (x ∷ ss) s (inl same) = (row_id made number, inr (inl (ap (λ u. flood_row u (row_id made number)) same)))
flood_in made locator number (x ∷ ss) s (inr later) = let rest = flood_in made locator (number + 1 + 1) ss s later in (rest.0, inr (inr rest.1))

-- ---- each set is named by the row behind it

pub set_named : (made locator number : ℕ) (ss : List ℕ) (others : List Contents) → ((x : Contents) → IsIn x others → x.table ≡ PhysicalLocatorSet → ⊥) → (k : Key) (row : Contents)
    → IsIn (k, row) (numbered made number (flood_rows made locator number ss ++ others)) → k.0 ≡ PhysicalLocatorSet
    → (q : Key) × (x : Contents) × IsIn (q, x) (numbered made number (flood_rows made locator number ss ++ others)) × (q.0 ≡ McastMacsLocal) × (names x k ≡ true)
set_named made locator number [] others no_set k row h is = let place = placed_in made number others k row h in absurd (no_set row place.0 (sym place.1 ∙ is))
set_named made locator number (s ∷ ss) others no_set k row (inl same) is =
    let set : k ≡ (PhysicalLocatorSet, row_id made number) = ap (λ (e : Key × Contents). e.0) same in (
      (McastMacsLocal, row_id made (number + 1)),
      flood_row s (row_id made number),
      inr (inl refl),
      refl,
      ap (names (flood_row s (row_id made number))) set ∙ named s (row_id made number),
    )
  where
    named : (s set : ℕ) → names (flood_row s set) (PhysicalLocatorSet, set) ≡ true
    named s set = in_any (same_key (PhysicalLocatorSet, set)) (references (flood_row s set)) (PhysicalLocatorSet, set) (inr (inl refl)) (itself (PhysicalLocatorSet, set))
set_named made locator number (s ∷ ss) others no_set k row (inr (inl same)) is =
    let clash : McastMacsLocal ≡ PhysicalLocatorSet = sym (ap (λ (e : Key × Contents). e.0.0) same) ∙ is in absurd (cc)
set_named made locator number (s ∷ ss) others no_set k row (inr (inr later)) is =
    let rest = set_named made locator (number + 1 + 1) ss others no_set k row later is in
    (rest.0, rest.1, inr (inr rest.2), rest.3, rest.4)

-- ---- one row of each key at most

abbrev pub is_of_key : Table → List Atom → Contents → Bool
is_of_key t key row = same_table row.table t && has_key t key row

pub off : (b : Bool) → (b ≡ true → ⊥) → b ≡ false
off true never = absurd (never refl)
off false never = refl

module _ (p : Contents → Bool) where
  once_then : (xs ys : List Contents) → PassOnce p xs → PassOnce p ys → list_any p ys ≡ false → PassOnce p (xs ++ ys)
  once_then [] ys once then_once none = then_once
  once_then (x ∷ xs) ys once then_once none = (λ on. any_front xs ys (once.0 on) none, once_then xs ys once.1 then_once none)
    where
      any_front : (xs ys : List Contents) → list_any p xs ≡ false → list_any p ys ≡ false → list_any p (xs ++ ys) ≡ false
      any_front [] ys h g = g
      any_front (x ∷ xs) ys h g = by (p x) h (λ f. any_front xs ys f g)
        where
          by : (b : Bool) → (b || list_any p xs) ≡ false → (list_any p xs ≡ false → list_any p (xs ++ ys) ≡ false) → (b || list_any p (xs ++ ys)) ≡ false
          by true f rest = f
          by false f rest = rest f

  none_in : (xs : List Contents) → ((x : Contents) → IsIn x xs → p x ≡ false) → list_any p xs ≡ false
  none_in [] so = refl
  none_in (x ∷ xs) so = ap (λ b. b || list_any p xs) (so x (inl refl)) ∙ none_in xs (λ y h. so y (inr h))

  none_pass : (xs : List Contents) → ((x : Contents) → IsIn x xs → p x ≡ false) → PassOnce p xs
  none_pass [] so = tt
  none_pass (x ∷ xs) so = (λ on. absurd (true≢false (sym on ∙ so x (inl refl))), none_pass xs (λ y h. so y (inr h)))

  once_behind : (xs ys : List Contents) → ((x : Contents) → IsIn x xs → p x ≡ false) → PassOnce p ys → PassOnce p (xs ++ ys)
  once_behind [] ys never once = once
  once_behind (x ∷ xs) ys never once = (λ on. absurd (true≢false (sym on ∙ never x (inl refl))), once_behind xs ys (λ y h. never y (inr h)) once)

  once_of : {A : Type 0} (f : A → Contents) (xs : List A) → AreApart xs → ((x y : A) → IsIn x xs → IsIn y xs → p (f x) ≡ true → p (f y) ≡ true → x ≡ y) → PassOnce p (map f xs)
  once_of f [] apart same = tt
  once_of f (x ∷ xs) apart same = (
    λ on. none_in (map f xs) (λ y h. let from = in_map f y xs h in ap p from.2 ∙ off (p (f from.0)) (λ also. apart.0 (subst (λ z. IsIn z xs) (sym (same x from.0 (inl refl) (inr from.1) on also)) from.1))),
    once_of f xs apart.1 (λ y z h g. same y z (inr h) (inr g)),
  )

  once_if : (b : Bool) (xs : List Contents) → PassOnce p xs → PassOnce p (if b then [] else xs)
  once_if true xs once = tt
  once_if false xs once = once

-- ---- of a switch

module _ (made locator : ℕ) (s : ℕ) where
  floods_once : (number : ℕ) (ss : List ℕ) → AreApart ss → PassOnce (is_of_key McastMacsLocal (flood_key s)) (flood_rows made locator number ss)
  floods_once number [] apart = tt
  floods_once number (x ∷ ss) apart = (
    λ on. absurd (true≢false (sym on)),
    (
      λ on. none_in (is_of_key McastMacsLocal (flood_key s)) (flood_rows made locator (number + 1 + 1) ss) (λ row h. by on row (in_floods made locator (number + 1 + 1) ss row h)),
      floods_once (number + 1 + 1) ss apart.1,
    ),
  )
    where
      by : is_of_key McastMacsLocal (flood_key s) (flood_row x (row_id made number)) ≡ true → (row : Contents) → (row ≡ set_row locator) ⊎ IsFloodOf ss row → is_of_key McastMacsLocal (flood_key s) row ≡ false
      by on row (inl set) = ap (is_of_key McastMacsLocal (flood_key s)) set
      by on row (inr flood) = off (is_of_key McastMacsLocal (flood_key s) row) (λ also.
          let same : x ≡ flood.0 = flood_same s x (row_id made number) on ∙ sym (flood_same s flood.0 flood.1 (sym (ap (is_of_key McastMacsLocal (flood_key s)) flood.3) ∙ also)) in
          apart.0 (subst (λ z. IsIn z ss) (sym same) flood.2))

-- ---- what is new of a table, for these keys

pub record Come (t : Table) (keys : List (List Atom)) (r : Rows) (new : List (Key × Contents)) : Type 0 where
  pub comes : (key : List Atom) → IsIn key keys → is_some (row_with t key r) ≡ false → (i : ℕ) × (row : Contents) × IsIn ((t, i), row) new × (has_key t key row ≡ true)
  pub only : (i : ℕ) (row : Contents) → IsIn ((t, i), row) new → has_one_of t keys row ≡ true
  pub lacks : (key : List Atom) → IsIn key keys → (i : ℕ) (row : Contents) → IsIn ((t, i), row) new → has_key t key row ≡ true → is_some (row_with t key r) ≡ false
  pub once : (key : List Atom) → IsIn key keys → (i j : ℕ) (a b : Contents) → IsIn ((t, i), a) new → IsIn ((t, j), b) new → has_key t key a ≡ true → has_key t key b ≡ true → i ≡ j

not_on : (b : Bool) → not b ≡ true → b ≡ false
not_on true h = sym h
not_on false h = refl

pub some_floods : (s : ℕ) (floods : List ℕ) (addresses : List Address) → IsIn s floods → are_none floods addresses ≡ false
some_floods s [] addresses h = absurd h
some_floods s (x ∷ ss) [] h = refl
some_floods s (x ∷ ss) (a ∷ rest) h = refl

pub some_addresses : (a : Address) (floods : List ℕ) (addresses : List Address) → IsIn a addresses → are_none floods addresses ≡ false
some_addresses a floods [] h = absurd h
some_addresses a [] (x ∷ rest) h = refl
some_addresses a (s ∷ ss) (x ∷ rest) h = refl

-- the row that is made of some number
pub record IsMade (make : ℕ → Contents) (row : Contents) : Type 0 where
  pub number : ℕ
  pub is : row ≡ make number

-- the own locator is new, or the row is one of the others
abbrev pub IsNewRow : ℕ → ℕ → List ℕ → List Address → Contents → Type 0
IsNewRow own locator floods addresses row = (row ≡ locator_row own) ⊎ IsLocalRow locator floods addresses row

module _ (own : ℕ) (r : Rows) (l : List Learnt) where
  abbrev pub floods : List ℕ
  floods = missing_floods r

  abbrev pub addresses : List Address
  addresses = missing_addresses r l

  abbrev pub here : ℕ
  here = locator_of (own_locator own r) r

  in_own : (o : Option ℕ) (row : Contents) → IsIn row (own_rows own o r floods addresses) → IsNewRow own (locator_of o r) floods addresses row
  in_own None row (inl locator) = inl locator
  in_own None row (inr later) = inr (in_local r.made (next_id r) (r.counter + 1 + 1) floods addresses row later)
  in_own (Some locator) row h = inr (in_local r.made locator (r.counter + 1) floods addresses row h)

  pub in_new : (row : Contents) → IsIn row (new_rows own r l) → IsNewRow own here floods addresses row
  in_new row h = by (are_none floods addresses) h
    where
      by : (b : Bool) → IsIn row (if b then [] else own_rows own (own_locator own r) r floods addresses) → IsNewRow own here floods addresses row
      by true g = absurd g
      by false g = in_own (own_locator own r) row g

  -- one of those behind the own locator
  local_in : (o : Option ℕ) (p : Contents → Type 0) → ((made locator number : ℕ) → (row : Contents) × IsIn row (local_rows made locator number floods addresses) × p row) → (row : Contents) × IsIn row (own_rows own o r floods addresses) × p row
  local_in None p so = let found = so r.made (next_id r) (r.counter + 1 + 1) in (found.0, inr found.1, found.2)
  local_in (Some locator) p so = so r.made locator (r.counter + 1)

  new_in : are_none floods addresses ≡ false → (p : Contents → Type 0) → ((made locator number : ℕ) → (row : Contents) × IsIn row (local_rows made locator number floods addresses) × p row) → (row : Contents) × IsIn row (new_rows own r l) × p row
  new_in some p so =
      subst (λ b. (row : Contents) × IsIn row (if b then [] else own_rows own (own_locator own r) r floods addresses) × p row) (sym some) (local_in (own_locator own r) p so)

  own_once : (p : Contents → Bool) → p (locator_row own) ≡ false → ((made locator number : ℕ) → PassOnce p (local_rows made locator number floods addresses)) → (o : Option ℕ) → PassOnce p (own_rows own o r floods addresses)
  own_once p never once None = (λ on. absurd (true≢false (sym on ∙ never)), once r.made (next_id r) (r.counter + 1 + 1))
  own_once p never once (Some locator) = once r.made locator (r.counter + 1)

  new_once : (p : Contents → Bool) → p (locator_row own) ≡ false → ((made locator number : ℕ) → PassOnce p (local_rows made locator number floods addresses)) → PassOnce p (new_rows own r l)
  new_once p never once = once_if p (are_none floods addresses) (own_rows own (own_locator own r) r floods addresses) (own_once p never once (own_locator own r))

  abbrev pub places : List (Key × Contents)
  places = new_places own r l

  of_table : (t : Table) (i : ℕ) (row : Contents) → IsIn ((t, i), row) places → IsIn row (new_rows own r l) × (t ≡ row.table)
  of_table t i row h = placed_in r.made (r.counter + 1) (new_rows own r l) (t, i) row h

  in_places : (t : Table) (row : Contents) → IsIn row (new_rows own r l) → row.table ≡ t → (i : ℕ) × IsIn ((t, i), row) places
  in_places t row h is = let place = in_placed r.made (r.counter + 1) (new_rows own r l) row h in (place.0, subst (λ u. IsIn ((u, place.0), row) places) is place.1)

  one_of : (t : Table) (key : List Atom) → PassOnce (is_of_key t key) (new_rows own r l) → (i j : ℕ) (a b : Contents) → IsIn ((t, i), a) places → IsIn ((t, j), b) places → has_key t key a ≡ true → has_key t key b ≡ true → i ≡ j
  one_of t key once i j a b h g on_a on_b =
      ap (λ (k : Key). k.1)
      (one_place (is_of_key t key) r.made (r.counter + 1) (new_rows own r l) once (t, i) (t, j) a b h g
      (both (same_table a.table t) (has_key t key a) (ap (λ u. same_table u t) (sym (of_table t i a h).1) ∙ same_table_itself t) on_a)
      (both (same_table b.table t) (has_key t key b) (ap (λ u. same_table u t) (sym (of_table t j b g).1) ∙ same_table_itself t) on_b))

  -- ---- the rows of bound switches

  is_flood : (i : ℕ) (row : Contents) → IsIn ((McastMacsLocal, i), row) places → IsFloodOf floods row
  is_flood i row h = let place = of_table McastMacsLocal i row h in by place.1 (in_new row place.0)
    where
      by : McastMacsLocal ≡ row.table → IsNewRow own here floods addresses row → IsFloodOf floods row
      by is (inl locator) = let clash : McastMacsLocal ≡ PhysicalLocator = is ∙ ap (λ (x : Contents). x.table) locator in absurd (cc)
      by is (inr (inl set)) = let clash : McastMacsLocal ≡ PhysicalLocatorSet = is ∙ ap (λ (x : Contents). x.table) set in absurd (cc)
      by is (inr (inr (inl flood))) = flood
      by is (inr (inr (inr address))) = let clash : McastMacsLocal ≡ UcastMacsLocal = is ∙ ap (λ (x : Contents). x.table) address.2 in absurd (cc)

  missing_flood : (s : ℕ) → IsIn s floods → IsIn s (bound_switches r) × (is_some (row_with McastMacsLocal (flood_key s) r) ≡ false)
  missing_flood s h = let found = in_filter (λ s. not (is_some (row_with McastMacsLocal (flood_key s) r))) (bound_switches r) s h in (found.0, not_on (is_some (row_with McastMacsLocal (flood_key s) r)) found.1)

  pub floods_come : Come McastMacsLocal (flood_keys (bound_switches r)) r places
  floods_come = record {
    comes = λ key h none.
        let from = in_map flood_key key (bound_switches r) h in
        let listed = filter_in (λ s. not (is_some (row_with McastMacsLocal (flood_key s) r))) (bound_switches r) from.0 from.1 (ap not (ap (λ x. is_some (row_with McastMacsLocal x r)) (sym from.2) ∙ none)) in
        let found = new_in (some_floods from.0 floods addresses listed) (IsMade (flood_row from.0)) (λ made locator number.
        let here = flood_in made locator number floods from.0 listed in
        (flood_row from.0 here.0, in_front (flood_row from.0 here.0) (flood_rows made locator number floods) (map (λ a. address_row a locator) addresses) here.1, record { number = here.0; is = refl })) in
        let place = in_places McastMacsLocal found.0 found.1 (ap (λ (x : Contents). x.table) found.2.is) in
        (place.0, found.0, place.1, ap (λ x. has_key McastMacsLocal x found.0) from.2 ∙ ap (has_key McastMacsLocal (flood_key from.0)) found.2.is ∙ flood_itself from.0 found.2.number);
    only = λ i row h.
        let flood = is_flood i row h in
        in_any (λ key. has_key McastMacsLocal key row) (flood_keys (bound_switches r)) (flood_key flood.0) (map_in flood_key flood.0 (bound_switches r) (missing_flood flood.0 flood.2).0)
        (ap (has_key McastMacsLocal (flood_key flood.0)) flood.3 ∙ flood_itself flood.0 flood.1);
    lacks = λ key h i row g on.
        let from = in_map flood_key key (bound_switches r) h in
        let flood = is_flood i row g in
        let same : flood.0 ≡ from.0 = flood_same from.0 flood.0 flood.1 (sym (ap (λ x. has_key McastMacsLocal x row) from.2 ∙ ap (has_key McastMacsLocal (flood_key from.0)) flood.3) ∙ on) in
        ap (λ x. is_some (row_with McastMacsLocal x r)) (from.2 ∙ ap flood_key (sym same)) ∙ (missing_flood flood.0 flood.2).1;
    once = λ key h.
        let from = in_map flood_key key (bound_switches r) h in
        one_of McastMacsLocal key (subst (λ x. PassOnce (is_of_key McastMacsLocal x) (new_rows own r l)) (sym from.2) (new_once (is_of_key McastMacsLocal (flood_key from.0)) refl (λ made locator number.
        let no_address : (x : Contents) → IsIn x (map (λ a. address_row a locator) addresses) → is_of_key McastMacsLocal (flood_key from.0) x ≡ false = λ x g. ap (is_of_key McastMacsLocal (flood_key from.0)) (in_map (λ a. address_row a locator) x addresses g).2 in
        once_then (is_of_key McastMacsLocal (flood_key from.0)) (flood_rows made locator number floods) (map (λ a. address_row a locator) addresses) (floods_once made locator from.0 number floods (floods_apart r))
        (none_pass (is_of_key McastMacsLocal (flood_key from.0)) (map (λ a. address_row a locator) addresses) no_address) (none_in (is_of_key McastMacsLocal (flood_key from.0)) (map (λ a. address_row a locator) addresses) no_address))));
  }

  -- ---- the rows of learnt addresses

  is_address : (i : ℕ) (row : Contents) → IsIn ((UcastMacsLocal, i), row) places → IsAddressOf here addresses row
  is_address i row h = let place = of_table UcastMacsLocal i row h in by place.1 (in_new row place.0)
    where
      by : UcastMacsLocal ≡ row.table → IsNewRow own here floods addresses row → IsAddressOf here addresses row
      by is (inl locator) = let clash : UcastMacsLocal ≡ PhysicalLocator = is ∙ ap (λ (x : Contents). x.table) locator in absurd (cc)
      by is (inr (inl set)) = let clash : UcastMacsLocal ≡ PhysicalLocatorSet = is ∙ ap (λ (x : Contents). x.table) set in absurd (cc)
      by is (inr (inr (inl flood))) = let clash : UcastMacsLocal ≡ McastMacsLocal = is ∙ ap (λ (x : Contents). x.table) flood.3 in absurd (cc)
      by is (inr (inr (inr address))) = address

  pub missing_address : (a : Address) → IsIn a addresses → (e : Learnt) × IsIn e l × (a ≡ learnt_address e) × (is_some (row_with UcastMacsLocal (address_key a) r) ≡ false)
  missing_address a h =
      let found = in_filter (λ a. not (is_some (row_with UcastMacsLocal (address_key a) r))) (by_address l) a h in
      let from = by_address_in l a found.0 in
      (from.0, from.1, from.2, not_on (is_some (row_with UcastMacsLocal (address_key a) r)) found.1)

  module _ (single : (e : Learnt) → IsIn e l → is_individual e.mac ≡ true) where
    pub one_single : (a : Address) → IsIn a addresses → is_individual a.1 ≡ true
    one_single a h = let from = missing_address a h in ap (λ (x : Address). is_individual x.1) from.2 ∙ single from.0 from.1

    same_one : (e : Learnt) → IsIn e l → (a : Address) → IsIn a addresses → (locator : ℕ) → has_key UcastMacsLocal (address_key (learnt_address e)) (address_row a locator) ≡ true → a ≡ learnt_address e
    same_one e h a g locator on = let parts = address_same (learnt_address e) a locator (single e h) (one_single a g) on in (λ i. (parts.0 i, parts.1 i))

    pub addresses_come : Come UcastMacsLocal (address_keys l) r places
    addresses_come = record {
      comes = λ key h none.
          let from = in_map (λ (e : Learnt). address_key (learnt_address e)) key l h in
          let a = learnt_address from.0 in
          let listed = filter_in (λ a. not (is_some (row_with UcastMacsLocal (address_key a) r))) (by_address l) a (address_in from.0 l from.1) (ap not (ap (λ x. is_some (row_with UcastMacsLocal x r)) (sym from.2) ∙ none)) in
          let found = new_in (some_addresses a floods addresses listed) (IsMade (address_row a)) (λ made locator number.
          (address_row a locator, in_back (address_row a locator) (flood_rows made locator number floods) (map (λ a. address_row a locator) addresses) (map_in (λ a. address_row a locator) a addresses listed), record { number = locator; is = refl })) in
          let place = in_places UcastMacsLocal found.0 found.1 (ap (λ (x : Contents). x.table) found.2.is) in
          (place.0, found.0, place.1, ap (λ x. has_key UcastMacsLocal x found.0) from.2 ∙ ap (has_key UcastMacsLocal (address_key a)) found.2.is ∙ address_itself a found.2.number);
      only = λ i row h.
          let address = is_address i row h in
          let from = missing_address address.0 address.1 in
          in_any (λ key. has_key UcastMacsLocal key row) (address_keys l) (address_key (learnt_address from.0)) (map_in (λ (e : Learnt). address_key (learnt_address e)) from.0 l from.1)
          (ap (has_key UcastMacsLocal (address_key (learnt_address from.0))) (address.2 ∙ ap (λ x. address_row x here) from.2) ∙ address_itself (learnt_address from.0) here);
      lacks = λ key h i row g on.
          let from = in_map (λ (e : Learnt). address_key (learnt_address e)) key l h in
          let address = is_address i row g in
          let same : address.0 ≡ learnt_address from.0 =
          same_one from.0 from.1 address.0 address.1 here (sym (ap (λ x. has_key UcastMacsLocal x row) from.2 ∙ ap (has_key UcastMacsLocal (address_key (learnt_address from.0))) address.2) ∙ on) in
          ap (λ x. is_some (row_with UcastMacsLocal x r)) (from.2 ∙ ap address_key (sym same)) ∙ (missing_address address.0 address.1).3;
      once = λ key h.
          let from = in_map (λ (e : Learnt). address_key (learnt_address e)) key l h in
          let p = is_of_key UcastMacsLocal (address_key (learnt_address from.0)) in
          one_of UcastMacsLocal key (subst (λ x. PassOnce (is_of_key UcastMacsLocal x) (new_rows own r l)) (sym from.2) (new_once p refl (λ made locator number.
          once_behind p (flood_rows made locator number floods) (map (λ a. address_row a locator) addresses)
          (λ x g. no_flood from.0 made locator number x (in_floods made locator number floods x g))
          (once_of p (λ a. address_row a locator) addresses (addresses_apart r l) (λ a b g k on_a on_b. same_one from.0 from.1 a g locator on_a ∙ sym (same_one from.0 from.1 b k locator on_b))))));
    }
      where
        no_flood : (e : Learnt) (made locator number : ℕ) (x : Contents) → (x ≡ set_row locator) ⊎ IsFloodOf floods x → is_of_key UcastMacsLocal (address_key (learnt_address e)) x ≡ false
        no_flood e made locator number x (inl set) = ap (is_of_key UcastMacsLocal (address_key (learnt_address e))) set
        no_flood e made locator number x (inr flood) = ap (is_of_key UcastMacsLocal (address_key (learnt_address e))) flood.3
