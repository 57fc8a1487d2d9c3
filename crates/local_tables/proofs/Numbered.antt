-- Rows that are inserted one after the other take the numbers in their order.
use Rattle.std.proofs.Common.{if◌then◌else◌, ◌≡◌, ◌⊎◌, inl, inr, ℕ, ◌+◌, ◌<◌, ◌≤◌, Bool, true, false, List, [], ◌∷◌, ◌++◌, map, length, Option, Some, None, refl, sym, ap, ◌∙◌, subst, true≢false, arith}
use Rattle.std.specs.List.{list_all, list_any}
use Rattle.std.specs.Cmp.{first_so, second_so}
use Rattle.vtep_rows.specs.Row.{Contents, is_row}
use Rattle.vtep_rows.specs.Rows.{Key, Rows, IsRows, row_at, row_id, next_id, inserted, last_number}
use Rattle.vtep_rows.proofs.Kept.{still_inserted}
use Rattle.forward_program.specs.Built.{IsIn}
use Rattle.forward_program.specs.Follows.{Address}
use Rattle.local_tables.specs.LocalRows.{locator_row, address_row}
use Rattle.local_tables.specs.Followed.{located, locator_of, with_flood, with_floods, with_addresses, with_local, are_none, completed_by}
use Rattle.local_tables.specs.Follows.{flood_rows, local_rows, own_rows, numbered}
use Rattle.local_tables.proofs.Members.{in_any}
use Rattle.local_tables.proofs.Inserted.{new_there, was_or_new, stays_there}

abbrev pub with_rows : Rows → List Contents → Rows
with_rows r [] = r
with_rows r (row ∷ rows) = with_rows (inserted r row) rows

pub numbers_are : (r : Rows) (rows : List Contents) → (with_rows r rows).counter ≡ r.counter + length rows
numbers_are r [] = omega arith
numbers_are r (row ∷ rows) = let rest : (with_rows (inserted r row) rows).counter ≡ r.counter + 1 + length rows = numbers_are (inserted r row) rows in omega (arith, rest)

pub made_is : (r : Rows) (rows : List Contents) → (with_rows r rows).made ≡ r.made
made_is r [] = refl
made_is r (row ∷ rows) = made_is (inserted r row) rows

room_for : (r : Rows) (row : Contents) (rows : List Contents) → (with_rows (inserted r row) rows).counter ≤ last_number → r.counter < last_number
room_for r row rows fits = let rest : (with_rows (inserted r row) rows).counter ≡ r.counter + 1 + length rows = numbers_are (inserted r row) rows in omega (arith, rest, fits)

-- ---- what is there then

pub all_rows : (r : Rows) (rows : List Contents) → IsRows r → list_all is_row rows ≡ true → (with_rows r rows).counter ≤ last_number → IsRows (with_rows r rows)
all_rows r [] is all fits = is
all_rows r (row ∷ rows) is all fits = all_rows (inserted r row) rows (still_inserted r row is (room_for r row rows fits) (first_so (is_row row) (list_all is_row rows) all)) (second_so (is_row row) (list_all is_row rows) all) fits

pub all_stay : (r : Rows) (rows : List Contents) → IsRows r → list_all is_row rows ≡ true → (with_rows r rows).counter ≤ last_number → (k : Key) (x : Contents) → row_at r k ≡ Some x → row_at (with_rows r rows) k ≡ Some x
all_stay r [] is all fits k x there = there
all_stay r (row ∷ rows) is all fits k x there =
    let room = room_for r row rows fits in
    all_stay (inserted r row) rows (still_inserted r row is room (first_so (is_row row) (list_all is_row rows) all)) (second_so (is_row row) (list_all is_row rows) all) fits k x (stays_there r row is room k x there)

pub all_come : (r : Rows) (rows : List Contents) → IsRows r → list_all is_row rows ≡ true → (with_rows r rows).counter ≤ last_number → (k : Key) (x : Contents) → IsIn (k, x) (numbered r.made (r.counter + 1) rows)
    → row_at (with_rows r rows) k ≡ Some x
all_come r [] is all fits k x h = absurd h
all_come r (row ∷ rows) is all fits k x (inl same) =
    let then_rows = still_inserted r row is (room_for r row rows fits) (first_so (is_row row) (list_all is_row rows) all) in
    subst (λ (e : Key × Contents). row_at (with_rows (inserted r row) rows) e.0 ≡ Some e.1) (sym same)
    (all_stay (inserted r row) rows then_rows (second_so (is_row row) (list_all is_row rows) all) fits (row.table, next_id r) row (new_there r row))
all_come r (row ∷ rows) is all fits k x (inr later) =
    all_come (inserted r row) rows (still_inserted r row is (room_for r row rows fits) (first_so (is_row row) (list_all is_row rows) all)) (second_so (is_row row) (list_all is_row rows) all) fits k x later

pub was_or_came : (r : Rows) (rows : List Contents) (k : Key) (x : Contents) → row_at (with_rows r rows) k ≡ Some x → (row_at r k ≡ Some x) ⊎ IsIn (k, x) (numbered r.made (r.counter + 1) rows)
was_or_came r [] k x there = inl there
was_or_came r (row ∷ rows) k x there = elim (was_or_came (inserted r row) rows k x there) [
  | inr later ↦ inr (inr later)
  | inl here ↦ elim (was_or_new r row k x here) [ inl before ↦ inl before | inr new ↦ inr (inl (λ i. (new.0 i, new.1 i))) ]
]

-- ---- the rows that the commit inserts

rows_then : (r : Rows) (xs ys : List Contents) → with_rows (with_rows r xs) ys ≡ with_rows r (xs ++ ys)
rows_then r [] ys = refl
rows_then r (x ∷ xs) ys = rows_then (inserted r x) xs ys

floods_are : (locator : ℕ) (r : Rows) (ss : List ℕ) → with_floods locator r ss ≡ with_rows r (flood_rows r.made locator (r.counter + 1) ss)
floods_are locator r [] = refl
floods_are locator r (s ∷ ss) = floods_are locator (with_flood locator r s) ss

addresses_are : (locator : ℕ) (r : Rows) (addresses : List Address) → with_addresses locator r addresses ≡ with_rows r (map (λ a. address_row a locator) addresses)
addresses_are locator r [] = refl
addresses_are locator r (a ∷ rest) = addresses_are locator (inserted r (address_row a locator)) rest

local_are : (locator : ℕ) (r : Rows) (floods : List ℕ) (addresses : List Address) → with_local locator floods addresses r ≡ with_rows r (local_rows r.made locator (r.counter + 1) floods addresses)
local_are locator r floods addresses =
    addresses_are locator (with_floods locator r floods) addresses
    ∙ ap (λ x. with_rows x (map (λ a. address_row a locator) addresses)) (floods_are locator r floods)
    ∙ rows_then r (flood_rows r.made locator (r.counter + 1) floods) (map (λ a. address_row a locator) addresses)

own_are : (own : ℕ) (o : Option ℕ) (r : Rows) (floods : List ℕ) (addresses : List Address) → with_local (locator_of o r) floods addresses (located own o r) ≡ with_rows r (own_rows own o r floods addresses)
own_are own None r floods addresses = local_are (next_id r) (inserted r (locator_row own)) floods addresses
own_are own (Some locator) r floods addresses = local_are locator r floods addresses

pub completed_are : (own : ℕ) (o : Option ℕ) (r : Rows) (floods : List ℕ) (addresses : List Address) → completed_by own o floods addresses r ≡ with_rows r (if are_none floods addresses then [] else own_rows own o r floods addresses)
completed_are own o r floods addresses = by (are_none floods addresses)
  where
    by : (b : Bool) → (if b then r else with_local (locator_of o r) floods addresses (located own o r)) ≡ with_rows r (if b then [] else own_rows own o r floods addresses)
    by true = refl
    by false = own_are own o r floods addresses

-- ---- places and rows

pub placed_in : (made number : ℕ) (rows : List Contents) (k : Key) (x : Contents) → IsIn (k, x) (numbered made number rows) → IsIn x rows × (k.0 ≡ x.table)
placed_in made number [] k x h = absurd h
placed_in made number (row ∷ rows) k x (inl same) = (inl (ap (λ (e : Key × Contents). e.1) same), ap (λ (e : Key × Contents). e.0.0) same ∙ sym (ap (λ (e : Key × Contents). e.1.table) same))
placed_in made number (row ∷ rows) k x (inr later) = let rest = placed_in made (number + 1) rows k x later in (inr rest.0, rest.1)

pub in_placed : (made number : ℕ) (rows : List Contents) (x : Contents) → IsIn x rows → (i : ℕ) × IsIn ((x.table, i), x) (numbered made number rows)
in_placed made number [] x h = absurd h
in_placed made number (row ∷ rows) x (inl same) = (row_id_of, inl (λ i. (((same i).table, row_id_of), same i)))
  where
    row_id_of : ℕ
    row_id_of = row_id made number
in_placed made number (row ∷ rows) x (inr later) = let rest = in_placed made (number + 1) rows x later in (rest.0, inr rest.1)

-- no two of the rows pass the test
abbrev pub PassOnce : (Contents → Bool) → List Contents → Type 0
PassOnce p [] = Unit {0}
PassOnce p (row ∷ rows) = (p row ≡ true → list_any p rows ≡ false) × PassOnce p rows

pub one_place : (p : Contents → Bool) (made number : ℕ) (rows : List Contents) → PassOnce p rows → (k q : Key) (x y : Contents) → IsIn (k, x) (numbered made number rows) → IsIn (q, y) (numbered made number rows) → p x ≡ true → p y ≡ true → k ≡ q
one_place p made number [] once k q x y h g on_x on_y = absurd h
one_place p made number (row ∷ rows) once k q x y (inl same) (inl also) on_x on_y = ap (λ (e : Key × Contents). e.0) same ∙ sym (ap (λ (e : Key × Contents). e.0) also)
one_place p made number (row ∷ rows) once k q x y (inl same) (inr later) on_x on_y =
    absurd (true≢false (sym (in_any p rows y (placed_in made (number + 1) rows q y later).0 on_y) ∙ once.0 (sym (ap (λ (e : Key × Contents). p e.1) same) ∙ on_x)))
one_place p made number (row ∷ rows) once k q x y (inr later) (inl also) on_x on_y =
    absurd (true≢false (sym (in_any p rows x (placed_in made (number + 1) rows k x later).0 on_x) ∙ once.0 (sym (ap (λ (e : Key × Contents). p e.1) also) ∙ on_y)))
one_place p made number (row ∷ rows) once k q x y (inr later) (inr also) on_x on_y = one_place p made (number + 1) rows once.1 k q x y later also on_x on_y
