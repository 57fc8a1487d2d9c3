-- A number for each unique key of a row, by which rows with one key are found.
use Rattle.std.specs.Prelude.{◌≡◌, ℕ, ℤ, pos, zero, suc, ◌+◌, ◌*◌, ◌%◌, ◌^◌, Bool, true, false, nat_lt, ◌==◌, if◌then◌else◌, List, [], ◌∷◌, length, Option, Some, None, option_and_then, unwrap_or, codes, refl}
use Rattle.std.specs.List.{list_all}
use Rattle.std.specs.Ordering.{nat_cmp, ordering_then, eq_by_cmp}
use Rattle.std.specs.declared.cmp.Ordering.{Ordering}
use Rattle.std.specs.Coded.{Coded, code_by, coded×, coded_ℕ}
use Rattle.vtep_base.specs.Reading.{Bytes, same_bytes}
use Rattle.vtep_base.specs.Texts.{ipv4_of}
use Rattle.vtep_base.specs.Addresses.{mac_of}
use Rattle.vtep_base.specs.Maps as maps
use Rattle.vtep_base.specs.Maps.{Map}
use Rattle.ovsdb_values.specs.declared.atoms.Atom.{Atom}
use Rattle.ovsdb_values.specs.declared.atoms.Atom.TheVariants.{Integer, Text, Id, Named}
use Rattle.vtep_schema.specs.contracts.Table as table
use Rattle.vtep_schema.specs.declared.Table.{Table}
use Rattle.vtep_schema.specs.declared.Column.{Column}
use Rattle.vtep_schema.specs.Tables.{table_cmp, unique_keys}
use Rattle.vtep_rows.specs.declared.stamps.Stamp.{Stamp}
use Rattle.vtep_rows.specs.Row.{Contents, atoms_at}
use Rattle.vtep_rows.specs.Rows.{Key}
use Rattle.vtep_rows.specs.Sound.{agree}

-- ---- the stamp of a key: the identifier in it, and a number made of its other atoms

abbrev pub hash_from : ℕ → Bytes → ℕ
hash_from h [] = h
hash_from h (b ∷ bs) = hash_from ((h * 1099511628211 % 2 ^ 64 + b) % 2 ^ 64) bs

-- addresses are told apart by their bits; other texts are hashed
abbrev pub text_number : Bytes → ℕ
text_number t = if same_bytes t (codes "unknown-dst") then 2 ^ 48 else unwrap_or (mac_of t) (unwrap_or (ipv4_of t) (hash_from 0 t))

abbrev pub whole_number : ℤ → ℕ
whole_number (pos n) = n
whole_number _ = 0

abbrev pub with_atom : Stamp → Atom → Stamp
with_atom s (Integer z) = record { id = s.id; number = (s.number + whole_number z) % 2 ^ 64 }
with_atom s (Text t) = record { id = s.id; number = (s.number + text_number t) % 2 ^ 64 }
with_atom s (Id u) = record { id = u; number = s.number }
with_atom s (Named t) = s

abbrev pub with_atoms : Stamp → List Atom → Stamp
with_atoms s [] = s
with_atoms s (x ∷ xs) = with_atoms (with_atom s x) xs

-- none where a column holds nothing
abbrev pub stamp_from : Stamp → List Column → Contents → Option Stamp
stamp_from s [] row = Some s
stamp_from s (c ∷ cs) row = if length (atoms_at row c) == 0 then None else stamp_from (with_atoms s (atoms_at row c)) cs row

abbrev pub stamp_of : Contents → List Column → Option Stamp
stamp_of row cs = stamp_from (record { id = 0; number = 0 }) cs row

abbrev pub nth : {A : Type 0} → ℕ → List A → Option A
nth n [] = None
nth zero (x ∷ xs) = Some x
nth (suc n) (x ∷ xs) = nth n xs

-- the stamp of one of the table's unique keys
abbrev pub stamp_at : Table → ℕ → Contents → Option Stamp
stamp_at t place row = option_and_then (stamp_of row) (nth place (unique_keys t))

-- ---- marks

-- a table, the place of a unique key, the number and the identifier of its stamp, and a row
abbrev pub Mark : Type 0
Mark = Table × ℕ × ℕ × ℕ × ℕ

abbrev pub Place : Type 0
Place = Table × ℕ × ℕ × ℕ

abbrev pub place_of : Mark → Place
place_of q = (q.0, q.1, q.2, q.3)

abbrev pub place_cmp : Place → Place → Ordering
place_cmp a b = ordering_then (ordering_then (ordering_then (table_cmp a.0 b.0) (nat_cmp a.1 b.1)) (nat_cmp a.2 b.2)) (nat_cmp a.3 b.3)

abbrev pub mark_cmp : Mark → Mark → Ordering
mark_cmp a b = ordering_then (place_cmp (place_of a) (place_of b)) (nat_cmp a.4 b.4)

abbrev pub same_mark : Mark → Mark → Bool
same_mark = eq_by_cmp mark_cmp

abbrev pub is_at_place : Place → Mark → Bool
is_at_place p q = eq_by_cmp place_cmp (place_of q) p

abbrev pub mark_code : Coded Mark
mark_code = code_by (Table × (ℕ × (ℕ × (ℕ × ℕ)))) (coded× (table.the_row).coded (coded× coded_ℕ (coded× coded_ℕ (coded× coded_ℕ coded_ℕ))))
    (λ q. (q.0, (q.1, (q.2, (q.3, q.4))))) (λ p. (p.0, p.1.0, p.1.1.0, p.1.1.1.0, p.1.1.1.1)) (λ _. refl)

abbrev pub marks_code : Coded (Map mark_cmp ℕ)
marks_code = maps.code mark_code coded_ℕ

-- identifiers have 128 bits
abbrev pub IsNumbered : Map mark_cmp ℕ → Type 0
IsNumbered m = list_all (λ e. nat_lt e.0.4 (2 ^ 128)) m.list ≡ true

-- ---- how often a row has a mark

abbrev pub mark_by : Key → ℕ → Stamp → Mark
mark_by k place s = (k.0, place, s.number, s.id, k.1)

abbrev pub times : Mark → Key → ℕ → Option Stamp → ℕ
times q k place None = 0
times q k place (Some s) = if same_mark q (mark_by k place s) then 1 else 0

-- a table has at most two unique keys
abbrev pub marked_by : Mark → Key → Contents → ℕ
marked_by q k row = times q k 0 (stamp_at k.0 0 row) + times q k 1 (stamp_at k.0 1 row)

-- two rows agree in a unique key, where the table has one at this place
abbrev pub agree_in : Option (List Column) → Contents → Contents → Bool
agree_in None a b = false
agree_in (Some cs) a b = agree cs a b

abbrev pub agree_at : Table → ℕ → Contents → Contents → Bool
agree_at t place a b = agree_in (nth place (unique_keys t)) a b

-- the row that may be there agrees with a
abbrev pub agree_there : Table → ℕ → Contents → Option Contents → Bool
agree_there t place a None = false
agree_there t place a (Some b) = agree_at t place a b
