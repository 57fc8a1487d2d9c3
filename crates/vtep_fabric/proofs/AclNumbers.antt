-- Columns that are added one after the other, and the insertions of access lists and their numbers.
use Rattle.std.proofs.Common.{◌≡◌, ℕ, ◌+◌, suc, ◌<◌, List, [], ◌∷◌, ◌++◌, map, length, get_or, drop, Option, Some, None, refl, sym, ap, ◌∙◌, append_assoc, length-append, arith}
use Rattle.std.proofs.lemmas.List.{length-map, map-append}
use Rattle.serde_json.specs.Data.{Data}
use Rattle.vtep_base.specs.Reading.{Bytes}
use Rattle.vtep_base.specs.Maps as maps
use Rattle.vtep_base.specs.Maps.{Map}
use Rattle.ovsdb_values.specs.declared.atoms.Atom.{Atom}
use Rattle.ovsdb_values.specs.declared.datums.Datum.{Datum}
use Rattle.vtep_schema.specs.declared.Column.{Column}
use Rattle.vtep_rows.specs.Row.{put_all}
use Rattle.fabric_world.specs.declared.WantedEntry.{WantedEntry}
use Rattle.fabric_world.specs.Intentions.{Intention, bytes_cmp}
use Rattle.fabric_world.specs.Installer.{new_row, numbered, given, entry_json, acl_json, with_entries, wanted_entries, acls_json, acl_rows}
use Rattle.vtep_fabric.proofs.Ascending.{dropped}

-- ---- columns

abbrev Values : Type 0
Values = List (Column × Datum)

module _ {A : Type 0} (f : A → Atom) where
  first_given : (c : Column × Option A) (cs : List (Column × Option A)) → given f (c ∷ cs) ≡ given f (c ∷ []) ++ given f cs
  first_given (column, None) cs = refl
  first_given (column, Some a) cs = refl

  -- a column more, where it is given
  pub column_added : (old new all : Values) (cs : List (Column × Option A)) (i : ℕ) (c : Column × Option A) → i < length cs → c ≡ get_or cs i c → new ≡ old ++ given f (c ∷ [])
      → old ++ given f (drop i cs) ≡ all → new ++ given f (drop (i + 1) cs) ≡ all
  column_added old new all cs i c h is e inv =
      ap (λ vs. vs ++ given f (drop (i + 1) cs)) e ∙ append_assoc old (given f (c ∷ [])) (given f (drop (i + 1) cs))
      ∙ ap (λ vs. old ++ vs) (sym (first_given c (drop (i + 1) cs)) ∙ ap (given f) (sym (dropped cs i c h is))) ∙ inv

-- ---- numbers

pub length_numbered : {A B : Type 0} (f : ℕ → A → B) (k : ℕ) (xs : List A) → length (numbered f k xs) ≡ length xs
length_numbered f k [] = refl
length_numbered f k (x ∷ xs) = ap suc (length_numbered f (suc k) xs)

pub numbered_map : {A B C : Type 0} (f : ℕ → B → C) (g : A → B) (k : ℕ) (xs : List A) → numbered (λ n x. f n (g x)) k xs ≡ numbered f k (map g xs)
numbered_map f g k [] = refl
numbered_map f g k (x ∷ xs) = ap (λ ys. f k (g x) ∷ ys) (numbered_map f g (suc k) xs)

-- one more with its number
pub number_added : {A B : Type 0} (f : ℕ → A → B) (old new all : List B) (xs : List A) (i : ℕ) (x : A) (k : ℕ) → i < length xs → x ≡ get_or xs i x → new ≡ old ++ f k x ∷ []
    → old ++ numbered f k (drop i xs) ≡ all → new ++ numbered f (suc k) (drop (i + 1) xs) ≡ all
number_added f old new all xs i x k h is e inv =
    ap (λ ys. ys ++ numbered f (suc k) (drop (i + 1) xs)) e ∙ append_assoc old (f k x ∷ []) (numbered f (suc k) (drop (i + 1) xs))
    ∙ ap (λ ys. old ++ numbered f k ys) (sym (dropped xs i x h is)) ∙ inv

-- ---- access lists

module _ {V A : Type 0} (view : V → Data) (at : A → WantedEntry) where
  -- the entries, and then the list itself
  pub list_added : (old mid new : List V) (v : V) (sorted : List A) (entries : List WantedEntry) (rows : List Atom) (name : Bytes) (n : ℕ)
      → map at sorted ≡ entries → rows ≡ numbered (λ n e. new_row n) (length old) sorted → map view mid ≡ map view old ++ numbered (λ n e. entry_json n (at e)) (length old) sorted
      → n ≡ length mid → new ≡ mid ++ v ∷ [] → view v ≡ acl_json n name rows
      → (n ≡ length old + length entries) × (map view new ≡ map view old ++ with_entries entries (length old) name)
  list_added old mid new v sorted entries rows name n is r a long e says =
      let k : ℕ = length old in
      let ops : map view mid ≡ map view old ++ numbered entry_json k entries =
      a ∙ ap (λ ds. map view old ++ ds) (numbered_map entry_json at k sorted ∙ ap (numbered entry_json k) is) in
      let count : length mid ≡ k + length entries =
      sym (length-map mid view) ∙ ap length ops ∙ length-append (map view old) (numbered entry_json k entries) ∙ (λ j. length-map old view j + length_numbered entry_json k entries j) in
      let named : rows ≡ numbered (λ n e. new_row n) k entries = r ∙ numbered_map (λ n e. new_row n) at k sorted ∙ ap (numbered (λ n e. new_row n) k) is in
      let at_end : n ≡ k + length entries = long ∙ count in (
        at_end,
        ap (map view) e ∙ map-append view mid (v ∷ [])
            ∙ (λ j. ops j ++ (says ∙ (λ i. acl_json (at_end i) name (named i))) j ∷ [])
            ∙ append_assoc (map view old) (numbered entry_json k entries) (acl_json (k + length entries) name (numbered (λ n e. new_row n) k entries) ∷ []),
      )

module _ {V : Type 0} (view : V → Data) (i : Intention) where
  longer : (old new : List V) (entries : List WantedEntry) (name : Bytes) → map view new ≡ map view old ++ with_entries entries (length old) name → length new ≡ suc (length old + length entries)
  longer old new entries name e =
      let k : ℕ = length old in
      let ops : List Data = numbered entry_json k entries in
      let last : Data = acl_json (k + length entries) name (numbered (λ n e. new_row n) k entries) in
      let a : length new ≡ length (map view old) + length (ops ++ last ∷ []) = sym (length-map new view) ∙ ap length e ∙ length-append (map view old) (ops ++ last ∷ []) in
      omega (arith, a, length-append ops (last ∷ []), length-map old view, length_numbered entry_json k entries)

  -- an access list more
  pub acl_added : (old new : List V) (all : List Data) (names : List Bytes) (j : ℕ) (name : Bytes) → j < length names → name ≡ get_or names j name
      → map view new ≡ map view old ++ with_entries (wanted_entries i name) (length old) name
      → map view old ++ acls_json i (length old) (drop j names) ≡ all → map view new ++ acls_json i (length new) (drop (j + 1) names) ≡ all
  acl_added old new all names j name h is e inv =
      let ops : List Data = with_entries (wanted_entries i name) (length old) name in
      (λ t. e t ++ acls_json i (longer old new (wanted_entries i name) name e t) (drop (j + 1) names))
      ∙ append_assoc (map view old) ops (acls_json i (suc (length old + length (wanted_entries i name))) (drop (j + 1) names))
      ∙ ap (λ ns. map view old ++ acls_json i (length old) ns) (sym (dropped names j name h is)) ∙ inv

  -- and its row
  pub acl_row_added : (old new : List V) (rows after all : Map bytes_cmp ℕ) (names : List Bytes) (j : ℕ) (name : Bytes) (n : ℕ) → j < length names → name ≡ get_or names j name
      → n ≡ length old + length (wanted_entries i name) → after ≡ maps.insert rows name n
      → map view new ≡ map view old ++ with_entries (wanted_entries i name) (length old) name
      → put_all rows (acl_rows i (length old) (drop j names)) ≡ all → put_all after (acl_rows i (length new) (drop (j + 1) names)) ≡ all
  acl_row_added old new rows after all names j name n h is at put e inv =
      (λ t. put_all ((put ∙ ap (maps.insert rows name) at) t) (acl_rows i (longer old new (wanted_entries i name) name e t) (drop (j + 1) names)))
      ∙ ap (λ ns. put_all rows (acl_rows i (length old) ns)) (sym (dropped names j name h is)) ∙ inv
