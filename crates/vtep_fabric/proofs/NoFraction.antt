-- What gateways are asked to do has no fraction.
use Rattle.std.proofs.Common.{◌≡◌, ℕ, suc, ◌+◌, Bool, true, false, List, [], ◌∷◌, ◌++◌, length, map, Ordering, Less, Equal, Greater, refl}
use Rattle.std.specs.Prelude.{◌||◌, ◌&&◌, ◌==◌, if◌then◌else◌, pos, negsuc, codes}
use Rattle.std.specs.Ordering.{nat_cmp, match_ordering}
use Rattle.std.specs.Cmp.Lexicographic.{slice_cmp}
use Rattle.serde_json.specs.Data.{Data, string, Members, no_members, member, put}
use Rattle.serde_json.specs.Written.{has_float, items_have_float, members_have_float}
use Rattle.vtep_base.specs.Reading.{Bytes}
use Rattle.vtep_base.specs.Texts.{ipv4_text}
use Rattle.vtep_base.specs.Maps as maps
use Rattle.vtep_base.specs.Maps.{Map}
use Rattle.json_notation.specs.Json.{to_items, list, to_members}
use Rattle.ovsdb_values.specs.declared.atoms.Atom.{Atom}
use Rattle.ovsdb_values.specs.declared.atoms.Atom.TheVariants.{Integer, Text, Id, Named}
use Rattle.ovsdb_values.specs.declared.datums.Datum.{Datum}
use Rattle.ovsdb_values.specs.declared.datums.Datum.TheVariants as datum
use Rattle.ovsdb_values.specs.Sets.{one, set_of}
use Rattle.ovsdb_values.specs.Notation.{atom_json, entry_json as pair_json, datum_json}
use Rattle.vtep_schema.specs.declared.Table.{Table}
use Rattle.vtep_schema.specs.declared.Column.{Column}
use Rattle.vtep_schema.specs.declared.Table.TheVariants.{PhysicalPort, LogicalSwitch, McastMacsRemote, PhysicalLocatorSet, PhysicalLocator, Acl, AclEntry}
use Rattle.vtep_schema.specs.declared.Column.TheVariants.{PortVlanBindings, PortAclBindings, McastRemoteMac, McastRemoteLogicalSwitch, McastRemoteLocatorSet, SetLocators, LocatorEncapsulationType, LocatorDstIp, AclName, AclEntries}
use Rattle.vtep_schema.specs.Tables.{table_name, column_name}
use Rattle.vtep_rows.specs.Row.{put_all}
use Rattle.fabric_world.specs.declared.WantedEntry.{WantedEntry}
use Rattle.fabric_world.specs.Intentions.{Intention, bytes_cmp}
use Rattle.fabric_world.specs.Installer.{Port, Flood, row_name, new_row, row_in, switch_values, columns_json, insert_json, numbered, rows_from, locator_json, switch_json, at_id, bound_rows, port_json, update_json, ports_json, set_json, remote_json, floods_json, entry_values, entry_json, acl_json, with_entries, wanted_entries, acls_json, acl_rows, operations_for}

abbrev IsPlain : Data → Type 0
IsPlain d = has_float d ≡ false

-- it holds of each
abbrev Each : {A : Type 0} → (A → Type 0) → List A → Type 0
Each P [] = Unit {0}
Each P (x ∷ xs) = P x × Each P xs

each_map : {A B : Type 0} (P : B → Type 0) (f : A → B) → ((a : A) → P (f a)) → (xs : List A) → Each P (map f xs)
each_map P f h [] = tt
each_map P f h (x ∷ xs) = (h x, each_map P f h xs)

each_append : {A : Type 0} (P : A → Type 0) (xs ys : List A) → Each P xs → Each P ys → Each P (xs ++ ys)
each_append P [] ys a b = b
each_append P (x ∷ xs) ys a b = (a.0, each_append P xs ys a.1 b)

neither : (a b : Bool) → a ≡ false → b ≡ false → a || b ≡ false
neither a b e f = rw (e, f) refl

listed_plain : (ds : List Data) → Each IsPlain ds → items_have_float (to_items ds) ≡ false
listed_plain [] e = refl
listed_plain (d ∷ ds) e = neither (has_float d) (items_have_float (to_items ds)) e.0 (listed_plain ds e.1)

atom_plain : (a : Atom) → IsPlain (atom_json a)
atom_plain (Integer (pos n)) = refl
atom_plain (Integer (negsuc n)) = refl
atom_plain (Text t) = refl
atom_plain (Id u) = refl
atom_plain (Named t) = refl

entry_plain : (p : Atom × Atom) → IsPlain (pair_json p)
entry_plain p = rw (atom_plain p.0, atom_plain p.1) refl

pair_plain : (d : Data) → IsPlain d → false || (has_float d || false) ≡ false
pair_plain d e = rw e refl

datum_plain : (d : Datum) → IsPlain (datum_json d)
datum_plain (datum.Set []) = refl
datum_plain (datum.Set (a ∷ [])) = atom_plain a
datum_plain (datum.Set (a ∷ b ∷ atoms)) = pair_plain (list (map atom_json (a ∷ b ∷ atoms))) (listed_plain (map atom_json (a ∷ b ∷ atoms)) (each_map IsPlain atom_json atom_plain (a ∷ b ∷ atoms)))
datum_plain (datum.Map pairs) = pair_plain (list (map pair_json pairs)) (listed_plain (map pair_json pairs) (each_map IsPlain pair_json entry_plain pairs))

put_plain : (k : Bytes) (d : Data) (ms : Members) → IsPlain d → members_have_float ms ≡ false → members_have_float (put k d ms) ≡ false
put_plain k d no_members p q = neither (has_float d) false p refl
put_plain k d (member l e ms) p q = by (slice_cmp nat_cmp k l) (put_plain k d ms p (rest (has_float e) (members_have_float ms) q))
  where
    rest : (a b : Bool) → a || b ≡ false → b ≡ false
    rest true b h = absurd (cc)
    rest false b h = h

    first : (a b : Bool) → a || b ≡ false → a ≡ false
    first true b h = absurd (cc)
    first false b h = refl

    by : (o : Ordering) → members_have_float (put k d ms) ≡ false → members_have_float (match_ordering o (member k d (member l e ms)) (member l d ms) (member l e (put k d ms))) ≡ false
    by Less h = neither (has_float d) (has_float e || members_have_float ms) p q
    by Equal h = neither (has_float d) (members_have_float ms) p (rest (has_float e) (members_have_float ms) q)
    by Greater h = neither (has_float e) (members_have_float (put k d ms)) (first (has_float e) (members_have_float ms) q) h

fields_plain : (ms : List (Bytes × Data)) → Each (λ m. IsPlain m.1) ms → members_have_float (to_members ms) ≡ false
fields_plain [] e = refl
fields_plain (m ∷ ms) e = put_plain m.0 m.1 (to_members ms) e.0 (fields_plain ms e.1)

columns_plain : (values : List (Column × Datum)) → IsPlain (columns_json values)
columns_plain values = fields_plain (map (λ v. (column_name v.0, datum_json v.1)) values) (each_map (λ m. IsPlain m.1) (λ v. (column_name v.0, datum_json v.1)) (λ v. datum_plain v.1) values)

insert_plain : (t : Table) (k : ℕ) (values : List (Column × Datum)) → IsPlain (insert_json t k values)
insert_plain t k values =
    fields_plain ((codes "op", string (codes "insert")) ∷ (codes "row", columns_json values) ∷ (codes "table", string (table_name t)) ∷ (codes "uuid-name", string (row_name k)) ∷ [])
    (refl, (columns_plain values, (refl, (refl, tt))))

port_plain : (switches acls : Map bytes_cmp ℕ) (p : Port) → IsPlain (port_json switches acls p)
port_plain switches acls p =
    let values : List (Column × Datum) = (PortAclBindings, bound_rows acls p.2) ∷ (PortVlanBindings, bound_rows switches p.1) ∷ [] in
    fields_plain ((codes "op", string (codes "update")) ∷ (codes "row", columns_json values) ∷ (codes "table", string (table_name PhysicalPort)) ∷ (codes "where", at_id p.0) ∷ [])
    (refl, (columns_plain values, (refl, (refl, tt))))

locator_plain : (k ip : ℕ) → IsPlain (locator_json k ip)
locator_plain k ip = insert_plain PhysicalLocator k ((LocatorDstIp, one (Text (ipv4_text ip))) ∷ (LocatorEncapsulationType, one (Text (codes "vxlan_over_ipv4"))) ∷ [])

switch_plain : (i : Intention) (k : ℕ) (s : Bytes) → IsPlain (switch_json i k s)
switch_plain i k s = insert_plain LogicalSwitch k (switch_values s (maps.get i.switches s))

set_plain : (locators : Map nat_cmp ℕ) (k : ℕ) (ips : List ℕ) → IsPlain (set_json locators k ips)
set_plain locators k ips = insert_plain PhysicalLocatorSet k ((SetLocators, datum.Set (set_of (map (row_in locators) ips))) ∷ [])

remote_plain : (switches : Map bytes_cmp ℕ) (k : ℕ) (s : Bytes) → IsPlain (remote_json switches k s)
remote_plain switches k s =
    insert_plain McastMacsRemote (k + 1) ((McastRemoteMac, one (Text (codes "unknown-dst"))) ∷ (McastRemoteLocatorSet, one (new_row k)) ∷ (McastRemoteLogicalSwitch, one (row_in switches s)) ∷ [])

alone_if : (b : Bool) (d : Data) → IsPlain d → Each IsPlain (if b then [] else d ∷ [])
alone_if true d plain = tt
alone_if false d plain = (plain, tt)

ports_plain : (switches acls : Map bytes_cmp ℕ) (ports : List Port) → Each IsPlain (ports_json switches acls ports)
ports_plain switches acls [] = tt
ports_plain switches acls (p ∷ ps) =
    each_append IsPlain (update_json switches acls p) (ports_json switches acls ps)
    (alone_if ((length p.1 == 0) && (length p.2 == 0)) (port_json switches acls p) (port_plain switches acls p)) (ports_plain switches acls ps)

numbered_plain : {A : Type 0} (f : ℕ → A → Data) → ((k : ℕ) (x : A) → IsPlain (f k x)) → (k : ℕ) (xs : List A) → Each IsPlain (numbered f k xs)
numbered_plain f h k [] = tt
numbered_plain f h k (x ∷ xs) = (h k x, numbered_plain f h (suc k) xs)

list_plain : (entries : List WantedEntry) (k : ℕ) (name : Bytes) → Each IsPlain (with_entries entries k name)
list_plain entries k name =
    let rows : List Atom = numbered (λ n e. new_row n) k entries in
    let last : Data = acl_json (k + length entries) name rows in
    each_append IsPlain (numbered entry_json k entries) (last ∷ []) (numbered_plain entry_json (λ n e. insert_plain AclEntry n (entry_values e)) k entries)
    (insert_plain Acl (k + length entries) ((AclEntries, datum.Set (set_of rows)) ∷ (AclName, one (Text name)) ∷ []), tt)

acls_plain : (i : Intention) (k : ℕ) (names : List Bytes) → Each IsPlain (acls_json i k names)
acls_plain i k [] = tt
acls_plain i k (name ∷ names) =
    each_append IsPlain (with_entries (wanted_entries i name) k name) (acls_json i (suc (k + length (wanted_entries i name))) names)
    (list_plain (wanted_entries i name) k name) (acls_plain i (suc (k + length (wanted_entries i name))) names)

floods_plain : (locators : Map nat_cmp ℕ) (switches : Map bytes_cmp ℕ) (k : ℕ) (fs : List Flood) → Each IsPlain (floods_json locators switches k fs)
floods_plain locators switches k [] = tt
floods_plain locators switches k (f ∷ fs) = (set_plain locators k f.1, (remote_plain switches k f.0, floods_plain locators switches (k + 2) fs))

pub plain_operations : (i : Intention) (ports : List Port) (switches acls : List Bytes) (floods : List Flood) (addresses : List ℕ)
    → has_float (list (operations_for i ports switches acls floods addresses)) ≡ false
plain_operations i ports switches acls floods addresses =
    let first : ℕ = length addresses in
    let second : ℕ = first + length switches in
    let rows : Map bytes_cmp ℕ = rows_from first switches in
    let list_rows : Map bytes_cmp ℕ = put_all maps.empty (acl_rows i second acls) in
    let locators : Map nat_cmp ℕ = rows_from 0 addresses in
    let locator_ops : List Data = numbered locator_json 0 addresses in
    let switch_ops : List Data = numbered (switch_json i) first switches in
    let list_ops : List Data = acls_json i second acls in
    let port_ops : List Data = ports_json rows list_rows ports in
    let flood_ops : List Data = floods_json locators rows (second + length list_ops) floods in
    listed_plain ((((locator_ops ++ switch_ops) ++ list_ops) ++ port_ops) ++ flood_ops) (
    each_append IsPlain (((locator_ops ++ switch_ops) ++ list_ops) ++ port_ops) flood_ops
    (each_append IsPlain ((locator_ops ++ switch_ops) ++ list_ops) port_ops
    (each_append IsPlain (locator_ops ++ switch_ops) list_ops
    (each_append IsPlain locator_ops switch_ops (numbered_plain locator_json locator_plain 0 addresses) (numbered_plain (switch_json i) (switch_plain i) first switches))
    (acls_plain i second acls))
    (ports_plain rows list_rows ports))
    (floods_plain locators rows (second + length list_ops) floods))
