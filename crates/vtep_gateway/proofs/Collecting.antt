-- Collected rows, and the rows that settled ones become.
use Rattle.std.proofs.Common.{◌≡◌, ℕ, ◌≤◌, ◌==◌, Bool, true, false, ◌&&◌, ◌||◌, List, [], ◌∷◌, map, length, is_some, Some, None, refl, sym, ap, ◌∙◌, true≢false, arith, append-nil}
use Rattle.std.proofs.lemmas.Bool.Decides.{nat_tests}
use Rattle.std.proofs.lemmas.List.{length-map}
use Rattle.std.specs.List.{list_all, filter_map}
use Rattle.std.specs.Option.{option_map}
use Rattle.std.specs.Cmp.{first_so, second_so}
use Rattle.vtep_base.specs.Reading.{Bytes}
use Rattle.vtep_base.specs.Maps as maps
use Rattle.vtep_base.specs.Maps.{Map}
use Rattle.vtep_schema.specs.declared.Table.{Table}
use Rattle.vtep_schema.specs.declared.Table.TheVariants.{PhysicalPort, PhysicalSwitch}
use Rattle.vtep_schema.specs.Tables.{table_rule}
use Rattle.ovsdb_values.specs.declared.atoms.Atom.TheVariants.{Id}
use Rattle.vtep_schema.specs.declared.rules.Domain.TheVariants as domain
use Rattle.vtep_rows.specs.Row.{Contents, reference, references}
use Rattle.vtep_rows.specs.Rows.{Key, same_key, Rows, IsRows, row_at, row_id, rows_of, ids_of, names, has_key, is_named, stays, collected}
use Rattle.vtep_rows.specs.Sound.{Sound, broken}
use Rattle.vtep_rows.specs.Orders.{key_exact}
use Rattle.vtep_rows.proofs.Entries.{both}
use Rattle.vtep_rows.proofs.Kept.{same_rows}
use Rattle.vtep_rows.proofs.Collected.{exact_in, is_collected, only_one, still_collected}
use Rattle.vtep_rows.proofs.SoundLaws.{is_unbroken}
use Rattle.vtep_rows.proofs.Restored.{itself}
use Rattle.vtep_rows.proofs.TwinLaws.{any_found}
use Rattle.vtep_gateway.specs.Ports.{switch_id}
use Rattle.vtep_gateway.specs.Settled.{switch_with, IsSettled}
use Rattle.forward_program.proofs.Ascending.{has_id, Ascending, same_ids, fewer, has_row, ids_ascend}

-- ---- what a collection leaves

pub exact : (r : Rows) (k : Key) → maps.has (collected r).rows k ≡ (maps.has r.rows k && stays (collected r).rows k)
exact r k = exact_in (length r.rows.list) r.rows (omega arith) k

-- it was there, as it is
pub was_there : (r : Rows) (k : Key) (row : Contents) → row_at (collected r) k ≡ Some row → row_at r k ≡ Some row
was_there r k row is = sym ((is_collected r).same k (ap is_some is)) ∙ is

pub was_in : (r : Rows) (k : Key) → maps.has (collected r).rows k ≡ true → maps.has r.rows k ≡ true
was_in r k h = first_so (maps.has r.rows k) _ (sym (exact r k) ∙ h)

-- what stays is there
pub still_in : (r : Rows) (k : Key) → maps.has r.rows k ≡ true → stays (collected r).rows k ≡ true → maps.has (collected r).rows k ≡ true
still_in r k h g = exact r k ∙ both (maps.has r.rows k) _ h g

pub still_there : (r : Rows) (k : Key) → maps.has (collected r).rows k ≡ true → row_at (collected r) k ≡ row_at r k
still_there r k h = (is_collected r).same k h

once : (a b s : Bool) → a ≡ (b && s) → a ≡ (a && s)
once true b s e = sym (second_so b s (sym e))
once false b s e = refl

pub twice_collected : (r : Rows) → IsRows r → collected (collected r) ≡ collected r
twice_collected r rows =
    sym (same_rows r.made r.counter _ _ (only_one (collected r) (collected r).rows (still_collected r rows) (λ k. once _ _ _ (exact r k)) (λ k h. refl)))

-- nothing goes where everything stays
pub all_stay : (r : Rows) → IsRows r → ((k : Key) → maps.has r.rows k ≡ true → stays r.rows k ≡ true) → collected r ≡ r
all_stay r rows so = sym (same_rows r.made r.counter r.rows (collected r).rows (only_one r r.rows rows (λ k. by k (maps.has r.rows k) refl) (λ k h. refl)))
  where
    by : (k : Key) (b : Bool) → maps.has r.rows k ≡ b → maps.has r.rows k ≡ (maps.has r.rows k && stays r.rows k)
    by k true e = e ∙ sym (both (maps.has r.rows k) _ e (so k e))
    by k false e = e ∙ sym (ap (λ b. b && stays r.rows k) e)

pub it_stays : (r : Rows) → collected r ≡ r → (k : Key) → maps.has r.rows k ≡ true → stays r.rows k ≡ true
it_stays r clean k there =
    second_so (maps.has r.rows k) (stays r.rows k) (sym (ap (λ y. maps.has y.rows k) (sym clean) ∙ exact r k ∙ ap (λ y. maps.has r.rows k && stays y.rows k) clean) ∙ there)

pub named_there : (r : Rows) (k q : Key) (row : Contents) → row_at r k ≡ Some row → names row q ≡ true → is_named r.rows q ≡ true
named_there r k q row is h = any_found key_exact (λ e. names e.1 q) k row r.rows.list is h

or_right : (a b : Bool) → b ≡ true → (a || b) ≡ true
or_right true b h = refl
or_right false b h = h

pub stays_named : (r : Rows) (k q : Key) (row : Contents) → row_at r k ≡ Some row → names row q ≡ true → stays r.rows q ≡ true
stays_named r k q row is h = or_right (table_rule q.0).root (is_named r.rows q) (named_there r k q row is h)

pub unbroken : (r : Rows) → Sound r → broken r ≡ None
unbroken r sound = ap (option_map (λ b. b.rule)) (is_unbroken r sound)

-- ---- the row of the switch

abbrev pub port_key : ℕ → Key
port_key i = (PhysicalPort, i)

abbrev pub switch_key : Rows → Key
switch_key r = (PhysicalSwitch, switch_id r)

id_references : (ids : List ℕ) → filter_map (reference (domain.Row PhysicalPort)) (map Id ids) ≡ map port_key ids
id_references [] = refl
id_references (i ∷ ids) = ap (λ ks. port_key i ∷ ks) (id_references ids)

pub switch_references : (name : Bytes) (ip : ℕ) (ids : List ℕ) → references (switch_with name ip ids) ≡ map port_key ids
switch_references name ip ids = append-nil (filter_map (reference (domain.Row PhysicalPort)) (map Id ids)) ∙ id_references ids

some_key : (ids : List ℕ) (i : ℕ) → has_id ids i ≡ true → has_key (map port_key ids) (port_key i) ≡ true
some_key [] i h = h
some_key (j ∷ ids) i h =
    elim (i == j) as (λ b. (i == j) ≡ b → (b || has_id ids i) ≡ true → (same_key (port_key i) (port_key j) || has_key (map port_key ids) (port_key i)) ≡ true) [
      | true ↦ λ e _. let same : i ≡ j = grind (arith, nat_tests, e) in ap (λ b. b || has_key (map port_key ids) (port_key i)) (ap (λ x. same_key (port_key i) (port_key x)) (sym same) ∙ itself (port_key i))
      | false ↦ λ _ g. or_right (same_key (port_key i) (port_key j)) _ (some_key ids i g)
    ] refl h

-- the switch's row names its ports
pub names_port : (name : Bytes) (ip : ℕ) (ids : List ℕ) (i : ℕ) → has_id ids i ≡ true → names (switch_with name ip ids) (port_key i) ≡ true
names_port name ip ids i h = ap (λ ks. has_key ks (port_key i)) (switch_references name ip ids) ∙ some_key ids i h

each_key : (p : Key → Bool) (ids : List ℕ) → ((i : ℕ) → has_id ids i ≡ true → p (port_key i) ≡ true) → list_all p (map port_key ids) ≡ true
each_key p [] so = refl
each_key p (i ∷ ids) so =
    both (p (port_key i)) _ (so i (ap (λ b. b || has_id ids i) (equal i))) (each_key p ids (λ j h. so j (or_right (j == i) (has_id ids j) h)))
  where
    equal : (n : ℕ) → (n == n) ≡ true
    equal n = grind (arith, nat_tests)

-- what all its ports pass, all that the row names pass
pub ports_pass : (p : Key → Bool) (name : Bytes) (ip : ℕ) (ids : List ℕ) → ((i : ℕ) → has_id ids i ≡ true → p (port_key i) ≡ true) → list_all p (references (switch_with name ip ids)) ≡ true
ports_pass p name ip ids so = ap (list_all p) (switch_references name ip ids) ∙ each_key p ids so

pub alone : (r : Rows) → IsSettled r → (i : ℕ) → maps.has r.rows (PhysicalSwitch, i) ≡ true → i ≡ switch_id r
alone r s i h = by (i == switch_id r) refl (sym (ap (λ ids. has_id ids i) s.only) ∙ has_row PhysicalSwitch r i ∙ h)
  where
    by : (b : Bool) → (i == switch_id r) ≡ b → (i == switch_id r || false) ≡ true → i ≡ switch_id r
    by true e g = grind (arith, nat_tests, e)
    by false e g = absurd (true≢false (sym g ∙ ap (λ b. b || false) e))

pub there_alone : (r : Rows) → IsSettled r → maps.has r.rows (switch_key r) ≡ true
there_alone r s = ap is_some s.switch

count_ids : (t : Table) (r : Rows) → length (ids_of t r) ≡ length (rows_of t r)
count_ids t r = length-map (rows_of t r) (λ row. row.0)

-- no more rows than there were
pub no_more : (t : Table) (r s : Rows) (most : ℕ) → length (rows_of t r) ≤ most → ((i : ℕ) → maps.has s.rows (t, i) ≡ true → maps.has r.rows (t, i) ≡ true) → length (rows_of t s) ≤ most
no_more t r s most few within =
    let fewer_ids : length (ids_of t s) ≤ length (ids_of t r) = fewer (ids_of t s) (ids_of t r) (ids_ascend t s) (ids_ascend t r) (λ i h. has_row t r i ∙ within i (sym (has_row t s i) ∙ h)) in
    omega (arith, fewer_ids, count_ids t r, count_ids t s, few)

-- no more ports than these
pub no_more_than : (t : Table) (s : Rows) (ids : List ℕ) (most : ℕ) → Ascending ids → length ids ≤ most → ((i : ℕ) → maps.has s.rows (t, i) ≡ true → has_id ids i ≡ true) → length (rows_of t s) ≤ most
no_more_than t s ids most up few within =
    let fewer_ids : length (ids_of t s) ≤ length ids = fewer (ids_of t s) ids (ids_ascend t s) up (λ i h. within i (sym (has_row t s i) ∙ h)) in
    omega (arith, fewer_ids, count_ids t s, few)

-- ---- settled rows after a change

pub settled_after : (r s : Rows) (ports : List ℕ) (settled : IsSettled r) → IsRows s → Sound s → collected s ≡ s → s.made ≡ r.made
    → ((i : ℕ) → maps.has s.rows (PhysicalSwitch, i) ≡ maps.has r.rows (PhysicalSwitch, i)) → row_at s (switch_key r) ≡ Some (switch_with settled.name settled.ip ports)
    → Ascending ports → ((i : ℕ) → has_id ports i ≡ maps.has s.rows (port_key i)) → IsSettled s
settled_after r s ports settled rows sound clean made switches row up own =
    let same_id : switch_id s ≡ switch_id r = ap (λ m. row_id m 2) made in record {
      rows = rows;
      sound = sound;
      referenced = clean;
      only =
          same_ids (ids_of PhysicalSwitch s) (ids_of PhysicalSwitch r) (ids_ascend PhysicalSwitch s) (ids_ascend PhysicalSwitch r) (λ i. has_row PhysicalSwitch s i ∙ switches i ∙ sym (has_row PhysicalSwitch r i))
          ∙ settled.only ∙ ap (λ id. id ∷ []) (sym same_id);
      name = settled.name;
      ip = settled.ip;
      fits = settled.fits;
      switch =
          ap (λ id. row_at s (PhysicalSwitch, id)) same_id ∙ row
          ∙ ap (λ ids. Some (switch_with settled.name settled.ip ids)) (same_ids ports (ids_of PhysicalPort s) up (ids_ascend PhysicalPort s) (λ i. own i ∙ sym (has_row PhysicalPort s i)));
    }

and_true : (b : Bool) → (b && true) ≡ b
and_true true = refl
and_true false = refl

-- the row of the switch is of a root table
pub switches_stay : (u : Rows) (i : ℕ) → maps.has (collected u).rows (PhysicalSwitch, i) ≡ maps.has u.rows (PhysicalSwitch, i)
switches_stay u i = exact u (PhysicalSwitch, i) ∙ and_true (maps.has u.rows (PhysicalSwitch, i))

-- and what it names stays
pub ports_stay : (u : Rows) (k : ℕ) (name : Bytes) (ip : ℕ) (ports : List ℕ) → row_at u (PhysicalSwitch, k) ≡ Some (switch_with name ip ports) → ((i : ℕ) → has_id ports i ≡ maps.has u.rows (port_key i))
    → (i : ℕ) → has_id ports i ≡ maps.has (collected u).rows (port_key i)
ports_stay u k name ip ports row own i = by (has_id ports i) refl
  where
    left : row_at (collected u) (PhysicalSwitch, k) ≡ Some (switch_with name ip ports)
    left = still_there u (PhysicalSwitch, k) (switches_stay u k ∙ ap is_some row) ∙ row

    by : (b : Bool) → has_id ports i ≡ b → b ≡ maps.has (collected u).rows (port_key i)
    by true e = sym (still_in u (port_key i) (sym (own i) ∙ e) (stays_named (collected u) (PhysicalSwitch, k) (port_key i) (switch_with name ip ports) left (names_port name ip ports i e)))
    by false e = sym (exact u (port_key i) ∙ ap (λ b. b && stays (collected u).rows (port_key i)) (sym (own i) ∙ e))
