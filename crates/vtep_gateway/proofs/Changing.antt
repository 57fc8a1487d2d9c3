-- Operations and ports leave the Local tables, and what they change is what a commit follows.
use Rattle.std.proofs.Common.{◌≡◌, inl, ℕ, ◌≤◌, Bool, true, false, cond, List, length, Option, Some, None, refl, sym, ap, subst, ◌∙◌, true≢false}
use Rattle.std.specs.Ordering.{eq_by_cmp}
use Rattle.serde_json.specs.Data.{Data}
use Rattle.vtep_base.specs.Reading.{Bytes}
use Rattle.vtep_base.specs.Maps as maps
use Rattle.vtep_base.specs.Maps.{Map}
use Rattle.vtep_schema.specs.declared.Table.{Table}
use Rattle.vtep_schema.specs.declared.Table.TheVariants.{PhysicalPort, PhysicalSwitch, UcastMacsLocal, McastMacsLocal, PhysicalLocatorSet, PhysicalLocator}
use Rattle.vtep_schema.specs.declared.Column.{Column}
use Rattle.vtep_schema.specs.declared.Column.TheVariants.{GlobalSwitches}
use Rattle.vtep_schema.specs.Tables.{same_table, table_rule}
use Rattle.vtep_schema.specs.Orders.{column_total, column_exact}
use Rattle.vtep_rows.specs.Row.{Contents}
use Rattle.vtep_rows.specs.Rows.{Key, key_cmp, Rows, IsRows, row_at, inserted, removed, next_id}
use Rattle.vtep_rows.specs.Orders.{key_total}
use Rattle.vtep_rows.proofs.Kept.{its_table, same_table_itself}
use Rattle.vtep_rows.proofs.Restored.{tied}
use Rattle.mac_learning.specs.declared.Learnt.{Learnt}
use Rattle.forward_program.specs.Readings.{own_ip}
use Rattle.local_tables.specs.Local.{IsChanged, IsFixed}
use Rattle.local_tables.proofs.Same.{SameTable}
use Rattle.transact_profile.specs.Meaning.{means}
use Rattle.transact_profile.specs.Transaction.{ops_in}
use Rattle.vtep_gateway.specs.declared.ports.Change.TheVariants.{Joins, Leaves}
use Rattle.vtep_gateway.specs.Ports.{port_refusal, switch_id, switch_of, changed_switch, port_row, with_port, without_port}
use Rattle.vtep_gateway.specs.Settled.{is_written, IsLeft, LeavesRest}
use Rattle.vtep_gateway.specs.Good.{IsGood}
use Rattle.vtep_gateway.proofs.Lasting.{operations_leave}
use Rattle.vtep_gateway.proofs.PortJoins.{join_settled}
use Rattle.vtep_gateway.proofs.PortLeaves.{port_left, rows_changed}

-- ---- tables of which sessions write no column

same_contents : (a b : Contents) → b.table ≡ a.table → b.values ≡ a.values → a ≡ b
same_contents a b t v i = record { table = sym t i; values = sym v i }

-- a row that differs in no column is the same
pub left_whole : (t : Table) → ((c : Column) → is_written t c ≡ false) → (a b : Option Contents) → ((row : Contents) → a ≡ Some row → row.table ≡ t) → IsLeft a b → b ≡ a
left_whole t none None None own h = refl
left_whole t none None (Some b) own h = absurd h
left_whole t none (Some a) None own h = absurd h
left_whole t none (Some a) (Some b) own h =
    ap Some (sym (same_contents a b h.0 (maps.same_map column_total column_exact b.values a.values (λ c. h.1 c (ap (λ u. is_written u c) (own a refl) ∙ none c)))))

pub left_table : (t : Table) → ((c : Column) → is_written t c ≡ false) → (table_rule t).open_to_sessions ≡ false → (r s : Rows) → IsRows r → LeavesRest r s → SameTable t s r
left_table t none shut r s rows h i = left_whole t none (row_at r (t, i)) (row_at s (t, i)) (λ row is. its_table r t i row rows is) (h.rest t i shut)

pub no_switch_written : (c : Column) → is_written PhysicalSwitch c ≡ false
no_switch_written GlobalSwitches = refl
no_switch_written _ = refl

no_address_written : (c : Column) → is_written UcastMacsLocal c ≡ false
no_address_written GlobalSwitches = refl
no_address_written _ = refl

no_flood_written : (c : Column) → is_written McastMacsLocal c ≡ false
no_flood_written GlobalSwitches = refl
no_flood_written _ = refl

-- ---- rows of other tables

apart : (t u : Table) (i j : ℕ) → same_table t u ≡ false → eq_by_cmp key_cmp (t, i) (u, j) ≡ false
apart t u i j other = by (eq_by_cmp key_cmp (t, i) (u, j)) refl
  where
    by : (b : Bool) → eq_by_cmp key_cmp (t, i) (u, j) ≡ b → eq_by_cmp key_cmp (t, i) (u, j) ≡ false
    by true tie = absurd (true≢false (sym (same_table_itself t) ∙ ap (same_table t) (ap (λ (k : Key). k.0) (tied (t, i) (u, j) tie)) ∙ other))
    by false tie = tie

pub put_apart : (m : Map key_cmp Contents) (t u : Table) (i j : ℕ) (row : Contents) → same_table t u ≡ false → maps.get (maps.insert m (u, j) row) (t, i) ≡ maps.get m (t, i)
put_apart m t u i j row other = maps.get-insert key_total m (u, j) row (t, i) ∙ ap (λ b. cond b (Some row) (maps.get m (t, i))) (apart t u i j other)

pub remove_apart : (m : Map key_cmp Contents) (t u : Table) (i j : ℕ) → same_table t u ≡ false → maps.get (maps.remove m (u, j)) (t, i) ≡ maps.get m (t, i)
remove_apart m t u i j other = maps.get-remove key_total m (u, j) (t, i) ∙ ap (λ b. cond b None (maps.get m (t, i))) (apart t u i j other)

pub join_apart : (t : Table) → same_table t PhysicalPort ≡ false → same_table t PhysicalSwitch ≡ false → (r : Rows) (name : Bytes) → SameTable t (with_port r name) r
join_apart t no_port no_switch r name i =
    put_apart (inserted r (port_row name)).rows t PhysicalSwitch i (switch_id r) (changed_switch Joins (next_id r) (switch_of (inserted r (port_row name)))) no_switch
    ∙ put_apart r.rows t PhysicalPort i (next_id r) (port_row name) no_port

pub leave_apart : (t : Table) → same_table t PhysicalPort ≡ false → same_table t PhysicalSwitch ≡ false → (r : Rows) (id : ℕ) → SameTable t (without_port r id) r
leave_apart t no_port no_switch r id i =
    put_apart (removed r (PhysicalPort, id)).rows t PhysicalSwitch i (switch_id r) (changed_switch Leaves id (switch_of (removed r (PhysicalPort, id)))) no_switch
    ∙ remove_apart r.rows t PhysicalPort i id no_port

-- ---- what a commit follows

pub good_changed : (r s : Rows) (l : List Learnt) → IsGood r l → IsRows s → SameTable UcastMacsLocal s r → SameTable McastMacsLocal s r → IsChanged (own_ip r) r s l
good_changed r s l good rows addresses floods = record {
  before = good.settled.rows;
  sound = good.settled.sound;
  referenced = good.settled.referenced;
  local = good.local;
  after = rows;
  addresses = addresses;
  floods = floods;
}

pub same_fixed : (r s : Rows) → SameTable PhysicalLocator s r → SameTable PhysicalLocatorSet s r → IsFixed r s
same_fixed r s locators sets = record { locators = λ i row is. inl (sym (locators i) ∙ is); sets = λ i row is. inl (sym (sets i) ∙ is) }

pub unchanged_changes : (r : Rows) (l : List Learnt) → IsGood r l → IsChanged (own_ip r) r r l
unchanged_changes r l good = good_changed r r l good good.settled.rows (λ i. refl) (λ i. refl)

pub operations_change : (params : Data) (r : Rows) (l : List Learnt) → IsGood r l → IsChanged (own_ip r) r (means (ops_in params) r).rows l
operations_change params r l good =
    let left = operations_leave params r good.settled.rows in
    good_changed r (means (ops_in params) r).rows l good left.rows (left_table UcastMacsLocal no_address_written refl r (means (ops_in params) r).rows good.settled.rows left)
    (left_table McastMacsLocal no_flood_written refl r (means (ops_in params) r).rows good.settled.rows left)

pub joins_change : (r : Rows) (name : Bytes) (l : List Learnt) → IsGood r l → length name ≤ 64 → port_refusal r name ≡ None → IsChanged (own_ip r) r (with_port r name) l
joins_change r name l good short free =
    good_changed r (with_port r name) l good (join_settled r name good.settled short free).rows (join_apart UcastMacsLocal refl refl r name) (join_apart McastMacsLocal refl refl r name)

pub joins_fix : (r : Rows) (name : Bytes) → IsFixed r (with_port r name)
joins_fix r name = same_fixed r (with_port r name) (join_apart PhysicalLocator refl refl r name) (join_apart PhysicalLocatorSet refl refl r name)

pub leaves_change : (r : Rows) (id : ℕ) (l : List Learnt) → IsGood r l → IsChanged (own_ip r) r (without_port r id) l
leaves_change r id l good =
    good_changed r (without_port r id) l good (subst IsRows (sym (port_left r id good.settled)) (rows_changed r id good.settled)) (leave_apart UcastMacsLocal refl refl r id) (leave_apart McastMacsLocal refl refl r id)

pub leaves_fix : (r : Rows) (id : ℕ) → IsFixed r (without_port r id)
leaves_fix r id = same_fixed r (without_port r id) (leave_apart PhysicalLocator refl refl r id) (leave_apart PhysicalLocatorSet refl refl r id)
