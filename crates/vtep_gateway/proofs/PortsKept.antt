-- The commit of a port that joins or leaves is never refused: no switch is bound that was not.
use Rattle.std.proofs.Common.{◌≡◌, inl, inr, ℕ, ◌≤◌, Bool, true, false, cond, List, length, Some, None, refl, sym, ap, subst, ◌∙◌, true≢false}
use Rattle.std.specs.Prelude.{is_some, is_ok, IsOk}
use Rattle.std.specs.Ordering.{eq_by_cmp}
use Rattle.std.specs.Cmp.{first_so, second_so}
use Rattle.vtep_base.specs.Reading.{Bytes}
use Rattle.vtep_base.specs.Maps as maps
use Rattle.vtep_schema.specs.declared.Table.TheVariants.{PhysicalPort, PhysicalSwitch, LogicalSwitch}
use Rattle.vtep_rows.specs.Row.{Contents}
use Rattle.vtep_rows.specs.Rows.{key_cmp, Rows, row_at, rows_of, next_id, inserted, removed, names}
use Rattle.vtep_rows.specs.Sound.{Sound}
use Rattle.vtep_rows.specs.Orders.{key_total}
use Rattle.vtep_rows.proofs.Entries.{both}
use Rattle.mac_learning.specs.declared.Learnt.{Learnt}
use Rattle.forward_program.specs.Readings.{own_ip}
use Rattle.forward_program.proofs.RowsIn.{in_rows, rows_in}
use Rattle.local_tables.specs.Followed.{is_named_by_port, commit}
use Rattle.local_tables.specs.Following.{is_bound}
use Rattle.local_tables.proofs.Members.{any_in, in_any}
use Rattle.local_tables.proofs.Same.{SameTable}
use Rattle.local_tables.proofs.Inserted.{was_or_new}
use Rattle.local_tables.proofs.Fewer.{fewer_kept}
use Rattle.vtep_gateway.specs.declared.ports.Change.TheVariants.{Joins, Leaves}
use Rattle.vtep_gateway.specs.Ports.{port_refusal, switch_id, switch_of, changed_switch, port_row, with_port, without_port}
use Rattle.vtep_gateway.specs.Good.{IsGood}
use Rattle.vtep_gateway.proofs.PortJoins.{join_settled, join_clean}
use Rattle.vtep_gateway.proofs.PortLeaves.{leave_settled}
use Rattle.vtep_gateway.proofs.Changing.{put_apart, join_apart, leave_apart, joins_change, leaves_change}

-- ---- switches that are bound

module _ (r s : Rows) (q : ℕ) (switches : SameTable LogicalSwitch s r) (ports : (i : ℕ) (row : Contents) → row_at s (PhysicalPort, i) ≡ Some row → names row (LogicalSwitch, q) ≡ true → row_at r (PhysicalPort, i) ≡ Some row) where
  named_fewer : is_named_by_port s q ≡ true → is_named_by_port r q ≡ true
  named_fewer h =
      let found = any_in (λ row. names row.1 (LogicalSwitch, q)) (rows_of PhysicalPort s) h in
      let row : ℕ × Contents = found.0 in
      in_any (λ row. names row.1 (LogicalSwitch, q)) (rows_of PhysicalPort r) row (rows_in r PhysicalPort row.0 row.1 (ports row.0 row.1 (in_rows s PhysicalPort row found.1) found.2)) found.2

  bound_fewer : is_bound s q ≡ true → is_bound r q ≡ true
  bound_fewer h =
      both (maps.has r.rows (LogicalSwitch, q)) (is_named_by_port r q) (sym (ap is_some (switches q)) ∙ first_so (maps.has s.rows (LogicalSwitch, q)) (is_named_by_port s q) h)
      (named_fewer (second_so (maps.has s.rows (LogicalSwitch, q)) (is_named_by_port s q) h))

-- ---- a port that joins

-- a new port binds nothing
binds_nothing : (name : Bytes) (q : ℕ) → names (port_row name) (LogicalSwitch, q) ≡ false
binds_nothing name q = refl

join_binds_no_more : (r : Rows) (name : Bytes) (q : ℕ) → is_bound (with_port r name) q ≡ true → is_bound r q ≡ true
join_binds_no_more r name q = bound_fewer r (with_port r name) q (join_apart LogicalSwitch refl refl r name) was
  where
    was : (i : ℕ) (row : Contents) → row_at (with_port r name) (PhysicalPort, i) ≡ Some row → names row (LogicalSwitch, q) ≡ true → row_at r (PhysicalPort, i) ≡ Some row
    was i row there bound =
        elim (was_or_new r (port_row name) (PhysicalPort, i) row (sym (put_apart (inserted r (port_row name)).rows PhysicalPort PhysicalSwitch i (switch_id r) (changed_switch Joins (next_id r) (switch_of (inserted r (port_row name)))) refl) ∙ there)) [
          | inl before ↦ before
          | inr came ↦ absurd (true≢false (sym bound ∙ ap (λ x. names x (LogicalSwitch, q)) came.1 ∙ binds_nothing name q))
        ]

pub joins_kept : (r : Rows) (name : Bytes) (l : List Learnt) → IsGood r l → length name ≤ 64 → port_refusal r name ≡ None → IsOk (commit (own_ip r) r (with_port r name) l)
joins_kept r name l good short free =
    ap is_ok
    (fewer_kept (own_ip r) r (with_port r name) l (joins_change r name l good short free) (subst Sound (sym (join_clean r name good.settled short free)) (join_settled r name good.settled short free).sound)
    (join_binds_no_more r name))

-- ---- a port that leaves

leave_binds_no_more : (r : Rows) (id q : ℕ) → is_bound (without_port r id) q ≡ true → is_bound r q ≡ true
leave_binds_no_more r id q = bound_fewer r (without_port r id) q (leave_apart LogicalSwitch refl refl r id) was
  where
    left : (i : ℕ) (row : Contents) (b : Bool) → cond b None (row_at r (PhysicalPort, i)) ≡ Some row → row_at r (PhysicalPort, i) ≡ Some row
    left i row true h = cc
    left i row false h = h

    was : (i : ℕ) (row : Contents) → row_at (without_port r id) (PhysicalPort, i) ≡ Some row → names row (LogicalSwitch, q) ≡ true → row_at r (PhysicalPort, i) ≡ Some row
    was i row there _ =
        left i row (eq_by_cmp key_cmp (PhysicalPort, i) (PhysicalPort, id))
        (sym (maps.get-remove key_total r.rows (PhysicalPort, id) (PhysicalPort, i))
        ∙ sym (put_apart (removed r (PhysicalPort, id)).rows PhysicalPort PhysicalSwitch i (switch_id r) (changed_switch Leaves id (switch_of (removed r (PhysicalPort, id)))) refl) ∙ there)

pub leaves_kept : (r : Rows) (id : ℕ) (l : List Learnt) → IsGood r l → IsOk (commit (own_ip r) r (without_port r id) l)
leaves_kept r id l good = ap is_ok (fewer_kept (own_ip r) r (without_port r id) l (leaves_change r id l good) (leave_settled r id good.settled).sound (leave_binds_no_more r id))
