-- A switch that is not touched by a change is bound as it was.
use Rattle.std.proofs.Common.{◌≡◌, inl, inr, ℕ, Bool, true, false, ◌&&◌, List, ◌++◌, is_some, Some, refl, sym, ap, ◌∙◌, subst, true≢false}
use Rattle.std.specs.Prelude.{◌==◌}
use Rattle.std.specs.List.{flat_map}
use Rattle.vtep_base.specs.Maps as maps
use Rattle.vtep_schema.specs.declared.Table.TheVariants.{PhysicalPort, LogicalSwitch}
use Rattle.vtep_rows.specs.Row.{Contents, references}
use Rattle.vtep_rows.specs.Rows.{Rows, Key, row_at, rows_of, same_key, names}
use Rattle.vtep_rows.proofs.Restored.{tied}
use Rattle.vtep_rows.proofs.TwinLaws.{one_answer}
use Rattle.forward_program.specs.Built.{IsIn}
use Rattle.forward_program.proofs.InLists.{in_front, in_back, flat_in, picked_in}
use Rattle.forward_program.proofs.RowsIn.{in_rows, rows_in}
use Rattle.local_tables.specs.Followed.{is_named_by_port}
use Rattle.local_tables.specs.Following.{has_id, differing, switch_in, switches_of, touched, is_bound}
use Rattle.local_tables.proofs.Members.{any_in, in_any}
use Rattle.local_tables.proofs.Differing.{same_or_differing}
use Rattle.local_tables.proofs.LocalLaws.{number_itself, number_same}

pub has_number : (xs : List ℕ) (i : ℕ) → IsIn i xs → has_id xs i ≡ true
has_number xs i h = in_any (λ x. i == x) xs i h (number_itself i)

pub number_in : (xs : List ℕ) (i : ℕ) → has_id xs i ≡ true → IsIn i xs
number_in xs i h = let found = any_in (λ x. i == x) xs h in subst (λ x. IsIn x xs) (sym (number_same i found.0 found.2)) found.1

switch_named : (row : Contents) (s : ℕ) → names row (LogicalSwitch, s) ≡ true → IsIn s (switches_of (Some row))
switch_named row s h =
    let found = any_in (same_key (LogicalSwitch, s)) (references row) h in
    let is : (LogicalSwitch, s) ≡ found.0 = tied (LogicalSwitch, s) found.0 found.2 in
    picked_in switch_in s (LogicalSwitch, s) (references row) (subst (λ (k : Key). IsIn k (references row)) (sym is) found.1) refl

module _ (old r : Rows) where
  abbrev both_bind : ℕ → List ℕ
  both_bind id = switches_of (row_at old (PhysicalPort, id)) ++ switches_of (row_at r (PhysicalPort, id))

  by_port : (s id : ℕ) → IsIn id (differing PhysicalPort old r) → IsIn s (both_bind id) → IsIn s (touched old r)
  by_port s id h g = in_front s (flat_map both_bind (differing PhysicalPort old r)) (differing LogicalSwitch old r) (flat_in both_bind s id (differing PhysicalPort old r) h g)

  by_switch : (s : ℕ) → IsIn s (differing LogicalSwitch old r) → IsIn s (touched old r)
  by_switch s h = in_back s (flat_map both_bind (differing PhysicalPort old r)) (differing LogicalSwitch old r) h

  module _ (s : ℕ) (never : IsIn s (touched old r) → ⊥) where
    there_same : maps.has old.rows (LogicalSwitch, s) ≡ maps.has r.rows (LogicalSwitch, s)
    there_same = elim (same_or_differing old r LogicalSwitch s) [
      | inl same ↦ ap is_some same
      | inr changed ↦ absurd (never (by_switch s changed))
    ]

    abbrev test : ℕ × Contents → Bool
    test row = names row.1 (LogicalSwitch, s)

    named_after : is_named_by_port old s ≡ true → is_named_by_port r s ≡ true
    named_after h =
        let row = any_in test (rows_of PhysicalPort old) h in
        let there = in_rows old PhysicalPort row.0 row.1 in
        elim (same_or_differing old r PhysicalPort row.0.0) [
          | inl same ↦ in_any test (rows_of PhysicalPort r) row.0 (rows_in r PhysicalPort row.0.0 row.0.1 (sym same ∙ there)) row.2
          | inr changed ↦ absurd (never (by_port s row.0.0 changed
              (in_front s (switches_of (row_at old (PhysicalPort, row.0.0))) (switches_of (row_at r (PhysicalPort, row.0.0))) (subst (λ o. IsIn s (switches_of o)) (sym there) (switch_named row.0.1 s row.2)))))
        ]

    named_before : is_named_by_port r s ≡ true → is_named_by_port old s ≡ true
    named_before h =
        let row = any_in test (rows_of PhysicalPort r) h in
        let there = in_rows r PhysicalPort row.0 row.1 in
        elim (same_or_differing old r PhysicalPort row.0.0) [
          | inl same ↦ in_any test (rows_of PhysicalPort old) row.0 (rows_in old PhysicalPort row.0.0 row.0.1 (same ∙ there)) row.2
          | inr changed ↦ absurd (never (by_port s row.0.0 changed
              (in_back s (switches_of (row_at old (PhysicalPort, row.0.0))) (switches_of (row_at r (PhysicalPort, row.0.0))) (subst (λ o. IsIn s (switches_of o)) (sym there) (switch_named row.0.1 s row.2)))))
        ]

    pub untouched : is_bound old s ≡ is_bound r s
    untouched i = there_same i && one_answer (is_named_by_port old s) (is_named_by_port r s) named_after named_before i

-- a switch that is bound before or after a change, but not both, is touched
pub bound_apart : (old r : Rows) (s : ℕ) (b c : Bool) → is_bound old s ≡ b → is_bound r s ≡ c → (b ≡ c → ⊥) → has_id (touched old r) s ≡ true
bound_apart old r s b c before after differ = by (has_id (touched old r) s) refl
  where
    by : (d : Bool) → has_id (touched old r) s ≡ d → has_id (touched old r) s ≡ true
    by true h = h
    by false h = absurd (differ (sym before ∙ untouched old r s (λ g. true≢false (sym (has_number (touched old r) s g) ∙ h)) ∙ after))
