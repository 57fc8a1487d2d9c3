-- Rows of ports and of the switch, as the code makes them.
use Rattle.std.proofs.Common.{◌≡◌, ℕ, Bool, true, false, Option, Some, None, Result, Ok, Err, IfOk, IfSome, unwrap_or, sym, ap, subst, ◌∙◌}
use Rattle.std.specs.Prelude.{if◌then◌else◌}
use Rattle.std.specs.Cmp.{eq_by_cmp_equiv}
use Rattle.std.specs.Cmp.Lexicographic.{same_text}
use Rattle.std.proofs.lemmas.Cmp.{nat_list_eq_equiv}
use Rattle.vtep_base.specs.Reading.{Bytes, same_bytes}
use Rattle.ovsdb_values.specs.declared.atoms.Atom.TheVariants.{Text}
use Rattle.ovsdb_values.specs.declared.datums.Datum.{Datum}
use Rattle.ovsdb_values.specs.Atoms.{atom_total, text_in, same_atom}
use Rattle.ovsdb_values.specs.Exact.{same_atom_exact}
use Rattle.vtep_schema.specs.declared.Column.{Column}
use Rattle.vtep_schema.specs.declared.Table.TheVariants.{PhysicalSwitch}
use Rattle.vtep_rows.specs.Row.{Contents, changed_row, with_value, default_row}
use Rattle.vtep_rows.specs.Rows.{Rows, row_at, replaced}
use Rattle.vtep_gateway.specs.declared.ports.Change.{Change}
use Rattle.vtep_gateway.specs.Ports.{switch_id, changed_switch, with_ports}
use Rattle.vtep_rows.proofs.TwinLaws.{one_answer}

chosen : (b : Bool) (a r : Contents) → (if b then Some a else None) ≡ Some r → a ≡ r
chosen true a r e = cc
chosen false a r e = cc

-- a row with one value changed that is one
pub made_row : {E F : Type 0} (m : Result Contents E) (w : Result Contents F) (s : Contents) (c : Column) (d e : Datum) → IfOk m (λ r. w ≡ Ok r) → IfOk w (λ r. changed_row s c d ≡ Some r) → d ≡ e → IfOk m (λ r. r ≡ with_value s c e)
made_row (Ok r) w s c d e is ok same = sym (chosen _ _ r (subst (λ x. IfOk x (λ r. changed_row s c d ≡ Some r)) is ok)) ∙ ap (with_value s c) same
made_row (Err f) w s c d e is ok same = tt

-- texts are compared as atoms are
pub same_texts : (t n : Bytes) → same_bytes t n ≡ same_atom (Text t) (Text n)
same_texts t n = one_answer (same_bytes t n) (same_atom (Text t) (Text n))
    (λ h. ap (λ x. same_atom (Text t) (Text x)) (sym (same_text t n (sym h))) ∙ (eq_by_cmp_equiv atom_total).refl (Text t))
    (λ h. ap (λ x. same_bytes t x) (sym (ap text_in ((same_atom_exact (Text t) (Text n)).0 h))) ∙ nat_list_eq_equiv.refl t)

-- the row of the switch was replaced
pub ports_changed : (r : Rows) (change : Change) (id switch : ℕ) (row new : Contents) → switch ≡ switch_id r → Some row ≡ row_at r (PhysicalSwitch, switch) → new ≡ changed_switch change id row
    → replaced r (PhysicalSwitch, switch) new ≡ with_ports r change id
ports_changed r change id switch row new same is made =
    (λ i. replaced r (PhysicalSwitch, same i) (made i))
    ∙ ap (λ o. replaced r (PhysicalSwitch, switch_id r) (changed_switch change id (unwrap_or o (default_row PhysicalSwitch)))) (is ∙ ap (λ s. row_at r (PhysicalSwitch, s)) same)

pub found_port : (P : ℕ → Type 0) (o : Option ℕ) (id : ℕ) → o ≡ Some id → P id → IfSome o P
found_port P o id e h = subst (λ x. IfSome x P) (sym e) h
