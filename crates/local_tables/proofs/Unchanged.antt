-- Where no row is changed, every learnt address stays.
use Rattle.std.proofs.Common.{◌≡◌, inl, inr, ℕ, Bool, true, false, not, cond, ◌&&◌, List, [], ◌∷◌, is_some, refl, sym, ap, ◌∙◌, true≢false}
use Rattle.std.specs.List.{filter}
use Rattle.std.specs.Cmp.{first_so}
use Rattle.vtep_base.specs.Maps as maps
use Rattle.vtep_schema.specs.declared.Table.TheVariants.{UcastMacsRemote}
use Rattle.vtep_rows.specs.Rows.{Rows, rows_of}
use Rattle.vtep_rows.proofs.Entries.{both}
use Rattle.mac_learning.specs.declared.Learnt.{Learnt}
use Rattle.forward_program.specs.Readings.{remote_of}
use Rattle.forward_program.specs.Built.{IsIn}
use Rattle.forward_program.proofs.RowsIn.{in_rows}
use Rattle.local_tables.specs.Followed.{is_bound_there, is_remote_of, is_claimed, stays, staying}
use Rattle.local_tables.specs.Following.{is_bound, has_flood}
use Rattle.local_tables.specs.Local.{IsChanged}
use Rattle.local_tables.proofs.Members.{any_in}

-- nothing is inserted
none_claimed : (r : Rows) (e : Learnt) → is_claimed r r e ≡ false
none_claimed r e = by (is_claimed r r e) refl
  where
    by : (b : Bool) → is_claimed r r e ≡ b → is_claimed r r e ≡ false
    by false h = h
    by true h =
        let row = any_in (λ row. not (maps.has r.rows (UcastMacsRemote, row.0)) && is_remote_of e (remote_of row.1)) (rows_of UcastMacsRemote r) h in
        absurd (true≢false (sym (first_so (not (maps.has r.rows (UcastMacsRemote, row.0.0))) (is_remote_of e (remote_of row.0.1)) row.2) ∙ ap not (ap is_some (in_rows r UcastMacsRemote row.0 row.1))))

all_pass : {A : Type 0} (p : A → Bool) (xs : List A) → ((x : A) → IsIn x xs → p x ≡ true) → filter p xs ≡ xs
all_pass p [] so = refl
all_pass p (x ∷ xs) so = ap (λ b. cond b (x ∷ filter p xs) (filter p xs)) (so x (inl refl)) ∙ ap (λ ys. x ∷ ys) (all_pass p xs (λ y h. so y (inr h)))

pub all_stay : (r : Rows) (l : List Learnt) → ((e : Learnt) → IsIn e l → is_bound_there r e ≡ true) → staying r r l ≡ l
all_stay r l bound = all_pass (stays r r) l (λ e h. both (is_bound_there r e) (not (is_claimed r r e)) (bound e h) (ap not (none_claimed r e)))

-- and no bound switch lacks a row
pub none_lacks : (own : ℕ) (r : Rows) (l : List Learnt) → IsChanged own r r l → (s : ℕ) → false ≡ (is_bound r s && not (has_flood r s))
none_lacks own r l is s = by (is_bound r s) refl
  where
    by : (b : Bool) → is_bound r s ≡ b → false ≡ (is_bound r s && not (has_flood r s))
    by true e = sym (λ i. e i && not (is.local.each_flood s e i))
    by false e = sym (ap (λ b. b && not (has_flood r s)) e)
