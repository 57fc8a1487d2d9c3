-- Of rows that do not differ nothing is told.
use Rattle.std.proofs.Common.{◌≡◌, inl, ℕ, suc, ◌==◌, true, arith, length, List, [], ◌∷◌, ◌++◌, refl, sym, ap, subst, ◌∙◌, append-nil}
use Rattle.std.proofs.lemmas.Bool.Decides.{nat_tests}
use Rattle.std.specs.List.{flat_map}
use Rattle.vtep_rows.specs.declared.differences.RowChange.{RowChange}
use Rattle.vtep_rows.specs.Rows.{Rows}
use Rattle.vtep_rows.specs.Changes.{changes}
use Rattle.forward_program.specs.Built.{IsIn}
use Rattle.forward_program.proofs.InChange.{never_same, one_is}
use Rattle.monitor_updates.specs.OneRow.{noted_in}
use Rattle.monitor_updates.proofs.Tables.{noted_from}
use Rattle.vtep_gateway.specs.declared.Outgoing.{Outgoing}
use Rattle.vtep_gateway.specs.Monitors.{OpenMonitor, Monitors, told_of, told, told_all}

pub no_items : {A : Type 0} (xs : List A) → (length xs == 0) ≡ true → xs ≡ []
no_items [] h = refl
no_items (x ∷ xs) h = absurd (none (length xs) h)
  where
    none : (n : ℕ) → (suc n == 0) ≡ true → ⊥
    none n h = grind (arith, nat_tests, h)

module _ (old new : Rows) (same : changes old new ≡ []) where
  told_nothing : (s : ℕ) (w : OpenMonitor) → told old new s w ≡ []
  told_nothing s w = ap (told_of s w.name) (noted_from w.request old new ∙ ap (noted_in w.request) same)

  of_session : (s : ℕ) (ws : List OpenMonitor) → flat_map (told old new s) ws ≡ []
  of_session s [] = refl
  of_session s (w ∷ ws) = (λ i. told_nothing s w i ++ of_session s ws i)

  of_all : (es : List (ℕ × List OpenMonitor)) → flat_map (λ e. flat_map (told old new e.0) e.1) es ≡ []
  of_all [] = refl
  of_all (e ∷ es) = (λ i. of_session e.0 e.1 i ++ of_all es i)

  pub nothing_told : (m : Monitors) (sends : List Outgoing) → sends ≡ sends ++ told_all old new m
  nothing_told m sends = sym (ap (λ out. sends ++ out) (of_all m.list) ∙ append-nil sends)

-- no row differs from itself
unchanged : (r : Rows) → changes r r ≡ []
unchanged r = by (changes r r) refl
  where
    by : (cs : List RowChange) → changes r r ≡ cs → cs ≡ []
    by [] e = refl
    by (c ∷ cs) e = let h = one_is r r c (subst (λ (xs : List RowChange). IsIn c xs) (sym e) (inl refl)) in absurd (never_same c.old c.new (h.0 ∙ sym h.1) h.2)

pub unchanged_told : (r : Rows) (m : Monitors) → told_all r r m ≡ []
unchanged_told r m = of_all r r (unchanged r) m.list
