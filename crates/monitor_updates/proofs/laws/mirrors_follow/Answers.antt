use Rattle.std.proofs.Common.{◌≡◌, false, true, List, [], ◌∷◌, option_map, Ok, Result, Option, Some, None, refl, sym, ap, ◌∙◌}
use Rattle.std.specs.Prelude.{option_and_then}
use Rattle.std.specs.List.{cons_option}
use Rattle.vtep_base.specs.Maps as maps
use Rattle.vtep_schema.specs.Tables.{columns_of}
use Rattle.vtep_rows.specs.Row.{Contents}
use Rattle.vtep_rows.specs.Rows.{Key, row_at}
use Rattle.monitor_updates.specs.Noted.{everything, whole, view, asked_of, noted_at, initially, listed, wanted, changed, cut}
use Rattle.monitor_updates.specs.Updates.{updates_json}
use Rattle.monitor_updates.specs.Mirrored.{Mirrored, taken}
use Rattle.monitor_updates.specs.declared.mirror.MirrorFault.{MirrorFault}
use Rattle.vtep_rows.specs.Changes.{keys_of_both}
use Rattle.monitor_updates.specs.OneRow.{told_by, cut_by}
use Rattle.monitor_updates.proofs.Views.{get-view, gone, noted_is, find-noted, same_columns}
use Rattle.monitor_updates.proofs.Keyed.{find-listed}
use Rattle.monitor_updates.proofs.Known.{known}
use Rattle.monitor_updates.proofs.Follow.{follows}
use Rattle.monitor_updates.proofs.Read.{readable}
use Rattle.monitor_updates.proofs.laws.mirrors_follow.Goals as goal

pub returns-clause-opened : goal.returns-clause-opened
returns-clause-opened c r is writable =
    follows c.written_is_read.ensures true maps.empty r.rows (record { rows = λ k row e. cc; ids = λ k row e. cc }) (readable r is writable) (λ _ k. refl)
    (λ k. initially (asked_of everything k.0) (maps.get (view everything r) k)) (maps.keys r.rows) tells
    (λ q. find-listed (λ k. initially (asked_of everything k.0) (maps.get (view everything r) k)) (maps.keys r.rows) q (λ e. tells q ∙ ap (told_by (Some (whole q.0)) None) (gone r q e)))
  where
    by : (k : Key) (o : Option Contents) → initially (Some (whole k.0)) (cut_by (Some (whole k.0)) o) ≡ told_by (Some (whole k.0)) None o
    by k None = refl
    by k (Some row) = refl

    tells : (k : Key) → initially (asked_of everything k.0) (maps.get (view everything r) k) ≡ told_by (Some (whole k.0)) None (row_at r k)
    tells k = (λ i. initially (asked_of everything k.0) (get-view everything r k i)) ∙ (λ i. initially ((known k.0).asked i) (cut_by ((known k.0).asked i) (row_at r k))) ∙ by k (row_at r k)

pub returns-clause-updated : goal.returns-clause-updated
returns-clause-updated c old new is-old is-new writable-old writable-new =
    follows c.written_is_read.ensures false old.rows new.rows (readable old is-old writable-old) (readable new is-new writable-new) (λ e. cc)
    (noted_at everything (view everything old) (view everything new)) _
    (λ k. noted_is everything old new k ∙ (λ i. told_by ((known k.0).asked i) (row_at old k) (row_at new k)))
    (λ q. find-noted everything old new q ∙ sym (noted_is everything old new q))

pub returns-clause-silent : goal.returns-clause-silent
returns-clause-silent c old new is-old is-new writable-old writable-new = (
  λ e. kept old.rows new.rows (sym (ap (λ us. taken false old.rows (updates_json us)) e) ∙ returns-clause-updated c old new is-old is-new writable-old writable-new),
  λ e. nothing (keys_of_both old new) (λ k. noted_is everything old new k ∙ (λ i. told_by ((known k.0).asked i) (maps.get (e i) k) (row_at new k)) ∙ same k (row_at new k)),
)
  where
    kept : (m n : Mirrored) → ◌≡◌ {A = Result Mirrored MirrorFault} (Ok m) (Ok n) → m ≡ n
    kept m n e = cc

    same : (k : Key) (o : Option Contents) → told_by (Some (whole k.0)) o o ≡ None
    same k None = refl
    same k (Some r) = ap (λ es. option_and_then (wanted (Some (whole k.0))) (changed es (cut (columns_of k.0) r))) (same_columns (columns_of k.0) r)

    nothing : (ks : List Key) → ((k : Key) → noted_at everything (view everything old) (view everything new) k ≡ None) → listed (noted_at everything (view everything old) (view everything new)) ks ≡ []
    nothing [] none = refl
    nothing (k ∷ ks) none = ap (λ o. cons_option (option_map (λ u. (k, u)) o) (listed (noted_at everything (view everything old) (view everything new)) ks)) (none k) ∙ nothing ks none
