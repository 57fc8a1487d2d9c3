-- What commits come to.
use Rattle.std.proofs.Common.{◌≡◌, ℕ, ◌≤◌, cond, List, Some, Ok, Err, sym, ap, subst, ◌∙◌}
use Rattle.vtep_rows.specs.declared.soundness.Rule.{Rule}
use Rattle.vtep_rows.specs.declared.soundness.Rule.TheVariants.{Limit}
use Rattle.vtep_rows.specs.Rows.{Rows, last_number}
use Rattle.vtep_rows.specs.Sound.{broken}
use Rattle.vtep_rows.specs.Database.{Versions}
use Rattle.mac_learning.specs.declared.Learnt.{Learnt}
use Rattle.local_tables.specs.Followed.{Committed, judged, followed, commit}
use Rattle.local_tables.proofs.Ageing.{unspent}
use Rattle.vtep_gateway.specs.declared.Outgoing.{Outgoing}
use Rattle.vtep_gateway.specs.Vtep.{Vtep}
use Rattle.vtep_gateway.specs.Monitors.{told_all}
use Rattle.vtep_gateway.specs.Commit.{Taken, kept, commit_of, changed}

-- no number past the last one was given, and a rule is broken
pub broken_commits : (own : ℕ) (d e : Versions) (l : List Learnt) (rule : Rule) → e ≡ record d { current = (followed own d.committed d.current l).rows } → e.current.counter ≤ last_number → broken e.current ≡ Some rule
    → commit own d.committed d.current l ≡ Err rule
broken_commits own d e l rule follows few is =
    let c : Committed = followed own d.committed d.current l in
    let rows : e.current ≡ c.rows = ap (λ v. v.current) follows in
    ap (λ b. judged c (cond b (Some Limit) (broken c.rows))) (unspent c.rows (subst (λ (s : Rows). s.counter ≤ last_number) rows few)) ∙ ap (judged c) (ap broken (sym rows) ∙ is)

-- one that is kept
pub changed_is : (v : Vtep) (r : Rows) (l : List Learnt) (k : Committed) (w : Vtep) (sends : List Outgoing) → commit_of v r l ≡ Ok k → w ≡ record v { rows = k.rows; learned = k.learned } → sends ≡ told_all v.rows k.rows v.monitors
    → changed v r l ≡ record { vtep = w; sends = sends }
changed_is v r l k w sends told is_w is_sends = ap (kept v) told ∙ (λ i. let t : Taken = record { vtep = sym is_w i; sends = sym is_sends i } in t)
