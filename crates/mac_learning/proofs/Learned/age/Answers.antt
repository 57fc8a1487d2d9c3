use Rattle.std.proofs.Common.{◌≡◌, ◌≤◌, filter, not, length, ap, ◌∙◌, arith, rules}
use Rattle.std.specs.Map.{values_of}
use Rattle.indexmap.proofs.CallerLemmas.{filter-RetainsPairs}
use Rattle.mac_learning.specs.Learning.{Learning, kept_at, is_old}
use Rattle.mac_learning.specs.Keyed.{keyed}
use Rattle.mac_learning.proofs.KeptLemmas.{filter-keyed, kept, shown, shorter}
use Rattle.mac_learning.proofs.Learned.age.Goals as goal

abbrev pub Retained : goal.After-retain → Type 0
Retained c = c.retain.new.self.entries ≡ keyed (kept_at c.args.now (values_of c.self.inside.entries.entries))

retained : (c : goal.After-retain) → Retained c
retained c =
    filter-RetainsPairs _ (λ e. not (is_old c.args.now e.1)) _ (λ k v b w g call. search rules) _ _ c.retain.ensures.filtered
    ∙ ap (λ l. filter (λ e. not (is_old c.args.now e.1)) l) c.self.invariant.under_own_key
    ∙ filter-keyed (λ e. not (is_old c.args.now e)) (values_of c.self.inside.entries.entries)

pub invariant_of-self : goal.invariant_of-self
invariant_of-self c =
    let es = values_of c.self.inside.entries.entries in
    let within : length (kept_at c.args.now es) ≤ c.self.inside.limit = omega (arith, shorter (is_old c.args.now) es, c.self.invariant.within) in
    kept _ (kept_at c.args.now es) c.self.inside.limit (retained c) c.retain.ensures.unique within

pub returns-clause-kept : goal.returns-clause-kept
returns-clause-kept c =
    shown _ (kept_at c.args.now (values_of c.self.inside.entries.entries)) c.self.inside.limit (retained c)
    ∙ ap (λ (l : Learning). let m : Learning = record { entries = kept_at c.args.now l.entries; limit = l.limit } in m) c.self.view_is
