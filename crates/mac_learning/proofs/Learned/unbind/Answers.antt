use Rattle.std.proofs.Common.{◌≡◌, ◌≤◌, filter, not, length, ap, ◌∙◌, arith, rules}
use Rattle.std.specs.Map.{values_of}
use Rattle.indexmap.proofs.CallerLemmas.{filter-RetainsPairs}
use Rattle.mac_learning.specs.Learning.{Learning, unbound, is_bound_at}
use Rattle.mac_learning.specs.Keyed.{keyed}
use Rattle.mac_learning.proofs.KeptLemmas.{filter-keyed, kept, shown, shorter}
use Rattle.mac_learning.proofs.Learned.unbind.Goals as goal

abbrev pub Retained : goal.After-len → Type 0
Retained c = c.retain.new.self.entries ≡ keyed (unbound c.args.port.now c.args.vlan c.args.switch (values_of c.self.inside.entries.entries))

retained : (c : goal.After-len) → Retained c
retained c =
    filter-RetainsPairs _ (λ e. not (is_bound_at c.args.port.now c.args.vlan c.args.switch e.1)) _ (λ k v b w g call. search rules) _ _ c.retain.ensures.filtered
    ∙ ap (λ l. filter (λ e. not (is_bound_at c.args.port.now c.args.vlan c.args.switch e.1)) l) c.self.invariant.under_own_key
    ∙ filter-keyed (λ e. not (is_bound_at c.args.port.now c.args.vlan c.args.switch e)) (values_of c.self.inside.entries.entries)

pub invariant_of-self : goal.invariant_of-self
invariant_of-self c =
    let es = values_of c.self.inside.entries.entries in
    let within : length (unbound c.args.port.now c.args.vlan c.args.switch es) ≤ c.self.inside.limit = omega (arith, shorter (is_bound_at c.args.port.now c.args.vlan c.args.switch) es, c.self.invariant.within) in
    kept _ (unbound c.args.port.now c.args.vlan c.args.switch es) c.self.inside.limit (retained c) c.retain.ensures.unique within

pub returns-clause-gone : goal.returns-clause-gone
returns-clause-gone c =
    shown _ (unbound c.args.port.now c.args.vlan c.args.switch (values_of c.self.inside.entries.entries)) c.self.inside.limit (retained c)
    ∙ ap (λ (l : Learning). let m : Learning = record { entries = unbound c.args.port.now c.args.vlan c.args.switch l.entries; limit = l.limit } in m) c.self.view_is
