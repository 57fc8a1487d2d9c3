use Rattle.std.proofs.Common.{◌≡◌, ◌≤◌, length, is_some, ap, ◌∙◌, arith}
use Rattle.std.specs.Map.{values_of}
use Rattle.indexmap.specs.IndexMap.{shift_remove_entry}
use Rattle.mac_learning.specs.Learning.{Learning, found, without, is_of}
use Rattle.mac_learning.specs.Keyed.{keyed}
use Rattle.mac_learning.proofs.KeptLemmas.{key_eq, looked_up, remove-keyed, kept, shown, shorter}
use Rattle.mac_learning.proofs.Learned.evict.Goals as goal

abbrev pub Removed : goal.After-is_some → Type 0
Removed c = c.shift_remove.new.self.entries ≡ keyed (without c.args.switch c.args.mac (values_of c.self.inside.entries.entries))

removed : (c : goal.After-is_some) → Removed c
removed c =
    let es = values_of c.self.inside.entries.entries in
    c.shift_remove.ensures.entries
    ∙ ap (shift_remove_entry (key_eq (c.args.switch, c.number.result))) c.self.invariant.under_own_key
    ∙ remove-keyed c.args.switch c.number.result es c.self.invariant.once
    ∙ ap (λ m. keyed (without c.args.switch m es)) c.number.ensures

pub invariant_of-self : goal.invariant_of-self
invariant_of-self c =
    let es = values_of c.self.inside.entries.entries in
    let within : length (without c.args.switch c.args.mac es) ≤ c.self.inside.limit = omega (arith, shorter (is_of c.args.switch c.args.mac) es, c.self.invariant.within) in
    kept _ (without c.args.switch c.args.mac es) c.self.inside.limit (removed c) c.shift_remove.ensures.unique within

pub returns-clause-answer : goal.returns-clause-answer
returns-clause-answer c =
    c.is_some.ensures
    ∙ ap is_some (c.shift_remove.ensures.value ∙ looked_up c.args.switch c.args.mac c.number.result _ c.number.ensures c.self.invariant.under_own_key
    ∙ ap (λ l. found c.args.switch c.args.mac l.entries) c.self.view_is)

pub returns-clause-gone : goal.returns-clause-gone
returns-clause-gone c =
    shown _ (without c.args.switch c.args.mac (values_of c.self.inside.entries.entries)) c.self.inside.limit (removed c)
    ∙ ap (λ (l : Learning). let m : Learning = record { entries = without c.args.switch c.args.mac l.entries; limit = l.limit } in m) c.self.view_is
