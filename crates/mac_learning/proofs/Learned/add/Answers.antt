use Rattle.std.proofs.Common.{◌≡◌, ◌≤◌, ◌<◌, None, length, ap, sym, ◌∙◌, arith, lt-ltb}
use Rattle.std.specs.Map.{values_of}
use Rattle.std.proofs.lemmas.Map.Entries.{length-values_of}
use Rattle.indexmap.specs.IndexMap.{insert_entry}
use Rattle.mac_learning.specs.Learning.{Learning, found, put, after}
use Rattle.mac_learning.specs.Keyed.{keyed}
use Rattle.mac_learning.proofs.KeptLemmas.{key_eq, insert-keyed, kept, shown, length-put, new_after}
use Rattle.mac_learning.proofs.Learned.add.Goals as goal

abbrev pub Put : goal.In_ok-insert → Type 0
Put c = c.insert.new.self.entries ≡ keyed (put c.args.new (values_of c.self.inside.entries.entries))

is_put : (c : goal.In_ok-insert) → Put c
is_put c =
    c.in_ok-insert.ensures.entries
    ∙ (λ i. insert_entry key_eq (c.self.invariant.under_own_key i) (c.requires.under_own_key i) c.args.new)
    ∙ insert-keyed c.args.new (values_of c.self.inside.entries.entries)

has_room : (c : goal.In_ok-insert) → length (values_of c.self.inside.entries.entries) < c.self.inside.limit
has_room c = omega (arith, length-values_of c.self.inside.entries.entries, c.len.ensures.len, c.if-len-self.false)

pub invariant_of-self-2 : goal.invariant_of-self-2
invariant_of-self-2 c =
    let es = values_of c.self.inside.entries.entries in
    let within : length (put c.args.new es) ≤ c.self.inside.limit = omega (arith, length-put c.args.new es, has_room c) in
    kept _ (put c.args.new es) c.self.inside.limit (is_put c) c.in_ok-insert.ensures.unique within

pub returns-clause-ok : goal.returns-clause-ok
returns-clause-ok c =
    let es = values_of c.self.inside.entries.entries in
    let inside : Learning = record { entries = es; limit = c.self.inside.limit } in
    let is_new : found c.args.new.switch c.args.new.mac es ≡ None = ap (λ l. found c.args.new.switch c.args.new.mac l.entries) c.self.view_is ∙ c.requires.is_new in
    shown _ (put c.args.new es) c.self.inside.limit (is_put c)
    ∙ sym (new_after inside c.args.new (lt-ltb _ _ (has_room c)) is_new)
    ∙ ap (λ l. after l c.args.new) c.self.view_is
