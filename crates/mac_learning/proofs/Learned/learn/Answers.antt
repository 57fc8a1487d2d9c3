use Rattle.std.proofs.Common.{◌≡◌, ◌≤◌, Some, is_some, length, ap, sym, subst, ◌∙◌, arith, position}
use Rattle.std.specs.List.{IsDistinct}
use Rattle.std.specs.Map.{keys_of, values_of}
use Rattle.indexmap.specs.IndexMap.{set_value_at}
use Rattle.indexmap.proofs.CallerLemmas.{keys-with_value_at}
use Rattle.mac_learning.specs.declared.Learnt.{Learnt}
use Rattle.mac_learning.specs.Learning.{Learning, entry, found, put, after, learns}
use Rattle.mac_learning.specs.Keyed.{keyed}
use Rattle.mac_learning.proofs.KeptLemmas.{key_eq, looked_up, found_is, of_address, value_at, set-keyed, kept, shown, known_learns, known_after, length-put_known, none_found}
use Rattle.mac_learning.proofs.Learned.learn.Goals as goal

pub add-requires-clause-is_new : goal.add-requires-clause-is_new
add-requires-clause-is_new c =
    none_found _ (
    ap is_some (sym (looked_up c.args.switch c.args.mac c.number.result _ c.number.ensures c.self.invariant.under_own_key ∙ ap (λ l. found c.args.switch c.args.mac l.entries) c.self.view_is))
    ∙ sym c.get_index_of.ensures.found
    ∙ ap is_some c.in_default.is
    )

-- the entry as it is now
abbrev pub seen : goal.After-self-1 → Learnt
seen c = entry c.args.switch c.args.mac c.args.port.now c.args.vlan c.args.now

abbrev pub Known : goal.After-self-1 → Type 0
Known c = found c.args.switch c.args.mac (values_of c.self.inside.entries.entries) ≡ Some c.pair_mut-known.result.1.now

known : (c : goal.After-self-1) → Known c
known c =
    sym (looked_up c.args.switch c.args.mac c.number.result _ c.number.ensures c.self.invariant.under_own_key)
    ∙ sym c.in-Some.ensures.value
    ∙ value_at c.self.inside.entries.entries c.in-Some.index c.pair_mut-known.result.0.now c.pair_mut-known.result.1.now c.pair_mut-known.ensures.value

abbrev pub Seen : goal.After-self-1 → Type 0
Seen c = c.see.new.self ≡ seen c

is_seen : (c : goal.After-self-1) → Seen c
is_seen c =
    let a = of_address c.args.switch c.args.mac c.pair_mut-known.result.1.now (found_is c.args.switch c.args.mac _ _ (known c)) in
    c.see.ensures.seen ∙ (λ i. entry (sym a.0 i) (sym a.1 i) c.args.port.now c.args.vlan c.args.now)

abbrev pub Put : goal.After-self-1 → Type 0
Put c = set_value_at c.self.inside.entries.entries c.in-Some.index c.see.new.self ≡ keyed (put (seen c) (values_of c.self.inside.entries.entries))

is_put : (c : goal.After-self-1) → Put c
is_put c =
    let es = values_of c.self.inside.entries.entries in
    let at : position (key_eq (c.args.switch, c.args.mac)) (keys_of (keyed es)) ≡ Some c.in-Some.index =
    (λ i. position (key_eq (c.args.switch, sym c.number.ensures i)) (keys_of (sym c.self.invariant.under_own_key i))) ∙ sym c.in-Some.ensures.index in
    (λ i. set_value_at (c.self.invariant.under_own_key i) c.in-Some.index (is_seen c i)) ∙ set-keyed (seen c) es c.in-Some.index at

pub invariant_of-self : goal.invariant_of-self
invariant_of-self c =
    let es = values_of c.self.inside.entries.entries in
    let within : length (put (seen c) es) ≤ c.self.inside.limit = omega (arith, length-put_known (seen c) es _ (known c), c.self.invariant.within) in
    let unique = subst (IsDistinct key_eq) (sym (keys-with_value_at c.self.inside.entries c.in-Some.index c.see.new.self)) c.pair_mut-known.ensures.unique in
    kept _ (put (seen c) es) c.self.inside.limit (is_put c) unique within

pub returns-clause-answer : goal.returns-clause-answer
returns-clause-answer c =
    let inside : Learning = record { entries = values_of c.self.inside.entries.entries; limit = c.self.inside.limit } in
    c.see.ensures.answer ∙ sym (known_learns inside c.pair_mut-known.result.1.now (seen c) (known c)) ∙ ap (λ l. learns l (seen c)) c.self.view_is

pub returns-clause-ok : goal.returns-clause-ok
returns-clause-ok c =
    let es = values_of c.self.inside.entries.entries in
    let inside : Learning = record { entries = es; limit = c.self.inside.limit } in
    shown _ (put (seen c) es) c.self.inside.limit (is_put c)
    ∙ sym (known_after inside c.pair_mut-known.result.1.now (seen c) (known c))
    ∙ ap (λ l. after l (seen c)) c.self.view_is
