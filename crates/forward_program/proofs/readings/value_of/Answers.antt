use Rattle.std.proofs.Common.{rules, sym}
use Rattle.std.proofs.lemmas.Fn.{always_returns_same}
use Rattle.ovsdb_values.specs.Atoms.{atom_cmp, atom_total}
use Rattle.ovsdb_values.specs.Exact.{atom_exact}
use Rattle.ovsdb_values.specs.declared.atoms.Atom.{Atom}
use Rattle.forward_program.proofs.PairSearch.{found_at, not_found}
use Rattle.forward_program.proofs.readings.value_of.Goals as goal

pub returns-in-Ok : goal.returns-in-Ok
returns-in-Ok c =
    let by_key = c.in-Ok.ensures.position (λ (pair : Atom × Atom). atom_cmp pair.0 c.args.key.now) (always_returns_same _ _ _ (λ a r g called. (search rules, search rules))) in
    sym (found_at atom_total atom_exact c.args.key.now c.args.pairs.now c.in-Ok.at c.index-pairs-at.result c.requires c.in-Ok.ensures.bound (by_key c.index-pairs-at.result))

pub returns-in-Err : goal.returns-in-Err
returns-in-Err c =
    let by_key = c.in-Err.ensures.position (λ (pair : Atom × Atom). atom_cmp pair.0 c.args.key.now) (always_returns_same _ _ _ (λ a r g called. (search rules, search rules))) in
    sym (not_found atom_total atom_exact c.args.key.now c.args.pairs.now c.in-Err.field-0 c.requires by_key)
