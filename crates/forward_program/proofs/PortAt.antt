-- A VLAN of a port that is found by its key.
use Rattle.std.proofs.Common.{◌≡◌, ℕ, pos, Bool, true, false, not, cond, List, [], ◌∷◌, Option, Some, None, refl, sym, ap, ◌∙◌, subst}
use Rattle.std.proofs.lemmas.Map.Entries.{lookup_head, lookup_tail}
use Rattle.std.specs.List.{filter_map, cons_option}
use Rattle.std.specs.Prelude.{◌==◌, IfSome}
use Rattle.std.specs.Option.{option_and_then}
use Rattle.std.specs.Cmp.Lexicographic.{pointwise}
use Rattle.std.specs.Ordering.{nat_cmp, eq_by_cmp}
use Rattle.std.specs.Cmp.{Equal-is, eq_by_cmp_equiv, nat_cmp_total}
use Rattle.std.specs.FinMap.{find}
use Rattle.std.proofs.lemmas.Map.Lookups.{exact_unsigned}
use Rattle.vtep_base.specs.Reading.{Bytes}
use Rattle.vtep_base.specs.Maps as maps
use Rattle.ovsdb_values.specs.Atoms.{same_atom}
use Rattle.ovsdb_values.specs.Exact.{same_atom_exact}
use Rattle.ovsdb_values.specs.Sets.{value_in}
use Rattle.ovsdb_values.specs.declared.atoms.Atom.{Atom}
use Rattle.ovsdb_values.specs.declared.atoms.Atom.TheVariants.{Integer, Id}
use Rattle.vtep_schema.specs.declared.Column.TheVariants.{PortVlanBindings}
use Rattle.vtep_rows.specs.Row.{Contents, pairs_at, id_in}
use Rattle.forward_program.specs.Readings.{number_and_id, id_at_key, port_name, vlan_bindings}
use Rattle.forward_program.specs.Built.{IsIn, binding, bindings_with, bindings_of}
use Rattle.forward_program.proofs.InLists.{map_in}
use Rattle.forward_program.proofs.MapLists.{get_in}
use Rattle.forward_program.proofs.Columns.{id_is}
use Rattle.forward_program.proofs.Unique.{bytes_same}

pub pair_is : (p : Atom × Atom) (m w : ℕ) → number_and_id p ≡ Some (m, w) → p.0 ≡ Integer (pos m)
pair_is (Integer (pos n), Id u) m w e = ap (λ o. Integer (pos (number o))) e
  where
    number : Option (ℕ × ℕ) → ℕ
    number None = 0
    number (Some x) = x.0
pair_is p m w e = cc

pub tie : (n : ℕ) → eq_by_cmp nat_cmp n n ≡ true
tie n = (eq_by_cmp_equiv nat_cmp_total).refl n

pub no_tie : (n m : ℕ) (p : Atom × Atom) → same_atom (Integer (pos n)) p.0 ≡ false → p.0 ≡ Integer (pos m) → eq_by_cmp nat_cmp n m ≡ false
no_tie n m p e is = by (eq_by_cmp nat_cmp n m) refl
  where
    by : (b : Bool) → eq_by_cmp nat_cmp n m ≡ b → b ≡ false
    by false t = refl
    by true t =
        let same : n ≡ m = exact_unsigned n m ((Equal-is (nat_cmp n m)).0 t) in
        sym ((same_atom_exact (Integer (pos n)) p.0).1 (ap (λ k. Integer (pos k)) same ∙ sym is)) ∙ e

key_found : (n u : ℕ) (ps : List (Atom × Atom)) → option_and_then id_in (value_in ps (Integer (pos n))) ≡ Some u → find nat_cmp n (filter_map number_and_id ps) ≡ Some u
key_found n u [] h = cc
key_found n u (p ∷ ps) h = by (same_atom (Integer (pos n)) p.0) refl (key_found n u ps)
  where
    here : p.0 ≡ Integer (pos n) → id_in p.1 ≡ Some u → find nat_cmp n (cons_option (number_and_id p) (filter_map number_and_id ps)) ≡ Some u
    here key value =
        (λ i. find nat_cmp n (cons_option (number_and_id (key i, id_is p.1 u value i)) (filter_map number_and_id ps)))
        ∙ ap (λ b. cond b (Some u) (find nat_cmp n (filter_map number_and_id ps))) (tie n)

    later : (o : Option (ℕ × ℕ)) → number_and_id p ≡ o → same_atom (Integer (pos n)) p.0 ≡ false → find nat_cmp n (filter_map number_and_id ps) ≡ Some u → find nat_cmp n (cons_option o (filter_map number_and_id ps)) ≡ Some u
    later None e apart rest = rest
    later (Some x) e apart rest = ap (λ b. cond b (Some x.1) (find nat_cmp n (filter_map number_and_id ps))) (no_tie n x.0 p apart (pair_is p x.0 x.1 e)) ∙ rest

    by : (b : Bool) → same_atom (Integer (pos n)) p.0 ≡ b → (option_and_then id_in (value_in ps (Integer (pos n))) ≡ Some u → find nat_cmp n (filter_map number_and_id ps) ≡ Some u)
        → find nat_cmp n (cons_option (number_and_id p) (filter_map number_and_id ps)) ≡ Some u
    by true e rest = here (sym ((same_atom_exact (Integer (pos n)) p.0).0 e)) (sym (ap (option_and_then id_in) (lookup_head (same_atom (Integer (pos n))) p ps e)) ∙ h)
    by false e rest = later (number_and_id p) refl e (rest (sym (ap (option_and_then id_in) (lookup_tail (same_atom (Integer (pos n))) p ps e)) ∙ h))

pub bound_here : (row : Contents) (port : Bytes) (vlan switch : ℕ) → port_name row ≡ Some port → id_at_key row PortVlanBindings vlan ≡ Some switch → IsIn (binding port row (vlan, switch)) (bindings_of row)
bound_here row port vlan switch named at =
    let pairs = pairs_at row PortVlanBindings in
    let bound : maps.get (maps.map_by nat_cmp (filter_map number_and_id pairs)) vlan ≡ Some switch = maps.get-of_list nat_cmp_total (filter_map number_and_id pairs) vlan ∙ key_found vlan switch pairs at in
    let there = get_in exact_unsigned (maps.map_by nat_cmp (filter_map number_and_id pairs)) vlan switch bound in
    subst (λ o. IsIn (binding port row (vlan, switch)) (bindings_with row o)) (sym named) (map_in (binding port row) (vlan, switch) (vlan_bindings row) there)

pub bound_found : (row : Contents) (name port : Bytes) (vlan : ℕ) (o : Option ℕ) → Some name ≡ port_name row → not (pointwise ◌==◌ name port) ≡ false → o ≡ id_at_key row PortVlanBindings vlan
    → IfSome o (λ switch. IsIn (binding port row (vlan, switch)) (bindings_of row))
bound_found row name port vlan None named same is = tt
bound_found row name port vlan (Some switch) named same is =
    bound_here row port vlan switch (sym named ∙ ap Some (bytes_same name port (not_not (pointwise ◌==◌ name port) same))) (sym is)
  where
    not_not : (b : Bool) → not b ≡ false → b ≡ true
    not_not true e = refl
    not_not false e = sym e
