-- The order of atoms and the tests of sets and maps tell any two values apart.
use Rattle.std.specs.Prelude.{◌≡◌, Bool, true, false, ◌&&◌, List, []}
use Rattle.std.specs.Bool.{Decides, one_answer}
use Rattle.std.specs.Ordering.{nat_cmp, int_cmp, ordering_then, is_eq}
use Rattle.std.specs.Cmp.{IsPartialEquivalence, eq_by_cmp_equiv, Equal-is, first_so, second_so}
use Rattle.std.specs.Cmp.Lexicographic.{slice_cmp, pointwise_decides}
use Rattle.std.specs.FinMap.{IsAntisymmetric, nat_cmp-IsAntisymmetric, int_cmp-IsAntisymmetric, slice_cmp-IsAntisymmetric}
use Rattle.std.specs.declared.cmp.Ordering.{Ordering}
use Rattle.std.specs.declared.cmp.Ordering.TheVariants.{Less, Equal, Greater}
use Rattle.std.proofs.Common.{refl, sym, ap, subst, ◌∙◌, true≢false}
use Rattle.ovsdb_values.specs.declared.atoms.Atom.{Atom}
use Rattle.ovsdb_values.specs.declared.atoms.Atom.TheVariants.{Integer, Text, Id, Named}
use Rattle.ovsdb_values.specs.declared.datums.Datum.{Datum}
use Rattle.ovsdb_values.specs.declared.datums.Datum.TheVariants.{Set, Map}
use Rattle.ovsdb_values.specs.Atoms.{rank, integer_in, id_in, text_in, atom_cmp, atom_total, same_atom}
use Rattle.ovsdb_values.specs.Sets.{same_pair, same_atoms, same_pairs, same_datum}

less_is_not : {A : Type 0} → Less ≡ Equal → A
less_is_not h = absurd (true≢false (sym (ap is_eq h)))

greater_is_not : {A : Type 0} → Greater ≡ Equal → A
greater_is_not h = absurd (true≢false (sym (ap is_eq h)))

both_equal : (o p : Ordering) → ordering_then o p ≡ Equal → (o ≡ Equal) × (p ≡ Equal)
both_equal Less p h = less_is_not h
both_equal Equal p h = (refl, h)
both_equal Greater p h = greater_is_not h

exact : (a b : Atom) → nat_cmp (rank a) (rank b) ≡ Equal → int_cmp (integer_in a) (integer_in b) ≡ Equal → nat_cmp (id_in a) (id_in b) ≡ Equal → slice_cmp nat_cmp (text_in a) (text_in b) ≡ Equal → a ≡ b
exact (Integer y) (Integer z) r i d t = ap Integer (int_cmp-IsAntisymmetric y z i)
exact (Text s) (Text u) r i d t = ap Text (slice_cmp-IsAntisymmetric nat_cmp-IsAntisymmetric s u t)
exact (Id k) (Id n) r i d t = ap Id (nat_cmp-IsAntisymmetric k n d)
exact (Named s) (Named u) r i d t = ap Named (slice_cmp-IsAntisymmetric nat_cmp-IsAntisymmetric s u t)
exact _ _ r i d t = absurd (true≢false (sym (ap is_eq r)))

-- atoms that the order does not tell apart are equal
pub atom_exact : IsAntisymmetric atom_cmp
atom_exact a b h =
    let texts = both_equal _ _ h in
    let ids = both_equal _ _ texts.0 in
    let ranks = both_equal _ _ ids.0 in
    exact a b ranks.0 ranks.1 ids.1 texts.1

-- ---- each test is true of equal values alone

not_false : {A : Type 0} → false ≡ true → A
not_false h = absurd (true≢false (sym h))

pub same_atom_exact : (a b : Atom) → Decides (same_atom a b) (a ≡ b)
same_atom_exact a b =
    (λ h. atom_exact a b ((Equal-is (atom_cmp a b)).0 h), λ e. subst (λ x. same_atom a x ≡ true) e ((eq_by_cmp_equiv atom_total).refl a))

pub same_pair_exact : (p q : Atom × Atom) → Decides (same_pair p q) (p ≡ q)
same_pair_exact p q =
    let keys = same_atom_exact p.0 q.0 in
    let values = same_atom_exact p.1 q.1 in (
      λ h i. (keys.0 (first_so (same_atom p.0 q.0) (same_atom p.1 q.1) h) i, values.0 (second_so (same_atom p.0 q.0) (same_atom p.1 q.1) h) i),
      λ e i. keys.1 (ap (λ r. r.0) e) i && values.1 (ap (λ r. r.1) e) i,
    )

pub same_atoms_exact : (xs ys : List Atom) → Decides (same_atoms xs ys) (xs ≡ ys)
same_atoms_exact = pointwise_decides same_atom_exact

pub same_pairs_exact : (ps qs : List (Atom × Atom)) → Decides (same_pairs ps qs) (ps ≡ qs)
same_pairs_exact = pointwise_decides same_pair_exact

abbrev is_set : Datum → Bool
is_set (Set xs) = true
is_set (Map ps) = false

abbrev atoms_in : Datum → List Atom
atoms_in (Set xs) = xs
atoms_in (Map ps) = []

abbrev pairs_in : Datum → List (Atom × Atom)
pairs_in (Set xs) = []
pairs_in (Map ps) = ps

pub same_datum_exact : (a b : Datum) → Decides (same_datum a b) (a ≡ b)
same_datum_exact (Set xs) (Set ys) = (λ h. ap Set ((same_atoms_exact xs ys).0 h), λ e. (same_atoms_exact xs ys).1 (ap atoms_in e))
same_datum_exact (Set xs) (Map qs) = (not_false, λ e. not_false (sym (ap is_set e)))
same_datum_exact (Map ps) (Set ys) = (not_false, λ e. not_false (ap is_set e))
same_datum_exact (Map ps) (Map qs) = (λ h. ap Map ((same_pairs_exact ps qs).0 h), λ e. (same_pairs_exact ps qs).1 (ap pairs_in e))

-- ---- what tests of one type have to be

laws_of : {K : Type 0} {E : K → K → Bool} → ((x y : K) → Decides (E x y) (x ≡ y)) → IsPartialEquivalence E
laws_of {E = E} exactly = record {
  symm = λ x y. one_answer (E x y) (E y x) (exactly x y) (λ h. sym ((exactly y x).0 h), λ e. (exactly y x).1 (sym e));
  trans = λ x y z h g. (exactly x z).1 ((exactly x y).0 h ∙ (exactly y z).0 g);
}

pub same_atoms_laws : IsPartialEquivalence same_atoms
same_atoms_laws = laws_of same_atoms_exact

pub same_pairs_laws : IsPartialEquivalence same_pairs
same_pairs_laws = laws_of same_pairs_exact

pub same_datum_laws : IsPartialEquivalence same_datum
same_datum_laws = laws_of same_datum_exact
