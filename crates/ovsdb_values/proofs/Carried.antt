-- What holds of each atom that is read holds of each in the set or the map.
use Rattle.std.proofs.Common.{◌≡◌, Bool, true, false, List, [], ◌∷◌, ◌++◌, Option, Some, None, subst}
use Rattle.std.specs.Prelude.{is_some, if◌then◌else◌}
use Rattle.std.specs.List.{AllByRecursion, list_any}
use Rattle.std.specs.Map.{lookup}
use Rattle.std.specs.BTreeMap.{is_at, insert_entry}
use Rattle.std.specs.BTreeSet.{insert_key}
use Rattle.std.specs.Ordering.{match_ordering}
use Rattle.std.specs.declared.cmp.Ordering.{Ordering}
use Rattle.std.specs.declared.cmp.Ordering.TheVariants.{Less, Equal, Greater}
use Rattle.ovsdb_values.specs.declared.atoms.Atom.{Atom}
use Rattle.ovsdb_values.specs.Atoms.{atom_cmp, set_from, map_from}

pub all_pushed : {X : Type 0} (P : X → Type 0) (xs : List X) (x : X) → AllByRecursion P xs → P x → AllByRecursion P (xs ++ x ∷ [])
all_pushed P [] x h p = (p, tt)
all_pushed P (y ∷ ys) x h p = (h.0, all_pushed P ys x h.1 p)

some_is : {X : Type 0} (x y : X) → Some x ≡ Some y → x ≡ y
some_is x y e = cc

atom_put : (P : Atom → Type 0) (o : Ordering) (a x : Atom) (xs more : List Atom) → P a → P x → AllByRecursion P xs → AllByRecursion P more → AllByRecursion P (match_ordering o (a ∷ x ∷ xs) (x ∷ xs) (x ∷ more))
atom_put P Less a x xs more p q h g = (p, (q, h))
atom_put P Equal a x xs more p q h g = (q, h)
atom_put P Greater a x xs more p q h g = (q, g)

pub put_in : (P : Atom → Type 0) (a : Atom) (xs : List Atom) → P a → AllByRecursion P xs → AllByRecursion P (insert_key atom_cmp xs a)
put_in P a [] p h = (p, tt)
put_in P a (x ∷ xs) p h = atom_put P (atom_cmp a x) a x xs (insert_key atom_cmp xs a) p h.0 h.1 (put_in P a xs p h.1)

-- a choice that gives nothing where it is true
otherwise : {X : Type 0} (Q : X → Type 0) (b : Bool) (o : Option X) (out : X) → (if b then None else o) ≡ Some out → (o ≡ Some out → Q out) → Q out
otherwise Q true o out e f = absurd (cc)
otherwise Q false o out e f = f e

pub set_all : (P : Atom → Type 0) (done rest out : List Atom) → set_from done rest ≡ Some out → AllByRecursion P done → AllByRecursion P rest → AllByRecursion P out
set_all P done [] out e h g = subst (AllByRecursion P) (some_is done out e) h
set_all P done (a ∷ rest) out e h g =
    otherwise (AllByRecursion P) (list_any (is_at (atom_cmp a)) done) (set_from (insert_key atom_cmp done a) rest) out e
    (λ is. set_all P (insert_key atom_cmp done a) rest out is (put_in P a done g.0 h) g.1)

pair_put : (P : Atom × Atom → Type 0) (o : Ordering) (p x : Atom × Atom) (xs more : List (Atom × Atom)) → P p → P x → P (x.0, p.1) → AllByRecursion P xs → AllByRecursion P more → AllByRecursion P (match_ordering o (p ∷ x ∷ xs) ((x.0, p.1) ∷ xs) (x ∷ more))
pair_put P Less p x xs more a b m h g = (a, (b, h))
pair_put P Equal p x xs more a b m h g = (m, h)
pair_put P Greater p x xs more a b m h g = (b, g)

-- what holds of two pairs holds of the key of one with the value of the other
put_pair_in : (P : Atom × Atom → Type 0) → ((p q : Atom × Atom) → P p → P q → P (p.0, q.1)) → (p : Atom × Atom) (xs : List (Atom × Atom)) → P p → AllByRecursion P xs → AllByRecursion P (insert_entry atom_cmp xs p.0 p.1)
put_pair_in P mixes p [] a h = (a, tt)
put_pair_in P mixes p (x ∷ xs) a h = pair_put P (atom_cmp p.0 x.0) p x xs (insert_entry atom_cmp xs p.0 p.1) a h.0 (mixes x p h.0 a) h.1 (put_pair_in P mixes p xs a h.1)

pub map_all : (P : Atom × Atom → Type 0) → ((p q : Atom × Atom) → P p → P q → P (p.0, q.1)) → (done rest out : List (Atom × Atom)) → map_from done rest ≡ Some out → AllByRecursion P done → AllByRecursion P rest → AllByRecursion P out
map_all P mixes done [] out e h g = subst (AllByRecursion P) (some_is done out e) h
map_all P mixes done (p ∷ rest) out e h g =
    otherwise (AllByRecursion P) (is_some (lookup (is_at (atom_cmp p.0)) done)) (map_from (insert_entry atom_cmp done p.0 p.1) rest) out e
    (λ is. map_all P mixes (insert_entry atom_cmp done p.0 p.1) rest out is (put_pair_in P mixes p done g.0 h) g.1)
