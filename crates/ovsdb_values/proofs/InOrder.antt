-- Lists that are in order stay as they are.
use Rattle.std.proofs.Common.{◌≡◌, Bool, true, cond, List, [], ◌∷◌, ◌++◌, false, Some, None, refl, ap, sym, subst, ◌∙◌, append_assoc, append-nil}
use Rattle.std.specs.Prelude.{◌||◌, is_some, if◌then◌else◌, filter}
use Rattle.std.specs.List.{AllByRecursion, list_any}
use Rattle.std.proofs.lemmas.List.Kept.{IsStrictlySortedBy-filter}
use Rattle.std.specs.List.Sorted.{IsStrictlySortedBy}
use Rattle.std.specs.Map.{keys_of, lookup}
use Rattle.std.specs.BTreeMap.{is_at, insert_entry}
use Rattle.std.specs.BTreeSet.{insert_key}
use Rattle.std.specs.Ordering.{is_eq, ordering_reverse, match_ordering}
use Rattle.std.specs.declared.cmp.Ordering.TheVariants.{Less, Greater}
use Rattle.ovsdb_values.specs.declared.atoms.Atom.{Atom}
use Rattle.ovsdb_values.specs.Atoms.{atom_cmp, atom_total, set_from, map_from}

Below : List Atom → Atom → Type 0
Below done a = AllByRecursion (λ y. atom_cmp y a ≡ Less) done

above : (a y : Atom) → atom_cmp y a ≡ Less → atom_cmp a y ≡ Greater
above a y e = atom_total.antisymm a y ∙ ap ordering_reverse e

at_middle : (P : Atom → Type 0) (xs ys : List Atom) (a : Atom) → AllByRecursion P (xs ++ a ∷ ys) → P a
at_middle P [] ys a h = h.0
at_middle P (x ∷ xs) ys a h = at_middle P xs ys a h.1

below : (done rest : List Atom) (a : Atom) → IsStrictlySortedBy atom_cmp (done ++ a ∷ rest) → Below done a
unfolding IsStrictlySortedBy Below
below [] rest a h = tt
below (y ∷ ys) rest a h = (at_middle (λ z. atom_cmp y z ≡ Less) ys rest a h.0, below ys rest a h.1)

absent : (done : List Atom) (a : Atom) → Below done a → list_any (is_at (atom_cmp a)) done ≡ false
unfolding Below
absent [] a h = refl
absent (y ∷ ys) a h = ap (λ o. is_eq o || list_any (is_at (atom_cmp a)) ys) (above a y h.0) ∙ absent ys a h.1

placed : (done : List Atom) (a : Atom) → Below done a → insert_key atom_cmp done a ≡ done ++ a ∷ []
unfolding Below
placed [] a h = refl
placed (y ∷ ys) a h = ap (λ o. match_ordering o (a ∷ y ∷ ys) (y ∷ ys) (y ∷ insert_key atom_cmp ys a)) (above a y h.0) ∙ ap (λ r. y ∷ r) (placed ys a h.1)

pub set_stays : (done rest : List Atom) → IsStrictlySortedBy atom_cmp (done ++ rest) → set_from done rest ≡ Some (done ++ rest)
set_stays done [] h = ap Some (sym (append-nil done))
set_stays done (a ∷ rest) h =
    let under = below done rest a h in
    let joined : (done ++ a ∷ []) ++ rest ≡ done ++ a ∷ rest = append_assoc done (a ∷ []) rest in
    ap (λ b. if b then None else set_from (insert_key atom_cmp done a) rest) (absent done a under)
    ∙ ap (λ l. set_from l rest) (placed done a under)
    ∙ set_stays (done ++ a ∷ []) rest (subst (IsStrictlySortedBy atom_cmp) (sym joined) h)
    ∙ ap Some joined

no_key : (done : List (Atom × Atom)) (a : Atom) → Below (keys_of done) a → is_some (lookup (is_at (atom_cmp a)) done) ≡ false
unfolding Below
no_key [] a h = refl
no_key (p ∷ ps) a h = ap (λ o. is_some (if is_eq o then Some p.1 else lookup (is_at (atom_cmp a)) ps)) (above a p.0 h.0) ∙ no_key ps a h.1

put_last : (done : List (Atom × Atom)) (a b : Atom) → Below (keys_of done) a → insert_entry atom_cmp done a b ≡ done ++ (a, b) ∷ []
unfolding Below
put_last [] a b h = refl
put_last (p ∷ ps) a b h = ap (λ o. match_ordering o ((a, b) ∷ p ∷ ps) ((p.0, b) ∷ ps) (p ∷ insert_entry atom_cmp ps a b)) (above a p.0 h.0) ∙ ap (λ r. p ∷ r) (put_last ps a b h.1)

keys_append : (xs ys : List (Atom × Atom)) → keys_of (xs ++ ys) ≡ keys_of xs ++ keys_of ys
keys_append [] ys = refl
keys_append (x ∷ xs) ys = ap (λ r. x.0 ∷ r) (keys_append xs ys)

pub map_stays : (done rest : List (Atom × Atom)) → IsStrictlySortedBy atom_cmp (keys_of (done ++ rest)) → map_from done rest ≡ Some (done ++ rest)
map_stays done [] h = ap Some (sym (append-nil done))
map_stays done (p ∷ rest) h =
    let under = below (keys_of done) (keys_of rest) p.0 (subst (IsStrictlySortedBy atom_cmp) (keys_append done (p ∷ rest)) h) in
    let joined : (done ++ p ∷ []) ++ rest ≡ done ++ p ∷ rest = append_assoc done (p ∷ []) rest in
    ap (λ b. if b then None else map_from (insert_entry atom_cmp done p.0 p.1) rest) (no_key done p.0 under)
    ∙ ap (λ l. map_from l rest) (put_last done p.0 p.1 under)
    ∙ map_stays (done ++ p ∷ []) rest (subst (λ l. IsStrictlySortedBy atom_cmp (keys_of l)) (sym joined) h)
    ∙ ap Some joined

pub no_atoms : (xs : List Atom) → xs ≡ [] → IsStrictlySortedBy atom_cmp xs
unfolding IsStrictlySortedBy
no_atoms xs e = rw e tt

pub no_pairs : (ps : List (Atom × Atom)) → ps ≡ [] → IsStrictlySortedBy atom_cmp (keys_of ps)
unfolding IsStrictlySortedBy
no_pairs ps e = rw e tt

pub one_atom : (xs : List Atom) (a : Atom) → xs ≡ a ∷ [] → IsStrictlySortedBy atom_cmp xs
unfolding IsStrictlySortedBy
one_atom xs a e = rw e (tt, tt)

-- what is kept of pairs in order is in order
kept_one : (P : Atom → Type 0) (b : Bool) (p : Atom × Atom) (ps : List (Atom × Atom)) → P p.0 → AllByRecursion P (keys_of ps) → AllByRecursion P (keys_of (cond b (p ∷ ps) ps))
kept_one P true p ps h hs = (h, hs)
kept_one P false p ps h hs = hs

kept_keys : (P : Atom → Type 0) (test : Atom × Atom → Bool) (ps : List (Atom × Atom)) → AllByRecursion P (keys_of ps) → AllByRecursion P (keys_of (filter test ps))
kept_keys P test [] h = tt
kept_keys P test (p ∷ ps) h = kept_one P (test p) p (filter test ps) h.0 (kept_keys P test ps h.1)

sorted_one : (b : Bool) (p : Atom × Atom) (ps : List (Atom × Atom)) → AllByRecursion (λ y. atom_cmp p.0 y ≡ Less) (keys_of ps) → IsStrictlySortedBy atom_cmp (keys_of ps) → IsStrictlySortedBy atom_cmp (keys_of (cond b (p ∷ ps) ps))
unfolding IsStrictlySortedBy
sorted_one true p ps h hs = (h, hs)
sorted_one false p ps h hs = hs

in_order : (test : Atom × Atom → Bool) (ps : List (Atom × Atom)) → IsStrictlySortedBy atom_cmp (keys_of ps) → IsStrictlySortedBy atom_cmp (keys_of (filter test ps))
unfolding IsStrictlySortedBy
in_order test [] h = tt
in_order test (p ∷ ps) h = sorted_one (test p) p (filter test ps) (kept_keys (λ y. atom_cmp p.0 y ≡ Less) test ps h.0) (in_order test ps h.1)

pub kept_pairs : (test : Atom × Atom → Bool) (rest seen own : List (Atom × Atom)) → rest ≡ filter test seen → seen ≡ own → IsStrictlySortedBy atom_cmp (keys_of own) → IsStrictlySortedBy atom_cmp (keys_of rest)
kept_pairs test rest seen own e f h = rw (e, f) (in_order test own h)

pub kept_atoms : (test : Atom → Bool) (rest seen own : List Atom) → rest ≡ filter test seen → seen ≡ own → IsStrictlySortedBy atom_cmp own → IsStrictlySortedBy atom_cmp rest
kept_atoms test rest seen own e f h = rw (e, f) (IsStrictlySortedBy-filter atom_cmp test own h)
