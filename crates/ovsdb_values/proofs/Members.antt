-- A set or a map holds what the list has that it is made of, and is in order.
use Rattle.std.proofs.Common.{◌≡◌, Bool, true, false, cond, List, [], ◌∷◌, Option, Some, None, refl, ap, sym, subst, ◌∙◌, true≢false}
use Rattle.std.specs.Prelude.{◌||◌, is_some, if◌then◌else◌}
use Rattle.std.specs.List.{AllByRecursion}
use Rattle.std.specs.List.Sorted.{IsStrictlySortedBy}
use Rattle.std.specs.Map.{keys_of}
use Rattle.std.specs.Option.{option_or}
use Rattle.std.specs.BTreeMap.{insert_entry}
use Rattle.std.specs.BTreeSet.{insert_key}
use Rattle.std.specs.Ordering.{ordering_reverse, match_ordering, is_eq}
use Rattle.std.specs.declared.cmp.Ordering.{Ordering}
use Rattle.std.specs.declared.cmp.Ordering.TheVariants.{Less, Equal, Greater}
use Rattle.ovsdb_values.specs.declared.atoms.Atom.{Atom}
use Rattle.ovsdb_values.specs.Atoms.{atom_cmp, atom_total, same_atom}
use Rattle.ovsdb_values.specs.Exact.{atom_exact, same_atom_exact}
use Rattle.ovsdb_values.proofs.Carried.{put_in}
use Rattle.ovsdb_values.specs.Sets.{has_atom, value_in, with_atoms, with_pair, with_pairs, set_of, map_of}

-- ---- members

swapped : (a b r : Bool) → (b || (a || r)) ≡ (a || (b || r))
swapped true true r = refl
swapped true false r = refl
swapped false true r = refl
swapped false false r = refl

twice : (b r : Bool) → (b || r) ≡ (b || (b || r))
twice true r = refl
twice false r = refl

placed : (q a x : Atom) (xs more : List Atom) (o : Ordering) → atom_cmp a x ≡ o → has_atom more q ≡ (same_atom q a || has_atom xs q)
    → has_atom (match_ordering o (a ∷ x ∷ xs) (x ∷ xs) (x ∷ more)) q ≡ (same_atom q a || (same_atom q x || has_atom xs q))
placed q a x xs more Less e h = refl
placed q a x xs more Equal e h = subst (λ y. (same_atom q x || has_atom xs q) ≡ (same_atom q y || (same_atom q x || has_atom xs q))) (sym (atom_exact a x e)) (twice (same_atom q x) (has_atom xs q))
placed q a x xs more Greater e h = ap (λ r. same_atom q x || r) h ∙ swapped (same_atom q a) (same_atom q x) (has_atom xs q)

has_put : (q a : Atom) (xs : List Atom) → has_atom (insert_key atom_cmp xs a) q ≡ (same_atom q a || has_atom xs q)
has_put q a [] = refl
has_put q a (x ∷ xs) = placed q a x xs (insert_key atom_cmp xs a) (atom_cmp a x) refl (has_put q a xs)

one_more : (a d r : Bool) → ((a || d) || r) ≡ (d || (a || r))
one_more true true r = refl
one_more true false r = refl
one_more false d r = refl

or_false : (b : Bool) → b ≡ (b || false)
or_false true = refl
or_false false = refl

has_with : (q : Atom) (done rest : List Atom) → has_atom (with_atoms done rest) q ≡ (has_atom done q || has_atom rest q)
has_with q done [] = or_false (has_atom done q)
has_with q done (a ∷ rest) =
    has_with q (insert_key atom_cmp done a) rest ∙ ap (λ b. b || has_atom rest q) (has_put q a done) ∙ one_more (same_atom q a) (has_atom done q) (has_atom rest q)

pub set_members : (atoms : List Atom) (q : Atom) → has_atom (set_of atoms) q ≡ has_atom atoms q
set_members atoms q = has_with q [] atoms

-- ---- the value of each key

exchanged : {X : Type 0} (a b : Bool) (s t v : Option X) → (a ≡ true → b ≡ true → ⊥) → cond b s (cond a t v) ≡ cond a t (cond b s v)
exchanged true true s t v h = absurd (h refl refl)
exchanged true false s t v h = refl
exchanged false b s t v h = refl

covered : {X : Type 0} (b : Bool) (s t v : Option X) → cond b s v ≡ cond b s (cond b t v)
covered true s t v = refl
covered false s t v = refl

apart : (q a x : Atom) → atom_cmp a x ≡ Greater → same_atom q a ≡ true → same_atom q x ≡ true → ⊥
apart q a x e f g = true≢false (sym ((same_atom_exact a x).1 (sym ((same_atom_exact q a).0 f) ∙ (same_atom_exact q x).0 g)) ∙ ap is_eq e)

valued : (q : Atom) (p x : Atom × Atom) (xs more : List (Atom × Atom)) (o : Ordering) → atom_cmp p.0 x.0 ≡ o → value_in more q ≡ cond (same_atom q p.0) (Some p.1) (value_in xs q)
    → value_in (match_ordering o (p ∷ x ∷ xs) ((x.0, p.1) ∷ xs) (x ∷ more)) q ≡ cond (same_atom q p.0) (Some p.1) (value_in (x ∷ xs) q)
valued q p x xs more Less e h = refl
valued q p x xs more Equal e h =
    subst (λ k. cond (same_atom q x.0) (Some p.1) (value_in xs q) ≡ cond (same_atom q k) (Some p.1) (cond (same_atom q x.0) (Some x.1) (value_in xs q))) (sym (atom_exact p.0 x.0 e))
    (covered (same_atom q x.0) (Some p.1) (Some x.1) (value_in xs q))
valued q p x xs more Greater e h =
    ap (cond (same_atom q x.0) (Some x.1)) h ∙ exchanged (same_atom q p.0) (same_atom q x.0) (Some x.1) (Some p.1) (value_in xs q) (apart q p.0 x.0 e)

value_put : (q : Atom) (p : Atom × Atom) (ps : List (Atom × Atom)) → value_in (insert_entry atom_cmp ps p.0 p.1) q ≡ cond (same_atom q p.0) (Some p.1) (value_in ps q)
value_put q p [] = refl
value_put q p (x ∷ xs) = valued q p x xs (insert_entry atom_cmp xs p.0 p.1) (atom_cmp p.0 x.0) refl (value_put q p xs)

picked : (q : Atom) (b : Bool) (ps qs : List (Atom × Atom)) → value_in (if b then ps else qs) q ≡ cond b (value_in ps q) (value_in qs q)
picked q true ps qs = refl
picked q false ps qs = refl

first_stays : {X : Type 0} (b : Bool) (x : Option X) (v : X) (there : Bool) → (b ≡ true → is_some x ≡ there) → cond there x (cond b (Some v) x) ≡ option_or x (cond b (Some v) None)
first_stays true None v true h = absurd (true≢false (sym (h refl)))
first_stays true None v false h = refl
first_stays true (Some y) v true h = refl
first_stays true (Some y) v false h = absurd (true≢false (h refl))
first_stays false None v true h = refl
first_stays false None v false h = refl
first_stays false (Some y) v true h = refl
first_stays false (Some y) v false h = refl

value_with_pair : (q : Atom) (done : List (Atom × Atom)) (p : Atom × Atom) → value_in (with_pair done p) q ≡ option_or (value_in done q) (cond (same_atom q p.0) (Some p.1) None)
value_with_pair q done p =
    picked q (is_some (value_in done p.0)) done (insert_entry atom_cmp done p.0 p.1)
    ∙ ap (cond (is_some (value_in done p.0)) (value_in done q)) (value_put q p done)
    ∙ first_stays (same_atom q p.0) (value_in done q) p.1 (is_some (value_in done p.0)) (λ e. ap (λ k. is_some (value_in done k)) ((same_atom_exact q p.0).0 e))

or_none : {X : Type 0} (x : Option X) → x ≡ option_or x None
or_none None = refl
or_none (Some y) = refl

in_turn : {X : Type 0} (d r : Option X) (b : Bool) (v : X) → option_or (option_or d (cond b (Some v) None)) r ≡ option_or d (cond b (Some v) r)
in_turn None r true v = refl
in_turn None r false v = refl
in_turn (Some y) r b v = refl

value_with : (q : Atom) (done rest : List (Atom × Atom)) → value_in (with_pairs done rest) q ≡ option_or (value_in done q) (value_in rest q)
value_with q done [] = or_none (value_in done q)
value_with q done (p ∷ rest) =
    value_with q (with_pair done p) rest ∙ ap (λ o. option_or o (value_in rest q)) (value_with_pair q done p) ∙ in_turn (value_in done q) (value_in rest q) (same_atom q p.0) p.1

pub map_values : (pairs : List (Atom × Atom)) (q : Atom) → value_in (map_of pairs) q ≡ value_in pairs q
map_values pairs q = value_with q [] pairs

-- ---- the order

all_above : (a x : Atom) (xs : List Atom) → atom_cmp a x ≡ Less → AllByRecursion (λ y. atom_cmp x y ≡ Less) xs → AllByRecursion (λ y. atom_cmp a y ≡ Less) xs
all_above a x [] e h = tt
all_above a x (y ∷ ys) e h = (atom_total.trans a x y e h.0, all_above a x ys e h.1)

put_above : (a x : Atom) (xs : List Atom) (o : Ordering) → atom_cmp a x ≡ o → AllByRecursion (λ y. atom_cmp x y ≡ Less) xs → IsStrictlySortedBy atom_cmp (x ∷ xs) → IsStrictlySortedBy atom_cmp (insert_key atom_cmp xs a)
    → IsStrictlySortedBy atom_cmp (match_ordering o (a ∷ x ∷ xs) (x ∷ xs) (x ∷ insert_key atom_cmp xs a))
unfolding IsStrictlySortedBy
put_above a x xs Less e f h g = ((e, all_above a x xs e f), h)
put_above a x xs Equal e f h g = h
put_above a x xs Greater e f h g = (put_in (λ y. atom_cmp x y ≡ Less) a xs (atom_total.antisymm x a ∙ ap ordering_reverse e) f, g)

put_ordered : (a : Atom) (xs : List Atom) → IsStrictlySortedBy atom_cmp xs → IsStrictlySortedBy atom_cmp (insert_key atom_cmp xs a)
unfolding IsStrictlySortedBy
put_ordered a [] h = (tt, tt)
put_ordered a (x ∷ xs) h = put_above a x xs (atom_cmp a x) refl h.0 h (put_ordered a xs h.1)

with_ordered : (done rest : List Atom) → IsStrictlySortedBy atom_cmp done → IsStrictlySortedBy atom_cmp (with_atoms done rest)
with_ordered done [] h = h
with_ordered done (a ∷ rest) h = with_ordered (insert_key atom_cmp done a) rest (put_ordered a done h)

pub set_ordered : (atoms : List Atom) → IsStrictlySortedBy atom_cmp (set_of atoms)
unfolding IsStrictlySortedBy
set_ordered atoms = with_ordered [] atoms tt

keys_picked : (o : Ordering) (as' bs cs : List (Atom × Atom)) → keys_of (match_ordering o as' bs cs) ≡ match_ordering o (keys_of as') (keys_of bs) (keys_of cs)
keys_picked Less as' bs cs = refl
keys_picked Equal as' bs cs = refl
keys_picked Greater as' bs cs = refl

keys_put : (k v : Atom) (ps : List (Atom × Atom)) → keys_of (insert_entry atom_cmp ps k v) ≡ insert_key atom_cmp (keys_of ps) k
keys_put k v [] = refl
keys_put k v (p ∷ ps) =
    keys_picked (atom_cmp k p.0) ((k, v) ∷ p ∷ ps) ((p.0, v) ∷ ps) (p ∷ insert_entry atom_cmp ps k v)
    ∙ ap (λ ks. match_ordering (atom_cmp k p.0) (k ∷ p.0 ∷ keys_of ps) (p.0 ∷ keys_of ps) (p.0 ∷ ks)) (keys_put k v ps)

pair_ordered : (done : List (Atom × Atom)) (p : Atom × Atom) (b : Bool) → IsStrictlySortedBy atom_cmp (keys_of done) → IsStrictlySortedBy atom_cmp (keys_of (if b then done else insert_entry atom_cmp done p.0 p.1))
pair_ordered done p true h = h
pair_ordered done p false h = subst (IsStrictlySortedBy atom_cmp) (sym (keys_put p.0 p.1 done)) (put_ordered p.0 (keys_of done) h)

with_pairs_ordered : (done rest : List (Atom × Atom)) → IsStrictlySortedBy atom_cmp (keys_of done) → IsStrictlySortedBy atom_cmp (keys_of (with_pairs done rest))
with_pairs_ordered done [] h = h
with_pairs_ordered done (p ∷ rest) h = with_pairs_ordered (with_pair done p) rest (pair_ordered done p (is_some (value_in done p.0)) h)

pub map_ordered : (pairs : List (Atom × Atom)) → IsStrictlySortedBy atom_cmp (keys_of (map_of pairs))
unfolding IsStrictlySortedBy
map_ordered pairs = with_pairs_ordered [] pairs tt
