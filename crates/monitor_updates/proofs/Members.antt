-- The members of an object as a finite map, in the order of their names.
use Rattle.std.proofs.Common.{◌≡◌, Bool, T, ◌++◌, List, [], ◌∷◌, Option, Some, is_some, refl, sym, ap, subst, ◌∙◌, append_assoc, append-nil}
use Rattle.std.specs.Prelude.{option_and_then}
use Rattle.std.specs.List.{AllByRecursion, filter_map, cons_option}
use Rattle.std.specs.Ordering.{nat_cmp, match_ordering, eq_by_cmp}
use Rattle.std.specs.Cmp.{IsTotalOrder}
use Rattle.std.specs.Cmp.Lexicographic.{slice_cmp, nat_list_cmp_total}
use Rattle.std.specs.declared.cmp.Ordering.{Ordering}
use Rattle.std.specs.declared.cmp.Ordering.TheVariants.{Less, Equal, Greater}
use Rattle.std.specs.FinMap.{find, is_sorted, IsAntisymmetric, nat_cmp-IsAntisymmetric, slice_cmp-IsAntisymmetric}
use Rattle.std.specs.FinMap as fin
use Rattle.std.specs.FinMap.Entries.{by_order}
use Rattle.serde_json.specs.Data.{Data, Members, no_members, member, put}
use Rattle.vtep_base.specs.Reading.{Bytes}
use Rattle.vtep_base.specs.Maps as maps
use Rattle.vtep_base.specs.Maps.{Map}
use Rattle.json_notation.specs.Json.{to_members}

abbrev pub name_cmp : Bytes → Bytes → Ordering
name_cmp = slice_cmp nat_cmp

pub name_total : IsTotalOrder name_cmp
name_total = nat_list_cmp_total

pub name_exact : IsAntisymmetric name_cmp
name_exact = slice_cmp-IsAntisymmetric nat_cmp-IsAntisymmetric

pub same_name : Bytes → Bytes → Bool
same_name = eq_by_cmp name_cmp

abbrev pub raw : List (Bytes × Data) → Members
raw [] = no_members
raw (x ∷ xs) = member x.0 x.1 (raw xs)

-- the members in their places
abbrev pub placed : List (Bytes × Data) → List (Bytes × Data)
placed xs = (maps.of_list {R = name_cmp} xs).list

put_at : (k : Bytes) (d : Data) (x : Bytes × Data) (xs more : List (Bytes × Data)) (o : Ordering) → put k d (raw xs) ≡ raw more
    → match_ordering o (member k d (member x.0 x.1 (raw xs))) (member x.0 d (raw xs)) (member x.0 x.1 (put k d (raw xs))) ≡ raw (by_order o ((k, d) ∷ x ∷ xs) ((x.0, d) ∷ xs) (x ∷ more))
put_at k d x xs more Less e = refl
put_at k d x xs more Equal e = refl
put_at k d x xs more Greater e = ap (member x.0 x.1) e

put_is : (k : Bytes) (d : Data) (xs : List (Bytes × Data)) → put k d (raw xs) ≡ raw (fin.put name_cmp k d xs)
put_is k d [] = refl
put_is k d (x ∷ xs) = put_at k d x xs (fin.put name_cmp k d xs) (name_cmp k x.0) (put_is k d xs)

pub members_placed : (xs : List (Bytes × Data)) → to_members xs ≡ raw (placed xs)
members_placed [] = refl
members_placed (x ∷ xs) =
    ap (put x.0 x.1) (members_placed xs) ∙ put_is x.0 x.1 (placed xs) ∙ ap raw (sym (maps.list-insert name_total (maps.of_list {R = name_cmp} xs) x.0 x.1))

-- ---- what holds of all members holds of all in their places

module _ (P : Bytes × Data → Type 0) where
  all_put_at : (k : Bytes) (d : Data) (x : Bytes × Data) (xs more : List (Bytes × Data)) (o : Ordering) → name_cmp k x.0 ≡ o → P (k, d) → P x → AllByRecursion P xs → AllByRecursion P more
      → AllByRecursion P (by_order o ((k, d) ∷ x ∷ xs) ((x.0, d) ∷ xs) (x ∷ more))
  all_put_at k d x xs more Less e here first rest later = (here, (first, rest))
  all_put_at k d x xs more Equal e here first rest later = (subst (λ n. P (n, d)) (name_exact k x.0 e) here, rest)
  all_put_at k d x xs more Greater e here first rest later = (first, later)

  all_put : (k : Bytes) (d : Data) (xs : List (Bytes × Data)) → P (k, d) → AllByRecursion P xs → AllByRecursion P (fin.put name_cmp k d xs)
  all_put k d [] here all = (here, tt)
  all_put k d (x ∷ xs) here all = all_put_at k d x xs (fin.put name_cmp k d xs) (name_cmp k x.0) refl here all.0 all.1 (all_put k d xs here all.1)

  pub all_placed : (xs : List (Bytes × Data)) → AllByRecursion P xs → AllByRecursion P (placed xs)
  all_placed [] all = tt
  all_placed (x ∷ xs) all =
      subst (AllByRecursion P) (sym (maps.list-insert name_total (maps.of_list {R = name_cmp} xs) x.0 x.1)) (all_put x.0 x.1 (placed xs) all.0 (all_placed xs all.1))

pub placed_sorted : (xs : List (Bytes × Data)) → T (is_sorted name_cmp (placed xs))
placed_sorted xs = (maps.of_list {R = name_cmp} xs).sorted

pub placed_has : (xs : List (Bytes × Data)) (q : Bytes) → is_some (find name_cmp q (placed xs)) ≡ is_some (find name_cmp q xs)
placed_has xs q = ap is_some (maps.get-of_list name_total xs q)

-- ---- what is read of each

-- f gives something of x, of which P holds
pub record Gives {X E : Type 0} (f : X → Option E) (P : X → E → Type 0) (x : X) : Type 0 where
  pub item : E
  pub is : f x ≡ Some item
  pub good : P x item

pub all_read : {X E : Type 0} (f : X → Option E) (P : X → E → Type 0) (Q : E → Type 0) → ((x : X) (e : E) → P x e → Q e) → (xs : List X) → AllByRecursion (Gives f P) xs → AllByRecursion Q (filter_map f xs)
all_read f P Q so [] all = tt
all_read f P Q so (x ∷ xs) all =
    subst (λ o. AllByRecursion Q (cons_option o (filter_map f xs))) (sym all.0.is) (so x all.0.item all.0.good, all_read f P Q so xs all.1)

-- a reader that goes on behind each item that it reads
pub each_read : {E : Type 0} (f : Bytes × Data → Option E) (P : Bytes × Data → E → Type 0) (from : List E → Members → Option (List E)) → ((done : List E) → from done no_members ≡ Some done)
    → ((done : List E) (x : Bytes × Data) (ms : Members) → from done (member x.0 x.1 ms) ≡ option_and_then (λ e. from (done ++ e ∷ []) ms) (f x))
    → (done : List E) (xs : List (Bytes × Data)) → AllByRecursion (Gives f P) xs → from done (raw xs) ≡ Some (done ++ filter_map f xs)
each_read f P from at_end at_member done [] all = at_end done ∙ ap Some (sym (append-nil done))
each_read f P from at_end at_member done (x ∷ xs) all =
    at_member done x (raw xs)
    ∙ ap (option_and_then (λ e. from (done ++ e ∷ []) (raw xs))) all.0.is
    ∙ each_read f P from at_end at_member (done ++ all.0.item ∷ []) xs all.1
    ∙ ap Some (append_assoc done (all.0.item ∷ []) (filter_map f xs) ∙ ap (λ o. done ++ cons_option o (filter_map f xs)) (sym all.0.is))
