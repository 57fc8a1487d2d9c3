-- What the calls of the map of entries make of a list that is held in it.
use Rattle.std.proofs.Common.{◌≡◌, ℕ, ◌≤◌, Bool, true, false, not, cond, ◌&&◌, ◌||◌, List, [], ◌∷◌, filter, length, position, Option, Some, None, refl, sym, ap, subst, ◌∙◌, if◌then◌else◌, arith, suc, ◌+◌, is_some}
use Rattle.std.specs.Prelude.{◌==◌}
use Rattle.std.specs.List.{list_any, AllByRecursion, IsDistinct}
use Rattle.std.specs.Map.{keys_of, values_of, lookup}
use Rattle.std.proofs.lemmas.Bool.Decides.{nat_tests}
use Rattle.indexmap.specs.IndexMap.{insert_entry, shift_remove_entry, set_value_at}
use Rattle.indexmap.proofs.MapLemmas.{insert_entry-first, Found-position}
use Rattle.mac_learning.specs.declared.Learnt.{Learnt}
use Rattle.std.proofs.lemmas.List.Filters.{length-filter_both}
use Rattle.std.proofs.lemmas.Option.{slice_get-map}
use Rattle.std.specs.Option.{option_map}
use Rattle.std.specs.Prelude.{slice_get, nat_lt}
use Rattle.mac_learning.specs.declared.Learn.TheVariants as learn
use Rattle.mac_learning.specs.Learning.{Learning, is_of, same_address, same_place, IsOnce, is_once, found, put, without, learns, learns_by, after, after_by}
use Rattle.mac_learning.specs.Keyed.{keyed, IsKept}

abbrev pub key_eq : ℕ × ℕ → ℕ × ℕ → Bool
key_eq a b = (a.0 == b.0) && (a.1 == b.1)

both : (a b : Bool) → a && b ≡ true → (a ≡ true) × (b ≡ true)
both true true e = (refl, refl)
both true false e = absurd (cc)
both false b e = absurd (cc)

same : (a b : ℕ) → (a == b) ≡ true → a ≡ b
same a b e = grind (arith, nat_tests)

pub of_address : (switch mac : ℕ) (e : Learnt) → is_of switch mac e ≡ true → (switch ≡ e.switch) × (mac ≡ e.mac)
of_address switch mac e t = let b = both _ _ t in (same _ _ b.0, same _ _ b.1)

pub values-keyed : (es : List Learnt) → values_of (keyed es) ≡ es
values-keyed [] = refl
values-keyed (e ∷ es) = ap (λ l. e ∷ l) (values-keyed es)

-- ---- each address once

none_same : (e : Learnt) (es : List Learnt) → AllByRecursion (λ y. key_eq (e.switch, e.mac) y ≡ false) (keys_of (keyed es)) → list_any (same_address e) es ≡ false
none_same e [] h = refl
none_same e (x ∷ xs) h = ap (λ b. b || list_any (same_address e) xs) h.0 ∙ none_same e xs h.1

once : (es : List Learnt) → IsDistinct key_eq (keys_of (keyed es)) → IsOnce es
unfolding IsDistinct
once [] d = refl
once (e ∷ es) d = ap (λ b. not b && is_once es) (none_same e es d.0) ∙ once es d.1

-- what is held is a list that has each address once
pub kept : (entries : List ((ℕ × ℕ) × Learnt)) (es : List Learnt) (limit : ℕ) → entries ≡ keyed es → IsDistinct key_eq (keys_of entries) → length es ≤ limit → IsKept entries limit
kept entries es limit is distinct within =
    let shown : values_of entries ≡ es = ap values_of is ∙ values-keyed es in
    let once_es : IsOnce es = once es (subst (λ l. IsDistinct key_eq (keys_of l)) is distinct) in
    record {
      under_own_key = is ∙ ap keyed (sym shown);
      once = subst IsOnce (sym shown) once_es;
      within = subst (λ l. length l ≤ limit) (sym shown) within;
    }

abbrev learning : List Learnt → ℕ → Learning
learning es limit = record { entries = es; limit = limit }

pub shown : (entries : List ((ℕ × ℕ) × Learnt)) (es : List Learnt) (limit : ℕ) → entries ≡ keyed es → learning (values_of entries) limit ≡ learning es limit
shown entries es limit is = ap (λ l. learning l limit) (ap values_of is ∙ values-keyed es)

-- ---- looking up

pub lookup-keyed : (switch mac : ℕ) (es : List Learnt) → lookup (key_eq (switch, mac)) (keyed es) ≡ found switch mac es
lookup-keyed switch mac [] = refl
lookup-keyed switch mac (e ∷ es) = ap (cond (is_of switch mac e) (Some e)) (lookup-keyed switch mac es)

pub looked_up : (switch mac key : ℕ) (entries : List ((ℕ × ℕ) × Learnt)) → key ≡ mac → entries ≡ keyed (values_of entries) → lookup (key_eq (switch, key)) entries ≡ found switch mac (values_of entries)
looked_up switch mac key entries is kept =
    ap (lookup (key_eq (switch, key))) kept ∙ lookup-keyed switch key (values_of entries) ∙ ap (λ m. found switch m (values_of entries)) is

pub value_at : (entries : List ((ℕ × ℕ) × Learnt)) (i : ℕ) (k : ℕ × ℕ) (e : Learnt) → slice_get entries i ≡ Some (k, e) → slice_get (values_of entries) i ≡ Some e
value_at entries i k e at = slice_get-map (λ e. e.1) entries i ∙ ap (option_map (λ e. e.1)) at

-- what is found is the entry of the address
pub found_is : (switch mac : ℕ) (es : List Learnt) (e : Learnt) → found switch mac es ≡ Some e → is_of switch mac e ≡ true
found_is switch mac [] e h = absurd (cc)
found_is switch mac (x ∷ xs) e h = by (is_of switch mac x) refl h (found_is switch mac xs e)
  where
    by : (b : Bool) → is_of switch mac x ≡ b → cond b (Some x) (found switch mac xs) ≡ Some e → (found switch mac xs ≡ Some e → is_of switch mac e ≡ true) → is_of switch mac e ≡ true
    by true t h rest = let same : x ≡ e = cc in subst (λ y. is_of switch mac y ≡ true) same t
    by false t h rest = rest h

-- ---- putting

pub insert-keyed : (new : Learnt) (es : List Learnt) → insert_entry key_eq (keyed es) (new.switch, new.mac) new ≡ keyed (put new es)
insert-keyed new [] = refl
insert-keyed new (e ∷ es) = by (same_address new e) refl (insert-keyed new es)
  where
    by : (b : Bool) → same_address new e ≡ b → insert_entry key_eq (keyed es) (new.switch, new.mac) new ≡ keyed (put new es)
        → (if b then ((e.switch, e.mac), new) ∷ keyed es else ((e.switch, e.mac), e) ∷ insert_entry key_eq (keyed es) (new.switch, new.mac) new) ≡ keyed (if b then new ∷ es else e ∷ put new es)
    by true t rest = let a = of_address new.switch new.mac e t in (λ i. ((sym a.0 i, sym a.1 i), new) ∷ keyed es)
    by false t rest = ap (λ l. ((e.switch, e.mac), e) ∷ l) rest

pub set-keyed : (new : Learnt) (es : List Learnt) (i : ℕ) → position (key_eq (new.switch, new.mac)) (keys_of (keyed es)) ≡ Some i → set_value_at (keyed es) i new ≡ keyed (put new es)
set-keyed new es i at =
    sym (insert_entry-first key_eq (new.switch, new.mac) new (keyed es) i (Found-position (key_eq (new.switch, new.mac)) (keyed es) i at).first) ∙ insert-keyed new es

-- ---- taking away

pub filter-keyed : (p : Learnt → Bool) (es : List Learnt) → filter (λ e. p e.1) (keyed es) ≡ keyed (filter p es)
filter-keyed p [] = refl
filter-keyed p (e ∷ es) = by (p e) (filter-keyed p es)
  where
    by : (b : Bool) → filter (λ e. p e.1) (keyed es) ≡ keyed (filter p es)
        → cond b (((e.switch, e.mac), e) ∷ filter (λ e. p e.1) (keyed es)) (filter (λ e. p e.1) (keyed es)) ≡ keyed (cond b (e ∷ filter p es) (filter p es))
    by true rest = ap (λ l. ((e.switch, e.mac), e) ∷ l) rest
    by false rest = rest

filter_none : (p : Learnt → Bool) (es : List Learnt) → list_any p es ≡ false → filter (λ e. not (p e)) es ≡ es
filter_none p [] h = refl
filter_none p (e ∷ es) h = by (p e) refl (filter_none p es)
  where
    by : (b : Bool) → p e ≡ b → (list_any p es ≡ false → filter (λ e. not (p e)) es ≡ es) → cond (not b) (e ∷ filter (λ e. not (p e)) es) (filter (λ e. not (p e)) es) ≡ e ∷ es
    by true t rest = absurd (let x : true ≡ false = ap (λ b. b || list_any p es) (sym t) ∙ h in cc)
    by false t rest = ap (λ l. e ∷ l) (rest (ap (λ b. b || list_any p es) (sym t) ∙ h))

not_true : (b : Bool) → not b ≡ true → b ≡ false
not_true true e = absurd (cc)
not_true false e = refl

others : (switch mac : ℕ) (e : Learnt) (es : List Learnt) → is_of switch mac e ≡ true → IsOnce (e ∷ es) → list_any (is_of switch mac) es ≡ false
others switch mac e es t o =
    let a = of_address switch mac e t in
    (λ i. list_any (is_of (a.0 i) (a.1 i)) es) ∙ not_true _ (both _ _ o).0

pub remove-keyed : (switch mac : ℕ) (es : List Learnt) → IsOnce es → shift_remove_entry (key_eq (switch, mac)) (keyed es) ≡ keyed (without switch mac es)
remove-keyed switch mac [] o = refl
remove-keyed switch mac (e ∷ es) o = by (is_of switch mac e) refl (remove-keyed switch mac es (both _ _ o).1)
  where
    by : (b : Bool) → is_of switch mac e ≡ b → shift_remove_entry (key_eq (switch, mac)) (keyed es) ≡ keyed (without switch mac es)
        → cond b (keyed es) (((e.switch, e.mac), e) ∷ shift_remove_entry (key_eq (switch, mac)) (keyed es)) ≡ keyed (cond (not b) (e ∷ without switch mac es) (without switch mac es))
    by true t rest = ap keyed (sym (filter_none (is_of switch mac) es (others switch mac e es t o)))
    by false t rest = ap (λ l. ((e.switch, e.mac), e) ∷ l) rest

pub shorter : (p : Learnt → Bool) (es : List Learnt) → length (filter (λ e. not (p e)) es) ≤ length es
shorter p es = omega (arith, length-filter_both p (λ e. not (p e)) (λ _. refl) es)

-- ---- learning

-- an address that is known is not refused, and its entry stands at its place
pub known_learns : (l : Learning) (old new : Learnt) → found new.switch new.mac l.entries ≡ Some old → learns l new ≡ learns_by false new (Some old)
known_learns l old new h = ap (learns_by (nat_lt (length l.entries) l.limit) new) h

pub known_after : (l : Learning) (old new : Learnt) → found new.switch new.mac l.entries ≡ Some old → after l new ≡ learning (put new l.entries) l.limit
known_after l old new h = ap (λ a. after_by a l new) (known_learns l old new h) ∙ by (same_place old new)
  where
    by : (b : Bool) → after_by (if b then learn.Same else learn.Moved) l new ≡ learning (put new l.entries) l.limit
    by true = refl
    by false = refl

-- a new address where there is room
pub new_learns : (l : Learning) (new : Learnt) (room : Bool) → nat_lt (length l.entries) l.limit ≡ room → found new.switch new.mac l.entries ≡ None → learns l new ≡ learns_by room new None
new_learns l new room r h = ap (λ o. learns_by (nat_lt (length l.entries) l.limit) new o) h ∙ ap (λ b. learns_by b new None) r

pub new_after : (l : Learning) (new : Learnt) → nat_lt (length l.entries) l.limit ≡ true → found new.switch new.mac l.entries ≡ None → after l new ≡ learning (put new l.entries) l.limit
new_after l new r h = ap (λ a. after_by a l new) (new_learns l new true r h)

pub length-put_known : (new : Learnt) (es : List Learnt) (old : Learnt) → found new.switch new.mac es ≡ Some old → length (put new es) ≡ length es
length-put_known new [] old h = absurd (cc)
length-put_known new (e ∷ es) old h = by (same_address new e) h (length-put_known new es old)
  where
    by : (b : Bool) → cond b (Some e) (found new.switch new.mac es) ≡ Some old → (found new.switch new.mac es ≡ Some old → length (put new es) ≡ length es)
        → length (if b then new ∷ es else e ∷ put new es) ≡ length (e ∷ es)
    by true h rest = refl
    by false h rest = ap suc (rest h)

pub length-put : (new : Learnt) (es : List Learnt) → length (put new es) ≤ length es + 1
length-put new [] = omega arith
length-put new (e ∷ es) = by (same_address new e) (length-put new es)
  where
    by : (b : Bool) → length (put new es) ≤ length es + 1 → length (if b then new ∷ es else e ∷ put new es) ≤ length (e ∷ es) + 1
    by true rest = omega arith
    by false rest = omega (arith, rest)

-- no entry is held, so none is found
pub none_found : (o : Option Learnt) → is_some o ≡ false → o ≡ None
none_found None h = refl
none_found (Some e) h = absurd (cc)
