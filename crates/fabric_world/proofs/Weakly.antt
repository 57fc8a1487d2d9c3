-- The entries of an access list permit what the least of those that match permits, however often one is named.
use Rattle.std.proofs.Common.{◌≡◌, ◌⊎◌, ◌↔◌, inl, inr, ℕ, zero, suc, Bool, true, false, cond, fold, find, List, [], ◌∷◌, Option, Some, None, refl, sym, ap, subst, ◌∙◌, arith, Contains, true≢false}
use Rattle.std.specs.List.{filter_map}
use Rattle.std.specs.Option.{option_map}
use Rattle.std.proofs.lemmas.Bool.Decides.{nat_tests}
use Rattle.std.proofs.lemmas.List.Sorted.{IsPermutation-sym, Contains-permutation}
use Rattle.vtep_base.specs.declared.shapes.Action.{Action}
use Rattle.vtep_base.specs.declared.shapes.Action.TheVariants.{Permit, Deny}
use Rattle.vtep_base.specs.declared.shapes.Direction.{Direction}
use Rattle.ether_frames.specs.declared.fields.Headers.{Headers}
use Rattle.vtep_schema.specs.declared.Table.TheVariants.{AclEntry}
use Rattle.vtep_schema.specs.declared.Column.TheVariants.{AclEntries}
use Rattle.vtep_rows.specs.Row.{Contents, ids_at}
use Rattle.vtep_rows.specs.Rows.{Rows, row_at}
use Rattle.vtep_rows.proofs.Entries.{same_some}
use Rattle.acl_rules.specs.declared.entry.Entry.{Entry}
use Rattle.acl_rules.specs.Matching.{matches}
use Rattle.acl_rules.specs.Permits.{before, placed, in_order, Permits, permits, says, is_permit}
use Rattle.acl_rules.proofs.Placed.{before-asym, before-irrefl, in_order_moves}
use Rattle.forward_program.specs.Acls.{entry_of, entry_at, entries_at}
use Rattle.forward_program.specs.Built.{IsIn}
use Rattle.forward_program.proofs.InLists.{in_picked}
use Rattle.forward_program.proofs.Unique.{map_of}

-- ---- none is before one that it follows

abbrev NotAfter : Entry → List Entry → Type 0
NotAfter e [] = Unit {0}
NotAfter e (x ∷ xs) = (before x e ≡ false) × NotAfter e xs

abbrev IsWeak : List Entry → Type 0
IsWeak [] = Unit {0}
IsWeak (e ∷ es) = NotAfter e es × IsWeak es

stays_behind : (e x y : Entry) → before e x ≡ true → before y x ≡ false → before y e ≡ false
stays_behind e x y h k = grind (arith, nat_tests)

one_id : (a b : Entry) → before a b ≡ false → before b a ≡ false → a.id ≡ b.id
one_id a b h k = grind (arith, nat_tests)

all_behind : (e x : Entry) (ys : List Entry) → before e x ≡ true → NotAfter x ys → NotAfter e ys
all_behind e x [] h n = tt
all_behind e x (y ∷ ys) h n = (stays_behind e x y h n.0, all_behind e x ys h n.1)

placed_behind : (x e : Entry) (ys : List Entry) → before e x ≡ false → NotAfter x ys → NotAfter x (placed e ys)
placed_behind x e [] h n = (h, tt)
placed_behind x e (y ∷ ys) h n = elim (before e y) as (λ b. NotAfter x (cond b (e ∷ y ∷ ys) (y ∷ placed e ys))) [ true ↦ (h, n) | false ↦ (n.0, placed_behind x e ys h n.1) ]

placed_weak : (e : Entry) (xs : List Entry) → IsWeak xs → IsWeak (placed e xs)
placed_weak e [] w = (tt, tt)
placed_weak e (x ∷ xs) w = by (before e x) refl (placed_weak e xs w.1)
  where
    by : (b : Bool) → before e x ≡ b → IsWeak (placed e xs) → IsWeak (cond b (e ∷ x ∷ xs) (x ∷ placed e xs))
    by true h rest = ((before-asym e x h, all_behind e x xs h w.0), w)
    by false h rest = (placed_behind x e xs h w.0, rest)

placed_all : (xs sorted : List Entry) → IsWeak sorted → IsWeak (fold (λ sorted e. placed e sorted) sorted xs)
placed_all [] sorted w = w
placed_all (x ∷ xs) sorted w = placed_all xs (placed x sorted) (placed_weak x sorted w)

-- ---- what is in a list

contains_in : (y : Entry) (xs : List Entry) → Contains xs y → IsIn y xs
contains_in y [] (k, within, is) = absurd (omega (arith, within))
contains_in y (x ∷ xs) (zero, within, is) = inl (sym is)
contains_in y (x ∷ xs) (suc k, within, is) = inr (contains_in y xs (k, omega (arith, within), is))

in_contains : (y : Entry) (xs : List Entry) → IsIn y xs → Contains xs y
in_contains y [] h = absurd h
in_contains y (x ∷ xs) (inl is) = (0, omega arith, sym is)
in_contains y (x ∷ xs) (inr h) = let c = in_contains y xs h in (suc c.0, omega (arith, c.1), c.2)

not_after_in : (x o : Entry) (xs : List Entry) → NotAfter x xs → IsIn o xs → before o x ≡ false
not_after_in x o [] n h = absurd h
not_after_in x o (y ∷ ys) n (inl is) = ap (λ w. before w x) is ∙ n.0
not_after_in x o (y ∷ ys) n (inr h) = not_after_in x o ys n.1 h

-- entries of one identifier are one
abbrev IsOneEach : List Entry → Type 0
IsOneEach list = (a b : Entry) → IsIn a list → IsIn b list → a.id ≡ b.id → a ≡ b

permit_is : (a : Action) → is_permit a ≡ true → a ≡ Permit
permit_is Permit h = refl
permit_is Deny h = absurd (cc)

module _ (headers : Headers) (direction : Direction) where
  abbrev fits : Entry → Bool
  fits e = matches e direction headers

  abbrev Finds : List Entry → Option Entry → Type 0
  Finds list None = (e : Entry) → IsIn e list → fits e ≡ false
  Finds list (Some e) = IsIn e list × (fits e ≡ true) × ((other : Entry) → IsIn other list → fits other ≡ true → before other e ≡ false)

  more : (x : Entry) (xs : List Entry) → fits x ≡ false → (o : Option Entry) → Finds xs o → Finds (x ∷ xs) o
  more x xs h None f = λ e c. elim c [ inl is ↦ ap fits is ∙ h | inr r ↦ f e r ]
  more x xs h (Some e) f = (inr f.0, f.1, λ other c m. elim c [ inl is ↦ absurd (true≢false (sym m ∙ ap fits is ∙ h)) | inr r ↦ f.2 other r m ])

  finds : (list : List Entry) → IsWeak list → Finds list (find fits list)
  finds [] w = λ e h. absurd h
  finds (x ∷ xs) w = by (fits x) refl (finds xs w.1)
    where
      by : (b : Bool) → fits x ≡ b → Finds xs (find fits xs) → Finds (x ∷ xs) (cond b (Some x) (find fits xs))
      by true h rest = (inl refl, h, λ other c m. elim c [ inl is ↦ ap (λ e. before e x) is ∙ before-irrefl x | inr r ↦ not_after_in x other xs w.0 r ])
      by false h rest = more x xs h (find fits xs) rest

  says_permits : (list : List Entry) (o : Option Entry) → Finds list o → says o ≡ true → Permits list headers direction
  says_permits list None f h = inl (λ e c. f e (contains_in e list c))
  says_permits list (Some e) f h = inr (e, record { listed = in_contains e list f.0; fits = f.1; least = λ other c m. f.2 other (contains_in other list c) m }, permit_is e.action h)

  permits_says : (list : List Entry) (o : Option Entry) → IsOneEach list → Finds list o → Permits list headers direction → says o ≡ true
  permits_says list None one f p = refl
  permits_says list (Some e) one f (inl none) = absurd (true≢false (sym f.1 ∙ none e (in_contains e list f.0)))
  permits_says list (Some e) one f (inr (d, decides, permit)) =
      let there : IsIn d list = contains_in d list decides.listed in
      let same : e ≡ d = one e d f.0 there (one_id e d (decides.least e (in_contains e list f.0) f.1) (f.2 d there decides.fits)) in
      ap is_permit (ap (λ w. w.action) same ∙ permit)

  permits_weak : (list : List Entry) → IsWeak list → IsOneEach list → (permits list headers direction ≡ true) ↔ Permits list headers direction
  permits_weak list w one = (says_permits list (find fits list) (finds list w), permits_says list (find fits list) one (finds list w))

  -- ---- the entries of a row

  module _ (r : Rows) where
    its_row : (ids : List ℕ) (e : Entry) → IsIn e (filter_map (entry_at r) ids) → entry_at r e.id ≡ Some e
    its_row ids e is =
        let p = in_picked (entry_at r) e ids is in
        let m = map_of (entry_of p.0) (row_at r (AclEntry, p.0)) e p.2 in
        ap (λ (x : Entry). entry_at r x.id) m.2 ∙ p.2

    named : (row : Contents) (e : Entry) → IsIn e (entries_at r row) → entry_at r e.id ≡ Some e
    named row e is =
        let all : List Entry = filter_map (entry_at r) (ids_at row AclEntries) in
        its_row (ids_at row AclEntries) e
        (contains_in e all (Contains-permutation (in_order all) all e (IsPermutation-sym all (in_order all) (in_order_moves all)) (in_contains e (in_order all) is)))

    one_each : (row : Contents) → IsOneEach (entries_at r row)
    one_each row a b a_in b_in same = same_some a b (sym (named row a a_in) ∙ ap (entry_at r) same ∙ named row b b_in)

    pub row_permits : (row : Contents) → (permits (entries_at r row) headers direction ≡ true) ↔ Permits (entries_at r row) headers direction
    row_permits row = permits_weak (entries_at r row) (placed_all (filter_map (entry_at r) (ids_at row AclEntries)) [] tt) (one_each row)

    pub none_permits : (permits [] headers direction ≡ true) ↔ Permits [] headers direction
    none_permits = permits_weak [] tt (λ a b a_in b_in same. absurd a_in)
