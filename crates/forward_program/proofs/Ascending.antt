-- Lists of ascending numbers, as the identifiers of a table's rows are.
use Rattle.std.proofs.Common.{◌≡◌, ℕ, ◌<◌, ◌≤◌, ◌==◌, Bool, true, false, cond, T, ◌&&◌, ◌||◌, List, [], ◌∷◌, ◌++◌, map, length, refl, sym, ap, ◌∙◌, true≢false, arith}
use Rattle.std.proofs.lemmas.Bool.Decides.{nat_tests}
use Rattle.std.specs.List.{filter, list_any}
use Rattle.std.specs.Ordering.{is_lt, nat_cmp, ordering_then}
use Rattle.std.specs.Cmp.{Equal-is, ranked}
use Rattle.std.specs.declared.cmp.Ordering.TheVariants.{Less, Equal}
use Rattle.std.specs.FinMap.{is_sorted}
use Rattle.std.specs.FinMap.Entries.{below_all, is_some-find}
use Rattle.vtep_base.specs.Maps as maps
use Rattle.vtep_schema.specs.declared.Table.{Table}
use Rattle.vtep_schema.specs.Tables.{same_table, table_cmp}
use Rattle.vtep_rows.specs.Row.{Contents}
use Rattle.vtep_rows.specs.Rows.{Key, key_cmp, Rows, ids_of}
use Rattle.vtep_rows.specs.Database.{ids_at}
use Rattle.vtep_rows.proofs.Entries.{t_first, t_second, less}
use Rattle.vtep_rows.proofs.Kept.{same_table_exact, same_table_itself}
use Rattle.vtep_rows.proofs.TouchedCollected.{first_ids}

-- the number is in the list
abbrev pub has_id : List ℕ → ℕ → Bool
has_id xs i = list_any (λ x. i == x) xs

abbrev pub Over : ℕ → List ℕ → Type 0
Over n [] = Unit {0}
Over n (x ∷ xs) = (n < x) × Over n xs

abbrev pub Ascending : List ℕ → Type 0
Ascending [] = Unit {0}
Ascending (x ∷ xs) = Over x xs × Ascending xs

is_same : (a b : ℕ) → (a == b) ≡ true → a ≡ b
is_same a b e = grind (arith, nat_tests, e)

not_same : (a b : ℕ) → (a == b) ≡ false → a ≡ b → ⊥
not_same a b e h = grind (arith, nat_tests, e, h)

itself : (n : ℕ) → (n == n) ≡ true
itself n = grind (arith, nat_tests)

over_has : (n : ℕ) (xs : List ℕ) (i : ℕ) → Over n xs → has_id xs i ≡ true → n < i
over_has n [] i h e = absurd (true≢false (sym e))
over_has n (x ∷ xs) i h e =
    elim (i == x) as (λ b. (i == x) ≡ b → (b || has_id xs i) ≡ true → n < i) [
      | true ↦ λ same _. let here : i ≡ x = is_same i x same in let lt : n < x = h.0 in omega (arith, here, lt)
      | false ↦ λ _ g. over_has n xs i h.1 g
    ] refl e

over_not : (n : ℕ) (xs : List ℕ) (i : ℕ) → Over n xs → i ≤ n → has_id xs i ≡ false
over_not n xs i h le = by (has_id xs i) refl
  where
    by : (b : Bool) → has_id xs i ≡ b → has_id xs i ≡ false
    by true e = let lt : n < i = over_has n xs i h e in absurd (omega (arith, lt, le))
    by false e = e

-- the number is in the list behind its first one
behind : (x : ℕ) (xs : List ℕ) (i : ℕ) → has_id (x ∷ xs) i ≡ true → (i ≡ x → ⊥) → has_id xs i ≡ true
behind x xs i e other =
    elim (i == x) as (λ b. (i == x) ≡ b → (b || has_id xs i) ≡ true → has_id xs i ≡ true) [
      | true ↦ λ same _. absurd (other (is_same i x same))
      | false ↦ λ _ g. g
    ] refl e

first_in : (x : ℕ) (xs : List ℕ) → has_id (x ∷ xs) x ≡ true
first_in x xs = ap (λ b. b || has_id xs x) (itself x)

later_in : (x : ℕ) (xs : List ℕ) (i : ℕ) → has_id xs i ≡ true → has_id (x ∷ xs) i ≡ true
later_in x xs i e = elim (i == x) as (λ b. (b || has_id xs i) ≡ true) [ true ↦ refl | false ↦ e ]

-- ascending lists of the same numbers are one
pub same_ids : (xs ys : List ℕ) → Ascending xs → Ascending ys → ((i : ℕ) → has_id xs i ≡ has_id ys i) → xs ≡ ys
same_ids [] [] p q same = refl
same_ids [] (y ∷ ys) p q same = absurd (true≢false (sym (first_in y ys) ∙ sym (same y)))
same_ids (x ∷ xs) [] p q same = absurd (true≢false (sym (first_in x xs) ∙ same x))
same_ids (x ∷ xs) (y ∷ ys) p q same =
    let head : x ≡ y = by (x == y) refl in
    (λ i. head i ∷ same_ids xs ys p.1 q.1 (λ n. rest head n (has_id xs n) (has_id ys n) refl refl) i)
  where
    by : (b : Bool) → (x == y) ≡ b → x ≡ y
    by true e = is_same x y e
    by false e =
        let apart : x ≡ y → ⊥ = not_same x y e in
        let low : y < x = over_has y ys x q.0 (behind y ys x (sym (same x) ∙ first_in x xs) apart) in
        let high : x < y = over_has x xs y p.0 (behind x xs y (same y ∙ first_in y ys) (λ h. apart (sym h))) in
        absurd (omega (arith, low, high))

    rest : x ≡ y → (n : ℕ) (a b : Bool) → has_id xs n ≡ a → has_id ys n ≡ b → has_id xs n ≡ has_id ys n
    rest head n true true e f = e ∙ sym f
    rest head n false false e f = e ∙ sym f
    rest head n true false e f =
        let over : x < n = over_has x xs n p.0 e in
        absurd (true≢false (sym (behind y ys n (sym (same n) ∙ later_in x xs n e) (λ h. omega (arith, h, head, over))) ∙ f))
    rest head n false true e f =
        let over : y < n = over_has y ys n q.0 f in
        absurd (true≢false (sym (behind x xs n (same n ∙ later_in y ys n f) (λ h. omega (arith, h, head, over))) ∙ e))

-- an ascending list whose numbers are in another is no longer
pub fewer : (xs ys : List ℕ) → Ascending xs → Ascending ys → ((i : ℕ) → has_id xs i ≡ true → has_id ys i ≡ true) → length xs ≤ length ys
fewer [] ys p q within = omega arith
fewer (x ∷ xs) [] p q within = absurd (true≢false (sym (within x (first_in x xs))))
fewer (x ∷ xs) (y ∷ ys) p q within = by (fewer xs ys p.1 q.1) (fewer (x ∷ xs) ys p q.1) (x == y) refl
  where
    above : (i : ℕ) → has_id (x ∷ xs) i ≡ true → (b : Bool) → (i == x) ≡ b → y < x → i ≡ y → ⊥
    above i h true same low g = let here : i ≡ x = is_same i x same in omega (arith, here, g, low)
    above i h false apart low g = let over : x < i = over_has x xs i p.0 (behind x xs i h (not_same i x apart)) in omega (arith, over, g, low)

    by : (((i : ℕ) → has_id xs i ≡ true → has_id ys i ≡ true) → length xs ≤ length ys) → (((i : ℕ) → has_id (x ∷ xs) i ≡ true → has_id ys i ≡ true) → length (x ∷ xs) ≤ length ys)
        → (b : Bool) → (x == y) ≡ b → length (x ∷ xs) ≤ length (y ∷ ys)
    by both one true e =
        let head : x ≡ y = is_same x y e in
        let shorter : length xs ≤ length ys = both (λ i h.
        let over : x < i = over_has x xs i p.0 h in
        behind y ys i (within i (later_in x xs i h)) (λ g. omega (arith, g, head, over))) in
        omega (arith, shorter)
    by both one false e =
        let low : y < x = over_has y ys x q.0 (behind y ys x (within x (first_in x xs)) (not_same x y e)) in
        let shorter : length (x ∷ xs) ≤ length ys = one (λ i h. behind y ys i (within i h) (above i h (i == x) refl low)) in
        omega (arith, shorter)

over_end : (n m : ℕ) (xs : List ℕ) → n < m → Over n xs → Over n (xs ++ m ∷ [])
over_end n m [] lt h = (lt, tt)
over_end n m (x ∷ xs) lt h = (h.0, over_end n m xs lt h.1)

pub in_middle : (n : ℕ) (xs : List ℕ) (m : ℕ) (ys : List ℕ) → Over n (xs ++ m ∷ ys) → n < m
in_middle n [] m ys h = h.0
in_middle n (x ∷ xs) m ys h = in_middle n xs m ys h.1

-- with a greater number behind them
pub one_behind : (xs : List ℕ) (n : ℕ) → Ascending xs → ((i : ℕ) → has_id xs i ≡ true → i < n) → Ascending (xs ++ n ∷ [])
one_behind [] n h below = (tt, tt)
one_behind (x ∷ xs) n h below = (over_end x n xs (below x (first_in x xs)) h.0, one_behind xs n h.1 (λ i e. below i (later_in x xs i e)))

over_picked : (p : ℕ → Bool) (n : ℕ) (xs : List ℕ) → Over n xs → Over n (filter p xs)
over_picked p n [] h = tt
over_picked p n (x ∷ xs) h =
    elim (p x) as (λ b. Over n (cond b (x ∷ filter p xs) (filter p xs))) [ true ↦ (h.0, over_picked p n xs h.1) | false ↦ over_picked p n xs h.1 ]

pub some_picked : (p : ℕ → Bool) (xs : List ℕ) → Ascending xs → Ascending (filter p xs)
some_picked p [] h = tt
some_picked p (x ∷ xs) h =
    elim (p x) as (λ b. Ascending (cond b (x ∷ filter p xs) (filter p xs))) [ true ↦ (over_picked p x xs h.0, some_picked p xs h.1) | false ↦ some_picked p xs h.1 ]

pub in_picked : (p : ℕ → Bool) (xs : List ℕ) (i : ℕ) → has_id (filter p xs) i ≡ (has_id xs i && p i)
in_picked p [] i = refl
in_picked p (x ∷ xs) i =
    elim (i == x) as (λ b. (i == x) ≡ b → has_id (cond (p x) (x ∷ filter p xs) (filter p xs)) i ≡ ((b || has_id xs i) && p i)) [
      | true ↦ λ same.
          let here : i ≡ x = is_same i x same in
          elim (p x) as (λ b. p x ≡ b → has_id (cond b (x ∷ filter p xs) (filter p xs)) i ≡ p i) [
            | true ↦ λ on. ap (λ b. b || has_id (filter p xs) i) same ∙ sym on ∙ ap p (sym here)
            | false ↦ λ gone. in_picked p xs i ∙ ap (λ b. has_id xs i && b) (ap p here ∙ gone) ∙ off (has_id xs i) ∙ sym gone ∙ ap p (sym here)
          ] refl
      | false ↦ λ apart.
          elim (p x) as (λ b. has_id (cond b (x ∷ filter p xs) (filter p xs)) i ≡ (has_id xs i && p i)) [
            | true ↦ ap (λ b. b || has_id (filter p xs) i) apart ∙ in_picked p xs i
            | false ↦ in_picked p xs i
          ]
    ] refl
  where
    off : (b : Bool) → (b && false) ≡ false
    off true = refl
    off false = refl

pub in_end : (xs : List ℕ) (n i : ℕ) → has_id (xs ++ n ∷ []) i ≡ (has_id xs i || (i == n))
in_end [] n i = last (i == n)
  where
    last : (b : Bool) → (b || false) ≡ b
    last true = refl
    last false = refl
in_end (x ∷ xs) n i = ap (λ b. (i == x) || b) (in_end xs n i) ∙ sym (joined (i == x) (has_id xs i) (i == n))
  where
    joined : (a b c : Bool) → ((a || b) || c) ≡ (a || (b || c))
    joined true b c = refl
    joined false b c = refl

-- ---- the identifiers of a table's rows

abbrev entry : Key × Contents → ℕ × Contents
entry e = (e.0.1, e.1)

abbrev ids_in : Table → List (Key × Contents) → List ℕ
ids_in t es = map (λ row. row.0) (map entry (filter (λ e. same_table e.0.0 t) es))

abbrev keys_in : List (Key × Contents) → List Key
keys_in es = map (λ e. e.0) es

as_keys : (t : Table) (es : List (Key × Contents)) → ids_in t es ≡ ids_at t (keys_in es)
as_keys t [] = refl
as_keys t (e ∷ es) =
    elim (same_table e.0.0 t) as (λ b. map (λ row. row.0) (map entry (cond b (e ∷ filter (λ f. same_table f.0.0 t) es) (filter (λ f. same_table f.0.0 t) es)))
    ≡ map (λ k. k.1) (cond b (e.0 ∷ filter (λ k. same_table k.0 t) (keys_in es)) (filter (λ k. same_table k.0 t) (keys_in es)))) [
      | true ↦ ap (λ ids. e.0.1 ∷ ids) (as_keys t es)
      | false ↦ as_keys t es
    ]

pub has_row : (t : Table) (r : Rows) (i : ℕ) → has_id (ids_of t r) i ≡ maps.has r.rows (t, i)
has_row t r i = ap (list_any (λ x. i == x)) (as_keys t r.rows.list) ∙ first_ids t (keys_in r.rows.list) i ∙ sym (is_some-find key_cmp (t, i) r.rows.list)

over_ids : (t : Table) (k : Key) (es : List (Key × Contents)) → same_table k.0 t ≡ true → T (below_all key_cmp k es) → Over k.1 (ids_in t es)
over_ids t k [] here h = tt
over_ids t k (e ∷ es) here h =
    let rest : Over k.1 (ids_in t es) = over_ids t k es here (t_second (is_lt (key_cmp k e.0)) (below_all key_cmp k es) h) in
    elim (same_table e.0.0 t) as (λ b. same_table e.0.0 t ≡ b → Over k.1 (map (λ row. row.0) (map entry (cond b (e ∷ filter (λ f. same_table f.0.0 t) es) (filter (λ f. same_table f.0.0 t) es))))) [
      | true ↦ λ there. (ranked k.1 e.0.1 Less (sym (in_table there (less (key_cmp k e.0) (t_first (is_lt (key_cmp k e.0)) (below_all key_cmp k es) h)))), rest)
      | false ↦ λ _. rest
    ] refl
  where
    in_table : same_table e.0.0 t ≡ true → key_cmp k e.0 ≡ Less → nat_cmp k.1 e.0.1 ≡ Less
    in_table there lt =
        let same : k.0 ≡ e.0.0 = same_table_exact k.0 t here ∙ sym (same_table_exact e.0.0 t there) in
        let tie : table_cmp k.0 e.0.0 ≡ Equal = ap (table_cmp k.0) (sym same) ∙ (Equal-is (table_cmp k.0 k.0)).0 (same_table_itself k.0) in
        sym (ap (λ r. ordering_then r (nat_cmp k.1 e.0.1)) tie) ∙ lt

ascending_in : (t : Table) (es : List (Key × Contents)) → T (is_sorted key_cmp es) → Ascending (ids_in t es)
ascending_in t [] h = tt
ascending_in t (e ∷ es) h =
    let rest : Ascending (ids_in t es) = ascending_in t es (t_second (below_all key_cmp e.0 es) (is_sorted key_cmp es) h) in
    elim (same_table e.0.0 t) as (λ b. same_table e.0.0 t ≡ b → Ascending (map (λ row. row.0) (map entry (cond b (e ∷ filter (λ f. same_table f.0.0 t) es) (filter (λ f. same_table f.0.0 t) es))))) [
      | true ↦ λ here. (over_ids t e.0 es here (t_first (below_all key_cmp e.0 es) (is_sorted key_cmp es) h), rest)
      | false ↦ λ _. rest
    ] refl

pub ids_ascend : (t : Table) (r : Rows) → Ascending (ids_of t r)
ids_ascend t r = ascending_in t r.rows.list r.rows.sorted
