-- Operations that are added one after the other, and the numbers of the rows that they make.
use Rattle.std.proofs.Common.{◌≡◌, ℕ, ◌+◌, suc, ◌<◌, List, [], ◌∷◌, ◌++◌, map, length, get_or, drop, refl, sym, ap, ◌∙◌, append_assoc, length-append, arith}
use Rattle.std.proofs.lemmas.List.{length-map, map-append}
use Rattle.std.specs.Ordering.{nat_cmp}
use Rattle.std.specs.declared.cmp.Ordering.{Ordering}
use Rattle.serde_json.specs.Data.{Data}
use Rattle.vtep_base.specs.Reading.{Bytes}
use Rattle.vtep_base.specs.Maps as maps
use Rattle.vtep_base.specs.Maps.{Map}
use Rattle.vtep_rows.specs.Row.{put_all}
use Rattle.fabric_world.specs.Intentions.{Intention, bytes_cmp}
use Rattle.fabric_world.specs.Installer.{Port, Flood, numbered, rows_from, locator_json, switch_json, update_json, ports_json, set_json, remote_json, floods_json, acls_json, acl_rows, operations_for}
use Rattle.vtep_fabric.proofs.Ascending.{dropped}

length_numbered : {A B : Type 0} (f : ℕ → A → B) (k : ℕ) (xs : List A) → length (numbered f k xs) ≡ length xs
length_numbered f k [] = refl
length_numbered f k (x ∷ xs) = ap suc (length_numbered f (suc k) xs)

-- a key more with its number
pub one_row : {K : Type 0} {R : K → K → Ordering} (rows after all : Map R ℕ) (keys : List K) (i : ℕ) (key : K) (n m : ℕ) → i < length keys → key ≡ get_or keys i key → after ≡ maps.insert rows key n → m ≡ suc n
    → put_all rows (numbered (λ n key. (key, n)) n (drop i keys)) ≡ all → put_all after (numbered (λ n key. (key, n)) m (drop (i + 1) keys)) ≡ all
one_row rows after all keys i key n m h is e next inv =
    (λ j. put_all (e j) (numbered (λ n key. (key, n)) (next j) (drop (i + 1) keys)))
    ∙ ap (λ ks. put_all rows (numbered (λ n key. (key, n)) n ks)) (sym (dropped keys i key h is)) ∙ inv

-- the update of a port more, where there is one
pub port_added : (switches acls : Map bytes_cmp ℕ) (old new all : List Data) (ports : List Port) (i : ℕ) (p : Port) → i < length ports → p ≡ get_or ports i p → new ≡ old ++ update_json switches acls p
    → old ++ ports_json switches acls (drop i ports) ≡ all → new ++ ports_json switches acls (drop (i + 1) ports) ≡ all
port_added switches acls old new all ports i p h is e inv =
    ap (λ ds. ds ++ ports_json switches acls (drop (i + 1) ports)) e ∙ append_assoc old (update_json switches acls p) (ports_json switches acls (drop (i + 1) ports))
    ∙ ap (λ ps. old ++ ports_json switches acls ps) (sym (dropped ports i p h is)) ∙ inv

module _ {V : Type 0} (view : V → Data) where
  seen_more : (old new : List V) (v : V) → new ≡ old ++ v ∷ [] → map view new ≡ map view old ++ view v ∷ []
  seen_more old new v e = ap (map view) e ∙ map-append view old (v ∷ [])

  pub one_longer : (old new : List V) (v : V) → new ≡ old ++ v ∷ [] → length new ≡ suc (length old)
  one_longer old new v e = omega (arith, ap length e, length-append old (v ∷ []))

  -- an operation more with its number
  pub one_added : {A : Type 0} (f : ℕ → A → Data) (old new : List V) (v : V) (all : List Data) (xs : List A) (i : ℕ) (x : A) → i < length xs → x ≡ get_or xs i x → new ≡ old ++ v ∷ [] → view v ≡ f (length old) x
      → map view old ++ numbered f (length old) (drop i xs) ≡ all → map view new ++ numbered f (length new) (drop (i + 1) xs) ≡ all
  one_added f old new v all xs i x h is e says inv =
      (λ j. seen_more old new v e j ++ numbered f (one_longer old new v e j) (drop (i + 1) xs))
      ∙ append_assoc (map view old) (view v ∷ []) (numbered f (suc (length old)) (drop (i + 1) xs))
      ∙ ap (λ d. map view old ++ d ∷ numbered f (suc (length old)) (drop (i + 1) xs)) says
      ∙ ap (λ ys. map view old ++ numbered f (length old) ys) (sym (dropped xs i x h is)) ∙ inv

  module _ (locators : Map nat_cmp ℕ) (switches : Map bytes_cmp ℕ) where
    -- a set more, and the row that sends there
    pub two_added : (old mid new : List V) (a b : V) (all : List Data) (fs : List Flood) (i : ℕ) (f : Flood) (k : ℕ) → i < length fs → f ≡ get_or fs i f → mid ≡ old ++ a ∷ [] → new ≡ mid ++ b ∷ []
        → view a ≡ set_json locators k f.1 → view b ≡ remote_json switches k f.0
        → map view old ++ floods_json locators switches k (drop i fs) ≡ all → map view new ++ floods_json locators switches (k + 2) (drop (i + 1) fs) ≡ all
    two_added old mid new a b all fs i f k h is e d says tells inv =
        let rest : List Data = floods_json locators switches (k + 2) (drop (i + 1) fs) in
        ap (λ ds. ds ++ rest) (seen_more mid new b d ∙ ap (λ ds. ds ++ view b ∷ []) (seen_more old mid a e))
        ∙ append_assoc (map view old ++ view a ∷ []) (view b ∷ []) rest ∙ append_assoc (map view old) (view a ∷ []) (view b ∷ rest)
        ∙ (λ j. map view old ++ says j ∷ tells j ∷ rest)
        ∙ ap (λ ys. map view old ++ floods_json locators switches k ys) (sym (dropped fs i f h is)) ∙ inv

  -- all of them
  pub together : (i : Intention) (ports : List Port) (switches acls : List Bytes) (floods : List Flood) (addresses : List ℕ) (none one two three four five : List V)
      (locators : Map nat_cmp ℕ) (rows lists : Map bytes_cmp ℕ) (first : ℕ)
      → none ≡ [] → locators ≡ rows_from (length none) addresses → map view one ≡ map view none ++ numbered locator_json (length none) addresses
      → rows ≡ rows_from (length one) switches → map view two ≡ map view one ++ numbered (switch_json i) (length one) switches
      → lists ≡ put_all maps.empty (acl_rows i (length two) acls) → map view three ≡ map view two ++ acls_json i (length two) acls
      → first ≡ length three → map view four ≡ map view three ++ ports_json rows lists ports → map view five ≡ map view four ++ floods_json locators rows first floods
      → map view five ≡ operations_for i ports switches acls floods addresses
  together i ports switches acls floods addresses none one two three four five locators rows lists first empty l a r s t u f p q =
      let sum : List Data = numbered locator_json 0 addresses in
      let ones : map view one ≡ sum = a ∙ (λ j. map view (empty j) ++ numbered locator_json (length (empty j)) addresses) in
      let one_long : length one ≡ length addresses = sym (length-map one view) ∙ ap length ones ∙ length_numbered locator_json 0 addresses in
      let more : List Data = sum ++ numbered (switch_json i) (length addresses) switches in
      let twos : map view two ≡ more = s ∙ (λ j. ones j ++ numbered (switch_json i) (one_long j) switches) in
      let two_long : length two ≡ length addresses + length switches = sym (length-map two view) ∙ ap length twos ∙ length-append sum (numbered (switch_json i) (length addresses) switches)
      ∙ (λ j. length_numbered locator_json 0 addresses j + length_numbered (switch_json i) (length addresses) switches j) in
      let list_ops : List Data = acls_json i (length addresses + length switches) acls in
      let threes : map view three ≡ more ++ list_ops = u ∙ (λ j. twos j ++ acls_json i (two_long j) acls) in
      let three_long : length three ≡ length addresses + length switches + length list_ops =
      sym (length-map three view) ∙ ap length threes ∙ length-append more list_ops ∙ ap (λ n. n + length list_ops) (sym (ap length twos) ∙ length-map two view ∙ two_long) in
      let numbers : rows ≡ rows_from (length addresses) switches = r ∙ ap (λ n. rows_from n switches) one_long in
      let list_rows : lists ≡ put_all maps.empty (acl_rows i (length addresses + length switches) acls) = t ∙ ap (λ n. put_all maps.empty (acl_rows i n acls)) two_long in
      let places : locators ≡ rows_from 0 addresses = l ∙ ap (λ vs. rows_from (length vs) addresses) empty in
      let fours : map view four ≡ more ++ list_ops ++ ports_json (rows_from (length addresses) switches) (put_all maps.empty (acl_rows i (length addresses + length switches) acls)) ports =
      p ∙ (λ j. threes j ++ ports_json (numbers j) (list_rows j) ports) in
      q ∙ (λ j. fours j ++ floods_json (places j) (numbers j) ((f ∙ three_long) j) floods)
