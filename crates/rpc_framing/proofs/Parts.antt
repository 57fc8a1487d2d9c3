-- A message is made of parts of its value.
use Rattle.std.proofs.Common.{◌≡◌, ℕ, suc, ◌≤◌, ◌<◌, Bool, true, false, cond, Option, Some, None, Ordering, Less, Equal, Greater, codes, refl, subst, arith, option_map}
use Rattle.std.specs.Prelude.{◌&&◌, ◌||◌, is_some, option_and_then}
use Rattle.std.specs.Ordering.{nat_cmp, match_ordering}
use Rattle.std.specs.Cmp.Lexicographic.{slice_cmp}
use Rattle.serde_json.specs.Data.{unsigned, negative, float, Data, null, boolean, number, string, array, object, Items, no_items, item, Members, no_members, member, depth, members_depth}
use Rattle.serde_json.specs.Find.{get, get_member, as_str, as_null, as_array}
use Rattle.serde_json.specs.Written.{has_float, items_have_float, members_have_float}
use Rattle.vtep_base.specs.Reading.{Bytes}
use Rattle.rpc_framing.specs.Said.{Message, Request, Notification, Response, is_whole, items_whole, members_whole, called, array_of, call_of, response_of, by_method, message_of}
use Rattle.rpc_framing.specs.Written.{message_json}

both : (a b : Bool) → a && b ≡ true → (a ≡ true) × (b ≡ true)
both true b e = (refl, e)
both false b e = absurd (cc)

neither : (a b : Bool) → a ≡ false → b ≡ false → a || b ≡ false
neither a b e f = rw (e, f) refl

mutual
  no_float : (d : Data) → is_whole d ≡ true → has_float d ≡ false
  no_float null e = refl
  no_float (boolean b) e = refl
  no_float (number (unsigned n)) e = refl
  no_float (number (negative z)) e = refl
  no_float (number (float x)) e = absurd (cc)
  no_float (string s) e = refl
  no_float (array ds) e = items_no_float ds e
  no_float (object ms) e = members_no_float ms e

  items_no_float : (ds : Items) → items_whole ds ≡ true → items_have_float ds ≡ false
  items_no_float no_items e = refl
  items_no_float (item d ds) e = let h = both (is_whole d) (items_whole ds) e in neither (has_float d) (items_have_float ds) (no_float d h.0) (items_no_float ds h.1)

  members_no_float : (ms : Members) → members_whole ms ≡ true → members_have_float ms ≡ false
  members_no_float no_members e = refl
  members_no_float (member k d ms) e = let h = both (is_whole d) (members_whole ms) e in neither (has_float d) (members_have_float ms) (no_float d h.0) (members_no_float ms h.1)

-- what holds of a part, if there is one
abbrev pub Each : {A : Type 0} → (A → Type 0) → Option A → Type 0
Each P None = Unit {0}
Each P (Some a) = P a

-- a value within one that nests so deep
abbrev IsPart : ℕ → Data → Type 0
IsPart n d = (is_whole d ≡ true) × (depth d < n)

member_part : (n : ℕ) (k : Bytes) (ms : Members) → members_whole ms ≡ true → members_depth ms < n → Each (IsPart n) (get_member k ms)
member_part n k no_members e h = tt
member_part n k (member l d ms) e h = let w = both (is_whole d) (members_whole ms) e in by (slice_cmp nat_cmp k l) (w.0, omega (arith, h)) (member_part n k ms w.1 (omega (arith, h)))
  where
    by : (o : Ordering) → IsPart n d → Each (IsPart n) (get_member k ms) → Each (IsPart n) (match_ordering o (get_member k ms) (Some d) (get_member k ms))
    by Less p more = more
    by Equal p more = p
    by Greater p more = more

part : (k : Bytes) (d : Data) → is_whole d ≡ true → Each (IsPart (depth d)) (get k d)
part k null e = tt
part k (boolean b) e = tt
part k (number n) e = tt
part k (string s) e = tt
part k (array ds) e = tt
part k (object ms) e = member_part (suc (members_depth ms)) k ms e (omega arith)

pub each_map : {A B : Type 0} (P : A → Type 0) (Q : B → Type 0) (f : A → B) (o : Option A) → ((a : A) → P a → Q (f a)) → Each P o → Each Q (option_map f o)
each_map P Q f None h p = tt
each_map P Q f (Some a) h p = h a p

pub each_then : {A B : Type 0} (P : A → Type 0) (Q : B → Type 0) (f : A → Option B) (o : Option A) → ((a : A) → P a → Each Q (f a)) → Each P o → Each Q (option_and_then f o)
each_then P Q f None h p = tt
each_then P Q f (Some a) h p = h a p

pub any : {A : Type 0} (o : Option A) → Each (λ _. Unit {0}) o
any None = tt
any (Some a) = tt

-- the parts of a message, and what they must be
abbrev HasParts : ℕ → Message → Type 0
HasParts n (Request name params id) = (is_some (as_array params) ≡ true) × (is_some (as_null id) ≡ false) × IsPart n params × IsPart n id
HasParts n (Notification name params) = (is_some (as_array params) ≡ true) × IsPart n params
HasParts n (Response result error id) = IsPart n result × IsPart n error × IsPart n id

called_parts : (n : ℕ) (name : Bytes) (params id : Data) → (is_some (as_array params) ≡ true) × IsPart n params → IsPart n id → HasParts n (called name params id)
called_parts n name params id p i = by (is_some (as_null id)) refl
  where
    by : (t : Bool) → is_some (as_null id) ≡ t → HasParts n (cond t (Notification name params) (Request name params id))
    by true e = p
    by false e = (p.0, e, p.1, i)

array_part : (n : ℕ) (d : Data) → IsPart n d → Each (λ p. (is_some (as_array p) ≡ true) × IsPart n p) (array_of d)
array_part n d h = by (is_some (as_array d)) refl
  where
    by : (t : Bool) → is_some (as_array d) ≡ t → Each (λ p. (is_some (as_array p) ≡ true) × IsPart n p) (cond t (Some d) None)
    by true e = (e, h)
    by false e = tt

module _ (d : Data) (e : is_whole d ≡ true) where
  call_parts : (method : Data) → Each (HasParts (depth d)) (call_of d method)
  call_parts method =
      let n = depth d in
      let Arrays = λ (p : Data). (is_some (as_array p) ≡ true) × IsPart n p in
      each_then (λ _. Unit {0}) (HasParts n) _ (as_str method)
      (λ name _. each_then Arrays (HasParts n) _ (option_and_then array_of (get (codes "params") d))
      (λ params p. each_map (IsPart n) (HasParts n) (called name params) (get (codes "id") d) (λ id i. called_parts n name params id p i) (part (codes "id") d e))
      (each_then (IsPart n) Arrays array_of (get (codes "params") d) (array_part n) (part (codes "params") d e)))
      (any (as_str method))

  response_parts : Each (HasParts (depth d)) (response_of d)
  response_parts =
      let n = depth d in
      each_then (IsPart n) (HasParts n) _ (get (codes "result") d)
      (λ result r. each_then (IsPart n) (HasParts n) _ (get (codes "error") d)
      (λ error x. each_map (IsPart n) (HasParts n) (Response result error) (get (codes "id") d) (λ id i. (r, x, i)) (part (codes "id") d e)) (part (codes "error") d e))
      (part (codes "result") d e)

  method_parts : (o : Option Data) → Each (HasParts (depth d)) (by_method d o)
  method_parts None = response_parts
  method_parts (Some m) = call_parts m

message_parts : (d : Data) → Each (HasParts (depth d)) (message_of d)
message_parts d = by (is_whole d) refl
  where
    by : (t : Bool) → is_whole d ≡ t → Each (HasParts (depth d)) (cond t (by_method d (get (codes "method") d)) None)
    by true e = method_parts d e (get (codes "method") d)
    by false e = tt

-- what is written for a message of these parts
abbrev IsOwn : ℕ → Message → Type 0
IsOwn n m = (message_of (message_json m) ≡ Some m) × (depth (message_json m) ≤ n) × (has_float (message_json m) ≡ false)

own : (n : ℕ) (m : Message) → HasParts n m → IsOwn n m
own n (Request name params id) h =
    (rw (h.0, h.1, h.2.0, h.3.0) refl, omega (arith, h.2.1, h.3.1), rw (no_float params h.2.0, no_float id h.3.0) refl)
own n (Notification name params) h = (rw (h.0, h.1.0) refl, omega (arith, h.1.1), rw (no_float params h.1.0) refl)
own n (Response result error id) h =
    (rw (h.0.0, h.1.0, h.2.0) refl, omega (arith, h.0.1, h.1.1, h.2.1), rw (no_float result h.0.0, no_float error h.1.0, no_float id h.2.0) refl)

-- a message that a value is, is what is written for it, which nests no deeper and has no fraction
pub said_own : (d : Data) (m : Message) → message_of d ≡ Some m → IsOwn (depth d) m
said_own d m e = own (depth d) m (subst (Each (HasParts (depth d))) e (message_parts d))
