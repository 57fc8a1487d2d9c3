-- A text nests as deep as its value.
use Rattle.std.proofs.Common.{◌≡◌, ℕ, suc, ◌+◌, ◌-◌, ◌<◌, ◌≤◌, ltb, max, ◌⊎◌, inl, inr, Bool, true, false, cond, List, [], ◌∷◌, ◌++◌, length, refl, sym, ap, subst, ◌∙◌, arith, true≢false, append_assoc, append-nil, length-append, lt-ltb, le-ltb}
use Rattle.std.specs.Prelude.{◌==◌}
use Rattle.std.proofs.lemmas.Bool.{cases_lt, ne_eqb}
use Rattle.json.specs.Token.{Token, begin_object, end_object, begin_array, end_array, key, string, number, boolean, null, bad}
use Rattle.json.specs.Text.{content, plain}
use Rattle.json.specs.Json as json
use Rattle.json.specs.Tree.{json_tokens, items_tokens, members_tokens, depth, items_depth, members_depth}
use Rattle.json.specs.Word.{word}
use Rattle.json.specs.Lex.{Lexeme, token, comma, colon, Class, quote, backslash, operator, space, other, class, operator_lexeme, string_token, between, in_word, in_string, lex_byte, lex, tokens}
use Rattle.json.specs.Lex.{Place as Turn, fresh, after_value, after_comma, after_key, begins_colon, may_begin, may_close, if_allowed, place_token, punctuate}
use Rattle.vtep_base.specs.Reading.{Bytes}
use Rattle.rpc_framing.specs.declared.FramingKind.TheVariants.{NotObject, TooDeep, TooLong, BadJson, BadMessage}
use Rattle.rpc_framing.specs.declared.scan.Place.TheVariants.{Outside}
use Rattle.rpc_framing.specs.declared.scan.End.{End}
use Rattle.rpc_framing.specs.declared.scan.End.TheVariants.{At, Open, Refused}
use Rattle.rpc_framing.specs.Scan.{cursor, end_from, end_of}
use Rattle.rpc_framing.specs.Told.{IsWhole}
use Rattle.rpc_framing.proofs.Lexed.{Walk, Deep, Closed, Going, walk, entered, inside, AreGood, first_token, Agrees, agrees}

-- ---- the tokens of a value

-- w, unless this depth is past 64
abbrev within : ℕ → Walk → Walk
within n w = cond (ltb 64 n) Deep w

within_all : (n : ℕ) (w : Walk) → n ≤ 64 → within n w ≡ w
within_all n w h = rw (le-ltb 64 n h) refl

within_none : (n : ℕ) (w : Walk) → 64 < n → within n w ≡ Deep
within_none n w h = rw (lt-ltb 64 n h) refl

within_both : (a b n : ℕ) (w : Walk) → max a b ≡ n → within a (within b w) ≡ within n w
within_both a b n w e = by (cases_lt 64 a) (cases_lt 64 b)
  where
    by : (64 < a) ⊎ (a ≤ 64) → (64 < b) ⊎ (b ≤ 64) → within a (within b w) ≡ within n w
    by (inl h) g = within_none a (within b w) h ∙ sym (within_none n w (omega (arith, e, h)))
    by (inr h) (inl g) = within_all a (within b w) h ∙ within_none b w g ∙ sym (within_none n w (omega (arith, e, g)))
    by (inr h) (inr g) = within_all a (within b w) h ∙ within_all b w g ∙ sym (within_all n w (omega (arith, e, h, g)))

opens : (k d : ℕ) (us ts : List Token) → k ≤ 64 → (k < 64 → walk (k + 1) us ≡ within (k + 1 + d) (entered k ts)) → entered (k + 1) us ≡ within (k + suc d) (entered k ts)
opens k d us ts most more = by (cases_lt k 64)
  where
    by : (k < 64) ⊎ (64 ≤ k) → entered (k + 1) us ≡ within (k + suc d) (entered k ts)
    by (inl h) = let n : k + 1 + d ≡ k + suc d = omega arith in inside (k + 1) us (omega arith) (omega (arith, h)) ∙ more h ∙ ap (λ x. within x (entered k ts)) n
    by (inr h) = let n : k + 1 ≡ 65 = omega (arith, most, h) in ap (λ x. entered x us) n ∙ sym (within_none (k + suc d) (entered k ts) (omega (arith, h)))

goes_on : (k d e : ℕ) (us ts : List Token) → k < 64 → walk (k + 1) us ≡ within (k + 1 + e) (entered k ts) → within (k + 1 + d) (entered (k + 1) us) ≡ within (k + 1 + max d e) (entered k ts)
goes_on k d e us ts h more =
    ap (within (k + 1 + d)) (inside (k + 1) us (omega arith) (omega (arith, h)) ∙ more) ∙ within_both (k + 1 + d) (k + 1 + e) (k + 1 + max d e) (entered k ts) (omega arith)

closes : (k : ℕ) (ts : List Token) → k < 64 → entered (k + 1 - 1) ts ≡ within (k + 1 + 0) (entered k ts)
closes k ts h = let n : k + 1 - 1 ≡ k = omega arith in ap (λ x. entered x ts) n ∙ sym (within_all (k + 1 + 0) (entered k ts) (omega (arith, h)))

flat : (k : ℕ) (ts : List Token) → k ≤ 64 → entered k ts ≡ within (k + 0) (entered k ts)
flat k ts h = sym (within_all (k + 0) (entered k ts) (omega (arith, h)))

mutual
  walk_value : (j : json.Json) (k : ℕ) (ts : List Token) → k ≤ 64 → walk k (json_tokens j ++ ts) ≡ within (k + depth j) (entered k ts)
  walk_value json.null k ts h = flat k ts h
  walk_value (json.boolean b) k ts h = flat k ts h
  walk_value (json.number s) k ts h = flat k ts h
  walk_value (json.string s) k ts h = flat k ts h
  walk_value (json.array js) k ts h = opens k (items_depth js) (items_tokens js ++ ts) ts h (walk_items js k ts)
  walk_value (json.object ms) k ts h = opens k (members_depth ms) (members_tokens ms ++ ts) ts h (walk_members ms k ts)

  walk_items : (js : json.Items) (k : ℕ) (ts : List Token) → k < 64 → walk (k + 1) (items_tokens js ++ ts) ≡ within (k + 1 + items_depth js) (entered k ts)
  walk_items json.no_items k ts h = closes k ts h
  walk_items (json.item j js) k ts h =
      ap (walk (k + 1)) (append_assoc (json_tokens j) (items_tokens js) ts) ∙ walk_value j (k + 1) (items_tokens js ++ ts) (omega (arith, h))
      ∙ goes_on k (depth j) (items_depth js) (items_tokens js ++ ts) ts h (walk_items js k ts h)

  walk_members : (ms : json.Members) (k : ℕ) (ts : List Token) → k < 64 → walk (k + 1) (members_tokens ms ++ ts) ≡ within (k + 1 + members_depth ms) (entered k ts)
  walk_members json.no_members k ts h = closes k ts h
  walk_members (json.member name j ms) k ts h =
      inside (k + 1) ((json_tokens j ++ members_tokens ms) ++ ts) (omega arith) (omega (arith, h))
      ∙ ap (walk (k + 1)) (append_assoc (json_tokens j) (members_tokens ms) ts) ∙ walk_value j (k + 1) (members_tokens ms ++ ts) (omega (arith, h))
      ∙ goes_on k (depth j) (members_depth ms) (members_tokens ms ++ ts) ts h (walk_members ms k ts h)

walk_whole : (j : json.Json) → walk 0 (json_tokens j) ≡ within (depth j) (Closed [])
walk_whole j = let n : 0 + depth j ≡ depth j = omega arith in ap (walk 0) (sym (append-nil (json_tokens j))) ∙ walk_value j 0 [] (omega arith) ∙ ap (λ x. within x (Closed [])) n

mutual
  good_value : (j : json.Json) (ts : List Token) → AreGood ts → AreGood (json_tokens j ++ ts)
  good_value json.null ts h = (refl, h)
  good_value (json.boolean b) ts h = (refl, h)
  good_value (json.number s) ts h = (refl, h)
  good_value (json.string s) ts h = (refl, h)
  good_value (json.array js) ts h = (refl, good_items js ts h)
  good_value (json.object ms) ts h = (refl, good_members ms ts h)

  good_items : (js : json.Items) (ts : List Token) → AreGood ts → AreGood (items_tokens js ++ ts)
  good_items json.no_items ts h = (refl, h)
  good_items (json.item j js) ts h = subst AreGood (sym (append_assoc (json_tokens j) (items_tokens js) ts)) (good_value j (items_tokens js ++ ts) (good_items js ts h))

  good_members : (ms : json.Members) (ts : List Token) → AreGood ts → AreGood (members_tokens ms ++ ts)
  good_members json.no_members ts h = (refl, h)
  good_members (json.member name j ms) ts h = (refl, subst AreGood (sym (append_assoc (json_tokens j) (members_tokens ms) ts)) (good_value j (members_tokens ms ++ ts) (good_members ms ts h)))

good_tokens : (j : json.Json) → AreGood (json_tokens j)
good_tokens j = subst AreGood (append-nil (json_tokens j)) (good_value j [] tt)

-- ---- a whole text has a value that nests to 64 at most

first_brace : (limit : ℕ) (tail : Bytes) → 0 < limit → end_of limit (123 ∷ tail) ≡ end_from limit (cursor 1 Outside) 1 tail
first_brace limit tail h = rw (ne_eqb 0 limit (λ e. omega (arith, e, h))) refl

-- the tokens behind the brace
abbrev behind : Bytes → List Token
behind tail = punctuate fresh (lex between tail)

brace_token : (tail : Bytes) → tokens (123 ∷ tail) ≡ begin_object ∷ behind tail
unfolding lex punctuate
brace_token tail = refl

brace_walk : (tail : Bytes) → walk 0 (tokens (123 ∷ tail)) ≡ walk 1 (behind tail)
brace_walk tail = ap (walk 0) (brace_token tail) ∙ inside 1 (behind tail) (omega arith) (omega arith)

scanned : (tail : Bytes) (j : json.Json) → tokens (123 ∷ tail) ≡ json_tokens j → Agrees 1 tail (end_of (length (123 ∷ tail)) (123 ∷ tail)) (walk 0 (json_tokens j))
scanned tail j e =
    let good = subst AreGood (sym e ∙ brace_token tail) (good_tokens j) in
    subst (λ w. Agrees 1 tail (end_of (length (123 ∷ tail)) (123 ∷ tail)) w) (sym (brace_walk tail) ∙ ap (walk 0) e)
    (subst (λ n. Agrees 1 tail n (walk 1 (behind tail))) (sym (first_brace (length (123 ∷ tail)) tail (omega arith)))
    (agrees (length (123 ∷ tail)) 1 1 between fresh tail (omega arith) (omega arith) (omega arith) tt good.1))

none_of_length : (xs : Bytes) → length xs ≡ 0 → xs ≡ []
none_of_length [] e = refl
none_of_length (x ∷ xs) e = absurd (omega (arith, e))

no_tokens : (q : Turn) (ts : List Token) → ts ≡ punctuate q [] → AreGood ts → ts ≡ []
unfolding punctuate
no_tokens fresh ts e h = e
no_tokens after_value ts e h = e
no_tokens after_comma ts e h = absurd (true≢false (sym (subst AreGood e h).0))
no_tokens after_key ts e h = absurd (true≢false (sym (subst AreGood e h).0))

closed_all : (tail : Bytes) (n : ℕ) (w : Walk) → n ≡ suc (length tail) → Agrees 1 tail (At n) w → w ≡ Closed []
unfolding lex
closed_all tail n (Closed ts) e h =
    let size = length-append h.0 h.1 in
    let rest : h.1 ≡ [] = none_of_length h.1 (omega (arith, e, h.4, size, ap length h.3)) in
    ap Closed (no_tokens h.2 ts (h.5 ∙ ap (λ l. punctuate h.2 (lex between l)) rest) h.6)
closed_all tail n Deep e h = absurd h
closed_all tail n Going e h = absurd h

shallow_of : (n : ℕ) → within n (Closed []) ≡ Closed [] → n ≤ 64
shallow_of n e = by (cases_lt 64 n)
  where
    differ : Deep ≡ Closed [] → ⊥
    differ e = cc

    by : (64 < n) ⊎ (n ≤ 64) → n ≤ 64
    by (inl h) = absurd (differ (sym (within_none n (Closed []) h) ∙ e))
    by (inr h) = h

pub whole_is_shallow : (text : Bytes) (j : json.Json) → IsWhole text → tokens text ≡ json_tokens j → depth j ≤ 64
whole_is_shallow text j whole e = by whole.begins.0 (subst (λ t. end_of (length t) t ≡ At (length t)) whole.begins.1 whole.ends) (ap tokens (sym whole.begins.1) ∙ e)
  where
    by : (tail : Bytes) → end_of (length (123 ∷ tail)) (123 ∷ tail) ≡ At (length (123 ∷ tail)) → tokens (123 ∷ tail) ≡ json_tokens j → depth j ≤ 64
    by tail ends e =
        shallow_of (depth j) (sym (walk_whole j) ∙ closed_all tail (length (123 ∷ tail)) (walk 0 (json_tokens j)) refl (subst (λ n. Agrees 1 tail n (walk 0 (json_tokens j))) ends (scanned tail j e)))

-- ---- a text whose value nests to 64 at most is whole, if it ends in a bracket

abbrev pub last : ℕ → Bytes → ℕ
last d [] = d
last d (b ∷ bs) = last b bs

pub last_append : (d : ℕ) (a b : Bytes) → last d (a ++ b) ≡ last (last d a) b
last_append d [] b = refl
last_append d (x ∷ a) b = last_append x a b

abbrev HasSome : List Token → Type 0
HasSome [] = ⊥
HasSome (t ∷ ts) = Unit {0}

allowed_some : (b : Bool) (t : Token) (k : Turn → List Token) (next : Turn) → HasSome (if_allowed b t k next)
allowed_some true t k next = tt
allowed_some false t k next = tt

placed_some : (q : Turn) (t : Token) (before : Bool) (k : Turn → List Token) → HasSome (place_token q t before k)
placed_some q begin_object before k = allowed_some (may_begin q) begin_object k fresh
placed_some q end_object before k = allowed_some (may_close q) end_object k after_value
placed_some q begin_array before k = allowed_some (may_begin q) begin_array k fresh
placed_some q end_array before k = allowed_some (may_close q) end_array k after_value
placed_some q (key s) before k = tt
placed_some q (string s) true k = allowed_some (may_begin q) (key s) k after_key
placed_some q (string s) false k = allowed_some (may_begin q) (string s) k after_value
placed_some q (number s) before k = allowed_some (may_begin q) (number s) k after_value
placed_some q (boolean b) before k = allowed_some (may_begin q) (boolean b) k after_value
placed_some q null before k = allowed_some (may_begin q) null k after_value
placed_some q bad before k = tt

abbrev IsMark : Lexeme → Type 0
IsMark (token t) = ⊥
IsMark comma = Unit {0}
IsMark colon = Unit {0}

-- a comma or a colon gives no token
abbrev Unwritten : Lexeme → List Lexeme → Type 0
Unwritten l ls = IsMark l × (q : Turn) × ([] ≡ punctuate q ls)

none : {P : Type 0} (ts : List Token) → HasSome ts → [] ≡ ts → P
none ts h e = absurd (subst HasSome (sym e) h)

unwritten : (q : Turn) (l : Lexeme) (ls : List Lexeme) → [] ≡ punctuate q (l ∷ ls) → Unwritten l ls
unfolding punctuate
unwritten q (token t) ls e = none (place_token q t (begins_colon ls) (λ n. punctuate n ls)) (placed_some q t (begins_colon ls) (λ n. punctuate n ls)) (e ∙ first_token ls q t)
unwritten fresh comma ls e = none (bad ∷ []) tt e
unwritten after_value comma ls e = (tt, after_comma, e)
unwritten after_comma comma ls e = none (bad ∷ []) tt e
unwritten after_key comma ls e = none (bad ∷ []) tt e
unwritten fresh colon ls e = none (bad ∷ []) tt e
unwritten after_value colon ls e = none (bad ∷ []) tt e
unwritten after_comma colon ls e = none (bad ∷ []) tt e
unwritten after_key colon ls e = (tt, fresh, e)

space_is_none : (x : ℕ) → class x ≡ space → (x == 125) ≡ false
space_is_none x e = ne_eqb x 125 (λ h. differ (sym (ap class h) ∙ e))
  where
    differ : operator ≡ space → ⊥
    differ e = cc

mark_is_none : (x : ℕ) → IsMark (operator_lexeme x) → (x == 125) ≡ false
mark_is_none x h = ne_eqb x 125 (λ e. subst (λ y. IsMark (operator_lexeme y)) e h)

-- bytes without a token end in no bracket
ended : (q : Turn) (rest : Bytes) (d : ℕ) → [] ≡ punctuate q (lex between rest) → (d == 125) ≡ false → (last d rest == 125) ≡ false
unfolding lex
ended q [] d e h = h
ended q (x ∷ xs) d e h = by (class x) refl e (λ p g. ended p xs x g)
  where
    by : (c : Class) → class x ≡ c → [] ≡ punctuate q (lex_byte between c x xs (λ n. lex n xs)) → ((p : Turn) → [] ≡ punctuate p (lex between xs) → (x == 125) ≡ false → (last x xs == 125) ≡ false)
        → (last x xs == 125) ≡ false
    by quote is e more = absurd (unwritten q (token (string_token (content plain xs))) (lex in_string xs) e).0
    by backslash is e more = absurd (unwritten q (token bad) (lex in_word xs) e).0
    by operator is e more = let u = unwritten q (operator_lexeme x) (lex between xs) e in more u.1 u.2 (mark_is_none x u.0)
    by space is e more = more q e (space_is_none x is)
    by other is e more = absurd (unwritten q (token (word (x ∷ xs))) (lex in_word xs) e).0

ends_there : (tail : Bytes) (e : End) → Agrees 1 tail e (Closed []) → last 123 tail ≡ 125 → e ≡ At (suc (length tail))
ends_there tail (At n) h bracket = by h.1 h.3 h.5
  where
    by : (rest : Bytes) → tail ≡ h.0 ++ rest → [] ≡ punctuate h.2 (lex between rest) → At n ≡ At (suc (length tail))
    by [] e g = let size : length tail ≡ length h.0 = ap length (e ∙ append-nil h.0) in ap At (omega (arith, h.4, size))
    by (r ∷ rest) e g =
        let same : last 0 (r ∷ rest) ≡ 125 = sym (ap (last 123) e ∙ last_append 123 h.0 (r ∷ rest)) ∙ bracket in
        absurd (true≢false (sym (ap (λ x. x == 125) same) ∙ ended h.2 (r ∷ rest) 0 g refl))
ends_there tail (Open c) h bracket = absurd h
ends_there tail (Refused j TooDeep) h bracket = absurd h
ends_there tail (Refused j TooLong) h bracket = absurd h
ends_there tail (Refused j NotObject) h bracket = absurd h
ends_there tail (Refused j BadJson) h bracket = absurd h
ends_there tail (Refused j BadMessage) h bracket = absurd h

pub shallow_is_whole : (tail : Bytes) (j : json.Json) → tokens (123 ∷ tail) ≡ json_tokens j → depth j ≤ 64 → last 123 tail ≡ 125 → IsWhole (123 ∷ tail)
shallow_is_whole tail j e shallow bracket = record {
  begins = (tail, refl);
  ends = ends_there tail (end_of (length (123 ∷ tail)) (123 ∷ tail)) (subst (Agrees 1 tail (end_of (length (123 ∷ tail)) (123 ∷ tail))) (walk_whole j ∙ within_all (depth j) (Closed []) shallow) (scanned tail j e)) bracket;
}
