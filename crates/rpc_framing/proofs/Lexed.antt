-- How deep the brackets of a text nest is how deep those of its tokens do.
use Rattle.std.proofs.Common.{◌≡◌, ℕ, ◌+◌, ◌-◌, ◌<◌, ◌≤◌, ◌⊎◌, inl, inr, Bool, true, false, cond, ◌||◌, List, [], ◌∷◌, ◌++◌, length, Option, Some, None, refl, sym, ap, subst, ◌∙◌, arith, true≢false}
use Rattle.std.specs.Prelude.{◌==◌}
use Rattle.std.proofs.lemmas.Bool.{cases_eq, ne_eqb}
use Rattle.json.specs.Token.{Token, begin_object, end_object, begin_array, end_array, key, string, number, boolean, null, bad}
use Rattle.json.specs.Text.{content, plain}
use Rattle.json.specs.Word.{is_operator, is_space, number_before, head, after_number, ends_word, word}
use Rattle.json.specs.Align.{is_good}
use Rattle.json.specs.Lex.{Lexeme, token, comma, colon, Class, quote, backslash, operator, space, other, class, operator_lexeme, string_token, Mode, between, in_word, in_string, in_escape, lex_byte, lex}
use Rattle.json.specs.Lex.{Place as Turn, fresh, after_value, after_comma, after_key, begins_colon, may_begin, may_close, if_allowed, place_token, punctuate}
use Rattle.vtep_base.specs.Reading.{Bytes}
use Rattle.rpc_framing.specs.declared.FramingKind.TheVariants.{TooDeep}
use Rattle.rpc_framing.specs.declared.scan.Place.{Place}
use Rattle.rpc_framing.specs.declared.scan.Place.TheVariants.{Outside, Quoted, Escaped}
use Rattle.rpc_framing.specs.declared.scan.Cursor.{Cursor}
use Rattle.rpc_framing.specs.declared.scan.End.{End}
use Rattle.rpc_framing.specs.declared.scan.End.TheVariants.{At, Open, Refused}
use Rattle.rpc_framing.specs.Scan.{cursor, after_outside, after_quoted, after_byte, end_from}
use Rattle.rpc_framing.proofs.Scanned.{step}
use Rattle.rpc_framing.proofs.Words.{is_quiet, quiet_word}

-- ---- tokens

-- the depth behind a token
abbrev pub level : Token → ℕ → ℕ
level begin_object k = k + 1
level end_object k = k - 1
level begin_array k = k + 1
level end_array k = k - 1
level (key s) k = k
level (string s) k = k
level (number s) k = k
level (boolean b) k = k
level null k = k
level bad k = k

-- what tokens come to: a bracket makes the depth 65, or it comes to 0 and these are left, or neither
pub data Walk : Type 0 where
  Deep : Walk
  Closed : List Token → Walk
  Going : Walk

abbrev pub turn : ℕ → List Token → Walk → Walk
turn k ts w = cond (k == 65) Deep (cond (k == 0) (Closed ts) w)

abbrev pub walk : ℕ → List Token → Walk
walk k [] = Going
walk k (t ∷ ts) = turn (level t k) ts (walk (level t k) ts)

-- at a depth that was just come to
abbrev pub entered : ℕ → List Token → Walk
entered k ts = turn k ts (walk k ts)

pub inside : (k : ℕ) (ts : List Token) → 0 < k → k ≤ 64 → entered k ts ≡ walk k ts
inside k ts some most = rw (ne_eqb k 65 (λ e. omega arith), ne_eqb k 0 (λ e. omega arith)) refl

abbrev pub AreGood : List Token → Type 0
AreGood [] = Unit {0}
AreGood (t ∷ ts) = (is_good t ≡ true) × AreGood ts

-- ---- lexemes in their places

abbrev lexeme_level : Lexeme → ℕ → ℕ
lexeme_level (token t) k = level t k
lexeme_level comma k = k
lexeme_level colon k = k

abbrev IsFine : Lexeme → Type 0
IsFine (token t) = is_good t ≡ true
IsFine comma = Unit {0}
IsFine colon = Unit {0}

-- what a lexeme before others is written as
record Placed (l : Lexeme) (ls : List Lexeme) (out : List Token) : Type 0 where
  next : Turn
  walks : (k : ℕ) → 0 < k → k ≤ 64 → walk k out ≡ entered (lexeme_level l k) (punctuate next ls)
  good : AreGood (punctuate next ls)
  fine : IsFine l

never : {P : Type 0} → false ≡ true → P
never e = absurd (true≢false (sym e))

module _ (ls : List Lexeme) where
  allowed : (b : Bool) (t u : Token) (next : Turn) → ((k : ℕ) → level u k ≡ level t k) → is_good t ≡ true → AreGood (if_allowed b u (λ n. punctuate n ls) next)
      → Placed (token t) ls (if_allowed b u (λ n. punctuate n ls) next)
  allowed true t u next same fine h = record { next = next; walks = λ k some most. ap (λ n. entered n (punctuate next ls)) (same k); good = h.1; fine = fine }
  allowed false t u next same fine h = never h.0

  placed : (q : Turn) (t : Token) (before : Bool) → AreGood (place_token q t before (λ n. punctuate n ls)) → Placed (token t) ls (place_token q t before (λ n. punctuate n ls))
  placed q begin_object before h = allowed (may_begin q) begin_object begin_object fresh (λ k. refl) refl h
  placed q end_object before h = allowed (may_close q) end_object end_object after_value (λ k. refl) refl h
  placed q begin_array before h = allowed (may_begin q) begin_array begin_array fresh (λ k. refl) refl h
  placed q end_array before h = allowed (may_close q) end_array end_array after_value (λ k. refl) refl h
  placed q (key s) before h = never h.0
  placed q (string s) true h = allowed (may_begin q) (string s) (key s) after_key (λ k. refl) refl h
  placed q (string s) false h = allowed (may_begin q) (string s) (string s) after_value (λ k. refl) refl h
  placed q (number s) before h = allowed (may_begin q) (number s) (number s) after_value (λ k. refl) refl h
  placed q (boolean b) before h = allowed (may_begin q) (boolean b) (boolean b) after_value (λ k. refl) refl h
  placed q null before h = allowed (may_begin q) null null after_value (λ k. refl) refl h
  placed q bad before h = never h.0

  pub first_token : (q : Turn) (t : Token) → punctuate q (token t ∷ ls) ≡ place_token q t (begins_colon ls) (λ n. punctuate n ls)
  unfolding punctuate
  first_token fresh t = refl
  first_token after_value t = refl
  first_token after_comma t = refl
  first_token after_key t = refl

  passed : (l : Lexeme) (next : Turn) → ((k : ℕ) → lexeme_level l k ≡ k) → IsFine l → AreGood (punctuate next ls) → Placed l ls (punctuate next ls)
  passed l next same fine h = record { next = next; walks = λ k some most. sym (inside k (punctuate next ls) some most) ∙ ap (λ n. entered n (punctuate next ls)) (sym (same k)); good = h; fine = fine }

  after : (q : Turn) (l : Lexeme) → AreGood (punctuate q (l ∷ ls)) → Placed l ls (punctuate q (l ∷ ls))
  unfolding punctuate
  after q (token t) h = subst (Placed (token t) ls) (sym (first_token q t)) (placed q t (begins_colon ls) (subst AreGood (first_token q t) h))
  after fresh comma h = never h.0
  after after_value comma h = passed comma after_comma (λ k. refl) tt h
  after after_comma comma h = never h.0
  after after_key comma h = never h.0
  after fresh colon h = never h.0
  after after_value colon h = never h.0
  after after_comma colon h = never h.0
  after after_key colon h = passed colon fresh (λ k. refl) tt h

-- ---- bytes

abbrev pub place_of : Mode → Place
place_of between = Outside
place_of in_word = Outside
place_of in_string = Quoted
place_of in_escape = Escaped

abbrev outside_of : Class → ℕ → ℕ → Cursor
outside_of quote x k = cursor k Quoted
outside_of backslash x k = cursor k Outside
outside_of operator x k = cursor (lexeme_level (operator_lexeme x) k) Outside
outside_of space x k = cursor k Outside
outside_of other x k = cursor k Outside

abbrev quoted_of : Class → ℕ → Cursor
quoted_of quote k = cursor k Outside
quoted_of backslash k = cursor k Escaped
quoted_of operator k = cursor k Quoted
quoted_of space k = cursor k Quoted
quoted_of other k = cursor k Quoted

abbrev by_class : Mode → Class → ℕ → ℕ → Cursor
by_class between c x k = outside_of c x k
by_class in_word c x k = outside_of c x k
by_class in_string c x k = quoted_of c k
by_class in_escape c x k = cursor k Quoted

quoted_class : (x k : ℕ) → after_quoted k x ≡ quoted_of (class x) k
quoted_class x k = by (x == 34) (x == 92) (is_operator x) (is_space x)
  where
    by : (q b o s : Bool) → cond q (cursor k Outside) (cond b (cursor k Escaped) (cursor k Quoted)) ≡ quoted_of (cond q quote (cond b backslash (cond o operator (cond s space other)))) k
    by true b o s = refl
    by false true o s = refl
    by false false true s = refl
    by false false false true = refl
    by false false false false = refl

plain_class : (x k : ℕ) (o s : Bool) → lexeme_level (operator_lexeme x) k ≡ k → cursor k Outside ≡ outside_of (cond o operator (cond s space other)) x k
plain_class x k true s e = ap (λ n. cursor n Outside) (sym e)
plain_class x k false true e = refl
plain_class x k false false e = refl

no_bracket : (k : ℕ) (c : Bool) → lexeme_level (cond c comma colon) k ≡ k
no_bracket k true = refl
no_bracket k false = refl

outside_class : (x k : ℕ) → after_outside k x ≡ outside_of (class x) x k
outside_class x k = by (cases_eq x 34) (cases_eq x 92) (cases_eq x 123) (cases_eq x 91) (cases_eq x 125) (cases_eq x 93)
  where
    by : (x ≡ 34) ⊎ (x ≡ 34 → ⊥) → (x ≡ 92) ⊎ (x ≡ 92 → ⊥) → (x ≡ 123) ⊎ (x ≡ 123 → ⊥) → (x ≡ 91) ⊎ (x ≡ 91 → ⊥) → (x ≡ 125) ⊎ (x ≡ 125 → ⊥) → (x ≡ 93) ⊎ (x ≡ 93 → ⊥)
        → after_outside k x ≡ outside_of (class x) x k
    by (inl e) b c d f g = rw e refl
    by (inr a) (inl e) c d f g = rw e refl
    by (inr a) (inr b) (inl e) d f g = rw e refl
    by (inr a) (inr b) (inr c) (inl e) f g = rw e refl
    by (inr a) (inr b) (inr c) (inr d) (inl e) g = rw e refl
    by (inr a) (inr b) (inr c) (inr d) (inr f) (inl e) = rw e refl
    by (inr a) (inr b) (inr c) (inr d) (inr f) (inr g) =
        let none : lexeme_level (operator_lexeme x) k ≡ k = rw (ne_eqb x 123 c, ne_eqb x 125 f, ne_eqb x 91 d, ne_eqb x 93 g) (no_bracket k (x == 44)) in
        rw (ne_eqb x 34 a, ne_eqb x 92 b, ne_eqb x 123 c, ne_eqb x 125 f, ne_eqb x 91 d, ne_eqb x 93 g) (plain_class x k ((x == 58) || (x == 44)) (is_space x) none)

byte_class : (m : Mode) (x k : ℕ) → after_byte (cursor k (place_of m)) x ≡ by_class m (class x) x k
byte_class between x k = outside_class x k
byte_class in_word x k = outside_class x k
byte_class in_string x k = quoted_class x k
byte_class in_escape x k = refl

level_most : (l : Lexeme) (k : ℕ) → k ≤ 64 → lexeme_level l k ≤ 65
level_most (token begin_object) k h = omega (arith, h)
level_most (token end_object) k h = omega (arith, h)
level_most (token begin_array) k h = omega (arith, h)
level_most (token end_array) k h = omega (arith, h)
level_most (token (key s)) k h = omega (arith, h)
level_most (token (string s)) k h = omega (arith, h)
level_most (token (number s)) k h = omega (arith, h)
level_most (token (boolean b)) k h = omega (arith, h)
level_most (token null) k h = omega (arith, h)
level_most (token bad) k h = omega (arith, h)
level_most comma k h = omega (arith, h)
level_most colon k h = omega (arith, h)

string_level : (o : Option Bytes) (k : ℕ) → level (string_token o) k ≡ k
string_level None k = refl
string_level (Some s) k = refl

flat_if : (b : Bool) (t u : Token) (k : ℕ) → level t k ≡ k → level u k ≡ k → level (cond b t u) k ≡ k
flat_if true t u k e f = e
flat_if false t u k e f = f

flat_number : (t : Bytes) (o : Option Bytes) (k : ℕ) → level (number_before t o) k ≡ k
flat_number t None k = refl
flat_number t (Some r) k = flat_if (ends_word r) _ bad k refl refl

word_level : (t : Bytes) (k : ℕ) → level (word t) k ≡ k
unfolding word
word_level t k =
    flat_if (head t == 116) _ _ k (flat_if _ (boolean true) bad k refl refl)
    (flat_if (head t == 102) _ _ k (flat_if _ (boolean false) bad k refl refl)
    (flat_if (head t == 110) _ _ k (flat_if _ null bad k refl refl) (flat_number t (after_number t) k)))

-- whether a text is quiet whose first byte is of a class
abbrev quiet_byte : Class → Bool → Bool
quiet_byte quote rest = false
quiet_byte backslash rest = rest
quiet_byte operator rest = true
quiet_byte space rest = true
quiet_byte other rest = rest

quiet_class : (x : ℕ) (xs : Bytes) → is_quiet (x ∷ xs) ≡ quiet_byte (class x) (is_quiet xs)
quiet_class x xs = by (cases_eq x 34) (cases_eq x 92)
  where
    plain : (o s : Bool) → cond (o || s) true (is_quiet xs) ≡ quiet_byte (cond o operator (cond s space other)) (is_quiet xs)
    plain true s = refl
    plain false true = refl
    plain false false = refl

    by : (x ≡ 34) ⊎ (x ≡ 34 → ⊥) → (x ≡ 92) ⊎ (x ≡ 92 → ⊥) → is_quiet (x ∷ xs) ≡ quiet_byte (class x) (is_quiet xs)
    by (inl e) b = rw e refl
    by (inr a) (inl e) = rw e refl
    by (inr a) (inr b) = rw (ne_eqb x 34 a, ne_eqb x 92 b) (plain (is_operator x) (is_space x))

abbrev IfInWord : Mode → Type 0 → Type 0
IfInWord between P = Unit {0}
IfInWord in_word P = P
IfInWord in_string P = Unit {0}
IfInWord in_escape P = Unit {0}

-- what a byte before others leaves of the tokens `out`
record Stepped (xs : Bytes) (k : ℕ) (out : List Token) (c : Cursor) : Type 0 where
  mode : Mode
  turned : Turn
  depth : ℕ
  bounded : depth ≤ 65
  scans : c ≡ cursor depth (place_of mode)
  walks : walk k out ≡ entered depth (punctuate turned (lex mode xs))
  good : AreGood (punctuate turned (lex mode xs))
  quiet : IfInWord mode (is_quiet xs ≡ true)
  closes : depth ≡ 0 → mode ≡ between

module _ (x k : ℕ) (xs : Bytes) (some : 0 < k) (most : k ≤ 64) where
  abbrev Steps : Mode → Class → Turn → Type 0
  Steps m c q = Stepped xs k (punctuate q (lex_byte m c x xs (λ n. lex n xs))) (by_class m c x k)

  -- no lexeme begins
  stays : (m : Mode) (q : Turn) → AreGood (punctuate q (lex m xs)) → IfInWord m (is_quiet xs ≡ true) → Stepped xs k (punctuate q (lex m xs)) (cursor k (place_of m))
  stays m q h w = record {
    mode = m;
    turned = q;
    depth = k;
    bounded = omega (arith, most);
    scans = refl;
    walks = sym (inside k (punctuate q (lex m xs)) some most);
    good = h;
    quiet = w;
    closes = λ e. absurd (omega (arith, e, some));
  }

  -- a lexeme without a bracket begins
  begins : (m : Mode) (q : Turn) (t : Token) → ((n : ℕ) → level t n ≡ n) → AreGood (punctuate q (token t ∷ lex m xs)) → (is_good t ≡ true → IfInWord m (is_quiet xs ≡ true))
      → Stepped xs k (punctuate q (token t ∷ lex m xs)) (cursor k (place_of m))
  begins m q t flat h w =
      let p = after (lex m xs) q (token t) h in
      record {
        mode = m;
        turned = p.next;
        depth = k;
        bounded = omega (arith, most);
        scans = refl;
        walks = p.walks k some most ∙ ap (λ n. entered n (punctuate p.next (lex m xs))) (flat k);
        good = p.good;
        quiet = w p.fine;
        closes = λ e. absurd (omega (arith, e, some));
      }

  -- an operator
  operates : (q : Turn) (l : Lexeme) → AreGood (punctuate q (l ∷ lex between xs)) → Stepped xs k (punctuate q (l ∷ lex between xs)) (cursor (lexeme_level l k) Outside)
  operates q l h =
      let p = after (lex between xs) q l h in
      record {
        mode = between;
        turned = p.next;
        depth = lexeme_level l k;
        bounded = level_most l k most;
        scans = refl;
        walks = p.walks k some most;
        good = p.good;
        quiet = tt;
        closes = λ e. refl;
      }

  stepped : (m : Mode) (c : Class) (q : Turn) → (is_good (word (x ∷ xs)) ≡ true → quiet_byte c (is_quiet xs) ≡ true) → IfInWord m (quiet_byte c (is_quiet xs) ≡ true)
      → AreGood (punctuate q (lex_byte m c x xs (λ n. lex n xs))) → Steps m c q
  stepped between quote q fresh_word w h = begins in_string q (string_token (content plain xs)) (string_level (content plain xs)) h (λ _. tt)
  stepped between backslash q fresh_word w h = never (after (lex in_word xs) q (token bad) h).fine
  stepped between operator q fresh_word w h = operates q (operator_lexeme x) h
  stepped between space q fresh_word w h = stays between q h tt
  stepped between other q fresh_word w h = begins in_word q (word (x ∷ xs)) (word_level (x ∷ xs)) h fresh_word
  stepped in_word quote q fresh_word w h = never w
  stepped in_word backslash q fresh_word w h = stays in_word q h w
  stepped in_word operator q fresh_word w h = operates q (operator_lexeme x) h
  stepped in_word space q fresh_word w h = stays between q h tt
  stepped in_word other q fresh_word w h = stays in_word q h w
  stepped in_string quote q fresh_word w h = stays between q h tt
  stepped in_string backslash q fresh_word w h = stays in_escape q h tt
  stepped in_string operator q fresh_word w h = stays in_string q h tt
  stepped in_string space q fresh_word w h = stays in_string q h tt
  stepped in_string other q fresh_word w h = stays in_string q h tt
  stepped in_escape quote q fresh_word w h = stays in_string q h tt
  stepped in_escape backslash q fresh_word w h = stays in_string q h tt
  stepped in_escape operator q fresh_word w h = stays in_string q h tt
  stepped in_escape space q fresh_word w h = stays in_string q h tt
  stepped in_escape other q fresh_word w h = stays in_string q h tt

-- ---- the whole text

-- both come to the same, and where the text closes, the tokens behind are those of the bytes behind
abbrev pub Agrees : ℕ → Bytes → End → Walk → Type 0
Agrees i xs (Refused j TooDeep) Deep = Unit {0}
Agrees i xs (At n) (Closed ts) = (front : Bytes) × (rest : Bytes) × (q : Turn) × (xs ≡ front ++ rest) × (n ≡ i + length front) × (ts ≡ punctuate q (lex between rest)) × AreGood ts
Agrees i xs (Open c) Going = Unit {0}
Agrees i xs e w = ⊥

wider : (i x : ℕ) (xs : Bytes) (e : End) (w : Walk) → Agrees (i + 1) xs e w → Agrees i (x ∷ xs) e w
wider i x xs (Refused j TooDeep) Deep h = tt
wider i x xs (At n) (Closed ts) h = (x ∷ h.0, h.1, h.2, ap (λ l. x ∷ l) h.3, omega (arith, h.4), h.5, h.6)
wider i x xs (Open c) Going h = tt
wider i x xs e w h = h

-- a byte that leaves this depth
turns : (limit i x : ℕ) (xs : Bytes) (d : ℕ) (p : Place) (ts : List Token) → d ≤ 65 → i < limit → AreGood ts
    → (0 < d → d ≤ 64 → Agrees (i + 1) xs (end_from limit (cursor d p) (i + 1) xs) (walk d ts)) → (d ≡ 0 → (q : Turn) × (ts ≡ punctuate q (lex between xs)))
    → Agrees i (x ∷ xs) (step (d == 65) (i == limit) (d == 0) i (end_from limit (cursor d p) (i + 1) xs)) (entered d ts)
turns limit i x xs d p ts most within good more closed = by (cases_eq d 65) (cases_eq d 0)
  where
    by : (d ≡ 65) ⊎ (d ≡ 65 → ⊥) → (d ≡ 0) ⊎ (d ≡ 0 → ⊥) → Agrees i (x ∷ xs) (step (d == 65) (i == limit) (d == 0) i (end_from limit (cursor d p) (i + 1) xs)) (entered d ts)
    by (inl e) z = rw e tt
    by (inr a) (inl e) = let c = closed e in rw (ne_eqb d 65 a, ne_eqb i limit (λ l. omega (arith, l, within)), e) (x ∷ [], xs, c.0, refl, omega arith, c.1, good)
    by (inr a) (inr z) =
        rw (ne_eqb d 65 a, ne_eqb i limit (λ l. omega (arith, l, within)), ne_eqb d 0 z)
        (wider i x xs (end_from limit (cursor d p) (i + 1) xs) (walk d ts) (more (omega (arith, z)) (omega (arith, a, most))))

quiet_next : (m : Mode) (x : ℕ) (xs : Bytes) → IfInWord m (is_quiet (x ∷ xs) ≡ true) → IfInWord m (quiet_byte (class x) (is_quiet xs) ≡ true)
quiet_next between x xs h = tt
quiet_next in_word x xs h = sym (quiet_class x xs) ∙ h
quiet_next in_string x xs h = tt
quiet_next in_escape x xs h = tt

pub agrees : (limit i k : ℕ) (m : Mode) (q : Turn) (xs : Bytes) → 0 < k → k ≤ 64 → i + length xs ≤ limit → IfInWord m (is_quiet xs ≡ true) → AreGood (punctuate q (lex m xs))
    → Agrees i xs (end_from limit (cursor k (place_of m)) i xs) (walk k (punctuate q (lex m xs)))
unfolding lex punctuate
agrees limit i k m fresh [] some most within w h = tt
agrees limit i k m after_value [] some most within w h = tt
agrees limit i k m after_comma [] some most within w h = never h.0
agrees limit i k m after_key [] some most within w h = never h.0
agrees limit i k m q (x ∷ xs) some most within w h =
    let s = stepped x k xs some most m (class x) q (λ g. sym (quiet_class x xs) ∙ quiet_word (x ∷ xs) g) (quiet_next m x xs w) h in
    subst (λ c. Agrees i (x ∷ xs) (step (c.depth == 65) (i == limit) (c.depth == 0) i (end_from limit c (i + 1) xs)) (walk k (punctuate q (lex m (x ∷ xs))))) (sym (byte_class m x k ∙ s.scans))
    (subst (Agrees i (x ∷ xs) (step (s.depth == 65) (i == limit) (s.depth == 0) i (end_from limit (cursor s.depth (place_of s.mode)) (i + 1) xs))) (sym s.walks)
    (turns limit i x xs s.depth (place_of s.mode) (punctuate s.turned (lex s.mode xs)) s.bounded (omega (arith, within)) s.good
    (λ a b. agrees limit (i + 1) s.depth s.mode s.turned xs a b (omega (arith, within)) s.quiet s.good) (λ e. (s.turned, ap (λ n. punctuate s.turned (lex n xs)) (s.closes e)))))
