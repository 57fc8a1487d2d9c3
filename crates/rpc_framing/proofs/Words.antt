-- A word of a JSON text ends before the first quote.
use Rattle.std.proofs.Common.{◌≡◌, ℕ, ◌+◌, suc, Bool, true, false, cond, ◌||◌, List, [], ◌∷◌, ◌++◌, length, take, drop, Option, Some, None, option_and_then, refl, sym, ap, ◌∙◌, arith, true≢false, eqb-true, inl, inr}
use Rattle.std.specs.Prelude.{◌==◌}
use Rattle.std.proofs.lemmas.Bool.{and_parts, or_cases, ne_eqb}
use Rattle.std.proofs.lemmas.List.{take-append-drop}
use Rattle.std.proofs.lemmas.Slice.Eq.{bytes_eq-Decides}
use Rattle.std.specs.List.{prefix_len}
use Rattle.std.specs.Char.{is_ascii_digit}
use Rattle.json.specs.Token.{Token, boolean, null, bad}
use Rattle.json.specs.Word.{is_operator, is_space, head, ends_word, after_digits, after_minus, after_sign, after_whole, after_fraction, after_exponent, after_number, number_before, literal, word}
use Rattle.json.specs.Align.{is_good}

-- no quote stands before an operator, a space or the end
abbrev pub is_quiet : List ℕ → Bool
is_quiet [] = true
is_quiet (x ∷ xs) = cond (is_operator x || is_space x) true (cond (x == 34) false (is_quiet xs))

quiet_more : (t q r : Bool) → q ≡ false → r ≡ true → cond t true (cond q false r) ≡ true
quiet_more true q r e f = refl
quiet_more false q r e f = rw e f

quiet_end : (t : List ℕ) → ends_word t ≡ true → is_quiet t ≡ true
quiet_end [] h = refl
quiet_end (x ∷ xs) h = rw h refl

-- what is left of a text where a part of a number was taken is as quiet as the text
abbrev Leaves : List ℕ → Option (List ℕ) → Type 0
Leaves t None = Unit {0}
Leaves t (Some r) = is_quiet r ≡ true → is_quiet t ≡ true

one_byte : (t : List ℕ) → (head t == 34) ≡ false → Leaves t (Some (drop 1 t))
one_byte [] e h = refl
one_byte (x ∷ xs) e h = quiet_more (is_operator x || is_space x) (x == 34) (is_quiet xs) e h

-- the first byte is known, and is no quote
known : (n : ℕ) (t : List ℕ) → (n == 34) ≡ false → (head t == n) ≡ true → Leaves t (Some (drop 1 t))
known n t e h = one_byte t (ap (λ x. x == 34) (eqb-true (head t) n h) ∙ e)

digit_is_none : (x : ℕ) → is_ascii_digit x ≡ true → (x == 34) ≡ false
digit_is_none x h = ne_eqb x 34 (λ e. true≢false (sym h ∙ ap is_ascii_digit e))

digits_left : (t : List ℕ) → Leaves t (Some (drop (prefix_len is_ascii_digit t) t))
digits_left [] h = refl
digits_left (x ∷ xs) h = by (is_ascii_digit x) (digit_is_none x) (digits_left xs) h
  where
    by : (d : Bool) → (d ≡ true → (x == 34) ≡ false) → Leaves xs (Some (drop (prefix_len is_ascii_digit xs) xs)) → is_quiet (drop (cond d (1 + prefix_len is_ascii_digit xs) 0) (x ∷ xs)) ≡ true
        → is_quiet (x ∷ xs) ≡ true
    by true e more h =
        let n : suc (prefix_len is_ascii_digit xs) ≡ 1 + prefix_len is_ascii_digit xs = omega arith in
        quiet_more (is_operator x || is_space x) (x == 34) (is_quiet xs) (e refl) (more (ap (λ k. is_quiet (drop k (x ∷ xs))) n ∙ h))
    by false e more h = h

left_if : (b : Bool) (t : List ℕ) (o p : Option (List ℕ)) → (b ≡ true → Leaves t o) → Leaves t p → Leaves t (cond b o p)
left_if true t o p f g = f refl
left_if false t o p f g = g

left_after : (t u : List ℕ) (o : Option (List ℕ)) → Leaves t (Some u) → Leaves u o → Leaves t o
left_after t u None f g = tt
left_after t u (Some r) f g = λ h. f (g h)

left_then : (t : List ℕ) (f : List ℕ → Option (List ℕ)) (o : Option (List ℕ)) → ((u : List ℕ) → Leaves u (f u)) → Leaves t o → Leaves t (option_and_then f o)
left_then t f None each h = tt
left_then t f (Some r) each h = left_after t r (f r) h (each r)

maybe_one : (b : Bool) (t : List ℕ) → (b ≡ true → Leaves t (Some (drop 1 t))) → Leaves t (Some (cond b (drop 1 t) t))
maybe_one true t f = f refl
maybe_one false t f = λ h. h

digits : (t : List ℕ) → Leaves t (after_digits t)
digits t = left_if (prefix_len is_ascii_digit t == 0) t None _ (λ e. tt) (digits_left t)

either : (a b : ℕ) (t : List ℕ) → (a == 34) ≡ false → (b == 34) ≡ false → ((head t == a) || (head t == b)) ≡ true → Leaves t (Some (drop 1 t))
either a b t e f h = elim (or_cases (head t == a) (head t == b) h) [ inl p ↦ known a t e p | inr p ↦ known b t f p ]

whole : (t : List ℕ) → Leaves t (after_whole t)
whole t = left_if (head t == 48) t (Some (drop 1 t)) _ (known 48 t refl) (digits t)

fraction : (t : List ℕ) → Leaves t (after_fraction t)
fraction t = left_if (head t == 46) t _ (Some t) (λ e. left_after t (drop 1 t) _ (known 46 t refl e) (digits (drop 1 t))) (λ h. h)

signed : (t : List ℕ) → Leaves t (after_digits (after_sign t))
signed t = left_after t (after_sign t) _ (maybe_one ((head t == 45) || (head t == 43)) t (either 45 43 t refl refl)) (digits (after_sign t))

exponent : (t : List ℕ) → Leaves t (after_exponent t)
exponent t = left_if ((head t == 101) || (head t == 69)) t _ (Some t) (λ e. left_after t (drop 1 t) _ (either 101 69 t refl refl e) (signed (drop 1 t))) (λ h. h)

number : (t : List ℕ) → Leaves t (after_number t)
unfolding after_number
number t =
    left_then t after_exponent _ exponent (left_then t after_fraction _ fraction
    (left_after t (after_minus t) _ (maybe_one (head t == 45) t (known 45 t refl)) (whole (after_minus t))))

passed : (b : Bool) (k : Token) → is_good (cond b k bad) ≡ true → b ≡ true
passed true k h = refl
passed false k h = h

quiet_number : (t : List ℕ) (o : Option (List ℕ)) → Leaves t o → is_good (number_before t o) ≡ true → is_quiet t ≡ true
quiet_number t None f h = absurd (true≢false (sym h))
quiet_number t (Some r) f h = f (quiet_end r (passed (ends_word r) _ h))

quiet_literal : (name : List ℕ) (k : Token) (t : List ℕ) → ((rest : List ℕ) → is_quiet (name ++ rest) ≡ is_quiet rest) → is_good (literal name k t) ≡ true → is_quiet t ≡ true
quiet_literal name k t passes h =
    let both = and_parts _ _ (passed _ k h) in
    let front : name ≡ take (length name) t = (bytes_eq-Decides name (take (length name) t)).0 both.0 in
    ap is_quiet (sym (take-append-drop (length name) t) ∙ ap (λ l. l ++ drop (length name) t) (sym front)) ∙ passes (drop (length name) t) ∙ quiet_end (drop (length name) t) both.1

choose : (b : Bool) (x y : Token) (P : Type 0) → (is_good x ≡ true → P) → (is_good y ≡ true → P) → is_good (cond b x y) ≡ true → P
choose true x y P f g = f
choose false x y P f g = g

pub quiet_word : (t : List ℕ) → is_good (word t) ≡ true → is_quiet t ≡ true
unfolding word
quiet_word t =
    choose (head t == 116) _ _ _ (quiet_literal (116 ∷ 114 ∷ 117 ∷ 101 ∷ []) (boolean true) t (λ r. refl))
    (choose (head t == 102) _ _ _ (quiet_literal (102 ∷ 97 ∷ 108 ∷ 115 ∷ 101 ∷ []) (boolean false) t (λ r. refl))
    (choose (head t == 110) _ _ _ (quiet_literal (110 ∷ 117 ∷ 108 ∷ 108 ∷ []) null t (λ r. refl)) (quiet_number t (after_number t) (number t))))
