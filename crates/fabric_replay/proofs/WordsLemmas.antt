-- The words of a line, one after another.
use Rattle.std.proofs.Common.{◌≡◌, ℕ, zero, suc, ◌+◌, ◌<◌, ◌≤◌, ◌^◌, ◌++◌, Bool, true, false, cond, List, [], ◌∷◌, length, take, drop, get_or, refl, ap, ◌∙◌, arith}
use Rattle.std.specs.Prelude.{◌==◌}
use Rattle.std.proofs.lemmas.Bool.Decides.{nat_tests}
use Rattle.std.proofs.lemmas.List.{at_drop_more, at_drop_all}
use Rattle.fabric_world.specs.Text.{Word, onto, words_from}
use Rattle.vtep_base.specs.Reading.{Bytes}
use Rattle.fabric_replay.specs.Seen.{word_length, AllFit}
use Rattle.fabric_replay.specs.declared.words.Word as code

unequal : (a b : ℕ) → (a ≡ b → ⊥) → (a == b) ≡ false
unequal a b n = grind (arith, nat_tests)

pub length_here : (text : Bytes) (i : ℕ) → i < length text → get_or text i 0 ≡ 32 → word_length (drop i text) ≡ 0
length_here text i h e = at_drop_more word_length text i 0 h ∙ (let t : (get_or text i 0 == 32) ≡ true = grind (arith, nat_tests) in rw t refl)

pub length_more : (text : Bytes) (i : ℕ) → i < length text → (get_or text i 0 ≡ 32 → ⊥) → word_length (drop i text) ≡ suc (word_length (drop (i + 1) text))
length_more text i h n = at_drop_more word_length text i 0 h ∙ rw (unequal (get_or text i 0) 32 n) refl

pub length_at_end : (text : Bytes) (i : ℕ) → length text ≤ i → word_length (drop i text) ≡ 0
length_at_end text i h = at_drop_all word_length text i h

pub within : (text : Bytes) → word_length text ≤ length text
within [] = omega arith
within (b ∷ bs) = elim (b == 32) as (λ t. cond t 0 (suc (word_length bs)) ≤ suc (length bs)) [ true ↦ omega arith | false ↦ omega (arith, within bs) ]

-- no word begins before the column
abbrev BeginsFrom : ℕ → List Word → Type 0
BeginsFrom c [] = Unit {0}
BeginsFrom c (w ∷ ws) = c ≤ w.column

onto_begins : (b c : ℕ) (ws : List Word) → BeginsFrom c (onto b c ws)
onto_begins b c [] = omega arith
onto_begins b c (w ∷ ws) = elim (w.column == c + 1) as (λ t. BeginsFrom c (cond t (record { column = c; bytes = b ∷ w.bytes } ∷ ws) (record { column = c; bytes = b ∷ [] } ∷ w ∷ ws))) [ true ↦ omega arith | false ↦ omega arith ]

later : (c d : ℕ) (ws : List Word) → d ≤ c → BeginsFrom c ws → BeginsFrom d ws
later c d [] h b = tt
later c d (w ∷ ws) h b = omega arith

begins : (c : ℕ) (bs : Bytes) → BeginsFrom c (words_from c bs)
begins c [] = tt
begins c (b ∷ bs) = elim (b == 32) as (λ t. BeginsFrom c (cond t (words_from (c + 1) bs) (onto b c (words_from (c + 1) bs)))) [
  | true ↦ later (c + 1) c (words_from (c + 1) bs) (omega arith) (begins (c + 1) bs)
  | false ↦ onto_begins b c (words_from (c + 1) bs)
]

alone : (b c : ℕ) (ws : List Word) → BeginsFrom (c + 2) ws → onto b c ws ≡ record { column = c; bytes = b ∷ [] } ∷ ws
alone b c [] h = refl
alone b c (w ∷ ws) h = let n : (w.column == c + 1) ≡ false = unequal w.column (c + 1) (λ e. omega arith) in rw n refl

-- what stands behind a space, or behind the end, begins no word at once
behind_word : (c : ℕ) (bs : Bytes) → word_length bs ≡ 0 → BeginsFrom (c + 1) (words_from c bs)
behind_word c [] e = tt
behind_word c (b ∷ bs) e = by (b == 32) refl e
  where
    by : (t : Bool) → (b == 32) ≡ t → cond t 0 (suc (word_length bs)) ≡ 0 → BeginsFrom (c + 1) (cond t (words_from (c + 1) bs) (onto b c (words_from (c + 1) bs)))
    by true is z = begins (c + 1) bs
    by false is z = absurd (omega arith)

pub skip_space : (c : ℕ) (text : Bytes) → 0 < length text → word_length text ≡ 0 → words_from c text ≡ words_from (c + 1) (drop 1 text)
skip_space c [] h e = absurd (omega arith)
skip_space c (b ∷ bs) h e = by (b == 32) e
  where
    by : (t : Bool) → cond t 0 (suc (word_length bs)) ≡ 0 → cond t (words_from (c + 1) bs) (onto b c (words_from (c + 1) bs)) ≡ words_from (c + 1) bs
    by true z = refl
    by false z = absurd (omega arith)

first_by : (c n : ℕ) (b : ℕ) (bs : Bytes) → word_length bs ≡ n → ((m : ℕ) → n ≡ suc m → words_from (c + 1) bs ≡ record { column = c + 1; bytes = take n bs } ∷ words_from (c + 1 + n) (drop n bs))
    → onto b c (words_from (c + 1) bs) ≡ record { column = c; bytes = b ∷ take n bs } ∷ words_from (c + suc n) (drop n bs)
first_by c zero b bs e ih = alone b c (words_from (c + 1) bs) (later (c + 1 + 1) (c + 2) (words_from (c + 1) bs) (omega arith) (behind_word (c + 1) bs e))
first_by c (suc m) b bs e ih =
    let at : (c + 1 == c + 1) ≡ true = grind (arith, nat_tests) in
    let place : c + 1 + suc m ≡ c + suc (suc m) = omega arith in
    ap (onto b c) (ih m refl) ∙ rw at refl ∙ ap (λ k. record { column = c; bytes = b ∷ take (suc m) bs } ∷ words_from k (drop (suc m) bs)) place

abbrev FirstWord : ℕ → Bytes → Type 0
FirstWord c text = words_from c text ≡ record { column = c; bytes = take (word_length text) text } ∷ words_from (c + word_length text) (drop (word_length text) text)

first_with : (c b : ℕ) (bs : Bytes) → (0 < word_length bs → FirstWord (c + 1) bs) → (t : Bool) → (b == 32) ≡ t → 0 < cond t 0 (suc (word_length bs)) → FirstWord c (b ∷ bs)
first_with c b bs ih true is h = absurd (omega arith)
first_with c b bs ih false is h = rw is (first_by c (word_length bs) b bs refl (λ m e. ih (omega arith)))

pub first_word : (c : ℕ) (text : Bytes) → 0 < word_length text → FirstWord c text
first_word c [] h = absurd (omega arith)
first_word c (b ∷ bs) h = first_with c b bs (λ k. first_word (c + 1) bs k) (b == 32) refl h

pub fit_push : (ws : List code.Word) (w : code.Word) → AllFit ws → w.column + length w.bytes.now < 2 ^ 64 → AllFit (ws ++ w ∷ [])
fit_push [] w h f = (f, tt)
fit_push (v ∷ vs) w h f = (h.0, fit_push vs w h.1 f)
