-- Texts that are read a byte at a time, and how far bytes begin a text of a form.
use Rattle.std.specs.Prelude.{ℕ, nat_eq, Bool, ◌+◌, ◌<◌, ◌≤◌, List, [], ◌∷◌, ◌++◌, length, take, Option, Some, None, IsSome, Result, Ok, Err}
use Rattle.std.specs.Cmp.Lexicographic.{pointwise}

-- a text, as its bytes
abbrev pub Bytes : Type 0
Bytes = List ℕ

abbrev pub same_bytes : Bytes → Bytes → Bool
same_bytes = pointwise nat_eq

-- the value, or how many bytes were read
abbrev pub value_or : {V : Type 0} → ℕ → Option V → Result V ℕ
value_or n None = Err n
value_or n (Some v) = Ok v

-- goes on where there is something
abbrev pub go_on : {S V : Type 0} → ℕ → Option S → (S → Result V ℕ) → Result V ℕ
go_on n None f = Err n
go_on n (Some s) f = f s

-- what the bytes mean behind a front of n bytes, or how far they begin a text
abbrev pub read_on : {S V : Type 0} → (S → ℕ → Option S) → (S → Option V) → ℕ → S → Bytes → Result V ℕ
read_on step done n s [] = value_or n (done s)
read_on step done n s (b ∷ bs) = go_on n (step s b) (λ t. read_on step done (n + 1) t bs)

-- some text of the form begins so
abbrev pub Begins : {V : Type 0} → (Bytes → Option V) → Bytes → Type 0
Begins meaning front = (more : Bytes) × IsSome (meaning (front ++ more))

-- n bytes are the longest front of the text that begins some text of the form
pub record IsLongestFront {V : Type 0} (meaning : Bytes → Option V) (text : Bytes) (n : ℕ) : Type 0 where
  pub within : n ≤ length text
  pub begins : Begins meaning (take n text)
  pub longest : (m : ℕ) → n < m → m ≤ length text → Begins meaning (take m text) → ⊥
