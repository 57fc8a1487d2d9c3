-- Steps one behind the other of which each may give nothing: what a `do` goes on by.
use Rattle.std.specs.Prelude.{Option, option_and_then}

infixl 10 ◌>>=◌
-- goes on with what a step gives, where it gives something
abbrev pub ◌>>=◌ : {A B : Type 0} → Option A → (A → Option B) → Option B
o >>= f = option_and_then f o
