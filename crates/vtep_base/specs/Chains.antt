-- Steps one behind the other of which each may refuse: what a `do` goes on by.
use Rattle.std.specs.Prelude.{Option, Some, None, Result, Ok, Err}

infixl 10 ◌>>=◌
-- goes on with what a step gives, or stops at its refusal
abbrev pub ◌>>=◌ : {A B E : Type 0} → Result A E → (A → Result B E) → Result B E
(Ok a) >>= f = f a
(Err e) >>= f = Err e

-- what is there, or the refusal
abbrev pub or_refuse : {A E : Type 0} → E → Option A → Result A E
or_refuse e None = Err e
or_refuse e (Some a) = Ok a
