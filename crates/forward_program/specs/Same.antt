-- When what stands at the places of a binding is the same.
use Rattle.std.specs.Prelude.{ℕ, Bool, true, false, ◌&&◌, ◌==◌, Option, Some, None}
use Rattle.forward_program.specs.declared.held.Lists.{Lists}
use Rattle.forward_program.specs.declared.held.Held.{Held}
use Rattle.forward_program.specs.declared.held.Held.TheVariants as held

abbrev pub same_number : Option ℕ → Option ℕ → Bool
same_number None None = true
same_number (Some a) (Some b) = a == b
same_number a b = false

abbrev pub same_lists : Lists → Lists → Bool
same_lists a b = same_number a.all b.all && same_number a.own b.own

abbrev pub same_binding : Held → Held → Bool
same_binding (held.Bound s a) (held.Bound t b) = (s == t) && same_lists a b
same_binding (held.Lists a) (held.Lists b) = same_lists a b
same_binding _ _ = false
