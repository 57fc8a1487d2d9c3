-- What a list of entries permits: what the least of those that match says, and what none matches.
use Rattle.std.specs.Prelude.{◌≡◌, ◌⊎◌, Bool, true, false, not, ◌&&◌, ◌||◌, nat_lt, ◌==◌, if◌then◌else◌, List, [], ◌∷◌, fold, find, Option, Some, None, Contains}
use Rattle.std.specs.List.{list_all, list_any}
use Rattle.vtep_base.specs.declared.shapes.Action.{Action}
use Rattle.vtep_base.specs.declared.shapes.Action.TheVariants.{Permit, Deny}
use Rattle.vtep_base.specs.declared.shapes.Direction.{Direction}
use Rattle.ether_frames.specs.declared.fields.Headers.{Headers}
use Rattle.acl_rules.specs.declared.entry.Entry.{Entry}
use Rattle.acl_rules.specs.Matching.{matches}

-- a lesser sequence, or the same and a lesser identifier
abbrev pub before : Entry → Entry → Bool
before a b = nat_lt a.sequence b.sequence || ((a.sequence == b.sequence) && nat_lt a.id b.id)

-- the entry is the least of those of the list that match
pub record Decides (list : List Entry) (headers : Headers) (direction : Direction) (e : Entry) : Type 0 where
  pub listed : Contains list e
  pub fits : matches e direction headers ≡ true
  pub least : (other : Entry) → Contains list other → matches other direction headers ≡ true → before other e ≡ false

-- no entry matches, or the least that does permits
abbrev pub Permits : List Entry → Headers → Direction → Type 0
Permits list headers direction =
    ((e : Entry) → Contains list e → matches e direction headers ≡ false)
    ⊎ ((e : Entry) × Decides list headers direction e × (e.action ≡ Permit))

-- ---- the same, computed over entries that stand in order

abbrev pub is_permit : Action → Bool
is_permit Permit = true
is_permit Deny = false

abbrev pub says : Option Entry → Bool
says None = true
says (Some e) = is_permit e.action

-- what the first that matches says
abbrev pub permits : List Entry → Headers → Direction → Bool
permits rules headers direction = says (find (λ e. matches e direction headers) rules)

-- ---- entries in order

-- each entry is before all that follow it
abbrev pub is_ordered : List Entry → Bool
is_ordered [] = true
is_ordered (e ∷ es) = list_all (before e) es && is_ordered es

abbrev pub IsOrdered : List Entry → Type 0
IsOrdered es = is_ordered es ≡ true

-- the entry before the first that it is before
abbrev pub placed : Entry → List Entry → List Entry
placed e [] = e ∷ []
placed e (x ∷ xs) = if before e x then e ∷ x ∷ xs else x ∷ placed e xs

abbrev pub in_order : List Entry → List Entry
in_order entries = fold (λ sorted e. placed e sorted) [] entries

-- no two entries have one identifier
abbrev pub repeat_no_id : List Entry → Bool
repeat_no_id [] = true
repeat_no_id (e ∷ es) = not (list_any (λ x. e.id == x.id) es) && repeat_no_id es
