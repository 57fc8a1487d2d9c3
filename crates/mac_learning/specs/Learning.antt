-- The learnt addresses in the order of learning, before and after each call.
use Rattle.std.specs.Prelude.{◌≡◌, ℕ, ◌+◌, Bool, true, not, ◌&&◌, nat_le, nat_lt, ◌==◌, if◌then◌else◌, List, [], ◌∷◌, filter, find, length, Option, Some, None}
use Rattle.std.specs.Cmp.Lexicographic.{pointwise}
use Rattle.std.specs.List.{list_any}
use Rattle.vtep_base.specs.Reading.{Bytes}
use Rattle.mac_learning.specs.declared.Learn.{Learn}
use Rattle.mac_learning.specs.declared.Learn.TheVariants as learn
use Rattle.mac_learning.specs.declared.Learnt.{Learnt}

-- the entries, and how many there may be
pub record Learning : Type 0 where
  pub entries : List Learnt
  pub limit : ℕ

-- it is the entry of this address of this switch
abbrev pub is_of : ℕ → ℕ → Learnt → Bool
is_of switch mac e = (switch == e.switch) && (mac == e.mac)

abbrev pub same_address : Learnt → Learnt → Bool
same_address a b = is_of a.switch a.mac b

-- each address of a switch has one entry at most
abbrev pub is_once : List Learnt → Bool
is_once [] = true
is_once (e ∷ es) = not (list_any (same_address e) es) && is_once es

abbrev pub IsOnce : List Learnt → Type 0
IsOnce es = is_once es ≡ true

-- the entry of an address
abbrev pub found : ℕ → ℕ → List Learnt → Option Learnt
found switch mac es = find (is_of switch mac) es

abbrev pub entry : ℕ → ℕ → Bytes → ℕ → ℕ → Learnt
entry switch mac port vlan now = record { switch = switch; mac = mac; port = port; vlan = vlan; seen = now }

-- ---- learning

abbrev pub same_place : Learnt → Learnt → Bool
same_place a b = pointwise ◌==◌ a.port b.port && (a.vlan == b.vlan)

abbrev pub learns_by : Bool → Learnt → Option Learnt → Learn
learns_by room new None = if room then learn.Learnt else learn.Full
learns_by room new (Some old) = if same_place old new then learn.Same else learn.Moved

-- what becomes of an address that is seen
abbrev pub learns : Learning → Learnt → Learn
learns l new = learns_by (nat_lt (length l.entries) l.limit) new (found new.switch new.mac l.entries)

-- the entry at the place of that of its address, or at the end
abbrev pub put : Learnt → List Learnt → List Learnt
put new [] = new ∷ []
put new (e ∷ es) = if same_address new e then new ∷ es else e ∷ put new es

abbrev pub after_by : Learn → Learning → Learnt → Learning
after_by learn.Full l new = l
after_by _ l new = record l { entries = put new l.entries }

-- the list after an address is seen
abbrev pub after : Learning → Learnt → Learning
after l new = after_by (learns l new) l new

-- ---- ageing: seen 300 seconds ago or earlier

abbrev pub is_old : ℕ → Learnt → Bool
is_old now e = nat_le (e.seen + 300) now

abbrev pub old_at : ℕ → List Learnt → List Learnt
old_at now es = filter (is_old now) es

abbrev pub kept_at : ℕ → List Learnt → List Learnt
kept_at now es = filter (λ e. not (is_old now e)) es

-- ---- taking away

abbrev pub without : ℕ → ℕ → List Learnt → List Learnt
without switch mac es = filter (λ e. not (is_of switch mac e)) es

abbrev pub is_bound_at : Bytes → ℕ → ℕ → Learnt → Bool
is_bound_at port vlan switch e = pointwise ◌==◌ e.port port && (e.vlan == vlan) && (e.switch == switch)

abbrev pub unbound : Bytes → ℕ → ℕ → List Learnt → List Learnt
unbound port vlan switch es = filter (λ e. not (is_bound_at port vlan switch e)) es
