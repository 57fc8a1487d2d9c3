-- Locators, which are ends of tunnels, and sets of them, each named by its row.
use Rattle.std.specs.Prelude.{ℕ, not, ◌==◌, List, [], ◌∷◌, filter, filter_map, Option, unwrap_or, refl}
use Rattle.std.specs.Ordering.{nat_cmp}
use Rattle.std.specs.BTreeSet.{insert_key}
use Rattle.std.specs.Coded.{Coded, code_by, coded×, coded_ℕ, coded_list}
use Rattle.vtep_base.specs.Maps as maps
use Rattle.vtep_base.specs.Maps.{Map}

pub record Locators : Type 0 where
  pub addresses : Map nat_cmp ℕ  -- the address of each locator
  pub sets : Map nat_cmp (List ℕ)  -- the locators of each set

abbrev pub locators_code : Coded Locators
locators_code = code_by (Map nat_cmp ℕ × Map nat_cmp (List ℕ)) (coded× (maps.code coded_ℕ coded_ℕ) (maps.code coded_ℕ (coded_list coded_ℕ)))
    (λ l. (l.addresses, l.sets)) (λ p. record { addresses = p.0; sets = p.1 }) (λ _. refl)

-- ascending numbers, and further ones put at their places among them
abbrev pub with_each : List ℕ → List ℕ → List ℕ
with_each done [] = done
with_each done (x ∷ xs) = with_each (insert_key nat_cmp done x) xs

-- numbers in ascending order, each once
abbrev pub ascending : List ℕ → List ℕ
ascending xs = with_each [] xs

-- the addresses that these locators have, but for the gateway's own
abbrev pub other_addresses : (ℕ → Option ℕ) → ℕ → List ℕ → List ℕ
other_addresses address own locators = ascending (filter (λ ip. not (ip == own)) (filter_map address locators))

-- none where the set is not there; a locator that has no address adds nothing
abbrev pub addresses_of : Locators → ℕ → ℕ → List ℕ
addresses_of l set own = other_addresses (maps.get l.addresses) own (unwrap_or (maps.get l.sets set) [])
