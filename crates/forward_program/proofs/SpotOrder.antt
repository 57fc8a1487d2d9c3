-- Only equal places tie.
use Rattle.std.proofs.Common.{◌≡◌, Some, None, refl, ap}
use Rattle.std.specs.Ordering.{ordering_then}
use Rattle.std.specs.FinMap.{IsAntisymmetric}
use Rattle.std.specs.declared.cmp.Ordering.{Ordering}
use Rattle.std.specs.declared.cmp.Ordering.TheVariants.{Less, Equal, Greater}
use Rattle.std.proofs.lemmas.Map.Lookups.{exact_bytes, exact_unsigned}
use Rattle.forward_program.specs.declared.spots.Spot.TheVariants as spot
use Rattle.forward_program.specs.declared.spots.Part.{Part}
use Rattle.forward_program.specs.declared.spots.Part.TheVariants as part
use Rattle.forward_program.specs.contracts.spots.PartOrd.TheImpl as part_order
use Rattle.forward_program.specs.Spots.{spot_cmp}

both_equal : (r q : Ordering) → ordering_then r q ≡ Equal → (r ≡ Equal) × (q ≡ Equal)
both_equal Less q e = cc
both_equal Equal q e = (refl, e)
both_equal Greater q e = cc

abbrev part_cmp : Part → Part → Ordering
part_cmp = (part_order.ghosts).cmp

part_exact : IsAntisymmetric part_cmp
part_exact part.Itself part.Itself e = refl
part_exact (part.Member p v) (part.Member q w) e = let h = both_equal _ _ e in λ i. part.Member (exact_bytes p q h.0 i) (exact_unsigned v w h.1 i)
part_exact (part.Group None) (part.Group None) e = refl
part_exact (part.Group (Some m)) (part.Group (Some n)) e = ap (λ x. part.Group (Some x)) (exact_unsigned m n e)
part_exact (part.Host m) (part.Host n) e = ap part.Host (exact_unsigned m n e)
part_exact a b e = cc

pub spot_exact : IsAntisymmetric spot_cmp
spot_exact (spot.Port p v) (spot.Port q w) e = let h = both_equal _ _ e in λ i. spot.Port (exact_bytes p q h.0 i) (exact_unsigned v w h.1 i)
spot_exact (spot.Switch s p) (spot.Switch t q) e = let h = both_equal _ _ e in λ i. spot.Switch (exact_unsigned s t h.0 i) (part_exact p q h.1 i)
spot_exact (spot.Vni m) (spot.Vni n) e = ap spot.Vni (exact_unsigned m n e)
spot_exact (spot.Set m) (spot.Set n) e = ap spot.Set (exact_unsigned m n e)
spot_exact (spot.Locator m) (spot.Locator n) e = ap spot.Locator (exact_unsigned m n e)
spot_exact (spot.Acl m) (spot.Acl n) e = ap spot.Acl (exact_unsigned m n e)
spot_exact a b e = cc
