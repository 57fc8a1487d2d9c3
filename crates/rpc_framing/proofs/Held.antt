-- The rest of a stream, behind white space.
use Rattle.std.proofs.Common.{◌≡◌, ℕ, zero, suc, Bool, true, false, cond, [], ◌∷◌, drop, refl, sym, ap, subst, ◌∙◌, arith, true≢false}
use Rattle.vtep_base.specs.Reading.{Bytes}
use Rattle.rpc_framing.specs.declared.scan.Cursor.{Cursor}
use Rattle.rpc_framing.specs.declared.scan.End.TheVariants.{Open}
use Rattle.rpc_framing.specs.Scan.{IsHeld}
use Rattle.rpc_framing.specs.Streams.{white, unwhite, is_white}

same_open : (c d : Cursor) → Open c ≡ Open d → c ≡ d
same_open c d e = cc

-- nothing was looked at
fresh : (limit : ℕ) (rest other : Bytes) (c : Cursor) → IsHeld limit rest 0 c → IsHeld limit other 0 c
fresh limit rest other c h = record {
  scanned = record { within = omega arith; shallow = h.scanned.shallow; so_far = h.scanned.so_far };
  begun = λ more. absurd (omega (arith, more));
}

white_first : (limit b count : ℕ) (bs : Bytes) (c : Cursor) → IsHeld limit (b ∷ bs) count c → is_white b ≡ true → count ≡ 0
white_first limit b zero bs c h e = refl
white_first limit b (suc n) bs c h e =
    let first : b ≡ 123 = h.begun (omega arith) in
    absurd (true≢false (sym e ∙ ap is_white first))

pub held_behind_white : (limit : ℕ) (rest : Bytes) (count : ℕ) (c : Cursor) → IsHeld limit rest count c → IsHeld limit (unwhite rest) count c
held_behind_white limit [] count c h = h
held_behind_white limit (b ∷ bs) count c h = by (is_white b) refl
  where
    by : (t : Bool) → is_white b ≡ t → IsHeld limit (drop (cond t (suc (white bs)) 0) (b ∷ bs)) count c
    by true e = let none : count ≡ 0 = white_first limit b count bs c h e in rw none (fresh limit (b ∷ bs) (drop (white bs) bs) c (subst (λ n. IsHeld limit (b ∷ bs) n c) none h))
    by false e = h
