-- How a name is held: its letters in the first of 64 cells, and zeros behind them.
use Rattle.std.specs.Prelude.{◌≡◌, ℕ, ◌-◌, ◌≤◌, true, ◌==◌, if◌then◌else◌, Result, Err, List, ◌++◌, length, take, drop, replicate}
use Rattle.std.proofs.Common.{sym, ap, ◌∙◌, arith}
use Rattle.std.proofs.lemmas.List.{length-take-le, take-append-drop}
use Rattle.std.specs.List.{list_all}
use Rattle.vtep_base.specs.Reading.{Bytes, value_or}
use Rattle.vtep_base.specs.Texts.{is_name_byte, name_done, read_name}
use Rattle.vtep_base.specs.declared.names.Letters.TheInside.{Inside}

abbrev pub text_of : Inside → List ℕ
text_of n = take n.len n.text

pub record IsHeld (n : Inside) : Type 0 where
  pub room : length n.text ≡ 64
  pub within : n.len ≤ 64
  pub bytes : list_all is_name_byte (take n.len n.text) ≡ true
  pub zeros : drop n.len n.text ≡ replicate (64 - n.len) 0

abbrev pub cells_of : List ℕ → Inside
cells_of text = record { text = text ++ replicate (64 - length text) 0; len = length text }

pub cells_of-text_of : (n : Inside) → IsHeld n → cells_of (text_of n) ≡ n
cells_of-text_of n h =
    let inside : n.len ≤ length n.text = omega (arith, h.room, h.within) in
    let len : length (take n.len n.text) ≡ n.len = length-take-le n.len n.text inside in
    let text : take n.len n.text ++ replicate (64 - n.len) 0 ≡ n.text = ap (λ z. take n.len n.text ++ z) (sym h.zeros) ∙ take-append-drop n.len n.text in
    ap (λ k. record { text = take n.len n.text ++ replicate (64 - k) 0; len = k }) len ∙ ap (λ t. record { text = t; len = n.len }) text

-- what reading gives where so many bytes begin a name
abbrev pub read_upto : Bytes → ℕ → Result Bytes ℕ
read_upto text n = if n == length text then value_or n (name_done text) else Err n

-- the longest front of the text that begins a name has n bytes
pub record BeginsName (text : Bytes) (n : ℕ) : Type 0 where
  pub within : n ≤ length text
  pub short : n ≤ 64
  pub bytes : list_all is_name_byte (take n text) ≡ true
  pub read : read_name text ≡ read_upto text n
