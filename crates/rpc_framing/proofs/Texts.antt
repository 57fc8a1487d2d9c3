-- How the text of a message is put together.
use Rattle.std.proofs.Common.{◌≡◌, Bool, true, false, [], ◌++◌, Result, Ok, Err, OnOk, codes, refl}
use Rattle.std.specs.Prelude.{◌||◌}
use Rattle.json.specs.Print.{quoted, escape_byte}
use Rattle.serde_json.specs.Data.{Data}
use Rattle.serde_json.specs.Written.{compact_text, has_float}
use Rattle.vtep_base.specs.Reading.{Bytes}
use Rattle.rpc_framing.specs.Written.{called_json, answer_json}

-- the text of a value that has no float
abbrev pub IsTextOf : Bytes → Data → Type 0
IsTextOf text d = has_float d ≡ false → text ≡ compact_text d

none_of : (a b c : Bool) → a || (b || (c || false)) ≡ false → (a ≡ false) × (b ≡ false) × (c ≡ false)
none_of true b c e = absurd (cc)
none_of false true c e = absurd (cc)
none_of false false true e = absurd (cc)
none_of false false false e = (refl, refl, refl)

none_of_two : (a b : Bool) → a || (false || (b || false)) ≡ false → (a ≡ false) × (b ≡ false)
none_of_two true b e = absurd (cc)
none_of_two false true e = absurd (cc)
none_of_two false false e = (refl, refl)

pub answer_text : (result error id : Data) (r e i : Bytes) → IsTextOf r result → IsTextOf e error → IsTextOf i id → has_float (answer_json result error id) ≡ false
    → codes "{\"error\":" ++ (e ++ (codes ",\"id\":" ++ (i ++ (codes ",\"result\":" ++ (r ++ (codes "}" ++ [])))))) ≡ compact_text (answer_json result error id)
unfolding escape_byte
answer_text result error id r e i hr he hi none =
    let each = none_of (has_float error) (has_float id) (has_float result) none in
    rw (hr each.2, he each.0, hi each.1) refl

pub called_text : (method : Bytes) (params id : Data) (m p i : Bytes) → m ≡ quoted method → IsTextOf p params → IsTextOf i id → has_float (called_json method params id) ≡ false
    → codes "{\"id\":" ++ (i ++ (codes ",\"method\":" ++ (m ++ (codes ",\"params\":" ++ (p ++ (codes "}" ++ [])))))) ≡ compact_text (called_json method params id)
unfolding escape_byte
called_text method params id m p i hm hp hi none =
    let each = none_of_two (has_float id) (has_float params) none in
    rw (hm, hp each.1, hi each.0) refl

pub on_ok : {A E : Type 0} {P Q : Type 0} (r : Result A E) → (P → Q) → OnOk r P → OnOk r Q
on_ok (Ok a) f p = f p
on_ok (Err e) f p = tt
