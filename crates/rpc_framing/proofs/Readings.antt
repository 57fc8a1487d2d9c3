-- What bytes are read as.
use Rattle.std.proofs.Common.{◌≡◌, Some, None, Bool, true, false, cond, refl}
use Rattle.std.specs.Str.{IsUtf8, is_utf8}
use Rattle.std.proofs.lemmas.Str.{IsUtf8-from_is_utf8, is_utf8-from_IsUtf8}
use Rattle.serde_json.specs.Data.{Data}
use Rattle.serde_json.specs.Read.{read}
use Rattle.vtep_base.specs.Reading.{Bytes}
use Rattle.rpc_framing.specs.Said.{reading}

pub is_read : (text : Bytes) (d : Data) → IsUtf8 text → read text ≡ Some d → reading text ≡ Some d
is_read text d utf8 e = rw (is_utf8-from_IsUtf8 text utf8) e

pub is_unread : (text : Bytes) → (IsUtf8 text → read text ≡ None) → reading text ≡ None
is_unread text e = by (is_utf8 text) (λ t. e (IsUtf8-from_is_utf8 text t))
  where
    by : (t : Bool) → (t ≡ true → read text ≡ None) → cond t (read text) None ≡ None
    by true f = f refl
    by false f = refl
