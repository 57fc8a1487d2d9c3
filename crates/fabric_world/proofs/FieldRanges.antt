-- Each field that a word gives has a value that its column allows.
use Rattle.std.proofs.Common.{◌≡◌, ℕ, ◌≤◌, ◌+◌, Bool, true, false, List, [], ◌∷◌, Option, Some, None, Result, Ok, Err, take, drop, position, refl, ap, subst, arith}
use Rattle.std.specs.Prelude.{if◌then◌else◌, ◌==◌, unwrap_or, option_map, option_and_then}
use Rattle.vtep_base.specs.Reading.{Bytes}
use Rattle.vtep_base.specs.Addresses.{mac_of}
use Rattle.vtep_base.specs.Chains.{◌>>=◌}
use Rattle.vtep_base.specs.Texts.{ipv4_of}
use Rattle.vtep_base.proofs.AddressLaws.{mac_read_fits}
use Rattle.fabric_world.specs.declared.Refusal.{Refusal}
use Rattle.fabric_world.specs.declared.fields.AclFields.{AclFields}
use Rattle.fabric_world.specs.declared.fields.AclField.{AclField}
use Rattle.fabric_world.specs.declared.fields.AclField.TheVariants.{SourceMac, DestMac, Ethertype, SourceIp, SourceMask, DestIp, DestMask, Protocol, IcmpType, IcmpCode, SourcePortMin, SourcePortMax, DestPortMin, DestPortMax, TcpFlags, TcpFlagsMask}
use Rattle.fabric_world.specs.declared.fields.FieldName.{FieldName}
use Rattle.fabric_world.specs.declared.fields.FieldName.TheVariants as name
use Rattle.fabric_world.specs.Text.{Word}
use Rattle.fabric_world.specs.Acls.{no_fields, has_field, with_field, IsEthertype, AreFlags, IsMac, IsIp, IsByte, IsPort, AreValues}
use Rattle.fabric_world.specs.Fields.{is_hex_word, ethertype_of, byte_of, port_of, flags_of, name_of_field, field_value, field_named, field_of}
use Rattle.fabric_world.specs.Lines.{value_at, Matching, taken, matching_from, each_once, fields_of}
use Rattle.fabric_world.proofs.Ranges.{same_some, upto, ipv4_small}

abbrev IsValue : AclField → Type 0
IsValue (SourceMac v) = IsMac v
IsValue (DestMac v) = IsMac v
IsValue (Ethertype v) = IsEthertype v
IsValue (SourceIp v) = IsIp v
IsValue (SourceMask v) = IsIp v
IsValue (DestIp v) = IsIp v
IsValue (DestMask v) = IsIp v
IsValue (Protocol v) = IsByte v
IsValue (IcmpType v) = IsByte v
IsValue (IcmpCode v) = IsByte v
IsValue (SourcePortMin v) = IsPort v
IsValue (SourcePortMax v) = IsPort v
IsValue (DestPortMin v) = IsPort v
IsValue (DestPortMax v) = IsPort v
IsValue (TcpFlags v) = AreFlags v
IsValue (TcpFlagsMask v) = AreFlags v

-- ---- words

mapped : {A : Type 0} (P : A → Type 0) (Q : AclField → Type 0) (c : A → AclField) (o : Option A) (f : AclField) → ((a : A) → o ≡ Some a → P a) → ((a : A) → P a → Q (c a)) → option_map c o ≡ Some f → Q f
mapped P Q c None f so leads e = absurd (cc)
mapped P Q c (Some a) f so leads e = subst Q (same_some (c a) f e) (leads a (so a refl))

ethertype_is : (word t : Bytes) → ethertype_of word ≡ Some t → IsEthertype t
ethertype_is word t e = by (is_hex_word word) refl e
  where
    by : (b : Bool) → is_hex_word word ≡ b → (if b then Some word else None) ≡ Some t → IsEthertype t
    by true is f = subst IsEthertype (same_some word t f) is
    by false is f = absurd (cc)

byte_is : (word : Bytes) (n : ℕ) → byte_of word ≡ Some n → IsByte n
byte_is word n e = let most : n ≤ 255 = upto 255 n word e in omega (arith, most)

port_is : (word : Bytes) (n : ℕ) → port_of word ≡ Some n → IsPort n
port_is word n e = let most : n ≤ 65535 = upto 65535 n word e in omega (arith, most)

flags_are : (word : Bytes) (n : ℕ) → flags_of word ≡ Some n → AreFlags n
flags_are word n e = upto 511 n word e

value_is : (n : FieldName) (word : Bytes) (f : AclField) → field_value n word ≡ Some f → IsValue f
value_is name.SourceMac word f e = mapped IsMac IsValue (λ v. SourceMac v) (mac_of word) f (λ m is. mac_read_fits word m is) (λ v h. h) e
value_is name.DestMac word f e = mapped IsMac IsValue (λ v. DestMac v) (mac_of word) f (λ m is. mac_read_fits word m is) (λ v h. h) e
value_is name.Ethertype word f e = mapped IsEthertype IsValue (λ v. Ethertype v) (ethertype_of word) f (ethertype_is word) (λ v h. h) e
value_is name.SourceIp word f e = mapped IsIp IsValue (λ v. SourceIp v) (ipv4_of word) f (ipv4_small word) (λ v h. h) e
value_is name.SourceMask word f e = mapped IsIp IsValue (λ v. SourceMask v) (ipv4_of word) f (ipv4_small word) (λ v h. h) e
value_is name.DestIp word f e = mapped IsIp IsValue (λ v. DestIp v) (ipv4_of word) f (ipv4_small word) (λ v h. h) e
value_is name.DestMask word f e = mapped IsIp IsValue (λ v. DestMask v) (ipv4_of word) f (ipv4_small word) (λ v h. h) e
value_is name.Protocol word f e = mapped IsByte IsValue (λ v. Protocol v) (byte_of word) f (byte_is word) (λ v h. h) e
value_is name.IcmpType word f e = mapped IsByte IsValue (λ v. IcmpType v) (byte_of word) f (byte_is word) (λ v h. h) e
value_is name.IcmpCode word f e = mapped IsByte IsValue (λ v. IcmpCode v) (byte_of word) f (byte_is word) (λ v h. h) e
value_is name.SourcePortMin word f e = mapped IsPort IsValue (λ v. SourcePortMin v) (port_of word) f (port_is word) (λ v h. h) e
value_is name.SourcePortMax word f e = mapped IsPort IsValue (λ v. SourcePortMax v) (port_of word) f (port_is word) (λ v h. h) e
value_is name.DestPortMin word f e = mapped IsPort IsValue (λ v. DestPortMin v) (port_of word) f (port_is word) (λ v h. h) e
value_is name.DestPortMax word f e = mapped IsPort IsValue (λ v. DestPortMax v) (port_of word) f (port_is word) (λ v h. h) e
value_is name.TcpFlags word f e = mapped AreFlags IsValue (λ v. TcpFlags v) (flags_of word) f (flags_are word) (λ v h. h) e
value_is name.TcpFlagsMask word f e = mapped AreFlags IsValue (λ v. TcpFlagsMask v) (flags_of word) f (flags_are word) (λ v h. h) e

chained : {A B : Type 0} (Q : B → Type 0) (g : A → Option B) (o : Option A) (f : B) → ((a : A) → g a ≡ Some f → Q f) → option_and_then g o ≡ Some f → Q f
chained Q g None f leads e = absurd (cc)
chained Q g (Some a) f leads e = leads a e

field_is : (word : Bytes) (f : AclField) → field_of word ≡ Some f → IsValue f
field_is word f e =
    chained IsValue (λ n. field_named (take n word) (drop (n + 1) word)) (position (λ b. b == 61) word) f
    (λ n named. chained IsValue (λ k. field_value k (drop (n + 1) word)) (name_of_field (take n word)) f (λ k value. value_is k (drop (n + 1) word) f value) named) e

-- ---- fields

with_keeps : (m : AclFields) (f : AclField) → AreValues m → IsValue f → AreValues (with_field m f)
with_keeps m (SourceMac v) g h = (g.0, (h, g.1.1), g.2, g.3, g.4)
with_keeps m (DestMac v) g h = (g.0, (g.1.0, h), g.2, g.3, g.4)
with_keeps m (Ethertype v) g h = ((h, g.0.1, g.0.2), g.1, g.2, g.3, g.4)
with_keeps m (SourceIp v) g h = (g.0, g.1, (h, g.2.1, g.2.2, g.2.3), g.3, g.4)
with_keeps m (SourceMask v) g h = (g.0, g.1, (g.2.0, h, g.2.2, g.2.3), g.3, g.4)
with_keeps m (DestIp v) g h = (g.0, g.1, (g.2.0, g.2.1, h, g.2.3), g.3, g.4)
with_keeps m (DestMask v) g h = (g.0, g.1, (g.2.0, g.2.1, g.2.2, h), g.3, g.4)
with_keeps m (Protocol v) g h = (g.0, g.1, g.2, (h, g.3.1, g.3.2), g.4)
with_keeps m (IcmpType v) g h = (g.0, g.1, g.2, (g.3.0, h, g.3.2), g.4)
with_keeps m (IcmpCode v) g h = (g.0, g.1, g.2, (g.3.0, g.3.1, h), g.4)
with_keeps m (SourcePortMin v) g h = (g.0, g.1, g.2, g.3, (h, g.4.1, g.4.2, g.4.3))
with_keeps m (SourcePortMax v) g h = (g.0, g.1, g.2, g.3, (g.4.0, h, g.4.2, g.4.3))
with_keeps m (DestPortMin v) g h = (g.0, g.1, g.2, g.3, (g.4.0, g.4.1, h, g.4.3))
with_keeps m (DestPortMax v) g h = (g.0, g.1, g.2, g.3, (g.4.0, g.4.1, g.4.2, h))
with_keeps m (TcpFlags v) g h = ((g.0.0, h, g.0.2), g.1, g.2, g.3, g.4)
with_keeps m (TcpFlagsMask v) g h = ((g.0.0, g.0.1, h), g.1, g.2, g.3, g.4)

either : (b : Bool) (x y : Matching) → AreValues x.0 → AreValues y.0 → AreValues (if b then x else y).0
either true x y g h = g
either false x y g h = h

taken_keeps : (m : Matching) (column : ℕ) (f : AclField) → AreValues m.0 → IsValue f → AreValues (taken m column f).0
taken_keeps m column f g h = either (has_field m.0 f) (m.0, Some (unwrap_or m.1 column)) (with_field m.0 f, m.1) g (with_keeps m.0 f g h)

abbrev ok : {A : Type 0} → A → Result A Refusal
ok a = Ok a

same_answer : {A : Type 0} (a b : A) → ok a ≡ ok b → a ≡ b
same_answer a b e = cc

given : {A B : Type 0} (P : B → Type 0) (r : Result A Refusal) (g : A → Result B Refusal) (b : B) → ((a : A) → r ≡ Ok a → g a ≡ Ok b → P b) → (r >>= g) ≡ Ok b → P b
given P (Err why) g b h e = absurd (cc)
given P (Ok a) g b h e = h a refl e

value_gives : {A : Type 0} (column : ℕ) (o : Option A) (a : A) → value_at column o ≡ Ok a → o ≡ Some a
value_gives column None a e = absurd (cc)
value_gives column (Some b) a e = ap Some (same_answer b a e)

matching_keeps : (ws : List Word) (m n : Matching) → AreValues m.0 → matching_from m ws ≡ ok n → AreValues n.0
matching_keeps [] m n g e = subst (λ (x : Matching). AreValues x.0) (same_answer m n e) g
matching_keeps (w ∷ ws) m n g e =
    given (λ (x : Matching). AreValues x.0) (value_at w.column (field_of w.bytes)) (λ f. matching_from (taken m w.column f) ws) n
    (λ f is rest. matching_keeps ws (taken m w.column f) n (taken_keeps m w.column f g (field_is w.bytes f (value_gives w.column (field_of w.bytes) f is))) rest) e

once_keeps : (m : Matching) (f : AclFields) → AreValues m.0 → each_once m ≡ ok f → AreValues f
once_keeps (fields, None) f g e = subst AreValues (same_answer fields f e) g
once_keeps (fields, Some column) f g e = absurd (cc)

none_given : AreValues no_fields
none_given = ((tt, tt, tt), (tt, tt), (tt, tt, tt, tt), (tt, tt, tt), (tt, tt, tt, tt))

pub fields_are : (ws : List Word) (f : AclFields) → fields_of ws ≡ ok f → AreValues f
fields_are ws f e =
    given AreValues (matching_from (no_fields, None) ws) each_once f (λ m is once. once_keeps m f (matching_keeps ws (no_fields, None) m none_given is) once) e
