-- The texts of identifiers.
use Rattle.std.proofs.Common.{◌≡◌, ℕ, zero, suc, get_or, Bool, true, false, cond, List, length, Option, Some, None, option_map, inl, refl, ap, sym, ◌∙◌, arith}
use Rattle.std.specs.Prelude.{◌==◌, ◌<◌, ◌^◌}
use Rattle.std.specs.Int.{w128, from_be_bytes, to_be_bytes, byte_at, bytes_high_first}
use Rattle.uuid.specs.Text.{parsed, lower}
use Rattle.uuid.proofs.RoundTrips.{parses_hyphenated}
use Rattle.uuid.proofs.OrderLemmas.{from_be_bytes-to_be_bytes_16}
use Rattle.uuid.proofs.TextLemmas.{by_index_length}
use Rattle.ovsdb_values.specs.Notation.{id_of, id_text}

none_of : (b : Bool) (o : Option (List ℕ)) → ((u : List ℕ) → o ≡ Some u → ⊥) → None ≡ cond b (option_map (from_be_bytes w128) o) None
none_of true None h = refl
none_of true (Some u) h = absurd (h u refl)
none_of false o h = refl

pub spells_none : (text : List ℕ) → ((u : List ℕ) → parsed text ≡ Some u → ⊥) → None ≡ id_of text
spells_none text h = none_of (length text == 36) (parsed text) h

byte_small : (k n : ℕ) → byte_at k n < 256
byte_small zero n = omega arith
byte_small (suc k) n = omega arith

small : (k n i d : ℕ) → i < length (bytes_high_first k n) → get_or (bytes_high_first k n) i d < 256
small zero n i d h = absurd (omega arith)
small (suc k) n zero d h = byte_small k n
small (suc k) n (suc i) d h = small k n i d (omega arith)

pub id_back : (u : ℕ) → u < 2 ^ 128 → id_of (id_text u) ≡ Some u
id_back u fits =
    let long : length (id_text u) ≡ 36 = by_index_length 36 _ in
    let read : Some (to_be_bytes w128 u) ≡ parsed (id_text u) = parses_hyphenated lower (to_be_bytes w128 u) (inl refl) refl (small 16 u) in
    ap (λ n. cond (n == 36) (option_map (from_be_bytes w128) (parsed (id_text u))) None) long ∙ ap (option_map (from_be_bytes w128)) (sym read) ∙ ap Some (from_be_bytes-to_be_bytes_16 u fits)
