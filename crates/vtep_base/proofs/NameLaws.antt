-- A name is read as it stands.
use Rattle.std.proofs.Common.{◌≡◌, ℕ, ◌+◌, ◌<◌, ◌≤◌, Bool, true, false, ◌&&◌, nat_le, nat_lt, ◌==◌, if◌then◌else◌, [], ◌∷◌, ◌++◌, ◌⊎◌, inl, inr, length, length-append, drop, replicate, Some, None, Err, refl, sym, ap, ◌∙◌, append_assoc, append-nil, arith}
use Rattle.std.proofs.lemmas.Bool.Decides.{nat_tests}
use Rattle.std.proofs.lemmas.List.{drop-replicate, length-drop, length-replicate}
use Rattle.std.proofs.Math.Seq.{take-append_seam, drop-append_seam}
use Rattle.std.proofs.lemmas.List.Folds.{list_all-append}
use Rattle.std.specs.List.{list_all}
use Rattle.std.specs.Option.{option_and_then}
use Rattle.std.proofs.lemmas.Option.{option_and_then_some}
use Rattle.vtep_base.specs.Reading.{Bytes, IsLongestFront}
use Rattle.vtep_base.specs.NameCells.{IsHeld, BeginsName, read_upto}
use Rattle.vtep_base.specs.Texts.{is_name_byte, name_step, name_done, read_name, name_of, is_name}
use Rattle.vtep_base.proofs.LongestFront.{is_longest}
use Rattle.vtep_base.proofs.Completed.{name_completes}
use Rattle.vtep_base.proofs.Runs.{runs, runs_one, runs_spelled, read_runs}

one_byte : (front : Bytes) (c : ℕ) → is_name_byte c ≡ true → length front < 64 → name_step front c ≡ Some (front ++ c ∷ [])
one_byte front c e room = rw e (grind (arith, nat_tests, room))

both : (a b : Bool) → (a && b) ≡ true → (a ≡ true) × (b ≡ true)
both true b e = (refl, e)
both false b e = absurd (cc)

bytes_run : (front rest : Bytes) → list_all is_name_byte rest ≡ true → length front + length rest ≤ 64 → runs name_step front rest ≡ Some (front ++ rest)
bytes_run front [] all room = ap Some (sym (append-nil front))
bytes_run front (c ∷ cs) all room =
    let byte : is_name_byte c ≡ true = (both (is_name_byte c) (list_all is_name_byte cs) all).0 in
    let rest : list_all is_name_byte cs ≡ true = (both (is_name_byte c) (list_all is_name_byte cs) all).1 in
    runs_one name_step front (front ++ c ∷ []) (front ++ c ∷ cs) c cs (one_byte front c byte (omega (arith, room)))
    (bytes_run (front ++ c ∷ []) cs rest (omega (arith, room, length-append front (c ∷ []))) ∙ ap Some (append_assoc front (c ∷ []) cs))

-- the letters are held in the front of the cells
pub held_text : (text front behind : Bytes) → length text ≤ 64 → list_all is_name_byte text ≡ true → front ≡ text → behind ≡ drop (length text) (replicate 64 0) → IsHeld (record { text = front ++ behind; len = length text })
held_text text front behind short all same zeros =
    let cells : Bytes = replicate 64 0 in
    rw same (rw zeros (record {
      room = omega (arith, short, length-append text (drop (length text) cells), length-drop (length text) cells, length-replicate {A = ℕ} 64 0);
      within = short;
      bytes = rw (take-append_seam text (drop (length text) cells)) all;
      zeros = drop-append_seam text (drop (length text) cells) ∙ drop-replicate (length text) 64 0;
    }))

-- where no name is read, the front that begins one ends
pub not_read : (text : Bytes) (n : ℕ) → BeginsName text n → (n ≡ 0) ⊎ (n < length text) → read_name text ≡ Err n
not_read text n b (inl none) = b.read ∙ first text n none ∙ ap Err (sym none)
  where
    first : (text : Bytes) (n : ℕ) → n ≡ 0 → read_upto text n ≡ Err 0
    first [] n e = rw e refl
    first (c ∷ cs) n e = let some : (n == length (c ∷ cs)) ≡ false = grind (arith, nat_tests, e) in rw some (ap Err e)
not_read text n b (inr below) = let other : (n == length text) ≡ false = grind (arith, nat_tests, below) in b.read ∙ rw other refl

pub not_read_longest : (text : Bytes) (n : ℕ) → BeginsName text n → (n ≡ 0) ⊎ (n < length text) → IsLongestFront name_of text n
not_read_longest text n b stops = is_longest name_step name_done name_completes text n [] (not_read text n b stops)

pub record IsName (text : Bytes) : Type 0 where
  pub some : 0 < length text
  pub short : length text ≤ 64
  pub bytes : list_all is_name_byte text ≡ true

pub is_name_means : (text : Bytes) → is_name text ≡ true → IsName text
is_name_means text e =
    let sizes = both (nat_le 1 (length text) && nat_le (length text) 64) (list_all is_name_byte text) e in
    let size = sizes.0 in
    record { some = grind (arith, nat_tests, size); short = grind (arith, nat_tests, size); bytes = sizes.1 }

pub is_name_by : (text : Bytes) → 0 < length text → length text ≤ 64 → list_all is_name_byte text ≡ true → is_name text ≡ true
is_name_by text some short all = rw all (grind (arith, nat_tests, some, short))

pub name_printed_is_read : (name : Bytes) → is_name name ≡ true → name_of name ≡ Some name
name_printed_is_read name e =
    let is = is_name_means name e in
    let some = is.some in
    let filled : (length name == 0) ≡ false = grind (arith, nat_tests, some) in
    read_runs name_step name_done 0 [] name ∙ ap (option_and_then name_done) (bytes_run [] name is.bytes (omega (arith, is.short))) ∙ rw filled refl

record IsFront (front : Bytes) : Type 0 where
  short : length front ≤ 64
  bytes : list_all is_name_byte front ≡ true

stepped : (b : Bool) (front next : Bytes) (c : ℕ) → (is_name_byte c && nat_lt (length front) 64) ≡ b → (if b then Some (front ++ c ∷ []) else None) ≡ Some next → IsFront front → IsFront next × (next ≡ front ++ c ∷ [])
stepped true front next c t e is =
    let tests = both (is_name_byte c) (nat_lt (length front) 64) t in
    let room = tests.1 in
    let below : length front < 64 = grind (arith, nat_tests, room) in
    let same : front ++ c ∷ [] ≡ next = cc in
    rw (sym same) (record { short = omega (arith, below, length-append front (c ∷ [])); bytes = rw (list_all-append, is.bytes, tests.0) refl }, refl)
stepped false front next c t e is = absurd (cc)

ended : (b : Bool) (front name : Bytes) → (length front == 0) ≡ b → (if b then None else Some front) ≡ Some name → (name ≡ front) × (0 < length front)
ended true front name t e = absurd (cc)
ended false front name t e = (cc, grind (arith, nat_tests, t))

module _ (text name : Bytes) (e : name_of text ≡ Some name) where
  whole : (name ≡ text) × (is_name name ≡ true)
  whole = option_and_then_some name_done (runs name_step [] text) name (sym (read_runs name_step name_done 0 [] text) ∙ e) (λ s is done.
      let r = runs_spelled name_step (λ f. f) IsFront (λ f g c k. stepped _ f g c refl k) [] s text is (record { short = omega arith; bytes = refl }) in
      let d = ended _ s name refl done in
      (d.0 ∙ r.1, rw d.0 (is_name_by s d.1 r.0.short r.0.bytes)))

  pub name_read_is_printed : name ≡ text
  name_read_is_printed = whole.0

  pub name_read_is_name : is_name name ≡ true
  name_read_is_name = whole.1
