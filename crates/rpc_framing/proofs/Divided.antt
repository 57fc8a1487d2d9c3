-- What comes from a stream is what stands in it.
use Rattle.std.proofs.Common.{◌≡◌, ℕ, zero, suc, ◌+◌, ◌≤◌, Bool, true, false, cond, List, [], ◌∷◌, ◌++◌, length, take, drop, Option, Some, None, refl, sym, ap, subst, ◌∙◌, arith, inl, inr}
use Rattle.std.specs.Prelude.{◌==◌}
use Rattle.std.proofs.Math.Seq.{drop-append_seam}
use Rattle.std.proofs.lemmas.Bool.Decides.{nat_tests}
use Rattle.std.proofs.lemmas.List.{take-append-drop, length-take-le}
use Rattle.serde_json.specs.Data.{Data}
use Rattle.vtep_base.specs.Reading.{Bytes}
use Rattle.rpc_framing.specs.declared.FramingKind.{FramingKind}
use Rattle.rpc_framing.specs.declared.FramingKind.TheVariants.{NotObject, TooDeep, TooLong, BadJson, BadMessage}
use Rattle.rpc_framing.specs.declared.scan.Cursor.{Cursor}
use Rattle.rpc_framing.specs.declared.scan.End.{End}
use Rattle.rpc_framing.specs.declared.scan.End.TheVariants.{At, Open, Refused}
use Rattle.rpc_framing.specs.Said.{Message, Says, message_of, reading}
use Rattle.rpc_framing.specs.Scan.{after_byte, end_from, end_of, at_start}
use Rattle.rpc_framing.specs.Streams.{Stream, white, unwhite, is_white, past, Front, Waiting, Bad, Text, front, text_front, read_front, judged, refusal, Gives, next, next_by}
use Rattle.rpc_framing.specs.Pieces.{IsEnd, Comes}
use Rattle.rpc_framing.specs.Division.{HasWhite, HasBrace, HasText, IsOpen, HasBegun, HasFalse, HasFault, IsNext, stream_from, Rests, Fails, Divides, WhatStandsComes}
use Rattle.rpc_framing.proofs.Scanned.{step, take_all}
use Rattle.rpc_framing.proofs.Kept.{IsFound, front_kept, IsWithin, ends_within, past_past}

-- ---- white space

same_count : (a b : ℕ) → suc a ≡ suc b → a ≡ b
same_count a b e = omega (arith, e)

white_of : (space rest : Bytes) → white space ≡ length space → white rest ≡ 0 → white (space ++ rest) ≡ length space
white_of [] rest blank e = e
white_of (b ∷ space) rest blank e = by (is_white b) blank (λ h. white_of space rest h e)
  where
    by : (t : Bool) → cond t (suc (white space)) 0 ≡ suc (length space) → (white space ≡ length space → white (space ++ rest) ≡ length space)
        → cond t (suc (white (space ++ rest))) 0 ≡ suc (length space)
    by true h more = ap suc (more (same_count (white space) (length space) h))
    by false h more = absurd (omega (arith, h))

-- the white space in front
blank_of : (stream : Bytes) → white (take (white stream) stream) ≡ length (take (white stream) stream)
blank_of [] = refl
blank_of (b ∷ bs) = by (is_white b) refl (blank_of bs)
  where
    by : (t : Bool) → is_white b ≡ t → white (take (white bs) bs) ≡ length (take (white bs) bs)
        → white (take (cond t (suc (white bs)) 0) (b ∷ bs)) ≡ length (take (cond t (suc (white bs)) 0) (b ∷ bs))
    by true e more = rw e (ap suc more)
    by false e more = refl

none_behind : (stream : Bytes) → white (unwhite stream) ≡ 0
none_behind [] = refl
none_behind (b ∷ bs) = by (is_white b) refl (none_behind bs)
  where
    by : (t : Bool) → is_white b ≡ t → white (unwhite bs) ≡ 0 → white (drop (cond t (suc (white bs)) 0) (b ∷ bs)) ≡ 0
    by true e more = more
    by false e more = rw e refl

white_within : (stream : Bytes) → white stream ≤ length stream
white_within [] = omega arith
white_within (b ∷ bs) = by (is_white b) (white_within bs)
  where
    by : (t : Bool) → white bs ≤ length bs → cond t (suc (white bs)) 0 ≤ suc (length bs)
    by true h = omega (arith, h)
    by false h = omega arith

has_white : (stream : Bytes) → HasWhite stream (take (white stream) stream) (unwhite stream)
has_white stream = record { parts = sym (take-append-drop (white stream) stream); blank = blank_of stream; ends = none_behind stream }

white_length : (stream : Bytes) → length (take (white stream) stream) ≡ white stream
white_length stream = length-take-le (white stream) stream (white_within stream)

-- what comes of a stream is what its front behind the white space gives
next_behind : (limit at : ℕ) (stream space bytes : Bytes) (f : Front) → HasWhite stream space bytes → front limit bytes ≡ f → next (stream_from limit stream at) ≡ next_by limit bytes (past at (length space)) f
next_behind limit at stream space bytes f h e =
    ap (λ b. next (stream_from limit b at)) h.parts ∙ rw (white_of space bytes h.blank h.ends, drop-append_seam space bytes, e) refl

-- ---- the front

-- the text up to where its end is found has its end there
at_length : (m n : ℕ) → At m ≡ At n → m ≡ n
at_length m n e = cc

no_length : (limit i : ℕ) (c : Cursor) (bytes : Bytes) → end_from limit c i bytes ≡ At (i + 0) → ⊥
no_length limit i c bytes e = let h = subst (IsWithin i (i + length bytes)) e (ends_within limit i c bytes) in omega (arith, h.0)

cut_at_end : (limit i k : ℕ) (c : Cursor) (bytes : Bytes) → end_from limit c i bytes ≡ At (i + k) → end_from limit c i (take k bytes) ≡ At (i + k)
cut_at_end limit i zero c bytes e = absurd (no_length limit i c bytes e)
cut_at_end limit i (suc k) c [] e = absurd (cc)
cut_at_end limit i (suc k) c (x ∷ bytes) e =
    by ((after_byte c x).depth == 65) (i == limit) ((after_byte c x).depth == 0) e (λ h. cut_at_end limit (i + 1) k (after_byte c x) bytes h)
  where
    shift : i + 1 + k ≡ i + suc k
    shift = omega arith

    by : (deep long closed : Bool) → step deep long closed i (end_from limit (after_byte c x) (i + 1) bytes) ≡ At (i + suc k)
        → (end_from limit (after_byte c x) (i + 1) bytes ≡ At (i + 1 + k) → end_from limit (after_byte c x) (i + 1) (take k bytes) ≡ At (i + 1 + k))
        → step deep long closed i (end_from limit (after_byte c x) (i + 1) (take k bytes)) ≡ At (i + suc k)
    by true long closed e more = absurd (cc)
    by false true closed e more = absurd (cc)
    by false false true e more = e
    by false false false e more = more (e ∙ ap At (sym shift)) ∙ ap At shift

-- a text whose end is found is a whole one, and more
has_text : (limit n : ℕ) (tail : Bytes) → end_of limit (123 ∷ tail) ≡ At n → HasText limit (123 ∷ tail) (take n (123 ∷ tail)) (drop n (123 ∷ tail))
has_text limit zero tail e = absurd (no_length limit 0 at_start (123 ∷ tail) e)
has_text limit (suc k) tail e =
    let within = subst (IsWithin 0 (0 + length (123 ∷ tail))) e (ends_within limit 0 at_start (123 ∷ tail)) in
    let zero_more : 0 + suc k ≡ suc k = omega arith in
    record {
      parts = sym (take-append-drop (suc k) (123 ∷ tail));
      begins = (take k tail, refl);
      whole = cut_at_end limit 0 (suc k) at_start (123 ∷ tail) (e ∙ ap At (sym zero_more)) ∙ ap At (zero_more ∙ sym (length-take-le (suc k) (123 ∷ tail) (omega (arith, within.1))));
    }

-- what a front says
abbrev IsFront : ℕ → Bytes → Front → Type 0
IsFront limit bytes Waiting = HasBegun limit bytes
IsFront limit bytes (Bad place kind) = HasFault limit bytes place kind
IsFront limit bytes (Text n m) = (text : Bytes) × (more : Bytes) × HasText limit bytes text more × Says text m × (n ≡ length text)

text_says : (limit n : ℕ) (tail : Bytes) (o : Option Data) → end_of limit (123 ∷ tail) ≡ At n → reading (take n (123 ∷ tail)) ≡ o → IsFront limit (123 ∷ tail) (read_front n o)
text_says limit n tail None e r = (refl, (take n (123 ∷ tail), drop n (123 ∷ tail), has_text limit n tail e, r))
text_says limit n tail (Some d) e r = by (message_of d) refl
  where
    by : (o : Option Message) → message_of d ≡ o → IsFront limit (123 ∷ tail) (judged n o)
    by None m = (refl, (take n (123 ∷ tail), drop n (123 ∷ tail), has_text limit n tail e, (d, r, m)))
    by (Some x) m =
        let within = subst (IsWithin 0 (0 + length (123 ∷ tail))) e (ends_within limit 0 at_start (123 ∷ tail)) in
        (take n (123 ∷ tail), drop n (123 ∷ tail), has_text limit n tail e, (d, r, m), sym (length-take-le n (123 ∷ tail) (omega (arith, within.1))))

-- a bracket or a length is refused, and nothing else on the way to the end
abbrev IsOfScan : End → Type 0
IsOfScan (Refused i TooDeep) = Unit {0}
IsOfScan (Refused i TooLong) = Unit {0}
IsOfScan (Refused i kind) = ⊥
IsOfScan _ = Unit {0}

of_scan : (limit i : ℕ) (c : Cursor) (bytes : Bytes) → IsOfScan (end_from limit c i bytes)
of_scan limit i c [] = tt
of_scan limit i c (x ∷ bytes) = by ((after_byte c x).depth == 65) (i == limit) ((after_byte c x).depth == 0) (of_scan limit (i + 1) (after_byte c x) bytes)
  where
    by : (deep long closed : Bool) → IsOfScan (end_from limit (after_byte c x) (i + 1) bytes) → IsOfScan (step deep long closed i (end_from limit (after_byte c x) (i + 1) bytes))
    by true long closed h = tt
    by false true closed h = tt
    by false false true h = tt
    by false false false h = h

brace_says : (limit : ℕ) (tail : Bytes) (e : End) → end_of limit (123 ∷ tail) ≡ e → IsFront limit (123 ∷ tail) (text_front (123 ∷ tail) e)
brace_says limit tail (Open c) e = (refl, subst IsOpen (sym e) tt)
brace_says limit tail (At n) e = text_says limit n tail (reading (take n (123 ∷ tail))) e refl
brace_says limit tail (Refused i kind) e = by kind e (subst IsOfScan e (of_scan limit 0 at_start (123 ∷ tail)))
  where
    by : (kind : FramingKind) → end_of limit (123 ∷ tail) ≡ Refused i kind → IsOfScan (Refused i kind) → HasFault limit (123 ∷ tail) i kind
    by TooDeep e h = ((tail, refl), e)
    by TooLong e h = ((tail, refl), e)
    by NotObject e h = absurd h
    by BadJson e h = absurd h
    by BadMessage e h = absurd h

is_brace : (b : ℕ) → (b == 123) ≡ true → b ≡ 123
is_brace b e = grind (arith, nat_tests)

is_none : (b : ℕ) → (b == 123) ≡ false → b ≡ 123 → ⊥
is_none b e h = grind (arith, nat_tests)

no_brace : (b : ℕ) → (b ≡ 123 → ⊥) → (b == 123) ≡ false
no_brace b h = grind (arith, nat_tests)

front_says : (limit : ℕ) (bytes : Bytes) → IsFront limit bytes (front limit bytes)
front_says limit [] = tt
front_says limit (b ∷ bs) = by (b == 123) refl
  where
    by : (t : Bool) → (b == 123) ≡ t → IsFront limit (b ∷ bs) (cond t (text_front (b ∷ bs) (end_of limit (b ∷ bs))) (Bad 0 NotObject))
    by true e = subst (λ x. IsFront limit (x ∷ bs) (text_front (x ∷ bs) (end_of limit (x ∷ bs)))) (sym (is_brace b e)) (brace_says limit bs (end_of limit (123 ∷ bs)) refl)
    by false e = (refl, b, bs, refl, is_none b e)

-- a front of bytes that begin with a brace
brace_front : (limit : ℕ) (tail : Bytes) (e : End) → end_of limit (123 ∷ tail) ≡ e → front limit (123 ∷ tail) ≡ text_front (123 ∷ tail) e
brace_front limit tail e is = ap (text_front (123 ∷ tail)) is

whole_front : (limit : ℕ) (text : Bytes) (o : Option Data) → HasBrace text → end_of limit text ≡ At (length text) → reading text ≡ o → front limit text ≡ read_front (length text) o
whole_front limit text o brace whole r = rw brace.1 (by (subst (λ t. end_of limit t ≡ At (length t)) brace.1 whole) (subst (λ t. reading t ≡ o) brace.1 r))
  where
    by : end_of limit (123 ∷ brace.0) ≡ At (length (123 ∷ brace.0)) → reading (123 ∷ brace.0) ≡ o → front limit (123 ∷ brace.0) ≡ read_front (length (123 ∷ brace.0)) o
    by whole r = brace_front limit brace.0 (At (length (123 ∷ brace.0))) whole ∙ ap (read_front (length (123 ∷ brace.0))) (ap reading (take_all (123 ∷ brace.0)) ∙ r)

-- the front of a whole text stays before more bytes
whole_then_more : (limit : ℕ) (bytes text more : Bytes) (f : Front) → HasText limit bytes text more → IsFound f → front limit text ≡ f → front limit bytes ≡ f
whole_then_more limit bytes text more f has found e = ap (front limit) has.parts ∙ front_kept limit text more (subst IsFound (sym e) found) ∙ e

bad_json : (limit : ℕ) (bytes : Bytes) → HasFalse limit bytes (λ text. reading text ≡ None) → front limit bytes ≡ Bad 0 BadJson
bad_json limit bytes h = whole_then_more limit bytes h.0 h.1 (Bad 0 BadJson) h.2 tt (whole_front limit h.0 None h.2.begins h.2.whole h.3)

bad_message : (limit : ℕ) (bytes : Bytes) → HasFalse limit bytes (λ text. (d : Data) × (reading text ≡ Some d) × (message_of d ≡ None)) → front limit bytes ≡ Bad 0 BadMessage
bad_message limit bytes h =
    whole_then_more limit bytes h.0 h.1 (Bad 0 BadMessage) h.2 tt (whole_front limit h.0 (Some h.3.0) h.2.begins h.2.whole h.3.1 ∙ ap (judged (length h.0)) h.3.2)

text_front_is : (limit : ℕ) (bytes text more : Bytes) (m : Message) → HasText limit bytes text more → Says text m → front limit bytes ≡ Text (length text) m
text_front_is limit bytes text more m has says =
    whole_then_more limit bytes text more (Text (length text) m) has tt (whole_front limit text (Some says.0) has.begins has.whole says.1 ∙ ap (judged (length text)) says.2)

begun_front : (limit : ℕ) (bytes : Bytes) → HasBegun limit bytes → front limit bytes ≡ Waiting
begun_front limit [] h = refl
begun_front limit (b ∷ bs) h = subst (λ x. IsOpen (end_of limit (x ∷ bs)) → front limit (x ∷ bs) ≡ Waiting) (sym h.0) (by (end_of limit (123 ∷ bs)) refl) h.1
  where
    by : (e : End) → end_of limit (123 ∷ bs) ≡ e → IsOpen (end_of limit (123 ∷ bs)) → front limit (123 ∷ bs) ≡ Waiting
    by (Open c) e h = brace_front limit bs (Open c) e
    by (At n) e h = absurd (subst IsOpen e h)
    by (Refused i k) e h = absurd (subst IsOpen e h)

refused_front : (limit : ℕ) (bytes : Bytes) (place : ℕ) (kind : FramingKind) → HasBrace bytes → end_of limit bytes ≡ Refused place kind → front limit bytes ≡ Bad place kind
refused_front limit bytes place kind brace e = ap (front limit) brace.1 ∙ brace_front limit brace.0 (Refused place kind) (subst (λ t. end_of limit t ≡ Refused place kind) brace.1 e)

fault_front : (limit : ℕ) (bytes : Bytes) (place : ℕ) (kind : FramingKind) → HasFault limit bytes place kind → front limit bytes ≡ Bad place kind
fault_front limit bytes place NotObject h = ap (front limit) h.3 ∙ by h.1 h.2 h.4 ∙ ap (λ i. Bad i NotObject) (sym h.0)
  where
    by : (b : ℕ) (tail : Bytes) → (b ≡ 123 → ⊥) → front limit (b ∷ tail) ≡ Bad 0 NotObject
    by b tail h = rw (no_brace b h) refl
fault_front limit bytes place TooDeep h = refused_front limit bytes place TooDeep h.0 h.1
fault_front limit bytes place TooLong h = refused_front limit bytes place TooLong h.0 h.1
fault_front limit bytes place BadJson h = bad_json limit bytes h.1 ∙ ap (λ i. Bad i BadJson) (sym h.0)
fault_front limit bytes place BadMessage h = bad_message limit bytes h.1 ∙ ap (λ i. Bad i BadMessage) (sym h.0)

-- ---- the whole stream

pub next_stands : (limit at : ℕ) (stream more : Bytes) (m : Message) (d : IsNext limit stream m more)
    → next (stream_from limit stream at) ≡ record { answer = Gives m; left = stream_from limit more (past at (length d.space + length d.text)) }
next_stands limit at stream more m d =
    next_behind limit at stream d.space d.bytes (Text (length d.text) m) d.behind (text_front_is limit d.bytes d.text more m d.has d.says)
    ∙ ap (λ b. record { answer = Gives m; left = stream_from limit b (past (past at (length d.space)) (length d.text)) }) (ap (drop (length d.text)) d.has.parts ∙ drop-append_seam d.text more)
    ∙ ap (λ a. record { answer = Gives m; left = stream_from limit more a }) (past_past at (length d.space) (length d.text))

rests_come : (limit at : ℕ) (stream : Bytes) (end : Stream) → Rests limit at stream end → Comes (stream_from limit stream at) [] end
rests_come limit at stream end r =
    subst (λ n. IsEnd n.answer × (n.left ≡ end)) (sym (next_behind limit at stream r.space r.bytes Waiting r.behind (begun_front limit r.bytes r.begun))) (tt, sym r.left)

fails_come : (limit at : ℕ) (stream : Bytes) (end : Stream) → Fails limit at stream end → Comes (stream_from limit stream at) [] end
fails_come limit at stream end f =
    subst (λ n. IsEnd n.answer × (n.left ≡ end)) (sym (next_behind limit at stream f.space f.bytes (Bad f.place f.kind) f.behind (fault_front limit f.bytes f.place f.kind f.fault)))
    (tt, ap (λ o. (refusal limit (record { offset = o; kind = f.kind })).left) (past_past at (length f.space) f.place) ∙ sym f.left)

to_comes : (limit at : ℕ) (stream : Bytes) (ms : List Message) (end : Stream) → Divides limit at stream ms end → Comes (stream_from limit stream at) ms end
to_comes limit at stream [] end (inl r) = rests_come limit at stream end r
to_comes limit at stream [] end (inr f) = fails_come limit at stream end f
to_comes limit at stream (m ∷ ms) end d =
    subst (λ n. (n.answer ≡ Gives m) × Comes n.left ms end) (sym (next_stands limit at stream d.0 m d.1)) (refl, to_comes limit (past at (length d.1.space + length d.1.text)) d.0 ms end d.2)

same_message : (a b : Message) → Gives a ≡ Gives b → a ≡ b
same_message a b e = cc

-- what comes of a stream, behind its white space
front_comes : (limit at : ℕ) (stream : Bytes) → next (stream_from limit stream at) ≡ next_by limit (unwhite stream) (past at (length (take (white stream) stream))) (front limit (unwhite stream))
front_comes limit at stream = next_behind limit at stream (take (white stream) stream) (unwhite stream) (front limit (unwhite stream)) (has_white stream) refl

pub next_of : (limit at : ℕ) (stream : Bytes) (m : Message) → (next (stream_from limit stream at)).answer ≡ Gives m → (more : Bytes) × IsNext limit stream m more
next_of limit at stream m c = by (front limit (unwhite stream)) (front_says limit (unwhite stream)) (subst (λ n. n.answer ≡ Gives m) (front_comes limit at stream) c)
  where
    by : (f : Front) → IsFront limit (unwhite stream) f → (next_by limit (unwhite stream) (past at (length (take (white stream) stream))) f).answer ≡ Gives m → (more : Bytes) × IsNext limit stream m more
    by Waiting h e = absurd (cc)
    by (Bad i k) h e = absurd (cc)
    by (Text n x) h e = (
      h.1,
      record { space = take (white stream) stream; bytes = unwhite stream; text = h.0; behind = has_white stream; has = h.2; says = subst (Says h.0) (same_message x m e) h.3 },
    )

end_divides : (limit at : ℕ) (stream : Bytes) (end : Stream) → Comes (stream_from limit stream at) [] end → Divides limit at stream [] end
end_divides limit at stream end c = by (front limit (unwhite stream)) (front_says limit (unwhite stream)) (subst (λ n. IsEnd n.answer × (n.left ≡ end)) (front_comes limit at stream) c)
  where
    by : (f : Front) → IsFront limit (unwhite stream) f
        → IsEnd (next_by limit (unwhite stream) (past at (length (take (white stream) stream))) f).answer × ((next_by limit (unwhite stream) (past at (length (take (white stream) stream))) f).left ≡ end)
        → Divides limit at stream [] end
    by Waiting h c = inl (record { space = take (white stream) stream; bytes = unwhite stream; behind = has_white stream; begun = h; left = sym c.1 })
    by (Bad i k) h c =
        inr (record {
          space = take (white stream) stream;
          bytes = unwhite stream;
          place = i;
          kind = k;
          behind = has_white stream;
          fault = h;
          left = sym c.1 ∙ ap (λ o. (refusal limit (record { offset = o; kind = k })).left) (past_past at (length (take (white stream) stream)) i);
        })
    by (Text n m) h c = absurd c.0

of_comes : (limit at : ℕ) (stream : Bytes) (ms : List Message) (end : Stream) → Comes (stream_from limit stream at) ms end → Divides limit at stream ms end
of_comes limit at stream [] end c = end_divides limit at stream end c
of_comes limit at stream (m ∷ ms) end c =
    let one = next_of limit at stream m c.0 in (
      one.0,
      one.1,
      of_comes limit (past at (length one.1.space + length one.1.text)) one.0 ms end (subst (λ n. Comes n.left ms end) (next_stands limit at stream one.0 m one.1) c.1),
    )

pub what_stands_comes : WhatStandsComes
what_stands_comes limit at stream ms end = (of_comes limit at stream ms end, to_comes limit at stream ms end)
