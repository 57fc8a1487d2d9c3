-- What a further piece leaves as it is.
use Rattle.std.proofs.Common.{◌≡◌, ℕ, zero, suc, ◌+◌, ◌≤◌, ◌<◌, Bool, true, false, cond, List, [], ◌∷◌, ◌++◌, length, take, drop, Option, Some, None, refl, sym, ap, subst, ◌∙◌, arith}
use Rattle.std.specs.Prelude.{◌==◌}
use Rattle.std.proofs.lemmas.List.{take-append-le, drop-append-le, length-drop}
use Rattle.serde_json.specs.Data.{Data}
use Rattle.vtep_base.specs.Reading.{Bytes}
use Rattle.rpc_framing.specs.declared.Framing.{Framing}
use Rattle.rpc_framing.specs.declared.FramingKind.TheVariants.{NotObject}
use Rattle.rpc_framing.specs.declared.scan.Cursor.{Cursor}
use Rattle.rpc_framing.specs.declared.scan.End.{End}
use Rattle.rpc_framing.specs.declared.scan.End.TheVariants.{At, Open, Refused}
use Rattle.rpc_framing.specs.Said.{Message, message_of, reading}
use Rattle.rpc_framing.specs.Scan.{after_byte, end_from, end_of, at_start}
use Rattle.rpc_framing.specs.Streams.{white, unwhite, is_white, past, Front, Waiting, Bad, Text, front, text_front, read_front, judged, Stream, fed, Answer, Waits, Gives, Refuses, Next, next, next_by, answered}
use Rattle.rpc_framing.specs.Pieces.{IsEnd, Comes, Coming, no_more, and_then, come_within, come, comes_after, OneDivision, CutsDoNotMatter, StaysRefused}
use Rattle.rpc_framing.proofs.Scanned.{step}

-- ---- where a text ends

abbrev IsHalt : End → Type 0
IsHalt (At n) = Unit {0}
IsHalt (Open c) = ⊥
IsHalt (Refused i k) = Unit {0}

halts : (limit i : ℕ) (c : Cursor) (a b : Bytes) → IsHalt (end_from limit c i a) → end_from limit c i (a ++ b) ≡ end_from limit c i a
halts limit i c [] b h = absurd h
halts limit i c (x ∷ a) b h = by ((after_byte c x).depth == 65) (i == limit) ((after_byte c x).depth == 0) h (halts limit (i + 1) (after_byte c x) a b)
  where
    by : (deep long closed : Bool) → IsHalt (step deep long closed i (end_from limit (after_byte c x) (i + 1) a))
        → (IsHalt (end_from limit (after_byte c x) (i + 1) a) → end_from limit (after_byte c x) (i + 1) (a ++ b) ≡ end_from limit (after_byte c x) (i + 1) a)
        → step deep long closed i (end_from limit (after_byte c x) (i + 1) (a ++ b)) ≡ step deep long closed i (end_from limit (after_byte c x) (i + 1) a)
    by true long closed h more = refl
    by false true closed h more = refl
    by false false true h more = refl
    by false false false h more = more h

abbrev pub IsWithin : ℕ → ℕ → End → Type 0
IsWithin i most (At n) = (i < n) × (n ≤ most)
IsWithin i most (Open c) = Unit {0}
IsWithin i most (Refused j k) = Unit {0}

pub ends_within : (limit i : ℕ) (c : Cursor) (a : Bytes) → IsWithin i (i + length a) (end_from limit c i a)
ends_within limit i c [] = tt
ends_within limit i c (x ∷ a) = by ((after_byte c x).depth == 65) (i == limit) ((after_byte c x).depth == 0) (wider (end_from limit (after_byte c x) (i + 1) a) (ends_within limit (i + 1) (after_byte c x) a))
  where
    wider : (e : End) → IsWithin (i + 1) (i + 1 + length a) e → IsWithin i (i + suc (length a)) e
    wider (At n) h = (omega (arith, h.0), omega (arith, h.1))
    wider (Open c) h = tt
    wider (Refused j k) h = tt

    by : (deep long closed : Bool) → IsWithin i (i + suc (length a)) (end_from limit (after_byte c x) (i + 1) a)
        → IsWithin i (i + suc (length a)) (step deep long closed i (end_from limit (after_byte c x) (i + 1) a))
    by true long closed h = tt
    by false true closed h = tt
    by false false true h = (omega arith, omega arith)
    by false false false h = h

-- ---- what stands at the front

abbrev pub IsFound : Front → Type 0
IsFound Waiting = ⊥
IsFound (Bad i k) = Unit {0}
IsFound (Text n m) = Unit {0}

end_kept : (limit : ℕ) (bytes p : Bytes) (e : End) → end_of limit bytes ≡ e → IsFound (text_front bytes e) → text_front (bytes ++ p) (end_of limit (bytes ++ p)) ≡ text_front bytes e
end_kept limit bytes p (Open c) is h = absurd h
end_kept limit bytes p (Refused i k) is h = rw (halts limit 0 at_start bytes p (subst IsHalt (sym is) tt), is) refl
end_kept limit bytes p (At n) is h =
    let within = subst (IsWithin 0 (0 + length bytes)) is (ends_within limit 0 at_start bytes) in
    rw (halts limit 0 at_start bytes p (subst IsHalt (sym is) tt), is) (ap (λ t. read_front n (reading t)) (take-append-le n bytes p (omega (arith, within.1))))

pub front_kept : (limit : ℕ) (bytes p : Bytes) → IsFound (front limit bytes) → front limit (bytes ++ p) ≡ front limit bytes
front_kept limit [] p h = absurd h
front_kept limit (b ∷ bs) p h = by (b == 123) h
  where
    by : (t : Bool) → IsFound (cond t (text_front (b ∷ bs) (end_of limit (b ∷ bs))) (Bad 0 NotObject))
        → cond t (text_front (b ∷ bs ++ p) (end_of limit (b ∷ bs ++ p))) (Bad 0 NotObject) ≡ cond t (text_front (b ∷ bs) (end_of limit (b ∷ bs))) (Bad 0 NotObject)
    by true h = end_kept limit (b ∷ bs) p (end_of limit (b ∷ bs)) refl h
    by false h = refl

-- the length of a text that is found
abbrev HasLength : ℕ → Front → Type 0
HasLength most Waiting = Unit {0}
HasLength most (Bad i k) = Unit {0}
HasLength most (Text n m) = (0 < n) × (n ≤ most)

read_length : (most n : ℕ) (o : Option Data) → 0 < n → n ≤ most → HasLength most (read_front n o)
read_length most n None a b = tt
read_length most n (Some d) a b = judged_length (message_of d)
  where
    judged_length : (o : Option Message) → HasLength most (judged n o)
    judged_length None = tt
    judged_length (Some m) = (a, b)

end_length : (limit : ℕ) (bytes : Bytes) (e : End) → end_of limit bytes ≡ e → HasLength (length bytes) (text_front bytes e)
end_length limit bytes (Open c) is = tt
end_length limit bytes (Refused i k) is = tt
end_length limit bytes (At n) is =
    let within = subst (IsWithin 0 (0 + length bytes)) is (ends_within limit 0 at_start bytes) in
    read_length (length bytes) n (reading (take n bytes)) within.0 (omega (arith, within.1))

front_length : (limit : ℕ) (bytes : Bytes) → HasLength (length bytes) (front limit bytes)
front_length limit [] = tt
front_length limit (b ∷ bs) = by (b == 123)
  where
    by : (t : Bool) → HasLength (suc (length bs)) (cond t (text_front (b ∷ bs) (end_of limit (b ∷ bs))) (Bad 0 NotObject))
    by true = end_length limit (b ∷ bs) (end_of limit (b ∷ bs)) refl
    by false = tt

-- ---- white space

white_kept : (rest p : Bytes) → (unwhite rest ≡ [] → ⊥) → (white (rest ++ p) ≡ white rest) × (unwhite (rest ++ p) ≡ unwhite rest ++ p)
white_kept [] p h = absurd (h refl)
white_kept (b ∷ bs) p h = by (is_white b) h (white_kept bs p)
  where
    by : (t : Bool) → (drop (cond t (suc (white bs)) 0) (b ∷ bs) ≡ [] → ⊥) → ((unwhite bs ≡ [] → ⊥) → (white (bs ++ p) ≡ white bs) × (unwhite (bs ++ p) ≡ unwhite bs ++ p))
        → (cond t (suc (white (bs ++ p))) 0 ≡ cond t (suc (white bs)) 0) × (drop (cond t (suc (white (bs ++ p))) 0) (b ∷ bs ++ p) ≡ drop (cond t (suc (white bs)) 0) (b ∷ bs) ++ p)
    by true h more = let r = more h in (ap suc r.0, r.1)
    by false h more = (refl, refl)

white_again : (rest p : Bytes) → (white (rest ++ p) ≡ white rest + white (unwhite rest ++ p)) × (unwhite (rest ++ p) ≡ unwhite (unwhite rest ++ p))
white_again [] p = (omega arith, refl)
white_again (b ∷ bs) p = by (is_white b) refl (white_again bs p)
  where
    by : (t : Bool) → is_white b ≡ t → (white (bs ++ p) ≡ white bs + white (unwhite bs ++ p)) × (unwhite (bs ++ p) ≡ unwhite (unwhite bs ++ p))
        → (cond t (suc (white (bs ++ p))) 0 ≡ cond t (suc (white bs)) 0 + white (drop (cond t (suc (white bs)) 0) (b ∷ bs) ++ p)) × (drop (cond t (suc (white (bs ++ p))) 0) (b ∷ bs ++ p) ≡ unwhite (drop (cond t (suc (white bs)) 0) (b ∷ bs) ++ p))
    by true e more = (omega (arith, more.0), more.1)
    by false e more = (rw e refl, rw e refl)

pub past_past : (at a b : ℕ) → past (past at a) b ≡ past at (a + b)
past_past at a b = omega arith

-- ---- one step of a stream

abbrev going : ℕ → Bytes → ℕ → Stream
going limit rest at = record { limit = limit; rest = rest; at = at; refused = None }

some_rest : (limit : ℕ) (bytes : Bytes) → IsFound (front limit bytes) → bytes ≡ [] → ⊥
some_rest limit bytes h e = subst (λ b. IsFound (front limit b)) e h

-- a fault or a text that was found is found again
found_again : (limit : ℕ) (rest : Bytes) (at : ℕ) (p : Bytes) → IsFound (front limit (unwhite rest))
    → next (going limit (rest ++ p) at) ≡ next_by limit (unwhite rest ++ p) (past at (white rest)) (front limit (unwhite rest))
found_again limit rest at p h =
    let w = white_kept rest p (some_rest limit (unwhite rest) h) in
    rw (w.1, w.0, front_kept limit (unwhite rest) p h) refl

waited : (limit : ℕ) (rest : Bytes) (at : ℕ) (p : Bytes) → next (going limit (unwhite rest ++ p) (past at (white rest))) ≡ next (going limit (rest ++ p) at)
waited limit rest at p =
    let w = white_again rest p in
    rw (w.1, w.0, sym (past_past at (white rest) (white (unwhite rest ++ p)))) refl

-- what comes after a message
abbrev AfterGiven : Stream → Bytes → Next → Type 0
AfterGiven s p n = (m : Message) → n.answer ≡ Gives m → next (fed s p) ≡ record { answer = Gives m; left = fed n.left p }

abbrev AfterEnd : Stream → Bytes → Next → Type 0
AfterEnd s p n = IsEnd n.answer → next (fed n.left p) ≡ next (fed s p)

given_by : (limit : ℕ) (rest : Bytes) (at : ℕ) (p : Bytes) (f : Front) → front limit (unwhite rest) ≡ f
    → AfterGiven (going limit rest at) p (next_by limit (unwhite rest) (past at (white rest)) f)
given_by limit rest at p Waiting is m e = absurd (cc)
given_by limit rest at p (Bad i k) is m e = absurd (cc)
given_by limit rest at p (Text n x) is m e =
    let found = subst IsFound (sym is) tt in
    let within = subst (HasLength (length (unwhite rest))) is (front_length limit (unwhite rest)) in
    let seen : next (going limit (rest ++ p) at) ≡ next_by limit (unwhite rest ++ p) (past at (white rest)) (Text n x) =
    found_again limit rest at p found ∙ ap (next_by limit (unwhite rest ++ p) (past at (white rest))) is in
    seen
    ∙ ap (λ b. record { answer = Gives x; left = going limit b (past (past at (white rest)) n) }) (drop-append-le n (unwhite rest) p within.1)
    ∙ ap (λ a. record { answer = a; left = going limit (drop n (unwhite rest) ++ p) (past (past at (white rest)) n) }) e

end_by : (limit : ℕ) (rest : Bytes) (at : ℕ) (p : Bytes) (f : Front) → front limit (unwhite rest) ≡ f
    → AfterEnd (going limit rest at) p (next_by limit (unwhite rest) (past at (white rest)) f)
end_by limit rest at p Waiting is e = waited limit rest at p
end_by limit rest at p (Bad i k) is e =
    let found = subst IsFound (sym is) tt in
    sym (found_again limit rest at p found ∙ ap (next_by limit (unwhite rest ++ p) (past at (white rest))) is)
end_by limit rest at p (Text n x) is e = absurd e

after_given : (s : Stream) (p : Bytes) → AfterGiven s p (next s)
after_given s p = by s.limit s.rest s.at s.refused
  where
    by : (limit : ℕ) (rest : Bytes) (at : ℕ) (r : Option Framing) → AfterGiven (record { limit = limit; rest = rest; at = at; refused = r }) p (next (record { limit = limit; rest = rest; at = at; refused = r }))
    by limit rest at None = given_by limit rest at p (front limit (unwhite rest)) refl
    by limit rest at (Some f) = λ m e. absurd (cc)

after_end : (s : Stream) (p : Bytes) → AfterEnd s p (next s)
after_end s p = by s.limit s.rest s.at s.refused
  where
    by : (limit : ℕ) (rest : Bytes) (at : ℕ) (r : Option Framing) → AfterEnd (record { limit = limit; rest = rest; at = at; refused = r }) p (next (record { limit = limit; rest = rest; at = at; refused = r }))
    by limit rest at None = end_by limit rest at p (front limit (unwhite rest)) refl
    by limit rest at (Some f) = λ e. refl

-- ---- the laws

same_next : (s t end : Stream) (ms : List Message) → next s ≡ next t → Comes s ms end → Comes t ms end
same_next s t end [] e c = subst (λ n. IsEnd n.answer × (n.left ≡ end)) e c
same_next s t end (m ∷ ms) e c = subst (λ n. (n.answer ≡ Gives m) × Comes n.left ms end) e c

pub cuts_do_not_matter : CutsDoNotMatter
cuts_do_not_matter s t end p [] more first second =
    same_next (fed (next s).left p) (fed s p) end more (after_end s p first.0) (subst (λ x. Comes (fed x p) more end) (sym first.1) second)
cuts_do_not_matter s t end p (m ∷ ms) more first second =
    let then = after_given s p m first.0 in
    subst (λ n. (n.answer ≡ Gives m) × Comes n.left (ms ++ more) end) (sym then) (refl, cuts_do_not_matter (next s).left t end p ms more first.1 second)

given_is_no_end : (a : Answer) (m : Message) → a ≡ Gives m → IsEnd a → ⊥
given_is_no_end a m e h = subst IsEnd e h

same_message : (a b : Message) → Gives a ≡ Gives b → a ≡ b
same_message a b e = cc

unique : (s end other : Stream) (ms ns : List Message) → Comes s ms end → Comes s ns other → (ns ≡ ms) × (other ≡ end)
unique s end other [] [] a b = (refl, sym b.1 ∙ a.1)
unique s end other [] (n ∷ ns) a b = absurd (given_is_no_end (next s).answer n b.0 a.0)
unique s end other (m ∷ ms) [] a b = absurd (given_is_no_end (next s).answer m a.0 b.0)
unique s end other (m ∷ ms) (n ∷ ns) a b =
    let r = unique (next s).left end other ms ns a.1 b.1 in
    let same : n ≡ m = same_message n m (sym b.0 ∙ a.0) in
    (ap (λ x. x ∷ ns) same ∙ ap (λ xs. m ∷ xs) r.0, r.1)

abbrev Shorter : ℕ → Next → Type 0
Shorter most n = (m : Message) → n.answer ≡ Gives m → length n.left.rest < most

unwhite_length : (rest : Bytes) → length (unwhite rest) ≤ length rest
unwhite_length rest = omega (arith, length-drop (white rest) rest)

shorter : (s : Stream) → Shorter (length s.rest) (next s)
shorter s = by s.limit s.rest s.at s.refused
  where
    by_front : (limit : ℕ) (rest : Bytes) (at : ℕ) (f : Front) → front limit (unwhite rest) ≡ f → Shorter (length rest) (next_by limit (unwhite rest) (past at (white rest)) f)
    by_front limit rest at Waiting is m e = absurd (cc)
    by_front limit rest at (Bad i k) is m e = absurd (cc)
    by_front limit rest at (Text n x) is m e =
        let within = subst (HasLength (length (unwhite rest))) is (front_length limit (unwhite rest)) in
        omega (arith, within.0, within.1, unwhite_length rest, length-drop n (unwhite rest))

    by : (limit : ℕ) (rest : Bytes) (at : ℕ) (r : Option Framing) → Shorter (length rest) (next (record { limit = limit; rest = rest; at = at; refused = r }))
    by limit rest at None = by_front limit rest at (front limit (unwhite rest)) refl
    by limit rest at (Some f) = λ m e. absurd (cc)

shorter_left : (s : Stream) (m : Message) → (next s).answer ≡ Gives m → length (next s).left.rest < length s.rest
shorter_left s m e = shorter s m e

comes_within : (turns : ℕ) (s : Stream) → length s.rest < turns → Comes s (come_within turns s).messages (come_within turns s).end
comes_within zero s h = absurd (omega (arith, h))
comes_within (suc turns) s h = by (next s).answer refl (λ less. comes_within turns (next s).left (omega (arith, less, h)))
  where
    among : Answer → Coming
    among a = elim a [ Gives m ↦ and_then m (come_within turns (next s).left) | Waits ↦ no_more (next s).left | Refuses f ↦ no_more (next s).left ]

    by : (a : Answer) → (next s).answer ≡ a
        → (length (next s).left.rest < length s.rest → Comes (next s).left (come_within turns (next s).left).messages (come_within turns (next s).left).end)
        → Comes s (among a).messages (among a).end
    by Waits e later = (subst IsEnd (sym e) tt, refl)
    by (Refuses f) e later = (subst IsEnd (sym e) tt, refl)
    by (Gives m) e later = (e, later (shorter_left s m e))

pub all_come : (s : Stream) → Comes s (come s).messages (come s).end
all_come s = comes_within (suc (length s.rest)) s (omega arith)

pub come_is : (s end : Stream) (ms : List Message) → Comes s ms end → come s ≡ record { messages = ms; end = end }
come_is s end ms c =
    let same = unique s end (come s).end ms (come s).messages c (all_come s) in
    ap (λ ms. record { messages = ms; end = (come s).end }) same.0 ∙ ap (λ e. record { messages = ms; end = e }) same.1

pub one_division : (s : Stream) → OneDivision s
one_division s ms end = (come_is s end ms, λ e. subst (λ c. Comes s c.messages c.end) e (all_come s))

-- ---- one message, or none

pub comes_next : (s left : Stream) (o : Option Message) → next s ≡ record { answer = answered o; left = left } → come s ≡ comes_after o left
comes_next s left None e = come_is s left [] (subst (λ n. IsEnd n.answer × (n.left ≡ left)) (sym e) (tt, refl))
comes_next s left (Some m) e = come_is s (come left).end (m ∷ (come left).messages) (subst (λ n. (n.answer ≡ Gives m) × Comes n.left (come left).messages (come left).end) (sym e) (refl, all_come left))

pub comes_refused : (s left : Stream) (f : Framing) → next s ≡ record { answer = Refuses f; left = left } → come s ≡ no_more left
comes_refused s left f e = come_is s left [] (subst (λ n. IsEnd n.answer × (n.left ≡ left)) (sym e) (tt, refl))

abbrev IsFree : Next → Type 0
IsFree n = n.answer ≡ Waits → n.left.refused ≡ None

free_by : (limit : ℕ) (bytes : Bytes) (at : ℕ) (f : Front) → IsFree (next_by limit bytes at f)
free_by limit bytes at Waiting e = refl
free_by limit bytes at (Bad i k) e = absurd (cc)
free_by limit bytes at (Text n m) e = absurd (cc)

free : (s : Stream) → IsFree (next s)
free s = by s.limit s.rest s.at s.refused
  where
    by : (limit : ℕ) (rest : Bytes) (at : ℕ) (r : Option Framing) → IsFree (next (record { limit = limit; rest = rest; at = at; refused = r }))
    by limit rest at None = free_by limit (unwhite rest) (past at (white rest)) (front limit (unwhite rest))
    by limit rest at (Some f) = λ e. absurd (cc)

-- a stream that waits is not refused
pub waits_next : (s left : Stream) → next s ≡ record { answer = answered None; left = left } → left.refused ≡ None
waits_next s left e = subst IsFree e (free s) refl

abbrev pub IsShorter : Stream → Stream → Option Message → Type 0
IsShorter s left None = Unit {0}
IsShorter s left (Some m) = length left.rest < length s.rest

pub shorter_next : (s left : Stream) (o : Option Message) → next s ≡ record { answer = answered o; left = left } → IsShorter s left o
shorter_next s left None e = tt
shorter_next s left (Some m) e =
    let less = shorter_left s m (ap (λ n. n.answer) e) in subst (λ n. length n.left.rest < length s.rest) e less

same_refusal : (f g : Framing) → ◌≡◌ {A = Answer} (Refuses f) (Refuses g) → f ≡ g
same_refusal f g e = cc

pub stays_refused : StaysRefused
stays_refused s f p = by s.limit s.rest s.at s.refused
  where
    by_front : (limit : ℕ) (bytes : Bytes) (at : ℕ) (x : Front) → (next_by limit bytes at x).answer ≡ Refuses f
        → (next (next_by limit bytes at x).left ≡ record { answer = Refuses f; left = (next_by limit bytes at x).left }) × (fed (next_by limit bytes at x).left p ≡ (next_by limit bytes at x).left)
    by_front limit bytes at Waiting e = absurd (cc)
    by_front limit bytes at (Text n m) e = absurd (cc)
    by_front limit bytes at (Bad i k) e = (ap (λ a. record { answer = a; left = (next_by limit bytes at (Bad i k)).left }) e, refl)

    by : (limit : ℕ) (rest : Bytes) (at : ℕ) (r : Option Framing) → (next (record { limit = limit; rest = rest; at = at; refused = r })).answer ≡ Refuses f
        → (next (next (record { limit = limit; rest = rest; at = at; refused = r })).left ≡ record { answer = Refuses f; left = (next (record { limit = limit; rest = rest; at = at; refused = r })).left })
        × (fed (next (record { limit = limit; rest = rest; at = at; refused = r })).left p ≡ (next (record { limit = limit; rest = rest; at = at; refused = r })).left)
    by limit rest at None e = by_front limit (unwhite rest) (past at (white rest)) (front limit (unwhite rest)) e
    by limit rest at (Some g) e = (ap (λ a. record { answer = a; left = record { limit = limit; rest = rest; at = at; refused = Some g } }) e, refl)
