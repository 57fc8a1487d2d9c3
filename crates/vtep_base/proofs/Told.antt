-- Told lists that grow and shrink, one piece after another.
use Rattle.std.proofs.Common.{◌≡◌, [], ◌++◌, Option, Some, None, refl, sym, ap, ◌∙◌, append_assoc, append-nil}
use Rattle.vtep_base.specs.Reading.{Bytes}
use Rattle.vtep_base.specs.Outside.{Grows, Shrinks}

pub grows-none : (o : Option Bytes) → Grows o [] o
grows-none None = tt
grows-none (Some old) = sym (append-nil old)

pub grows-more : (a b c : Option Bytes) (x y : Bytes) → Grows a x b → Grows b y c → Grows a (x ++ y) c
grows-more None None None x y h k = tt
grows-more None None (Some c) x y h k = absurd k
grows-more None (Some b) c x y h k = absurd h
grows-more (Some a) None c x y h k = absurd h
grows-more (Some a) (Some b) None x y h k = absurd k
grows-more (Some a) (Some b) (Some c) x y h k = k ∙ ap (λ t. t ++ y) h ∙ append_assoc a x y

pub grows-same : (a b c : Option Bytes) (x : Bytes) → Grows a x b → c ≡ b → Grows a x c
grows-same a b c x h e = rw e h

pub shrinks-none : (o : Option Bytes) → Shrinks o [] o
shrinks-none None = tt
shrinks-none (Some old) = refl

pub shrinks-more : (a b c : Option Bytes) (x y : Bytes) → Shrinks a x b → Shrinks b y c → Shrinks a (x ++ y) c
shrinks-more None None None x y h k = tt
shrinks-more None None (Some c) x y h k = absurd k
shrinks-more None (Some b) c x y h k = absurd h
shrinks-more (Some a) None c x y h k = absurd h
shrinks-more (Some a) (Some b) None x y h k = absurd k
shrinks-more (Some a) (Some b) (Some c) x y h k = h ∙ ap (λ t. x ++ t) k ∙ sym (append_assoc x y c)
