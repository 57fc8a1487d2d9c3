-- How texts are cut into lines, and lines are played, piece by piece.
use Rattle.std.proofs.Common.{◌≡◌, ℕ, Bool, true, false, cond, List, [], ◌∷◌, ◌++◌, refl, sym, ap, ◌∙◌, append_assoc, append-nil}
use Rattle.std.specs.Prelude.{◌==◌}
use Rattle.vtep_base.specs.Reading.{Bytes}
use Rattle.fabric_world.specs.Text.{cut, without_return, NoFeed}
use Rattle.vtep_base.specs.Memory.{joined}
use Rattle.fabric_world.specs.Pieces.{feed, feed_all, whole, CutsDoNotMatter}
use Rattle.fabric_world.specs.Script.{Stage, Over, Stopped, Played, Reading, silent, behind, play_one, play, played, closing, read_behind}

-- a line and its line feed
pub cut-line : (line bs front : Bytes) → NoFeed line → cut front (line ++ 10 ∷ bs) ≡ (without_return (front ++ line) ∷ (cut [] bs).0, (cut [] bs).1)
cut-line [] bs front h = ap (λ f. (without_return f ∷ (cut [] bs).0, (cut [] bs).1)) (sym (append-nil front))
cut-line (b ∷ line) bs front h = rw h.0 (cut-line line bs (front ++ b ∷ []) h.1 ∙ ap (λ f. (without_return f ∷ (cut [] bs).0, (cut [] bs).1)) (append_assoc front (b ∷ []) line))

-- what has no line feed
pub cut-rest : (bs front : Bytes) → NoFeed bs → cut front bs ≡ ([], front ++ bs)
cut-rest [] front h = ap (λ (f : Bytes). let r : List Bytes × Bytes = ([], f) in r) (sym (append-nil front))
cut-rest (b ∷ bs) front h = rw h.0 (cut-rest bs (front ++ b ∷ []) h.1 ∙ ap (λ (f : Bytes). let r : List Bytes × Bytes = ([], f) in r) (append_assoc front (b ∷ []) bs))

-- a text behind another: the lines of the first, and then those of what it left with the second
pub cut-append : (a b front : Bytes) → cut front (a ++ b) ≡ ((cut front a).0 ++ (cut (cut front a).1 b).0, (cut (cut front a).1 b).1)
cut-append [] b front = refl
cut-append (x ∷ a) b front = by (x == 10) (cut-append a b []) (cut-append a b (front ++ x ∷ []))
  where
    by : (t : Bool) → cut [] (a ++ b) ≡ ((cut [] a).0 ++ (cut (cut [] a).1 b).0, (cut (cut [] a).1 b).1)
        → cut (front ++ x ∷ []) (a ++ b) ≡ ((cut (front ++ x ∷ []) a).0 ++ (cut (cut (front ++ x ∷ []) a).1 b).0, (cut (cut (front ++ x ∷ []) a).1 b).1)
        → cond t (without_return front ∷ (cut [] (a ++ b)).0, (cut [] (a ++ b)).1) (cut (front ++ x ∷ []) (a ++ b))
        ≡ (
          (cond t (without_return front ∷ (cut [] a).0, (cut [] a).1) (cut (front ++ x ∷ []) a)).0 ++ (cut (cond t (without_return front ∷ (cut [] a).0, (cut [] a).1) (cut (front ++ x ∷ []) a)).1 b).0,
          (cut (cond t (without_return front ∷ (cut [] a).0, (cut [] a).1) (cut (front ++ x ∷ []) a)).1 b).1,
        )
    by true feed more = ap (λ (p : List Bytes × Bytes). let r : List Bytes × Bytes = (without_return front ∷ p.0, p.1) in r) feed
    by false feed more = more

-- played lines, one after another
pub behind-behind : (a b : Bytes) (p : Played) → behind a (behind b p) ≡ behind (a ++ b) p
behind-behind a b p = ap (λ t. record { text = t; stage = p.stage }) (sym (append_assoc a b p.text))

pub play-append : (stage : Stage) (ls ms : List Bytes) → play stage (ls ++ ms) ≡ behind (play stage ls).text (play (play stage ls).stage ms)
play-append stage [] ms = refl
play-append stage (l ∷ ls) ms =
    ap (behind (play_one stage l).text) (play-append (play_one stage l).stage ls ms)
    ∙ behind-behind (play_one stage l).text (play (play_one stage l).stage ls).text (play (play (play_one stage l).stage ls).stage ms)

-- a script that is over, or was refused, stays so
pub play-over : (ls : List Bytes) → play Over ls ≡ silent Over
play-over [] = refl
play-over (l ∷ ls) = ap (behind []) (play-over ls)

pub play-stopped : (n : ℕ) (why : _) (ls : List Bytes) → play (Stopped n why) ls ≡ silent (Stopped n why)
play-stopped n why [] = refl
play-stopped n why (l ∷ ls) = ap (behind []) (play-stopped n why ls)

-- the whole lines of a text and a further piece
pub played-append : (first : Stage) (a b : Bytes) → played first (a ++ b) ≡ behind (played first a).text (play (played first a).stage (cut (cut [] a).1 b).0)
played-append first a b = ap (λ c. play first c.0) (cut-append a b []) ∙ play-append first (cut [] a).0 (cut (cut [] a).1 b).0

-- what comes of a text and a further piece
pub read-more : (front : Bytes) (stage : Stage) (how : Reading) (a b : Bytes)
    → read_behind front stage how (a ++ b) ≡ behind (play stage (cut front a).0).text (read_behind (cut front a).1 (play stage (cut front a).0).stage how b)
read-more front stage how a b =
    let ls : List Bytes = (cut front a).0 in
    let more : List Bytes × Bytes = cut (cut front a).1 b in
    ap (λ (c : List Bytes × Bytes). behind (play stage c.0).text (closing how (play stage c.0).stage c.1)) (cut-append a b front)
    ∙ ap (λ (p : Played). behind p.text (closing how p.stage more.1)) (play-append stage ls more.0)
    ∙ sym (behind-behind (play stage ls).text (play (play stage ls).stage more.0).text (closing how (play (play stage ls).stage more.0).stage more.1))

-- ---- pieces

feed_whole : (first : Stage) (text piece : Bytes) → feed (whole first text) piece ≡ whole first (text ++ piece)
feed_whole first text piece =
    ap (λ (p : Played). record { lines = p; rest = (cut (cut [] text).1 piece).1 }) (sym (played-append first text piece))
    ∙ ap (λ (c : List Bytes × Bytes). record { lines = played first (text ++ piece); rest = c.1 }) (sym (cut-append text piece []))

feed_all_whole : (first : Stage) (text : Bytes) (pieces : List Bytes) → feed_all (whole first text) pieces ≡ whole first (text ++ joined pieces)
feed_all_whole first text [] = ap (whole first) (sym (append-nil text))
feed_all_whole first text (piece ∷ pieces) =
    ap (λ f. feed_all f pieces) (feed_whole first text piece) ∙ feed_all_whole first (text ++ piece) pieces ∙ ap (whole first) (append_assoc text piece (joined pieces))

pub cuts_do_not_matter : CutsDoNotMatter
cuts_do_not_matter first pieces = feed_all_whole first [] pieces
