use Rattle.std.proofs.Common.{◌≡◌, suc, length, sym, ◌∙◌, arith}
use Rattle.fabric_replay.proofs.LinesOfPieces.{drops_return, keeps_line}
use Rattle.fabric_replay.proofs.script.without_return.Goals as goal

pub returns-then-line-end-eq13 : goal.returns-then-line-end-eq13
returns-then-line-end-eq13 c =
    let last : length c.args.line.now ≡ suc c.in-Some.end = omega (arith, c.in-Some.ensures) in
    c.split_at.ensures.front ∙ sym (drops_return c.args.line.now c.in-Some.end last c.if-line-end-eq13.true)

pub returns-else-line-end-eq13 : goal.returns-else-line-end-eq13
returns-else-line-end-eq13 c =
    let last : length c.args.line.now ≡ suc c.in-Some.end = omega (arith, c.in-Some.ensures) in
    sym (keeps_line c.args.line.now c.in-Some.end last c.if-line-end-eq13.false)
