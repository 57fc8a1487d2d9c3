use Rattle.std.proofs.Common.{sym, ap, ◌∙◌}
use Rattle.vtep_rows.specs.Sound.{broken}
use Rattle.vtep_rows.specs.Database.{restored}
use Rattle.vtep_rows.proofs.TouchedBreaches.{breaks_limit, breaks_reference, breaks_unique, breaks_none, unbroken_sound, some_dangles, some_doubled, none_dangles, none_doubled}
use Rattle.vtep_rows.proofs.database.Database.broken.Goals as goal

pub returns-in_default : goal.returns-in_default
returns-in_default c = breaks_limit c.self.inside.rows c.in_default.field-0 c.in_default.ensures ∙ ap (λ v. broken v.current) c.self.view_is

pub returns-then-break_references : goal.returns-then-break_references
returns-then-break_references c =
    breaks_reference c.self.inside.rows c.in-Ok.ensures (some_dangles c.self.inside.rows c.self.inside.before (sym c.break_references.ensures ∙ c.if-break_references.true))
    ∙ ap (λ v. broken v.current) c.self.view_is

pub returns-then-break_keys : goal.returns-then-break_keys
returns-then-break_keys c =
    breaks_unique c.self.inside.rows c.in-Ok.ensures
    (none_dangles c.self.inside.before c.self.inside.counter c.self.inside.rows (sym c.break_references.ensures ∙ c.if-break_references.false) (unbroken_sound (restored c.self.inside.before c.self.inside.counter c.self.inside.rows) (ap (λ v. broken v.committed) c.self.view_is ∙ c.requires)))
    (some_doubled c.self.inside.rows c.self.inside.before (sym c.break_keys.ensures ∙ c.if-break_keys.true))
    ∙ ap (λ v. broken v.current) c.self.view_is

pub returns : goal.returns
returns c =
    breaks_none c.self.inside.rows c.in-Ok.ensures
    (none_dangles c.self.inside.before c.self.inside.counter c.self.inside.rows (sym c.break_references.ensures ∙ c.if-break_references.false) (unbroken_sound (restored c.self.inside.before c.self.inside.counter c.self.inside.rows) (ap (λ v. broken v.committed) c.self.view_is ∙ c.requires)))
    (none_doubled c.self.inside.before c.self.inside.counter c.self.inside.rows (sym c.break_keys.ensures ∙ c.if-break_keys.false) (unbroken_sound (restored c.self.inside.before c.self.inside.counter c.self.inside.rows) (ap (λ v. broken v.committed) c.self.view_is ∙ c.requires)))
    ∙ ap (λ v. broken v.current) c.self.view_is
