use Rattle.std.proofs.Common.{◌≡◌, sym, subst}
use Rattle.vtep_rows.specs.Rows.{collected}
use Rattle.vtep_rows.specs.Database.{IsCollecting, from_place}
use Rattle.vtep_rows.proofs.TouchedCollected.{each_ok, first_candidates}
use Rattle.vtep_rows.proofs.database.Database.candidates.Goals as goal

pub returns-clause-candidates : goal.returns-clause-candidates
returns-clause-candidates c =
    each_ok c.candidates.result c.candidates.ensures (λ found is.
    subst (λ v. IsCollecting v.current.rows v.current.rows (from_place 0 found.keys)) c.self.view_is
    (first_candidates c.self.inside.before c.self.inside.counter c.self.inside.rows (subst (λ v. collected v.committed ≡ v.committed) (sym c.self.view_is) c.requires) found.keys is))
