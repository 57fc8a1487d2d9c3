use Rattle.std.proofs.Common.{◌<◌, ◌^◌, ◌≡◌, true, false, List, [], refl, sym, ap, subst, ◌∙◌}
use Rattle.vtep_base.specs.Texts.{is_name}
use Rattle.vtep_base.specs.Maps as maps
use Rattle.vtep_rows.specs.Rows.{Rows, opening}
use Rattle.mac_learning.specs.declared.Learnt.{Learnt}
use Rattle.forward_program.specs.Shown.{shown}
use Rattle.vtep_gateway.specs.Ready.{fib_of}
use Rattle.vtep_gateway.specs.Good.{IsGood}
use Rattle.vtep_gateway.proofs.Settling.{opening_good}
use Rattle.vtep_gateway.proofs.running.Running.new.Goals as goal

pub returns-clause-ready : goal.returns-clause-ready
returns-clause-ready g c =
    let named : is_name c.args.name ≡ true = sym (ap is_name c.as_slice.ensures.text) ∙ c.as_slice.ensures.form in
    let fits : c.args.ip < 2 ^ 32 = subst (λ n. n < 2 ^ 32) c.bits.ensures.value c.bits.ensures.fits in
    let rows : c.new-database.result.current ≡ opening c.args.name c.args.ip = ap (λ v. v.current) c.new-database.ensures ∙ c.in_ok-new.ensures in
    let list : c.new-2.result.entries ≡ [] = c.new-2.ensures.entries in
    let empty : shown (opening c.args.name c.args.ip) [] ≡ maps.empty = refl in
    record {
      good = subst (λ (p : Rows × List Learnt). IsGood p.0 p.1) (λ i. (sym rows i, sym list i)) (opening_good c.args.name c.args.ip named fits);
      fib = c.new-5.ensures ∙ sym (ap (λ m. record { entries = m; broken = false }) empty) ∙ (λ i. fib_of (sym rows i) (sym list i));
    }
