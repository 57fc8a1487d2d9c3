-- The commit of a port that comes or goes.
use Rattle.std.proofs.Common.{◌≡◌, ℕ, true, Option, Some, None, is_some, IfSome, IfErr, Result, Ok, Err, refl, sym, subst, ◌∙◌, true≢false}
use Rattle.std.specs.Prelude.{IsOk}
use Rattle.vtep_base.specs.Reading.{Bytes}
use Rattle.vtep_base.specs.Texts.{is_name}
use Rattle.vtep_base.specs.Answers.{OrMemory}
use Rattle.vtep_rows.specs.Rows.{Rows}
use Rattle.vtep_rows.specs.Database.{Versions}
use Rattle.forward_program.specs.Readings.{own_ip}
use Rattle.local_tables.specs.Followed.{Committed, commit}
use Rattle.local_tables.specs.Local.{IsChanged}
use Rattle.vtep_gateway.specs.declared.EventRefused.{EventRefused}
use Rattle.vtep_gateway.specs.declared.ports.PortFault.{PortFault}
use Rattle.vtep_gateway.specs.declared.ports.PortFault.TheVariants as port
use Rattle.vtep_gateway.specs.Vtep.{Vtep}
use Rattle.vtep_gateway.specs.Commit.{commit_of}
use Rattle.vtep_gateway.specs.CommitFaults.{refusal_of}
use Rattle.vtep_gateway.specs.Ports.{port_refusal, with_port, without_port}
use Rattle.vtep_gateway.specs.Good.{IsGood}
use Rattle.vtep_gateway.proofs.Settling.{name_short}
use Rattle.vtep_gateway.proofs.Changing.{joins_change, leaves_change}
use Rattle.vtep_gateway.proofs.PortsKept.{joins_kept, leaves_kept}
use Rattle.vtep_gateway.proofs.GoodKept.{joins_good, leaves_good}

-- a change of the rows that a commit follows, keeps, and leaves good
pub record IsKept (v : Vtep) (r : Rows) : Type 0 where
  pub changed : IsChanged (own_ip v.rows) v.rows r v.learned
  pub kept : IsOk (commit (own_ip v.rows) v.rows r v.learned)
  pub good : (k : Committed) → commit_of v r v.learned ≡ Ok k → IsGood k.rows k.learned

pub join_kept : (v : Vtep) (name : Bytes) → IsGood v.rows v.learned → is_name name ≡ true → port_refusal v.rows name ≡ None → IsKept v (with_port v.rows name)
join_kept v name good named free = record {
  changed = joins_change v.rows name v.learned good (name_short name named) free;
  kept = joins_kept v.rows name v.learned good (name_short name named) free;
  good = λ k told. joins_good v.rows name v.learned k good (name_short name named) free told;
}

pub leave_kept : (v : Vtep) (id : ℕ) → IsGood v.rows v.learned → IsKept v (without_port v.rows id)
leave_kept v id good = record {
  changed = leaves_change v.rows id v.learned good;
  kept = leaves_kept v.rows id v.learned good;
  good = λ k told. leaves_good v.rows id v.learned k good told;
}

-- the same of rows and an own address that are these
module _ (v : Vtep) (r : Rows) (is : IsKept v r) (own : ℕ) (d : Versions) (same_own : own ≡ own_ip v.rows) (same : d ≡ record { committed = v.rows; current = r }) where
  pub changed_by : IsChanged own d.committed d.current v.learned
  changed_by = subst (λ (p : ℕ × Versions). IsChanged p.0 p.1.committed p.1.current v.learned) (λ i. (sym same_own i, sym same i)) is.changed

  pub kept_by : IsOk (commit own d.committed d.current v.learned)
  kept_by = subst (λ (p : ℕ × Versions). IsOk (commit p.0 p.1.committed p.1.current v.learned)) (λ i. (sym same_own i, sym same i)) is.kept

  pub told_by : (k : Committed) → commit own d.committed d.current v.learned ≡ Ok k → commit_of v r v.learned ≡ Ok k
  told_by k told = (λ i. commit (sym same_own i) (sym same i).committed (sym same i).current v.learned) ∙ told

  pub good_by : (k : Committed) → commit own d.committed d.current v.learned ≡ Ok k → IsGood k.rows k.learned
  good_by k told = is.good k (told_by k told)

-- ---- options and faults

pub the_port : (P : ℕ → Type 0) (o : Option ℕ) → is_some o ≡ true → IfSome o P → (id : ℕ) × (o ≡ Some id) × P id
the_port P None found h = absurd (true≢false (sym found))
the_port P (Some id) found h = (id, refl, h)

memory_fault : (P : EventRefused → Type 0) (fault : PortFault) → fault ≡ port.OutOfMemory → OrMemory (refusal_of fault) P
memory_fault P port.OutOfMemory is = tt
memory_fault P (port.Refused why) is = absurd (cc)

-- want of memory is no refusal
pub memory_err : {T : Type 0} (P : EventRefused → Type 0) (r : Result T PortFault) → IfErr r (λ fault. fault ≡ port.OutOfMemory) → IfErr r (λ fault. OrMemory (refusal_of fault) P)
memory_err P (Ok x) h = tt
memory_err P (Err fault) h = memory_fault P fault h
