-- A new gateway is good, and every event keeps it so.
use Rattle.std.proofs.Common.{◌≡◌, ℕ, ◌^◌, ◌<◌, ◌≤◌, nat_lt, Bool, true, false, cond, ◌&&◌, List, [], ◌∷◌, length, is_some, Option, Some, None, Result, Ok, Err, refl, sym, ap, subst, ◌∙◌, ◌⊎◌, inl, inr, true≢false, arith}
use Rattle.std.specs.Prelude.{⊤, IsOk, is_ok}
use Rattle.std.specs.List.{list_all}
use Rattle.std.proofs.lemmas.Bool.Decides.{nat_tests}
use Rattle.std.specs.Ordering.{eq_by_cmp}
use Rattle.std.specs.Cmp.{first_so, second_so}
use Rattle.serde_json.specs.Data.{Data}
use Rattle.vtep_base.specs.Reading.{Bytes}
use Rattle.vtep_base.specs.Texts.{is_name}
use Rattle.vtep_base.specs.Addresses.{is_group}
use Rattle.vtep_base.specs.Maps as maps
use Rattle.vtep_base.specs.declared.words.Word.{Word}
use Rattle.vtep_schema.specs.declared.Table.{Table}
use Rattle.vtep_schema.specs.declared.Table.TheVariants.{Global, PhysicalSwitch, LogicalSwitch, UcastMacsLocal, McastMacsLocal}
use Rattle.vtep_schema.specs.Tables.{table_rule}
use Rattle.vtep_rows.specs.declared.soundness.Rule.{Rule}
use Rattle.vtep_rows.specs.Row.{Contents, references}
use Rattle.vtep_rows.specs.Rows.{Key, key_cmp, Rows, IsRows, row_at, row_id, rows_of, inserted, global_row, switch_row, opening, stays, last_number}
use Rattle.vtep_rows.proofs.Entries.{same_some}
use Rattle.vtep_rows.proofs.Kept.{still_inserted, so_le}
use Rattle.vtep_rows.proofs.RowLaws.{global_is_row, switch_is_row}
use Rattle.vtep_rows.proofs.Restored.{tied}
use Rattle.vtep_rows.proofs.IndexLaws.{put_there}
use Rattle.mac_learning.specs.declared.Learnt.{Learnt}
use Rattle.rpc_framing.specs.Streams.{fed}
use Rattle.rpc_framing.specs.Pieces.{come}
use Rattle.rpc_framing.specs.Said.{Message, Request, Notification, Response}
use Rattle.transact_profile.specs.Meaning.{Reply, Outcome, means}
use Rattle.transact_profile.specs.Transaction.{ops_in}
use Rattle.transact_profile.specs.Finish.{finished}
use Rattle.mac_learning.specs.declared.Learn.TheVariants as learn
use Rattle.mac_learning.specs.Learning.{entry, found, same_place, learns_by, put, kept_at}
use Rattle.ether_frames.specs.declared.FrameFault.{FrameFault}
use Rattle.ether_frames.specs.Frames.{frame_of}
use Rattle.ether_frames.specs.Headers.{headers_of}
use Rattle.forward_program.specs.Readings.{own_ip}
use Rattle.forward_program.specs.declared.hops.Admission.{Admission}
use Rattle.forward_program.specs.declared.hops.Admission.TheVariants as enter
use Rattle.forward_program.specs.Hop.{source, admission}
use Rattle.local_tables.specs.LocalRows.{is_individual}
use Rattle.local_tables.specs.Followed.{Committed, is_named_by_port, is_bound_there}
use Rattle.local_tables.specs.Following.{is_bound}
use Rattle.local_tables.specs.Local.{IsLearning}
use Rattle.local_tables.proofs.Accepted.{learnt_kept, moved_kept}
use Rattle.vtep_gateway.specs.declared.methods.Method.{Method}
use Rattle.vtep_gateway.specs.declared.methods.Method.TheVariants.{Echo, ListDbs, GetSchema, Transact, Monitor, MonitorCancel}
use Rattle.vtep_gateway.specs.declared.Event.{Event}
use Rattle.vtep_gateway.specs.declared.Event.TheVariants as event
use Rattle.vtep_gateway.specs.declared.EventRefused.{EventRefused}
use Rattle.vtep_gateway.specs.declared.EventRefused.TheVariants.{NoSession, NoPort}
use Rattle.vtep_gateway.specs.Commit.{kept, commit_of, changed}
use Rattle.vtep_gateway.specs.Monitors.{OpenMonitor, monitors_of, left_by}
use Rattle.vtep_gateway.specs.Vtep.{Vtep}
use Rattle.vtep_gateway.specs.Gateway.{Gateway, refused, nothing}
use Rattle.vtep_gateway.specs.Methods.{method_of, in_database, only, ended, transacted, transact_in, monitor_by, cancel_by, monitor_for, called}
use Rattle.vtep_gateway.specs.Sessions.{take, take_all, stream_of}
use Rattle.vtep_gateway.specs.Frames.{ways, entered, frame_step}
use Rattle.vtep_gateway.proofs.Admitted.{admitted_bound}
use Rattle.vtep_gateway.specs.Moves.{step, hung_up, port_unless, unport_by}
use Rattle.vtep_gateway.specs.Ports.{port_named, port_refusal, with_port, without_port}
use Rattle.vtep_gateway.specs.Learning.{most_learnt, has_room, learns_in, unseen, seen_by, with_source, later, aged}
use Rattle.vtep_gateway.specs.Settled.{IsSettled, IsEvent}
use Rattle.vtep_gateway.specs.Good.{IsGood}
use Rattle.vtep_gateway.proofs.Collecting.{all_stay}
use Rattle.vtep_gateway.proofs.Changing.{unchanged_changes}
use Rattle.vtep_gateway.proofs.GoodKept.{transact_good, joins_good, leaves_good, learns_good, moves_good, ages_good}
use Rattle.vtep_gateway.proofs.Moved.{put_last}
use Rattle.vtep_gateway.proofs.SourceFits.{bound_there, are_bytes, source_single, frame_bytes}

so_lt : (m n : ℕ) → nat_lt m n ≡ true → m < n
so_lt m n h = grind (arith, nat_tests, h)

-- what a gateway always has of its rows and of what it has learnt
abbrev pub HasGood : Vtep → Type 0
HasGood v = IsGood v.rows v.learned

-- ---- commits

kept_good : (v : Vtep) (x : Result Committed Rule) → HasGood v → ((c : Committed) → x ≡ Ok c → IsGood c.rows c.learned) → HasGood (kept v x).vtep
kept_good v (Ok c) before so = so c refl
kept_good v (Err rule) before so = before

pub changed_good : (v : Vtep) (r : Rows) (l : List Learnt) → HasGood v → ((c : Committed) → commit_of v r l ≡ Ok c → IsGood c.rows c.learned) → HasGood (changed v r l).vtep
changed_good v r l before so = kept_good v (commit_of v r l) before so

-- ---- a transaction

ended_good : (v : Vtep) (results : List Reply) (x : Result Committed Rule) → HasGood v → ((c : Committed) → x ≡ Ok c → IsGood c.rows c.learned) → HasGood (ended v results x).vtep
ended_good v results (Ok c) before so = so c refl
ended_good v results (Err rule) before so = before

outcome_good : (v : Vtep) (o : Outcome) (failed : Bool) → HasGood v → ((c : Committed) → commit_of v o.rows v.learned ≡ Ok c → IsGood c.rows c.learned)
    → HasGood (cond failed (only v (Ok (finished o.results None))) (ended v o.results (commit_of v o.rows v.learned))).vtep
outcome_good v o true before so = before
outcome_good v o false before so = ended_good v o.results (commit_of v o.rows v.learned) before so

pub transacted_good : (v : Vtep) (params : Data) → HasGood v → HasGood (transacted v (means (ops_in params) v.rows)).vtep
transacted_good v params before =
    let o : Outcome = means (ops_in params) v.rows in
    outcome_good v o o.failed before (λ c told. transact_good params v.rows v.learned c before told)

transact_in_good : (v : Vtep) (params : Data) (d : Result ⊤ Word) → HasGood v → HasGood (transact_in v params d).vtep
transact_in_good v params (Ok _) before = transacted_good v params before
transact_in_good v params (Err w) before = before

-- ---- messages

monitor_good : (v : Vtep) (s : ℕ) (w : Result OpenMonitor Word) → HasGood v → HasGood (monitor_by v s w).vtep
monitor_good v s (Ok w) before = before
monitor_good v s (Err w) before = before

cancel_good : (v : Vtep) (s : ℕ) (ws : Result (List OpenMonitor) Word) → HasGood v → HasGood (cancel_by v s ws).vtep
cancel_good v s (Ok ws) before = before
cancel_good v s (Err w) before = before

pub called_good : (v : Vtep) (s : ℕ) (method : Option Method) (params : Data) → HasGood v → HasGood (called v s method params).vtep
called_good v s (Some Echo) params before = before
called_good v s (Some ListDbs) params before = before
called_good v s (Some GetSchema) params before = before
called_good v s (Some Transact) params before = transact_in_good v params (in_database params) before
called_good v s (Some Monitor) params before = monitor_good v s (monitor_for (monitors_of v.monitors s) params) before
called_good v s (Some MonitorCancel) params before = cancel_good v s (left_by (monitors_of v.monitors s) params) before
called_good v s None params before = before

pub take_good : (v : Vtep) (s : ℕ) (m : Message) → HasGood v → HasGood (take v s m).vtep
take_good v s (Request method params id) before = called_good v s (method_of method) params before
take_good v s (Notification method params) before = before
take_good v s (Response result error id) before = before

pub all_good : (v : Vtep) (s : ℕ) (ms : List Message) → HasGood v → HasGood (take_all v s ms).vtep
all_good v s [] before = before
all_good v s (m ∷ ms) before = all_good (take v s m).vtep s ms (take_good v s m before)

-- ---- sessions that end, ports, and time that goes on

pub hangup_good : (g : Gateway) (s : ℕ) (b : Bool) → HasGood g.vtep → HasGood (cond b (record { gateway = hung_up g s; answer = nothing }) (refused g NoSession)).gateway.vtep
hangup_good g s true before = before
hangup_good g s false before = before

pub name_short : (name : Bytes) → is_name name ≡ true → length name ≤ 64
name_short name h = so_le (length name) 64 (second_so _ _ (first_so _ _ h))

pub port_good : (g : Gateway) (name : Bytes) (o : Option EventRefused) → port_refusal g.vtep.rows name ≡ o → is_name name ≡ true → HasGood g.vtep → HasGood (port_unless g name o).gateway.vtep
port_good g name None e named before =
    changed_good g.vtep (with_port g.vtep.rows name) g.vtep.learned before (λ c told. joins_good g.vtep.rows name g.vtep.learned c before (name_short name named) e told)
port_good g name (Some why) e named before = before

pub unport_good : (g : Gateway) (o : Option ℕ) → HasGood g.vtep → HasGood (unport_by g o).gateway.vtep
unport_good g None before = before
unport_good g (Some id) before = changed_good g.vtep (without_port g.vtep.rows id) g.vtep.learned before (λ c told. leaves_good g.vtep.rows id g.vtep.learned c before told)

pub age_good : (v : Vtep) (seconds : ℕ) → HasGood v → HasGood (aged v seconds).vtep
age_good v seconds before =
    let now : ℕ = later v.clock seconds in
    changed_good (record v { clock = now }) v.rows (kept_at now v.learned) before (λ c told. ages_good v.rows v.learned now c before told)

-- ---- frames

module _ (v : Vtep) (new : Learnt) (before : HasGood v) (single : is_individual new.mac ≡ true) (bound : is_bound_there v.rows new ≡ true) where
  unknown : found new.switch new.mac v.learned ≡ None → IsLearning (own_ip v.rows) v.rows v.learned new
  unknown none = record { unchanged = unchanged_changes v.rows v.learned before; unknown = none; individual = single; bound = bound }

  -- the commit of an address that is seen is kept
  pub seen_kept : (learns_in v new ≡ learn.Full → ⊥) → IsOk (commit_of v v.rows (put new v.learned))
  seen_kept room = by (found new.switch new.mac v.learned) refl (has_room v) refl
    where
      by : (o : Option Learnt) → found new.switch new.mac v.learned ≡ o → (b : Bool) → has_room v ≡ b → IsOk (commit_of v v.rows (put new v.learned))
      by (Some e) known b _ = ap is_ok (moved_kept (own_ip v.rows) v.rows v.learned e new (unchanged_changes v.rows v.learned before) known bound)
      by None none true some =
          subst (λ l. IsOk (commit_of v v.rows l)) (sym (put_last new v.learned none))
          (learnt_kept (own_ip v.rows) v.rows v.learned new (unknown none) (so_lt v.rows.counter last_number (second_so (nat_lt (length v.learned) most_learnt) (nat_lt v.rows.counter last_number) some))
          (so_lt (length v.learned) most_learnt (first_so (nat_lt (length v.learned) most_learnt) (nat_lt v.rows.counter last_number) some)))
      by None none false full = absurd (room ((λ i. learns_by (full i) new (none i))))

  module _ (named : is_name new.port ≡ true) where
    pub seen_good : HasGood (seen_by v new (learns_in v new)).vtep
    seen_good = by (found new.switch new.mac v.learned) refl (has_room v)
      where
        more : HasGood (changed v v.rows (put new v.learned)).vtep
        more = by_found (found new.switch new.mac v.learned) refl
          where
            by_found : (o : Option Learnt) → found new.switch new.mac v.learned ≡ o → HasGood (changed v v.rows (put new v.learned)).vtep
            by_found None none =
                changed_good v v.rows (put new v.learned) before
                (λ c told. learns_good v.rows v.learned new c before (unknown none) named (sym (ap (commit_of v v.rows) (put_last new v.learned none)) ∙ told))
            by_found (Some e) known = changed_good v v.rows (put new v.learned) before (λ c told. moves_good v.rows v.learned e new c before known bound named told)

        placed : (e : Learnt) (b : Bool) → HasGood (seen_by v new (cond b learn.Same learn.Moved)).vtep
        placed e true = more
        placed e false = more

        by : (o : Option Learnt) → found new.switch new.mac v.learned ≡ o → (b : Bool) → HasGood (seen_by v new (learns_by b new o)).vtep
        by (Some e) known b = placed e (same_place e new)
        by None none true = more
        by None none false = before

source_good : (v : Vtep) (switch : ℕ) (port : Bytes) (vlan : ℕ) (inner : Bytes) → HasGood v → (ways v).bound (port, vlan) ≡ Some switch → is_name port ≡ true → are_bytes inner ≡ true → HasGood (with_source v switch port vlan inner).vtep
source_good v switch port vlan inner before bound named bytes = by (is_group (source inner)) refl
  where
    new : Learnt
    new = entry switch (source inner) port vlan v.clock

    by : (b : Bool) → is_group (source inner) ≡ b → HasGood (cond b (unseen v false) (seen_by v new (learns_in v new))).vtep
    by true e = before
    by false e = seen_good v new before (source_single inner bytes e) (bound_there v before switch (source inner) port vlan v.clock bound) named

entered_good : (g : Gateway) (port : Bytes) (vlan : ℕ) (inner : Bytes) (a : Admission) → admission (ways g.vtep) (port, vlan) inner ≡ a → HasGood g.vtep → is_name port ≡ true → are_bytes inner ≡ true → HasGood (entered g port vlan inner a).gateway.vtep
entered_good g port vlan inner enter.Unbound may before named bytes = before
entered_good g port vlan inner enter.Denied may before named bytes = before
entered_good g port vlan inner (enter.To switch) may before named bytes =
    source_good g.vtep switch port vlan inner before (admitted_bound (ways g.vtep) (port, vlan) (headers_of inner) ((ways g.vtep).bound (port, vlan)) switch may) named bytes

frame_good : (g : Gateway) (port bytes : Bytes) (f : Result (ℕ × Bytes) FrameFault) → frame_of bytes ≡ f → HasGood g.vtep → is_name port ≡ true → are_bytes bytes ≡ true → HasGood (frame_step g port f).gateway.vtep
frame_good g port bytes (Ok f) e before named small = entered_good g port f.0 f.1 (admission (ways g.vtep) (port, f.0) f.1) refl before named (frame_bytes bytes f e small)
frame_good g port bytes (Err fault) e before named small = before

on_frame_good : (g : Gateway) (port bytes : Bytes) (b : Bool) → HasGood g.vtep → is_name port ≡ true → are_bytes bytes ≡ true → HasGood (cond b (frame_step g port (frame_of bytes)) (refused g NoPort)).gateway.vtep
on_frame_good g port bytes true before named small = frame_good g port bytes (frame_of bytes) refl before named small
on_frame_good g port bytes false before named small = before

-- ---- events

pub step_good : (g : Gateway) (e : Event) → IsEvent e → HasGood g.vtep → HasGood (step g e).gateway.vtep
step_good g (event.Bytes s piece) is before = all_good g.vtep s (come (fed (stream_of g.streams s) piece)).messages before
step_good g (event.Hangup s) is before = hangup_good g s (maps.has g.streams s) before
step_good g (event.Port name) is before = port_good g name (port_refusal g.vtep.rows name) refl is before
step_good g (event.Unport name) is before = unport_good g (port_named g.vtep.rows name) before
step_good g (event.Frame port bytes) is before = on_frame_good g port bytes (is_some (port_named g.vtep.rows port)) before is.0 is.1
step_good g (event.Underlay bytes) is before = before
step_good g (event.Age seconds) is before = age_good g.vtep seconds before

-- ---- a new gateway

module _ (name : Bytes) (ip : ℕ) (form : is_name name ≡ true) (fits : ip < 2 ^ 32) where
  abbrev first_rows : Rows
  first_rows = opening name ip

  abbrev global_at : Key
  global_at = (Global, row_id ip 1)

  abbrev switch_at : Key
  switch_at = (PhysicalSwitch, row_id ip 2)

  no_rows : IsRows (record { made = ip; counter = 0; rows = maps.empty })
  no_rows = record { tables = refl; identifiers = refl; contents = refl; count = omega arith; address = fits }

  rows_first : IsRows first_rows
  rows_first =
      still_inserted (inserted (record { made = ip; counter = 0; rows = maps.empty }) (global_row (row_id ip 2))) (switch_row name ip)
      (still_inserted (record { made = ip; counter = 0; rows = maps.empty }) (global_row (row_id ip 2)) no_rows (omega arith) (global_is_row (row_id ip 2))) (omega arith) (switch_is_row name ip (name_short name form) fits)

  abbrev is_local : Table → Bool
  is_local UcastMacsLocal = true
  is_local McastMacsLocal = true
  is_local t = false

  abbrev IsOne : Key → Contents → Type 0
  IsOne k row = ((k ≡ global_at) × (row ≡ global_row (row_id ip 2))) ⊎ ((k ≡ switch_at) × (row ≡ switch_row name ip))

  is_one : (k : Key) (row : Contents) → row_at first_rows k ≡ Some row → IsOne k row
  is_one k row = by (eq_by_cmp key_cmp k global_at) refl (eq_by_cmp key_cmp k switch_at) refl
    where
      by : (b : Bool) → eq_by_cmp key_cmp k global_at ≡ b → (c : Bool) → eq_by_cmp key_cmp k switch_at ≡ c → row_at first_rows k ≡ Some row → IsOne k row
      by true e c f is = inl (tied k global_at e, same_some row (global_row (row_id ip 2)) (sym is ∙ ap (λ b. cond b (Some (global_row (row_id ip 2))) (cond (eq_by_cmp key_cmp k switch_at) (Some (switch_row name ip)) None)) e))
      by false e true f is = inr (tied k switch_at f, same_some row (switch_row name ip) (sym is ∙ (λ i. cond (e i) (Some (global_row (row_id ip 2))) (cond (f i) (Some (switch_row name ip)) None))))
      by false e false f is = let clash : ◌≡◌ {A = Option Contents} None (Some row) = sym (λ i. cond (e i) (Some (global_row (row_id ip 2))) (cond (f i) (Some (switch_row name ip)) None)) ∙ is in absurd (cc)

  switch_is : row_at first_rows switch_at ≡ Some (switch_row name ip)
  switch_is = put_there (inserted (record { made = ip; counter = 0; rows = maps.empty }) (global_row (row_id ip 2))).rows switch_at (switch_row name ip)

  few_first : (t : Table) → length (rows_of t first_rows) ≤ (table_rule t).most
  few_first Global = omega arith
  few_first PhysicalSwitch = omega arith
  few_first _ = omega arith

  opening_settled : IsSettled first_rows
  opening_settled = record {
    rows = rows_first;
    sound = record {
      few = few_first;
      there = λ k row is. named k row (is_one k row is);
      unique = λ t i j a b is_a is_b _. one t i j (is_one (t, i) a is_a) (is_one (t, j) b is_b);
    };
    referenced = all_stay first_rows rows_first (λ k h. by_key k (row_at first_rows k) refl h);
    only = refl;
    name = name;
    ip = ip;
    fits = fits;
    switch = switch_is;
  }
    where
      named : (k : Key) (row : Contents) → IsOne k row → list_all (maps.has first_rows.rows) (references row) ≡ true
      named k row (inl same) = ap (λ x. list_all (maps.has first_rows.rows) (references x)) same.1 ∙ ap (λ b. b && true) (ap is_some switch_is)
      named k row (inr same) = ap (λ x. list_all (maps.has first_rows.rows) (references x)) same.1

      one : (t : Table) (i j : ℕ) {a b : Contents} → IsOne (t, i) a → IsOne (t, j) b → i ≡ j
      one t i j (inl p) (inl q) = ap (λ (k : Key). k.1) p.0 ∙ sym (ap (λ (k : Key). k.1) q.0)
      one t i j (inr p) (inr q) = ap (λ (k : Key). k.1) p.0 ∙ sym (ap (λ (k : Key). k.1) q.0)
      one t i j (inl p) (inr q) = let clash : Global ≡ PhysicalSwitch = sym (ap (λ (k : Key). k.0) p.0) ∙ ap (λ (k : Key). k.0) q.0 in absurd (cc)
      one t i j (inr p) (inl q) = let clash : PhysicalSwitch ≡ Global = sym (ap (λ (k : Key). k.0) p.0) ∙ ap (λ (k : Key). k.0) q.0 in absurd (cc)

      root : (k : Key) (row : Contents) → IsOne k row → stays first_rows.rows k ≡ true
      root k row (inl same) = ap (stays first_rows.rows) same.0
      root k row (inr same) = ap (stays first_rows.rows) same.0

      by_key : (k : Key) (o : Option Contents) → row_at first_rows k ≡ o → maps.has first_rows.rows k ≡ true → stays first_rows.rows k ≡ true
      by_key k None e h = absurd (true≢false (sym h ∙ ap is_some e))
      by_key k (Some row) e h = root k row (is_one k row e)

  none_local : (k : Key) (row : Contents) → is_local k.0 ≡ true → row_at first_rows k ≡ Some row → ⊥
  none_local k row local is = elim (is_one k row is) [
    | inl same ↦ absurd (true≢false (sym local ∙ ap (λ (q : Key). is_local q.0) same.0))
    | inr same ↦ absurd (true≢false (sym local ∙ ap (λ (q : Key). is_local q.0) same.0))
  ]

  none_bound : (s : ℕ) → is_bound first_rows s ≡ true → ⊥
  none_bound s h = by (row_at first_rows (LogicalSwitch, s)) refl
    where
      by : (o : Option Contents) → row_at first_rows (LogicalSwitch, s) ≡ o → ⊥
      by None e = true≢false (sym (first_so (maps.has first_rows.rows (LogicalSwitch, s)) (is_named_by_port first_rows s) h) ∙ ap is_some e)
      by (Some row) e = elim (is_one (LogicalSwitch, s) row e) [
        | inl same ↦ (let clash : LogicalSwitch ≡ Global = ap (λ (q : Key). q.0) same.0 in absurd (cc))
        | inr same ↦ (let clash : LogicalSwitch ≡ PhysicalSwitch = ap (λ (q : Key). q.0) same.0 in absurd (cc))
      ]

  pub opening_good : IsGood first_rows []
  opening_good = record {
    settled = opening_settled;
    local = record {
      once = refl;
      individual = refl;
      bound = refl;
      address_rows = λ i row is. absurd (none_local (UcastMacsLocal, i) row refl is);
      each_address = refl;
      flood_rows = λ i row is. absurd (none_local (McastMacsLocal, i) row refl is);
      each_flood = λ s h. absurd (none_bound s h);
    };
    named = refl;
  }
