use Rattle.base.proofs.Prelude.{◌≡◌, sym, ap, ◌∙◌, false, ℕ, ◌≤◌, eqb, arith, eq-eqb, ne_eqb, lt-ltb, le-ltb}
use Rattle.tables.specs.Index.{table_in}
use Rattle.tables.proofs.Index.{table_lawful}
use Rattle.phases.specs.declared.ThreePhaseCommand.{ThreePhaseCommand}
use Rattle.std.specs.Prelude.{Ok, Err}
use Rattle.std.proofs.lemmas.Result.{err_from_is_err_and}
use Rattle.replay.specs.declared.ReplayError.TheVariants.{Empty, Bad, Short}
use Rattle.replay.specs.Replay.{unless_refused, end_of}
use Rattle.replay.proofs.Answers.{accepts, refuses}
use Rattle.phases_page.specs.Layout.{three_phase_size}
use Rattle.phases_replay.specs.Replay.{three_phase_record_length, three_phase_first_in, three_phase_start_of, three_phase_replay_answer, three_phase_replayed}
use Rattle.phases_replay.specs.Laws.{Laws}
use Rattle.phases_replay.specs.Examples.{Examples}
use Rattle.phases_replay.proofs.Laws.{laws}
use Rattle.phases_replay.proofs.Examples.{examples}
use Rattle.phases_replay.proofs.Runs.{with_bytes, Begun, begun, ended}
use Rattle.phases_replay.proofs.replay_three_phase.Goals as goal
use Rattle.phases_replay.proofs.replay_three_phase.Goals.{After-whole_record_at-first, After-start-fresh, After-write_three_phase_page}

-- what is promised beside the equations, of every input alike
claims : Laws × Examples
claims = (laws, examples)

some_bytes : (n : ℕ) → 33 ≤ n → eqb n 0 ≡ false
some_bytes n h = ne_eqb n 0 (λ e. omega (arith, e))

kind_read : (c : After-whole_record_at-first) → c.whole_record_at-first.result.kind ≡ (three_phase_first_in c.args.records.now).kind
kind_read c = ap (λ (r : ThreePhaseCommand). r.kind) c.whole_record_at-first.ensures

begins : (c : After-start-fresh) → Begun c.args.records.now c.args.page.now c.start-fresh.result
begins c =
    begun _ _ _ (some_bytes _ c.if-records-lt-THREE_PHASE_RECORD_LEN.false) (le-ltb _ _ c.if-records-lt-THREE_PHASE_RECORD_LEN.false)
    (eq-eqb _ _ (sym (ap (λ (r : ThreePhaseCommand). r.kind) c.whole_record_at-first.ensures) ∙ c.if-first-ne0.false))
    (c.start-fresh.ensures ∙ ap three_phase_start_of c.whole_record_at-first.ensures)

page_written : (c : After-write_three_phase_page)
    → (unless_refused c.write_three_phase_page.result (Ok tt) ≡ three_phase_replay_answer c.args.records.now c.args.page.now)
    × (c.write_three_phase_page.new.out ≡ three_phase_replayed (table_in c.args.table.now) c.args.records.now c.args.page.now)
page_written c =
    ended (table_in c.args.table.now) (table_lawful c.args.table.now) (begun _ _ _ (some_bytes _ c.if-records-lt-THREE_PHASE_RECORD_LEN.false) (le-ltb _ _ c.if-records-lt-THREE_PHASE_RECORD_LEN.false)
    (eq-eqb _ _ (sym (ap (λ (r : ThreePhaseCommand). r.kind) c.whole_record_at-first.ensures) ∙ c.if-first-ne0.false))
    (c.start-fresh.ensures ∙ ap three_phase_start_of c.whole_record_at-first.ensures))
    (λ i. omega (arith, c.type_inv.records i))
    (accepts _ _ (sym c.accepted.ensures ∙ c.in_ok-accepted.was))
    (eq-eqb _ _ c.if-records-ne0.false)
    c.run_from-last.result c.write_three_phase_page.result c.write_three_phase_page.new.out c.run_from-last.ensures
    c.write_three_phase_page.ensures.value

pub returns-then-records-eq0 : goal.returns-then-records-eq0
unfolding three_phase_replay_answer
returns-then-records-eq0 c = record {
  value = with_bytes _ _ _ (Err Empty) (rw (eq-eqb _ _ c.if-records-eq0.true));
  laws = claims.0;
  examples = claims.1;
}

pub returns-then-records-lt-THREE_PHASE_RECORD_LEN : goal.returns-then-records-lt-THREE_PHASE_RECORD_LEN
unfolding three_phase_replay_answer
returns-then-records-lt-THREE_PHASE_RECORD_LEN c = record {
  value = with_bytes _ _ _ (Err Short) (rw (ne_eqb _ _ c.if-records-eq0.false, lt-ltb _ _ c.if-records-lt-THREE_PHASE_RECORD_LEN.true));
  laws = claims.0;
  examples = claims.1;
}

pub returns-then-first-ne0 : goal.returns-then-first-ne0
unfolding three_phase_replay_answer
returns-then-first-ne0 c =
    let other = rw (kind_read (goal.at.returns-then-first-ne0 c).After-whole_record_at-first) at (ne_eqb _ _ c.if-first-ne0.true) in
    record {
      value = with_bytes _ _ _ (Err Bad) (rw (some_bytes _ c.if-records-lt-THREE_PHASE_RECORD_LEN.false, le-ltb _ _ c.if-records-lt-THREE_PHASE_RECORD_LEN.false, other));
      laws = claims.0;
      examples = claims.1;
    }

pub returns-in_err-accepted : goal.returns-in_err-accepted
returns-in_err-accepted c =
    let e = refuses _ _ (end_of three_phase_record_length three_phase_size c.args.records.now c.args.page.now) (sym c.accepted.ensures ∙ c.in_err-accepted.was) in
    let r = err_from_is_err_and c.from_residual.result c.from_residual.ensures.1 in
    record {
      value = rw (r.1, r.2) (with_bytes _ _ _ (Err c.in_err-accepted.field-0.0) ((begins (goal.at.returns-in_err-accepted c).After-start-fresh).answer ∙ e));
      laws = claims.0;
      examples = claims.1;
    }

pub returns-then-records-ne0 : goal.returns-then-records-ne0
returns-then-records-ne0 c =
    record {
      value = with_bytes _ _ _ (Err Short) ((begins (goal.at.returns-then-records-ne0 c).After-start-fresh).answer ∙ rw (accepts _ _ (sym c.accepted.ensures ∙ c.in_ok-accepted.was), ne_eqb _ _ c.if-records-ne0.true));
      laws = claims.0;
      examples = claims.1;
    }

pub returns : goal.returns
returns c = record {
  value = rw (← c.accepted-2.ensures) at (page_written (goal.at.returns c).After-write_three_phase_page);
  laws = claims.0;
  examples = claims.1;
}
