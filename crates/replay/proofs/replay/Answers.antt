use mathlib.Core.Path.{◌≡◌, ◌∙◌, ap, sym}
use mathlib.Core.Bool.{false}
use Prim.Native.Nat.{ℕ, ◌≤◌}
use native.Mathlib.Omega.{arith}
use lib.Dec.{eqb}
use borrow.Author.Tests.{eq-eqb, ne_eqb, lt-ltb, le-ltb}
use Rattle.tables.specs.Index.{table_in}
use Rattle.tables.proofs.Index.{table_lawful}
use Rattle.calls.specs.declared.Command.{Command}
use Rattle.std.specs.Prelude.{Ok, Err}
use Rattle.std.proofs.lemmas.Result.{err_from_is_err_and}
use Rattle.replay.specs.declared.ReplayError.TheVariants.{Empty, Bad, Short}
use Rattle.replay.specs.Replay.{record_length, first_in, start_of, unless_refused, end_of, replay_answer, replayed}
use Rattle.page.specs.Layout.{size}
use Rattle.history.specs.Laws.{Laws as AccountLaws}
use Rattle.history.specs.RemoteDisconnect.{RemoteDisconnectHolds}
use Rattle.history.specs.Examples.{WorkedExample}
use Rattle.history.specs.Histories.{Histories}
use Rattle.history.proofs.Laws as account
use Rattle.history.proofs.RemoteDisconnect.{remote_disconnect_holds}
use Rattle.history.proofs.Examples.{worked_example, histories}
use Rattle.replay.specs.Laws.{Laws}
use Rattle.replay.specs.Examples.{Examples}
use Rattle.replay.proofs.Laws.{laws}
use Rattle.replay.proofs.Examples.{examples}
use Rattle.replay.proofs.Answers.{accepts, refuses}
use Rattle.replay.proofs.Runs.{with_bytes, Begun, begun, ended}
use Rattle.replay.proofs.replay.Goals as goal
use Rattle.replay.proofs.replay.Goals.{After-record_at-first, After-start-fresh, After-write_page}

-- what is promised beside the equations, of every input alike
claims : Laws × (AccountLaws × (RemoteDisconnectHolds × ((WorkedExample × Histories) × Examples)))
claims = (laws, (account.laws, (remote_disconnect_holds, ((worked_example, histories), examples))))

some_bytes : (n : ℕ) → 21 ≤ n → eqb n 0 ≡ false
some_bytes n h = ne_eqb n 0 (λ e. omega (arith, e))

kind_read : (c : After-record_at-first) → c.record_at-first.result.kind ≡ (first_in c.args.records.now).kind
kind_read c = ap (λ (r : Command). r.kind) c.record_at-first.ensures

begins : (c : After-start-fresh) → Begun c.args.records.now c.args.page.now c.start-fresh.result
begins c =
    begun _ _ _ (some_bytes _ c.if-records-lt-RECORD_LEN.false) (le-ltb _ _ c.if-records-lt-RECORD_LEN.false)
    (eq-eqb _ _ (sym (ap (λ (r : Command). r.kind) c.record_at-first.ensures) ∙ c.if-first-ne0.false))
    (c.start-fresh.ensures ∙ ap start_of c.record_at-first.ensures)

page_written : (c : After-write_page)
    → (unless_refused c.write_page.result (Ok tt) ≡ replay_answer c.args.records.now c.args.page.now)
    × (c.write_page.new.out ≡ replayed (table_in c.args.table.now) c.args.records.now c.args.page.now)
page_written c =
    ended (table_in c.args.table.now) (table_lawful c.args.table.now) (begun _ _ _ (some_bytes _ c.if-records-lt-RECORD_LEN.false) (le-ltb _ _ c.if-records-lt-RECORD_LEN.false)
    (eq-eqb _ _ (sym (ap (λ (r : Command). r.kind) c.record_at-first.ensures) ∙ c.if-first-ne0.false))
    (c.start-fresh.ensures ∙ ap start_of c.record_at-first.ensures)) (λ i. omega (arith, c.type_inv.records i))
    (accepts _ _ (sym c.accepted.ensures ∙ c.in_ok-accepted.was))
    (eq-eqb _ _ c.if-records-ne0.false)
    c.run_from-last.result c.write_page.result c.write_page.new.out c.run_from-last.ensures c.write_page.ensures.value

pub returns-then-records-eq0 : goal.returns-then-records-eq0
unfolding replay_answer
returns-then-records-eq0 c = record {
  value = with_bytes _ _ _ (Err Empty) (rw (eq-eqb _ _ c.if-records-eq0.true));
  laws = claims.0;
  account = claims.1.0;
  remote_disconnect = claims.1.1.0;
  histories = claims.1.1.1.0;
  examples = claims.1.1.1.1;
}

pub returns-then-records-lt-RECORD_LEN : goal.returns-then-records-lt-RECORD_LEN
unfolding replay_answer
returns-then-records-lt-RECORD_LEN c = record {
  value = with_bytes _ _ _ (Err Short) (rw (ne_eqb _ _ c.if-records-eq0.false, lt-ltb _ _ c.if-records-lt-RECORD_LEN.true));
  laws = claims.0;
  account = claims.1.0;
  remote_disconnect = claims.1.1.0;
  histories = claims.1.1.1.0;
  examples = claims.1.1.1.1;
}

pub returns-then-first-ne0 : goal.returns-then-first-ne0
unfolding replay_answer
returns-then-first-ne0 c =
    let other = rw (kind_read (goal.at.returns-then-first-ne0 c).After-record_at-first) at (ne_eqb _ _ c.if-first-ne0.true) in
    record {
      value = with_bytes _ _ _ (Err Bad) (rw (some_bytes _ c.if-records-lt-RECORD_LEN.false, le-ltb _ _ c.if-records-lt-RECORD_LEN.false, other));
      laws = claims.0;
      account = claims.1.0;
      remote_disconnect = claims.1.1.0;
      histories = claims.1.1.1.0;
      examples = claims.1.1.1.1;
    }

pub returns-in_err-accepted : goal.returns-in_err-accepted
returns-in_err-accepted c =
    let e = refuses _ _ (end_of record_length size c.args.records.now c.args.page.now) (sym c.accepted.ensures ∙ c.in_err-accepted.was) in
    let r = err_from_is_err_and c.from_residual.result c.from_residual.ensures.1 in
    record {
      value = rw (r.1, r.2) (with_bytes _ _ _ (Err c.in_err-accepted.field-0.0) ((begins (goal.at.returns-in_err-accepted c).After-start-fresh).answer ∙ e));
      laws = claims.0;
      account = claims.1.0;
      remote_disconnect = claims.1.1.0;
      histories = claims.1.1.1.0;
      examples = claims.1.1.1.1;
    }

pub returns-then-records-ne0 : goal.returns-then-records-ne0
returns-then-records-ne0 c =
    record {
      value = with_bytes _ _ _ (Err Short) ((begins (goal.at.returns-then-records-ne0 c).After-start-fresh).answer ∙ rw (accepts _ _ (sym c.accepted.ensures ∙ c.in_ok-accepted.was), ne_eqb _ _ c.if-records-ne0.true));
      laws = claims.0;
      account = claims.1.0;
      remote_disconnect = claims.1.1.0;
      histories = claims.1.1.1.0;
      examples = claims.1.1.1.1;
    }

pub returns : goal.returns
returns c = record {
  value = rw (← c.accepted-2.ensures) at (page_written (goal.at.returns c).After-write_page);
  laws = claims.0;
  account = claims.1.0;
  remote_disconnect = claims.1.1.0;
  histories = claims.1.1.1.0;
  examples = claims.1.1.1.1;
}
