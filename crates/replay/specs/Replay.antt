-- A whole input of the bench program: the calls that its records name, what becomes of it, and the page of its history.
use Rattle.std.specs.Prelude.{cond, List, [], ◌∷◌, ◌++◌, ℕ, ◌-◌, ◌*◌, ◌/◌, ◌%◌, eqb, leb, ltb, length, drop}
use Rattle.codec.specs.Format.{decs}
use Rattle.events.specs.Table.{EventRow}
use Rattle.calls.specs.declared.Call.{Call}
use Rattle.calls.specs.declared.Answer.{Answer}
use Rattle.calls.specs.declared.Answer.TheVariants as answer
use Rattle.calls.specs.declared.Command.{Command}
use Rattle.calls.specs.Calls.{Parsed}
use Rattle.calls.specs.declared.CommandError.TheVariants.{NoKind}
use Rattle.std.specs.Prelude.{Result, Ok, Err}
use Rattle.calls.specs.Calls.{signed_of, call_of}
use Rattle.history.specs.OnePhase.{Fresh, Account, account}
use Rattle.meter.specs.declared.Meter.{Meter}
use Rattle.meter.specs.declared.Outcome.{Outcome}
use Rattle.meter.specs.Machine.{commanded, record_after}
use Rattle.meter.specs.Settings.{settings_of, fresh_answer}
use Rattle.meter.specs.Fresh.{fresh_of}
use Rattle.page.specs.AccountPage.{page_length, account_page}
use Rattle.replay.specs.declared.ReplayError.{ReplayError}
use Rattle.replay.specs.declared.ReplayError.TheVariants.{Empty, Bad, Short, Refused}
use Rattle.replay.specs.Input.{record_format}

-- ---- the records of an input

-- 'records of 21 bytes'
abbrev pub record_length : ℕ
record_length = record_format.width

-- 'The first ..'
abbrev pub first_in : List ℕ → Command
first_in s = record_format.dec s 0

-- the whole records from number i on, counted from 0, in order
abbrev pub records_from : ℕ → List ℕ → List Command
records_from i s = decs record_format (length s / record_length - i) s (i * record_length)

-- those after the first
abbrev pub later_in : List ℕ → List Command
later_in s = records_from 1 s

-- 'Fresh takes mode, threshold, Over, Under, clock'; 'a sample or threshold is two's complement'
abbrev pub settings_in : Command → Fresh
settings_in r = settings_of r.n1 (signed_of r.n2) r.n3 r.n4 r.n5

-- 'kind | 13 | ..; the command's reading fails before the record is touched', and document 02, A3: 'Refusal 13 now means not 1–17': such a record adds no
-- call
abbrev pub with_call : Parsed → List Call → List Call
with_call (Ok c) cs = c ∷ cs
with_call (Err NoKind) cs = cs

-- the calls that records name, in order
unfoldable pub calls_in : List Command → List Call
calls_in [] = []
calls_in (r ∷ rs) = with_call (call_of r) (calls_in rs)

-- ---- the records, one by one, by an event table

-- 'The first has kind 0 and is fresh': what it makes, if it has kind 0
abbrev pub start_of : Command → Outcome
start_of r = fresh_of (settings_in r)

-- 'each next one the record that the call before handed back': a later record on a meter
abbrev pub next_of : List EventRow → Meter → Command → Outcome
next_of rows m r = commanded rows m r

-- the meter after some records: the machine's, after the calls that they name
abbrev pub meter_after : List EventRow → Meter → List Command → Meter
meter_after rows m rs = record_after rows m (calls_in rs)

-- the meter after the last record, by the machine
abbrev pub last_meter : List EventRow → List ℕ → Meter
last_meter rows s = meter_after rows (start_of (first_in s)).meter (later_in s)

-- ---- the whole input

-- 'Drawn from the list and its fresh settings without running the machine': the account of the input's history
unfoldable pub account_in : List EventRow → List ℕ → Account
account_in rows s = account rows (settings_in (first_in s)) (calls_in (later_in s))

-- what becomes of an input: the page of its history is written, or why it is not
abbrev pub Replayed : Type 0
Replayed = Result (Unit {0}) ReplayError

-- a refusal, or else what follows
abbrev pub unless_refused : Answer → Replayed → Replayed
unless_refused answer.Accepted r = r
unless_refused (answer.Refused n) r = Err (Refused n)

-- once fresh is accepted, with records of w bytes and a page of n: 'a cut record .. writes `short` and ends'; 'writer | 8 | buffer under 558 bytes', now n
abbrev pub end_of : ℕ → ℕ → List ℕ → List ℕ → Replayed
end_of w n s out = cond (eqb (length s % w) 0) (cond (leb n (length out)) (Ok tt) (Err (Refused 8))) (Err Short)

-- 'Empty input writes nothing'; 'a cut record, the first too, writes `short`'; 'kind 0 .., else one line `bad`'; 'A refused fresh ends the run'
unfoldable pub replay_answer : List ℕ → List ℕ → Replayed
replay_answer s out =
    cond (eqb (length s) 0) (Err Empty)
    (cond (ltb (length s) record_length) (Err Short)
    (cond (eqb (first_in s).kind 0) (unless_refused (fresh_answer (settings_in (first_in s))) (end_of record_length page_length s out)) (Err Bad)))

-- 'The writer leaves bytes past 558', now past n, the page's length; whatever else becomes of an input leaves every byte
abbrev pub buffer_after : ℕ → Replayed → List ℕ → List ℕ → List ℕ
buffer_after n (Ok u) page out = page ++ drop n out
buffer_after n (Err e) page out = out

-- 'Each page holds its own account, byte for byte by the layout'
unfoldable pub replayed : List EventRow → List ℕ → List ℕ → List ℕ
replayed rows s out = buffer_after page_length (replay_answer s out) (account_page (account_in rows s)) out
