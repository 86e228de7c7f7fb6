-- 'To be proved of the definitions as one table: lines 3, 4, 8, 10, 12, 14, 15 above; power −2,147,483,648 is not over 0; Over 86,400 taken,
-- 86,401 refused; the 33rd line drops the first.' With log 3 at the end of the example.
use Rattle.std.specs.Prelude.{ℕ, zero, suc, ◌-◌, ◌≡◌, false, List, [], ◌∷◌, map, pos, negsuc, get_or}
use Rattle.events.specs.Line.{Line, line}
use Rattle.events.specs.Table.{built_in}
use Rattle.limiter.specs.Limiter.{is_over}
use Rattle.logs.specs.Layout.{lists_of}
use Rattle.calls.specs.declared.Call.{Call}
use Rattle.calls.specs.declared.Call.TheVariants.{Sample, SetLimiter, Event}
use Rattle.calls.specs.declared.Answer.TheVariants.{Accepted, Refused}
use Rattle.calls.specs.Calls.{answer_number}
use Rattle.history.specs.OnePhase.{Fresh}
use Rattle.history.specs.Examples.{example_settings, example_calls}
use Rattle.meter.specs.declared.Meter.{Meter}
use Rattle.meter.specs.State.{record_of}
use Rattle.meter.specs.Machine.{applied, record_after}
use Rattle.meter.specs.Fresh.{fresh_state}

-- 'Per record a line: position from 1, refusal or 0, switch, openings'
pub record LineNumbers : Type 0 where
  pub position : ℕ
  pub refusal : ℕ
  pub switch : ℕ
  pub openings : ℕ

-- a line of these four numbers
abbrev pub line_numbers : ℕ → ℕ → ℕ → ℕ → LineNumbers
line_numbers k n s o = record { position = k; refusal = n; switch = s; openings = o }

-- the line of the record m at position k, with the refusal n
abbrev pub line_numbers_of : ℕ → ℕ → Meter → LineNumbers
line_numbers_of k n m = line_numbers k n m.control.state m.control.openings

-- the lines of calls from position k on: each call gets the record that the one before handed back
unfoldable pub line_numbers_from : ℕ → Meter → List Call → List LineNumbers
line_numbers_from k m [] = []
line_numbers_from k m (c ∷ cs) =
    let o = applied built_in m c in
    line_numbers_of k (answer_number o.answer) o.meter ∷ line_numbers_from (suc k) o.meter cs

-- 'The first has kind 0 and is fresh'
abbrev pub line_numbers_of_all : Fresh → List Call → List LineNumbers
line_numbers_of_all f cs =
    let m = record_of (fresh_state f) in
    line_numbers_of 1 0 m ∷ line_numbers_from 2 m cs

-- the printed lines at some positions
abbrev pub line_numbers_at : List ℕ → List LineNumbers
line_numbers_at ks = map (λ k. get_or (line_numbers_of_all example_settings example_calls) (k - 1) (line_numbers 0 0 0 0)) ks

-- log n of a record
abbrev pub log_in : Meter → ℕ → List Line
log_in m n = get_or (lists_of m.logs) (n - 1) []

-- the fresh meter of the worked example
abbrev pub example_meter : Meter
example_meter = record_of (fresh_state example_settings)

-- n samples, and after each the event 1: a line in log 1 for each second
abbrev pub calls_every_second : ℕ → List Call
calls_every_second zero = []
calls_every_second (suc n) = Sample (pos 0) ∷ Event 1 ∷ calls_every_second n

-- n lines of code c, at t and each second after it
abbrev pub every_second : ℕ → ℕ → ℕ → List Line
every_second c t zero = []
every_second c t (suc n) = line t c ∷ every_second c (suc t) n

-- the examples, one table
pub record Examples : Type 0 where
  pub lines :
      line_numbers_at (3 ∷ 4 ∷ 8 ∷ 10 ∷ 12 ∷ 14 ∷ 15 ∷ [])
      ≡ line_numbers 3 0 1 0 ∷ line_numbers 4 0 2 1 ∷ line_numbers 8 0 1 1 ∷ line_numbers 10 0 0 2
      ∷ line_numbers 12 0 2 2 ∷ line_numbers 14 0 1 2 ∷ line_numbers 15 2 1 2 ∷ []
  -- 'Log 3 then: 65, 64, 61 at 1003; .. 62, 59, 63 at 1006'; document 02, A5: 'The 66 drops out of 01's example log'
  pub log :
      log_in (record_after built_in example_meter example_calls) 3
      ≡ line 1003 65 ∷ line 1003 64 ∷ line 1003 61 ∷ line 1006 62 ∷ line 1006 59 ∷ line 1006 63 ∷ []
  pub power : is_over (pos 0) (negsuc 2147483647) ≡ false
  pub taken : (applied built_in example_meter (SetLimiter (pos 3000) 86400 3)).answer ≡ Accepted
  pub refused : (applied built_in example_meter (SetLimiter (pos 3000) 86401 3)).answer ≡ Refused 5
  -- 32 lines stand; of 33, the first is dropped
  pub full : log_in (record_after built_in example_meter (calls_every_second 32)) 1 ≡ every_second 1 1001 32
  pub dropped : log_in (record_after built_in example_meter (calls_every_second 33)) 1 ≡ every_second 1 1002 32
