-- Two pages by hand, and a case of demand 3: document 01's worked example beside a fresh meter of its settings.
use Rattle.std.specs.Prelude.{◌≡◌, refl, true, List, [], ◌∷◌, ◌++◌, ℕ, ◌*◌, pos, replicate}
use Rattle.std.proofs.Common.{arith}
use Rattle.base.specs.Tests.{every}
use Rattle.events.specs.Line.{line}
use Rattle.events.specs.Table.{EventRow, both, built_in, lawful}
use Rattle.calls.specs.declared.Answer.TheVariants.{Accepted}
use Rattle.calls.specs.declared.Call.TheVariants.{Event, ClearLog}
use Rattle.history.specs.Effects.{Profile}
use Rattle.history.specs.Profile.{waiting, active}
use Rattle.history.specs.OnePhase.{Account}
use Rattle.history.specs.Examples.{example_settings, example_calls}
use Rattle.meter.specs.Settings.{fresh_answer, SettingsInRange}
use Rattle.meter.specs.Fresh.{fresh_of}
use Rattle.page.specs.Layout.{size}
use Rattle.page.specs.AccountPage.{emergency_bytes, account_page}
use Rattle.page.specs.Demand3.{Trace, page_after, trace_account, Compared}

-- fresh accepts (5, 3000, 2, 3, 1000)
pub bench_accepted : (fresh_of example_settings).answer ≡ Accepted
unfolding fresh_answer
bench_accepted = refl

-- document 01's event table is lawful
pub built_in_lawful : every lawful built_in ≡ true
unfolding every lawful built_in
built_in_lawful = refl

-- its numbers are values of their types
pub bench_in_range : SettingsInRange example_settings
bench_in_range = record { threshold = (refl, refl); clock = omega arith }

-- the worked example
abbrev pub worked : Trace
worked =
    record {
      rows = built_in;
      settings = example_settings;
      calls = example_calls;
      lawful_rows = built_in_lawful;
      accepted = bench_accepted;
      settings_in_range = bench_in_range;
      calls_in_range = (
        (refl, refl),
        (
          (refl, refl),
          (
            (refl, refl),
            (
              tt,
              (
                (refl, refl),
                (
                  (refl, refl),
                  (
                    (refl, refl),
                    (
                      tt,
                      (
                        tt,
                        (omega arith, (omega arith, (omega arith, (omega arith, (tt, tt))))),
                      ),
                    ),
                  ),
                ),
              ),
            ),
          ),
        ),
      );
    }

-- its settings and no call
abbrev pub unused : Trace
unused =
    record {
      rows = built_in;
      settings = example_settings;
      calls = [];
      lawful_rows = built_in_lawful;
      accepted = bench_accepted;
      settings_in_range = bench_in_range;
      calls_in_range = tt;
    }

-- document 02, A8: an event table of one line, in which 20 is what 6 is in the built-in one
abbrev pub own_rows : List EventRow
own_rows = both 1 20 0 ∷ []

pub own_lawful : every lawful own_rows ≡ true
unfolding every lawful
own_lawful = refl

-- the event by the one table and by the other; its line goes with the log
abbrev pub by_built_in : Trace
by_built_in =
    record {
      rows = built_in;
      settings = example_settings;
      calls = Event 6 ∷ ClearLog 1 ∷ [];
      lawful_rows = built_in_lawful;
      accepted = bench_accepted;
      settings_in_range = bench_in_range;
      calls_in_range = (omega arith, (omega arith, tt));
    }

abbrev pub by_own_table : Trace
by_own_table =
    record {
      rows = own_rows;
      settings = example_settings;
      calls = Event 20 ∷ ClearLog 1 ∷ [];
      lawful_rows = own_lawful;
      accepted = bench_accepted;
      settings_in_range = bench_in_range;
      calls_in_range = (omega arith, (omega arith, tt));
    }

-- a log without lines: its count, and the zeros of 32 lines
abbrev pub no_lines : List ℕ
no_lines = replicate 161 0

-- the bytes of document 01's worked example: 'Log 3 then: 65, 64, 61 at 1003; .. 62, 59, 63 at 1006'; document 02, A5: 'The 66 drops out of 01's
-- example log'
abbrev pub worked_bytes : List ℕ
worked_bytes =
    -- (36,6) (42,17) (59,4) (63,9) (72,8) (80,161) (241,161) (402,161) (563,36)
    0 ∷ 36 ∷ 0 ∷ 6 ∷ 0 ∷ 42 ∷ 0 ∷ 17 ∷ 0 ∷ 59 ∷ 0 ∷ 4 ∷ 0 ∷ 63 ∷ 0 ∷ 9 ∷ 0 ∷ 72 ∷ 0 ∷ 8 ∷ 0 ∷ 80 ∷ 0 ∷ 161 ∷ 0 ∷ 241 ∷ 0 ∷ 161
    ∷ 1 ∷ 146 ∷ 0 ∷ 161 ∷ 2 ∷ 51 ∷ 0 ∷ 36
    -- mode 0, switch 1, two openings
    ∷ 0 ∷ 1 ∷ 0 ∷ 0 ∷ 0 ∷ 2
    -- threshold 3000, Over 2, Under 3, not Exceeded, Run 0
    ∷ 0 ∷ 0 ∷ 11 ∷ 184 ∷ 0 ∷ 0 ∷ 0 ∷ 2 ∷ 0 ∷ 0 ∷ 0 ∷ 3 ∷ 0 ∷ 0 ∷ 0 ∷ 0 ∷ 0
    -- clock 1006
    ∷ 0 ∷ 0 ∷ 3 ∷ 238
    -- alarms, their filter and number; errors and their filter
    ∷ 0 ∷ 0 ∷ 0 ∷ 0 ∷ 0 ∷ 0 ∷ 0 ∷ 0 ∷ 0 ∷ 0 ∷ 0 ∷ 0 ∷ 0 ∷ 0 ∷ 0 ∷ 0 ∷ 0
    ∷ (no_lines ++ (no_lines ++ (
    6 ∷ 0 ∷ 0 ∷ 3 ∷ 235 ∷ 65 ∷ 0 ∷ 0 ∷ 3 ∷ 235 ∷ 64 ∷ 0 ∷ 0 ∷ 3 ∷ 235 ∷ 61
    ∷ 0 ∷ 0 ∷ 3 ∷ 238 ∷ 62 ∷ 0 ∷ 0 ∷ 3 ∷ 238 ∷ 59 ∷ 0 ∷ 0 ∷ 3 ∷ 238 ∷ 63
    ∷ (replicate (26 * 5) 0
    -- no emergency profile, and no groups
    ++ replicate 36 0))))

-- a profile in which each field has a number of its own
abbrev pub some_profile : Profile
some_profile = record { id = 772; threshold = pos 16843009; activation = 4278255360; duration = 604800 }

-- an account in which each field has a number of its own
abbrev pub distinct : Account
distinct =
    record {
      mode = 6;
      switch = 2;
      openings = 16909060;
      threshold = pos 2147483647;
      over = 86400;
      under = 259;
      exceeded = true;
      run = 258;
      clock = 4294967295;
      alarms = 8451;
      alarm_filter = 4096;
      alarm_count = 4;
      errors = 7937;
      error_filter = 2147483648;
      logs = (line 1 4 ∷ line 2 5 ∷ []) ∷ (line 3 40 ∷ []) ∷ (line 4 65 ∷ line 4 64 ∷ line 5 255 ∷ []) ∷ [];
      groups = 65535 ∷ 772 ∷ 7 ∷ 772 ∷ [];
      profile = active some_profile 260;
    }

-- its bytes
abbrev pub distinct_bytes : List ℕ
distinct_bytes =
    -- the pairs
    0 ∷ 36 ∷ 0 ∷ 6 ∷ 0 ∷ 42 ∷ 0 ∷ 17 ∷ 0 ∷ 59 ∷ 0 ∷ 4 ∷ 0 ∷ 63 ∷ 0 ∷ 9 ∷ 0 ∷ 72 ∷ 0 ∷ 8 ∷ 0 ∷ 80 ∷ 0 ∷ 161 ∷ 0 ∷ 241 ∷ 0 ∷ 161
    ∷ 1 ∷ 146 ∷ 0 ∷ 161 ∷ 2 ∷ 51 ∷ 0 ∷ 36
    -- mode 6, switch 2, openings
    ∷ 6 ∷ 2 ∷ 1 ∷ 2 ∷ 3 ∷ 4
    -- threshold, Over 86,400, Under 259, Exceeded, Run 258
    ∷ 127 ∷ 255 ∷ 255 ∷ 255 ∷ 0 ∷ 1 ∷ 81 ∷ 128 ∷ 0 ∷ 0 ∷ 1 ∷ 3 ∷ 1 ∷ 0 ∷ 0 ∷ 1 ∷ 2
    -- clock
    ∷ 255 ∷ 255 ∷ 255 ∷ 255
    -- alarms, their filter and number
    ∷ 0 ∷ 0 ∷ 33 ∷ 3 ∷ 0 ∷ 0 ∷ 16 ∷ 0 ∷ 4
    -- errors and theirs
    ∷ 0 ∷ 0 ∷ 31 ∷ 1 ∷ 128 ∷ 0 ∷ 0 ∷ 0
    -- log 1: two lines
    ∷ 2 ∷ 0 ∷ 0 ∷ 0 ∷ 1 ∷ 4 ∷ 0 ∷ 0 ∷ 0 ∷ 2 ∷ 5
    ∷ (replicate (30 * 5) 0
    -- log 2: one line
    ++ (1 ∷ 0 ∷ 0 ∷ 0 ∷ 3 ∷ 40 ∷ replicate (31 * 5) 0
    -- log 3: three lines
    ++ (3 ∷ 0 ∷ 0 ∷ 0 ∷ 4 ∷ 65 ∷ 0 ∷ 0 ∷ 0 ∷ 4 ∷ 64 ∷ 0 ∷ 0 ∷ 0 ∷ 5 ∷ 255 ∷ (replicate (29 * 5) 0
    -- the profile: id 772, threshold, activation, duration 604,800, 260 samples left, active
    ++ (3 ∷ 4 ∷ 1 ∷ 1 ∷ 1 ∷ 1 ∷ 255 ∷ 0 ∷ 255 ∷ 0 ∷ 0 ∷ 9 ∷ 58 ∷ 128 ∷ 0 ∷ 0 ∷ 1 ∷ 4 ∷ 2
    -- four groups
    ∷ 4 ∷ 255 ∷ 255 ∷ 3 ∷ 4 ∷ 0 ∷ 7 ∷ 3 ∷ 4 ∷ replicate (4 * 2) 0)))))

-- the ninth area of one group and a profile that waits: 'samples left equals the duration while waiting'
abbrev pub waiting_bytes : List ℕ
waiting_bytes =
    3 ∷ 4 ∷ 1 ∷ 1 ∷ 1 ∷ 1 ∷ 255 ∷ 0 ∷ 255 ∷ 0 ∷ 0 ∷ 9 ∷ 58 ∷ 128 ∷ 0 ∷ 9 ∷ 58 ∷ 128 ∷ 1
    ∷ 1 ∷ 0 ∷ 7 ∷ replicate (7 * 2) 0

-- the two pages, the area, and demand 3 of the two traces
pub record Examples : Type 0 where
  -- the account of the worked example, in the page's layout
  pub worked_page : account_page (trace_account worked) ≡ worked_bytes
  -- each field stands where document 01 says, and nowhere else
  pub distinct_page : account_page distinct ≡ distinct_bytes
  -- document 02, A3: a profile that waits
  pub waiting_area : emergency_bytes (7 ∷ []) (waiting some_profile) ≡ waiting_bytes
  -- two traces, each with a buffer that is long enough: what demand 3 speaks of is there
  pub compared : Compared worked unused (replicate size 255) (replicate 600 0)
  -- document 02, A8: two lists with two tables whose accounts are equal, and so their pages
  pub two_accounts : trace_account by_built_in ≡ trace_account by_own_table
  pub two_tables : page_after by_built_in (replicate size 0) ≡ page_after by_own_table (replicate size 0)
