-- Two pages of the three-phase meter by hand, and cases of demand 3.
use Rattle.std.specs.Prelude.{◌≡◌, refl, true, false, List, [], ◌∷◌, ◌++◌, ℕ, ◌*◌, pos, replicate}
use Rattle.std.proofs.Common.{arith}
use Rattle.events.specs.Line.{line}
use Rattle.events.specs.Table.{built_in}
use Rattle.calls.specs.declared.Answer.TheVariants.{Accepted}
use Rattle.phases.specs.declared.ThreePhaseCall.{ThreePhaseCall}
use Rattle.phases.specs.declared.ThreePhaseCall.TheVariants.{Event, ClearLog}
use Rattle.phases.specs.ThreePhase.{ThreePhaseFresh, ThreePhaseAccount}
use Rattle.phases.specs.Examples.{settings_with, powers}
use Rattle.phases_meter.specs.Settings.{three_phase_fresh_answer, ThreePhaseSettingsInRange}
use Rattle.phases_meter.specs.Fresh.{three_phase_fresh_of}
use Rattle.page.specs.Examples.{built_in_lawful, own_rows, own_lawful, no_lines}
use Rattle.phases_page.specs.Layout.{three_phase_size}
use Rattle.phases_page.specs.AccountPage.{three_phase_account_page}
use Rattle.phases_page.specs.Demand3.{ThreePhaseTrace, three_phase_page_after, three_phase_trace_account, ThreePhaseCompared}

-- mode 5, 100, 200 and 300 W a phase and 450 W in all, Over 3 and Under 4
abbrev pub four_thresholds : ThreePhaseFresh
four_thresholds = settings_with 5 100 200 300 450 3 4

-- fresh accepts them
pub four_accepted : (three_phase_fresh_of four_thresholds).answer ≡ Accepted
unfolding three_phase_fresh_answer
four_accepted = refl

-- they are values of their types
pub four_in_range : ThreePhaseSettingsInRange four_thresholds
four_in_range = record { l1 = (refl, refl); l2 = (refl, refl); l3 = (refl, refl); sum = (refl, refl); clock = omega arith }

-- L1 and the sum fire over with the third sample; then L1 is over once more and then not, L2 is over twice, and L3 once
abbrev pub five_samples : List ThreePhaseCall
five_samples = powers 101 100 300 ∷ powers 101 100 300 ∷ powers 101 100 300 ∷ powers 101 201 200 ∷ powers 0 201 301 ∷ []

-- the five samples
abbrev pub sampled : ThreePhaseTrace
sampled =
    record {
      rows = built_in;
      settings = four_thresholds;
      calls = five_samples;
      lawful_rows = built_in_lawful;
      accepted = four_accepted;
      settings_in_range = four_in_range;
      calls_in_range = (
        ((refl, refl), ((refl, refl), (refl, refl))),
        (
          ((refl, refl), ((refl, refl), (refl, refl))),
          (
            ((refl, refl), ((refl, refl), (refl, refl))),
            (((refl, refl), ((refl, refl), (refl, refl))), (((refl, refl), ((refl, refl), (refl, refl))), tt)),
          ),
        ),
      );
    }

-- the settings and no call
abbrev pub three_phase_unused : ThreePhaseTrace
three_phase_unused =
    record {
      rows = built_in;
      settings = four_thresholds;
      calls = [];
      lawful_rows = built_in_lawful;
      accepted = four_accepted;
      settings_in_range = four_in_range;
      calls_in_range = tt;
    }

-- document 02, A8: an event by the built-in table, and by one in which 20 is what 6 is in the built-in one; its line goes with the log
abbrev pub three_phase_by_built_in : ThreePhaseTrace
three_phase_by_built_in =
    record {
      rows = built_in;
      settings = four_thresholds;
      calls = Event 6 ∷ ClearLog 1 ∷ [];
      lawful_rows = built_in_lawful;
      accepted = four_accepted;
      settings_in_range = four_in_range;
      calls_in_range = (omega arith, (omega arith, tt));
    }

abbrev pub three_phase_by_own_table : ThreePhaseTrace
three_phase_by_own_table =
    record {
      rows = own_rows;
      settings = four_thresholds;
      calls = Event 20 ∷ ClearLog 1 ∷ [];
      lawful_rows = own_lawful;
      accepted = four_accepted;
      settings_in_range = four_in_range;
      calls_in_range = (omega arith, (omega arith, tt));
    }

-- (32,6) (38,44) (82,4) (86,9) (95,8) (103,161) (264,161) (425,161)
abbrev pub three_phase_pair_bytes : List ℕ
three_phase_pair_bytes =
    0 ∷ 32 ∷ 0 ∷ 6 ∷ 0 ∷ 38 ∷ 0 ∷ 44 ∷ 0 ∷ 82 ∷ 0 ∷ 4 ∷ 0 ∷ 86 ∷ 0 ∷ 9 ∷ 0 ∷ 95 ∷ 0 ∷ 8 ∷ 0 ∷ 103 ∷ 0 ∷ 161 ∷ 1 ∷ 8 ∷ 0 ∷ 161
    ∷ 1 ∷ 169 ∷ 0 ∷ 161 ∷ []

-- the bytes after the five samples
abbrev pub sampled_bytes : List ℕ
sampled_bytes =
    three_phase_pair_bytes ++ (
    -- mode 5, switch 2, one opening
    5 ∷ 2 ∷ 0 ∷ 0 ∷ 0 ∷ 1
    -- Over 3, Under 4
    ∷ 0 ∷ 0 ∷ 0 ∷ 3 ∷ 0 ∷ 0 ∷ 0 ∷ 4
    -- L1: threshold 100, Exceeded, Run 1
    ∷ 0 ∷ 0 ∷ 0 ∷ 100 ∷ 1 ∷ 0 ∷ 0 ∷ 0 ∷ 1
    -- L2: threshold 200, not Exceeded, Run 2
    ∷ 0 ∷ 0 ∷ 0 ∷ 200 ∷ 0 ∷ 0 ∷ 0 ∷ 0 ∷ 2
    -- L3: threshold 300, not Exceeded, Run 1
    ∷ 0 ∷ 0 ∷ 1 ∷ 44 ∷ 0 ∷ 0 ∷ 0 ∷ 0 ∷ 1
    -- the sum: threshold 450, Exceeded, Run 0
    ∷ 0 ∷ 0 ∷ 1 ∷ 194 ∷ 1 ∷ 0 ∷ 0 ∷ 0 ∷ 0
    -- clock 1005
    ∷ 0 ∷ 0 ∷ 3 ∷ 237
    -- alarms, their filter and number; errors and their filter
    ∷ (replicate 17 0
    ++ (no_lines ++ (no_lines ++ (
    -- 65 of L1, 65 of the sum and 64, at 1003
    3 ∷ 0 ∷ 0 ∷ 3 ∷ 235 ∷ 65 ∷ 0 ∷ 0 ∷ 3 ∷ 235 ∷ 65 ∷ 0 ∷ 0 ∷ 3 ∷ 235 ∷ 64
    ∷ replicate (29 * 5) 0)))))

-- an account in which each field has a number of its own
abbrev pub three_phase_distinct : ThreePhaseAccount
three_phase_distinct =
    record {
      mode = 6;
      switch = 2;
      openings = 16909060;
      over = 86400;
      under = 259;
      l1 = record { threshold = pos 2147483647; exceeded = true; run = 258 };
      l2 = record { threshold = pos 84281096; exceeded = false; run = 86399 };
      l3 = record { threshold = pos 0; exceeded = true; run = 7 };
      sum = record { threshold = pos 16777216; exceeded = false; run = 65536 };
      clock = 4294967295;
      alarms = 8451;
      alarm_filter = 4096;
      alarm_count = 4;
      errors = 7937;
      error_filter = 2147483648;
      logs = (line 1 4 ∷ line 2 5 ∷ []) ∷ (line 3 40 ∷ []) ∷ (line 4 65 ∷ line 4 64 ∷ line 5 255 ∷ []) ∷ [];
    }

-- its bytes
abbrev pub three_phase_distinct_bytes : List ℕ
three_phase_distinct_bytes =
    three_phase_pair_bytes ++ (
    -- mode 6, switch 2, openings
    6 ∷ 2 ∷ 1 ∷ 2 ∷ 3 ∷ 4
    -- Over 86,400, Under 259
    ∷ 0 ∷ 1 ∷ 81 ∷ 128 ∷ 0 ∷ 0 ∷ 1 ∷ 3
    -- L1: threshold 2,147,483,647, Exceeded, Run 258
    ∷ 127 ∷ 255 ∷ 255 ∷ 255 ∷ 1 ∷ 0 ∷ 0 ∷ 1 ∷ 2
    -- L2: threshold 84,281,096, not Exceeded, Run 86,399
    ∷ 5 ∷ 6 ∷ 7 ∷ 8 ∷ 0 ∷ 0 ∷ 1 ∷ 81 ∷ 127
    -- L3: threshold 0, Exceeded, Run 7
    ∷ 0 ∷ 0 ∷ 0 ∷ 0 ∷ 1 ∷ 0 ∷ 0 ∷ 0 ∷ 7
    -- the sum: threshold 16,777,216, not Exceeded, Run 65,536
    ∷ 1 ∷ 0 ∷ 0 ∷ 0 ∷ 0 ∷ 0 ∷ 1 ∷ 0 ∷ 0
    -- clock
    ∷ 255 ∷ 255 ∷ 255 ∷ 255
    -- alarms, their filter and number
    ∷ 0 ∷ 0 ∷ 33 ∷ 3 ∷ 0 ∷ 0 ∷ 16 ∷ 0 ∷ 4
    -- errors and theirs
    ∷ 0 ∷ 0 ∷ 31 ∷ 1 ∷ 128 ∷ 0 ∷ 0 ∷ 0
    -- log 1: two lines
    ∷ 2 ∷ 0 ∷ 0 ∷ 0 ∷ 1 ∷ 4 ∷ 0 ∷ 0 ∷ 0 ∷ 2 ∷ 5
    ∷ (replicate (30 * 5) 0
    -- log 2: one line
    ++ (1 ∷ 0 ∷ 0 ∷ 0 ∷ 3 ∷ 40 ∷ replicate (31 * 5) 0
    -- log 3: three lines
    ++ (3 ∷ 0 ∷ 0 ∷ 0 ∷ 4 ∷ 65 ∷ 0 ∷ 0 ∷ 0 ∷ 4 ∷ 64 ∷ 0 ∷ 0 ∷ 0 ∷ 5 ∷ 255 ∷ replicate (29 * 5) 0))))

-- the two pages, and demand 3 of two traces
pub record Examples : Type 0 where
  -- the account of the five samples, in the page's layout
  pub sampled_page : three_phase_account_page (three_phase_trace_account sampled) ≡ sampled_bytes
  -- each field stands where the documents say, and nowhere else
  pub distinct_page : three_phase_account_page three_phase_distinct ≡ three_phase_distinct_bytes
  -- two traces, each with a buffer that is long enough: what demand 3 speaks of is there
  pub compared : ThreePhaseCompared sampled three_phase_unused (replicate three_phase_size 255) (replicate 587 0)
  -- document 02, A8: two lists with two tables whose accounts are equal, and so their pages
  pub two_accounts : three_phase_trace_account three_phase_by_built_in ≡ three_phase_trace_account three_phase_by_own_table
  pub two_tables : three_phase_page_after three_phase_by_built_in (replicate three_phase_size 0) ≡ three_phase_page_after three_phase_by_own_table (replicate three_phase_size 0)
