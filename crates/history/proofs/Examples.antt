-- The worked example and the histories, each by computing it.
use mathlib.Core.Path.{refl}
use Rattle.history.specs.Examples.{built_in_account, WorkedExample}
use Rattle.history.specs.Histories.{Histories}

pub worked_example : WorkedExample
unfolding built_in_account
worked_example = record { prints = refl; logs_then = refl; lowest_power = refl; longest_over = refl; thirty_third_line = refl }

pub histories : Histories
unfolding built_in_account
histories =
    record {
      refusals = refl;
      mode_rule = refl;
      clock_of_samples = refl;
      clock_set = refl;
      clock_held = refl;
      stretch_short = refl;
      stretch_full = refl;
      stretch_broken = refl;
      under_short = refl;
      under_full = refl;
      under_broken = refl;
      setting_again = refl;
      stretch_since_setting = refl;
      stretch_between = refl;
      exceeded_stays = refl;
      threshold_in_force = refl;
      manual_decides = refl;
      firings_decide = refl;
      firing_once = refl;
      armed_again = refl;
      armed_lines = refl;
      armed_in_force = refl;
      armed_values_lem = refl;
      armed_unlogged = refl;
      unmoved_leaves_run = refl;
      armed_for_good = refl;
      armed_by_key_alone = refl;
      values_by_key_alone = refl;
      reconnect_decides = refl;
      reconnect_outside = refl;
      reconnect_from_ready = refl;
      mode_at_the_call = refl;
      spell_inside = refl;
      inside_a_spell = refl;
      spell_ended_by_mode_zero = refl;
      disconnect_until_key = refl;
      disconnect_until_firing = refl;
      letters_of_calls = refl;
      openings_out_of_one = refl;
      openings_held = refl;
      raised = refl;
      hidden = refl;
      later_filter = refl;
      cleared = refl;
      raised_again = refl;
      hidden_errors = refl;
      cleared_errors = refl;
      cleared_hidden = refl;
      cleared_by_clock_hidden = refl;
      high_bits = refl;
      lines_whatever = refl;
      script_first = refl;
      cleared_by_clock = refl;
      alarm_counts = refl;
      own_table = refl;
      lines_standard = refl;
      lines_of_firings = refl;
      lines_of_moves = refl;
      lines_since_clear = refl;
      refused_counts_nothing = refl;
      empty = refl;
      several_stretches = refl;
      several_firings = refl;
      several_thresholds = refl;
      several_runs = refl;
      several_armed = refl;
      several_changed = refl;
      groups_taken = refl;
      groups_kept = refl;
      profile_taken = refl;
      profile_without_groups = refl;
      groups_last = refl;
      four_lines = refl;
      four_lines_under = refl;
      profile_gone = refl;
      exceeded_outlives = refl;
      over_active = refl;
      over_active_state = refl;
      over_active_equal = refl;
      over_waiting = refl;
      over_waiting_state = refl;
      limiter_during = refl;
      equal_thresholds = refl;
      change_places = refl;
      activations = refl;
      held_activation = refl;
      held_end = refl;
      clock_forward = refl;
      clock_back = refl;
      groups_gone = refl;
      refused_over_active = refl;
      key_during = refl;
      key_leaves_profile = refl;
      normal_shown = refl;
    }
