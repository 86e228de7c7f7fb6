-- What holds of the account of every fresh meter, and of one with one monitored value.
use mathlib.Core.Path.{refl}
use Rattle.history.specs.Effects.{AnyFresh}
use Rattle.history.specs.Switch.{observations}
use Rattle.history.specs.Laws.{LawsOf, Laws}
use Rattle.history.proofs.Splits.{mode_split, limits_split, filter_split, clock_split, spell_split, switch_inside, switch_outside}
use Rattle.history.proofs.Splits.{mode_zero_decides, reconnect_decides, reconnect_outside_decides, manual_decides}
use Rattle.history.proofs.Splits.{other_modes_decide_nothing, others_decide_nothing, inside_decides_nothing, stands_split, register_bits, alarms_counted}
use Rattle.history.proofs.Splits.{owed_split}
use Rattle.history.proofs.Stretches.{sample_seen, setting_seen, others_unseen, in_force_lem, in_force_limits, stretch_split, exceeded_split, run_split}
use Rattle.history.proofs.Openings.{openings_count_prefixes, openings_accepted, account_accepted, refused_account}
use Rattle.history.proofs.OneMonitored.{one_monitored_value}
use Rattle.history.proofs.Letters.{letter_row, letter_refused}
use Rattle.history.proofs.Profiles.{groups_split, profile_split, accepted_governing, state_split, judged_governed, judged_behind, judged_waiting}
use Rattle.history.proofs.Profiles.{judged_without, after_last, profile_kept, normal_at_once, replaced_seen, equal_unseen, equal_unlogged}
use Rattle.history.proofs.Profiles.{active_in_force, first_unlogged, waiting_unlogged, replaced_owes, changed_run, exceeded_kept}
use Rattle.history.proofs.Armed.{armed_owes, moved_arms, moved_ends, unmoved_unseen, seen_split}
use Rattle.history.proofs.Samples.{over_decides, under_decides, decides_no_other, sample_owes, sample_owes_no_other}
use Rattle.history.proofs.CallRules.{mode_sets, others_keep_mode, limits_sets, others_keep_limits, clock_sets, sample_advances, others_keep_clock}
use Rattle.history.proofs.CallRules.{groups_sets, others_keep_groups, scripts_named, always_accepted, manual_reconnect_moves}
use Rattle.history.proofs.CallRules.{scripts_refused, modes_read, limits_read, events_read, logs_read, groups_read, profiles_read}
use Rattle.history.proofs.CallRules.{fresh_stands, event_raises_alarm, event_raises_error, cleared_ones, clock_clears, others_keep_bits, filter_sets}
use Rattle.history.proofs.CallRules.{others_keep_filter, remote_disconnect_owes, remote_reconnect_owes, manual_disconnect_owes, mode_owes, setting_owes}
use Rattle.history.proofs.CallRules.{clock_owes, event_owes, clear_alarms_owes, clear_errors_owes, clear_log_owes, no_line}

laws_of : (f : AnyFresh) → LawsOf f
laws_of f =
    record {
      mode_last = mode_split f;
      mode_sets = mode_sets f;
      others_keep_mode = others_keep_mode f;
      limits_last = limits_split f;
      limits_sets = limits_sets f;
      others_keep_limits = others_keep_limits f;
      filter_last = filter_split;
      clock_last = clock_split f;
      clock_sets = clock_sets f;
      sample_advances = sample_advances f;
      others_keep_clock = others_keep_clock f;
      spell_runs = spell_split;
      switch_inside = switch_inside f;
      switch_outside = switch_outside f;
      mode_zero_decides = mode_zero_decides f;
      reconnect_decides = reconnect_decides f;
      reconnect_outside = reconnect_outside_decides f;
      manual_decides = manual_decides f;
      other_modes_decide_nothing = other_modes_decide_nothing f;
      others_decide_nothing = others_decide_nothing f;
      inside_decides_nothing = inside_decides_nothing f;
      over_decides = over_decides f;
      under_decides = under_decides f;
      sample_decides_no_other = decides_no_other f;
      bit_stands = stands_split;
      fresh_stands = fresh_stands;
      event_raises_alarm = event_raises_alarm;
      event_raises_error = event_raises_error;
      cleared_ones = cleared_ones;
      clock_clears = clock_clears;
      others_keep_bits = others_keep_bits;
      filter_sets = filter_sets;
      others_keep_filter = others_keep_filter;
      register_bits = register_bits;
      alarms_counted = alarms_counted;
      setting_in_force = in_force_lem f;
      limits_in_force = in_force_limits f;
      sample_seen = sample_seen f;
      setting_seen = setting_seen f;
      moved_arms = moved_arms f;
      moved_ends = moved_ends f;
      unmoved_unseen = unmoved_unseen f;
      armed_since = seen_split f;
      manual_reconnect_moves = manual_reconnect_moves f;
      armed_owes = armed_owes f;
      others_unseen = others_unseen f;
      full_stretch = stretch_split;
      exceeded_latest = λ k h. exceeded_split (observations f k h);
      run_trailing = run_split f;
      owed_lines = owed_split f;
      sample_owes_in_order = sample_owes f;
      sample_owes_no_other = sample_owes_no_other f;
      remote_disconnect_owes = remote_disconnect_owes f;
      remote_reconnect_owes = remote_reconnect_owes f;
      manual_disconnect_owes = manual_disconnect_owes f;
      mode_owes = mode_owes f;
      setting_owes = setting_owes f;
      clock_owes = clock_owes f;
      event_owes = event_owes f;
      clear_alarms_owes = clear_alarms_owes f;
      clear_errors_owes = clear_errors_owes f;
      clear_log_owes = clear_log_owes f;
      unlogged = no_line f;
      scripts_named = scripts_named;
      always_accepted = always_accepted;
      scripts_refused = scripts_refused;
      modes_read = modes_read;
      limits_read = limits_read;
      events_read = events_read;
      logs_read = logs_read;
      groups_read = groups_read;
      profiles_read = profiles_read;
      openings_count_prefixes = λ rows. openings_count_prefixes rows f;
      openings_held = λ h n. refl;
      openings_accepted = λ rows. openings_accepted rows f;
      account_accepted = λ rows. account_accepted rows f;
      refused_nothing = λ rows. refused_account rows f;
      letter_row = letter_row f;
      letter_refused = λ rows. letter_refused rows f;
      groups_last = groups_split;
      groups_sets = groups_sets;
      others_keep_groups = others_keep_groups;
      profile_last = profile_split;
      accepted_governs = λ rows. accepted_governing rows f;
      profile_in_state = state_split f;
      governed_judged = λ k ps h w. judged_governed f k ps h w;
      later_judged = λ k ps h w. judged_behind f k ps h w;
      waiting_judged = λ k ps h w. judged_waiting f k ps h w;
      without_judged = judged_without f;
      after_last = after_last f;
      profile_kept = profile_kept f;
      active_in_force = active_in_force f;
      replaced_normal = normal_at_once f;
      replaced_seen = replaced_seen f;
      first_unlogged = first_unlogged f;
      waiting_unlogged = waiting_unlogged f;
      replaced_owes = replaced_owes f;
      changed_run = changed_run f;
      equal_unseen = λ k ps h w p. equal_unseen f ps h w p k;
      equal_unlogged = λ n ps h w p e. equal_unlogged f ps h w p e n;
      exceeded_kept = exceeded_kept f;
    }

pub laws : Laws
laws = (laws_of, one_monitored_value)
