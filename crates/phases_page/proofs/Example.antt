-- The pages of the five samples and of an account with distinct numbers, computed.
use Rattle.page.proofs.Common.{◌≡◌, refl, flat_map, be}
use Rattle.phases.specs.Examples.{account_from}
use Rattle.page.specs.AccountPage.{log_bytes}
use Rattle.phases_page.specs.AccountPage.{three_phase_account_page}
use Rattle.phases_page.specs.Demand3.{three_phase_trace_account}
use Rattle.phases_page.specs.Examples.{sampled, three_phase_by_built_in, three_phase_by_own_table, sampled_bytes, three_phase_distinct, three_phase_distinct_bytes}

pub sampled_page : three_phase_account_page (three_phase_trace_account sampled) ≡ sampled_bytes
unfolding account_from three_phase_account_page log_bytes be flat_map
sampled_page = refl

pub two_accounts : three_phase_trace_account three_phase_by_built_in ≡ three_phase_trace_account three_phase_by_own_table
unfolding account_from
two_accounts = refl

pub distinct_page : three_phase_account_page three_phase_distinct ≡ three_phase_distinct_bytes
unfolding three_phase_account_page log_bytes be flat_map
distinct_page = refl
