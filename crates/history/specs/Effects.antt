-- Calls, which of them are refused, and accepted calls by what they ask for: of a meter whose limiter has any number of monitored values. Monitored value
-- is the Blue Book's word (class 71, attribute 2); document 02 calls them lines. `Any` in a name means with any number of monitored values. A sample brings
-- a power for each, a limiter setting a threshold for each, in their order. Document 01's meter has one: see OnePhase. In the files of this folder words in
-- quotes are document 01's unless another is named, and '..' stands for what is left out.
use Rattle.std.specs.Prelude.{ℕ, ◌&&◌, cond, List, [], ◌∷◌, eqb, leb, ℤ, pos, take}
use Rattle.std.proofs.Math.Option.{Option, none, some}
use Rattle.std.specs.Int.Signed.{le_z}
use Rattle.base.specs.Tests.{within, among, every}
use Rattle.events.specs.Line.{is_log}
use Rattle.events.specs.Table.{EventRow, lookup}

-- 'Fresh takes mode, threshold, Over, Under, clock ..', with a threshold for each monitored value
pub record AnyFresh : Type 0 where
  pub mode : ℕ
  pub thresholds : List ℤ
  pub over : ℕ
  pub under : ℕ
  pub clock : ℕ

-- calls 2 to 5
pub data RequestCall : Type 0 where
  remote_disconnect remote_reconnect manual_disconnect manual_reconnect : RequestCall

-- 'Alarm and error register ..'
pub data WhichRegister : Type 0 where
  alarms errors : WhichRegister

-- document 02, A3: 'Kind 17 takes an id, an emergency threshold, an activation clock and a duration in samples': the emergency profile (class 71,
-- attributes 5 and 8). Its threshold is one for all monitored values
pub record Profile : Type 0 where
  pub id : ℕ
  pub threshold : ℤ
  pub activation : ℕ
  pub duration : ℕ

-- the fifteen calls and document 02's two (A3), those alike in one: a request (calls 2 to 5), a filter (10, 11), a clear of bits (12, 13)
pub data AnyCall : Type 0 where
  sample : List ℤ → AnyCall
  request : RequestCall → AnyCall
  set_mode : ℕ → AnyCall
  set_limiter : List ℤ → ℕ → ℕ → AnyCall
  set_clock : ℕ → AnyCall
  event : ℕ → AnyCall
  set_filter : WhichRegister → ℕ → AnyCall
  clear_bits : WhichRegister → ℕ → AnyCall
  clear_log : ℕ → AnyCall
  script : ℕ → AnyCall
  set_groups : ℕ → List ℕ → AnyCall
  set_profile : Profile → AnyCall

-- an accepted call; 'Scripts are the calls they name'
pub data Effect : Type 0 where
  sampled : List ℤ → Effect
  requested : RequestCall → Effect
  mode_set : ℕ → Effect
  limits_set : List ℤ → ℕ → ℕ → Effect
  clock_set : ℕ → Effect
  occurred : EventRow → Effect
  filter_set : WhichRegister → ℕ → Effect
  bits_cleared : WhichRegister → ℕ → Effect
  log_cleared : ℕ → Effect
  groups_set : List ℕ → Effect
  profile_set : Profile → Effect

-- a call as it is answered: with a refusal's number, or accepted
pub data Reading : Type 0 where
  refused : ℕ → Reading
  accepted : Effect → Reading

-- the modes that the switch table lists for a request
abbrev pub listed_modes : RequestCall → List ℕ
listed_modes remote_disconnect = 1 ∷ 2 ∷ 3 ∷ 4 ∷ 5 ∷ 6 ∷ []
listed_modes remote_reconnect = 1 ∷ 2 ∷ 3 ∷ 4 ∷ 5 ∷ 6 ∷ []
listed_modes manual_disconnect = 1 ∷ 2 ∷ 5 ∷ []
listed_modes manual_reconnect = 1 ∷ 2 ∷ 3 ∷ 4 ∷ 5 ∷ 6 ∷ []

-- 'mode rule | 2 | .. mode not in the switch table for that request'
abbrev pub read_request : ℕ → RequestCall → Reading
read_request m q = cond (among (listed_modes q) m) (accepted (requested q)) (refused 2)

-- '.. call 7 | 4 | threshold negative', '.. call 7 | 5 | Over or Under out of range'
abbrev pub read_limits : List ℤ → ℕ → ℕ → Reading
read_limits ts o u =
    cond (every (le_z (pos 0)) ts) (cond (within 1 86400 o && within 1 86400 u) (accepted (limits_set ts o u)) (refused 5)) (refused 4)

-- 'call 9 | 6 | code not listed'
abbrev pub read_event : Option EventRow → Reading
read_event none = refused 6
read_event (some r) = accepted (occurred r)

-- document 02, A3: 'Kind 16 sets up to eight group ids (16 bits): a count, then the ids ..'; '14, more than eight ids (kind 16)'
abbrev pub read_groups : ℕ → List ℕ → Reading
read_groups n ids = cond (leb n 8) (accepted (groups_set (take n ids))) (refused 14)

-- document 02, A3: '15, id not in the group (kind 17); 16, duration outside 1 to 604,800, or threshold negative, after 15'
abbrev pub read_profile : List ℕ → Profile → Reading
read_profile groups w =
    cond (among groups w.id)
    (cond (within 1 604800 w.duration && le_z (pos 0) w.threshold) (accepted (profile_set w)) (refused 16))
    (refused 15)

-- '.. a call's refusal follows from its numbers and the mode last accepted' (and the event table); document 02, A3: '.. and 15 follows from the groups
-- last accepted'
unfoldable pub reading : List EventRow → ℕ → List ℕ → AnyCall → Reading
reading rows m groups (sample ps) = accepted (sampled ps)
reading rows m groups (request q) = read_request m q
reading rows m groups (set_mode n) = cond (leb n 6) (accepted (mode_set n)) (refused 1)
reading rows m groups (set_limiter ts o u) = read_limits ts o u
reading rows m groups (set_clock n) = accepted (clock_set n)
reading rows m groups (event c) = read_event (lookup rows c)
reading rows m groups (set_filter s n) = accepted (filter_set s n)
reading rows m groups (clear_bits s n) = accepted (bits_cleared s n)
reading rows m groups (clear_log n) = cond (is_log n) (accepted (log_cleared n)) (refused 7)
reading rows m groups (script n) = cond (eqb n 1) (read_request m remote_disconnect) (cond (eqb n 2) (read_request m remote_reconnect) (refused 3))
reading rows m groups (set_groups n ids) = read_groups n ids
reading rows m groups (set_profile w) = read_profile groups w
