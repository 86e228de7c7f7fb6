-- Document 01's worked example and boundary cases, of the account alone.
use Rattle.std.specs.Prelude.{ℕ, ◌+◌, ◌≡◌, false, List, [], ◌∷◌, ◌++◌, map, pos, negsuc, length, get_or, replicate}
use Rattle.base.specs.Tests.{every, any, numbers_from, gathered, among}
use Rattle.base.specs.Bits.{bit, number, how_many}
use Rattle.events.specs.Line.{Line, line, newest}
use Rattle.events.specs.Table.{built_in, lookup}
use Rattle.calls.specs.declared.Call.{Call}
use Rattle.calls.specs.declared.Call.TheVariants.{Sample, RemoteDisconnect, ManualReconnect, SetMode, SetLimiter, Event, Script}
use Rattle.history.specs.Effects.{Reading, refused, accepted, reading}
use Rattle.history.specs.Last.{last, samples_since}
use Rattle.history.specs.Profile.{clocks_since, from_reached}
use Rattle.history.specs.Limiter.{duration, since_setting, all_are, exceeded, trailing}
use Rattle.history.specs.Switch.{spell, observations, last_decided, switch_of}
use Rattle.history.specs.Registers.{stands}
use Rattle.history.specs.Logs.{owed}
use Rattle.history.specs.Account.{accepted_calls, openings}
use Rattle.history.specs.OnePhase.{Fresh, as_call, Account, account}

-- 'Fresh takes mode, threshold, Over, Under, clock ..'
abbrev pub fresh : ℕ → ℕ → ℕ → ℕ → ℕ → Fresh
fresh m t o u c = record { mode = m; threshold = pos t; over = o; under = u; clock = c }

-- the account by the built-in table; to unfold it is to unfold what it is made of
unfoldable pub built_in_account : Fresh → List Call → Account
unfolding every any numbers_from gathered among bit number how_many newest built_in lookup reading last samples_since clocks_since from_reached duration
    since_setting all_are exceeded trailing observations last_decided spell switch_of stands owed accepted_calls openings
built_in_account f calls = account built_in f calls

-- '.. refusal or 0 ..'
abbrev pub refusal : Reading → ℕ
refusal (refused n) = n
refusal (accepted e) = 0

-- the refusal of a call by the mode and the groups last accepted before it
abbrev pub answer : Fresh → List Call → Call → ℕ
answer f calls c = let a = built_in_account f calls in refusal (reading built_in a.mode a.groups (as_call c))

-- the codes of lines
abbrev pub codes : List Line → List ℕ
codes ls = map (λ l. l.code) ls

-- 'Fresh (5, 3000, 2, 3, 1000) ..'
abbrev pub example_settings : Fresh
example_settings = fresh 5 3000 2 3 1000

-- '.. samples 3000, 3001, 3001; call 5; samples 0, −5, 0; call 2; call 5; script 3; script 2; mode 7; mode 0; call 2 ..' (negsuc 4 is −5)
abbrev pub example_calls : List Call
example_calls =
    Sample (pos 3000) ∷ Sample (pos 3001) ∷ Sample (pos 3001) ∷ ManualReconnect ∷ Sample (pos 0) ∷ Sample (negsuc 4) ∷ Sample (pos 0)
    ∷ RemoteDisconnect ∷ ManualReconnect ∷ Script 3 ∷ Script 2 ∷ SetMode 7 ∷ SetMode 0 ∷ RemoteDisconnect ∷ []

-- 'Per record a line: position from 1, refusal or 0, switch, openings'
abbrev pub account_listing : Fresh → List Call → List Call → List (ℕ × ℕ × ℕ × ℕ)
account_listing f calls [] = []
account_listing f calls (c ∷ cs) =
    let all = calls ++ (c ∷ []) in
    (length all + 1, answer f calls c, (built_in_account f all).switch, (built_in_account f all).openings) ∷ account_listing f all cs

-- 'The bench program': its example, and what follows it, 'To be proved of the definitions as one table ..'
pub record WorkedExample : Type 0 where
  -- '.. print: 1 0 1 0 ..'
  pub prints :
      (1, 0, (built_in_account example_settings []).switch, (built_in_account example_settings []).openings) ∷ account_listing example_settings [] example_calls
      ≡ (1, 0, 1, 0)
      ∷ (2, 0, 1, 0)
      ∷ (3, 0, 1, 0)
      ∷ (4, 0, 2, 1)
      ∷ (5, 0, 1, 1)
      ∷ (6, 0, 1, 1)
      ∷ (7, 0, 1, 1)
      ∷ (8, 0, 1, 1)
      ∷ (9, 0, 0, 2)
      ∷ (10, 0, 0, 2)
      ∷ (11, 3, 0, 2)
      ∷ (12, 0, 2, 2)
      ∷ (13, 1, 2, 2)
      ∷ (14, 0, 1, 2)
      ∷ (15, 2, 1, 2)
      ∷ []
  -- 'Log 3 then: 65, 64, 61 at 1003; .. 62, 59, 63 at 1006'; document 02, A5: 'The 66 drops out of 01's example log'
  pub logs_then :
      (built_in_account example_settings example_calls).logs
      ≡ []
      ∷ []
      ∷ (line 1003 65 ∷ line 1003 64 ∷ line 1003 61 ∷ line 1006 62 ∷ line 1006 59 ∷ line 1006 63 ∷ [])
      ∷ []
  -- '.. power −2,147,483,648 is not over 0 ..'
  pub lowest_power : (built_in_account (fresh 6 0 1 1 1000) (Sample (negsuc 2147483647) ∷ [])).exceeded ≡ false
  -- '.. Over 86,400 taken, 86,401 refused ..'
  pub longest_over :
      map (answer (fresh 3 0 1 1 0) []) (SetLimiter (pos 0) 86400 1 ∷ SetLimiter (pos 0) 86401 1 ∷ [])
      ≡ 0 ∷ 5 ∷ []
  -- '.. the 33rd line drops the first'
  pub thirty_third_line :
      map (λ calls. codes (get_or (built_in_account (fresh 1 3 1 1 1000) calls).logs 0 []))
      ((Event 2 ∷ replicate 31 (Event 1)) ∷ (Event 2 ∷ Event 8 ∷ replicate 31 (Event 1)) ∷ [])
      ≡ (2 ∷ replicate 31 1) ∷ (8 ∷ replicate 31 1) ∷ []
