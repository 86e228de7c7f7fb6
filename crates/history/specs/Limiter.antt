-- Full stretches, Exceeded, Run and firings: what the limiter makes of its settings and samples of one monitored value, by looking back. What it sees
-- of each monitored value in a history stands in Switch.
use Rattle.std.specs.Prelude.{ℕ, suc, Bool, true, false, not, ◌&&◌, cond, List, [], ◌∷◌, leb, length, take}
use Rattle.std.specs.Bool.{beq}
use Rattle.base.specs.Tests.{numbers}
use Rattle.history.specs.Effects.{AnyFresh}

-- what the limiter sees of a monitored value: a setting of Over and Under, or a sample, over or not
pub data Observation : Type 0 where
  setting : ℕ → ℕ → Observation
  judged : Bool → Observation

-- the duration that counts: Over for over samples (true), Under for others (false)
abbrev pub duration_of : Bool → ℕ → ℕ → ℕ
duration_of true o u = o
duration_of false o u = u

-- the duration '.. by the settings in force at that sample ..' (0 if there is none; there always is one: setting_in_force)
unfoldable pub duration : Bool → List Observation → ℕ
duration b [] = 0
duration b (setting o u ∷ os) = duration_of b o u
duration b (judged c ∷ os) = duration b os

-- the samples since the last limiter setting, newest first
unfoldable pub since_setting : List Observation → List Bool
since_setting [] = []
since_setting (setting o u ∷ os) = []
since_setting (judged b ∷ os) = b ∷ since_setting os

-- '.. are all over ..' (true), or all not over (false)
unfoldable pub all_are : Bool → List Bool → Bool
all_are b [] = true
all_are b (c ∷ cs) = beq b c && all_are b cs

-- 'A full over stretch ends at a sample if it and the Over − 1 samples before it are all over, by the settings in force at that sample and
-- none of them before those were set; a full under stretch likewise with Under and samples not over'. ('Full stretch' is document 01's term.)
abbrev pub stretch_ends : Bool → List Observation → Bool
stretch_ends b os =
    leb (duration b os) (length (since_setting os)) && all_are b (take (duration b os) (since_setting os))

-- 'Exceeded is yes if the latest full stretch, under any settings, was over; no if it was under or there is none'
unfoldable pub exceeded : List Observation → Bool
exceeded [] = false
exceeded (setting o u ∷ os) = exceeded os
exceeded (judged b ∷ os) =
    cond (stretch_ends true (judged b ∷ os)) true (cond (stretch_ends false (judged b ∷ os)) false (exceeded os))

-- how many of the newest samples are, without a break, over (true) or not over (false)
unfoldable pub trailing : Bool → List Bool → ℕ
trailing b [] = 0
trailing b (c ∷ cs) = cond (beq b c) (suc (trailing b cs)) 0

-- 'Run counts the trailing samples since the last limiter setting that are over (not Exceeded) or not over (Exceeded)'
abbrev pub run : List Observation → ℕ
run os = trailing (not (exceeded os)) (since_setting os)

-- 'A sample that changes Exceeded is a firing, over ..': by the observations before and after it ('firing' is document 01's term)
abbrev pub fires_over : List Observation → List Observation → Bool
fires_over before after = not (exceeded before) && exceeded after

-- 'A sample that changes Exceeded is a firing, .. or under'
abbrev pub fires_under : List Observation → List Observation → Bool
fires_under before after = exceeded before && not (exceeded after)

-- the monitored values, by number: one for each threshold
abbrev pub monitored_values : AnyFresh → List ℕ
monitored_values f = numbers (length f.thresholds)

-- what the limiter has seen of each monitored value, newest first
abbrev pub Observations : Type 0
Observations = ℕ → List Observation
