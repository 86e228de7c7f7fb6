-- Each sentence of the account that says 'there is .. and none later ..', as a split of the history, both ways.
use Prim.Native.Nat.{ℕ, suc, ◌+◌, ◌<◌}
use native.Mathlib.Omega.{arith}
use native.Mathlib.Nat.{zero-add, suc-add, add-zero}
use mathlib.Core.Path.{◌≡◌, refl, sym, ap, ap₂, subst, ◌∙◌}
use mathlib.Core.Bool.{Bool, true, false, not, ◌&&◌, ◌||◌, cond, beq, false≢true}
use mathlib.Core.List.{List, [], ◌∷◌, ◌++◌, append-nil, append_assoc}
use mathlib.Core.Logic.{◌↔◌, ◌≢◌, ◌⊎◌, inl, inr}
use mathlib.Core.Option.{Option, none, some}
use lib.Dec.{eqb}
use lib.IntN.{ℤ}
use borrow.Author.Tests.{eqb-true, eq-eqb, ne_eqb}
use Rattle.base.specs.Numbers.{held}
use Rattle.base.specs.Bits.{bit, bit_count}
use Rattle.base.specs.Tests.{among}
use Rattle.base.proofs.Bits.{bit_number, number_count}
use Rattle.events.specs.Line.{Line, line}
use Rattle.history.specs.Effects.{AnyFresh, remote_disconnect, remote_reconnect, manual_disconnect, manual_reconnect, WhichRegister, alarms, Effect, sampled}
use Rattle.history.specs.Effects.{requested, mode_set, limits_set, clock_set, occurred, filter_set, bits_cleared, log_cleared, groups_set, profile_set}
use Rattle.history.specs.Last.{History, otherwise, given, last, mode_in, mode_of, Limits, limits, limits_in, limits_of, filter_in, filter_of, clock_in}
use Rattle.history.specs.Last.{samples_since, clock_of}
use Rattle.history.specs.Switch.{spell_edge, spell, observations, last_decided, decides, switch_of}
use Rattle.history.specs.Registers.{raises, clears, stands, bits_of, alarm_count_of}
use Rattle.history.specs.Logs.{owed_by, clears_log, owed}
use Rattle.history.specs.Splits.{NonePicks, Latest, LatestElse, Ongoing, samples_in, ClockSince, last_set, never_set, InSpell, owed_between, NotCleared}
use Rattle.history.specs.Splits.{OwedSince, last_clear, never_cleared}
use Rattle.history.proofs.Lists.{each_first, each_rest, each_only, latest_or_none, kept, latest_split, ongoing_split}

pub some≢none : {A : Type 0} {a : A} → Path (Option A) (some a) none → ⊥
some≢none q = let z : ◌≡◌ {A = ℕ} 0 1 = cc in omega arith

-- ---- 'last accepted, else fresh'
pub last_split : {A : Type 0} (pick : Effect → History → Option A) (a : A) (h : History) (v : A) → (last pick a h ≡ v) ↔ LatestElse pick a h v
unfolding last
last_split pick a = latest_split pick (last pick a) (λ e h. refl)

pub mode_split : (f : AnyFresh) (h : History) (m : ℕ) → (mode_of f h ≡ m) ↔ LatestElse mode_in f.mode h m
mode_split f = last_split mode_in f.mode

pub limits_split : (f : AnyFresh) (h : History) (l : Limits) → (limits_of f h ≡ l) ↔ LatestElse limits_in (limits f.thresholds f.over f.under) h l
limits_split f = last_split limits_in (limits f.thresholds f.over f.under)

pub filter_split : (s : WhichRegister) (h : History) (n : ℕ) → (filter_of s h ≡ n) ↔ LatestElse (filter_in s) 0 h n
filter_split s = last_split (filter_in s) 0

-- ---- 'Clock: last set, else fresh, plus samples since'
since : (later before : History) → NonePicks clock_in later before → samples_since (later ++ before) ≡ samples_in later + samples_since before
unfolding samples_since samples_in
since [] before n = sym (zero-add (samples_since before))
since (sampled p ∷ later) before n = ap suc (since later before (each_rest n)) ∙ sym (suc-add (samples_in later) (samples_since before))
since (requested q ∷ later) before n = since later before (each_rest n)
since (mode_set m ∷ later) before n = since later before (each_rest n)
since (limits_set t o u ∷ later) before n = since later before (each_rest n)
since (clock_set m ∷ later) before n = absurd (some≢none (each_first n))
since (occurred r ∷ later) before n = since later before (each_rest n)
since (filter_set s m ∷ later) before n = since later before (each_rest n)
since (bits_cleared s m ∷ later) before n = since later before (each_rest n)
since (log_cleared m ∷ later) before n = since later before (each_rest n)
since (groups_set g ∷ later) before n = since later before (each_rest n)
since (profile_set w ∷ later) before n = since later before (each_rest n)

since_all :
    (f : AnyFresh) (later before : History)
    → NonePicks clock_in later before
    → clock_of f (later ++ before) ≡ held (last clock_in f.clock before + (samples_in later + samples_since before))
unfolding last
since_all f later before n =
    ap₂ (λ (x y : ℕ). held (x + y)) (kept clock_in (last clock_in f.clock) (λ e h. refl) later before n) (since later before n)

set_only : (e : Effect) (h : History) (t : ℕ) → clock_in e h ≡ some t → e ≡ clock_set t
set_only (sampled p) h t q = absurd (some≢none (sym q))
set_only (requested r) h t q = absurd (some≢none (sym q))
set_only (mode_set n) h t q = absurd (some≢none (sym q))
set_only (limits_set l o u) h t q = absurd (some≢none (sym q))
set_only (clock_set n) h t q = cc
set_only (occurred r) h t q = absurd (some≢none (sym q))
set_only (filter_set s n) h t q = absurd (some≢none (sym q))
set_only (bits_cleared s n) h t q = absurd (some≢none (sym q))
set_only (log_cleared n) h t q = absurd (some≢none (sym q))
set_only (groups_set g) h t q = absurd (some≢none (sym q))
set_only (profile_set w) h t q = absurd (some≢none (sym q))

pub clock_split : (f : AnyFresh) (h : History) (t : ℕ) → (clock_of f h ≡ t) ↔ ClockSince f h t
unfolding last samples_since
clock_split f h t = (λ e. subst (ClockSince f h) e (go (latest_or_none clock_in h)), from)
  where
    after :
        (later : History) (n : ℕ) (before : History)
        → h ≡ later ++ (clock_set n ∷ before)
        → NonePicks clock_in later (clock_set n ∷ before)
        → clock_of f h ≡ held (n + samples_in later)
    after later n before s c = ap (clock_of f) s ∙ since_all f later (clock_set n ∷ before) c ∙ rw add-zero

    ever : NonePicks clock_in h [] → clock_of f h ≡ held (f.clock + samples_in h)
    ever c = ap (clock_of f) (sym (append-nil h)) ∙ since_all f h [] c ∙ rw add-zero

    from : ClockSince f h t → clock_of f h ≡ t
    from (last_set later n before s c e) = after later n before s c ∙ sym e
    from (never_set c e) = ever c ∙ sym e

    go : ((n : ℕ) × Latest clock_in h n) ⊎ NonePicks clock_in h [] → ClockSince f h (clock_of f h)
    go (inl w) =
        let l = w.1 in
        let q = set_only l.entry l.before w.0 l.picks in
        let s = rw q at l.split in
        let c = rw q at l.none_later in
        last_set l.later w.0 l.before s c (after l.later w.0 l.before s c)
    go (inr c) = never_set c (ever c)

-- ---- 'A spell runs from an accepted remote disconnect to the next accepted remote reconnect or mode 0'
-- an edge of a spell of the given kind: its begin (true), its end (false)
abbrev pub is_edge : Bool → Option Bool → Bool
is_edge b none = false
is_edge b (some c) = beq b c

edge : (o : Option Bool) (s : Bool) → otherwise o s ≡ is_edge true o || (not (is_edge false o) && s)
edge none s = refl
edge (some true) s = refl
edge (some false) s = refl

spell_ongoing : (h : History) → (spell h ≡ true) ↔ Ongoing (λ e h. is_edge true (spell_edge e h)) (λ e h. is_edge false (spell_edge e h)) h
unfolding spell last
spell_ongoing = ongoing_split _ _ spell refl (λ e h. edge (spell_edge e h) (spell h))

reconnect_ends : (h : History) → is_edge false (spell_edge (requested remote_reconnect) h) ≡ true
reconnect_ends h = refl

mode_zero_ends : (h : History) → is_edge false (spell_edge (mode_set 0) h) ≡ true
mode_zero_ends h = refl

no_end : (e : Effect) (h : History) → e ≢ requested remote_reconnect → e ≢ mode_set 0 → is_edge false (spell_edge e h) ≡ false
no_end (sampled p) h r z = refl
no_end (requested remote_disconnect) h r z = refl
no_end (requested remote_reconnect) h r z = absurd (r refl)
no_end (requested manual_disconnect) h r z = refl
no_end (requested manual_reconnect) h r z = refl
no_end (mode_set n) h r z = rw (ne_eqb n 0 (λ q. z (ap mode_set q)))
no_end (limits_set t o u) h r z = refl
no_end (clock_set n) h r z = refl
no_end (occurred x) h r z = refl
no_end (filter_set s n) h r z = refl
no_end (bits_cleared s n) h r z = refl
no_end (log_cleared n) h r z = refl
no_end (groups_set g) h r z = refl
no_end (profile_set w) h r z = refl

no_begin : (x : Bool) → is_edge true (given x false) ≡ false
no_begin true = refl
no_begin false = refl

pub begins : (e : Effect) (h : History) → is_edge true (spell_edge e h) ≡ true → e ≡ requested remote_disconnect
begins (sampled p) h q = absurd (false≢true q)
begins (requested remote_disconnect) h q = refl
begins (requested remote_reconnect) h q = absurd (false≢true q)
begins (requested manual_disconnect) h q = absurd (false≢true q)
begins (requested manual_reconnect) h q = absurd (false≢true q)
begins (mode_set n) h q = absurd (false≢true (sym (no_begin (eqb n 0)) ∙ q))
begins (limits_set t o u) h q = absurd (false≢true q)
begins (clock_set n) h q = absurd (false≢true q)
begins (occurred r) h q = absurd (false≢true q)
begins (filter_set s n) h q = absurd (false≢true q)
begins (bits_cleared s n) h q = absurd (false≢true q)
begins (log_cleared n) h q = absurd (false≢true q)
begins (groups_set g) h q = absurd (false≢true q)
begins (profile_set w) h q = absurd (false≢true q)

ended : (h : History) (d e : Effect) → is_edge false (spell_edge d h) ≡ true → is_edge false (spell_edge e h) ≡ false → e ≢ d
ended h d e t n q = absurd (false≢true (sym n ∙ ap (λ (x : Effect). is_edge false (spell_edge x h)) q ∙ t))

pub spell_split : (h : History) → (spell h ≡ true) ↔ InSpell h
spell_split h = (to, from)
  where
    to : spell h ≡ true → InSpell h
    to s =
        let o = (spell_ongoing h).0 s in
        let b = begins o.entry o.before o.begun in
        record {
          later = o.later;
          before = o.before;
          split = rw b at o.split;
          no_reconnect = rw b at (each_only (λ e h. ended h (requested remote_reconnect) e (reconnect_ends h)) o.none_ends);
          no_mode_zero = rw b at (each_only (λ e h. ended h (mode_set 0) e (mode_zero_ends h)) o.none_ends);
        }

    from : InSpell h → spell h ≡ true
    from i =
        (spell_ongoing h).1
        (record {
          later = i.later;
          entry = requested remote_disconnect;
          before = i.before;
          split = i.split;
          begun = refl;
          none_ends = record { at = λ newer e older q. no_end e _ (i.no_reconnect.at newer e older q) (i.no_mode_zero.at newer e older q) };
        })

-- 'Inside one the switch is 0'
pub switch_inside : (f : AnyFresh) (h : History) → InSpell h → switch_of f h ≡ 0
unfolding switch_of
switch_inside f h i = rw ((spell_split h).1 i)

pub outside : (h : History) → ¬ InSpell h → spell h ≡ false
outside h n = go (spell h) refl
  where
    go : (s : Bool) → spell h ≡ s → spell h ≡ false
    go true q = absurd (n ((spell_split h).0 q))
    go false q = q

-- 'Otherwise the last deciding call rules: fresh [gives 1]'
pub switch_outside : (f : AnyFresh) (h : History) (v : ℕ) → ¬ InSpell h → (switch_of f h ≡ v) ↔ LatestElse (decides f) 1 h v
unfolding switch_of observations last_decided
switch_outside f h v n = rw (outside h n) (latest_split (decides f) (last_decided f) (λ e h. refl) h v)

-- outside a spell a remote reconnect decides in modes 2 and 4 alone
pub reconnect_outside_decides : (f : AnyFresh) (h : History) → ¬ InSpell h
    → decides f (requested remote_reconnect) h ≡ given (among (2 ∷ 4 ∷ []) (mode_of f h)) 1
reconnect_outside_decides f h n = rw (outside h n)

-- the call that ends a spell is not inside it: 'mode 0', 'a remote reconnect ending a spell in mode 2 or 4 give 1', 'in another mode' 2
pub mode_zero_decides : (f : AnyFresh) (h : History) → decides f (mode_set 0) h ≡ some 1
mode_zero_decides f h = refl

pub reconnect_decides : (f : AnyFresh) (h : History) → InSpell h
    → decides f (requested remote_reconnect) h ≡ some (cond (among (2 ∷ 4 ∷ []) (mode_of f h)) 1 2)
reconnect_decides f h i = rw ((spell_split h).1 i)

-- 'manual reconnect' gives 1, 'manual disconnect' 2
pub manual_decides :
    (f : AnyFresh) (h : History)
    → ¬ InSpell h
    → (decides f (requested manual_reconnect) h ≡ some 1) × (decides f (requested manual_disconnect) h ≡ some 2)
manual_decides f h n = (rw (outside h n), rw (outside h n))

-- 'Other mode changes leave the switch'
pub other_modes_decide_nothing : (f : AnyFresh) (n : ℕ) (h : History) → n ≢ 0 → decides f (mode_set n) h ≡ none
other_modes_decide_nothing f n h z = rw (ne_eqb n 0 z)

pub others_decide_nothing :
    (f : AnyFresh) (e : Effect) (h : History)
    → ((ps : List ℤ) → e ≢ sampled ps)
    → ((n : ℕ) → e ≢ mode_set n)
    → e ≢ requested remote_reconnect
    → e ≢ requested manual_disconnect
    → e ≢ requested manual_reconnect
    → decides f e h ≡ none
others_decide_nothing f (sampled ps) h s m r d c = absurd (s ps refl)
others_decide_nothing f (requested remote_disconnect) h s m r d c = refl
others_decide_nothing f (requested remote_reconnect) h s m r d c = absurd (r refl)
others_decide_nothing f (requested manual_disconnect) h s m r d c = absurd (d refl)
others_decide_nothing f (requested manual_reconnect) h s m r d c = absurd (c refl)
others_decide_nothing f (mode_set n) h s m r d c = absurd (m n refl)
others_decide_nothing f (limits_set ts o u) h s m r d c = refl
others_decide_nothing f (clock_set n) h s m r d c = refl
others_decide_nothing f (occurred x) h s m r d c = refl
others_decide_nothing f (filter_set x n) h s m r d c = refl
others_decide_nothing f (bits_cleared x n) h s m r d c = refl
others_decide_nothing f (log_cleared n) h s m r d c = refl
others_decide_nothing f (groups_set g) h s m r d c = refl
others_decide_nothing f (profile_set w) h s m r d c = refl

-- 'Calls inside a spell decide nothing'
pub inside_decides_nothing : (f : AnyFresh) (e : Effect) (h : History) → InSpell h → e ≢ requested remote_reconnect → e ≢ mode_set 0
    → decides f e h ≡ none
inside_decides_nothing f (sampled p) h i r z = rw ((spell_split h).1 i)
inside_decides_nothing f (requested remote_disconnect) h i r z = refl
inside_decides_nothing f (requested remote_reconnect) h i r z = absurd (r refl)
inside_decides_nothing f (requested manual_disconnect) h i r z = rw ((spell_split h).1 i)
inside_decides_nothing f (requested manual_reconnect) h i r z = rw ((spell_split h).1 i)
inside_decides_nothing f (mode_set n) h i r z = other_modes_decide_nothing f n h (λ q. z (ap mode_set q))
inside_decides_nothing f (limits_set t o u) h i r z = refl
inside_decides_nothing f (clock_set n) h i r z = refl
inside_decides_nothing f (occurred x) h i r z = refl
inside_decides_nothing f (filter_set s n) h i r z = refl
inside_decides_nothing f (bits_cleared s n) h i r z = refl
inside_decides_nothing f (log_cleared n) h i r z = refl
inside_decides_nothing f (groups_set g) h i r z = refl
inside_decides_nothing f (profile_set w) h i r z = refl

-- ---- 'A register bit stands if an event raised it unhidden and no clear of it (error bit 0: nor clock setting) came later'
pub stands_split : (s : WhichRegister) (b : ℕ) (h : History) → (stands s b h ≡ true) ↔ Ongoing (raises s b) (λ e h. clears s b e) h
unfolding stands
stands_split s b = ongoing_split (raises s b) (λ e h. clears s b e) (stands s b) refl (λ e h. refl)

pub register_bits : (s : WhichRegister) (b : ℕ) (h : History) → b < 32 → bit (bits_of s h) b ≡ stands s b h
register_bits s b h = bit_number 32 (λ b. stands s b h) b

pub alarms_counted : (h : History) → alarm_count_of h ≡ bit_count (bits_of alarms h)
alarms_counted h = sym (number_count (λ b. stands alarms b h))

-- ---- 'the .. lines owed by the call rules since that log was last cleared, its 255 included'
clears_not : (n : ℕ) (e : Effect) → e ≢ log_cleared n → clears_log n e ≡ false
clears_not n (sampled p) c = refl
clears_not n (requested q) c = refl
clears_not n (mode_set m) c = refl
clears_not n (limits_set t o u) c = refl
clears_not n (clock_set t) c = refl
clears_not n (occurred r) c = refl
clears_not n (filter_set s m) c = refl
clears_not n (bits_cleared s m) c = refl
clears_not n (log_cleared m) c = ne_eqb n m (λ q. c (ap log_cleared (sym q)))
clears_not n (groups_set g) c = refl
clears_not n (profile_set w) c = refl

clears_only : (n : ℕ) (e : Effect) → clears_log n e ≡ true → e ≡ log_cleared n
clears_only n (sampled p) q = absurd (false≢true q)
clears_only n (requested r) q = absurd (false≢true q)
clears_only n (mode_set m) q = absurd (false≢true q)
clears_only n (limits_set t o u) q = absurd (false≢true q)
clears_only n (clock_set t) q = absurd (false≢true q)
clears_only n (occurred r) q = absurd (false≢true q)
clears_only n (filter_set s m) q = absurd (false≢true q)
clears_only n (bits_cleared s m) q = absurd (false≢true q)
clears_only n (log_cleared m) q = ap log_cleared (sym (eqb-true n m q))
clears_only n (groups_set g) q = absurd (false≢true q)
clears_only n (profile_set w) q = absurd (false≢true q)

-- call 14: 'it then holds one line 255'
pub owed_cleared : (f : AnyFresh) (n : ℕ) (before : History) → owed f n (log_cleared n ∷ before) ≡ line (clock_of f (log_cleared n ∷ before)) 255 ∷ []
unfolding owed
owed_cleared f n before = rw (eq-eqb n n refl)

owed_more :
    (f : AnyFresh) (n : ℕ) (later before : History)
    → NotCleared n later before
    → owed f n (later ++ before) ≡ owed f n before ++ owed_between f n later before
unfolding owed owed_between
owed_more f n [] before c = sym (append-nil (owed f n before))
owed_more f n (e ∷ later) before c =
    rw (clears_not n e (each_first c), owed_more f n later before (each_rest c))
    (append_assoc (owed f n before) (owed_between f n later before) (owed_by f n e (later ++ before)))

abbrev clearing : ℕ → Effect → History → Option Bool
clearing n e h = given (clears_log n e) true

pub given_some : (x v : Bool) → given x true ≡ some v → x ≡ true
given_some true v q = refl
given_some false v q = absurd (some≢none (sym q))

clearing_none : (n : ℕ) (e : Effect) → given (clears_log n e) true ≡ none → e ≢ log_cleared n
clearing_none n e q c = some≢none (rw (c, eq-eqb n n refl) at q)

pub owed_split : (f : AnyFresh) (n : ℕ) (h : History) (ls : List Line) → (owed f n h ≡ ls) ↔ OwedSince f n h ls
unfolding owed
owed_split f n h ls = (λ e. subst (OwedSince f n h) e (go (latest_or_none (clearing n) h)), from)
  where
    after :
        (later before : History)
        → h ≡ later ++ (log_cleared n ∷ before)
        → NotCleared n later (log_cleared n ∷ before)
        → owed f n h ≡ line (clock_of f (log_cleared n ∷ before)) 255 ∷ owed_between f n later (log_cleared n ∷ before)
    after later before s c = ap (owed f n) s ∙ owed_more f n later (log_cleared n ∷ before) c ∙ rw (owed_cleared f n before)

    ever : NotCleared n h [] → owed f n h ≡ owed_between f n h []
    ever c = ap (owed f n) (sym (append-nil h)) ∙ owed_more f n h [] c

    from : OwedSince f n h ls → owed f n h ≡ ls
    from (last_clear later before s c e) = after later before s c ∙ sym e
    from (never_cleared c e) = ever c ∙ sym e

    go : ((v : Bool) × Latest (clearing n) h v) ⊎ NonePicks (clearing n) h [] → OwedSince f n h (owed f n h)
    go (inl w) =
        let l = w.1 in
        let q = clears_only n l.entry (given_some (clears_log n l.entry) w.0 l.picks) in
        let s = rw q at l.split in
        let c = rw q at (each_only (λ e h. clearing_none n e) l.none_later) in
        last_clear l.later l.before s c (after l.later l.before s c)
    go (inr p) = let c = each_only (λ e h. clearing_none n e) p in never_cleared c (ever c)
