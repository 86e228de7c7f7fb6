-- Document 02, A7: 'A remote disconnect holds', of the account alone. Words in quotes are of that request unless another place is named. Histories are the
-- newest first: what came after a call stands in front of it.
use Rattle.std.specs.Prelude.{ℕ, ◌≡◌, Bool, false, true, ◌&&◌, List, [], ◌∷◌, ◌++◌, map, reverse, ℤ, pos}
use Rattle.base.specs.Tests.{among}
use Rattle.events.specs.Table.{EventRow, built_in}
use Rattle.calls.specs.declared.Call.{Call}
use Rattle.calls.specs.declared.Call.TheVariants.{Sample, RemoteDisconnect, RemoteReconnect, ManualReconnect, SetMode}
use Rattle.history.specs.Effects.{AnyFresh, AnyCall, remote_disconnect, remote_reconnect, manual_reconnect, Effect, sampled, requested}
use Rattle.history.specs.Effects.{mode_set}
use Rattle.history.specs.Last.{History, mode_of}
use Rattle.history.specs.Switch.{tries_reconnect, observations}
use Rattle.history.specs.Account.{accepted_calls, any_account}
use Rattle.history.specs.OnePhase.{Fresh, as_fresh, as_call, account}
use Rattle.history.specs.Laws.{under_firing}
use Rattle.history.specs.Examples.{fresh}

-- an accepted call e among those of h: `later` came after it, `before` came before it
pub record AcceptedIn (e : Effect) (h : History) : Type 0 where
  pub later : History
  pub before : History
  pub split : h ≡ later ++ (e ∷ before)

-- '.. neither the fresh mode nor any accepted later is ..' one of these
pub record NeverIn (modes : List ℕ) (f : AnyFresh) (h : History) : Type 0 where
  pub fresh_mode : among modes f.mode ≡ false
  pub later_modes : (n : ℕ) → AcceptedIn (mode_set n) h → among modes n ≡ false

-- whether a sample of these powers, made after these calls, is an under firing
abbrev pub UnderFiring : Type 0
UnderFiring = List ℤ → History → Bool

-- '.. an under firing in mode 5 or 6'
abbrev pub closing_firing : UnderFiring → AnyFresh → UnderFiring
closing_firing fires f powers h = fires powers h && among (5 ∷ 6 ∷ []) (mode_of f h)

-- '.. an accepted manual reconnect, or an under firing in mode 5 or 6': the call e, made after those of h
pub data Closes (fires : UnderFiring) (f : AnyFresh) (e : Effect) (h : History) : Type 0 where
  by_key : e ≡ requested manual_reconnect → Closes fires f e h
  by_firing : (powers : List ℤ) → e ≡ sampled powers → closing_firing fires f powers h ≡ true → Closes fires f e h

-- '.. there is an accepted remote reconnect, and after that an accepted manual reconnect, or an under firing in mode 5 or 6': among the calls of `later`,
-- made after those of `before`
pub record Reconnected (fires : UnderFiring) (f : AnyFresh) (later before : History) : Type 0 where
  pub reconnect : AcceptedIn (requested remote_reconnect) later
  pub closing : Effect
  pub after_that : AcceptedIn closing reconnect.later
  pub closes : Closes fires f closing (after_that.before ++ (requested remote_reconnect ∷ (reconnect.before ++ before)))

-- '.. after the last one there is ..'
pub record ReconnectedAfterLast (fires : UnderFiring) (f : AnyFresh) (h : History) : Type 0 where
  pub disconnect : AcceptedIn (requested remote_disconnect) h
  pub is_last : ¬ AcceptedIn (requested remote_disconnect) disconnect.later
  pub reconnected : Reconnected fires f disconnect.later (requested remote_disconnect ∷ disconnect.before)

-- of the accepted calls of a list from a fresh meter, the switch being at the end as given: '.. if a remote disconnect was accepted and supply is on at the
-- end, then ..'; document 01: 'supply flows only in 1'
abbrev pub Holds : UnderFiring → List ℕ → AnyFresh → History → ℕ → Type 0
Holds fires modes f h switch =
    NeverIn modes f h
    → AcceptedIn (requested remote_disconnect) h
    → switch ≡ 1
    → ReconnectedAfterLast fires f h

-- an under firing with any number of monitored values: one fires under and none remains exceeded, so that h is tried
abbrev pub reconnect_tried : AnyFresh → UnderFiring
reconnect_tried f ps h = tries_reconnect f (λ k. observations f k h) (λ k. observations f k (sampled ps ∷ h))

-- of document 01's meter: a list of its calls, in their order, and its one monitored value's under firing
abbrev pub HoldsOnePhase : List ℕ → List EventRow → Fresh → List Call → ℕ → Type 0
HoldsOnePhase modes rows f calls switch =
    Holds (under_firing (as_fresh f)) modes (as_fresh f) (accepted_calls rows (as_fresh f) (reverse (map as_call calls))) switch

-- of this list it does not hold where only these modes are excluded
abbrev pub Broken : List ℕ → Fresh → List Call → Type 0
Broken modes f calls = ¬ HoldsOnePhase modes built_in f calls (account built_in f calls).switch

-- the theorem, that none of its three modes can be left out, and that its conclusion says no less than the sentence: four lists of which that is false,
-- mode 0 being what turned supply on
pub record RemoteDisconnectHolds : Type 0 where
  -- 'For every list from a fresh meter, where neither the fresh mode nor any accepted later is 0, 2 or 4 ..', with any number of monitored values
  pub any_holds :
      (rows : List EventRow) (f : AnyFresh) (calls : List AnyCall)
      → Holds (reconnect_tried f) (0 ∷ 2 ∷ 4 ∷ []) f (accepted_calls rows f (reverse calls)) (any_account rows f calls).switch
  -- the same of document 01's meter
  pub one_phase_holds :
      (rows : List EventRow) (f : Fresh) (calls : List Call)
      → HoldsOnePhase (0 ∷ 2 ∷ 4 ∷ []) rows f calls (account rows f calls).switch
  -- accepting mode 0 ends a spell
  pub zero_needed : Broken (2 ∷ 4 ∷ []) (fresh 1 0 1 1 0) (RemoteDisconnect ∷ SetMode 0 ∷ [])
  -- in mode 2, here the fresh one, a remote reconnect is enough
  pub two_needed : Broken (0 ∷ 4 ∷ []) (fresh 2 0 1 1 0) (RemoteDisconnect ∷ RemoteReconnect ∷ [])
  -- and in mode 4, here one accepted later
  pub four_needed : Broken (0 ∷ 2 ∷ []) (fresh 1 0 1 1 0) (SetMode 4 ∷ RemoteDisconnect ∷ RemoteReconnect ∷ [])
  -- '.. after the last one ..': what came between an earlier disconnect and the last one does not count
  pub last_needed :
      Broken (2 ∷ 4 ∷ []) (fresh 1 0 1 1 0) (RemoteDisconnect ∷ RemoteReconnect ∷ ManualReconnect ∷ RemoteDisconnect ∷ SetMode 0 ∷ [])
  -- '.. and after that ..': a manual reconnect before the remote one does not count
  pub order_needed : Broken (2 ∷ 4 ∷ []) (fresh 1 0 1 1 0) (RemoteDisconnect ∷ ManualReconnect ∷ RemoteReconnect ∷ SetMode 0 ∷ [])
  -- '.. an under firing ..': in mode 5 a sample that fires nothing does not count
  pub firing_needed : Broken (2 ∷ 4 ∷ []) (fresh 5 3 1 1 0) (RemoteDisconnect ∷ RemoteReconnect ∷ Sample (pos 0) ∷ SetMode 0 ∷ [])
  -- '.. in mode 5 or 6': an under firing in mode 1 does not count
  pub mode_needed :
      Broken (2 ∷ 4 ∷ []) (fresh 1 3 1 1 0) (Sample (pos 9) ∷ RemoteDisconnect ∷ RemoteReconnect ∷ Sample (pos 3) ∷ SetMode 0 ∷ [])
