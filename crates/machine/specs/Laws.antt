-- What holds of the machine, for any number of monitored values: it simulates the account.
use Rattle.std.specs.Prelude.{◌≡◌, true, List, [], ◌∷◌, reverse}
use Rattle.base.specs.Tests.{every}
use Rattle.events.specs.Table.{EventRow, lawful}
use Rattle.calls.specs.declared.Letter.{Letter}
use Rattle.calls.specs.declared.Letter.TheVariants.{None}
use Rattle.history.specs.Effects.{AnyFresh, AnyCall}
use Rattle.history.specs.Account.{any_account}
use Rattle.history.specs.Letters.{letter_after}
use Rattle.machine.specs.Values.{State}
use Rattle.machine.specs.Machine.{Result, refusing, making, result, state_after}
use Rattle.machine.specs.Fresh.{fresh_values}
use Rattle.machine.specs.Holding.{values_holding}
use Rattle.machine.specs.Ranges.{AnySettings, AllAnyInRange}

-- the state after a result: refused, it is the one that came in
abbrev pub after_result : State → Result → State
after_result s (refusing n) = s
after_result s (making k) = state_after s k

-- 'Its first call gets the fresh meter, each next one the record that the call before handed back, accepted or refused': the state after calls, in
-- their order
unfoldable pub state_after_calls : List EventRow → State → List AnyCall → State
state_after_calls rows s [] = s
state_after_calls rows s (c ∷ cs) = state_after_calls rows (after_result s (result rows s.values c)) cs

-- the letter of a result: document 02, A2: '.. none, and so does a call that is refused ..'
abbrev pub letter_in : Result → Letter
letter_in (refusing n) = None
letter_in (making k) = k.letter

-- of every event table whose rows are lawful
pub record Laws : Type 0 where
  -- after any list of calls from accepted fresh settings, refused calls among them, the state is the one that holds the account
  pub simulates : (rows : List EventRow) (f : AnyFresh) (calls : List AnyCall) → every lawful rows ≡ true → AnySettings f → AllAnyInRange calls
      → state_after_calls rows (fresh_values f) calls ≡ values_holding (any_account rows f calls)
  -- document 02, A2: the letter of one more call, accepted or refused, is the one that the account's switch before and after it, and the call itself, give
  pub letters : (rows : List EventRow) (f : AnyFresh) (calls : List AnyCall) (c : AnyCall) → every lawful rows ≡ true → AnySettings f
      → AllAnyInRange (c ∷ calls) → letter_in (result rows (state_after_calls rows (fresh_values f) calls).values c) ≡ letter_after rows f (reverse calls) c
