-- What `all` says of each rate.
use Rattle.base.proofs.Prelude.{◌≡◌, sym, Bool, true, false, List, ℕ, ◌<◌, arith, length, get_or, below}
use Rattle.base.proofs.Below.{below_all, below_false}
use Rattle.std.specs.Bool.{MatchBool}
use Rattle.std.specs.List.{AllWithin, HoldsAt}

pub all_below : {T : Type 0} (p : T → Bool) (xs : List T) (d : T) (r : Bool)
    → MatchBool r (AllWithin (λ x. p x ≡ true) xs 0 (length xs)) ((k : ℕ) × (k < length xs) × HoldsAt (λ x. p x ≡ false) xs k)
    → r ≡ below (length xs) (λ k. p (get_or xs k d))
all_below p xs d true m = sym (below_all _ _ (λ i b. m i d (omega arith) b))
all_below p xs d false (k, l, e) = sym (below_false _ k _ l (e d))
