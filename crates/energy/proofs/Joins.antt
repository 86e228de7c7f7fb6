-- The laws of days and of joins. A day whose remainders are below 3,600 is two numbers of watt-seconds, and joining adds them.
use Rattle.base.proofs.Prelude.{◌≡◌, refl, sym, ap, ap₂, ◌∙◌, Bool, true, false, ◌&&◌, ◌||◌, not, cond, false≢true, or-true, List, [], ◌∷◌, ℕ}
use Rattle.base.proofs.Prelude.{◌+◌, ◌*◌, ◌/◌, ◌%◌, ◌<◌, ◌≤◌, add_assoc, arith, leb, ℤ, pos, negsuc, length, lt-ltb, le-ltb, lt-leb, ltb-true}
use Rattle.base.proofs.Prelude.{leb-true, leb-false, every, and_left, and_right, by_test}
use Rattle.std.specs.Prelude.{Result, Ok, Err}
use Rattle.base.proofs.Bools.{neither}
use Rattle.base.proofs.Every.{every_first, every_rest}
use native.Mathlib.Nat.{add_comm}
use Rattle.std.proofs.Math.Bool.{or_comm, or_assoc}
use Rattle.base.specs.Numbers.{positive_part, negative_part}
use Rattle.energy.specs.declared.Energy.{Energy}
use Rattle.energy.specs.declared.Day.{Day}
use Rattle.energy.specs.declared.EnergyRefusal.{EnergyRefusal}
use Rattle.energy.specs.declared.EnergyRefusal.TheVariants.{UnreducedRemainder, SumTooLarge}
use Rattle.energy.specs.Energy.{energy_of, amount_of}
use Rattle.energy.specs.Days.{total, day_of, measured}
use Rattle.energy.specs.Joins.{is_unreduced, is_too_large, carried, remaining, sum_of, joined, joined_days}
use Rattle.energy.specs.Laws.{ExactEnergy, and_then, Bracketing, day, join, samples_in, are_days, joined_in, up_to_limit, is_power, is_reduced, Laws, JoinLaws}
use Rattle.energy.proofs.Sums.{total_append, total_none, balance}

-- ---- an energy of so many watt-seconds
pub amount_of_lem : (n : ℕ) → amount_of (energy_of n) ≡ n
amount_of_lem n = omega arith

reduced_of : (n : ℕ) → is_unreduced (energy_of n) ≡ false
reduced_of n = lt-leb 3600 (n % 3600) (omega arith)

exactly : (n : ℕ) → ExactEnergy (energy_of n) n
exactly n = record { amount = amount_of_lem n; remainder = omega arith }

-- joining adds: what the carry and the remainder make of two energies is the energy of both amounts
sum_is : (a b : Energy) → sum_of a b ≡ energy_of (amount_of a + amount_of b)
sum_is a b =
    let x = a.watthours in
    let m = a.wattseconds in
    let y = b.watthours in
    let n = b.wattseconds in
    λ i. record { watthours = hours x m y n i; wattseconds = seconds x m y n i }
  where
    hours : (x m y n : ℕ) → x + y + (m + n) / 3600 ≡ (3600 * x + m + (3600 * y + n)) / 3600
    hours x m y n = omega arith

    seconds : (x m y n : ℕ) → (m + n) % 3600 ≡ (3600 * x + m + (3600 * y + n)) % 3600
    seconds x m y n = omega arith

-- more is no smaller
larger : (m k : ℕ) → is_too_large (energy_of m) ≡ true → is_too_large (energy_of (m + k)) ≡ true
larger m k e = let l = ltb-true 9007199254740992 (m / 3600) e in lt-ltb 9007199254740992 ((m + k) / 3600) (omega arith)

-- ---- a day by its two numbers
abbrev both : ℕ → ℕ → Day
both m n = record { import = energy_of m; export = energy_of n }

abbrev within : ℕ → ℕ → Result Day EnergyRefusal
within m n = up_to_limit (both m n)

abbrev large : ℕ → ℕ → Bool
large m n = is_too_large (energy_of m) || is_too_large (energy_of n)

large_more : (m n k l : ℕ) → large m n ≡ true → large (m + k) (n + l) ≡ true
large_more m n k l e =
    by_test (is_too_large (energy_of m)) (λ q. rw (larger m k q))
    (λ q. rw (larger n l (rw q at e)) (or-true (is_too_large (energy_of (m + k)))))

large_other : (m n k l : ℕ) → large k l ≡ true → large (m + k) (n + l) ≡ true
large_other m n k l e = rw (add_comm m k, add_comm n l) (large_more k l m n e)

reduced_parts : (d : Day) → is_reduced d ≡ true → (is_unreduced d.import ≡ false) × (is_unreduced d.export ≡ false)
reduced_parts d e = (unnot (is_unreduced d.import) (and_left (not (is_unreduced d.import)) _ e), unnot (is_unreduced d.export) (and_right (not (is_unreduced d.import)) _ e))
  where
    unnot : (b : Bool) → not b ≡ true → b ≡ false
    unnot true h = absurd (false≢true h)
    unnot false h = refl

reduced_both : (m n : ℕ) → is_reduced (both m n) ≡ true
reduced_both m n = rw (reduced_of m, reduced_of n)

joined_reduced : (a b : Day) → is_reduced a ≡ true → is_reduced b ≡ true
    → joined_days a b ≡ within (amount_of a.import + amount_of b.import) (amount_of a.export + amount_of b.export)
unfolding joined_days
joined_reduced a b p q =
    rw ((reduced_parts a p).0, (reduced_parts b q).0, (reduced_parts a p).1, (reduced_parts b q).1)
    (ap₂ (λ (x y : Energy). up_to_limit (record { import = x; export = y })) (sum_is a.import b.import) (sum_is a.export b.export))

-- something is joined to a day that may be refused
more : (m n : ℕ) (c : Day) → is_reduced c ≡ true → and_then (within m n) (λ d. joined_days d c) ≡ within (m + amount_of c.import) (n + amount_of c.export)
more m n c r = go (large m n) refl
  where
    go : (x : Bool) → large m n ≡ x → and_then (cond x (Err SumTooLarge) (Ok (both m n))) (λ d. joined_days d c) ≡ within (m + amount_of c.import) (n + amount_of c.export)
    go true h = rw (large_more m n (amount_of c.import) (amount_of c.export) h)
    go false h = joined_reduced (both m n) c (reduced_both m n) r ∙ ap₂ (λ (k l : ℕ). within (k + amount_of c.import) (l + amount_of c.export)) (amount_of_lem m) (amount_of_lem n)

-- a day that may be refused is joined to another
other : (a : Day) (m n : ℕ) → is_reduced a ≡ true → and_then (within m n) (λ d. joined_days a d) ≡ within (amount_of a.import + m) (amount_of a.export + n)
other a m n r = go (large m n) refl
  where
    go : (x : Bool) → large m n ≡ x → and_then (cond x (Err SumTooLarge) (Ok (both m n))) (λ d. joined_days a d) ≡ within (amount_of a.import + m) (amount_of a.export + n)
    go true h = rw (large_other (amount_of a.import) (amount_of a.export) m n h)
    go false h = joined_reduced a (both m n) r (reduced_both m n) ∙ ap₂ (λ (k l : ℕ). within (amount_of a.import + k) (amount_of a.export + l)) (amount_of_lem m) (amount_of_lem n)

-- both may be refused
added : (m n k l : ℕ) → and_then (within m n) (λ a. and_then (within k l) (λ b. joined_days a b)) ≡ within (m + k) (n + l)
added m n k l = go (large m n) refl
  where
    go : (x : Bool) → large m n ≡ x → and_then (cond x (Err SumTooLarge) (Ok (both m n))) (λ a. and_then (within k l) (λ b. joined_days a b)) ≡ within (m + k) (n + l)
    go true h = rw (large_more m n k l h)
    go false h = other (both m n) k l (reduced_both m n) ∙ ap₂ (λ (x y : ℕ). within (x + k) (y + l)) (amount_of_lem m) (amount_of_lem n)

-- ---- a day of samples is below the limit
power_parts : (z : ℤ) → is_power z ≡ true → (positive_part z ≤ 2147483648) × (negative_part z ≤ 2147483648)
power_parts z e =
    let p = leb-true (positive_part z) 2147483647 (and_left (leb (positive_part z) 2147483647) _ e) in
    let n = leb-true (negative_part z) 2147483648 (and_right (leb (positive_part z) 2147483647) _ e) in
    (omega arith, n)

most : (f : ℤ → ℕ) → ((z : ℤ) → is_power z ≡ true → f z ≤ 2147483648) → (xs : List ℤ) → every is_power xs ≡ true → total f xs ≤ length xs * 2147483648
unfolding total
most f h [] e = omega arith
most f h (x ∷ xs) e = omega (arith, h x (every_first is_power x xs e), most f h xs (every_rest is_power x xs e))

small : (n k : ℕ) → n ≤ k * 2147483648 → k ≤ 86400 → is_too_large (energy_of n) ≡ false
small n k h l = le-ltb 9007199254740992 (n / 3600) (omega arith)

accepted_day : (xs : List ℤ) → length xs ≤ 86400 → measured xs ≡ Ok (day_of xs)
unfolding measured
accepted_day xs h = rw (le-ltb 86400 (length xs) h)

day_within : (xs : List ℤ) → (leb (length xs) 86400 && every is_power xs) ≡ true → measured xs ≡ up_to_limit (day_of xs)
day_within xs e =
    let h = leb-true (length xs) 86400 (and_left (leb (length xs) 86400) _ e) in
    let powers = and_right (leb (length xs) 86400) (every is_power xs) e in
    let i = small (total positive_part xs) (length xs) (most positive_part (λ z p. (power_parts z p).0) xs powers) h in
    let o = small (total negative_part xs) (length xs) (most negative_part (λ z p. (power_parts z p).1) xs powers) h in
    rw (i, o) (accepted_day xs h)

-- ---- days joined in any bracketing
together : (t : Bracketing) → are_days t ≡ true → joined_in t ≡ up_to_limit (day_of (samples_in t))
unfolding are_days joined_in samples_in
together (day xs) e = day_within xs e
together (join s t) e =
    let p = together s (and_left (are_days s) (are_days t) e) in
    let q = together t (and_right (are_days s) (are_days t) e) in
    let xs = samples_in s in
    let ys = samples_in t in
    rw (p, q)
    (added (total positive_part xs) (total negative_part xs) (total positive_part ys) (total negative_part ys)
    ∙ ap₂ within (sym (total_append positive_part xs ys)) (sym (total_append negative_part xs ys)))

pub laws : Laws
unfolding measured
laws = record {
  too_many = λ xs h. rw (lt-ltb 86400 (length xs) h);
  up_to_86400 = accepted_day;
  import_exact = λ xs. exactly (total positive_part xs);
  export_exact = λ xs. exactly (total negative_part xs);
  balance = balance;
  not_exported = λ n xs. ap energy_of (total_none negative_part (pos n) xs refl);
  not_imported = λ n xs. ap energy_of (total_none positive_part (negsuc n) xs refl);
  together = together;
}

-- ---- what it says that a join is accepted
taken : {T : Type 0} (x h : Bool) (s d : T) → cond x (Err UnreducedRemainder) (cond h (Err SumTooLarge) (Ok s)) ≡ Ok d → (x ≡ false) × ((h ≡ false) × (s ≡ d))
taken true h s d p = cc
taken false true s d p = cc
taken false false s d p = (refl, (refl, cc))

-- ---- a join as the code computes it
module _ (a b : Energy) where
  pub both_below : (is_unreduced a || is_unreduced b) ≡ false → (a.wattseconds < 3600) × (b.wattseconds < 3600)
  both_below e =
      let p = neither (is_unreduced a) (is_unreduced b) e in
      (leb-false 3600 a.wattseconds p.0, leb-false 3600 b.wattseconds p.1)

  pub join_unreduced : (is_unreduced a || is_unreduced b) ≡ true → Err UnreducedRemainder ≡ joined a b
  unfolding joined
  join_unreduced e = rw e

  pub join_too_large : (is_unreduced a || is_unreduced b) ≡ false → 9007199254740992 < (sum_of a b).watthours → Err SumTooLarge ≡ joined a b
  unfolding joined
  join_too_large e h = rw (e, lt-ltb 9007199254740992 (sum_of a b).watthours h)

  pub join_accepted : (is_unreduced a || is_unreduced b) ≡ false → (sum_of a b).watthours ≤ 9007199254740992 → Ok (sum_of a b) ≡ joined a b
  unfolding joined
  join_accepted e h = rw (e, le-ltb 9007199254740992 (sum_of a b).watthours h)

four : (w x y z : Bool) → (((w || x) || y) || z) ≡ false → ((w ≡ false) × (x ≡ false)) × ((y ≡ false) × (z ≡ false))
four w x y z e =
    let p = neither ((w || x) || y) z e in
    let q = neither (w || x) y p.0 in
    (neither w x q.0, (q.1, p.1))

module _ (a b : Day) where
  abbrev pub any_unreduced : Bool
  any_unreduced = ((is_unreduced a.import || is_unreduced b.import) || is_unreduced a.export) || is_unreduced b.export

  pub days_unreduced : any_unreduced ≡ true → Err UnreducedRemainder ≡ joined_days a b
  unfolding joined_days
  days_unreduced e = rw e

  abbrev sums : Day
  sums = record { import = sum_of a.import b.import; export = sum_of a.export b.export }

  -- the tests left where every remainder is below 3,600
  module _ (e : any_unreduced ≡ false) where
    import_judged : joined a.import b.import ≡ cond (is_too_large (sum_of a.import b.import)) (Err SumTooLarge) (Ok (sum_of a.import b.import))
    unfolding joined
    import_judged =
        let f = four (is_unreduced a.import) (is_unreduced b.import) (is_unreduced a.export) (is_unreduced b.export) e in
        rw (f.0.0, f.0.1)

    export_judged : joined a.export b.export ≡ cond (is_too_large (sum_of a.export b.export)) (Err SumTooLarge) (Ok (sum_of a.export b.export))
    unfolding joined
    export_judged =
        let f = four (is_unreduced a.import) (is_unreduced b.import) (is_unreduced a.export) (is_unreduced b.export) e in
        rw (f.1.0, f.1.1)

    days_judged : joined_days a b ≡ up_to_limit sums
    unfolding joined_days
    days_judged = rw e

    pub import_refused : (r : EnergyRefusal) → joined a.import b.import ≡ Err r → Err r ≡ joined_days a b
    import_refused r p =
        rw days_judged (go (is_too_large (sum_of a.import b.import)) (is_too_large (sum_of a.export b.export)) (sym import_judged ∙ p))
      where
        go : (g h : Bool) → cond g (Err SumTooLarge) (Ok (sum_of a.import b.import)) ≡ Err r
            → Err r ≡ cond (g || h) (Err SumTooLarge) (Ok sums)
        go true h q = cc
        go false h q = cc

    pub export_refused : (x : Energy) (r : EnergyRefusal) → joined a.import b.import ≡ Ok x → joined a.export b.export ≡ Err r → Err r ≡ joined_days a b
    export_refused x r p q =
        rw days_judged (go (is_too_large (sum_of a.import b.import)) (is_too_large (sum_of a.export b.export)) (sym import_judged ∙ p) (sym export_judged ∙ q))
      where
        go : (g h : Bool) → cond g (Err SumTooLarge) (Ok (sum_of a.import b.import)) ≡ Ok x → cond h (Err SumTooLarge) (Ok (sum_of a.export b.export)) ≡ Err r
            → Err r ≡ cond (g || h) (Err SumTooLarge) (Ok sums)
        go true h m n = cc
        go false true m n = cc
        go false false m n = cc

    pub both_joined : (x y : Energy) → joined a.import b.import ≡ Ok x → joined a.export b.export ≡ Ok y → ◌≡◌ {A = Result Day EnergyRefusal} (Ok (record { import = x; export = y })) (joined_days a b)
    both_joined x y p q =
        rw days_judged (go (is_too_large (sum_of a.import b.import)) (is_too_large (sum_of a.export b.export)) (sym import_judged ∙ p) (sym export_judged ∙ q))
      where
        go : (g h : Bool) → cond g (Err SumTooLarge) (Ok (sum_of a.import b.import)) ≡ Ok x → cond h (Err SumTooLarge) (Ok (sum_of a.export b.export)) ≡ Ok y
            → ◌≡◌ {A = Result Day EnergyRefusal} (Ok (record { import = x; export = y })) (cond (g || h) (Err SumTooLarge) (Ok sums))
        go true h m n = cc
        go false true m n = cc
        go false false m n = cc

module _ (a b d : Day) (e : joined_days a b ≡ Ok d) where
  joined_parts : ((((is_unreduced a.import || is_unreduced b.import) || is_unreduced a.export) || is_unreduced b.export) ≡ false)
      × (((is_too_large (sum_of a.import b.import) || is_too_large (sum_of a.export b.export)) ≡ false)
      × (record { import = sum_of a.import b.import; export = sum_of a.export b.export } ≡ d))
  unfolding joined_days
  joined_parts = taken _ _ _ d e

  import_joined : joined a.import b.import ≡ Ok d.import
  unfolding joined
  import_joined =
      let f = four (is_unreduced a.import) (is_unreduced b.import) (is_unreduced a.export) (is_unreduced b.export) joined_parts.0 in
      rw (f.0.0, f.0.1, (neither (is_too_large (sum_of a.import b.import)) (is_too_large (sum_of a.export b.export)) joined_parts.1.0).0) (ap (λ (x : Day). Ok x.import) joined_parts.1.1)

  export_joined : joined a.export b.export ≡ Ok d.export
  unfolding joined
  export_joined =
      let f = four (is_unreduced a.import) (is_unreduced b.import) (is_unreduced a.export) (is_unreduced b.export) joined_parts.0 in
      rw (f.1.0, f.1.1, (neither (is_too_large (sum_of a.import b.import)) (is_too_large (sum_of a.export b.export)) joined_parts.1.0).1) (ap (λ (x : Day). Ok x.export) joined_parts.1.1)

pub sum_exact : (a b e : Energy) → joined a b ≡ Ok e → ExactEnergy e (amount_of a + amount_of b)
unfolding joined
sum_exact a b e h =
    rw (← (taken (is_unreduced a || is_unreduced b) (is_too_large (sum_of a b)) (sum_of a b) e h).1.1, sum_is a b) (exactly (amount_of a + amount_of b))

-- the tests of two days, the days exchanged
exchanged : (w x y z : Bool) → (((w || x) || y) || z) ≡ (((x || w) || z) || y)
exchanged w x y z = rw (or_comm w x, or_assoc (x || w) y z, or_comm y z, ← or_assoc (x || w) z y)

sum_exchanged : (a b : Energy) → sum_of a b ≡ sum_of b a
sum_exchanged a b = λ i. record {
  watthours = add_comm a.watthours b.watthours i + carried (add_comm a.wattseconds b.wattseconds i);
  wattseconds = remaining (add_comm a.wattseconds b.wattseconds i);
}

-- the test of the remainders, and then that of the sums
abbrev judged : Bool → Energy → Energy → Result Day EnergyRefusal
judged t x y = cond t (Err UnreducedRemainder) (up_to_limit (record { import = x; export = y }))

commutes : (a b : Day) → joined_days a b ≡ joined_days b a
unfolding joined_days
commutes a b =
    ap (λ (t : Bool). judged t (sum_of a.import b.import) (sum_of a.export b.export))
    (exchanged (is_unreduced a.import) (is_unreduced b.import) (is_unreduced a.export) (is_unreduced b.export))
    ∙ ap₂ (judged (any_unreduced b a)) (sum_exchanged a.import b.import) (sum_exchanged a.export b.export)

associates : (a b c : Day) → is_reduced a ≡ true → is_reduced b ≡ true → is_reduced c ≡ true
    → and_then (joined_days a b) (λ d. joined_days d c) ≡ and_then (joined_days b c) (λ d. joined_days a d)
associates a b c p q r =
    ap (λ (x : Result Day EnergyRefusal). and_then x (λ d. joined_days d c)) (joined_reduced a b p q)
    ∙ more (amount_of a.import + amount_of b.import) (amount_of a.export + amount_of b.export) c r
    ∙ ap₂ within (add_assoc (amount_of a.import) (amount_of b.import) (amount_of c.import)) (add_assoc (amount_of a.export) (amount_of b.export) (amount_of c.export))
    ∙ sym (ap (λ (x : Result Day EnergyRefusal). and_then x (λ d. joined_days a d)) (joined_reduced b c q r) ∙ other a (amount_of b.import + amount_of c.import) (amount_of b.export + amount_of c.export) p)

pub join_laws : JoinLaws
join_laws = record { sum_exact = sum_exact; import_joined = import_joined; export_joined = export_joined; days_joined = joined_reduced; commutes = commutes; associates = associates }
