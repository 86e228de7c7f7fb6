-- The areas that do not depend on how many values the limiter watches are lawful formats, and so are the pairs in front of them.
use Rattle.page.proofs.Common.{◌≡◌, refl, sym, ap, ◌∙◌, Bool, true, ◌&&◌, List, [], ◌∷◌, ◌++◌, ℕ, zero, suc, ◌+◌, ◌*◌, ◌^◌, ◌≤◌, arith, eqb, ltb, length}
use Rattle.page.proofs.Common.{take, eqb-true, eq-eqb, ltb-true, every, and_left, and_right, every_first, every_rest, AllHold, decs, encs, times, Bytes}
use Rattle.page.proofs.Common.{Lawful, Sized}
use Rattle.codec.proofs.Formats.{num_lawful, pair_lawful, times_lawful, via_on_lawful, via_lawful}
use Rattle.page.specs.Layout.{control_area, register_area, alarms_area, line_format, log_area, logs_area, areas_of, of_areas, pair_format, same_pairs}
use Rattle.page.proofs.Inverse.{arrays_back, logs_back, logs_sized}

-- ---- the areas

pub control_lawful : Lawful control_area
control_lawful = via_lawful _ _ (λ c. refl) (λ p. refl) (pair_lawful (num_lawful 1) (pair_lawful (num_lawful 1) (num_lawful 4)))

pub register_lawful : Lawful register_area
register_lawful = via_lawful _ _ (λ r. refl) (λ p. refl) (pair_lawful (num_lawful 4) (num_lawful 4))

pub alarms_lawful : Lawful alarms_area
alarms_lawful = via_lawful _ _ (λ a. refl) (λ p. refl) (pair_lawful register_lawful (num_lawful 1))

line_lawful : Lawful line_format
line_lawful = via_lawful _ _ (λ l. refl) (λ p. refl) (pair_lawful (num_lawful 4) (num_lawful 1))

log_lawful : Lawful log_area
log_lawful = pair_lawful (num_lawful 1) (times_lawful line_lawful 32)

pub logs_lawful : Lawful logs_area
logs_lawful = via_on_lawful areas_of of_areas Sized arrays_back logs_back logs_sized (times_lawful log_lawful 3)

-- ---- the pairs, however many

pairs_lawful : (n : ℕ) → Lawful (times n pair_format)
pairs_lawful n = times_lawful (pair_lawful (num_lawful 2) (num_lawful 2)) n

-- numbers of 16 bits
unfoldable pub small : ℕ × ℕ → Bool
small p = ltb p.0 (256 ^ 2) && ltb p.1 (256 ^ 2)

small_held : (ps : List (ℕ × ℕ)) → every small ps ≡ true → AllHold pair_format ps
unfolding small
small_held [] e = tt
small_held (p ∷ ps) e =
    let here = every_first small p ps e in
    let one = ltb-true p.0 (256 ^ 2) (and_left (ltb p.0 (256 ^ 2)) (ltb p.1 (256 ^ 2)) here) in
    let two = ltb-true p.1 (256 ^ 2) (and_right (ltb p.0 (256 ^ 2)) (ltb p.1 (256 ^ 2)) here) in
    ((one, two), small_held ps (every_rest small p ps e))

same_refl : (ps : List (ℕ × ℕ)) → same_pairs ps ps ≡ true
same_refl [] = refl
same_refl (p ∷ ps) = rw (eq-eqb p.0 p.0 refl, eq-eqb p.1 p.1 refl, same_refl ps)

same_eq : (ps qs : List (ℕ × ℕ)) → same_pairs ps qs ≡ true → ps ≡ qs
same_eq [] [] e = refl
same_eq [] (q ∷ qs) e = cc
same_eq (p ∷ ps) [] e = cc
same_eq (p ∷ ps) (q ∷ qs) e =
    let here = and_left (eqb p.0 q.0 && eqb p.1 q.1) (same_pairs ps qs) e in
    let one = eqb-true p.0 q.0 (and_left (eqb p.0 q.0) (eqb p.1 q.1) here) in
    let two = eqb-true p.1 q.1 (and_right (eqb p.0 q.0) (eqb p.1 q.1) here) in
    let rest = same_eq ps qs (and_right (eqb p.0 q.0 && eqb p.1 q.1) (same_pairs ps qs) e) in
    λ i. (one i, two i) ∷ rest i

module _ (ps : List (ℕ × ℕ)) where
  -- bytes that begin with the pairs have them
  pub pairs_first : every small ps ≡ true → (r : List ℕ) → same_pairs (decs pair_format (length ps) (encs pair_format ps ++ r) 0) ps ≡ true
  pairs_first e r =
      ap (λ (qs : List (ℕ × ℕ)). same_pairs qs ps) ((pairs_lawful (length ps)).read_written ps (refl, small_held ps e) [] r) ∙ same_refl ps

  -- bytes that have them begin with them
  pub first_pairs : (s : List ℕ) → Bytes s → length ps * 4 ≤ length s → same_pairs (decs pair_format (length ps) s 0) ps ≡ true
      → take (length ps * 4) s ≡ encs pair_format ps
  first_pairs s b h e =
      sym ((pairs_lawful (length ps)).write_read s 0 b (valid (length ps) 0) (omega (arith, h)))
      ∙ ap (encs pair_format) (same_eq (decs pair_format (length ps) s 0) ps e)
    where
      valid : (n at : ℕ) → (times n pair_format).valid s at ≡ true
      valid zero at = refl
      valid (suc n) at = valid n (at + 4)
