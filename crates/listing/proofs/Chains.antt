-- Blocks that were read one after the other, and one more.
use Rattle.base.proofs.Prelude.{◌≡◌, refl, sym, ap, ◌∙◌, true, List, [], ◌∷◌, ◌++◌, ℕ, ◌≤◌, length}
use Rattle.listing.specs.declared.{Progress.Progress}
use Rattle.listing.specs.Listing.{after_block, after_blocks, Blocks}
use Rattle.listing.specs.Laws.{BlockRead}

blocks_snoc : (p : Progress) (ss : List (List ℕ)) (s : List ℕ) → Blocks p ss → (after_blocks p ss).more ≡ true → length s ≤ 4095
    → Blocks p (ss ++ (s ∷ []))
unfolding Blocks after_blocks
blocks_snoc p [] s h e fits = (e, (fits, tt))
blocks_snoc p (t ∷ ss) s h e fits = (h.0, (h.1.0, blocks_snoc (after_block p t) ss s h.1.1 e fits))

after_snoc : (p : Progress) (ss : List (List ℕ)) (s : List ℕ) → after_blocks p (ss ++ (s ∷ [])) ≡ after_block (after_blocks p ss) s
unfolding after_blocks
after_snoc p [] s = refl
after_snoc p (t ∷ ss) s = after_snoc (after_block p t) ss s

-- some blocks have led from a progress to another
abbrev pub Led : Progress → Progress → Type 0
Led before p = (blocks : List (List ℕ)) × (Blocks before blocks × (p ≡ after_blocks before blocks))

pub led_nowhere : (p : Progress) → Led p p
unfolding Blocks after_blocks
led_nowhere p = ([], (tt, refl))

pub led_on : (before : Progress) {p q : Progress} → Led before p → p.more ≡ true → BlockRead p q → Led before q
led_on before led more read =
    let ss = led.0 in
    let s = read.block in
    let on : (after_blocks before ss).more ≡ true = sym (ap (λ (p : Progress). p.more) led.1.1) ∙ more in (
      ss ++ (s ∷ []),
      (
        blocks_snoc before ss s led.1.0 on read.fits,
        read.progress ∙ ap (λ (p : Progress). after_block p s) led.1.1 ∙ sym (after_snoc before ss s),
      ),
    )
