-- A pattern that is filled item by item, in rising order. Assumes nothing.
use Rattle.std.proofs.Common.{◌≡◌, ℕ, ◌+◌, ◌<◌, true, false, ◌&&◌, eqb, ltb, List, replicate, sym, refl, ap, ◌∙◌, arith}
use Rattle.std.proofs.lemmas.Grind.{common_steps}
use Rattle.patterns.specs.Sets.{Set, ◌⊕◌}
use Rattle.patterns.specs.Patterns.{width, pattern, toggled, added}
use Rattle.patterns.proofs.Packed.{pattern_same, pattern_well}
use Rattle.patterns.proofs.Added.{added_added, added_none, added_to_none}
use Rattle.patterns.proofs.Toggled.{toggled_is}

-- the items of s below u
abbrev pub front : ℕ → Set → Set
front u s k = ltb k u && s k

pub filled_none : (c : ℕ) (s : Set) → replicate (width c) 0 ≡ pattern c (front 0 s)
filled_none c s = added_none c (replicate (width c) 0) (front 0 s) (λ k. grind (arith, common_steps)) ∙ added_to_none c (front 0 s)

-- cleared bytes are the empty set
pub filled_nothing : (c : ℕ) → replicate (width c) 0 ≡ pattern c (λ _. false)
filled_nothing c = added_none c (replicate (width c) 0) (λ _. false) (λ k. refl) ∙ added_to_none c (λ _. false)

front_more : (u k : ℕ) (s : Set) → s u ≡ true → (front u s k ⊕ eqb u k) ≡ front (u + 1) s k
front_more u k s on = grind (arith, common_steps)

front_skip : (u k : ℕ) (s : Set) → s u ≡ false → front u s k ≡ front (u + 1) s k
front_skip u k s off = grind (arith, common_steps)

-- one item more, which is in the set
pub filled_more : (c u : ℕ) (s : Set) (p : List ℕ) → u < c → s u ≡ true → p ≡ pattern c (front u s) → toggled p u ≡ pattern c (front (u + 1) s)
filled_more c u s p h on e =
    ap (λ q. toggled q u) e
    ∙ toggled_is c (pattern c (front u s)) u (pattern_well c (front u s)).long h
    ∙ ap (λ q. added c q (eqb u)) (sym (added_to_none c (front u s)))
    ∙ added_added c (replicate (width c) 0) (front u s) (eqb u)
    ∙ added_to_none c (λ k. front u s k ⊕ eqb u k)
    ∙ pattern_same c (λ k. front u s k ⊕ eqb u k) (front (u + 1) s) (λ k _. front_more u k s on)

-- one that is not
pub filled_skip : (c u : ℕ) (s : Set) (p : List ℕ) → s u ≡ false → p ≡ pattern c (front u s) → p ≡ pattern c (front (u + 1) s)
filled_skip c u s p off e = e ∙ pattern_same c (front u s) (front (u + 1) s) (λ k _. front_skip u k s off)

pub filled_all : (c u : ℕ) (s : Set) (p : List ℕ) → u ≡ c → p ≡ pattern c (front u s) → p ≡ pattern c s
filled_all c u s p all e = e ∙ pattern_same c (front u s) s (λ k h. grind (arith, common_steps))
