-- Laws of addition of two values. Assumes nothing.
use Rattle.std.proofs.Common.{◌≡◌, Bool, false, ◌&&◌, arith}
use Rattle.std.proofs.lemmas.Grind.{common_steps}
use Rattle.patterns.specs.Sets.{◌⊕◌}

pub plus_zero : (a : Bool) → (a ⊕ false) ≡ a
plus_zero a = grind (arith, common_steps)

pub plus_self : (a : Bool) → (a ⊕ a) ≡ false
plus_self a = grind (arith, common_steps)

pub plus_comm : (a b : Bool) → (a ⊕ b) ≡ (b ⊕ a)
plus_comm a b = grind (arith, common_steps)

pub plus_assoc : (a b c : Bool) → ((a ⊕ b) ⊕ c) ≡ (a ⊕ (b ⊕ c))
plus_assoc a b c = grind (arith, common_steps)

pub plus_cross : (a b c d : Bool) → ((a ⊕ b) ⊕ (c ⊕ d)) ≡ ((a ⊕ c) ⊕ (b ⊕ d))
plus_cross a b c d = grind (arith, common_steps)

pub and_plus : (b x y : Bool) → (b && (x ⊕ y)) ≡ ((b && x) ⊕ (b && y))
and_plus b x y = grind (arith, common_steps)
