-- What an iterator over the neighbours of a node of a code gives. Assumes nothing.
use Rattle.std.proofs.Common.{◌≡◌, ℕ, List, ap, Bor}
use Rattle.std.specs.Iterator.{YieldsFirst}
use Rattle.std.proofs.lemmas.Iterator.{YieldsList}
use Rattle.matrices.specs.declared.families.Neighbours.{Neighbours}
use Rattle.matrices.specs.Relations.{neighbours}
use Rattle.matrices.proofs.Walks.{rest, walks}
use Rattle.codes.specs.declared.families.Checks.{Checks}
use Rattle.codes.specs.declared.families.Generators.{Generators}
use Rattle.codes.specs.declared.families.ByCheck.{ByCheck}
use Rattle.codes.specs.declared.families.ByGenerator.{ByGenerator}
use Rattle.codes.specs.Layouts.{Layout}

-- For each family: the neighbours from the next one on, what they are at the start, and what the iterator gives. `lay` tells the layout of a code.
module _ {C : Type 0} (lay : C → Layout) where
  abbrev pub rest_checks : Neighbours (Checks C) → List ℕ
  rest_checks = rest (λ f. (lay f.code.now).checks) (λ f. (lay f.code.now).of_check)

  pub start_checks : (code : Bor C) (u : ℕ) {s : Neighbours (Checks C)} → s ≡ record { family = record { code = code }; node = u; next = 0 } → rest_checks s ≡ neighbours (lay code.now).checks (lay code.now).of_check u
  start_checks code u e = ap rest_checks e

  pub walk_checks : (code : Bor C) (u : ℕ) {s : Neighbours (Checks C)} → s ≡ record { family = record { code = code }; node = u; next = 0 } → YieldsList (YieldsFirst rest_checks) (λ x. x) s (neighbours (lay code.now).checks (lay code.now).of_check u)
  walk_checks code u e = walks (λ (f : Checks C). (lay f.code.now).checks) (λ f. (lay f.code.now).of_check) (record { code = code }) u e

  abbrev pub rest_generators : Neighbours (Generators C) → List ℕ
  rest_generators = rest (λ f. (lay f.code.now).generators) (λ f. (lay f.code.now).of_generator)

  pub start_generators : (code : Bor C) (u : ℕ) {s : Neighbours (Generators C)} → s ≡ record { family = record { code = code }; node = u; next = 0 } → rest_generators s ≡ neighbours (lay code.now).generators (lay code.now).of_generator u
  start_generators code u e = ap rest_generators e

  pub walk_generators : (code : Bor C) (u : ℕ) {s : Neighbours (Generators C)} → s ≡ record { family = record { code = code }; node = u; next = 0 } → YieldsList (YieldsFirst rest_generators) (λ x. x) s (neighbours (lay code.now).generators (lay code.now).of_generator u)
  walk_generators code u e = walks (λ (f : Generators C). (lay f.code.now).generators) (λ f. (lay f.code.now).of_generator) (record { code = code }) u e

  abbrev pub rest_by_check : Neighbours (ByCheck C) → List ℕ
  rest_by_check = rest (λ f. (lay f.code.now).qubits) (λ f. (lay f.code.now).checks_of)

  pub start_by_check : (code : Bor C) (u : ℕ) {s : Neighbours (ByCheck C)} → s ≡ record { family = record { code = code }; node = u; next = 0 } → rest_by_check s ≡ neighbours (lay code.now).qubits (lay code.now).checks_of u
  start_by_check code u e = ap rest_by_check e

  pub walk_by_check : (code : Bor C) (u : ℕ) {s : Neighbours (ByCheck C)} → s ≡ record { family = record { code = code }; node = u; next = 0 } → YieldsList (YieldsFirst rest_by_check) (λ x. x) s (neighbours (lay code.now).qubits (lay code.now).checks_of u)
  walk_by_check code u e = walks (λ (f : ByCheck C). (lay f.code.now).qubits) (λ f. (lay f.code.now).checks_of) (record { code = code }) u e

  abbrev pub rest_by_generator : Neighbours (ByGenerator C) → List ℕ
  rest_by_generator = rest (λ f. (lay f.code.now).qubits) (λ f. (lay f.code.now).generators_of)

  pub start_by_generator : (code : Bor C) (u : ℕ) {s : Neighbours (ByGenerator C)} → s ≡ record { family = record { code = code }; node = u; next = 0 } → rest_by_generator s ≡ neighbours (lay code.now).qubits (lay code.now).generators_of u
  start_by_generator code u e = ap rest_by_generator e

  pub walk_by_generator : (code : Bor C) (u : ℕ) {s : Neighbours (ByGenerator C)} → s ≡ record { family = record { code = code }; node = u; next = 0 } → YieldsList (YieldsFirst rest_by_generator) (λ x. x) s (neighbours (lay code.now).qubits (lay code.now).generators_of u)
  walk_by_generator code u e = walks (λ (f : ByGenerator C). (lay f.code.now).qubits) (λ f. (lay f.code.now).generators_of) (record { code = code }) u e
