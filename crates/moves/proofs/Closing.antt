-- Closing one open qubit. Assumes nothing.
use Rattle.std.proofs.Common.{◌≡◌, ℕ, ◌<◌, true, ◌&&◌, eqb, sym, ap, ◌∙◌, ap₂, ⊎_elim}
use Rattle.std.proofs.lemmas.Bool.{cases_Bool, eqb-true}
use Rattle.patterns.specs.Patterns.{member, fitting, toggled}
use Rattle.patterns.proofs.Added.{added_same}
use Rattle.patterns.proofs.Toggled.{toggled_is}
use Rattle.codes.specs.Layouts.{Layout}
use Rattle.moves.specs.Jobs.{Model, closed}

-- an open qubit that changes is closed
pub closed_is : (c : Layout) (m : Model) (v : ℕ) → fitting c.qubits m.opened ≡ true → v < c.qubits → member m.opened v ≡ true → toggled m.opened v ≡ (closed c m v).opened
closed_is c m v long below on =
    toggled_is c.qubits m.opened v long below
    ∙ added_same c.qubits m.opened (eqb v) (λ w. eqb v w && member m.opened w)
    (λ w _. ⊎_elim (λ e. e ∙ sym (ap₂ ◌&&◌ e (ap (member m.opened) (sym (eqb-true v w e)) ∙ on))) (λ e. e ∙ sym (ap (λ b. b && member m.opened w) e)) (cases_Bool (eqb v w)))
