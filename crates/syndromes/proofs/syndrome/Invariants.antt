use Rattle.std.proofs.Common.{◌≡◌}
use Rattle.patterns.specs.Patterns.{member, pattern}
use Rattle.patterns.proofs.Filled.{front}
use Rattle.syndromes.specs.Syndromes.{syndrome_of}
use Rattle.syndromes.proofs.syndrome.Given as goal

abbrev pub invariant-loop-u : goal.invariant-loop-u
invariant-loop-u g l =
    l.out ≡ pattern (g.C.Code.layout l.code).checks (front l.u (syndrome_of (g.C.Code.layout l.code) (member l.set)))
