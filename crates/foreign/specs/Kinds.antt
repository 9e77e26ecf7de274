-- Kinds of codes by their numbers, which are letters. Assumes nothing.
use Rattle.std.specs.Prelude.{ℕ, cond, Some, None, Option, ◌==◌}
use Rattle.foreign.specs.declared.kinds.Kind.{Kind}
use Rattle.foreign.specs.declared.kinds.Kind.TheVariants.{File, Cyclic, Written}
use Rattle.foreign.specs.declared.kinds.Shape.TheVariants.{Product, Exchanged, ExchangedTwice, Bare, BareExchanged, TurnedProduct}

-- P, E, X, B, e and T are codes of a graph file's graph, C is the product of a cyclic graph, W a code that is written out
abbrev pub kind_of : ℕ → Option Kind
kind_of n =
    cond (n == 80) (Some (File Product))
    (cond (n == 69) (Some (File Exchanged))
    (cond (n == 88) (Some (File ExchangedTwice))
    (cond (n == 66) (Some (File Bare))
    (cond (n == 101) (Some (File BareExchanged))
    (cond (n == 84) (Some (File TurnedProduct))
    (cond (n == 67) (Some Cyclic)
    (cond (n == 87) (Some Written) None)))))))
