-- Codes that are told by a kind and bytes. Assumes nothing.
use Rattle.std.specs.Prelude.{ℕ, ◌*◌, cond, List, [], ◌∷◌, length, take, drop, Some, None, Option, nat_le}
use Rattle.refusals.specs.declared.Refusal.{Refusal}
use Rattle.patterns.specs.Patterns.{width}
use Rattle.graphs.specs.Tanners.{Tanner}
use Rattle.graphs.specs.Cycles.{cyclic_refusal, cyclic}
use Rattle.graphs.specs.Turning.{turned}
use Rattle.graph_files.specs.Files.{word, graph_refusal, graph_in}
use Rattle.codes.specs.Layouts.{Layout}
use Rattle.codes.specs.Exchanging.{exchanged}
use Rattle.codes.specs.Baring.{bare}
use Rattle.products.specs.Products.{product_of}
use Rattle.written_codes.specs.Writing.{written_refusal, written_code}
use Rattle.foreign.specs.declared.kinds.Kind.{Kind}
use Rattle.foreign.specs.declared.kinds.Kind.TheVariants.{File, Cyclic, Written}
use Rattle.foreign.specs.declared.kinds.Shape.{Shape}
use Rattle.foreign.specs.declared.kinds.Shape.TheVariants.{Product, Exchanged, ExchangedTwice, Bare, BareExchanged, TurnedProduct}
use Rattle.foreign.specs.Kinds.{kind_of}

-- what is made where no question is answered no
abbrev pub unless_refused : Option Refusal → Layout → Option Layout
unless_refused None c = Some c
unless_refused (Some e) c = None

-- the code of a graph
abbrev pub shaped : Shape → Tanner → Layout
shaped Product t = product_of t t
shaped Exchanged t = exchanged (product_of t t)
shaped ExchangedTwice t = exchanged (exchanged (product_of t t))
shaped Bare t = bare t
shaped BareExchanged t = exchanged (bare t)
shaped TurnedProduct t = product_of (turned t) (turned t)

-- the code of the graph that a file tells
abbrev pub file_code : Shape → List ℕ → Option Layout
file_code s file = unless_refused (graph_refusal file) (shaped s (graph_in file))

-- the product of a cyclic graph
abbrev pub shifts_code : ℕ → List ℕ → Option Layout
shifts_code n shifts = unless_refused (cyclic_refusal n shifts) (product_of (cyclic n shifts) (cyclic n shifts))

-- the bytes are its count of variables, and then its shifts
abbrev pub cyclic_code : List ℕ → Option Layout
cyclic_code [] = None
cyclic_code (n ∷ shifts) = shifts_code n shifts

-- the code of m checks and k generators over n qubits
abbrev pub rows_code : ℕ → ℕ → ℕ → List ℕ → List ℕ → Option Layout
rows_code n m k checks generators = unless_refused (written_refusal n m k checks generators) (written_code n m k checks generators)

-- the rows of the checks, and after them those of the generators
abbrev pub split_code : ℕ → ℕ → ℕ → List ℕ → Option Layout
split_code n m k rows = cond (nat_le (m * width n) (length rows)) (rows_code n m k (take (m * width n) rows) (drop (m * width n) rows)) None

-- a code that is written out: the counts of qubits, checks and generators, in two bytes each, and then the rows
abbrev pub written_told : List ℕ → Option Layout
written_told bytes = cond (nat_le 6 (length bytes)) (split_code (word bytes 0) (word bytes 2) (word bytes 4) (drop 6 bytes)) None

abbrev pub kind_code : Kind → List ℕ → Option Layout
kind_code (File s) bytes = file_code s bytes
kind_code Cyclic bytes = cyclic_code bytes
kind_code Written bytes = written_told bytes

abbrev pub told_by : Option Kind → List ℕ → Option Layout
told_by None bytes = None
told_by (Some k) bytes = kind_code k bytes

-- the code that a kind's number and bytes tell
unfoldable pub told_code : ℕ → List ℕ → Option Layout
told_code n bytes = told_by (kind_of n) bytes
