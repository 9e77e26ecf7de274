-- Worked examples: small graphs, their product codes and jobs on them, each with what comes out. Assumes nothing.
use Rattle.std.specs.Prelude.{◌≡◌, ℕ, List, [], ◌∷◌, map, replicate, None, Ok, Option, Result}
use Rattle.std.specs.List.{range_with_len, AllByRecursion}
use Rattle.refusals.specs.declared.Refusal.{Refusal}
use Rattle.refusals.specs.Questions.{first_no, answer, where_accepted}
use Rattle.patterns.specs.Sets.{Set, ◌⊕◌, members, has}
use Rattle.patterns.specs.Patterns.{width, member}
use Rattle.graphs.specs.Tanners.{Tanner}
use Rattle.graphs.specs.Cycles.{cyclic}
use Rattle.graph_files.specs.Files.{file_of, graph_refusal, graph_in}
use Rattle.graph_files.specs.Listed.{listed_graph}
use Rattle.codes.specs.Layouts.{Layout}
use Rattle.products.specs.Products.{product_of}
use Rattle.syndromes.specs.Syndromes.{syndrome_questions, syndrome_pattern}
use Rattle.verdicts.specs.declared.Verdict.{Verdict}
use Rattle.verdicts.specs.declared.Verdict.TheVariants.{Contradicted, Settled, Matched, Stalled}
use Rattle.moves.specs.Jobs.{Model, Outcome, open_of}
use Rattle.jobs.specs.Moving.{Move, peel, prune, flip}
use Rattle.jobs.specs.Runs.{run_moves}
use Rattle.jobs.specs.Calls.{Call, move, run, ask, Answer, peeled, pruned, ran, told, after, answers}

-- ---- kinds of examples

-- what a job is opened with: a code, and the patterns of a syndrome and of an erasure
pub record Task : Type 0 where
  pub code : Layout
  pub syndrome : List ℕ
  pub erasure : List ℕ

-- what an example asks for
pub data Asked : Type 0 where
  -- the file of a graph
  file_for : Tanner → Asked
  -- the graph of a file
  graph_from : List ℕ → Asked
  -- the qubits of a check
  check : Layout → ℕ → Asked
  -- the qubits of a generator
  generator : Layout → ℕ → Asked
  -- the syndrome of the set of qubits that has this pattern
  syndrome : Layout → List ℕ → Asked
  -- the moves that a run makes
  moves_on : Task → Asked
  -- what calls answer, and what they leave
  calls_on : Task → List Call → Asked
  -- the qubits in which the corrections differ that two lists of calls leave
  difference : Task → List Call → List Call → Asked

-- what comes out
pub data Found : Type 0 where
  -- the bytes of a file
  file : List ℕ → Found
  -- the refusal, if any, the variables of each check, and the checks of each variable
  graph : Option Refusal → List (List ℕ) → List (List ℕ) → Found
  -- a set of qubits, in rising order
  qubits : List ℕ → Found
  -- the answer, and the pattern that was filled
  filled : Result (Unit {0}) Refusal → List ℕ → Found
  -- moves, one after another
  in_turn : List Move → Found
  -- the answer to the opening, those to the calls, and the job after them
  job : Result (Unit {0}) Refusal → List Answer → Model → Found

-- ---- what comes out, by the definitions that the calls are proved against

-- the bytes of n items with all bits set, for calls to write over
abbrev pub ones_for : ℕ → List ℕ
ones_for n = replicate (width n) 0xFF

-- a job with other content, to be opened anew
abbrev pub used : Layout → Model
used c = record { remaining = ones_for c.checks; opened = ones_for c.qubits; correction = ones_for c.qubits; moves = 7 }

-- the opening of a task: its answer and the job
abbrev pub opened_with : Task → Outcome (Unit {0})
opened_with t = open_of t.code (used t.code) t.syndrome t.erasure

-- the job after calls on a task
abbrev pub job_after : Task → List Call → Model
job_after t ks = after t.code (opened_with t).1 ks

-- the members of a set of qubits
abbrev pub qubits_in : Layout → Set → Found
qubits_in c s = qubits (members c.qubits s)

-- the qubits that are in just one of two patterns
abbrev pub in_one : List ℕ → List ℕ → Set
in_one p q v = member p v ⊕ member q v

-- a graph by the neighbours of each of its nodes
abbrev pub graph_told : Option Refusal → Tanner → Found
graph_told r t = graph r (map t.of_check (range_with_len 0 t.checks)) (map t.of_variable (range_with_len 0 t.variables))

-- a syndrome that is filled in over other bytes, unless it is refused
abbrev pub syndrome_filled : Layout → List ℕ → Option Refusal → Found
syndrome_filled c set r = filled (answer r) (where_accepted r (syndrome_pattern c set) (ones_for c.checks))

-- what comes out of each kind
abbrev pub outcome : Asked → Found
outcome (file_for t) = file (file_of t)
outcome (graph_from f) = graph_told (graph_refusal f) (graph_in f)
outcome (check c u) = qubits_in c (has (c.of_check u))
outcome (generator c g) = qubits_in c (has (c.of_generator g))
outcome (syndrome c set) = syndrome_filled c set (first_no (syndrome_questions c set (ones_for c.checks)))
outcome (moves_on t) = in_turn (run_moves t.code (opened_with t).1)
outcome (calls_on t ks) = job (opened_with t).0 (answers t.code (opened_with t).1 ks) (job_after t ks)
outcome (difference t ks ls) = qubits_in t.code (in_one (job_after t ks).correction (job_after t ls).correction)

-- ---- graphs, codes and tasks

-- three variables and two checks: check 0 is {0, 1} and check 1 is {1, 2}
abbrev pub path : Tanner
path = listed_graph ((0 ∷ 1 ∷ []) ∷ (1 ∷ 2 ∷ []) ∷ []) ((0 ∷ []) ∷ (0 ∷ 1 ∷ []) ∷ (1 ∷ []) ∷ [])

-- its file
abbrev pub path_file : List ℕ
path_file = 0x54 ∷ 0x41 ∷ 0x4E ∷ 0x00 ∷ 0x01 ∷ 0x00 ∷ 0x03 ∷ 0x00 ∷ 0x02 ∷ 0x03 ∷ 0x06 ∷ []

-- the product of the graph that is read from the file: 13 qubits, 6 checks, 6 generators
abbrev pub path_product : Layout
path_product = product_of (graph_in path_file) (graph_in path_file)

-- the product of the cyclic graph of three variables with the shifts 0 and 1: 18 qubits, 9 checks, 9 generators
abbrev pub ring_product : Layout
ring_product = product_of (cyclic 3 (0 ∷ 1 ∷ [])) (cyclic 3 (0 ∷ 1 ∷ []))

-- the syndrome {0, 2} and the erasure {0, 3, 9}
abbrev pub one_generator : Task
one_generator = record { code = path_product; syndrome = 0x05 ∷ []; erasure = 0x09 ∷ 0x02 ∷ [] }

-- the syndrome {1} and the erasure {0}
abbrev pub unreached : Task
unreached = record { code = path_product; syndrome = 0x02 ∷ []; erasure = 0x01 ∷ 0x00 ∷ [] }

-- the syndrome {0, 1} and the erasure {0, 1, 2}
abbrev pub one_row : Task
one_row = record { code = path_product; syndrome = 0x03 ∷ []; erasure = 0x07 ∷ 0x00 ∷ [] }

-- the syndrome {0} and the erasure {0, 1, 2}, over the other product
abbrev pub one_ring : Task
one_ring = record { code = ring_product; syndrome = 0x01 ∷ 0x00 ∷ []; erasure = 0x07 ∷ 0x00 ∷ 0x00 ∷ [] }

-- the empty syndrome and the empty erasure
abbrev pub nothing : Task
nothing = record { code = path_product; syndrome = 0x00 ∷ []; erasure = 0x00 ∷ 0x00 ∷ [] }

-- generator 0 pruned at qubit 9, the peels of checks 0 and 2, and the question for the verdict
abbrev pub pruned_at_9 : List Call
pruned_at_9 = move (prune 0 9) ∷ move (peel 0) ∷ move (peel 2) ∷ ask ∷ []

-- ---- the examples

-- the answers of a run: how many peels, prunes and flips it made, and its verdict
abbrev pub ran_with : ℕ → ℕ → ℕ → Verdict → List Answer
ran_with peels prunes flips verdict = ran (record { peels = peels; prunes = prunes; flips = flips; verdict = verdict }) ∷ []

-- a job by its remaining syndrome, its open set, its correction and its count of moves
abbrev pub leaving : List ℕ → List ℕ → List ℕ → ℕ → Model
leaving remaining opened correction moves = record { remaining = remaining; opened = opened; correction = correction; moves = moves }

-- what is asked, and what is said to come out
infixl 20 ◌gives◌
pub data Example : Type 0 where
  ◌gives◌ : Asked → Found → Example

-- all examples
abbrev pub examples : List Example
examples =
    -- the graph is written as its file, and read from it
    (file_for path gives file path_file)
    ∷ (graph_from path_file gives graph None ((0 ∷ 1 ∷ []) ∷ (1 ∷ 2 ∷ []) ∷ []) ((0 ∷ []) ∷ (0 ∷ 1 ∷ []) ∷ (1 ∷ []) ∷ []))
    -- a check and a generator of its product
    ∷ (check path_product 2 gives qubits (3 ∷ 4 ∷ 9 ∷ 11 ∷ []))
    ∷ (generator path_product 1 gives qubits (1 ∷ 4 ∷ 9 ∷ 10 ∷ []))
    -- the set {9} has the syndrome {0, 2}
    ∷ (syndrome path_product (0x00 ∷ 0x02 ∷ []) gives filled (Ok tt) (0x05 ∷ []))
    -- a run prunes generator 0 at qubit 0, peels checks 0 and 2, and is settled with {9}
    ∷ (moves_on one_generator gives in_turn (prune 0 0 ∷ peel 0 ∷ peel 2 ∷ []))
    ∷ (calls_on one_generator (run ∷ []) gives job (Ok tt) (ran_with 2 1 0 Settled) (leaving (0x00 ∷ []) (0x00 ∷ 0x00 ∷ []) (0x00 ∷ 0x02 ∷ []) 3))
    -- pruned at qubit 9 instead, it is settled with {0, 3}
    ∷ (calls_on one_generator pruned_at_9 gives job (Ok tt) (pruned ∷ peeled 0 1 ∷ peeled 3 1 ∷ told Settled ∷ []) (leaving (0x00 ∷ []) (0x00 ∷ 0x00 ∷ []) (0x09 ∷ 0x00 ∷ []) 3))
    -- the two corrections differ by generator 0
    ∷ (difference one_generator (run ∷ []) pruned_at_9 gives qubits (path_product.of_generator 0))
    -- no qubit of check 1 is open, so the job is contradicted
    ∷ (calls_on unreached (ask ∷ []) gives job (Ok tt) (told Contradicted ∷ []) (leaving (0x02 ∷ []) (0x01 ∷ 0x00 ∷ []) (0x00 ∷ 0x00 ∷ []) 0))
    -- a run flips generator 0 and then 2, and is matched with {0, 2}
    ∷ (moves_on one_row gives in_turn (flip 0 ∷ flip 2 ∷ []))
    ∷ (calls_on one_row (run ∷ []) gives job (Ok tt) (ran_with 0 0 2 Matched) (leaving (0x00 ∷ []) (0x07 ∷ 0x00 ∷ []) (0x05 ∷ 0x00 ∷ []) 2))
    -- over the other product a run makes no move, and is stalled
    ∷ (moves_on one_ring gives in_turn [])
    ∷ (calls_on one_ring (run ∷ []) gives job (Ok tt) (ran_with 0 0 0 Stalled) (leaving (0x01 ∷ 0x00 ∷ []) (0x07 ∷ 0x00 ∷ 0x00 ∷ []) (0x00 ∷ 0x00 ∷ 0x00 ∷ []) 0))
    -- with nothing to explain and nothing open, the job is settled as it is opened
    ∷ (calls_on nothing (ask ∷ []) gives job (Ok tt) (told Settled ∷ []) (leaving (0x00 ∷ []) (0x00 ∷ 0x00 ∷ []) (0x00 ∷ 0x00 ∷ []) 0))
    ∷ []

-- what is said to come out does come out
abbrev pub Holds : Example → Type 0
Holds (a gives f) = outcome a ≡ f

-- each of the examples holds
unfoldable pub AllHold : Type 0
AllHold = AllByRecursion Holds examples
