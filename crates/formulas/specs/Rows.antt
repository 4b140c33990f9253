-- Document 01's "Formulas to try" that are to be proved (marked ◆ there), as rows of one list: what a lift answers and leaves in its
-- buffers, and the truth values that the document gives.
-- Assumes nothing.
use Rattle.std.specs.Prelude.{Bool, true, false, List, [], ◌∷◌, ◌++◌, map, ℕ, take, replicate}
use Rattle.lists.specs.Members.{mem}
use Rattle.lists.specs.Parts.{overwrite}
use Rattle.formula.specs.Words.{width, table_of}
use Rattle.formula.specs.Valuation.{Valuation}
use Rattle.formula.specs.Truth.{truth}
use Rattle.refusals.specs.Outcome.{AnswerWith, Outcome}
use Rattle.prenex_form.specs.declared.Sizes.{Sizes}
use Rattle.prenex.specs.Outcome.{FormBuffers, buffers, lifted}

-- the valuation under which just these variables are true
unfoldable pub holding : List ℕ → Valuation
holding xs x = mem x xs

-- a truth value that document 01 gives
pub record Truth : Type 0 where
  pub true_variables : List ℕ
  pub is : Bool

-- A row: a table, the words of room for its nodes, and what a lift of it answers and writes.
pub record Row : Type 0 where
  pub words : List ℕ
  pub list : List ℕ
  pub room : ℕ
  pub answer : List ℕ
  pub nodes : List ℕ
  pub prefix : List ℕ
  pub variables : List ℕ
  pub truths : List Truth

-- "Nodes are given as kind and fields, unused zeros left out."
unfoldable pub nodes_of : List (List ℕ) → List ℕ
nodes_of [] = []
nodes_of (given ∷ rest) = take width (given ++ replicate width 0) ++ nodes_of rest

-- a buffer before the call, and prefix and list buffers that are ample
unfoldable pub filled : ℕ → List ℕ
filled n = replicate n 7

abbrev pub ample : ℕ
ample = 16

-- An answer as words: number, position, two users (request S-2), and the sizes in document 01's order.
unfoldable pub answer_words : AnswerWith Sizes → List ℕ
answer_words a =
    let v = a.verdict in
    let s = a.sizes in
    v.number ∷ v.position ∷ v.users.first ∷ v.users.second ∷ s.n ∷ s.b ∷ s.q ∷ s.depth ∷ s.nodes ∷ s.blocks ∷ s.entries ∷ []

-- what a lift leaves: the answer's words and the three buffers
unfoldable pub left : Outcome Sizes FormBuffers → List (List ℕ)
left o = answer_words o.answer ∷ o.buffers.nodes ∷ o.buffers.prefix ∷ o.buffers.variables ∷ []

unfoldable pub leaves : Row → List (List ℕ)
leaves r = left (lifted r.words r.list (buffers (filled r.room) (filled ample) (filled ample)))

-- what it should leave: the row's words at the buffers' starts, the rest as it was
unfoldable pub should_leave : Row → List (List ℕ)
should_leave r =
    r.answer
    ∷ overwrite (filled r.room) 0 r.nodes
    ∷ overwrite (filled ample) 0 r.prefix
    ∷ overwrite (filled ample) 0 r.variables
    ∷ []

-- the truth values of the row's table, and what they should be
unfoldable pub truths : Row → List Bool
truths r = map (λ (h : Truth). truth (table_of r.words r.list) (holding h.true_variables)) r.truths

unfoldable pub should_be : Row → List Bool
should_be r = map (λ (h : Truth). h.is) r.truths

-- a refused row, by number, position and two users: every buffer stays as it is, and all sizes are 0
unfoldable pub refused_row : List ℕ → List ℕ → ℕ → List ℕ → Row
refused_row words list room verdict =
    record {
      words = words;
      list = list;
      room = room;
      answer = verdict ++ (0 ∷ 0 ∷ 0 ∷ 0 ∷ 0 ∷ 0 ∷ 0 ∷ []);
      nodes = [];
      prefix = [];
      variables = [];
      truths = [];
    }

unfoldable pub done_row : List ℕ → List ℕ → ℕ → List ℕ → List ℕ → List ℕ → List ℕ → List Truth → Row
done_row words list room sizes nodes prefix variables truths =
    record {
      words = words;
      list = list;
      room = room;
      answer = 0 ∷ 0 ∷ 0 ∷ 0 ∷ sizes;
      nodes = nodes;
      prefix = prefix;
      variables = variables;
      truths = truths;
    }

-- "`2 1`, `2 2`, `2 1`, `4 8 1 2`, `5 0 1 3`, `4 6 0 4`, list 2"
unfoldable pub below_xor : List ℕ
below_xor = nodes_of ((2 ∷ 1 ∷ []) ∷ (2 ∷ 2 ∷ []) ∷ (2 ∷ 1 ∷ []) ∷ (4 ∷ 8 ∷ 1 ∷ 2 ∷ []) ∷ (5 ∷ 0 ∷ 1 ∷ 3 ∷ []) ∷ (4 ∷ 6 ∷ 0 ∷ 4 ∷ []) ∷ [])

-- "fifteen nodes `2 1`, `2 3`, `2 1`, `4 8 1 2`, `2 5`, `4 6 0 4`, `2 5`, `4 9 6 3`, `2 3`, `2 4`, `4 9 8 9`, `2 5`, `4 14 11 10`,
-- `4 8 7 12`, `4 8 5 13`; prefix `6 0 1`, `5 1 2`; list 4, 3, 5. False under both settings of variable 1."
unfoldable pub below_xor_row : ℕ → Row
below_xor_row room =
    done_row below_xor (2 ∷ []) room (6 ∷ 1 ∷ 1 ∷ 1 ∷ 15 ∷ 2 ∷ 3 ∷ [])
    (nodes_of
    ((2 ∷ 1 ∷ []) ∷ (2 ∷ 3 ∷ []) ∷ (2 ∷ 1 ∷ []) ∷ (4 ∷ 8 ∷ 1 ∷ 2 ∷ []) ∷ (2 ∷ 5 ∷ []) ∷ (4 ∷ 6 ∷ 0 ∷ 4 ∷ []) ∷ (2 ∷ 5 ∷ [])
    ∷ (4 ∷ 9 ∷ 6 ∷ 3 ∷ []) ∷ (2 ∷ 3 ∷ []) ∷ (2 ∷ 4 ∷ []) ∷ (4 ∷ 9 ∷ 8 ∷ 9 ∷ []) ∷ (2 ∷ 5 ∷ []) ∷ (4 ∷ 14 ∷ 11 ∷ 10 ∷ [])
    ∷ (4 ∷ 8 ∷ 7 ∷ 12 ∷ []) ∷ (4 ∷ 8 ∷ 5 ∷ 13 ∷ []) ∷ []))
    (6 ∷ 0 ∷ 1 ∷ 5 ∷ 1 ∷ 2 ∷ []) (4 ∷ 3 ∷ 5 ∷ [])
    (record { true_variables = []; is = false } ∷ record { true_variables = 1 ∷ []; is = false } ∷ [])

unfoldable pub examples : List Row
examples =
    -- "No words: 1. Five words: 1."
    refused_row [] [] 8 (1 ∷ 0 ∷ 0 ∷ 0 ∷ [])
    ∷ refused_row (1 ∷ 1 ∷ 0 ∷ 0 ∷ 1 ∷ []) [] 8 (1 ∷ 0 ∷ 0 ∷ 0 ∷ [])
    -- "`1 1`: written alike, no blocks."
    ∷ done_row (nodes_of ((1 ∷ 1 ∷ []) ∷ [])) [] 8 (1 ∷ 0 ∷ 0 ∷ 0 ∷ 1 ∷ 0 ∷ 0 ∷ []) (nodes_of ((1 ∷ 1 ∷ []) ∷ [])) [] []
    (record { true_variables = []; is = true } ∷ [])
    -- "`1 0`, `5 0 0 0`, empty list" and "`1 1`, `5 0 0 0`, `3 1`": two of "document 01's three formulas with empty blocks", which
    -- "become refusals" by request S-6, 16 at node 1.
    ∷ refused_row (nodes_of ((1 ∷ 0 ∷ []) ∷ (5 ∷ 0 ∷ 0 ∷ 0 ∷ []) ∷ [])) [] 8 (16 ∷ 1 ∷ 0 ∷ 0 ∷ [])
    ∷ refused_row (nodes_of ((1 ∷ 1 ∷ []) ∷ (5 ∷ 0 ∷ 0 ∷ 0 ∷ []) ∷ (3 ∷ 1 ∷ []) ∷ [])) [] 8 (16 ∷ 1 ∷ 0 ∷ 0 ∷ [])
    -- fifteen nodes, with ample room; "with ample prefix and list buffers and 59 words of room for nodes: 9. With 60: done."
    ∷ below_xor_row 64
    ∷ refused_row below_xor (2 ∷ []) 59 (9 ∷ 0 ∷ 0 ∷ 0 ∷ [])
    ∷ below_xor_row 60
    -- "`2 1`, `2 1`, `6 0 1 1`, `4 8 0 2`, `5 0 1 3`, list 1: thirteen nodes `2 3`, `2 2`, `2 5`, `4 8 0 2`, `2 5`, `4 9 4 1`, `2 2`, `2 4`,
    -- `4 9 6 7`, `2 5`, `4 11 9 8`, `4 8 5 10`, `4 11 11 3`; prefix `5 0 2`, `6 2 2`; list 3, 4, 2, 5. False."
    ∷ done_row (nodes_of ((2 ∷ 1 ∷ []) ∷ (2 ∷ 1 ∷ []) ∷ (6 ∷ 0 ∷ 1 ∷ 1 ∷ []) ∷ (4 ∷ 8 ∷ 0 ∷ 2 ∷ []) ∷ (5 ∷ 0 ∷ 1 ∷ 3 ∷ []) ∷ [])) (1 ∷ []) 53
    (5 ∷ 2 ∷ 2 ∷ 2 ∷ 13 ∷ 2 ∷ 4 ∷ [])
    (nodes_of
    ((2 ∷ 3 ∷ []) ∷ (2 ∷ 2 ∷ []) ∷ (2 ∷ 5 ∷ []) ∷ (4 ∷ 8 ∷ 0 ∷ 2 ∷ []) ∷ (2 ∷ 5 ∷ []) ∷ (4 ∷ 9 ∷ 4 ∷ 1 ∷ []) ∷ (2 ∷ 2 ∷ []) ∷ (2 ∷ 4 ∷ [])
    ∷ (4 ∷ 9 ∷ 6 ∷ 7 ∷ []) ∷ (2 ∷ 5 ∷ []) ∷ (4 ∷ 11 ∷ 9 ∷ 8 ∷ []) ∷ (4 ∷ 8 ∷ 5 ∷ 10 ∷ []) ∷ (4 ∷ 11 ∷ 11 ∷ 3 ∷ []) ∷ []))
    (5 ∷ 0 ∷ 2 ∷ 6 ∷ 2 ∷ 2 ∷ []) (3 ∷ 4 ∷ 2 ∷ 5 ∷ [])
    (record { true_variables = []; is = false } ∷ [])
    -- "`2 1`, `4 9 0 0`: 8 at 0", and node 1 names node 0 twice
    ∷ refused_row (nodes_of ((2 ∷ 1 ∷ []) ∷ (4 ∷ 9 ∷ 0 ∷ 0 ∷ []) ∷ [])) [] 8 (8 ∷ 0 ∷ 1 ∷ 1 ∷ [])
    -- "`2 0`, `3 1`: 3 at 0, though node 1 names itself."
    ∷ refused_row (nodes_of ((2 ∷ 0 ∷ []) ∷ (3 ∷ 1 ∷ []) ∷ [])) [] 8 (3 ∷ 0 ∷ 0 ∷ 0 ∷ [])
    -- "`2 1`, `5 1 1 0`, list of one: 5 at 1. With `5 1 0 0`": the third formula with an empty block, so 16 at 1 by request S-6.
    ∷ refused_row (nodes_of ((2 ∷ 1 ∷ []) ∷ (5 ∷ 1 ∷ 1 ∷ 0 ∷ []) ∷ [])) (1 ∷ []) 8 (5 ∷ 1 ∷ 0 ∷ 0 ∷ [])
    ∷ refused_row (nodes_of ((2 ∷ 1 ∷ []) ∷ (5 ∷ 1 ∷ 0 ∷ 0 ∷ []) ∷ [])) (1 ∷ []) 8 (16 ∷ 1 ∷ 0 ∷ 0 ∷ [])
    -- "`2 1`, `5 0 2 0`, list 2, 2: 7 at 1."
    ∷ refused_row (nodes_of ((2 ∷ 1 ∷ []) ∷ (5 ∷ 0 ∷ 2 ∷ 0 ∷ []) ∷ [])) (2 ∷ 2 ∷ []) 8 (7 ∷ 1 ∷ 0 ∷ 0 ∷ [])
    ∷ []
