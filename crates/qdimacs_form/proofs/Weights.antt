-- How many bytes the lines of a problem take at most.
-- Assumes nothing.
use mathlib.Core.Path.{◌≡◌, refl, ◌∙◌, ap}
use mathlib.Core.Bool.{Bool, true, false, not, ◌||◌}
use mathlib.Core.List.{List, [], ◌∷◌, ◌++◌, flat_map}
use Prim.Native.Nat.{ℕ, zero, suc, ◌+◌, ◌*◌, ◌≤◌, ◌<◌}
use native.Mathlib.Omega.{arith}
use native.Mathlib.Nat.{mul-suc}
use lib.Dec.{eqb}
use lib.ListN.{length, length-append}
use borrow.Author.Tests.{ne_eqb}
use Rattle.lists.specs.Choice.{pick, pick_no}
use Rattle.lists.specs.Members.{mem}
use Rattle.lists.specs.Parts.{up_to, sum}
use Rattle.lists.proofs.Members.{mem_head, mem_tail}
use Rattle.formula.specs.Node.{Quantifier, exists, for_all, Node, constant, variable, negation, operator, block, operands}
use Rattle.formula.specs.Truth.{digit, operator_value}
use Rattle.formula.specs.Form.{Block}
use Rattle.formula.specs.FreeVariables.{number_at}
use Rattle.formula.proofs.FreeVariables.{variables}
use Rattle.form_check.specs.Accepted.{prefix_names}
use Rattle.texts.specs.Numerals.{digits}
use Rattle.texts.specs.Bounds.{number_bound}
use Rattle.texts.proofs.Lengths.{at_most_six}
use Rattle.qdimacs.specs.Problem.{Literal, Clause, Problem}
use Rattle.qdimacs.specs.Spelling.{quantifier_word, literal_word, block_line, clause_line}
use Rattle.qdimacs.specs.Text.{line_text, problem_text}
use Rattle.qdimacs.proofs.Lines.{block_text_lem, clause_text, problem_text_lem}
use Rattle.qdimacs_form.specs.Clauses.{is_gate_node, false_at, has_value, no_operand, one_operand, two_operands, gate_clauses, same_literal, without, once, is_tautology, written_clauses, exists_block, closed_blocks, filled_blocks, same_kind, joined_to, joined_blocks}

-- The bytes of literals, each with a space after it; of clauses, of numbers and of blocks.
unfoldable pub literals_bytes : Clause → ℕ
literals_bytes [] = 0
literals_bytes (l ∷ ls) = suc (length (literal_word l)) + literals_bytes ls

unfoldable pub clauses_bytes : List Clause → ℕ
clauses_bytes [] = 0
clauses_bytes (c ∷ cs) = literals_bytes c + 2 + clauses_bytes cs

unfoldable pub numbers_bytes : List ℕ → ℕ
numbers_bytes [] = 0
numbers_bytes (x ∷ xs) = suc (length (digits x)) + numbers_bytes xs

unfoldable pub blocks_bytes : List Block → ℕ
blocks_bytes [] = 0
blocks_bytes (b ∷ bs) = 4 + numbers_bytes b.variables + blocks_bytes bs

-- They are the bytes of the lines.
literals_length : (c : Clause) → length (flat_map (λ (l : Literal). literal_word l ++ (32 ∷ [])) c) ≡ literals_bytes c
unfolding flat_map literals_bytes
literals_length [] = refl
literals_length (l ∷ ls) =
    omega (
      arith,
      length-append (literal_word l ++ (32 ∷ [])) (flat_map (λ (l : Literal). literal_word l ++ (32 ∷ [])) ls),
      length-append (literal_word l) (32 ∷ []),
      literals_length ls,
    )

clause_length : (c : Clause) → length (line_text (clause_line c)) ≡ literals_bytes c + 2
clause_length c =
    ap length (clause_text c)
    ∙ length-append (flat_map (λ (l : Literal). literal_word l ++ (32 ∷ [])) c) (48 ∷ 10 ∷ [])
    ∙ omega (arith, literals_length c)

clauses_length : (cs : List Clause) → length (flat_map (λ (c : Clause). line_text (clause_line c)) cs) ≡ clauses_bytes cs
unfolding flat_map clauses_bytes
clauses_length [] = refl
clauses_length (c ∷ cs) =
    length-append (line_text (clause_line c)) (flat_map (λ (c : Clause). line_text (clause_line c)) cs)
    ∙ omega (arith, clause_length c, clauses_length cs)

numbers_length : (xs : List ℕ) → length (flat_map (λ (x : ℕ). digits x ++ (32 ∷ [])) xs) ≡ numbers_bytes xs
unfolding flat_map numbers_bytes
numbers_length [] = refl
numbers_length (x ∷ xs) =
    omega (
      arith,
      length-append (digits x ++ (32 ∷ [])) (flat_map (λ (x : ℕ). digits x ++ (32 ∷ [])) xs),
      length-append (digits x) (32 ∷ []),
      numbers_length xs,
    )

quantifier_length : (q : Quantifier) → length (quantifier_word q) ≡ 1
unfolding quantifier_word
quantifier_length exists = refl
quantifier_length for_all = refl

block_length : (b : Block) → length (line_text (block_line b)) ≡ 4 + numbers_bytes b.variables
block_length b =
    let ns = flat_map (λ (x : ℕ). digits x ++ (32 ∷ [])) b.variables in
    ap length (block_text_lem b)
    ∙ length-append (quantifier_word b.quantifier) (32 ∷ (ns ++ (48 ∷ 10 ∷ [])))
    ∙ omega (arith, quantifier_length b.quantifier, length-append ns (48 ∷ 10 ∷ []), numbers_length b.variables)

blocks_length : (bs : List Block) → length (flat_map (λ (b : Block). line_text (block_line b)) bs) ≡ blocks_bytes bs
unfolding flat_map blocks_bytes
blocks_length [] = refl
blocks_length (b ∷ bs) =
    length-append (line_text (block_line b)) (flat_map (λ (b : Block). line_text (block_line b)) bs)
    ∙ omega (arith, block_length b, blocks_length bs)

-- The text of a problem whose header has numbers below a million.
pub text_weighs : (p : Problem) → p.variables < number_bound → p.count < number_bound
    → length (problem_text p) ≤ 20 + blocks_bytes p.blocks + clauses_bytes p.clauses
text_weighs p v c =
    let count = digits p.count ++ (10 ∷ []) in
    let bs = flat_map (λ (b : Block). line_text (block_line b)) p.blocks in
    let cs = flat_map (λ (c : Clause). line_text (clause_line c)) p.clauses in
    omega (
      arith,
      ap length (problem_text_lem p),
      length-append (112 ∷ 32 ∷ 99 ∷ 110 ∷ 102 ∷ 32 ∷ (digits p.variables ++ (32 ∷ count))) (bs ++ cs),
      length-append (digits p.variables) (32 ∷ count),
      length-append (digits p.count) (10 ∷ []),
      length-append bs cs,
      blocks_length p.blocks,
      clauses_length p.clauses,
      at_most_six p.variables v,
      at_most_six p.count c,
    )

-- A choice of two that measure at most m.
pub pick_measures : {A : Type 0} (size : A → ℕ) (t : Bool) (a b : A) (m : ℕ) → size a ≤ m → size b ≤ m → size (pick t a b) ≤ m
unfolding pick
pick_measures size true a b m h k = h
pick_measures size false a b m h k = k

-- What is left of clauses takes no more bytes, and is no more clauses.
without_shorter : (l : Literal) (c : Clause) → literals_bytes (without l c) ≤ literals_bytes c
unfolding without literals_bytes
without_shorter l [] = omega arith
without_shorter l (m ∷ ms) =
    let h : literals_bytes (without l ms) ≤ literals_bytes ms = without_shorter l ms in
    pick_measures literals_bytes (same_literal l m) (without l ms) (m ∷ without l ms) (literals_bytes (m ∷ ms)) (omega arith) (omega arith)

once_shorter : (c : Clause) → literals_bytes (once c) ≤ literals_bytes c
unfolding once literals_bytes
once_shorter [] = omega arith
once_shorter (l ∷ ls) = omega (arith, without_shorter l (once ls), once_shorter ls)

written_shorter : (cs : List Clause) → clauses_bytes (written_clauses cs) ≤ clauses_bytes cs
unfolding written_clauses clauses_bytes
written_shorter [] = omega arith
written_shorter (c ∷ cs) =
    let h : clauses_bytes (written_clauses cs) ≤ clauses_bytes cs = written_shorter cs in
    pick_measures clauses_bytes (is_tautology c) (written_clauses cs) (once c ∷ written_clauses cs) (clauses_bytes (c ∷ cs))
    (omega arith)
    (omega (arith, once_shorter c))

pub written_fewer : (cs : List Clause) → length (written_clauses cs) ≤ length cs
unfolding written_clauses
written_fewer [] = omega arith
written_fewer (c ∷ cs) =
    let h : length (written_clauses cs) ≤ length cs = written_fewer cs in
    pick_measures length (is_tautology c) (written_clauses cs) (once c ∷ written_clauses cs) (suc (length cs)) (omega arith) (omega arith)

-- Clauses one after the other.
pub clauses_append : (cs ds : List Clause) → clauses_bytes (cs ++ ds) ≡ clauses_bytes cs + clauses_bytes ds
unfolding clauses_bytes
clauses_append [] ds = omega arith
clauses_append (c ∷ cs) ds = omega (arith, clauses_append cs ds)

pub clauses_up_to : (g : ℕ → List Clause) (n : ℕ) → clauses_bytes (up_to g n) ≡ sum (λ i. clauses_bytes (g i)) n
unfolding up_to sum clauses_bytes
clauses_up_to g zero = refl
clauses_up_to g (suc n) = clauses_append (up_to g n) (g n) ∙ omega (arith, clauses_up_to g n)

-- A literal whose variable is below a million, and a space.
literal_weighs : (l : Literal) → l.variable < number_bound → suc (length (literal_word l)) ≤ 8
unfolding literal_word
literal_weighs l h =
    let d = at_most_six l.variable h in
    let w : length (literal_word l) ≤ 7 =
    pick_measures length l.minus (45 ∷ digits l.variable) (digits l.variable) 7 (omega arith) (omega arith) in
    omega arith

-- The clauses of a gate without operands, with one and with two.
module _ (g : ℕ) (gate : g < number_bound) where
  pub root_weighs : clauses_bytes ((has_value g true ∷ []) ∷ []) ≤ 10
  unfolding clauses_bytes literals_bytes
  root_weighs = omega (arith, literal_weighs (has_value g true) gate)

  no_operand_lem : (c : Bool) → clauses_bytes (no_operand g c) ≤ 10
  unfolding no_operand clauses_bytes literals_bytes
  no_operand_lem c = omega (arith, literal_weighs (has_value g c) gate)

  one_operand_lem : (f : Bool → Bool) (x : ℕ) → x < number_bound → clauses_bytes (one_operand g f x) ≤ 36
  unfolding one_operand clauses_bytes literals_bytes
  one_operand_lem f x h =
      omega (
        arith,
        literal_weighs (false_at x false) h,
        literal_weighs (false_at x true) h,
        literal_weighs (has_value g (f false)) gate,
        literal_weighs (has_value g (f true)) gate,
      )

  two_operands_lem : (f : Bool → Bool → Bool) (x y : ℕ) → x < number_bound → y < number_bound → clauses_bytes (two_operands g f x y) ≤ 104
  unfolding two_operands clauses_bytes literals_bytes
  two_operands_lem f x y h k =
      omega (
        arith,
        literal_weighs (false_at x false) h,
        literal_weighs (false_at x true) h,
        literal_weighs (false_at y false) k,
        literal_weighs (false_at y true) k,
        literal_weighs (has_value g (f false false)) gate,
        literal_weighs (has_value g (f false true)) gate,
        literal_weighs (has_value g (f true false)) gate,
        literal_weighs (has_value g (f true true)) gate,
      )

-- A node: its clauses if it has a gate, 7 bytes for the gate's variable in its block, and 6 for an open name if it is a variable node.
-- 17 and 47 for each operand are enough, and 32 more at the root.
module _ (at : ℕ → ℕ) (g : ℕ) (gate : g < number_bound) where
  gate_weighs : (nd : Node) → number_at nd < number_bound → ((a : ℕ) → mem a (operands nd) ≡ true → at a < number_bound)
      → clauses_bytes (gate_clauses at g nd) + 6 * variables nd ≤ 10 + 47 * length (operands nd) + 32 * variables nd
  unfolding gate_clauses number_at operands variables clauses_bytes
  gate_weighs (constant c) x h = omega (arith, no_operand_lem g gate c)
  gate_weighs (variable x) l h = omega (arith, one_operand_lem g gate (λ a. a) x l)
  gate_weighs (negation a) x h = omega (arith, one_operand_lem g gate not (at a) (h a (mem_head a [])))
  gate_weighs (operator f a b) x h =
      let left : at a < number_bound = h a (mem_head a (b ∷ [])) in
      let right : at b < number_bound = h b (mem_tail b a (b ∷ []) (mem_head b [])) in
      omega (arith, two_operands_lem g gate (operator_value f) (at a) (at b) left right)
  gate_weighs (block q xs a) x h = omega arith

  written_weighs : (nd : Node) → number_at nd < number_bound → ((a : ℕ) → mem a (operands nd) ≡ true → at a < number_bound)
      → clauses_bytes (written_clauses (gate_clauses at g nd)) + 7 + 6 * variables nd ≤ 17 + 47 * length (operands nd) + 32 * variables nd
  written_weighs nd x h = omega (arith, written_shorter (gate_clauses at g nd), gate_weighs nd x h)

  pub node_weighs : (root : Bool) (nd : Node) → number_at nd < number_bound → ((a : ℕ) → mem a (operands nd) ≡ true → at a < number_bound)
      → clauses_bytes (pick (is_gate_node nd || root) (written_clauses (gate_clauses at g nd)) []) + 7 * digit (is_gate_node nd || root) + 6 * variables nd
      ≤ 17 + 47 * length (operands nd) + pick root 32 0
  unfolding is_gate_node digit variables pick clauses_bytes
  node_weighs root (constant c) x h = omega (arith, written_weighs (constant c) x h)
  node_weighs true (variable x) l h = omega (arith, written_weighs (variable x) l h)
  node_weighs false (variable x) l h = omega arith
  node_weighs root (negation a) x h = omega (arith, written_weighs (negation a) x h)
  node_weighs root (operator f a b) x h = omega (arith, written_weighs (operator f a b) x h)
  node_weighs true (block q xs a) x h = omega (arith, written_weighs (block q xs a) x h)
  node_weighs false (block q xs a) x h = omega arith

-- No node has more than four clauses.
pub clauses_four : (at : ℕ → ℕ) (g : ℕ) (nd : Node) → length (gate_clauses at g nd) ≤ 4
unfolding gate_clauses no_operand one_operand two_operands
clauses_four at g (constant c) = omega arith
clauses_four at g (variable x) = omega arith
clauses_four at g (negation a) = omega arith
clauses_four at g (operator f a b) = omega arith
clauses_four at g (block q xs a) = omega arith

-- Numbers of at most so many digits, and numbers one after the other.
pub numbers_weigh : (k : ℕ) (xs : List ℕ) → ((x : ℕ) → mem x xs ≡ true → length (digits x) ≤ k) → numbers_bytes xs ≤ suc k * length xs
unfolding numbers_bytes
numbers_weigh k [] h = omega arith
numbers_weigh k (x ∷ xs) h =
    omega (arith, h x (mem_head x xs), numbers_weigh k xs (λ y m. h y (mem_tail y x xs m)), mul-suc (suc k) (length xs))

numbers_append : (xs ys : List ℕ) → numbers_bytes (xs ++ ys) ≡ numbers_bytes xs + numbers_bytes ys
unfolding numbers_bytes
numbers_append [] ys = omega arith
numbers_append (x ∷ xs) ys = omega (arith, numbers_append xs ys)

-- Joined blocks take no more bytes.
joined_to_shorter : (b : Block) (cs : List Block) → blocks_bytes (joined_to b cs) ≤ blocks_bytes (b ∷ cs)
unfolding joined_to blocks_bytes
joined_to_shorter b [] = omega arith
joined_to_shorter b (c ∷ cs) =
    let both : Block = record { quantifier = b.quantifier; variables = b.variables ++ c.variables } in
    pick_measures blocks_bytes (same_kind b c) (both ∷ cs) (b ∷ c ∷ cs) (blocks_bytes (b ∷ c ∷ cs))
    (omega (arith, numbers_append b.variables c.variables))
    (omega arith)

joined_shorter : (bs : List Block) → blocks_bytes (joined_blocks bs) ≤ blocks_bytes bs
unfolding joined_blocks blocks_bytes
joined_shorter [] = omega arith
joined_shorter (b ∷ bs) = omega (arith, joined_to_shorter b (joined_blocks bs), joined_shorter bs)

-- The bytes of a block's line; none if it has no variables.
unfoldable line_bytes : List ℕ → ℕ
line_bytes [] = 0
line_bytes (x ∷ xs) = 4 + numbers_bytes (x ∷ xs)

filled_by : (q : Quantifier) (xs : List ℕ) (bs : List Block)
    → blocks_bytes (pick (eqb (length xs) 0) bs (record { quantifier = q; variables = xs } ∷ bs)) ≡ line_bytes xs + blocks_bytes bs
unfolding pick blocks_bytes line_bytes
filled_by q [] bs = omega arith
filled_by q (x ∷ xs) bs =
    let filled = ne_eqb (length (x ∷ xs)) 0 (λ e. omega arith) in
    omega (arith, ap blocks_bytes (pick_no _ bs (record { quantifier = q; variables = x ∷ xs } ∷ bs) filled))

filled_first : (b : Block) (bs : List Block) → blocks_bytes (filled_blocks (b ∷ bs)) ≡ line_bytes b.variables + blocks_bytes (filled_blocks bs)
unfolding filled_blocks
filled_first b bs = filled_by b.quantifier b.variables (filled_blocks bs)

line_weighs : (xs : List ℕ) → (line_bytes xs ≤ 4 + numbers_bytes xs) × (line_bytes xs ≤ 4 * length xs + numbers_bytes xs)
unfolding line_bytes
line_weighs [] = (omega arith, omega arith)
line_weighs (x ∷ xs) = (omega arith, omega arith)

-- Blocks that are not empty: 4 bytes for each block, or for each name, and those of the names.
pub filled_weigh : (bs : List Block)
    → (blocks_bytes (filled_blocks bs) ≤ 4 * length bs + numbers_bytes (prefix_names bs))
    × (blocks_bytes (filled_blocks bs) ≤ 4 * length (prefix_names bs) + numbers_bytes (prefix_names bs))
unfolding filled_blocks blocks_bytes prefix_names flat_map
filled_weigh [] = (omega arith, omega arith)
filled_weigh (b ∷ bs) =
    let e = filled_first b bs in
    let n = numbers_append b.variables (prefix_names bs) in
    let l = length-append b.variables (prefix_names bs) in
    let one = line_weighs b.variables in
    let more = filled_weigh bs in
    (omega (arith, e, n, one.0, more.0), omega (arith, e, n, l, one.1, more.1))

-- A problem's blocks, by those of the prefix.
filled_last : (bs : List Block) (xs : List ℕ)
    → blocks_bytes (filled_blocks (bs ++ (exists_block xs ∷ []))) ≤ blocks_bytes (filled_blocks bs) + (4 + numbers_bytes xs)
unfolding filled_blocks blocks_bytes exists_block
filled_last [] xs = omega (arith, filled_by exists xs [], (line_weighs xs).0)
filled_last (b ∷ bs) xs =
    omega (arith, filled_first b (bs ++ (exists_block xs ∷ [])), filled_first b bs, filled_last bs xs)

pub closed_weigh : (xs : List ℕ) (bs : List Block) (ys : List ℕ)
    → blocks_bytes (joined_blocks (filled_blocks (closed_blocks xs bs ys))) ≤ 8 + numbers_bytes xs + numbers_bytes ys + blocks_bytes (filled_blocks bs)
unfolding closed_blocks exists_block
closed_weigh xs bs ys =
    omega (
      arith,
      joined_shorter (filled_blocks (closed_blocks xs bs ys)),
      filled_first (exists_block xs) (bs ++ (exists_block ys ∷ [])),
      (line_weighs xs).0,
      filled_last bs ys,
    )
