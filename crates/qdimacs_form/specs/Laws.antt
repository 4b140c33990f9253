-- What holds of the problem of a form that neither 14 nor 15 refuses, whatever the limits. Each law is proved under the name beside it in
-- proofs/.
-- Assumes nothing.
use Rattle.std.specs.Prelude.{Bool, true, false, not, ◌&&◌, List, [], ◌∷◌, ◌↔◌, ◌≡◌, ℕ, ◌+◌, ◌*◌, ◌/◌, ◌≤◌, eqb, length}
use Rattle.lists.specs.Members.{all, distinct, times, maximum}
use Rattle.formula.specs.Node.{exists}
use Rattle.formula.specs.Words.{node_count}
use Rattle.formula.specs.Valuation.{Valuation}
use Rattle.formula.specs.Form.{Block, prefix_width, kind_of, form_truth}
use Rattle.acceptance.specs.Limits.{matrix_within}
use Rattle.form_check.specs.Accepted.{AcceptedFormWithin, AcceptedForm, prefix_names}
use Rattle.qdimacs.specs.Problem.{Clause, Problem, clause_variables, problem_numbers, every, problem_truth}
use Rattle.qdimacs.specs.Spelling.{Grammatical}
use Rattle.qdimacs_form.specs.Clauses.{is_tautology, same_kind, form_problem, clauses_text}

-- Something holds of the problem of every form that passes, of so many nodes and numbers up to this one.
abbrev pub OfEveryForm : (Problem → List ℕ → List ℕ → List ℕ → Type 0) → Type 0
OfEveryForm P =
    (nodes most : ℕ) (ns ps xs : List ℕ) → AcceptedFormWithin (matrix_within nodes most) ns ps xs
    → P (form_problem ns ps xs) ns ps xs

-- "some setting of the open names makes the form true": what a form does not have free changes nothing (FormByList, crates/formula), so the
-- other numbers may have any value.
abbrev pub Satisfiable : (Valuation → Bool) → Type 0
Satisfiable f = (u : Valuation) × (f u ≡ true)

-- "The file is true exactly if some setting of the open names makes the form true", under whatever valuation the file is read
-- (problem_truth_lem, proofs/Truth.antt).
abbrev pub TrueIfSatisfiable : Problem → (Valuation → Bool) → Type 0
TrueIfSatisfiable p f = (v : Valuation) → (problem_truth p v ≡ true) ↔ Satisfiable f

abbrev pub ProblemTruth : Type 0
ProblemTruth = OfEveryForm (λ p ns ps xs. TrueIfSatisfiable p (form_truth ns ps xs))

-- "the header gives the highest gate number and the exact clause count": the highest number in the file, and how many clauses it has
-- (problem_header, proofs/Numbers.antt).
pub record HeaderExact (p : Problem) : Type 0 where
  pub highest : p.variables ≡ maximum (problem_numbers p)
  pub counted : p.count ≡ length p.clauses

abbrev pub ProblemHeader : Type 0
ProblemHeader = OfEveryForm (λ p ns ps xs. HeaderExact p)

-- No clause is empty, has a variable twice or is a tautology (problem_clauses, proofs/Sound.antt).
unfoldable pub sound_clause : Clause → Bool
sound_clause c = not (eqb (length c) 0) && distinct (clause_variables c) && not (is_tautology c)

abbrev pub ProblemClauses : Type 0
ProblemClauses = OfEveryForm (λ p ns ps xs. every sound_clause p.clauses ≡ true)

-- Every variable of a clause stands in exactly one block, and there once (problem_bound, proofs/Bound.antt).
unfoldable pub bound_once : List Block → Clause → Bool
bound_once bs c = all (λ x. eqb (times x (prefix_names bs)) 1) (clause_variables c)

abbrev pub ProblemBound : Type 0
ProblemBound = OfEveryForm (λ p ns ps xs. every (bound_once p.blocks) p.clauses ≡ true)

-- Blocks alternate, none is empty, and the last is exists (problem_blocks, proofs/Blocks.antt).
unfoldable pub alternate : List Block → Bool
alternate [] = true
alternate (b ∷ []) = true
alternate (b ∷ c ∷ bs) = not (same_kind b c) && alternate (c ∷ bs)

unfoldable pub last_exists : List Block → Bool
last_exists [] = false
last_exists (b ∷ []) = eqb (kind_of b.quantifier) (kind_of exists)
last_exists (b ∷ c ∷ bs) = last_exists (c ∷ bs)

pub record BlocksInOrder (bs : List Block) : Type 0 where
  pub alternating : alternate bs ≡ true
  pub filled : every (λ (b : Block). not (eqb (length b.variables) 0)) bs ≡ true
  pub last : last_exists bs ≡ true

abbrev pub ProblemBlocks : Type 0
ProblemBlocks = OfEveryForm (λ p ns ps xs. BlocksInOrder p.blocks)

-- It is one that the format has (problem_grammatical, proofs/Grammatical.antt).
abbrev pub ProblemGrammatical : Type 0
ProblemGrammatical = OfEveryForm (λ p ns ps xs. Grammatical p)

-- Bytes that are always enough for the text of a form with so many nodes, prefix blocks and list entries (text_room, proofs/Room.antt).
abbrev pub room_for : ℕ → ℕ → ℕ → ℕ
room_for nodes blocks entries = 64 * (nodes + 1) + 4 * blocks + 6 * entries

abbrev pub TextRoom : Type 0
TextRoom =
    (ns ps xs : List ℕ) → AcceptedForm ns ps xs
    → length (clauses_text ns ps xs) ≤ room_for (node_count ns) (length ps / prefix_width) (length xs)
