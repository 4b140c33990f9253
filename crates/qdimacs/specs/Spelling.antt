-- Which texts say which problem (QDIMACS 1.1). A problem is lines of words; a text spells them one after the other.
-- Assumes nothing.
use Rattle.std.specs.Prelude.{Bool, true, false, not, ◌&&◌, ◌||◌, List, [], ◌∷◌, ◌++◌, map, ◌≡◌, ℕ, ◌≤◌, eqb, leb, length}
use Rattle.lists.specs.Choice.{pick}
use Rattle.lists.specs.Members.{mem, all}
use Rattle.formula.specs.Node.{Quantifier, exists, for_all}
use Rattle.formula.specs.Form.{Block}
use Rattle.texts.specs.Numerals.{is_space, digits}
use Rattle.qdimacs.specs.Problem.{Literal, Clause, clause_variables, Problem, every}

-- A word is its bytes.
abbrev pub Word : Type 0
Word = List ℕ

-- p, cnf, and the 0 that ends a block or a clause
abbrev pub p_word : Word
p_word = 112 ∷ []

abbrev pub cnf_word : Word
cnf_word = 99 ∷ 110 ∷ 102 ∷ []

abbrev pub zero_word : Word
zero_word = 48 ∷ []

-- e and a
unfoldable pub quantifier_word : Quantifier → Word
quantifier_word exists = 101 ∷ []
quantifier_word for_all = 97 ∷ []

-- A literal: its variable in decimal, after a minus sign if it has one.
unfoldable pub literal_word : Literal → Word
literal_word l = pick l.minus (45 ∷ digits l.variable) (digits l.variable)

-- The line of a block: e or a, its variables, 0.
unfoldable pub block_line : Block → List Word
block_line b = quantifier_word b.quantifier ∷ (map digits b.variables ++ (zero_word ∷ []))

-- The line of a clause: its literals, 0.
unfoldable pub clause_line : Clause → List Word
clause_line c = map literal_word c ++ (zero_word ∷ [])

-- p cnf, the number of variables and the number of clauses; then the blocks, then the clauses, one a line.
unfoldable pub problem_lines : Problem → List (List Word)
problem_lines p =
    (p_word ∷ cnf_word ∷ digits p.variables ∷ digits p.count ∷ [])
    ∷ (map block_line p.blocks ++ map clause_line p.clauses)

-- A byte at which a word ends: a space, a tab or LF.
unfoldable pub is_gap : ℕ → Bool
is_gap b = is_space b || eqb b 10

-- A word has a byte, and no gap in it.
unfoldable pub is_word : Word → Bool
is_word [] = false
is_word (b ∷ bs) = all (λ c. not (is_gap c)) (b ∷ bs)

-- The text begins with a gap: a word before it ends there.
unfoldable pub starts_with_gap : List ℕ → Bool
starts_with_gap [] = false
starts_with_gap (b ∷ bs) = is_gap b

-- The text spells the lines: words with spaces or tabs around them, LF after every line.
pub data Spelled : List (List Word) → List ℕ → Type 0 where
  end : Spelled [] []
  space : {b : ℕ} {ls : List (List Word)} {t : List ℕ} → is_space b ≡ true → Spelled ls t → Spelled ls (b ∷ t)
  a_word : (w : Word) {ws : List Word} {ls : List (List Word)} {t : List ℕ} → is_word w ≡ true → starts_with_gap t ≡ true
      → Spelled (ws ∷ ls) t → Spelled ((w ∷ ws) ∷ ls) (w ++ t)
  at_line_end : {ls : List (List Word)} {t : List ℕ} → Spelled ls t → Spelled ([] ∷ ls) (10 ∷ t)

-- The variables of a block or a clause: at least one, from 1 up.
unfoldable pub is_variables : List ℕ → Bool
is_variables xs = not (eqb (length xs) 0) && all (λ x. leb 1 x) xs

-- What the format asks of every problem: both numbers of its header are from 1 up, and no block and no clause is empty or has the number 0.
pub record Grammatical (p : Problem) : Type 0 where
  pub some_variable : 1 ≤ p.variables
  pub some_clause : 1 ≤ p.count
  pub blocks_filled : every (λ (b : Block). is_variables b.variables) p.blocks ≡ true
  pub clauses_filled : every (λ (c : Clause). is_variables (clause_variables c)) p.clauses ≡ true

-- The text says the problem: comment lines, which begin with c, and then its lines.
pub data Says : List ℕ → Problem → Type 0 where
  comment_line : (note : List ℕ) {t : List ℕ} {p : Problem} → mem 10 note ≡ false → Says t p → Says (99 ∷ (note ++ (10 ∷ t))) p
  problem : {t : List ℕ} {p : Problem} → Grammatical p → Spelled (problem_lines p) t → Says t p
