-- A text says at most one problem: the lines of a problem give it back.
-- Assumes nothing.
use mathlib.Core.Path.{◌≡◌, refl, sym, ◌∙◌, ap}
use mathlib.Core.Bool.{Bool, true, false, ◌&&◌}
use mathlib.Core.List.{List, [], ◌∷◌, ◌++◌, map, flat_map, tail, drop_last, append-nil}
use Prim.Native.Nat.{ℕ, ◌≤◌}
use native.Mathlib.Omega.{arith}
use lib.Dec.{eqb, leb}
use lib.ListN.{length, get_or}
use borrow.Author.Tests.{leb-true, lt-leb, ne_eqb}
use Rattle.lists.specs.Choice.{pick, pick_yes, pick_no, and_left, and_right}
use Rattle.lists.specs.Members.{all}
use Rattle.lists.proofs.Parts.{flat_map_append}
use Rattle.formula.specs.Node.{Quantifier, exists, for_all}
use Rattle.formula.specs.Form.{Block}
use Rattle.texts.specs.Numerals.{is_digit, value_from, digits}
use Rattle.texts.proofs.Numerals.{digits_value, every_digit}
use Rattle.texts.proofs.Lengths.{some_digit}
use Rattle.qdimacs.specs.Problem.{Literal, Clause, Problem}
use Rattle.qdimacs.specs.Spelling.{Word, zero_word, quantifier_word, literal_word, block_line, clause_line, problem_lines}
use Rattle.qdimacs.specs.Laws.{OneProblem}
use Rattle.qdimacs.proofs.Reading.{same_lines}

-- Elements that a function gives back from what another makes of them.
module _ {A B : Type 0} (f : A → B) (back : B → A) (gives : (a : A) → back (f a) ≡ a) where
  map_back : (xs : List A) → map back (map f xs) ≡ xs
  map_back [] = refl
  map_back (x ∷ xs) = let h : back (f x) ≡ x = gives x in let t : map back (map f xs) ≡ xs = map_back xs in rw (h, t)

-- A list without its last element.
drop_last_lem : {A : Type 0} (xs : List A) (z : A) → drop_last (xs ++ (z ∷ [])) ≡ xs
drop_last_lem [] z = refl
drop_last_lem (x ∷ []) z = refl
drop_last_lem (x ∷ y ∷ xs) z = ap (λ rest. x ∷ rest) (drop_last_lem (y ∷ xs) z)

-- The first byte of a number, and of a literal.
record FirstDigit (w : Word) : Type 0 where
  low : 48 ≤ get_or w 0 0
  high : get_or w 0 0 ≤ 57

first_digit : (n : ℕ) → FirstDigit (digits n)
unfolding all is_digit
first_digit n = go (digits n) (some_digit n) (every_digit n)
  where
    go : (ds : List ℕ) → 1 ≤ length ds → all is_digit ds ≡ true → FirstDigit ds
    go [] l h = absurd (omega arith)
    go (d ∷ ds) l h =
        let t : (leb 48 d && leb d 57) ≡ true = and_left _ _ h in
        record { low = leb-true 48 d (and_left _ _ t); high = leb-true d 57 (and_right (leb 48 d) _ t) }

literal_first : (l : Literal) → get_or (literal_word l) 0 0 ≤ 57
unfolding literal_word pick
literal_first l = go l.minus
  where
    go : (b : Bool) → get_or (pick b (45 ∷ digits l.variable) (digits l.variable)) 0 0 ≤ 57
    go true = omega arith
    go false = (first_digit l.variable).high

-- The literal of a word,
unfoldable literal_of : Word → Literal
literal_of w =
    pick (eqb (get_or w 0 0) 45) (record { minus = true; variable = value_from 0 (tail w) }) (record { minus = false; variable = value_from 0 w })

literal_back : (l : Literal) → literal_of (literal_word l) ≡ l
unfolding literal_of literal_word pick
literal_back l = go l.minus l.variable
  where
    go : (b : Bool) (x : ℕ) → literal_of (pick b (45 ∷ digits x) (digits x)) ≡ record { minus = b; variable = x }
    go true x = ap (λ (n : ℕ). record { minus = true; variable = n }) (digits_value x)
    go false x =
        let f = first_digit x in
        pick_no _ _ _ (ne_eqb (get_or (digits x) 0 0) 45 (λ e. omega (arith, f.low)))
        ∙ ap (λ (n : ℕ). record { minus = false; variable = n }) (digits_value x)

-- the quantifier of a word,
unfoldable quantifier_of : Word → Quantifier
quantifier_of w = pick (eqb (get_or w 0 0) 101) exists for_all

quantifier_back : (q : Quantifier) → quantifier_of (quantifier_word q) ≡ q
unfolding quantifier_of quantifier_word pick
quantifier_back exists = refl
quantifier_back for_all = refl

-- the block and the clause of a line,
unfoldable block_of : List Word → Block
block_of ws = record { quantifier = quantifier_of (get_or ws 0 []); variables = map (value_from 0) (drop_last (tail ws)) }

block_back : (b : Block) → block_of (block_line b) ≡ b
unfolding block_of block_line
block_back b =
    rw (quantifier_back b.quantifier, drop_last_lem (map digits b.variables) zero_word, map_back digits (value_from 0) digits_value b.variables)

unfoldable clause_of : List Word → Clause
clause_of ws = map literal_of (drop_last ws)

clause_back : (c : Clause) → clause_of (clause_line c) ≡ c
unfolding clause_of clause_line
clause_back c = ap (map literal_of) (drop_last_lem (map literal_word c) zero_word) ∙ map_back literal_word literal_of literal_back c

-- Which of the two a line is.
unfoldable is_block_line : List Word → Bool
is_block_line ws = leb 97 (get_or (get_or ws 0 []) 0 0)

block_line_lem : (b : Block) → is_block_line (block_line b) ≡ true
unfolding is_block_line block_line quantifier_word
block_line_lem b = go b.quantifier
  where
    go : (q : Quantifier) → leb 97 (get_or (quantifier_word q) 0 0) ≡ true
    go exists = refl
    go for_all = refl

no_block_line : (c : Clause) → is_block_line (clause_line c) ≡ false
unfolding is_block_line clause_line
no_block_line [] = refl
no_block_line (l ∷ ls) = let h : get_or (literal_word l) 0 0 ≤ 57 = literal_first l in lt-leb 97 (get_or (literal_word l) 0 0) (omega arith)

-- What lines give that give one element each, and those that give none.
module _ {A B : Type 0} (f : A → B) where
  each_one : (g : B → List A) → ((a : A) → g (f a) ≡ a ∷ []) → (xs : List A) → flat_map g (map f xs) ≡ xs
  unfolding flat_map
  each_one g h [] = refl
  each_one g h (x ∷ xs) = let a : g (f x) ≡ x ∷ [] = h x in let b : flat_map g (map f xs) ≡ xs = each_one g h xs in rw (a, b)

  each_none : {C : Type 0} (g : B → List C) → ((a : A) → g (f a) ≡ []) → (xs : List A) → flat_map g (map f xs) ≡ []
  unfolding flat_map
  each_none g h [] = refl
  each_none g h (x ∷ xs) = let a : g (f x) ≡ [] = h x in let b : flat_map g (map f xs) ≡ [] = each_none g h xs in rw (a, b)

-- The blocks and the clauses that lines give back,
unfoldable to_blocks : List Word → List Block
to_blocks ws = pick (is_block_line ws) (block_of ws ∷ []) []

unfoldable to_clauses : List Word → List Clause
to_clauses ws = pick (is_block_line ws) [] (clause_of ws ∷ [])

module _ (bs : List Block) (cs : List Clause) where
  blocks_back : flat_map to_blocks (map block_line bs ++ map clause_line cs) ≡ bs
  unfolding to_blocks
  blocks_back =
      let first : flat_map to_blocks (map block_line bs) ≡ bs =
      each_one block_line to_blocks (λ b. pick_yes _ _ _ (block_line_lem b) ∙ ap (λ x. x ∷ []) (block_back b)) bs in
      let rest : flat_map to_blocks (map clause_line cs) ≡ [] = each_none clause_line to_blocks (λ c. pick_no _ _ _ (no_block_line c)) cs in
      rw (flat_map_append to_blocks (map block_line bs) (map clause_line cs), first, rest) (append-nil bs)

  clauses_back : flat_map to_clauses (map block_line bs ++ map clause_line cs) ≡ cs
  unfolding to_clauses
  clauses_back =
      let first : flat_map to_clauses (map block_line bs) ≡ [] = each_none block_line to_clauses (λ b. pick_yes _ _ _ (block_line_lem b)) bs in
      let rest : flat_map to_clauses (map clause_line cs) ≡ cs =
      each_one clause_line to_clauses (λ c. pick_no _ _ _ (no_block_line c) ∙ ap (λ x. x ∷ []) (clause_back c)) cs in
      rw (flat_map_append to_clauses (map block_line bs) (map clause_line cs), first, rest)

-- and the problem.
unfoldable problem_of : List (List Word) → Problem
problem_of ls =
    record {
      variables = value_from 0 (get_or (get_or ls 0 []) 2 []);
      count = value_from 0 (get_or (get_or ls 0 []) 3 []);
      blocks = flat_map to_blocks (tail ls);
      clauses = flat_map to_clauses (tail ls);
    }

problem_back : (p : Problem) → problem_of (problem_lines p) ≡ p
unfolding problem_of problem_lines
problem_back p =
    rw (digits_value p.variables, digits_value p.count, blocks_back p.blocks p.clauses, clauses_back p.blocks p.clauses)

pub one_problem : OneProblem
one_problem text p q s r = sym (problem_back p) ∙ ap problem_of (same_lines s r) ∙ problem_back q
