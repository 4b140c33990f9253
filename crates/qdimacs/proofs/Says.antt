-- The text of a problem says it: every word of its lines is a word, and a gap follows it.
-- Assumes nothing.
use mathlib.Core.Path.{◌≡◌, refl}
use mathlib.Core.Bool.{Bool, true, false, not}
use mathlib.Core.List.{List, [], ◌∷◌, ◌++◌, map, flat_map, append_assoc}
use Prim.Native.Nat.{ℕ, ◌≤◌}
use native.Mathlib.Omega.{arith}
use lib.ListN.{length}
use borrow.Author.Tests.{leb-true, ne_eqb}
use Rattle.lists.specs.Choice.{pick, and_left, and_right, and_both, or_neither}
use Rattle.lists.specs.Members.{all}
use Rattle.formula.specs.Node.{Quantifier, exists, for_all}
use Rattle.formula.specs.Form.{Block}
use Rattle.texts.specs.Numerals.{is_space, is_digit, digits}
use Rattle.texts.proofs.Numerals.{every_digit}
use Rattle.texts.proofs.Lengths.{some_digit}
use Rattle.qdimacs.specs.Problem.{Literal, Clause, Problem, every}
use Rattle.qdimacs.specs.Spelling.{Word, zero_word, quantifier_word, literal_word, block_line, clause_line, problem_lines, is_gap, is_word, starts_with_gap, Spelled, end, space, a_word, at_line_end, problem}
use Rattle.qdimacs.specs.Text.{line_text, problem_text}
use Rattle.qdimacs.specs.Laws.{TextSays}

-- A digit is no gap.
digit_no_gap : (b : ℕ) → is_digit b ≡ true → not (is_gap b) ≡ true
unfolding is_digit is_gap is_space
digit_no_gap b h =
    let low : 48 ≤ b = leb-true 48 b (and_left _ _ h) in
    rw (or_neither _ _ (or_neither _ _ (ne_eqb b 32 (omega arith)) (ne_eqb b 9 (omega arith))) (ne_eqb b 10 (omega arith)))

digits_no_gap : (ds : List ℕ) → all is_digit ds ≡ true → all (λ c. not (is_gap c)) ds ≡ true
unfolding all
digits_no_gap [] h = refl
digits_no_gap (d ∷ ds) h = and_both _ _ (digit_no_gap d (and_left _ _ h)) (digits_no_gap ds (and_right (is_digit d) _ h))

-- So digits are a word,
digits_are_word : (ds : List ℕ) → 1 ≤ length ds → all is_digit ds ≡ true → is_word ds ≡ true
unfolding is_word
digits_are_word [] l h = absurd (omega arith)
digits_are_word (d ∷ ds) l h = digits_no_gap (d ∷ ds) h

number_word : (n : ℕ) → is_word (digits n) ≡ true
number_word n = digits_are_word (digits n) (some_digit n) (every_digit n)

-- and so are a literal, and e and a.
literal_word_lem : (l : Literal) → is_word (literal_word l) ≡ true
unfolding literal_word is_word is_gap is_space all pick
literal_word_lem l = go l.minus
  where
    go : (b : Bool) → is_word (pick b (45 ∷ digits l.variable) (digits l.variable)) ≡ true
    go true = digits_no_gap (digits l.variable) (every_digit l.variable)
    go false = number_word l.variable

quantifier_word_lem : (q : Quantifier) → is_word (quantifier_word q) ≡ true
unfolding quantifier_word is_word is_gap is_space all
quantifier_word_lem exists = refl
quantifier_word_lem for_all = refl

-- Every element of what a function makes of elements,
every_map : {A B : Type 0} (test : B → Bool) (f : A → B) (xs : List A) → ((x : A) → test (f x) ≡ true) → every test (map f xs) ≡ true
unfolding every
every_map test f [] h = refl
every_map test f (x ∷ xs) h = and_both _ _ (h x) (every_map test f xs h)

-- and of two lists.
pub every_append : {A : Type 0} (test : A → Bool) (xs ys : List A) → every test xs ≡ true → every test ys ≡ true → every test (xs ++ ys) ≡ true
unfolding every
every_append test [] ys h k = k
every_append test (x ∷ xs) ys h k = and_both (test x) _ (and_left _ _ h) (every_append test xs ys (and_right (test x) _ h) k)

-- Lines of words.
abbrev are_words : List Word → Bool
are_words ws = every is_word ws

-- Those of a block, a clause and a problem are.
block_words_lem : (b : Block) → are_words (block_line b) ≡ true
unfolding block_line every is_word is_gap is_space all
block_words_lem b =
    and_both _ _ (quantifier_word_lem b.quantifier)
    (every_append is_word (map digits b.variables) (zero_word ∷ []) (every_map is_word digits b.variables number_word) refl)

clause_words : (c : Clause) → are_words (clause_line c) ≡ true
unfolding clause_line every is_word is_gap is_space all
clause_words c = every_append is_word (map literal_word c) (zero_word ∷ []) (every_map is_word literal_word c literal_word_lem) refl

problem_words : (p : Problem) → every are_words (problem_lines p) ≡ true
unfolding problem_lines every is_word is_gap is_space all
problem_words p =
    and_both _ _ (and_both _ _ (number_word p.variables) (and_both _ _ (number_word p.count) refl))
    (every_append are_words (map block_line p.blocks) (map clause_line p.clauses)
    (every_map are_words block_line p.blocks block_words_lem) (every_map are_words clause_line p.clauses clause_words))

-- The text of a line of words spells it, whatever follows,
line_spelled : (ws : List Word) {ls : List (List Word)} {t : List ℕ} → are_words ws ≡ true → Spelled ls t → Spelled (ws ∷ ls) (line_text ws ++ t)
unfolding line_text every starts_with_gap is_gap is_space
line_spelled [] h d = at_line_end d
line_spelled (w ∷ []) {t = t} h d = rw (append_assoc w (10 ∷ []) t) (a_word w (and_left _ _ h) refl (at_line_end d))
line_spelled (w ∷ u ∷ ws) {t = t} h d =
    rw (append_assoc w (32 ∷ line_text (u ∷ ws)) t) (a_word w (and_left _ _ h) refl (space refl (line_spelled (u ∷ ws) (and_right (is_word w) _ h) d)))

-- and that of lines spells them.
lines_spelled : (ls : List (List Word)) → every are_words ls ≡ true → Spelled ls (flat_map line_text ls)
unfolding flat_map every
lines_spelled [] h = end
lines_spelled (ws ∷ ls) h = line_spelled ws (and_left _ _ h) (lines_spelled ls (and_right (are_words ws) _ h))

pub text_says : TextSays
unfolding problem_text
text_says p g = problem g (lines_spelled (problem_lines p) (problem_words p))
