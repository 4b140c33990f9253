-- The bytes of a problem's text, line by line and word by word, as a writer puts them.
-- Assumes nothing.
use mathlib.Core.Path.{◌≡◌, refl, sym, ◌∙◌, ap}
use mathlib.Core.List.{List, [], ◌∷◌, ◌++◌, map, flat_map, append_assoc}
use Prim.Native.Nat.{ℕ}
use Rattle.lists.proofs.Parts.{flat_map_append}
use Rattle.formula.specs.Form.{Block}
use Rattle.texts.specs.Numerals.{digits}
use Rattle.qdimacs.specs.Problem.{Literal, Clause, Problem}
use Rattle.qdimacs.specs.Spelling.{Word, zero_word, quantifier_word, literal_word, block_line, clause_line, problem_lines}
use Rattle.qdimacs.specs.Text.{line_text, problem_text}

-- One list after the other of what a function makes of elements.
flat_map_map : {A B C : Type 0} (g : B → List C) (f : A → B) (xs : List A) → flat_map g (map f xs) ≡ flat_map (λ (x : A). g (f x)) xs
unfolding flat_map
flat_map_map g f [] = refl
flat_map_map g f (x ∷ xs) = ap (λ rest. g (f x) ++ rest) (flat_map_map g f xs)

-- A word before others is followed by a space.
word_first : (w : Word) (ws : List Word) (z : Word) → line_text (w ∷ (ws ++ (z ∷ []))) ≡ w ++ (32 ∷ line_text (ws ++ (z ∷ [])))
unfolding line_text
word_first w [] z = refl
word_first w (u ∷ ws) z = refl

-- A line that ends with 0: each other word, with a space after it.
pub words_text : (ws : List Word) → line_text (ws ++ (zero_word ∷ [])) ≡ flat_map (λ (w : Word). w ++ (32 ∷ [])) ws ++ (48 ∷ 10 ∷ [])
unfolding line_text flat_map
words_text [] = refl
words_text (w ∷ ws) =
    word_first w ws zero_word
    ∙ ap (λ rest. w ++ (32 ∷ rest)) (words_text ws)
    ∙ sym (append_assoc (w ++ (32 ∷ [])) (flat_map (λ (w : Word). w ++ (32 ∷ [])) ws) (48 ∷ 10 ∷ []) ∙ append_assoc w (32 ∷ []) _)

-- The line of a block,
pub block_text_lem : (b : Block) → line_text (block_line b)
    ≡ quantifier_word b.quantifier ++ (32 ∷ (flat_map (λ (x : ℕ). digits x ++ (32 ∷ [])) b.variables ++ (48 ∷ 10 ∷ [])))
unfolding block_line
block_text_lem b =
    word_first (quantifier_word b.quantifier) (map digits b.variables) zero_word
    ∙ ap (λ rest. quantifier_word b.quantifier ++ (32 ∷ rest))
    (words_text (map digits b.variables)
    ∙ ap (λ rest. rest ++ (48 ∷ 10 ∷ [])) (flat_map_map (λ (w : Word). w ++ (32 ∷ [])) digits b.variables))

-- and that of a clause.
pub clause_text : (c : Clause) → line_text (clause_line c) ≡ flat_map (λ (l : Literal). literal_word l ++ (32 ∷ [])) c ++ (48 ∷ 10 ∷ [])
unfolding clause_line
clause_text c =
    words_text (map literal_word c) ∙ ap (λ rest. rest ++ (48 ∷ 10 ∷ [])) (flat_map_map (λ (w : Word). w ++ (32 ∷ [])) literal_word c)

-- The text of a problem: its header, its blocks and its clauses.
pub problem_text_lem : (p : Problem) → problem_text p
    ≡ (112 ∷ 32 ∷ 99 ∷ 110 ∷ 102 ∷ 32 ∷ (digits p.variables ++ (32 ∷ (digits p.count ++ (10 ∷ [])))))
    ++ (flat_map (λ (b : Block). line_text (block_line b)) p.blocks ++ flat_map (λ (c : Clause). line_text (clause_line c)) p.clauses)
unfolding problem_text problem_lines line_text flat_map
problem_text_lem p =
    ap (λ rest. (112 ∷ 32 ∷ 99 ∷ 110 ∷ 102 ∷ 32 ∷ (digits p.variables ++ (32 ∷ (digits p.count ++ (10 ∷ []))))) ++ rest)
    (flat_map_append line_text (map block_line p.blocks) (map clause_line p.clauses)
    ∙ ap (λ rest. rest ++ flat_map line_text (map clause_line p.clauses)) (flat_map_map line_text block_line p.blocks)
    ∙ ap (λ rest. flat_map (λ (b : Block). line_text (block_line b)) p.blocks ++ rest) (flat_map_map line_text clause_line p.clauses))
