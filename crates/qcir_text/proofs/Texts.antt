-- The texts of signs, put together from the texts of parts.
-- Assumes nothing.
use mathlib.Core.List.{List, [], ◌∷◌, ◌++◌, map, append_assoc, append-nil}
use mathlib.Core.Path.{◌≡◌, refl, sym, ◌∙◌, ap}
use Prim.Native.Nat.{ℕ, zero, suc, ◌+◌, ◌/◌, ◌%◌, ◌≤◌, ◌<◌}
use native.Mathlib.Numerals.{add-one}
use native.Mathlib.Omega.{arith}
use lib.Dec.{eqb}
use lib.ListN.{length, get_or, take}
use lib.Seq.{take-suc, take_all}
use borrow.Author.Tests.{eq-eqb, ne_eqb}
use Rattle.lists.specs.Choice.{pick, pick_yes, pick_no}
use Rattle.qcir.specs.File.{Name, Literal, conjunction, junction_gate, xor_gate}
use Rattle.qcir.specs.Spelling.{Sign, word, name, newline, free_word, opening, closing, comma, literal_signs, names_signs, inputs_signs, any_inputs_signs, junction_word, list_signs, free_signs, prefix_signs, output_signs, gate_signs, quantifier_word}
use Rattle.texts.specs.Numerals.{digits}
use Rattle.formula.specs.Node.{Quantifier, exists, for_all}
use Rattle.formula.specs.Form.{quantifier_of}
use Rattle.qcir_text.specs.Text.{is_byte, word_text, sign_text, signs_text}
use Rattle.qcir_text.specs.Pieces.{named, literal_of, list_lines, inputs_text, names_text, open_text}

pub signs_append : (ss rr : List Sign) → signs_text (ss ++ rr) ≡ signs_text ss ++ signs_text rr
unfolding signs_text
signs_append [] rr = refl
signs_append (s ∷ ss) rr = ap (λ t. sign_text s ++ t) (signs_append ss rr) ∙ sym (append_assoc (sign_text s) (signs_text ss) (signs_text rr))

-- a name alone
pub name_text_lem : (x : ℕ) → signs_text (name (named x) ∷ []) ≡ digits x
unfolding signs_text sign_text
name_text_lem x = append-nil (digits x)

-- the end of a line
abbrev pub end_signs : List Sign
end_signs = word closing ∷ newline ∷ []

-- Literals.
pub literal_plus : (c : ℕ) → c % 2 ≡ 0 → signs_text (literal_signs (literal_of c)) ≡ digits (c / 2)
unfolding literal_signs literal_of
literal_plus c h = ap signs_text (pick_no (eqb (c % 2) 1) _ _ (ne_eqb (c % 2) 1 (λ e. omega arith))) ∙ name_text_lem (c / 2)

pub literal_minus : (c : ℕ) → c % 2 ≡ 1 → signs_text (literal_signs (literal_of c)) ≡ 45 ∷ digits (c / 2)
unfolding literal_signs literal_of signs_text sign_text word_text is_byte pick
literal_minus c h = ap signs_text (pick_yes (eqb (c % 2) 1) _ _ (eq-eqb (c % 2) 1 h)) ∙ ap (λ ds. 45 ∷ ds) (name_text_lem (c / 2))

-- Lines.
pub output_text : (l : Literal) → signs_text (output_signs l)
    ≡ (111 ∷ 117 ∷ 116 ∷ 112 ∷ 117 ∷ 116 ∷ 40 ∷ []) ++ (signs_text (literal_signs l) ++ signs_text end_signs)
unfolding output_signs signs_text sign_text word_text is_byte pick
output_text l = ap (λ t. (111 ∷ 117 ∷ 116 ∷ 112 ∷ 117 ∷ 116 ∷ 40 ∷ []) ++ t) (signs_append (literal_signs l) end_signs)

pub constant_text : (g : Name) → signs_text (gate_signs (junction_gate conjunction g []))
    ≡ digits g.number ++ (32 ∷ 61 ∷ 32 ∷ 97 ∷ 110 ∷ 100 ∷ 40 ∷ 41 ∷ 10 ∷ [])
unfolding gate_signs any_inputs_signs junction_word signs_text sign_text word_text is_byte pick
constant_text g = refl

pub and_text : (g : Name) (l r : Literal) → signs_text (gate_signs (junction_gate conjunction g (l ∷ r ∷ [])))
    ≡ digits g.number ++ ((32 ∷ 61 ∷ 32 ∷ 97 ∷ 110 ∷ 100 ∷ 40 ∷ []) ++ inputs_text l r)
unfolding gate_signs any_inputs_signs inputs_signs inputs_text junction_word signs_text sign_text word_text is_byte pick
and_text g l r =
    let ls = literal_signs l in
    let rs = literal_signs r in
    ap (λ t. digits g.number ++ ((32 ∷ 61 ∷ 32 ∷ 97 ∷ 110 ∷ 100 ∷ 40 ∷ []) ++ t))
    (signs_append (ls ++ (word comma ∷ rs)) end_signs
    ∙ ap (λ t. t ++ signs_text end_signs) (signs_append ls (word comma ∷ rs))
    ∙ append_assoc (signs_text ls) (signs_text (word comma ∷ rs)) (signs_text end_signs))

pub xor_text : (g : Name) (l r : Literal) → signs_text (gate_signs (xor_gate g l r))
    ≡ digits g.number ++ ((32 ∷ 61 ∷ 32 ∷ 120 ∷ 111 ∷ 114 ∷ 40 ∷ []) ++ inputs_text l r)
unfolding gate_signs inputs_text signs_text sign_text word_text is_byte pick
xor_text g l r =
    let ls = literal_signs l in
    let rs = literal_signs r in
    ap (λ t. digits g.number ++ ((32 ∷ 61 ∷ 32 ∷ 120 ∷ 111 ∷ 114 ∷ 40 ∷ []) ++ t))
    (signs_append ls (word comma ∷ (rs ++ end_signs))
    ∙ ap (λ t. signs_text ls ++ ((44 ∷ 32 ∷ []) ++ t)) (signs_append rs end_signs))

-- The start of a prefix line, by the kind of its block.
pub exists_text : (kind : ℕ) → kind ≡ 5
    → signs_text (word (quantifier_word (quantifier_of kind)) ∷ word opening ∷ []) ≡ 101 ∷ 120 ∷ 105 ∷ 115 ∷ 116 ∷ 115 ∷ 40 ∷ []
unfolding quantifier_of quantifier_word signs_text sign_text word_text is_byte pick
exists_text kind h = ap (λ q. signs_text (word (quantifier_word q) ∷ word opening ∷ [])) (pick_yes (eqb kind 5) exists for_all (eq-eqb kind 5 h))

pub forall_text : (kind : ℕ) → (kind ≡ 5 → ⊥)
    → signs_text (word (quantifier_word (quantifier_of kind)) ∷ word opening ∷ []) ≡ 102 ∷ 111 ∷ 114 ∷ 97 ∷ 108 ∷ 108 ∷ 40 ∷ []
unfolding quantifier_of quantifier_word signs_text sign_text word_text is_byte pick
forall_text kind h = ap (λ q. signs_text (word (quantifier_word q) ∷ word opening ∷ [])) (pick_no (eqb kind 5) exists for_all (ne_eqb kind 5 h))

-- A list line: what is open, then the end.
pub list_text : (keyword : List ℕ) (x : ℕ) (xs : List ℕ) → signs_text (list_signs keyword (named x) (map named xs))
    ≡ open_text keyword (x ∷ xs) ++ signs_text end_signs
unfolding list_signs open_text names_text signs_text sign_text word_text is_byte pick
list_text keyword x xs =
    let names = names_signs (named x) (map named xs) in
    ap (λ t. word_text keyword ++ (40 ∷ t)) (signs_append names end_signs)
    ∙ sym (append_assoc (word_text keyword) (40 ∷ []) (signs_text names ++ signs_text end_signs))
    ∙ sym (append_assoc (word_text keyword ++ (40 ∷ [])) (signs_text names) (signs_text end_signs))

pub free_text : (x : ℕ) (xs : List ℕ) → signs_text (free_signs (map named (x ∷ xs))) ≡ open_text free_word (x ∷ xs) ++ signs_text end_signs
unfolding free_signs
free_text x xs = list_text free_word x xs

pub line_text_lem : (q : Quantifier) (x : ℕ) (xs : List ℕ) → signs_text (prefix_signs (list_lines q (x ∷ xs)))
    ≡ open_text (quantifier_word q) (x ∷ xs) ++ signs_text end_signs
unfolding prefix_signs list_lines
line_text_lem q x xs = ap signs_text (append-nil (list_signs (quantifier_word q) (named x) (map named xs))) ∙ list_text (quantifier_word q) x xs

-- One name more.
more_signs : (x : ℕ) (xs : List ℕ) (y : ℕ) → names_signs (named x) (map named (xs ++ (y ∷ [])))
    ≡ names_signs (named x) (map named xs) ++ (word comma ∷ name (named y) ∷ [])
unfolding names_signs
more_signs x [] y = refl
more_signs x (z ∷ zs) y = ap (λ ss. name (named x) ∷ word comma ∷ ss) (more_signs z zs y)

pub names_more : (xs : List ℕ) (y : ℕ) → 0 < length xs → names_text (xs ++ (y ∷ [])) ≡ names_text xs ++ signs_text (word comma ∷ name (named y) ∷ [])
unfolding names_text
names_more [] y h = absurd (omega arith)
names_more (x ∷ xs) y h = ap signs_text (more_signs x xs y) ∙ signs_append (names_signs (named x) (map named xs)) _

-- the first name, and each further one, of a line that is open
pub open_first : (keyword : List ℕ) (x : ℕ) → open_text keyword (x ∷ []) ≡ signs_text (word keyword ∷ word opening ∷ []) ++ digits x
unfolding open_text names_text names_signs
open_first keyword x = ap (λ t. signs_text (word keyword ∷ word opening ∷ []) ++ t) (name_text_lem x)

pub open_names : (keyword : List ℕ) (x : ℕ) (xs : List ℕ)
    → open_text keyword (x ∷ xs) ≡ signs_text (word keyword ∷ word opening ∷ []) ++ names_text (x ∷ xs)
unfolding open_text
open_names keyword x xs = refl

pub open_more : (keyword xs : List ℕ) (y : ℕ) → 0 < length xs
    → open_text keyword (xs ++ (y ∷ [])) ≡ open_text keyword xs ++ signs_text (word comma ∷ name (named y) ∷ [])
unfolding open_text
open_more keyword [] y h = absurd (omega arith)
open_more keyword (x ∷ xs) y h =
    ap (λ t. signs_text (word keyword ∷ word opening ∷ []) ++ t) (names_more (x ∷ xs) y h)
    ∙ sym (append_assoc (signs_text (word keyword ∷ word opening ∷ [])) (names_text (x ∷ xs)) _)

-- The names after the first, of the first i.
pub further : List ℕ → ℕ → List ℕ
further names zero = []
further names (suc zero) = []
further names (suc (suc k)) = further names (suc k) ++ signs_text (word comma ∷ name (named (get_or names (suc k) 0)) ∷ [])

pub further_one : (names : List ℕ) → further names 1 ≡ []
unfolding further
further_one names = refl

pub further_next : (names : List ℕ) (i : ℕ) → 1 ≤ i
    → further names (i + 1) ≡ further names i ++ signs_text (word comma ∷ name (named (get_or names i 0)) ∷ [])
unfolding further
further_next names zero h = absurd (omega arith)
further_next names (suc k) h = rw add-one

first_further : (names : List ℕ) (k : ℕ) → k < length names → names_text (take (suc k) names) ≡ digits (get_or names 0 0) ++ further names (suc k)
unfolding further names_text names_signs
first_further [] k h = absurd (omega arith)
first_further (x ∷ xs) zero h = name_text_lem x ∙ sym (append-nil (digits x))
first_further (x ∷ xs) (suc k) h =
    ap names_text (take-suc (x ∷ xs) (suc k) 0 h)
    ∙ names_more (take (suc k) (x ∷ xs)) (get_or (x ∷ xs) (suc k) 0) (omega arith)
    ∙ ap (λ t. t ++ signs_text (word comma ∷ name (named (get_or (x ∷ xs) (suc k) 0)) ∷ [])) (first_further (x ∷ xs) k (omega arith))
    ∙ append_assoc (digits x) (further (x ∷ xs) (suc k)) _

pub names_text_lem : (names : List ℕ) → 0 < length names → names_text names ≡ digits (get_or names 0 0) ++ further names (length names)
names_text_lem [] h = absurd (omega arith)
names_text_lem (x ∷ xs) h = ap names_text (sym (take_all (suc (length xs)) (x ∷ xs) (omega arith))) ∙ first_further (x ∷ xs) (length xs) (omega arith)
