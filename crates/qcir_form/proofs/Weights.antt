-- How many bytes the lines of a form's text take at most.
-- Assumes nothing.
use mathlib.Core.Path.{◌≡◌, refl, sym, ◌∙◌, ap}
use mathlib.Core.Bool.{Bool, true, false}
use mathlib.Core.List.{List, [], ◌∷◌, ◌++◌, map, flat_map, append_assoc}
use Prim.Native.Nat.{ℕ, zero, suc, ◌+◌, ◌*◌, ◌≤◌, ◌<◌}
use native.Mathlib.Omega.{arith}
use lib.Dec.{leb}
use lib.ListN.{length, length-append, length-map}
use borrow.Author.Tests.{leb-true}
use Rattle.lists.specs.Choice.{pick, and_left, and_right}
use Rattle.lists.specs.Parts.{up_to, sum}
use Rattle.formula.specs.Node.{Quantifier, exists, for_all, Node, constant, variable, negation, operator, block}
use Rattle.formula.specs.Truth.{digit}
use Rattle.formula.specs.Form.{Block}
use Rattle.form_check.specs.Accepted.{prefix_names}
use Rattle.qcir.specs.File.{Name, Literal, conjunction, Gate, junction_gate, xor_gate, Line}
use Rattle.qcir.specs.Spelling.{Sign, word, name, newline, free_word, closing, comma, minus_sign, quantifier_word, junction_word, literal_signs, names_signs, list_signs, free_signs, prefix_signs, output_signs, inputs_signs, any_inputs_signs, gate_signs, gates_signs}
use Rattle.qcir.specs.Unbounded.{names_up_to}
use Rattle.texts.specs.Numerals.{digits}
use Rattle.qcir_text.specs.Text.{is_byte, word_text, sign_text, signs_text}
use Rattle.qcir_text.specs.Pieces.{named, list_lines}
use Rattle.texts.proofs.Lengths.{at_most_six}
use Rattle.qcir_form.specs.Rows.{RowKind, constant_row, left_row, right_row, and_row, xor_row, row}
use Rattle.qcir_form.specs.File.{turned, unsigned, row_gates, node_gates, prefix_lines}

-- The bytes of a sign, a name being counted as six.
unfoldable pub weight : Sign → ℕ
weight (word w) = length (word_text w)
weight (name x) = 6
weight newline = 1

unfoldable pub weights : List Sign → ℕ
weights [] = 0
weights (s ∷ ss) = weight s + weights ss

pub weights_append : (ss rs : List Sign) → weights (ss ++ rs) ≡ weights ss + weights rs
unfolding weights
weights_append [] rs = omega arith
weights_append (s ∷ ss) rs = omega (arith, weights_append ss rs)

-- Signs whose names are below a million take no more bytes than they weigh.
pub signs_weigh : (most : ℕ) → most < 1000000 → (ss : List Sign) → names_up_to most ss ≡ true → length (signs_text ss) ≤ weights ss
unfolding signs_text sign_text weights weight names_up_to
signs_weigh most m [] h = omega arith
signs_weigh most m (word w ∷ ss) h = omega (arith, length-append (word_text w) (signs_text ss), signs_weigh most m ss h)
signs_weigh most m (name x ∷ ss) h =
    let below : x.number ≤ most = leb-true x.number most (and_left (leb x.number most) (names_up_to most ss) h) in
    omega (arith, length-append (digits x.number) (signs_text ss), at_most_six x.number (omega (arith, below, m)), signs_weigh most m ss (and_right (leb x.number most) (names_up_to most ss) h))
signs_weigh most m (newline ∷ ss) h = omega (arith, signs_weigh most m ss h)

-- What stands for a literal, names and lines weigh.
minus_weighs : (b : Bool) (x : Name) → weights (pick b (word minus_sign ∷ name x ∷ []) (name x ∷ [])) ≤ 7
unfolding weights weight word_text is_byte pick
minus_weighs true x = omega arith
minus_weighs false x = omega arith

literal_weighs : (l : Literal) → weights (literal_signs l) ≤ 7
unfolding literal_signs
literal_weighs l = minus_weighs l.minus l.name

names_weigh : (x : Name) (xs : List Name) → weights (names_signs x xs) ≡ 6 + 8 * length xs
unfolding weights weight names_signs word_text is_byte pick
names_weigh x [] = refl
names_weigh x (y ∷ ys) = omega (arith, names_weigh y ys)

list_weighs : (keyword : List ℕ) (x : Name) (xs : List Name)
    → weights (list_signs keyword x xs) ≡ length (word_text keyword) + (9 + 8 * length xs)
unfolding weights weight list_signs word_text is_byte pick
list_weighs keyword x xs =
    omega (arith, weights_append (names_signs x xs) (word closing ∷ newline ∷ []), names_weigh x xs)

pub output_weighs : (l : Literal) → weights (output_signs l) ≤ 16
unfolding weights weight output_signs word_text is_byte pick
output_weighs l = omega (arith, weights_append (literal_signs l) (word closing ∷ newline ∷ []), literal_weighs l)

pub free_weighs : (xs : List ℕ) → weights (free_signs (map named xs)) ≤ 5 + 8 * length xs
unfolding free_signs weights word_text is_byte pick
free_weighs [] = omega arith
free_weighs (x ∷ xs) = omega (arith, list_weighs free_word (named x) (map named xs), length-map xs named)

quantifier_weighs : (q : Quantifier) → length (word_text (quantifier_word q)) ≡ 6
unfolding quantifier_word word_text is_byte pick
quantifier_weighs exists = refl
quantifier_weighs for_all = refl

-- A block's line: 7 and 8 for each name; 15 for each name are enough too, since a line has one.
block_weighs : (q : Quantifier) (xs : List ℕ)
    → (weights (prefix_signs (list_lines q xs)) ≤ 7 + 8 * length xs) × (weights (prefix_signs (list_lines q xs)) ≤ 15 * length xs)
unfolding prefix_signs list_lines weights
block_weighs q [] = (omega arith, omega arith)
block_weighs q (x ∷ xs) =
    let e : weights (list_signs (quantifier_word q) (named x) (map named xs) ++ []) ≡ 15 + 8 * length xs =
    weights_append (list_signs (quantifier_word q) (named x) (map named xs)) []
    ∙ omega (arith, list_weighs (quantifier_word q) (named x) (map named xs), quantifier_weighs q, length-map xs named) in
    (omega (arith, e), omega (arith, e))

prefix_signs-append : (ls ms : List Line) → prefix_signs (ls ++ ms) ≡ prefix_signs ls ++ prefix_signs ms
unfolding prefix_signs
prefix_signs-append [] ms = refl
prefix_signs-append (l ∷ ls) ms =
    let ss = list_signs (quantifier_word l.quantifier) l.first l.others in
    ap (λ (rs : List Sign). ss ++ rs) (prefix_signs-append ls ms) ∙ sym (append_assoc ss (prefix_signs ls) (prefix_signs ms))

pub prefix_weighs : (bs : List Block)
    → (weights (prefix_signs (prefix_lines bs)) ≤ 7 * length bs + 8 * length (prefix_names bs))
    × (weights (prefix_signs (prefix_lines bs)) ≤ 15 * length (prefix_names bs))
unfolding prefix_lines prefix_names flat_map prefix_signs weights
prefix_weighs [] = (omega arith, omega arith)
prefix_weighs (b ∷ bs) =
    let first = list_lines b.quantifier b.variables in
    let e : weights (prefix_signs (first ++ prefix_lines bs)) ≡ weights (prefix_signs first) + weights (prefix_signs (prefix_lines bs)) =
    ap weights (prefix_signs-append first (prefix_lines bs)) ∙ weights_append (prefix_signs first) (prefix_signs (prefix_lines bs)) in
    let n = length-append b.variables (prefix_names bs) in
    let one = block_weighs b.quantifier b.variables in
    let more = prefix_weighs bs in
    (omega (arith, e, n, one.0, more.0), omega (arith, e, n, one.1, more.1))

-- A gate line.
and_weighs : (g : Name) (l m : Literal) → weights (gate_signs (junction_gate conjunction g (l ∷ m ∷ []))) ≤ 31
unfolding gate_signs junction_word any_inputs_signs inputs_signs weights weight word_text is_byte pick
and_weighs g l m =
    omega (
      arith,
      weights_append (literal_signs l ++ (word comma ∷ literal_signs m)) (word closing ∷ newline ∷ []),
      weights_append (literal_signs l) (word comma ∷ literal_signs m),
      literal_weighs l,
      literal_weighs m,
    )

empty_weighs : (g : Name) → weights (gate_signs (junction_gate conjunction g [])) ≤ 31
unfolding gate_signs junction_word any_inputs_signs weights weight word_text is_byte pick
empty_weighs g = omega arith

xor_weighs : (g : Name) (l m : Literal) → weights (gate_signs (xor_gate g l m)) ≤ 31
unfolding gate_signs weights weight word_text is_byte pick
xor_weighs g l m =
    omega (
      arith,
      weights_append (literal_signs l) (word comma ∷ (literal_signs m ++ (word closing ∷ newline ∷ []))),
      weights_append (literal_signs m) (word closing ∷ newline ∷ []),
      literal_weighs l,
      literal_weighs m,
    )

single : (g : Gate) → weights (gate_signs g) ≤ 31 → weights (gates_signs (g ∷ [])) ≤ 31
unfolding gates_signs weights
single g h = omega (arith, weights_append (gate_signs g) [], h)

row_weighs : (k : RowKind) (left right : Bool) (g : ℕ) (l m : Literal) → weights (gates_signs (row_gates k left right g l m)) ≤ 31
unfolding row_gates gates_signs weights
row_weighs constant_row left right g l m = single _ (empty_weighs (named g))
row_weighs left_row left right g l m = omega arith
row_weighs right_row left right g l m = omega arith
row_weighs and_row left right g l m = single _ (and_weighs (named g) (turned left l) (turned right m))
row_weighs xor_row left right g l m = single _ (xor_weighs (named g) (unsigned l) (unsigned m))

pub node_weighs : (at : ℕ → Literal) (g : ℕ) (nd : Node) → weights (gates_signs (node_gates at g nd)) ≤ 31
unfolding node_gates gates_signs weights
node_weighs at g (constant c) = single _ (empty_weighs (named g))
node_weighs at g (variable x) = omega arith
node_weighs at g (negation a) = omega arith
node_weighs at g (operator f a b) = row_weighs (row f).kind (row f).left (row f).right g (at a) (at b)
node_weighs at g (block q xs a) = omega arith

gates_signs-append : (gs hs : List Gate) → gates_signs (gs ++ hs) ≡ gates_signs gs ++ gates_signs hs
unfolding gates_signs
gates_signs-append [] hs = refl
gates_signs-append (g ∷ gs) hs =
    ap (λ (rs : List Sign). gate_signs g ++ rs) (gates_signs-append gs hs) ∙ sym (append_assoc (gate_signs g) (gates_signs gs) (gates_signs hs))

part_weighs : (b : Bool) (gs : List Gate) → weights (gates_signs gs) ≤ 31 → weights (gates_signs (pick b gs [])) ≤ 31 * digit b
unfolding pick digit gates_signs weights
part_weighs true gs h = omega (arith, h)
part_weighs false gs h = omega arith

pub gates_weigh : (gate : ℕ → Bool) (line : ℕ → List Gate) (n : ℕ) → ((i : ℕ) → weights (gates_signs (line i)) ≤ 31)
    → weights (gates_signs (up_to (λ i. pick (gate i) (line i) []) n)) ≤ 31 * sum (λ i. digit (gate i)) n
unfolding up_to sum gates_signs weights
gates_weigh gate line zero h = omega arith
gates_weigh gate line (suc n) h =
    let before = up_to (λ i. pick (gate i) (line i) []) n in
    let last = pick (gate n) (line n) [] in
    omega (
      arith,
      ap weights (gates_signs-append before last) ∙ weights_append (gates_signs before) (gates_signs last),
      gates_weigh gate line n h,
      part_weighs (gate n) (line n) (h n),
    )
