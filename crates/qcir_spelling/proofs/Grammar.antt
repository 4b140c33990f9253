-- Signs that lead from a point through the points to the end are the rest of a file there.
-- Assumes nothing.
use mathlib.Core.Path.{◌≡◌, refl, sym, ◌∙◌, ap, subst}
use mathlib.Core.Bool.{Bool, true, false}
use mathlib.Core.List.{List, [], ◌∷◌, ◌++◌, append_assoc}
use Prim.Native.Nat.{ℕ, zero, suc, ◌+◌}
use native.Mathlib.Omega.{arith}
use Rattle.lists.specs.Choice.{pick}
use Rattle.formula.specs.Node.{Quantifier, exists, for_all}
use Rattle.qcir.specs.File.{Name, Literal, Junction, conjunction, disjunction, Gate, junction_gate, xor_gate, quantifier_gate, Line, File}
use Rattle.qcir.specs.Spelling.{Sign, word, name, newline, comma, closing, opening, minus_sign, semicolon, equals, output_word, free_word, xor_word, and_word, or_word, exists_word, forall_word, literal_signs, names_signs, inputs_signs, any_inputs_signs, list_signs, free_signs, prefix_signs, output_signs, gate_signs, gates_signs, file_signs, quantifier_word, junction_word}
use Rattle.qcir_spelling.specs.Machine.{Arrow, Row, row, row_at, arrow, arrow_of, same, point, points}
use Rattle.qcir_spelling.proofs.Rows.{choose, same_equal}

-- What may follow at the points within a line.

-- after a name of a list
unfoldable more_names : List Name → List Sign
more_names [] = []
more_names (y ∷ ys) = word comma ∷ names_signs y ys

names_more : (x : Name) (xs : List Name) → name x ∷ more_names xs ≡ names_signs x xs
unfolding more_names names_signs
names_more x [] = refl
names_more x (y ∷ ys) = refl

-- after an input
unfoldable more_inputs : List Literal → List Sign
more_inputs [] = []
more_inputs (m ∷ ms) = word comma ∷ inputs_signs m ms

inputs_more : (m : Bool) (x : Name) (ls : List Literal) → literal_signs (record { minus = m; name = x }) ++ more_inputs ls ≡ inputs_signs (record { minus = m; name = x }) ls
unfolding more_inputs inputs_signs literal_signs pick
inputs_more true x [] = refl
inputs_more true x (l ∷ ls) = refl
inputs_more false x [] = refl
inputs_more false x (l ∷ ls) = refl

-- the end of the output line or a gate line, and the gate lines after it
abbrev line_tail : List Gate → List Sign
line_tail gs = word closing ∷ newline ∷ gates_signs gs

-- the lines after the free line or a prefix line
record Body : Type 0 where
  prefix : List Line
  output : Literal
  gates : List Gate

unfoldable body_signs : Body → List Sign
body_signs b = prefix_signs b.prefix ++ (output_signs b.output ++ gates_signs b.gates)

abbrev body_tail : Body → List Sign
body_tail b = word closing ∷ newline ∷ body_signs b

-- The signs are a rest of that form.
abbrev Nothing : List Sign → Type 0
Nothing ss = ⊥

-- at the start of the file's lines, and before
abbrev Lines : List Sign → Type 0
Lines ss = (f : File) × (ss ≡ file_signs f)

abbrev Start : List Sign → Type 0
Start ss = (f : File) × (ss ≡ newline ∷ file_signs f)

-- in the free line or a prefix line: before its bracket, before a name, after a name, after its end, and before the next line
abbrev ListWord : List Sign → Type 0
ListWord ss = (x : Name) × (xs : List Name) × (b : Body) × (ss ≡ word opening ∷ (names_signs x xs ++ body_tail b))

abbrev ListName : List Sign → Type 0
ListName ss = (x : Name) × (xs : List Name) × (b : Body) × (ss ≡ names_signs x xs ++ body_tail b)

abbrev ListMore : List Sign → Type 0
ListMore ss = (xs : List Name) × (b : Body) × (ss ≡ more_names xs ++ body_tail b)

abbrev ListEnd : List Sign → Type 0
ListEnd ss = (b : Body) × (ss ≡ newline ∷ body_signs b)

abbrev Later : List Sign → Type 0
Later ss = (b : Body) × (ss ≡ body_signs b)

-- the output, or a last input: its line's bracket, its literal, its name, its end
abbrev OutputWord : List Sign → Type 0
OutputWord ss = (l : Literal) × (gs : List Gate) × (ss ≡ word opening ∷ (literal_signs l ++ line_tail gs))

abbrev LastLiteral : List Sign → Type 0
LastLiteral ss = (l : Literal) × (gs : List Gate) × (ss ≡ literal_signs l ++ line_tail gs)

abbrev LastName : List Sign → Type 0
LastName ss = (x : Name) × (gs : List Gate) × (ss ≡ name x ∷ line_tail gs)

abbrev LastEnd : List Sign → Type 0
LastEnd ss = (gs : List Gate) × (ss ≡ line_tail gs)

abbrev LineEnd : List Sign → Type 0
LineEnd ss = (gs : List Gate) × (ss ≡ newline ∷ gates_signs gs)

abbrev Gates : List Sign → Type 0
Gates ss = (gs : List Gate) × (ss ≡ gates_signs gs)

-- a gate after its name, and after the equals sign
abbrev GateName : List Sign → Type 0
GateName ss = (gate : Name → Gate) × (gs : List Gate) × ((g : Name) → name g ∷ ss ≡ gate_signs (gate g) ++ gates_signs gs)

abbrev GateEquals : List Sign → Type 0
GateEquals ss = (gate : Name → Gate) × (gs : List Gate) × ((g : Name) → name g ∷ word equals ∷ ss ≡ gate_signs (gate g) ++ gates_signs gs)

-- and(..), or(..): the bracket, any inputs, an input, its name, and what follows it
abbrev JunctionWord : List Sign → Type 0
JunctionWord ss = (ls : List Literal) × (gs : List Gate) × (ss ≡ word opening ∷ (any_inputs_signs ls ++ line_tail gs))

abbrev AnyInputs : List Sign → Type 0
AnyInputs ss = (ls : List Literal) × (gs : List Gate) × (ss ≡ any_inputs_signs ls ++ line_tail gs)

abbrev Inputs : List Sign → Type 0
Inputs ss = (l : Literal) × (ls : List Literal) × (gs : List Gate) × (ss ≡ inputs_signs l ls ++ line_tail gs)

abbrev InputName : List Sign → Type 0
InputName ss = (x : Name) × (ls : List Literal) × (gs : List Gate) × (ss ≡ name x ∷ (more_inputs ls ++ line_tail gs))

abbrev MoreInputs : List Sign → Type 0
MoreInputs ss = (ls : List Literal) × (gs : List Gate) × (ss ≡ more_inputs ls ++ line_tail gs)

-- xor(..): the bracket, its first input, that input's name, and what follows it
abbrev XorWord : List Sign → Type 0
XorWord ss = (l r : Literal) × (gs : List Gate) × (ss ≡ word opening ∷ (literal_signs l ++ (word comma ∷ (literal_signs r ++ line_tail gs))))

abbrev XorFirst : List Sign → Type 0
XorFirst ss = (l r : Literal) × (gs : List Gate) × (ss ≡ literal_signs l ++ (word comma ∷ (literal_signs r ++ line_tail gs)))

abbrev XorName : List Sign → Type 0
XorName ss = (x : Name) × (r : Literal) × (gs : List Gate) × (ss ≡ name x ∷ word comma ∷ (literal_signs r ++ line_tail gs))

abbrev XorMore : List Sign → Type 0
XorMore ss = (r : Literal) × (gs : List Gate) × (ss ≡ word comma ∷ (literal_signs r ++ line_tail gs))

-- exists(..; ..), forall(..; ..): the bracket, a variable, and what follows it
abbrev BoundWord : List Sign → Type 0
BoundWord ss = (x : Name) × (xs : List Name) × (l : Literal) × (gs : List Gate) × (ss ≡ word opening ∷ (names_signs x xs ++ (word semicolon ∷ (literal_signs l ++ line_tail gs))))

abbrev BoundName : List Sign → Type 0
BoundName ss = (x : Name) × (xs : List Name) × (l : Literal) × (gs : List Gate) × (ss ≡ names_signs x xs ++ (word semicolon ∷ (literal_signs l ++ line_tail gs)))

abbrev BoundMore : List Sign → Type 0
BoundMore ss = (xs : List Name) × (l : Literal) × (gs : List Gate) × (ss ≡ more_names xs ++ (word semicolon ∷ (literal_signs l ++ line_tail gs)))

-- One sign more, at each of them.
module _ (ss : List Sign) where
  line_start : Lines ss → Start (newline ∷ ss)
  line_start h = (h.0, ap (λ rest. newline ∷ rest) h.1)

  later_lines : Later ss → Lines ss
  unfolding file_signs free_signs body_signs
  later_lines h =
      let b = h.0 in (record { free = []; prefix = b.prefix; output = b.output; gates = b.gates }, h.1)

  free_line : ListWord ss → Lines (word free_word ∷ ss)
  unfolding file_signs free_signs list_signs body_signs
  free_line h =
      let x = h.0 in
      let xs = h.1 in
      let b = h.2 in (
        record { free = x ∷ xs; prefix = b.prefix; output = b.output; gates = b.gates },
        ap (λ rest. word free_word ∷ rest) h.3
            ∙ ap (λ rest. word free_word ∷ word opening ∷ rest) (sym (append_assoc (names_signs x xs) (word closing ∷ newline ∷ []) (body_signs b))),
      )

  prefix_line : (q : Quantifier) → ListWord ss → Later (word (quantifier_word q) ∷ ss)
  unfolding prefix_signs list_signs body_signs
  prefix_line q h =
      let x = h.0 in
      let xs = h.1 in
      let b = h.2 in
      let rest : List Sign = output_signs b.output ++ gates_signs b.gates in (
        record { prefix = record { quantifier = q; first = x; others = xs } ∷ b.prefix; output = b.output; gates = b.gates },
        ap (λ rest. word (quantifier_word q) ∷ rest) h.3
            ∙ ap (λ rest. word (quantifier_word q) ∷ word opening ∷ rest)
            (sym (append_assoc (names_signs x xs ++ (word closing ∷ newline ∷ [])) (prefix_signs b.prefix) rest
            ∙ append_assoc (names_signs x xs) (word closing ∷ newline ∷ []) (prefix_signs b.prefix ++ rest))),
      )

  exists_line : ListWord ss → Later (word exists_word ∷ ss)
  unfolding quantifier_word
  exists_line = prefix_line exists

  forall_line : ListWord ss → Later (word forall_word ∷ ss)
  unfolding quantifier_word
  forall_line = prefix_line for_all

  output_line : OutputWord ss → Later (word output_word ∷ ss)
  unfolding prefix_signs output_signs body_signs
  output_line h = (
    record { prefix = []; output = h.0; gates = h.1 },
    ap (λ rest. word output_word ∷ rest) h.2
        ∙ ap (λ rest. word output_word ∷ word opening ∷ rest) (sym (append_assoc (literal_signs h.0) (word closing ∷ newline ∷ []) (gates_signs h.1))),
  )

  list_word : ListName ss → ListWord (word opening ∷ ss)
  list_word h = (h.0, h.1, h.2, ap (λ rest. word opening ∷ rest) h.3)

  list_name : (x : Name) → ListMore ss → ListName (name x ∷ ss)
  list_name x h = (x, h.0, h.1, ap (λ rest. name x ∷ rest) h.2 ∙ ap (λ rest. rest ++ body_tail h.1) (names_more x h.0))

  list_comma : ListName ss → ListMore (word comma ∷ ss)
  unfolding more_names
  list_comma h = (h.0 ∷ h.1, h.2, ap (λ rest. word comma ∷ rest) h.3)

  list_closing : ListEnd ss → ListMore (word closing ∷ ss)
  unfolding more_names
  list_closing h = ([], h.0, ap (λ rest. word closing ∷ rest) h.1)

  list_end : Later ss → ListEnd (newline ∷ ss)
  list_end h = (h.0, ap (λ rest. newline ∷ rest) h.1)

  output_opening : LastLiteral ss → OutputWord (word opening ∷ ss)
  output_opening h = (h.0, h.1, ap (λ rest. word opening ∷ rest) h.2)

  last_minus : LastName ss → LastLiteral (word minus_sign ∷ ss)
  unfolding literal_signs pick
  last_minus h = (record { minus = true; name = h.0 }, h.1, ap (λ rest. word minus_sign ∷ rest) h.2)

  last_plus : (x : Name) → LastEnd ss → LastLiteral (name x ∷ ss)
  unfolding literal_signs pick
  last_plus x h = (record { minus = false; name = x }, h.0, ap (λ rest. name x ∷ rest) h.1)

  last_name_lem : (x : Name) → LastEnd ss → LastName (name x ∷ ss)
  last_name_lem x h = (x, h.0, ap (λ rest. name x ∷ rest) h.1)

  last_closing : LineEnd ss → LastEnd (word closing ∷ ss)
  last_closing h = (h.0, ap (λ rest. word closing ∷ rest) h.1)

  at_line_end : Gates ss → LineEnd (newline ∷ ss)
  at_line_end h = (h.0, ap (λ rest. newline ∷ rest) h.1)

  gate_name_lem : (g : Name) → GateName ss → Gates (name g ∷ ss)
  unfolding gates_signs
  gate_name_lem g h = (h.0 g ∷ h.1, h.2 g)

  gate_equals : GateEquals ss → GateName (word equals ∷ ss)
  gate_equals h = h

  junction_word_lem : (j : Junction) → JunctionWord ss → GateEquals (word (junction_word j) ∷ ss)
  unfolding gate_signs
  junction_word_lem j h = (
    (λ g. junction_gate j g h.0),
    h.1,
    λ g. ap (λ rest. name g ∷ word equals ∷ word (junction_word j) ∷ rest) h.2
        ∙ ap (λ rest. name g ∷ word equals ∷ word (junction_word j) ∷ word opening ∷ rest)
        (sym (append_assoc (any_inputs_signs h.0) (word closing ∷ newline ∷ []) (gates_signs h.1))),
  )

  and_gate : JunctionWord ss → GateEquals (word and_word ∷ ss)
  unfolding junction_word
  and_gate = junction_word_lem conjunction

  or_gate : JunctionWord ss → GateEquals (word or_word ∷ ss)
  unfolding junction_word
  or_gate = junction_word_lem disjunction

  xor_line : XorWord ss → GateEquals (word xor_word ∷ ss)
  unfolding gate_signs
  xor_line h =
      let l = h.0 in
      let r = h.1 in
      let gs = h.2 in (
        (λ g. xor_gate g l r),
        gs,
        λ g. ap (λ rest. name g ∷ word equals ∷ word xor_word ∷ rest) h.3
            ∙ ap (λ rest. name g ∷ word equals ∷ word xor_word ∷ word opening ∷ rest)
            (sym (append_assoc (literal_signs l) (word comma ∷ (literal_signs r ++ (word closing ∷ newline ∷ []))) (gates_signs gs)
            ∙ ap (λ rest. literal_signs l ++ (word comma ∷ rest)) (append_assoc (literal_signs r) (word closing ∷ newline ∷ []) (gates_signs gs)))),
      )

  bound_word : (q : Quantifier) → BoundWord ss → GateEquals (word (quantifier_word q) ∷ ss)
  unfolding gate_signs
  bound_word q h =
      let x = h.0 in
      let xs = h.1 in
      let l = h.2 in
      let gs = h.3 in (
        (λ g. quantifier_gate q g x xs l),
        gs,
        λ g. ap (λ rest. name g ∷ word equals ∷ word (quantifier_word q) ∷ rest) h.4
            ∙ ap (λ rest. name g ∷ word equals ∷ word (quantifier_word q) ∷ word opening ∷ rest)
            (sym (append_assoc (names_signs x xs) (word semicolon ∷ (literal_signs l ++ (word closing ∷ newline ∷ []))) (gates_signs gs)
            ∙ ap (λ rest. names_signs x xs ++ (word semicolon ∷ rest)) (append_assoc (literal_signs l) (word closing ∷ newline ∷ []) (gates_signs gs)))),
      )

  exists_gate : BoundWord ss → GateEquals (word exists_word ∷ ss)
  unfolding quantifier_word
  exists_gate = bound_word exists

  forall_gate : BoundWord ss → GateEquals (word forall_word ∷ ss)
  unfolding quantifier_word
  forall_gate = bound_word for_all

  junction_opening : AnyInputs ss → JunctionWord (word opening ∷ ss)
  junction_opening h = (h.0, h.1, ap (λ rest. word opening ∷ rest) h.2)

  inputs_minus : InputName ss → Inputs (word minus_sign ∷ ss)
  unfolding literal_signs pick
  inputs_minus h = (
    record { minus = true; name = h.0 },
    h.1,
    h.2,
    ap (λ rest. word minus_sign ∷ rest) h.3 ∙ ap (λ rest. rest ++ line_tail h.2) (inputs_more true h.0 h.1),
  )

  inputs_plus : (x : Name) → MoreInputs ss → Inputs (name x ∷ ss)
  unfolding literal_signs pick
  inputs_plus x h = (
    record { minus = false; name = x },
    h.0,
    h.1,
    ap (λ rest. name x ∷ rest) h.2 ∙ ap (λ rest. rest ++ line_tail h.1) (inputs_more false x h.0),
  )

  any_some : Inputs ss → AnyInputs ss
  unfolding any_inputs_signs
  any_some h = (h.0 ∷ h.1, h.2, h.3)

  any_none : LineEnd ss → AnyInputs (word closing ∷ ss)
  unfolding any_inputs_signs
  any_none h = ([], h.0, ap (λ rest. word closing ∷ rest) h.1)

  input_name : (x : Name) → MoreInputs ss → InputName (name x ∷ ss)
  input_name x h = (x, h.0, h.1, ap (λ rest. name x ∷ rest) h.2)

  input_comma : Inputs ss → MoreInputs (word comma ∷ ss)
  unfolding more_inputs
  input_comma h = (h.0 ∷ h.1, h.2, ap (λ rest. word comma ∷ rest) h.3)

  input_closing : LineEnd ss → MoreInputs (word closing ∷ ss)
  unfolding more_inputs
  input_closing h = ([], h.0, ap (λ rest. word closing ∷ rest) h.1)

  xor_opening : XorFirst ss → XorWord (word opening ∷ ss)
  xor_opening h = (h.0, h.1, h.2, ap (λ rest. word opening ∷ rest) h.3)

  xor_minus : XorName ss → XorFirst (word minus_sign ∷ ss)
  unfolding literal_signs pick
  xor_minus h = (record { minus = true; name = h.0 }, h.1, h.2, ap (λ rest. word minus_sign ∷ rest) h.3)

  xor_plus : (x : Name) → XorMore ss → XorFirst (name x ∷ ss)
  unfolding literal_signs pick
  xor_plus x h = (record { minus = false; name = x }, h.0, h.1, ap (λ rest. name x ∷ rest) h.2)

  xor_name : (x : Name) → XorMore ss → XorName (name x ∷ ss)
  xor_name x h = (x, h.0, h.1, ap (λ rest. name x ∷ rest) h.2)

  xor_comma : LastLiteral ss → XorMore (word comma ∷ ss)
  xor_comma h = (h.0, h.1, ap (λ rest. word comma ∷ rest) h.2)

  bound_opening : BoundName ss → BoundWord (word opening ∷ ss)
  bound_opening h = (h.0, h.1, h.2, h.3, ap (λ rest. word opening ∷ rest) h.4)

  bound_name : (x : Name) → BoundMore ss → BoundName (name x ∷ ss)
  bound_name x h = (
    x,
    h.0,
    h.1,
    h.2,
    ap (λ rest. name x ∷ rest) h.3
        ∙ ap (λ rest. rest ++ (word semicolon ∷ (literal_signs h.1 ++ line_tail h.2))) (names_more x h.0),
  )

  bound_comma : BoundName ss → BoundMore (word comma ∷ ss)
  unfolding more_names
  bound_comma h = (h.0 ∷ h.1, h.2, h.3, ap (λ rest. word comma ∷ rest) h.4)

  bound_semicolon : LastLiteral ss → BoundMore (word semicolon ∷ ss)
  unfolding more_names
  bound_semicolon h = ([], h.0, h.1, ap (λ rest. word semicolon ∷ rest) h.2)

-- the rests at the points, in their order
unfoldable rests : List (List Sign → Type 0)
rests =
    Nothing ∷ Start ∷ Lines
    -- 3: the free line
    ∷ ListWord ∷ ListName ∷ ListMore ∷ ListName ∷ ListMore ∷ ListEnd
    -- 9: a prefix line
    ∷ ListWord ∷ ListName ∷ ListMore ∷ ListWord ∷ ListName ∷ ListMore ∷ ListName ∷ ListMore ∷ Later
    -- 18: the output line
    ∷ OutputWord ∷ LastLiteral ∷ LastName ∷ LastEnd ∷ LastEnd ∷ LineEnd ∷ Gates
    -- 25: a gate line
    ∷ GateName ∷ GateEquals ∷ JunctionWord ∷ JunctionWord ∷ XorWord ∷ BoundWord ∷ BoundWord
    -- 32: inputs
    ∷ AnyInputs ∷ Inputs ∷ InputName ∷ MoreInputs ∷ MoreInputs
    -- 37: xor
    ∷ XorFirst ∷ XorName ∷ XorMore ∷ XorMore
    -- 41: the last input and quantified gates
    ∷ LastLiteral ∷ LastName ∷ LastEnd ∷ BoundName ∷ BoundMore ∷ LastEnd ∷ []

unfoldable rest_at : List (List Sign → Type 0) → ℕ → List Sign → Type 0
rest_at [] c ss = ⊥
rest_at (r ∷ rs) zero ss = r ss
rest_at (r ∷ rs) (suc c) ss = rest_at rs c ss

-- The signs are the rest of a file at point c.
pub Rest : ℕ → List Sign → Type 0
Rest c ss = rest_at rests c ss

-- What the words, a name and a line's end add.
data Words (c : ℕ) : List Arrow → Type 0 where
  no_words : Words c []
  ◌or◌ : {a : Arrow} {rest : List Arrow} → ((ss : List Sign) → Rest a.target ss → Rest c (word a.word ∷ ss)) → Words c rest → Words c (a ∷ rest)

infixr 40 ◌or◌
record Law (c : ℕ) (r : Row) : Type 0 where
  words : Words c r.words
  named : (r.named ≡ 0 → ⊥) → (ss : List Sign) (x : Name) → Rest r.named ss → Rest c (name x ∷ ss)
  ended : (r.ended ≡ 0 → ⊥) → (ss : List Sign) → Rest r.ended ss → Rest c (newline ∷ ss)

data Laws : ℕ → List Row → Type 0 where
  no_rows : {c : ℕ} → Laws c []
  ◌then◌ : {c : ℕ} {r : Row} {rs : List Row} → Law c r → Laws (suc c) rs → Laws c (r ∷ rs)

infixr 30 ◌then◌
by_words : {c : ℕ} {arrows : List Arrow} {starts : Bool} → Words c arrows → Law c (record { words = arrows; named = 0; ended = 0; starts = starts })
by_words ws = record { words = ws; named = λ n. absurd (n refl); ended = λ n. absurd (n refl) }

by_name : {c n : ℕ} {arrows : List Arrow} {starts : Bool} → Words c arrows → ((ss : List Sign) (x : Name) → Rest n ss → Rest c (name x ∷ ss))
    → Law c (record { words = arrows; named = n; ended = 0; starts = starts })
by_name ws f = record { words = ws; named = λ n. f; ended = λ n. absurd (n refl) }

by_end : {c n : ℕ} {starts : Bool} → ((ss : List Sign) → Rest n ss → Rest c (newline ∷ ss)) → Law c (record { words = []; named = 0; ended = n; starts = starts })
by_end f = record { words = no_words; named = λ n. absurd (n refl); ended = λ n. f }

laws : Laws 0 points
unfolding Rest rest_at rests points row arrow
laws =
    by_words no_words then by_end line_start
    then by_words
    (free_line or (λ ss h. later_lines (word exists_word ∷ ss) (exists_line ss h)) or (λ ss h. later_lines (word forall_word ∷ ss) (forall_line ss h))
    or (λ ss h. later_lines (word output_word ∷ ss) (output_line ss h)) or no_words)
    -- 3: the free line
    then by_words (list_word or no_words)
    then by_name no_words list_name
    then by_words (list_comma or list_closing or no_words)
    then by_name no_words list_name
    then by_words (list_comma or list_closing or no_words)
    then by_end list_end
    -- 9: a prefix line
    then by_words (list_word or no_words)
    then by_name no_words list_name
    then by_words (list_comma or list_closing or no_words)
    then by_words (list_word or no_words)
    then by_name no_words list_name
    then by_words (list_comma or list_closing or no_words)
    then by_name no_words list_name
    then by_words (list_comma or list_closing or no_words)
    then by_words (exists_line or forall_line or output_line or no_words)
    -- 18: the output line
    then by_words (output_opening or no_words)
    then by_name (last_minus or no_words) last_plus
    then by_name no_words last_name_lem
    then by_words (last_closing or no_words)
    then by_words (last_closing or no_words)
    then by_end at_line_end
    then by_name no_words gate_name_lem
    -- 25: a gate line
    then by_words (gate_equals or no_words)
    then by_words (and_gate or or_gate or xor_line or exists_gate or forall_gate or no_words)
    then by_words (junction_opening or no_words)
    then by_words (junction_opening or no_words)
    then by_words (xor_opening or no_words)
    then by_words (bound_opening or no_words)
    then by_words (bound_opening or no_words)
    -- 32: inputs
    then by_name (any_none or (λ ss h. any_some (word minus_sign ∷ ss) (inputs_minus ss h)) or no_words) (λ ss x h. any_some (name x ∷ ss) (inputs_plus ss x h))
    then by_name (inputs_minus or no_words) inputs_plus
    then by_name no_words input_name
    then by_words (input_comma or input_closing or no_words)
    then by_words (input_comma or input_closing or no_words)
    -- 37: xor
    then by_name (xor_minus or no_words) xor_plus
    then by_name no_words xor_name
    then by_words (xor_comma or no_words)
    then by_words (xor_comma or no_words)
    -- 41: the last input and quantified gates
    then by_name (last_minus or no_words) last_plus
    then by_name no_words last_name_lem
    then by_words (last_closing or no_words)
    then by_name no_words bound_name
    then by_words (bound_comma or bound_semicolon or no_words)
    then by_words (last_closing or no_words)
    then no_rows

law_in : (c : ℕ) (rs : List Row) → Laws c rs → (i : ℕ) → Law (c + i) (row_at rs i)
unfolding row_at row
law_in c [] ls i = by_words no_words
law_in c (r ∷ rs) (l then ls) zero = let e : c + 0 ≡ c = omega arith in rw e l
law_in c (r ∷ rs) (l then ls) (suc i) = let e : c + suc i ≡ suc c + i = omega arith in rw e (law_in (suc c) rs ls i)

law : (c : ℕ) → Law c (point c)
law c = let e : 0 + c ≡ c = omega arith in rw e at (law_in 0 points laws c)

word_adds : (c : ℕ) (w : List ℕ) (ss : List Sign) (arrows : List Arrow) → Words c arrows → ((arrow_of w arrows).target ≡ 0 → ⊥)
    → Rest (arrow_of w arrows).target ss → Rest c (word w ∷ ss)
unfolding arrow_of arrow
word_adds c w ss [] ws n = absurd (n refl)
word_adds c w ss (a ∷ rest) (f or ws) n =
    choose (λ (b : Arrow). (b.target ≡ 0 → ⊥) → Rest b.target ss → Rest c (word w ∷ ss)) (same w a.word) a (arrow_of w rest)
    (λ e m h. subst (λ v. Rest c (word v ∷ ss)) (sym (same_equal w a.word e)) (f ss h))
    (λ e m h. word_adds c w ss rest ws m h) n

-- A sign that may come at a point, and a rest after it, are a rest there.
pub rest_word : (c : ℕ) (w : List ℕ) (ss : List Sign) → ((arrow_of w (point c).words).target ≡ 0 → ⊥) → Rest (arrow_of w (point c).words).target ss → Rest c (word w ∷ ss)
rest_word c w ss n h = word_adds c w ss (point c).words (law c).words n h

pub rest_name : (c : ℕ) (x : Name) (ss : List Sign) → ((point c).named ≡ 0 → ⊥) → Rest (point c).named ss → Rest c (name x ∷ ss)
rest_name c x ss n h = (law c).named n ss x h

pub rest_end : (c : ℕ) (ss : List Sign) → ((point c).ended ≡ 0 → ⊥) → Rest (point c).ended ss → Rest c (newline ∷ ss)
rest_end c ss n h = (law c).ended n ss h

-- After the gate lines nothing needs to come.
pub rest_done : Rest 24 []
unfolding Rest rest_at rests gates_signs
rest_done = ([], refl)

-- The rest after the header is a file's signs.
pub rest_file : (ss : List Sign) → Rest 1 ss → (f : File) × (ss ≡ newline ∷ file_signs f)
unfolding Rest rest_at rests
rest_file ss h = h
