-- Lines put piece by piece.
-- Assumes nothing.
use mathlib.Core.List.{List, [], ◌∷◌, ◌++◌}
use mathlib.Core.Path.{◌≡◌, sym, ◌∙◌, ap}
use Prim.Native.Nat.{ℕ, ◌+◌, ◌/◌, ◌%◌, ◌≤◌, ◌<◌}
use native.Mathlib.Omega.{arith}
use lib.Dec.{eqb}
use lib.ListN.{length, get_or}
use borrow.Author.Tests.{eqb-true, eqb-false}
use Rattle.lists.specs.Choice.{pick, Is, is_true, is_false, look}
use Rattle.qcir.specs.File.{Name, Literal, conjunction, junction_gate}
use Rattle.qcir.specs.Spelling.{word, name, opening, comma, literal_signs, prefix_signs, output_signs, gate_signs, quantifier_word}
use Rattle.texts.specs.Numerals.{digits}
use Rattle.formula.specs.Node.{Quantifier}
use Rattle.qcir_text.specs.Text.{is_byte, word_text, sign_text, signs_text}
use Rattle.texts.specs.Put.{Put}
use Rattle.qcir_text.specs.Pieces.{named, literal_of, list_lines, inputs_text, names_text, open_text}
use Rattle.texts.proofs.Lengths.{some_digit}
use Rattle.texts.proofs.Put.{put_none, put_then, put_over, put_as, put_from}
use Rattle.qcir_text.proofs.Texts.{end_signs, name_text_lem, literal_plus, literal_minus, output_text, constant_text, line_text_lem, open_first, open_names, names_text_lem, further, further_one, further_next}

-- a minus sign, and the number after it or over it
pub put_signed : (c : ℕ) {before mid after : List ℕ} {at m n : ℕ} → Put before at (45 ∷ []) mid m → Put mid (at + c % 2) (digits (c / 2)) after n
    → Put before at (signs_text (literal_signs (literal_of c))) after n
put_signed c {before} {mid} {after} {at} {m} {n} a b = go (look (eqb (c % 2) 1))
  where
    go : Is (eqb (c % 2) 1) → Put before at (signs_text (literal_signs (literal_of c))) after n
    go (is_true t) =
        let one : c % 2 ≡ 1 = eqb-true (c % 2) 1 t in
        let s : m ≡ at + c % 2 = omega (arith, a.counted) in
        put_as (literal_minus c one) (put_then a (put_from s b))
    go (is_false t) =
        let none : c % 2 ≡ 0 = omega (arith, eqb-false (c % 2) 1 t) in
        let s : at ≡ at + c % 2 = omega arith in
        put_as (literal_plus c none) (put_over a (put_from s b) (some_digit (c / 2)))

pub put_inputs_line : (l r : Literal) {before a b c after : List ℕ} {at j k m n : ℕ} → Put before at (signs_text (literal_signs l)) a j
    → Put a j (44 ∷ 32 ∷ []) b k → Put b k (signs_text (literal_signs r)) c m → Put c m (signs_text end_signs) after n
    → Put before at (inputs_text l r) after n
unfolding inputs_text signs_text sign_text word_text is_byte pick
put_inputs_line l r p q s t = put_then p (put_then q (put_then s t))

pub put_constant_line : (g : Name) {before a after : List ℕ} {at j n : ℕ} → Put before at (digits g.number) a j
    → Put a j (32 ∷ 61 ∷ 32 ∷ 97 ∷ 110 ∷ 100 ∷ 40 ∷ 41 ∷ 10 ∷ []) after n
    → Put before at (signs_text (gate_signs (junction_gate conjunction g []))) after n
put_constant_line g p q = put_as (constant_text g) (put_then p q)

pub put_output_line : (l : Literal) {before a b after : List ℕ} {at j k n : ℕ} → Put before at (111 ∷ 117 ∷ 116 ∷ 112 ∷ 117 ∷ 116 ∷ 40 ∷ []) a j
    → Put a j (signs_text (literal_signs l)) b k → Put b k (signs_text end_signs) after n
    → Put before at (signs_text (output_signs l)) after n
put_output_line l p q s = put_as (output_text l) (put_then p (put_then q s))

pub put_comma_name : (x : ℕ) {before a after : List ℕ} {at j n : ℕ} → Put before at (44 ∷ 32 ∷ []) a j → Put a j (digits x) after n
    → Put before at (signs_text (word comma ∷ name (named x) ∷ [])) after n
unfolding signs_text sign_text word_text is_byte pick
put_comma_name x p q = put_as (ap (λ t. 44 ∷ 32 ∷ t) (name_text_lem x)) (put_then p q)

pub put_opened : (keyword : List ℕ) (x : ℕ) {before a after : List ℕ} {at j n : ℕ} → Put before at (signs_text (word keyword ∷ word opening ∷ [])) a j
    → Put a j (digits x) after n → Put before at (open_text keyword (x ∷ [])) after n
put_opened keyword x p q = put_as (open_first keyword x) (put_then p q)

-- a block's line: its start, its names, its end
pub put_line : (q : Quantifier) (names : List ℕ) {before a b after : List ℕ} {at j k n : ℕ} → 0 < length names
    → Put before at (signs_text (word (quantifier_word q) ∷ word opening ∷ [])) a j → Put a j (names_text names) b k → Put b k (signs_text end_signs) after n
    → Put before at (signs_text (prefix_signs (list_lines q names))) after n
put_line q [] h p r s = absurd (omega arith)
put_line q (x ∷ xs) h p r s = put_as (line_text_lem q x xs) (put_then (open_put p r) s)
  where
    open_put : {before a b : List ℕ} {at j k : ℕ} → Put before at (signs_text (word (quantifier_word q) ∷ word opening ∷ [])) a j
        → Put a j (names_text (x ∷ xs)) b k → Put before at (open_text (quantifier_word q) (x ∷ xs)) b k
    open_put p r = put_as (open_names (quantifier_word q) x xs) (put_then p r)

-- no line without names
pub put_no_line : (q : Quantifier) (names : List ℕ) (before : List ℕ) (at : ℕ) → length names ≡ 0 → Put before at (signs_text (prefix_signs (list_lines q names))) before at
unfolding signs_text prefix_signs list_lines
put_no_line q [] before at h = put_none before at
put_no_line q (x ∷ xs) before at h = absurd (omega arith)

-- names after the first
pub put_no_further : (names before : List ℕ) (at : ℕ) → Put before at (further names 1) before at
put_no_further names before at = put_as (further_one names) (put_none before at)

pub put_further : (names : List ℕ) (i : ℕ) {before mid after : List ℕ} {at m n : ℕ} → 1 ≤ i → Put before at (further names i) mid m
    → Put mid m (signs_text (word comma ∷ name (named (get_or names i 0)) ∷ [])) after n → Put before at (further names (i + 1)) after n
put_further names i h p q = put_as (further_next names i h) (put_then p q)

pub put_all_names : (names : List ℕ) {before mid after : List ℕ} {at m n : ℕ} (i : ℕ) → 0 < length names → i ≡ length names
    → Put before at (digits (get_or names 0 0)) mid m → Put mid m (further names i) after n → Put before at (names_text names) after n
put_all_names names i h e p q = put_as (names_text_lem names h ∙ ap (λ k. digits (get_or names 0 0) ++ further names k) (sym e)) (put_then p q)
