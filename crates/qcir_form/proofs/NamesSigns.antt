-- Names among the signs of a file: they pass a test where the outer names and the gates' numbers do.
-- Assumes nothing.
use mathlib.Core.Path.{◌≡◌, refl, sym, ◌∙◌, ap}
use mathlib.Core.Bool.{Bool, true, ◌&&◌}
use mathlib.Core.List.{List, [], ◌∷◌, ◌++◌}
use Prim.Native.Nat.{ℕ, ◌≤◌, ◌<◌}
use native.Mathlib.Omega.{arith}
use lib.Dec.{leb}
use lib.ListN.{length}
use Rattle.lists.specs.Choice.{pick_yes, pick_no, Is, is_true, is_false, look, and_left, and_right, and_both}
use Rattle.lists.specs.Members.{mem}
use Rattle.lists.proofs.Members.{mem_left, mem_right, mem_head, mem_tail}
use Rattle.qcir.specs.File.{Name, Literal, Gate, junction_gate, xor_gate, quantifier_gate, gate_name, gate_variables, gate_inputs, Line, line_variables, prefix_variables, File, numbers_of, names_of}
use Rattle.qcir.specs.Spelling.{Sign, word, name, newline, literal_signs, names_signs, inputs_signs, any_inputs_signs, list_signs, free_signs, quantifier_word, prefix_signs, output_signs, gate_signs, gates_signs, file_signs, free_word}
use Rattle.qcir.specs.Unbounded.{names_up_to}
use Rattle.qcir.specs.Refusals.{outer_names}
use Rattle.qcir.proofs.GateLines.{numbers_append}
use Rattle.qcir_text.specs.Laws.{names_from_one}
use Rattle.qcir_form.proofs.PlacedLines.{Usable, outer_name, lower_gate, Rising, no_lines_lem, a_line, rising_le}

-- Every name among the signs passes the test.
unfoldable pub names_pass : (ℕ → Bool) → List Sign → Bool
names_pass p [] = true
names_pass p (word w ∷ ss) = names_pass p ss
names_pass p (name x ∷ ss) = p x.number && names_pass p ss
names_pass p (newline ∷ ss) = names_pass p ss

pub from_one_pass : (ss : List Sign) → names_from_one ss ≡ names_pass (leb 1) ss
unfolding names_from_one names_pass
from_one_pass [] = refl
from_one_pass (word w ∷ ss) = from_one_pass ss
from_one_pass (name x ∷ ss) = ap (λ b. leb 1 x.number && b) (from_one_pass ss)
from_one_pass (newline ∷ ss) = from_one_pass ss

pub up_to_pass : (most : ℕ) (ss : List Sign) → names_up_to most ss ≡ names_pass (λ x. leb x most) ss
unfolding names_up_to names_pass
up_to_pass most [] = refl
up_to_pass most (word w ∷ ss) = up_to_pass most ss
up_to_pass most (name x ∷ ss) = ap (λ b. leb x.number most && b) (up_to_pass most ss)
up_to_pass most (newline ∷ ss) = up_to_pass most ss

module _ (p : ℕ → Bool) where
  abbrev Pass : List Sign → Type 0
  Pass ss = names_pass p ss ≡ true

  -- every number of the list passes
  abbrev Each : List ℕ → Type 0
  Each xs = (x : ℕ) → mem x xs ≡ true → p x ≡ true

  pass_append : (ss rs : List Sign) → Pass ss → Pass rs → Pass (ss ++ rs)
  unfolding names_pass
  pass_append [] rs h k = k
  pass_append (word w ∷ ss) rs h k = pass_append ss rs h k
  pass_append (name x ∷ ss) rs h k =
      and_both (p x.number) _ (and_left (p x.number) (names_pass p ss) h) (pass_append ss rs (and_right (p x.number) (names_pass p ss) h) k)
  pass_append (newline ∷ ss) rs h k = pass_append ss rs h k

  pass_literal : (l : Literal) → p l.name.number ≡ true → Pass (literal_signs l)
  unfolding literal_signs names_pass
  pass_literal l h = go (look l.minus)
    where
      go : Is l.minus → Pass (literal_signs l)
      go (is_true e) = ap (names_pass p) (pick_yes _ _ _ e) ∙ and_both (p l.name.number) true h refl
      go (is_false e) = ap (names_pass p) (pick_no _ _ _ e) ∙ and_both (p l.name.number) true h refl

  pass_names : (x : Name) (xs : List Name) → Each (numbers_of (x ∷ xs)) → Pass (names_signs x xs)
  unfolding names_signs names_pass numbers_of
  pass_names x [] h = and_both (p x.number) true (h x.number (mem_head x.number [])) refl
  pass_names x (y ∷ ys) h =
      and_both (p x.number) _ (h x.number (mem_head x.number (numbers_of (y ∷ ys))))
      (pass_names y ys (λ z m. h z (mem_tail z x.number (numbers_of (y ∷ ys)) m)))

  pass_inputs : (l : Literal) (ls : List Literal) → Each (numbers_of (names_of (l ∷ ls))) → Pass (inputs_signs l ls)
  unfolding inputs_signs names_pass numbers_of names_of
  pass_inputs l [] h = pass_literal l (h l.name.number (mem_head l.name.number []))
  pass_inputs l (m ∷ ms) h =
      pass_append (literal_signs l) _ (pass_literal l (h l.name.number (mem_head l.name.number (numbers_of (names_of (m ∷ ms))))))
      (pass_inputs m ms (λ z k. h z (mem_tail z l.name.number (numbers_of (names_of (m ∷ ms))) k)))

  pass_any : (ls : List Literal) → Each (numbers_of (names_of ls)) → Pass (any_inputs_signs ls)
  unfolding any_inputs_signs names_pass
  pass_any [] h = refl
  pass_any (l ∷ ls) h = pass_inputs l ls h

  pass_list : (keyword : List ℕ) (x : Name) (xs : List Name) → Each (numbers_of (x ∷ xs)) → Pass (list_signs keyword x xs)
  unfolding list_signs names_pass
  pass_list keyword x xs h = pass_append (names_signs x xs) _ (pass_names x xs h) refl

  pass_free : (xs : List Name) → Each (numbers_of xs) → Pass (free_signs xs)
  unfolding free_signs names_pass
  pass_free [] h = refl
  pass_free (x ∷ xs) h = pass_list free_word x xs h

  pass_prefix : (ls : List Line) → Each (numbers_of (prefix_variables ls)) → Pass (prefix_signs ls)
  unfolding prefix_signs prefix_variables line_variables names_pass
  pass_prefix [] h = refl
  pass_prefix (l ∷ ls) h =
      let e = numbers_append (l.first ∷ l.others) (prefix_variables ls) in
      pass_append (list_signs (quantifier_word l.quantifier) l.first l.others) _
      (pass_list (quantifier_word l.quantifier) l.first l.others (λ x m. h x (ap (mem x) e ∙ mem_left x _ (numbers_of (prefix_variables ls)) m)))
      (pass_prefix ls (λ x m. h x (ap (mem x) e ∙ mem_right x (numbers_of (l.first ∷ l.others)) _ m)))

  pass_output : (l : Literal) → p l.name.number ≡ true → Pass (output_signs l)
  unfolding output_signs names_pass
  pass_output l h = pass_append (literal_signs l) _ (pass_literal l h) refl

  pass_gate : (g : Gate) → gate_variables g ≡ [] → p (gate_name g).number ≡ true → Each (numbers_of (names_of (gate_inputs g))) → Pass (gate_signs g)
  unfolding gate_signs gate_name gate_variables gate_inputs numbers_of names_of names_pass
  pass_gate (junction_gate j g ls) v n h = and_both (p g.number) _ n (pass_append (any_inputs_signs ls) _ (pass_any ls h) refl)
  pass_gate (xor_gate g l r) v n h =
      let a : ℕ = l.name.number in
      let b : ℕ = r.name.number in
      and_both (p g.number) _ n
      (pass_append (literal_signs l) _ (pass_literal l (h a (mem_head a (b ∷ []))))
      (pass_append (literal_signs r) _ (pass_literal r (h b (mem_tail b a (b ∷ []) (mem_head b [])))) refl))
  pass_gate (quantifier_gate q g x xs l) v n h = absurd (omega (arith, ap length v))

  module _ (outer : List ℕ) (first end : ℕ) (known : Each outer) (gates : (x : ℕ) → first ≤ x → x < end → p x ≡ true) where
    pass_usable : (s x : ℕ) → s ≤ end → Usable outer first s x → p x ≡ true
    pass_usable s x h (outer_name m) = known x m
    pass_usable s x h (lower_gate l k) = gates x l (omega arith)

    pass_gates : {s : ℕ} {gs : List Gate} → Rising outer first s gs end → first ≤ s → Pass (gates_signs gs)
    unfolding gates_signs names_pass
    pass_gates no_lines_lem h = refl
    pass_gates (a_line {s = s} {g = g} {gs = gs} n v u rest) h =
        let l = rising_le rest in
        pass_append (gate_signs g) _
        (pass_gate g v (ap p n ∙ gates s h (omega arith)) (λ x m. pass_usable s x (omega arith) (u x m)))
        (pass_gates rest (omega arith))

    pub pass_file : (f : File) → numbers_of (outer_names f) ≡ outer → Rising outer first first f.gates end
        → Usable outer first end f.output.name.number → Pass (file_signs f)
    unfolding file_signs outer_names
    pass_file f e rising output =
        let all = numbers_append f.free (prefix_variables f.prefix) in
        pass_append (free_signs f.free) _
        (pass_free f.free (λ x m. known x (ap (mem x) (sym e ∙ all) ∙ mem_left x (numbers_of f.free) _ m)))
        (pass_append (prefix_signs f.prefix) _
        (pass_prefix f.prefix (λ x m. known x (ap (mem x) (sym e ∙ all) ∙ mem_right x (numbers_of f.free) _ m)))
        (pass_append (output_signs f.output) _
        (pass_output f.output (pass_usable end f.output.name.number (omega arith) output))
        (pass_gates rising (omega arith))))
