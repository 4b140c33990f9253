-- The gate lines of a form's file: numbered upward, each over outer names and gates of earlier lines.
-- Assumes nothing.
use mathlib.Core.Path.{◌≡◌, refl, sym, ◌∙◌, ap, subst}
use mathlib.Core.Bool.{true, false, not}
use mathlib.Core.List.{List, [], ◌∷◌, ◌++◌, map}
use Prim.Native.Nat.{ℕ, zero, suc, ◌≤◌, ◌<◌}
use native.Mathlib.Omega.{arith}
use native.Mathlib.Nat.{not-suc-le-zero}
use lib.Dec.{eqb}
use borrow.Author.Tests.{eqb-true}
use Rattle.lists.specs.Choice.{pick, pick_yes, pick_no, Is, is_true, is_false, look, clash, absent, and_left, and_right, and_both, or_cases}
use Rattle.lists.specs.Members.{mem, distinct}
use Rattle.lists.specs.Parts.{up_to, sum}
use Rattle.lists.proofs.Members.{mem_head, mem_tail}
use Rattle.formula.specs.Node.{variable, Table, is_block}
use Rattle.formula.specs.Truth.{digit}
use Rattle.formula.specs.Tree.{Tree}
use Rattle.qcir.specs.File.{Gate, gate_name, gate_variables, gate_inputs, numbers_of, names_of}
use Rattle.qcir.specs.Refusals.{gate_names}
use Rattle.qcir_form.specs.File.{used_operands, written, has_gate, node_literal, node_gates, is_gate, gate_number, node_literal_of, gates_of}
use Rattle.qcir_form.proofs.Written.{used_lower, written_down, literal_step}
use Rattle.qcir_form.proofs.Numbers.{gate_first, gate_grows}
use Rattle.qcir_form.proofs.PlacedNodes.{number_for, Writing, as_gate, as_name, as_operand, writing}

-- What a line numbered s may use: outer names, and gates below s.
pub data Usable (outer : List ℕ) (first s x : ℕ) : Type 0 where
  outer_name : mem x outer ≡ true → Usable outer first s x
  lower_gate : first ≤ x → x < s → Usable outer first s x

pub usable_up : (outer : List ℕ) (first s r x : ℕ) → s ≤ r → Usable outer first s x → Usable outer first r x
usable_up outer first s r x h (outer_name m) = outer_name m
usable_up outer first s r x h (lower_gate l k) = lower_gate l (omega arith)

-- Lines numbered from s up to e, without e.
pub data Rising (outer : List ℕ) (first : ℕ) : ℕ → List Gate → ℕ → Type 0 where
  no_lines_lem : {s : ℕ} → Rising outer first s [] s
  a_line : {s e : ℕ} {g : Gate} {gs : List Gate} → (gate_name g).number ≡ s → gate_variables g ≡ []
      → ((x : ℕ) → mem x (numbers_of (names_of (gate_inputs g))) ≡ true → Usable outer first s x)
      → Rising outer first (suc s) gs e → Rising outer first s (g ∷ gs) e

pub rising_append : {outer : List ℕ} {first s m e : ℕ} {gs hs : List Gate}
    → Rising outer first s gs m → Rising outer first m hs e → Rising outer first s (gs ++ hs) e
rising_append no_lines_lem r = r
rising_append (a_line n v u rest) r = a_line n v u (rising_append rest r)

pub rising_le : {outer : List ℕ} {first s e : ℕ} {gs : List Gate} → Rising outer first s gs e → s ≤ e
rising_le no_lines_lem = omega arith
rising_le (a_line n v u rest) = let l = rising_le rest in omega arith

-- the numbers of the lines
pub rising_range : {outer : List ℕ} {first s e : ℕ} {gs : List Gate} → Rising outer first s gs e
    → (x : ℕ) → mem x (numbers_of (gate_names gs)) ≡ true → (s ≤ x) × (x < e)
unfolding gate_names numbers_of mem
rising_range no_lines_lem x m = clash m refl
rising_range (a_line {g = g} {gs = gs} n v u rest) x m =
    let l = rising_le rest in
    or_cases (eqb x (gate_name g).number) (mem x (numbers_of (gate_names gs))) m
    (λ q. let same = eqb-true x (gate_name g).number q in (omega arith, omega arith))
    (λ k. let r = rising_range rest x k in (omega (arith, r.0), r.1))

pub rising_distinct : {outer : List ℕ} {first s e : ℕ} {gs : List Gate} → Rising outer first s gs e → distinct (numbers_of (gate_names gs)) ≡ true
unfolding gate_names numbers_of distinct
rising_distinct no_lines_lem = refl
rising_distinct (a_line {g = g} {gs = gs} n v u rest) =
    and_both (not (mem (gate_name g).number (numbers_of (gate_names gs)))) _
    (ap not (absent _ (λ m. let r = rising_range rest (gate_name g).number m in omega (arith, r.0)))) (rising_distinct rest)

-- The number of the next gate line.
module _ (t : Table) (first : ℕ) where
  gate_zero : gate_number t first 0 ≡ first
  unfolding gate_number sum
  gate_zero = omega arith

  gate_next : (i : ℕ) → is_gate t i ≡ true → gate_number t first (suc i) ≡ suc (gate_number t first i)
  unfolding gate_number sum digit
  gate_next i e = rw e (omega arith)

  gate_stays : (i : ℕ) → is_gate t i ≡ false → gate_number t first (suc i) ≡ gate_number t first i
  unfolding gate_number sum digit
  gate_stays i e = rw e (omega arith)

-- The gate line of node i, if it is written as one.
abbrev pub lines_of : Table → ℕ → ℕ → List Gate
lines_of t first i = pick (is_gate t i) (node_gates (node_literal_of t first) (gate_number t first i) (t.node i)) []

pub number_step : (t : Table) → Tree t → (first i : ℕ) → i < t.size
    → number_for (node_literal_of t first) i ≡ (node_literal (node_literal_of t first) (gate_number t first i) (t.node i)).name.number
unfolding node_literal_of
number_step t tree first i h = ap (λ l. l.name.number) (literal_step t tree (gate_number t first) i h)

mem_images : (f : ℕ → ℕ) (xs : List ℕ) (x : ℕ) → mem x (map f xs) ≡ true → (a : ℕ) × (mem a xs ≡ true) × (x ≡ f a)
unfolding mem
mem_images f [] x m = clash m refl
mem_images f (y ∷ ys) x m =
    or_cases (eqb x (f y)) (mem x (map f ys)) m
    (λ q. (y, mem_head y ys, eqb-true x (f y) q))
    (λ k. let r = mem_images f ys x k in (r.0, mem_tail r.0 y ys r.1, r.2))

-- A matrix, and what the names at its written variable nodes are.
module _ (t : Table) (tree : Tree t) (plain : (i : ℕ) → i < t.size → is_block (t.node i) ≡ false) (outer : List ℕ) (first : ℕ)
    (heard : (i x : ℕ) → i < t.size → written t i ≡ true → t.node i ≡ variable x → mem x outer ≡ true) where
  -- What stands for a written node is an outer name, or its own gate or a lower one.
  usable_step : (i : ℕ) → i < t.size → written t i ≡ true
      → ((a : ℕ) → mem a (used_operands (t.node i)) ≡ true → Usable outer first (gate_number t first (suc a)) (number_for (node_literal_of t first) a))
      → Writing (node_literal_of t first) (gate_number t first i) (t.node i)
      → Usable outer first (gate_number t first (suc i)) (number_for (node_literal_of t first) i)
  unfolding is_gate node_literal
  usable_step i h w below (as_gate gated n stands line e is) =
      let same : number_for (node_literal_of t first) i ≡ gate_number t first i = number_step t tree first i h ∙ n in
      lower_gate (omega (arith, gate_first t first i)) (omega (arith, gate_next t first i (and_both (written t i) _ w gated)))
  usable_step i h w below (as_name y e) =
      let same : number_for (node_literal_of t first) i ≡ y =
      number_step t tree first i h ∙ ap (λ nd. (node_literal (node_literal_of t first) (gate_number t first i) nd).name.number) e in
      outer_name (ap (λ x. mem x outer) same ∙ heard i y h w e)
  usable_step i h w below (as_operand gated stands a used n) =
      let m : mem a (used_operands (t.node i)) ≡ true = ap (mem a) used ∙ mem_head a [] in
      let l : a < i = used_lower t tree i a h m in
      subst (Usable outer first (gate_number t first (suc i))) (sym (number_step t tree first i h ∙ n))
      (usable_up outer first _ _ _ (gate_grows t first (suc a) (suc i) (omega arith)) (below a m))

  usable_at : (f i : ℕ) → i < f → i < t.size → written t i ≡ true
      → Usable outer first (gate_number t first (suc i)) (number_for (node_literal_of t first) i)
  usable_at zero i k h w = absurd (not-suc-le-zero k)
  usable_at (suc f) i k h w =
      usable_step i h w
      (λ a m. let l : a < i = used_lower t tree i a h m in usable_at f a (omega arith) (omega arith) (written_down t tree i a h w m))
      (writing (node_literal_of t first) (gate_number t first i) (t.node i) (plain i h))

  pub usable : (i : ℕ) → i < t.size → written t i ≡ true
      → Usable outer first (gate_number t first (suc i)) (number_for (node_literal_of t first) i)
  usable i h w = usable_at (suc i) i (omega arith) h w

  -- what the line of node i uses
  usable_inputs : (i : ℕ) → i < t.size → written t i ≡ true
      → (x : ℕ) → mem x (map (number_for (node_literal_of t first)) (used_operands (t.node i))) ≡ true → Usable outer first (gate_number t first i) x
  usable_inputs i h w x m =
      let r = mem_images (number_for (node_literal_of t first)) (used_operands (t.node i)) x m in
      let a : ℕ = r.0 in
      let l : a < i = used_lower t tree i a h r.1 in
      subst (Usable outer first (gate_number t first i)) (sym r.2)
      (usable_up outer first _ _ _ (gate_grows t first (suc a) i l) (usable a (omega arith) (written_down t tree i a h w r.1)))

  rising_one : (i : ℕ) → i < t.size → is_gate t i ≡ true → written t i ≡ true → has_gate (t.node i) ≡ true
      → Writing (node_literal_of t first) (gate_number t first i) (t.node i)
      → Rising outer first (gate_number t first i) (lines_of t first i) (gate_number t first (suc i))
  unfolding has_gate
  rising_one i h g w gated (as_gate _ n stands line e is) =
      subst (λ ls. Rising outer first (gate_number t first i) ls (gate_number t first (suc i))) (sym (pick_yes _ _ _ g ∙ e))
      (subst (Rising outer first (gate_number t first i) (line ∷ [])) (sym (gate_next t first i g))
      (a_line is.name_is is.plain (λ x m. usable_inputs i h w x (ap (mem x) (sym is.inputs_are) ∙ m)) no_lines_lem))
  rising_one i h g w gated (as_name y e) = clash gated (ap has_gate e)
  rising_one i h g w gated (as_operand none stands a used n) = clash gated none

  rising_node : (i : ℕ) → i < t.size → Rising outer first (gate_number t first i) (lines_of t first i) (gate_number t first (suc i))
  unfolding is_gate
  rising_node i h = go (look (is_gate t i))
    where
      go : Is (is_gate t i) → Rising outer first (gate_number t first i) (lines_of t first i) (gate_number t first (suc i))
      go (is_true g) =
          rising_one i h g (and_left (written t i) _ g) (and_right (written t i) _ g)
          (writing (node_literal_of t first) (gate_number t first i) (t.node i) (plain i h))
      go (is_false g) =
          subst (λ ls. Rising outer first (gate_number t first i) ls (gate_number t first (suc i))) (sym (pick_no _ _ _ g))
          (subst (Rising outer first (gate_number t first i) []) (sym (gate_stays t first i g)) no_lines_lem)

  rising_up_to : (k : ℕ) → k ≤ t.size → Rising outer first first (up_to (lines_of t first) k) (gate_number t first k)
  unfolding up_to
  rising_up_to zero h = subst (Rising outer first first []) (sym (gate_zero t first)) no_lines_lem
  rising_up_to (suc k) h = rising_append (rising_up_to k (omega arith)) (rising_node k h)

  pub rising_gates : Rising outer first first (gates_of t first) (gate_number t first t.size)
  unfolding gates_of
  rising_gates = rising_up_to t.size (omega arith)
