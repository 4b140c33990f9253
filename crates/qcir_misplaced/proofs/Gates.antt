-- What the pass finds among the gate lines.
-- Assumes nothing.
use mathlib.Core.Path.{◌≡◌, refl, sym, ◌∙◌, ap, subst}
use mathlib.Core.Logic.{◌↔◌}
use mathlib.Core.Bool.{Bool, true, not, ◌||◌, or-false}
use mathlib.Core.List.{List, [], ◌∷◌, ◌++◌, append_assoc}
use Prim.Native.Nat.{ℕ, suc, ◌≤◌, ◌<◌}
use native.Mathlib.Omega.{arith}
use lib.Dec.{eqb, leb}
use borrow.Author.Tests.{ne_eqb}
use Rattle.lists.specs.Choice.{pick, pick_yes, pick_no, Is, is_true, is_false, look, or_left, or_right, or_cases}
use Rattle.lists.specs.Members.{mem}
use Rattle.lists.proofs.Members.{or_group, mem_nil}
use Rattle.qcir.specs.File.{Name, Gate, gate_name, gate_variables, gate_inputs, numbers_of, names_of}
use Rattle.qcir.specs.Refusals.{gate_names, quantified_names, repeated, repeated_in_gates, later_places, gates_listed, naming_gates, without, early_uses}
use Rattle.qcir_tokens.specs.Tokens.{Token, ascending, gates_tokens}
use Rattle.qcir_misplaced.specs.Faults.{mark, faults}
use Rattle.qcir_misplaced.proofs.Turn.{faults_definition}
use Rattle.qcir_misplaced.proofs.Above.{Above, none, above_left, above_right, above_both, above_pick, above_step}
use Rattle.qcir_misplaced.proofs.Entries.{entry_defines, input_defines, past, past_le, marked, entries_found, inputs_found, Each, no_names, each_map, each_append, Ascent, ascending_one, entries_ascend}
use Rattle.qcir_misplaced.proofs.Shapes.{gate_shape, gate_head, gates_shape}
use Rattle.qcir_misplaced.proofs.Listed.{later_append, naming_append, later_before, later_after}
use Rattle.qcir_misplaced.proofs.Defined.{Known, known_test, known_past, known_gate, known_next, known_early}

-- A gate line in the order of the text, from position p on, and the tokens after it.
record LineAscent (p : ℕ) (g : Gate) (rest : List Token) : Type 0 where
  first : p ≤ (gate_name g).position
  end : ℕ
  order : (gate_name g).position < end
  between : Each (λ y. ((gate_name g).position < y.position) × (y.position < end)) (gate_variables g)
  onward : ascending end rest ≡ true

line_ascends : (p : ℕ) (g : Gate) (gs : List Gate) → ascending p (gates_tokens (g ∷ gs)) ≡ true → LineAscent p g (gates_tokens gs)
line_ascends p g gs a =
    let s = gate_shape g in
    let h = ascending_one p (gate_head g) (s.bound ++ (s.inputs ++ gates_tokens gs)) s.no_empty (subst (λ ts. ascending p ts ≡ true) (gates_shape g gs) a) in
    let l : p ≤ (gate_name g).position = h.0 in
    let u : Ascent (suc (gate_name g).position) (gate_variables g) (s.inputs ++ gates_tokens gs) =
    entries_ascend (s.inputs ++ gates_tokens gs) (λ r q. q.no_empty) (suc (gate_name g).position) s.variables h.1 in
    let v : Ascent u.end (names_of (gate_inputs g)) (gates_tokens gs) =
    entries_ascend (gates_tokens gs) (λ r q. q.no_empty) u.end s.uses u.onward in
    let o : suc (gate_name g).position ≤ u.end = u.order in
    let w : u.end ≤ v.end = v.order in
    record {
      first = omega arith;
      end = v.end;
      order = omega arith;
      between = each_map (λ y b. let b0 : suc (gate_name g).position ≤ y.position = b.0 in let b1 : y.position < u.end = b.1 in (omega arith, omega arith)) u.between;
      onward = v.onward;
    }

-- the variables of all later gates stand further on
quantified_after : (p : ℕ) (gs : List Gate) → ascending p (gates_tokens gs) ≡ true → Each (λ y. p ≤ y.position) (quantified_names gs)
unfolding quantified_names
quantified_after p [] a = no_names
quantified_after p (g ∷ gs) a =
    let l : LineAscent p g (gates_tokens gs) = line_ascends p g gs a in
    let f : p ≤ (gate_name g).position = l.first in
    let o : (gate_name g).position < l.end = l.order in
    each_append
    (each_map (λ y b. let b0 : (gate_name g).position < y.position = b.0 in omega arith) l.between)
    (each_map (λ y b. let b0 : l.end ≤ y.position = b in omega arith) (quantified_after l.end gs l.onward))

-- The numbers that lists before index i hold.
pub record Marks (lists : ℕ → ℕ) (i : ℕ) (names : List Name) : Type 0 where
  pub listed : (y : ℕ) → not (eqb (lists y) 0) ≡ mem y (numbers_of names)
  pub fresh : (y : ℕ) → lists y ≤ suc i

numbers_append : (y : ℕ) (xs ys : List Name) → mem y (numbers_of (xs ++ ys)) ≡ (mem y (numbers_of xs) || mem y (numbers_of ys))
unfolding numbers_of mem
numbers_append y [] ys = refl
numbers_append y (x ∷ xs) ys = or_group (eqb y x.number) (mem y (numbers_of (xs ++ ys))) (mem y (numbers_of xs)) (mem y (numbers_of ys)) (numbers_append y xs ys)

mark_some : (x v : ℕ) (lists : ℕ → ℕ) (y : ℕ) (m : Bool) → 0 < v → (not (eqb (mark x v lists y) 0) || m) ≡ (not (eqb (lists y) 0) || (eqb y x || m))
unfolding mark
mark_some x v lists y m h = go (look (eqb y x))
  where
    go : Is (eqb y x) → (not (eqb (pick (eqb y x) v (lists y)) 0) || m) ≡ (not (eqb (lists y) 0) || (eqb y x || m))
    go (is_true e) =
        or_left (not (eqb (pick (eqb y x) v (lists y)) 0)) m (ap (λ (w : ℕ). not (eqb w 0)) (pick_yes (eqb y x) v (lists y) e) ∙ ap not (ne_eqb v 0 (λ z. omega arith)))
        ∙ sym (or_right (not (eqb (lists y) 0)) (eqb y x || m) (or_left (eqb y x) m e))
    go (is_false e) = rw (pick_no {A = ℕ} (eqb y x) v (lists y) e, e)

mark_le : (x v m : ℕ) (lists : ℕ → ℕ) (y : ℕ) → v ≤ m → lists y ≤ m → mark x v lists y ≤ m
unfolding mark
mark_le x v m lists y h l = go (look (eqb y x))
  where
    go : Is (eqb y x) → pick (eqb y x) v (lists y) ≤ m
    go (is_true e) = rw (pick_yes {A = ℕ} (eqb y x) v (lists y) e) h
    go (is_false e) = rw (pick_no {A = ℕ} (eqb y x) v (lists y) e) l

marked_some : (v : ℕ) → 0 < v → (xs : List Name) (lists : ℕ → ℕ) (y : ℕ) → not (eqb (marked v xs lists y) 0) ≡ (not (eqb (lists y) 0) || mem y (numbers_of xs))
unfolding marked numbers_of mem
marked_some v h [] lists y = sym (or-false (not (eqb (lists y) 0)))
marked_some v h (x ∷ xs) lists y = marked_some v h xs (mark x.number v lists) y ∙ mark_some x.number v lists y (mem y (numbers_of xs)) h

marked_le : (v m : ℕ) → v ≤ m → (xs : List Name) (lists : ℕ → ℕ) (y : ℕ) → lists y ≤ m → marked v xs lists y ≤ m
unfolding marked
marked_le v m h [] lists y l = l
marked_le v m h (x ∷ xs) lists y l = marked_le v m h xs (mark x.number v lists) y (mark_le x.number v m lists y h l)

pub marks_next : (v i j : ℕ) (lists : ℕ → ℕ) (names xs : List Name) → 0 < v → v ≤ suc j → i ≤ j → Marks lists i names → Marks (marked v xs lists) j (names ++ xs)
marks_next v i j lists names xs h l o marks =
    record {
      listed = λ y. marked_some v h xs lists y ∙ ap (λ b. b || mem y (numbers_of xs)) (marks.listed y) ∙ sym (numbers_append y names xs);
      fresh = λ y. let f : lists y ≤ suc i = marks.fresh y in marked_le v (suc j) l xs lists y (omega arith);
    }

-- What refusal 11 says of gate lines, given the names in lists and the gates before them: no place is below k.
pub record Clear (k : ℕ) (names : List Name) (defined : List ℕ) (gs : List Gate) : Type 0 where
  pub twice : Above k (repeated defined (gate_names gs))
  pub bound : Above k (naming_gates defined (quantified_names gs))
  pub listed : Above k (gates_listed (gate_names gs) (names ++ quantified_names gs))
  pub early : Above k (early_uses defined gs)
  pub repeats : Above k (repeated_in_gates gs)

-- The same of one line: of its definition, its list and its inputs.
record LineClear (k : ℕ) (names : List Name) (defined : List ℕ) (g : Gate) (gs : List Gate) : Type 0 where
  own : (mem (gate_name g).number defined || mem (gate_name g).number (numbers_of names)) ≡ true → k ≤ (gate_name g).position
  repeats : Above k (repeated [] (gate_variables g))
  bound : Above k (naming_gates ((gate_name g).number ∷ defined) (gate_variables g))
  early : Above k (naming_gates (numbers_of (gate_names (g ∷ gs))) (without defined (names_of (gate_inputs g))))

module _ (k : ℕ) (names : List Name) (defined : List ℕ) (g : Gate) (gs : List Gate)
    (before : Each (λ y. y.position ≤ (gate_name g).position) names)
    (own_after : Each (λ y. (gate_name g).position ≤ y.position) (gate_variables g))
    (later_after_it : Each (λ y. (gate_name g).position ≤ y.position) (quantified_names gs)) where
  clear_to : LineClear k names defined g gs → Clear k (names ++ gate_variables g) ((gate_name g).number ∷ defined) gs → Clear k names defined (g ∷ gs)
  unfolding gate_names quantified_names repeated gates_listed early_uses repeated_in_gates
  clear_to line rest =
      let x = gate_name g in
      let vs = gate_variables g in
      let qs = quantified_names gs in
      let a = (later_after k x defined own_after).0 line.bound in
      let b = (later_after k x defined later_after_it).0 rest.bound in
      let c = (later_before k x before).1 (λ m. line.own (or_right (mem x.number defined) (mem x.number (numbers_of names)) m)) in
      record {
        twice = (above_pick k x.position (mem x.number defined) (repeated (x.number ∷ defined) (gate_names gs))).1 (λ m. line.own (or_left (mem x.number defined) (mem x.number (numbers_of names)) m), rest.twice);
        bound = subst (Above k) (sym (naming_append defined vs qs)) (above_both k (naming_gates defined vs) (naming_gates defined qs) a.1 b.1);
        listed =
            above_both k (later_places x (names ++ (vs ++ qs))) (gates_listed (gate_names gs) (names ++ (vs ++ qs)))
            (subst (Above k) (sym (later_append x names (vs ++ qs) ∙ ap (λ (l : List ℕ). later_places x names ++ l) (later_append x vs qs)))
            (above_both k (later_places x names) (later_places x vs ++ later_places x qs) c (above_both k (later_places x vs) (later_places x qs) a.0 b.0)))
            (subst (λ l. Above k (gates_listed (gate_names gs) l)) (append_assoc names vs qs) rest.listed);
        early = above_both k (naming_gates (numbers_of (gate_names (g ∷ gs))) (without defined (names_of (gate_inputs g)))) (early_uses (x.number ∷ defined) gs) line.early rest.early;
        repeats = above_both k (repeated [] vs) (repeated_in_gates gs) line.repeats rest.repeats;
      }

  module _ (all : Clear k names defined (g ∷ gs)) where
    -- the places of the gate's name and the names in lists
    places : Above k (later_places (gate_name g) names ++ (later_places (gate_name g) (gate_variables g) ++ later_places (gate_name g) (quantified_names gs)))
    unfolding gate_names quantified_names gates_listed
    places =
        let x = gate_name g in
        let vs = gate_variables g in
        let qs = quantified_names gs in
        subst (Above k) (later_append x names (vs ++ qs) ∙ ap (λ (l : List ℕ). later_places x names ++ l) (later_append x vs qs))
        (above_left k (later_places x (names ++ (vs ++ qs))) (gates_listed (gate_names gs) (names ++ (vs ++ qs))) all.listed)

    own_places : Above k (later_places (gate_name g) (gate_variables g)) × Above k (later_places (gate_name g) (quantified_names gs))
    own_places =
        let x = gate_name g in
        let vs = gate_variables g in
        let qs = quantified_names gs in
        let r = above_right k (later_places x names) (later_places x vs ++ later_places x qs) places in
        (above_left k (later_places x vs) (later_places x qs) r, above_right k (later_places x vs) (later_places x qs) r)

    named : Above k (naming_gates defined (gate_variables g)) × Above k (naming_gates defined (quantified_names gs))
    unfolding quantified_names
    named =
        let vs = gate_variables g in
        let qs = quantified_names gs in
        let r = subst (Above k) (naming_append defined vs qs) all.bound in
        (above_left k (naming_gates defined vs) (naming_gates defined qs) r, above_right k (naming_gates defined vs) (naming_gates defined qs) r)

    line_from : LineClear k names defined g gs
    unfolding gate_names repeated early_uses repeated_in_gates
    line_from =
        let x = gate_name g in
        let vs = gate_variables g in
        let qs = quantified_names gs in
        let t = (above_pick k x.position (mem x.number defined) (repeated (x.number ∷ defined) (gate_names gs))).0 all.twice in
        let c = (later_before k x before).0 (above_left k (later_places x names) (later_places x vs ++ later_places x qs) places) in
        record {
          own = λ m. or_cases (mem x.number defined) (mem x.number (numbers_of names)) m t.0 c;
          repeats = above_left k (repeated [] vs) (repeated_in_gates gs) all.repeats;
          bound = (later_after k x defined own_after).1 (own_places.0, named.0);
          early = above_left k (naming_gates (numbers_of (gate_names (g ∷ gs))) (without defined (names_of (gate_inputs g)))) (early_uses (x.number ∷ defined) gs) all.early;
        }

    rest_from : Clear k (names ++ gate_variables g) ((gate_name g).number ∷ defined) gs
    unfolding gate_names quantified_names repeated gates_listed early_uses repeated_in_gates
    rest_from =
        let x = gate_name g in
        let vs = gate_variables g in
        let qs = quantified_names gs in
        let t = (above_pick k x.position (mem x.number defined) (repeated (x.number ∷ defined) (gate_names gs))).0 all.twice in
        record {
          twice = t.1;
          bound = (later_after k x defined later_after_it).1 (own_places.1, named.1);
          listed = subst (λ l. Above k (gates_listed (gate_names gs) l)) (sym (append_assoc names vs qs)) (above_right k (later_places x (names ++ (vs ++ qs))) (gates_listed (gate_names gs) (names ++ (vs ++ qs))) all.listed);
          early = above_right k (naming_gates (numbers_of (gate_names (g ∷ gs))) (without defined (names_of (gate_inputs g)))) (early_uses (x.number ∷ defined) gs) all.early;
          repeats = above_right k (repeated [] vs) (repeated_in_gates gs) all.repeats;
        }

-- One line of the pass.
module _ (k : ℕ) (gates lists : ℕ → ℕ) (line i : ℕ) (names : List Name) (defined : List ℕ) (g : Gate) (gs : List Gate)
    (marks : Marks lists i names) (known : Known gates i defined (gates_tokens (g ∷ gs))) where
  -- the tokens of its list and its inputs, and those after them
  abbrev after_head : List Token
  after_head = (gate_shape g).bound ++ ((gate_shape g).inputs ++ gates_tokens gs)

  -- the marks after it
  abbrev marks_after_lem : ℕ → ℕ
  marks_after_lem = marked (suc (suc i)) (gate_variables g) lists

  abbrev index_after : ℕ
  index_after = past (gate_shape g).inputs (past (gate_shape g).bound (suc i))

  known_here : Known gates i defined (gate_head g ∷ after_head)
  known_here = subst (Known gates i defined) (gates_shape g gs) known

  known_inside : Known gates (suc i) ((gate_name g).number ∷ defined) after_head
  known_inside = known_next gates i defined (gate_head g) after_head (gate_shape g).definition known_here

  known_after : Known gates index_after ((gate_name g).number ∷ defined) (gates_tokens gs)
  known_after =
      let s = gate_shape g in
      known_past gates (past s.bound (suc i)) ((gate_name g).number ∷ defined) (gates_tokens gs) input_defines s.uses
      (known_past gates (suc i) ((gate_name g).number ∷ defined) (s.inputs ++ gates_tokens gs) entry_defines s.variables known_inside)

  index_later : suc i ≤ index_after
  index_later =
      let s = gate_shape g in
      let a : suc i ≤ past s.bound (suc i) = past_le s.bound (suc i) in
      let b : past s.bound (suc i) ≤ past s.inputs (past s.bound (suc i)) = past_le s.inputs (past s.bound (suc i)) in omega arith

  marked_after : Marks marks_after_lem index_after (names ++ gate_variables g)
  marked_after = let l : suc i ≤ index_after = index_later in marks_next (suc (suc i)) i index_after lists names (gate_variables g) (omega arith) (omega arith) (omega arith) marks

  head_found : (Above k (faults gates lists line i (gate_head g ∷ after_head))
      ↔ (((leb (gates (gate_name g).number) i || not (eqb (lists (gate_name g).number) 0)) ≡ true → k ≤ (gate_name g).position) × Above k (faults gates lists (suc i) (suc i) after_head)))
  head_found =
      above_step k (gate_name g).position (leb (gates (gate_name g).number) i || not (eqb (lists (gate_name g).number) 0)) (faults gates lists line i (gate_head g ∷ after_head)) (faults gates lists (suc i) (suc i) after_head)
      (faults_definition gates lists line i (gate_head g) after_head (gate_shape g).no_entry (gate_shape g).definition)

  list_found : (Above k (faults gates lists (suc i) (suc i) after_head)
      ↔ (Above k (repeated [] (gate_variables g)) × Above k (naming_gates ((gate_name g).number ∷ defined) (gate_variables g)) × Above k (faults gates marks_after_lem (suc i) (past (gate_shape g).bound (suc i)) ((gate_shape g).inputs ++ gates_tokens gs))))
  list_found =
      entries_found k gates (suc i) ((gate_shape g).inputs ++ gates_tokens gs) ((gate_name g).number ∷ defined)
      (known_test gates (suc i) ((gate_name g).number ∷ defined) after_head known_inside) (suc i) lists [] (gate_shape g).variables
      (λ y. let f : lists y ≤ suc i = marks.fresh y in ne_eqb (lists y) (suc (suc i)) (λ e. omega arith) ∙ sym (mem_nil y))

  uses_found : (Above k (faults gates marks_after_lem (suc i) (past (gate_shape g).bound (suc i)) ((gate_shape g).inputs ++ gates_tokens gs))
      ↔ (Above k (naming_gates (numbers_of (gate_names (g ∷ gs))) (without defined (names_of (gate_inputs g)))) × Above k (faults gates marks_after_lem (suc i) index_after (gates_tokens gs))))
  uses_found =
      inputs_found k gates (suc i) (gates_tokens gs) (numbers_of (gate_names (g ∷ gs))) defined (known_early gates i defined (g ∷ gs) known) (past (gate_shape g).bound (suc i)) marks_after_lem (gate_shape g).uses

  -- the test of the definition
  own_test : (leb (gates (gate_name g).number) i || not (eqb (lists (gate_name g).number) 0)) ≡ (mem (gate_name g).number defined || mem (gate_name g).number (numbers_of names))
  own_test = rw (known_gate gates i defined (gate_head g) after_head (gate_shape g).definition known_here, marks.listed (gate_name g).number)

  line_found : (Above k (faults gates lists line i (gates_tokens (g ∷ gs))) ↔ (LineClear k names defined g gs × Above k (faults gates marks_after_lem (suc i) index_after (gates_tokens gs))))
  line_found = (
    λ a.
        let h = head_found.0 (subst (λ ts. Above k (faults gates lists line i ts)) (gates_shape g gs) a) in
        let l = list_found.0 h.1 in
        let u = uses_found.0 l.2 in
        (record { own = λ m. h.0 (own_test ∙ m); repeats = l.0; bound = l.1; early = u.0 }, u.1),
    λ q.
        subst (λ ts. Above k (faults gates lists line i ts)) (sym (gates_shape g gs))
        (head_found.1 (λ m. q.0.own (sym own_test ∙ m), list_found.1 (q.0.repeats, q.0.bound, uses_found.1 (q.0.early, q.1)))),
  )

nothing_clear : (k : ℕ) (names : List Name) (defined : List ℕ) → Clear k names defined []
unfolding gate_names quantified_names repeated naming_gates gates_listed early_uses repeated_in_gates
nothing_clear k names defined = record { twice = none; bound = none; listed = none; early = none; repeats = none }

nothing_found : (k : ℕ) (gates lists : ℕ → ℕ) (line i : ℕ) → Above k (faults gates lists line i (gates_tokens []))
unfolding faults gates_tokens
nothing_found k gates lists line i = none

-- all lines
pub gates_found : (k : ℕ) (gates : ℕ → ℕ) (gs : List Gate) (lists : ℕ → ℕ) (line i : ℕ) (names : List Name) (defined : List ℕ) (p : ℕ)
    → Marks lists i names → Known gates i defined (gates_tokens gs) → Each (λ y. y.position < p) names → ascending p (gates_tokens gs) ≡ true
    → (Above k (faults gates lists line i (gates_tokens gs)) ↔ Clear k names defined gs)
gates_found k gates [] lists line i names defined p marks known before a =
    (λ z. nothing_clear k names defined, λ z. nothing_found k gates lists line i)
gates_found k gates (g ∷ gs) lists line i names defined p marks known before a =
    let l : LineAscent p g (gates_tokens gs) = line_ascends p g gs a in
    let f : p ≤ (gate_name g).position = l.first in
    let o : (gate_name g).position < l.end = l.order in
    let here = line_found k gates lists line i names defined g gs marks known in
    let later =
    gates_found k gates gs (marks_after_lem k gates lists line i names defined g gs marks known) (suc i) (index_after k gates lists line i names defined g gs marks known) (names ++ gate_variables g) ((gate_name g).number ∷ defined) l.end
    (marked_after k gates lists line i names defined g gs marks known) (known_after k gates lists line i names defined g gs marks known)
    (each_append (each_map (λ y b. let b0 : y.position < p = b in omega arith) before) (each_map (λ y b. b.1) l.between)) l.onward in
    let up : Each (λ y. y.position ≤ (gate_name g).position) names = each_map (λ y b. let b0 : y.position < p = b in omega arith) before in
    let own : Each (λ y. (gate_name g).position ≤ y.position) (gate_variables g) = each_map (λ y b. let b0 : (gate_name g).position < y.position = b.0 in omega arith) l.between in
    let rest : Each (λ y. (gate_name g).position ≤ y.position) (quantified_names gs) = each_map (λ y b. let b0 : l.end ≤ y.position = b in omega arith) (quantified_after l.end gs l.onward) in (
      λ z. let h = here.0 z in clear_to k names defined g gs up own rest h.0 (later.0 h.1),
      λ z. here.1 (line_from k names defined g gs up own rest z, later.1 (rest_from k names defined g gs up own rest z)),
    )
