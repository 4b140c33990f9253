-- Where the free and prefix lines name every variable that is used, no variable is unbound.
-- Assumes nothing.
use mathlib.Core.Path.{◌≡◌, refl, ◌∙◌, ap}
use mathlib.Core.Bool.{Bool, true, false, not, ◌||◌}
use mathlib.Core.List.{List, [], ◌∷◌, append-eq-nil_iff}
use Prim.Native.Nat.{ℕ}
use lib.Dec.{eqb}
use Rattle.lists.specs.Choice.{pick, pick_yes, pick_no, Is, is_true, is_false, look, clash, and_left, and_right, and_both, or_neither, or_neither_left, or_neither_right}
use Rattle.lists.specs.Members.{mem, all}
use Rattle.lists.proofs.Members.{all_append, mem_nil, mem_head, mem_tail, mem_left, mem_right}
use Rattle.qcir.specs.File.{Literal, Gate, gate_name, gate_variables, gate_inputs, File, numbers_of, names_of}
use Rattle.qcir.specs.Refusals.{keep, gate_names, outer_names, naming_gates, without, early_uses, input_numbers, used_numbers, FreeIn, free_in_inputs, free_in_gates, unbound}
use Rattle.qcir_unbound.proofs.Gates.{not_early}

module _ (p : ℕ → Bool) where
  all_keep : (q : ℕ → Bool) (xs : List ℕ) → all p xs ≡ true → all p (keep q xs) ≡ true
  unfolding all keep
  all_keep q [] a = refl
  all_keep q (x ∷ xs) a = go (look (q x)) (all_keep q xs (and_right (p x) (all p xs) a))
    where
      go : Is (q x) → all p (keep q xs) ≡ true → all p (pick (q x) (x ∷ keep q xs) (keep q xs)) ≡ true
      go (is_true e) r = ap (all p) (pick_yes _ _ _ e) ∙ and_both (p x) (all p (keep q xs)) (and_left (p x) (all p xs) a) r
      go (is_false e) r = ap (all p) (pick_no _ _ _ e) ∙ r

  none_kept : (xs : List ℕ) → all p xs ≡ true → keep (λ x. not (p x)) xs ≡ []
  unfolding all keep
  none_kept [] a = refl
  none_kept (x ∷ xs) a = pick_no _ _ _ (ap not (and_left (p x) (all p xs) a)) ∙ none_kept xs (and_right (p x) (all p xs) a)

  all_one : (x : ℕ) → p x ≡ true → all p (x ∷ []) ≡ true
  unfolding all
  all_one x h = and_both (p x) true h refl

  all_inputs : (o : FreeIn) (ls : List Literal) → ((x : ℕ) → mem x (numbers_of (names_of ls)) ≡ true → all p (o x) ≡ true) → all p (free_in_inputs o ls) ≡ true
  unfolding free_in_inputs all numbers_of names_of
  all_inputs o [] h = refl
  all_inputs o (l ∷ ls) h =
      let y : ℕ = l.name.number in
      all_append p (o y) (free_in_inputs o ls) (h y (mem_head y (numbers_of (names_of ls)))) (all_inputs o ls (λ x m. h x (mem_tail x y (numbers_of (names_of ls)) m)))

  -- Once some lines are passed: the variables of their gates pass the test, and every other name stands for itself.
  record Passing (before : List ℕ) (o : FreeIn) : Type 0 where
    known : (x : ℕ) → mem x before ≡ true → all p (o x) ≡ true
    alone : (x : ℕ) → mem x before ≡ false → o x ≡ x ∷ []

  name_passes : {before : List ℕ} {o : FreeIn} → Passing before o → (x : ℕ) → (mem x before ≡ false → p x ≡ true) → all p (o x) ≡ true
  name_passes {before} {o} a x h = go (look (mem x before))
    where
      go : Is (mem x before) → all p (o x) ≡ true
      go (is_true e) = a.known x e
      go (is_false e) = ap (all p) (a.alone x e) ∙ all_one x (h e)

  module _ (g : Gate) (before : List ℕ) (o : FreeIn) (a : Passing before o)
      (h : (x : ℕ) → mem x (numbers_of (names_of (gate_inputs g))) ≡ true → mem x before ≡ false → p x ≡ true) where
    passing_line : Passing ((gate_name g).number ∷ before)
        (λ x. pick (eqb x (gate_name g).number) (keep (λ y. not (mem y (numbers_of (gate_variables g)))) (free_in_inputs o (gate_inputs g))) (o x))
    unfolding mem
    passing_line =
        record {
          known = λ x e. known_from x e (look (eqb x (gate_name g).number));
          alone = λ x e.
              pick_no _ _ _ (or_neither_left (eqb x (gate_name g).number) (mem x before) e)
              ∙ a.alone x (or_neither_right (eqb x (gate_name g).number) (mem x before) e);
        }
      where
        known_from : (x : ℕ) → (eqb x (gate_name g).number || mem x before) ≡ true → Is (eqb x (gate_name g).number)
            → all p (pick (eqb x (gate_name g).number) (keep (λ y. not (mem y (numbers_of (gate_variables g)))) (free_in_inputs o (gate_inputs g))) (o x)) ≡ true
        known_from x e (is_true q) =
            ap (all p) (pick_yes _ _ _ q)
            ∙ all_keep (λ y. not (mem y (numbers_of (gate_variables g)))) (free_in_inputs o (gate_inputs g)) (all_inputs o (gate_inputs g) (λ y m. name_passes a y (h y m)))
        known_from x e (is_false q) = ap (all p) (pick_no _ _ _ q) ∙ a.known x (rw q at e)

  -- through all the lines: where every variable used passes, those of each name do
  all_open : (gs : List Gate) (before : List ℕ) (o : FreeIn) → early_uses before gs ≡ [] → Passing before o
      → ((x : ℕ) → mem x (input_numbers gs) ≡ true → mem x before ≡ false → mem x (numbers_of (gate_names gs)) ≡ false → p x ≡ true)
      → (x : ℕ) → (mem x before ≡ false → mem x (numbers_of (gate_names gs)) ≡ false → p x ≡ true) → all p (free_in_gates o gs x) ≡ true
  unfolding mem numbers_of gate_names input_numbers free_in_gates early_uses
  all_open [] before o e a h x out = name_passes a x (λ b. out b (mem_nil x))
  all_open (g ∷ gs) before o e a h x out =
      let own : ℕ = (gate_name g).number in
      let names : List ℕ = numbers_of (gate_names gs) in
      let is : List ℕ = numbers_of (names_of (gate_inputs g)) in
      let inputs = (append-eq-nil_iff {p = naming_gates (numbers_of (gate_names (g ∷ gs))) (without before (names_of (gate_inputs g)))}).0 e in
      all_open gs (own ∷ before) _ inputs.1
      (passing_line g before o a
      (λ y m b. h y (mem_left y is (input_numbers gs) m) b (not_early (numbers_of (gate_names (g ∷ gs))) before (names_of (gate_inputs g)) inputs.0 y m b)))
      (λ y m b n. h y (mem_right y is (input_numbers gs) m) (or_neither_right (eqb y own) (mem y before) b)
      (or_neither (eqb y own) (mem y names) (or_neither_left (eqb y own) (mem y before) b) n))
      x
      (λ b n. out (or_neither_right (eqb x own) (mem x before) b) (or_neither (eqb x own) (mem x names) (or_neither_left (eqb x own) (mem x before) b) n))

pub none_unbound : (f : File) → early_uses [] f.gates ≡ []
    → ((x : ℕ) → mem x (used_numbers f) ≡ true → mem x (numbers_of (gate_names f.gates)) ≡ false → mem x (numbers_of (outer_names f)) ≡ true)
    → unbound f ≡ []
unfolding unbound used_numbers
none_unbound f e h =
    let y : ℕ = f.output.name.number in
    none_kept (λ x. mem x (numbers_of (outer_names f))) (free_in_gates (λ x. x ∷ []) f.gates y)
    (all_open (λ x. mem x (numbers_of (outer_names f))) f.gates [] (λ x. x ∷ []) e
    (record { known = λ x m. clash m (mem_nil x); alone = λ x m. refl })
    (λ x m b n. h x (mem_tail x y (input_numbers f.gates) m) n)
    y (λ b n. h y (mem_head y (input_numbers f.gates)) n))
