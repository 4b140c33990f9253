-- The walk through all gate lines, by induction along the file: what each name stands for is gone through in so many steps.
-- Assumes nothing.
use mathlib.Core.Path.{◌≡◌, refl, sym, ◌∙◌, ap, subst}
use mathlib.Core.Bool.{Bool, true, false, not, ◌&&◌, ◌||◌}
use mathlib.Core.List.{List, [], ◌∷◌, ◌++◌, append-eq-nil_iff}
use Prim.Native.Nat.{ℕ, suc, ◌+◌, ◌*◌, ◌≤◌, ◌<◌}
use native.Mathlib.Omega.{arith}
use lib.Dec.{eqb}
use lib.ListN.{length, length-append}
use borrow.Author.Tests.{eqb-true, eqb-false, eq-eqb, ne_eqb}
use Rattle.lists.specs.Choice.{pick, pick_yes, pick_no, Is, is_true, is_false, look, clash, or_neither_left, or_neither_right, and_off_left}
use Rattle.lists.specs.Members.{mem}
use Rattle.lists.proofs.Members.{mem_nil}
use Rattle.qcir.specs.File.{Name, Gate, gate_name, gate_variables, gate_inputs, numbers_of, names_of}
use Rattle.qcir.specs.Refusals.{keep, gate_names, repeated, naming_gates, without, early_uses, FreeIn, free_in_inputs, free_in_gates}
use Rattle.qcir_tokens.specs.Tokens.{Token, token, is_definition, gate_tokens, gates_tokens, definition_from, any_inputs_tokens}
use Rattle.qcir_unbound.specs.Steps.{Tokens}
use Rattle.qcir_unbound.proofs.Roles.{definition_tests, Each, each_none, each_more, each_append, each_map, bound_tokens, bound_each, any_each, gate_line, Held, held_left, held_right}
use Rattle.qcir_unbound.proofs.Lines.{Done, Good, good_variable, good_gate, total, line_run}

-- The steps that the walk takes through what each name stands for: two for each token of a gate's line, and those of its inputs.
unfoldable pub weights : (ℕ → ℕ) → List Gate → ℕ → ℕ
weights n [] = n
weights n (g ∷ gs) =
    weights (λ x. pick (eqb x (gate_name g).number) (2 * length (gate_tokens g) + total n (numbers_of (names_of (gate_inputs g)))) (n x)) gs

pick_empty : {A : Type 0} (b : Bool) (x : A) → pick b (x ∷ []) [] ≡ [] → b ≡ false
unfolding pick
pick_empty true x e = let z : ◌≡◌ {A = ℕ} 1 0 = ap length e in absurd (omega arith)
pick_empty false x e = refl

-- no definition among these tokens
pub skip_definitions : (ks ls : List Token) → Each (λ k. is_definition k.role ≡ false) ks → (p x : ℕ) → definition_from p (ks ++ ls) x ≡ definition_from (p + length ks) ls x
unfolding definition_from
skip_definitions [] ls each_none p x = let e : p ≡ p + 0 = omega arith in ap (λ i. definition_from i ls x) e
skip_definitions (k ∷ ks) ls (each_more h hs) p x =
    let e : suc p + length ks ≡ p + suc (length ks) = omega arith in
    pick_no _ _ _ (and_off_left (is_definition k.role) (eqb k.name.number x) h)
    ∙ skip_definitions ks ls hs (suc p) x
    ∙ ap (λ i. definition_from i ls x) e

inner_each : (g : Gate) → Each (λ k. is_definition k.role ≡ false) (bound_tokens (gate_variables g) ++ any_inputs_tokens (gate_name g) (gate_inputs g))
inner_each g =
    each_append (each_map (λ k h. h.definition_is) (bound_each (gate_variables g))) (each_map (λ k h. h.definition_is) (any_each (gate_name g) (gate_inputs g)))

-- a gate line defines its name
definition_line : (g : Gate) (ls : List Token) (p x : ℕ)
    → definition_from p (gate_tokens g ++ ls) x ≡ pick (eqb (gate_name g).number x) (suc p) (definition_from (p + length (gate_tokens g)) ls x)
unfolding definition_from token
definition_line g ls p x =
    let ks : List Token = bound_tokens (gate_variables g) ++ any_inputs_tokens (gate_name g) (gate_inputs g) in
    let e : suc p + length ks ≡ p + suc (length ks) = omega arith in
    ap (λ l. definition_from p (l ++ ls) x) (gate_line g)
    ∙ ap (λ b. pick (b && eqb (gate_name g).number x) (suc p) (definition_from (suc p) (ks ++ ls) x)) (definition_tests g).definition_is
    ∙ ap (pick (eqb (gate_name g).number x) (suc p)) (skip_definitions ks ls (inner_each g) (suc p) x ∙ ap (λ i. definition_from i ls x) e)
    ∙ ap (λ k. pick (eqb (gate_name g).number x) (suc p) (definition_from (p + k) ls x)) (sym (ap length (gate_line g)))

pub no_definition : (gs : List Gate) (p x : ℕ) → mem x (numbers_of (gate_names gs)) ≡ false → definition_from p (gates_tokens gs) x ≡ 0
unfolding gates_tokens gate_names numbers_of mem definition_from
no_definition [] p x h = refl
no_definition (g ∷ gs) p x h =
    let n = eqb-false x (gate_name g).number (or_neither_left (eqb x (gate_name g).number) (mem x (numbers_of (gate_names gs))) h) in
    definition_line g (gates_tokens gs) p x
    ∙ pick_no _ _ _ (ne_eqb (gate_name g).number x (λ e. n (sym e)))
    ∙ no_definition gs (p + length (gate_tokens g)) x (or_neither_right (eqb x (gate_name g).number) (mem x (numbers_of (gate_names gs))) h)

without_known : (names before : List ℕ) (y : Name) (ys : List Name) → mem y.number before ≡ true
    → naming_gates names (without before (y ∷ ys)) ≡ [] → naming_gates names (without before ys) ≡ []
unfolding without
without_known names before y ys b e = sym (ap (naming_gates names) (pick_yes _ _ _ b)) ∙ e

without_new : (names before : List ℕ) (y : Name) (ys : List Name) → mem y.number before ≡ false
    → naming_gates names (without before (y ∷ ys)) ≡ [] → (mem y.number names ≡ false) × (naming_gates names (without before ys) ≡ [])
unfolding without naming_gates
without_new names before y ys b e =
    let both = (append-eq-nil_iff {p = pick (mem y.number names) (y.position ∷ []) []}).0 (sym (ap (naming_gates names) (pick_no _ _ _ b)) ∙ e) in
    (pick_empty (mem y.number names) y.position both.0, both.1)

-- an input that names no gate of an earlier line names none
pub not_early : (names before : List ℕ) (xs : List Name) → naming_gates names (without before xs) ≡ []
    → (x : ℕ) → mem x (numbers_of xs) ≡ true → mem x before ≡ false → mem x names ≡ false
unfolding numbers_of mem
not_early names before [] e x h n = clash h (mem_nil x)
not_early names before (y ∷ ys) e x h n = go (look (mem y.number before)) (look (eqb x y.number)) (not_early names before ys)
  where
    go : Is (mem y.number before) → Is (eqb x y.number)
        → (naming_gates names (without before ys) ≡ [] → (z : ℕ) → mem z (numbers_of ys) ≡ true → mem z before ≡ false → mem z names ≡ false)
        → mem x names ≡ false
    go (is_true b) (is_true c) r = clash b (subst (λ z. mem z before ≡ false) (eqb-true x y.number c) n)
    go (is_true b) (is_false c) r = r (without_known names before y ys b e) x (rw c at h) n
    go (is_false b) (is_true c) r = subst (λ z. mem z names ≡ false) (sym (eqb-true x y.number c)) (without_new names before y ys b e).0
    go (is_false b) (is_false c) r = r (without_new names before y ys b e).1 x (rw c at h) n

-- What is known of the names once the lines before token p are passed: of those lines' gates, and of all other names.
pub record Passed (t : Tokens) (p : ℕ) (before : List ℕ) (gs : List Gate) (o : FreeIn) (n : ℕ → ℕ) : Type 0 where
  pub later : (x : ℕ) → mem x before ≡ false → t.gate x ≡ definition_from p (gates_tokens gs) x
  pub known : (x : ℕ) → mem x before ≡ true → Good t p (o x) (n x) x
  pub alone : (x : ℕ) → mem x before ≡ false → o x ≡ x ∷ []
  pub light : (x : ℕ) → mem x before ≡ false → n x ≡ 0

good_same : {t : Tokens} {q : ℕ} {xs ys : List ℕ} {n k x : ℕ} → xs ≡ ys → n ≡ k → Good t q xs n x → Good t q ys k x
good_same {t} {q} {xs} {ys} {n} {k} {x} e f g = subst (λ l. Good t q l k x) e (subst (λ a. Good t q xs a x) f g)

done_more : {t : Tokens} {q u n : ℕ} {s : _} {w : _} {m : ℕ → Bool} → q ≤ u → Done t q n s w m → Done t u n s w m
done_more l d = record { keeps = d.keeps; runs = d.runs; later_kept = λ i h. d.later_kept i (omega arith) }

good_more : {t : Tokens} {q u n x : ℕ} {xs : List ℕ} → q ≤ u → Good t q xs n x → Good t u xs n x
good_more l (good_variable g e z) = good_variable g e z
good_more l (good_gate d g k r) = good_gate d g (omega arith) (λ w m c. done_more l (r w m c))

module _ (t : Tokens) where
  -- a name that no gate line from here on defines, unless an earlier one does
  name_good : {p : ℕ} {before : List ℕ} {gs : List Gate} {o : FreeIn} {n : ℕ → ℕ} → Passed t p before gs o n
      → (x : ℕ) → (mem x before ≡ false → mem x (numbers_of (gate_names gs)) ≡ false) → Good t p (o x) (n x) x
  name_good {p} {before} {gs} {o} {n} a x h = go (look (mem x before))
    where
      go : Is (mem x before) → Good t p (o x) (n x) x
      go (is_true e) = a.known x e
      go (is_false e) = good_variable (a.later x e ∙ no_definition gs p x (h e)) (a.alone x e) (a.light x e)

  module _ (g : Gate) (gs : List Gate) (p : ℕ) (before : List ℕ) (o : FreeIn) (n : ℕ → ℕ) (held : Held t p (gate_tokens g))
      (new : mem (gate_name g).number before ≡ false)
      (early : naming_gates (numbers_of (gate_names (g ∷ gs))) (without before (names_of (gate_inputs g))) ≡ [])
      (a : Passed t p before (g ∷ gs) o n) where
    own : ℕ
    own = (gate_name g).number

    opened : List ℕ
    opened = keep (λ y. not (mem y (numbers_of (gate_variables g)))) (free_in_inputs o (gate_inputs g))

    steps : ℕ
    steps = 2 * length (gate_tokens g) + total n (numbers_of (names_of (gate_inputs g)))

    line_good : Good t (p + length (gate_tokens g)) opened steps own
    unfolding own opened steps gates_tokens
    line_good =
        let l : 0 < length (gate_tokens g) = subst (λ k. 0 < k) (sym (ap length (gate_line g))) (omega arith) in
        good_gate p
        (a.later own new ∙ definition_line g (gates_tokens gs) p own ∙ pick_yes _ _ _ (eq-eqb own own refl))
        (omega arith)
        (line_run t o n g p held
        (λ x i. name_good a x (λ b. not_early (numbers_of (gate_names (g ∷ gs))) before (names_of (gate_inputs g)) early x i b)))

    passed_line : Passed t (p + length (gate_tokens g)) ((gate_name g).number ∷ before) gs
        (λ x. pick (eqb x (gate_name g).number) (keep (λ y. not (mem y (numbers_of (gate_variables g)))) (free_in_inputs o (gate_inputs g))) (o x))
        (λ x. pick (eqb x (gate_name g).number) (2 * length (gate_tokens g) + total n (numbers_of (names_of (gate_inputs g)))) (n x))
    unfolding own opened steps gates_tokens mem
    passed_line =
        record {
          later = λ x h.
              a.later x (or_neither_right (eqb x own) (mem x before) h)
              ∙ definition_line g (gates_tokens gs) p x
              ∙ pick_no _ _ _ (ne_eqb own x (λ e. eqb-false x own (or_neither_left (eqb x own) (mem x before) h) (sym e)));
          known = λ x h. known_from x h (look (eqb x own));
          alone = λ x h. pick_no _ _ _ (or_neither_left (eqb x own) (mem x before) h) ∙ a.alone x (or_neither_right (eqb x own) (mem x before) h);
          light = λ x h. pick_no _ _ _ (or_neither_left (eqb x own) (mem x before) h) ∙ a.light x (or_neither_right (eqb x own) (mem x before) h);
        }
      where
        known_from : (x : ℕ) → (eqb x own || mem x before) ≡ true → Is (eqb x own)
            → Good t (p + length (gate_tokens g)) (pick (eqb x own) opened (o x)) (pick (eqb x own) steps (n x)) x
        known_from x h (is_true e) =
            good_same (sym (pick_yes _ _ _ e)) (sym (pick_yes _ _ _ e))
            (subst (λ y. Good t (p + length (gate_tokens g)) opened steps y) (sym (eqb-true x own e)) line_good)
        known_from x h (is_false e) =
            good_same (sym (pick_no _ _ _ e)) (sym (pick_no _ _ _ e))
            (good_more (omega arith) (a.known x (rw e at h)))

  -- through all the lines
  pub passed_all : (gs : List Gate) (p : ℕ) (before : List ℕ) (o : FreeIn) (n : ℕ → ℕ) → Held t p (gates_tokens gs)
      → repeated before (gate_names gs) ≡ [] → early_uses before gs ≡ [] → Passed t p before gs o n
      → (x : ℕ) → Good t (p + length (gates_tokens gs)) (free_in_gates o gs x) (weights n gs x) x
  unfolding gates_tokens gate_names repeated early_uses free_in_gates weights numbers_of
  passed_all [] p before o n held rep early a x =
      good_more (omega arith) (name_good a x (λ e. mem_nil x))
  passed_all (g ∷ gs) p before o n held rep early a x =
      let l = length-append (gate_tokens g) (gates_tokens gs) in
      let first = (append-eq-nil_iff {p = pick (mem (gate_name g).number before) ((gate_name g).position ∷ []) []}).0 rep in
      let inputs = (append-eq-nil_iff {p = naming_gates (numbers_of (gate_names (g ∷ gs))) (without before (names_of (gate_inputs g)))}).0 early in
      let rest =
      passed_all gs (p + length (gate_tokens g)) ((gate_name g).number ∷ before) _ _
      (held_right t p (gate_tokens g) (gates_tokens gs) held)
      first.1
      inputs.1
      (passed_line g gs p before o n (held_left t p (gate_tokens g) (gates_tokens gs) held)
      (pick_empty (mem (gate_name g).number before) (gate_name g).position first.0) inputs.0 a) x in
      good_more (omega arith) rest
