-- Marks of the numbers that the free and prefix lines name: how they are set, and what they say of a file.
-- Assumes nothing.
use mathlib.Core.Path.{◌≡◌, sym, ◌∙◌, ap, subst}
use mathlib.Core.Bool.{Bool, true, false, not, ◌&&◌, ◌||◌, or-false}
use mathlib.Core.List.{List, [], ◌∷◌, ◌++◌}
use Prim.Native.Nat.{ℕ, suc, ◌+◌, ◌-◌, ◌≤◌, ◌<◌}
use native.Mathlib.Omega.{arith}
use lib.Dec.{eqb}
use lib.ListN.{length, get_or, set, length-set}
use borrow.Author.Tests.{eqb-true, eqb-false, eq-eqb}
use Rattle.lists.specs.Choice.{pick_yes, pick_no, Is, is_true, is_false, look, clash, and_both, or_cases}
use Rattle.lists.specs.Members.{mem}
use Rattle.lists.proofs.Members.{mem_nil, mem_append}
use Rattle.lists.proofs.Stores.{get_d_set}
use Rattle.qcir.specs.File.{Name, Literal, Gate, gate_name, gate_variables, gate_inputs, numbers_of, names_of}
use Rattle.qcir.specs.Refusals.{input_numbers}
use Rattle.qcir_tokens.specs.Tokens.{Token, token, is_outer, is_use, inputs_tokens, any_inputs_tokens, gate_tokens, gates_tokens}
use Rattle.qcir_tokens.specs.Held.{number_count}
use Rattle.qcir_unbound.specs.Outer.{outer_from, Outer, AllMarked}
use Rattle.qcir_unbound.specs.Steps.{Tokens, tokens_of, put}
use Rattle.qcir_unbound.proofs.Roles.{definition_role, input_tests, Each, each_none, each_more, OuterEntry, bound_tokens, gate_line, token_numbers, Held, held_none, held_more}
use Rattle.qcir_unbound.proofs.Lines.{marked_put}

module _ (roles numbers : List ℕ) (count : ℕ) where
  -- The entries before token i are marked; with those that follow them, all are.
  pub record Marking (marks : List Bool) (i : ℕ) : Type 0 where
    pub wide : length marks ≡ number_count
    pub marked : (x : ℕ) → (mem x (outer_from roles numbers i (count - i)) || get_or marks x false) ≡ mem x (outer_from roles numbers 0 count)
    pub passed : i + length (outer_from roles numbers i (count - i)) ≡ length (outer_from roles numbers 0 count)

  outer_next : (i : ℕ) → i < count → is_outer (get_or roles i 0) ≡ true
      → outer_from roles numbers i (count - i) ≡ get_or numbers i 0 ∷ outer_from roles numbers (i + 1) (count - (i + 1))
  unfolding outer_from
  outer_next i h t =
      let a : count - i ≡ suc (count - (i + 1)) = omega arith in
      let b : suc i ≡ i + 1 = omega arith in
      ap (outer_from roles numbers i) a ∙ pick_yes _ _ _ t ∙ ap (λ k. get_or numbers i 0 ∷ outer_from roles numbers k (count - (i + 1))) b

  pub outer_stop : (i : ℕ) → i < count → is_outer (get_or roles i 0) ≡ false → outer_from roles numbers i (count - i) ≡ []
  unfolding outer_from
  outer_stop i h t =
      let a : count - i ≡ suc (count - (i + 1)) = omega arith in
      ap (outer_from roles numbers i) a ∙ pick_no _ _ _ t

  pub outer_end : (i : ℕ) → count ≤ i → outer_from roles numbers i (count - i) ≡ []
  unfolding outer_from
  outer_end i h =
      let a : count - i ≡ 0 = omega arith in ap (outer_from roles numbers i) a

  pub marking_start : (marks : List Bool) → length marks ≡ number_count → ((x : ℕ) → get_or marks x false ≡ false) → Marking marks 0
  marking_start marks w clear =
      let a : count - 0 ≡ count = omega arith in
      let e : outer_from roles numbers 0 (count - 0) ≡ outer_from roles numbers 0 count = ap (outer_from roles numbers 0) a in
      record {
        wide = w;
        marked = λ x. ap (λ b. mem x (outer_from roles numbers 0 (count - 0)) || b) (clear x) ∙ or-false (mem x (outer_from roles numbers 0 (count - 0))) ∙ ap (mem x) e;
        passed = let l = ap length e in omega arith;
      }

  pub marking_next : (marks : List Bool) (i : ℕ) → i < count → get_or numbers i 0 < number_count → is_outer (get_or roles i 0) ≡ true → Marking marks i → Marking (set marks (get_or numbers i 0) true) (i + 1)
  unfolding mem put
  marking_next marks i h n t a =
      let y : ℕ = get_or numbers i 0 in
      let w = a.wide in
      let rest : List ℕ = outer_from roles numbers (i + 1) (count - (i + 1)) in
      let e : outer_from roles numbers i (count - i) ≡ y ∷ rest = outer_next i h t in
      record {
        wide = length-set marks y true ∙ w;
        marked = λ x.
            ap (λ b. mem x rest || b) (get_d_set marks y true false (omega arith) x)
            ∙ marked_put (λ z. get_or marks z false) y x (mem x rest) (look (eqb x y))
            ∙ sym (ap (λ l. mem x l || get_or marks x false) e)
            ∙ a.marked x;
        passed = let l : length (outer_from roles numbers i (count - i)) ≡ suc (length rest) = ap length e in let p = a.passed in omega arith;
      }

  pub marking_done : (marks : List Bool) (i : ℕ) → outer_from roles numbers i (count - i) ≡ [] → Marking marks i → Outer roles numbers count i marks
  unfolding mem
  marking_done marks i e a =
      record {
        wide = a.wide;
        marked = λ x. sym (ap (λ l. mem x l || get_or marks x false) e) ∙ a.marked x;
        output_is = let l : length (outer_from roles numbers i (count - i)) ≡ 0 = ap length e in let p = a.passed in omega arith;
      }

-- Uses of variables that are marked, one token after the other.
module _ (roles numbers gates : List ℕ) (marks : List Bool) (i : ℕ) where
  pub all_marked_none : AllMarked roles numbers gates marks i i
  all_marked_none k l h = absurd (omega arith)

  pub all_marked_next : (n : ℕ) → (is_use (get_or roles n 0) && (eqb (get_or gates (get_or numbers n 0) 0) 0 && not (get_or marks (get_or numbers n 0) false))) ≡ false
      → AllMarked roles numbers gates marks i n → AllMarked roles numbers gates marks i (n + 1)
  all_marked_next n e a k l h u z = go (look (eqb k n))
    where
      last : is_use (get_or roles n 0) ≡ true → get_or gates (get_or numbers n 0) 0 ≡ 0 → Is (get_or marks (get_or numbers n 0) false) → get_or marks (get_or numbers n 0) false ≡ true
      last v y (is_true q) = q
      last v y (is_false q) =
          clash
          (and_both (is_use (get_or roles n 0)) (eqb (get_or gates (get_or numbers n 0) 0) 0 && not (get_or marks (get_or numbers n 0) false)) v
          (and_both (eqb (get_or gates (get_or numbers n 0) 0) 0) (not (get_or marks (get_or numbers n 0) false)) (eq-eqb _ _ y) (ap not q)))
          e

      go : Is (eqb k n) → get_or marks (get_or numbers k 0) false ≡ true
      go (is_true q) =
          let s : k ≡ n = eqb-true k n q in
          subst (λ j. get_or marks (get_or numbers j 0) false ≡ true) (sym s)
          (last (subst (λ j. is_use (get_or roles j 0) ≡ true) s u) (subst (λ j. get_or gates (get_or numbers j 0) 0 ≡ 0) s z) (look (get_or marks (get_or numbers n 0) false)))
      go (is_false q) = let d = eqb-false k n q in a k l (omega arith) u z

-- The entries of the free and prefix lines are those up to the output.
pub outer_held : (roles numbers gates : List ℕ) (ks : List Token) (k : Token) (ls : List Token) (p : ℕ) → Each OuterEntry ks → is_outer k.role ≡ false
    → Held (tokens_of roles numbers gates) p (ks ++ (k ∷ ls)) → outer_from roles numbers p (length (ks ++ (k ∷ ls))) ≡ token_numbers ks
unfolding outer_from token_numbers tokens_of
outer_held roles numbers gates [] k ls p each_none e (held_more r n h) = pick_no _ _ _ (ap is_outer r ∙ e)
outer_held roles numbers gates (j ∷ ks) k ls p (each_more a b) e (held_more r n h) =
    pick_yes _ _ _ (ap is_outer r ∙ a.outer_is)
    ∙ ap (λ x. x ∷ outer_from roles numbers (suc p) (length (ks ++ (k ∷ ls)))) n
    ∙ ap (λ xs. j.name.number ∷ xs) (outer_held roles numbers gates ks k ls (suc p) b e h)

-- What holds of each number that a token uses holds of each input's.
module _ (R : ℕ → Type 0) where
  abbrev pub Uses : Token → Type 0
  Uses k = is_use k.role ≡ true → R k.name.number

  pub held_uses : (t : Tokens) (ks : List Token) (p n : ℕ) → p + length ks ≡ n → Held t p ks
      → ((k : ℕ) → p ≤ k → k < n → is_use (t.role k) ≡ true → R (t.number k)) → Each Uses ks
  held_uses t [] p n e held_none h = each_none
  held_uses t (k ∷ ks) p n e (held_more r m g) h =
      each_more (λ u. subst R m (h p (omega arith) (omega arith) (ap is_use r ∙ u))) (held_uses t ks (suc p) n (omega arith) g (λ j l. h j (omega arith)))

  each_left : (ks ls : List Token) → Each Uses (ks ++ ls) → Each Uses ks
  each_left [] ls a = each_none
  each_left (k ∷ ks) ls (each_more h a) = each_more h (each_left ks ls a)

  each_right : (ks ls : List Token) → Each Uses (ks ++ ls) → Each Uses ls
  each_right [] ls a = a
  each_right (k ∷ ks) ls (each_more h a) = each_right ks ls a

  -- of a list's first number and of the others
  pub of_cons : (y : ℕ) (ys : List ℕ) → R y → ((x : ℕ) → mem x ys ≡ true → R x) → (x : ℕ) → mem x (y ∷ ys) ≡ true → R x
  unfolding mem
  of_cons y ys a h x m = or_cases (eqb x y) (mem x ys) m (λ e. subst R (sym (eqb-true x y e)) a) (h x)

  inputs_used : (l : Literal) (ls : List Literal) → Each Uses (inputs_tokens l ls) → (x : ℕ) → mem x (numbers_of (names_of (l ∷ ls))) ≡ true → R x
  unfolding inputs_tokens token numbers_of names_of
  inputs_used l [] (each_more u each_none) =
      of_cons l.name.number [] (u (input_tests l.minus true).use_is) (λ x m. clash m (mem_nil x))
  inputs_used l (k ∷ ks) (each_more u a) =
      of_cons l.name.number (numbers_of (names_of (k ∷ ks))) (u (input_tests l.minus false).use_is) (inputs_used k ks a)

  any_used : (g : Name) (ls : List Literal) → Each Uses (any_inputs_tokens g ls) → (x : ℕ) → mem x (numbers_of (names_of ls)) ≡ true → R x
  unfolding any_inputs_tokens numbers_of names_of
  any_used g [] a x m = clash m (mem_nil x)
  any_used g (l ∷ ls) a x m = inputs_used l ls a x m

  gate_used : (g : Gate) → Each Uses (gate_tokens g) → (x : ℕ) → mem x (numbers_of (names_of (gate_inputs g))) ≡ true → R x
  gate_used g a = go (subst (Each Uses) (gate_line g) a)
    where
      go : Each Uses (token (definition_role g) (gate_name g) ∷ (bound_tokens (gate_variables g) ++ any_inputs_tokens (gate_name g) (gate_inputs g))) → (x : ℕ) → mem x (numbers_of (names_of (gate_inputs g))) ≡ true → R x
      go (each_more u b) = any_used (gate_name g) (gate_inputs g) (each_right (bound_tokens (gate_variables g)) (any_inputs_tokens (gate_name g) (gate_inputs g)) b)

  pub gates_used : (gs : List Gate) → Each Uses (gates_tokens gs) → (x : ℕ) → mem x (input_numbers gs) ≡ true → R x
  unfolding gates_tokens input_numbers
  gates_used [] a x m = clash m (mem_nil x)
  gates_used (g ∷ gs) a x m =
      or_cases (mem x (numbers_of (names_of (gate_inputs g)))) (mem x (input_numbers gs))
      (sym (mem_append x (numbers_of (names_of (gate_inputs g))) (input_numbers gs)) ∙ m)
      (gate_used g (each_left (gate_tokens g) (gates_tokens gs) a) x)
      (gates_used gs (each_right (gate_tokens g) (gates_tokens gs) a) x)
