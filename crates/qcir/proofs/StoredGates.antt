-- What is stored for names, inputs, gate lines and prefix lines has their values.
-- Assumes nothing.
use mathlib.Core.Path.{◌≡◌, refl, sym, ◌∙◌, ap, subst}
use mathlib.Core.Bool.{Bool, true, false, ◌&&◌, ◌||◌, and-true, and_assoc, or-false, or_assoc}
use mathlib.Core.List.{List, [], ◌∷◌, ◌++◌, map, append_assoc}
use Prim.Native.Nat.{ℕ, suc, ◌+◌, ◌-◌, ◌≤◌}
use native.Mathlib.Omega.{arith}
use lib.Dec.{eqb}
use borrow.Author.Tests.{eqb-true, eqb-false}
use Rattle.lists.specs.Choice.{pick, pick_yes, pick_no, Is, is_true, is_false, look, or_neither_left, or_neither_right}
use Rattle.lists.specs.Members.{mem, all, distinct, times}
use Rattle.lists.specs.Parts.{sum}
use Rattle.lists.proofs.Members.{mem_head, mem_tail, mem_left, mem_right, all_intro}
use Rattle.formula.specs.Node.{variable, operator}
use Rattle.formula.specs.Words.{words_of, table_of}
use Rattle.formula.specs.Valuation.{Valuation}
use Rattle.formula.specs.Truth.{operator_value}
use Rattle.formula.specs.Tree.{times_named}
use Rattle.formula.proofs.Meaning.{operator_names}
use Rattle.acceptance.specs.Verdict.{is_number}
use Rattle.qcir.specs.File.{Name, Literal, Junction, conjunction, disjunction, Gate, junction_gate, xor_gate, quantifier_gate, gate_name, gate_variables, gate_inputs, Line, line_variables, numbers_of, names_of}
use Rattle.qcir.specs.Meaning.{Meaning, literal_value, junction_value, gate_value, meaning, prefix_value}
use Rattle.qcir.specs.Refusals.{input_numbers}
use Rattle.qcir.specs.Table.{Draft, Stored, store, store_name, store_literal, store_inputs, junction_table, empty_value, store_gate, store_gates, store_prefix, empty_draft}
use Rattle.qcir.proofs.Numbers.{line_names}
use Rattle.qcir.proofs.GateLines.{numbers_append, Lines, no_line, line, Prefix, no_prefix, prefix_line}
use Rattle.qcir.proofs.StoredValues.{Kept, kept_same, kept_more, Stands, stands_kept, stands_as}
use Rattle.qcir.proofs.StoredNodes.{Sound}
use Rattle.qcir.proofs.Drafts.{draft_table, below_no, times_one, times_other, times_cons, Holds, Stores, new_constant, new_variable, new_negation, new_operator, new_block}

-- the operator with truth table t from left to right, over a first value and inputs
folded : ℕ → Meaning → (Valuation → Bool) → List Literal → Valuation → Bool
folded t m g [] = g
folded t m g (l ∷ ls) = folded t m (λ v. operator_value t (g v) (literal_value m l v)) ls

and_folded : (m : Meaning) (g : Valuation → Bool) (ls : List Literal) (v : Valuation)
    → folded 8 m g ls v ≡ (g v && junction_value m conjunction ls v)
unfolding folded junction_value
and_folded m g [] v = sym (and-true (g v))
and_folded m g (l ∷ ls) v =
    and_folded m (λ v. operator_value 8 (g v) (literal_value m l v)) ls v
    ∙ ap (λ b. b && junction_value m conjunction ls v) (operator_names.and_8 (g v) (literal_value m l v))
    ∙ and_assoc (g v) (literal_value m l v) (junction_value m conjunction ls v)

or_folded : (m : Meaning) (g : Valuation → Bool) (ls : List Literal) (v : Valuation)
    → folded 14 m g ls v ≡ (g v || junction_value m disjunction ls v)
unfolding folded junction_value
or_folded m g [] v = sym (or-false (g v))
or_folded m g (l ∷ ls) v =
    or_folded m (λ v. operator_value 14 (g v) (literal_value m l v)) ls v
    ∙ ap (λ b. b || junction_value m disjunction ls v) (operator_names.or_14 (g v) (literal_value m l v))
    ∙ or_assoc (g v) (literal_value m l v) (junction_value m disjunction ls v)

junction_folded : (m : Meaning) (j : Junction) (l : Literal) (ls : List Literal) (v : Valuation)
    → folded (junction_table j) m (literal_value m l) ls v ≡ junction_value m j (l ∷ ls) v
unfolding junction_table junction_value
junction_folded m conjunction l ls v = and_folded m (literal_value m l) ls v
junction_folded m disjunction l ls v = or_folded m (literal_value m l) ls v

junction_empty : (m : Meaning) (j : Junction) (v : Valuation) → empty_value j ≡ junction_value m j [] v
unfolding empty_value junction_value
junction_empty m conjunction v = refl
junction_empty m disjunction v = refl

table_small : (j : Junction) → junction_table j ≤ 15
unfolding junction_table
table_small conjunction = omega arith
table_small disjunction = omega arith

-- a node and its gate entry, which is one more
times_shift : (k a : ℕ) → times (suc k) (suc a ∷ []) ≡ times k (a ∷ [])
times_shift k a = go (look (eqb k a))
  where
    go : Is (eqb k a) → times (suc k) (suc a ∷ []) ≡ times k (a ∷ [])
    go (is_true e) = let q : k ≡ a = eqb-true k a e in times_one (suc k) (suc a) (ap suc q) ∙ sym (times_one k a q)
    go (is_false e) =
        let n : k ≡ a → ⊥ = eqb-false k a e in times_other (suc k) (suc a) (λ z. n (omega arith)) ∙ sym (times_other k a n)

not_first : (x y : ℕ) (ys : List ℕ) → mem x (y ∷ ys) ≡ false → (eqb x y ≡ false) × (mem x ys ≡ false)
unfolding mem
not_first x y ys h = (or_neither_left _ (mem x ys) h, or_neither_right (eqb x y) _ h)

numbers_cons : (x : Name) (xs : List Name) → numbers_of (x ∷ xs) ≡ x.number ∷ numbers_of xs
unfolding numbers_of
numbers_cons x xs = refl

-- the names in a gate line
line_variable : (g : Gate) (x : ℕ) → mem x (numbers_of (gate_variables g)) ≡ true → mem x (numbers_of (line_names g)) ≡ true
unfolding line_names
line_variable g x h =
    rw (numbers_cons, numbers_append) (mem_tail x _ _ (mem_left x (numbers_of (gate_variables g)) (numbers_of (names_of (gate_inputs g))) h))

line_input : (g : Gate) (x : ℕ) → mem x (numbers_of (names_of (gate_inputs g))) ≡ true → mem x (numbers_of (line_names g)) ≡ true
unfolding line_names
line_input g x h =
    rw (numbers_cons, numbers_append) (mem_tail x _ _ (mem_right x (numbers_of (gate_variables g)) (numbers_of (names_of (gate_inputs g))) h))

-- nothing is named or used where nothing is stored
none_named : (k : ℕ) → times_named (table_of [] []) k ≡ 0
unfolding times_named table_of sum
none_named k = refl

none_times : (k : ℕ) → times k [] ≡ 0
unfolding times
none_times k = refl

none_used : (k : ℕ) (ys : List ℕ) → times (suc k) (map (λ y. 0) ys) ≡ 0
none_used k [] = none_times (suc k)
none_used k (y ∷ ys) = omega (arith, times_cons (suc k) 0 (map (λ y. 0) ys), times_other (suc k) 0 (λ z. omega arith), none_used k ys)

-- gate entries with x's set to the entry of node i
abbrev set_gate : (ℕ → ℕ) → ℕ → ℕ → ℕ → ℕ
set_gate gate x i y = pick (eqb y x) (suc i) (gate y)

-- then a use of x is one of node i, where x's entry was 0
module _ (gate : ℕ → ℕ) (x i : ℕ) (k : ℕ) where
  abbrev after : List ℕ → ℕ
  after ys = times (suc k) (map (set_gate gate x i) ys)

  abbrev earlier : List ℕ → ℕ
  earlier ys = times (suc k) (map gate ys)

  -- another name's use
  use_other : (y : ℕ) (ys : List ℕ) → eqb y x ≡ false → (after (y ∷ ys) ≡ times (suc k) (gate y ∷ []) + after ys) × (times x (y ∷ ys) ≡ times x ys)
  use_other y ys e =
      let n : y ≡ x → ⊥ = eqb-false y x e in
      let a : set_gate gate x i y ≡ gate y = pick_no _ _ _ e in (
        times_cons (suc k) (set_gate gate x i y) (map (set_gate gate x i) ys) ∙ ap (λ z. times (suc k) (z ∷ []) + after ys) a,
        omega (arith, times_cons x y ys, times_other x y (λ z. n (sym z))),
      )

  use_none : (ys : List ℕ) → times x ys ≡ 0 → after ys ≡ earlier ys
  use_none [] e = refl
  use_none (y ∷ ys) e = go (look (eqb y x)) (use_none ys)
    where
      go : Is (eqb y x) → (times x ys ≡ 0 → after ys ≡ earlier ys) → after (y ∷ ys) ≡ earlier (y ∷ ys)
      go (is_true q) rest = absurd (omega (arith, times_cons x y ys, times_one x y (sym (eqb-true y x q))))
      go (is_false q) rest =
          let r = use_other y ys q in
          let h : after ys ≡ earlier ys = rest (sym r.1 ∙ e) in
          omega (arith, r.0, times_cons (suc k) (gate y) (map gate ys))

  use_once : gate x ≡ 0 → (ys : List ℕ) → times x ys ≡ 1 → after ys ≡ earlier ys + times k (i ∷ [])
  unfolding times
  use_once new [] e = absurd (omega arith)
  use_once new (y ∷ ys) e = go (look (eqb y x)) (use_once new ys)
    where
      go : Is (eqb y x) → (times x ys ≡ 1 → after ys ≡ earlier ys + times k (i ∷ [])) → after (y ∷ ys) ≡ earlier (y ∷ ys) + times k (i ∷ [])
      go (is_true q) rest =
          let z : y ≡ x = eqb-true y x q in
          let a : set_gate gate x i y ≡ suc i = pick_yes _ _ _ q in
          let b : gate y ≡ 0 = ap gate z ∙ new in
          omega (
            arith,
            times_cons x y ys,
            times_one x y (sym z),
            use_none ys (omega (arith, times_cons x y ys, times_one x y (sym z))),
            times_cons (suc k) (set_gate gate x i y) (map (set_gate gate x i) ys),
            ap (λ n. times (suc k) (n ∷ [])) a,
            times_shift k i,
            times_cons (suc k) (gate y) (map gate ys),
            times_other (suc k) (gate y) (λ w. omega arith),
          )
      go (is_false q) rest =
          let r = use_other y ys q in
          let h : after ys ≡ earlier ys + times k (i ∷ []) = rest (sym r.1 ∙ e) in
          omega (arith, r.0, times_cons (suc k) (gate y) (map gate ys))

module _ (R : Type 0) where
  stores_as : {d : Draft} {hand uses : List ℕ} {m : Meaning} {g h : Valuation → Bool} {s : Stored} → ((v : Valuation) → g v ≡ h v)
      → Stores R d hand uses m g s → Stores R d hand uses m h s
  stores_as e p = record { holds = p.holds; stands = stands_as e p.stands; kept = p.kept; gate = p.gate }

  stores_after : {d e : Draft} {hand uses : List ℕ} {m : Meaning} {h : Valuation → Bool} {s : Stored}
      → Kept (draft_table d) (draft_table e) → ((x : ℕ) → e.gate x ≡ d.gate x) → Stores R e hand uses m h s → Stores R d hand uses m h s
  stores_after k g q =
      record { holds = q.holds; stands = q.stands; kept = kept_more k q.kept; gate = λ x. q.gate x ∙ g x }

  stores_none : (d : Draft) (hand uses : List ℕ) (m : Meaning) (g : Valuation → Bool) (i : ℕ) → Holds R d (i ∷ hand) uses m → Stands (draft_table d) i g
      → Stores R d hand uses m g (record { draft = d; node = i })
  stores_none d hand uses m g i h p = record { holds = h; stands = p; kept = kept_same (draft_table d); gate = λ x. refl }

  module _ (d : Draft) (hand uses : List ℕ) (m : Meaning) where
    name_stores : (x : ℕ) → (R → is_number x ≡ true) → Holds R d hand (x ∷ uses) m → Stores R d hand uses m (m x) (store_name d x)
    unfolding store_name
    name_stores x r p = go (look (eqb (d.gate x) 0))
      where
        go : Is (eqb (d.gate x) 0) → Stores R d hand uses m (m x) (pick (eqb (d.gate x) 0) (store d (words_of (variable x))) (record { draft = d; node = d.gate x - 1 }))
        go (is_true e) =
            let z : d.gate x ≡ 0 = eqb-true _ _ e in
            let q : Holds R d hand uses m =
            record {
              sound = p.sound;
              once = λ k. omega (arith, p.once k, times_cons (suc k) (d.gate x) (map d.gate uses), times_other (suc k) (d.gate x) (λ w. omega arith));
              gates = p.gates;
              variables = p.variables;
            } in
            subst (Stores R d hand uses m (m x)) (sym (pick_yes _ _ _ e))
            (stores_as (λ v. sym (p.variables x z v)) (new_variable R d hand uses m q x r))
        go (is_false e) =
            let n : d.gate x ≡ 0 → ⊥ = eqb-false _ _ e in
            let i : ℕ = d.gate x - 1 in
            let z : d.gate x ≡ suc i = omega arith in
            let q : Holds R d (i ∷ hand) uses m =
            record {
              sound = p.sound;
              once = λ k. omega (arith, p.once k, times_cons (suc k) (d.gate x) (map d.gate uses), ap (λ y. times (suc k) (y ∷ [])) z, times_shift k i, times_cons k i hand);
              gates = p.gates;
              variables = p.variables;
            } in
            subst (Stores R d hand uses m (m x)) (sym (pick_no _ _ _ e)) (stores_none d hand uses m (m x) i q (p.gates x i z))

    pub literal_stores : (l : Literal) → (R → is_number l.name.number ≡ true) → Holds R d hand (l.name.number ∷ uses) m
        → Stores R d hand uses m (literal_value m l) (store_literal d l)
    unfolding store_literal literal_value
    literal_stores l r p = go (look l.minus)
      where
        go : Is l.minus → Stores R d hand uses m (literal_value m l) (store_literal d l)
        go (is_true e) =
            let s = name_stores l.name.number r p in
            let i = store_name d l.name.number in
            subst (Stores R d hand uses m (literal_value m l)) (sym (pick_yes _ _ _ e))
            (stores_as (λ v. sym (pick_yes _ _ _ e))
            (stores_after s.kept s.gate (new_negation R i.draft hand uses m i.node (m l.name.number) s.holds s.stands)))
        go (is_false e) =
            subst (Stores R d hand uses m (literal_value m l)) (sym (pick_no _ _ _ e))
            (stores_as (λ v. sym (pick_no _ _ _ e)) (name_stores l.name.number r p))

  -- the numbers of inputs are variable numbers
  abbrev Inputs : List Literal → Type 0
  Inputs ls = R → (x : ℕ) → mem x (numbers_of (names_of ls)) ≡ true → is_number x ≡ true

  inputs_stores : (t : ℕ) → t ≤ 15 → (s : Stored) (hand uses : List ℕ) (m : Meaning) (g : Valuation → Bool) (ls : List Literal) → Inputs ls
      → Holds R s.draft (s.node ∷ hand) (numbers_of (names_of ls) ++ uses) m → Stands (draft_table s.draft) s.node g
      → Stores R s.draft hand uses m (folded t m g ls) (store_inputs t s ls)
  unfolding store_inputs folded numbers_of names_of
  inputs_stores t small s hand uses m g [] r p q = stores_none s.draft hand uses m g s.node p q
  inputs_stores t small s hand uses m g (l ∷ ls) r p q =
      let e = store_literal s.draft l in
      let a = literal_stores s.draft (s.node ∷ hand) (numbers_of (names_of ls) ++ uses) m l (λ h. r h _ (mem_head _ _)) p in
      let b = new_operator R e.draft hand (numbers_of (names_of ls) ++ uses) m t s.node e.node g (literal_value m l) small a.holds (stands_kept a.kept q) a.stands in
      stores_after (kept_more a.kept b.kept) (λ x. b.gate x ∙ a.gate x)
      (inputs_stores t small (store e.draft (words_of (operator t s.node e.node))) hand uses m (λ v. operator_value t (g v) (literal_value m l v)) ls
      (λ h x i. r h x (mem_tail x l.name.number (numbers_of (names_of ls)) i)) b.holds b.stands)

  -- a first input, and those that follow
  gate_inputs_lem : (t : ℕ) → t ≤ 15 → (d : Draft) (hand uses : List ℕ) (m : Meaning) (l : Literal) (ls : List Literal) → Inputs (l ∷ ls)
      → Holds R d hand (numbers_of (names_of (l ∷ ls)) ++ uses) m
      → Stores R d hand uses m (folded t m (literal_value m l) ls) (store_inputs t (store_literal d l) ls)
  unfolding numbers_of names_of
  gate_inputs_lem t small d hand uses m l ls r p =
      let a = literal_stores d hand (numbers_of (names_of ls) ++ uses) m l (λ h. r h _ (mem_head _ _)) p in
      stores_after a.kept a.gate
      (inputs_stores t small (store_literal d l) hand uses m (literal_value m l) ls (λ h x i. r h x (mem_tail x l.name.number (numbers_of (names_of ls)) i)) a.holds a.stands)

  gate_stores : (d : Draft) (hand uses : List ℕ) (m : Meaning) (g : Gate) → Inputs (gate_inputs g) → distinct (numbers_of (gate_variables g)) ≡ true
      → (R → all is_number (numbers_of (gate_variables g)) ≡ true)
      → Holds R d hand (numbers_of (names_of (gate_inputs g)) ++ uses) m → Stores R d hand uses m (gate_value m g) (store_gate d g)
  unfolding gate_inputs gate_variables store_gate store_inputs gate_value folded numbers_of names_of
  gate_stores d hand uses m (junction_gate j g []) r u n p =
      stores_as (junction_empty m j) (new_constant R d hand uses m p (empty_value j))
  gate_stores d hand uses m (junction_gate j g (l ∷ ls)) r u n p =
      stores_as (junction_folded m j l ls) (gate_inputs_lem (junction_table j) (table_small j) d hand uses m l ls r p)
  gate_stores d hand uses m (xor_gate g l k) r u n p =
      stores_as (λ v. operator_names.xor_6 (literal_value m l v) (literal_value m k v)) (gate_inputs_lem 6 (omega arith) d hand uses m l (k ∷ []) r p)
  gate_stores d hand uses m (quantifier_gate q g x xs l) r u n p =
      let e = store_literal d l in
      let a = literal_stores d hand uses m l (λ h. r h _ (mem_head _ _)) p in
      stores_after a.kept a.gate (new_block R e.draft hand uses m q (numbers_of (x ∷ xs)) e.node (literal_value m l) (omega arith) u n a.holds a.stands)

  -- the gate's name stands for what was stored
  defined : (s : Stored) (uses : List ℕ) (m : Meaning) (x : ℕ) (g : Valuation → Bool) → s.draft.gate x ≡ 0 → times x uses ≡ 1
      → Holds R s.draft (s.node ∷ []) uses m → Stands (draft_table s.draft) s.node g
      → Holds R (record { words = s.draft.words; entries = s.draft.entries; gate = set_gate s.draft.gate x s.node }) [] uses
      (λ y v. pick (eqb y x) (g v) (m y v))
  unfolding times
  defined s uses m x g new used p q =
      record {
        sound = p.sound;
        once = λ k. omega (arith, p.once k, use_once s.draft.gate x s.node k new uses used);
        gates = λ y k e. gate_at y k e (look (eqb y x));
        variables = λ y e v. other y e v (look (eqb y x));
      }
    where
      gate_at : (y k : ℕ) → set_gate s.draft.gate x s.node y ≡ suc k → Is (eqb y x)
          → Stands (draft_table s.draft) k (λ v. pick (eqb y x) (g v) (m y v))
      gate_at y k e (is_true z) =
          let i : suc s.node ≡ suc k = sym (pick_yes _ _ _ z) ∙ e in
          let j : s.node ≡ k = omega arith in
          subst (λ n. Stands (draft_table s.draft) n (λ v. pick (eqb y x) (g v) (m y v))) j (stands_as (λ v. sym (pick_yes _ _ _ z)) q)
      gate_at y k e (is_false z) = stands_as (λ v. sym (pick_no _ _ _ z)) (p.gates y k (sym (pick_no _ _ _ z) ∙ e))

      other : (y : ℕ) → set_gate s.draft.gate x s.node y ≡ 0 → (v : Valuation) → Is (eqb y x) → pick (eqb y x) (g v) (m y v) ≡ v y
      other y e v (is_true z) = let i : suc s.node ≡ 0 = sym (pick_yes _ _ _ z) ∙ e in absurd (omega arith)
      other y e v (is_false z) = pick_no _ _ _ z ∙ p.variables y (sym (pick_no _ _ _ z) ∙ e) v

  pub gates_hold : (out before : List ℕ) (gs : List Gate) → Lines R out before gs → (d : Draft) (m : Meaning)
      → ((x : ℕ) → mem x before ≡ false → d.gate x ≡ 0) → Holds R d [] (input_numbers gs ++ out) m → Holds R (store_gates d gs) [] out (meaning m gs)
  unfolding input_numbers store_gates meaning
  gates_hold out before [] no_line d m none p = p
  gates_hold out before (g ∷ gs) (line fresh used apart ranged rest) d m none p =
      let x = (gate_name g).number in
      let s = store_gate d g in
      let uses : List ℕ = input_numbers gs ++ out in
      let h : Holds R d [] (numbers_of (names_of (gate_inputs g)) ++ uses) m = rw append_assoc at p in
      let a = gate_stores d [] uses m g (λ r y i. ranged r y (line_input g y i)) apart (λ r. all_intro is_number _ (λ y i. ranged r y (line_variable g y i))) h in
      gates_hold out ((gate_name g).number ∷ before) gs rest _ _
      (λ y n. pick_no _ _ _ (not_first y (gate_name g).number before n).0 ∙ a.gate y ∙ none y (not_first y (gate_name g).number before n).1)
      (defined s uses m x (gate_value m g) (a.gate x ∙ none x fresh) used a.holds a.stands)

  pub prefix_stores : (ls : List Line) → Prefix R ls → (d : Draft) (m : Meaning) (g : Valuation → Bool) (s : Stored) → Stores R d [] [] m g s
      → Stores R d [] [] m (prefix_value ls g) (store_prefix s ls)
  unfolding store_prefix prefix_value line_variables numbers_of
  prefix_stores [] no_prefix d m g s p = p
  prefix_stores (l ∷ ls) (prefix_line apart ranged rest) d m g s p =
      let a = prefix_stores ls rest d m g s p in
      let e = store_prefix s ls in
      stores_after a.kept a.gate
      (new_block R e.draft [] [] m l.quantifier (numbers_of (line_variables l)) e.node (prefix_value ls g) (omega arith) apart
      (λ r. all_intro is_number _ (ranged r)) a.holds a.stands)

  pub empty_holds : (uses : List ℕ) → Holds R empty_draft [] uses (λ x u. u x)
  unfolding empty_draft
  empty_holds uses =
      record {
        sound = empty_sound;
        once = λ k. omega (arith, none_named k, none_times k, none_used k uses, below_no k 0 (omega arith));
        gates = λ x k e. absurd (omega arith);
        variables = λ x e v. refl;
      }
    where
      empty_sound : Sound R [] []
      empty_sound =
          record {
            whole = omega arith;
            fits = λ i h. absurd (omega arith);
            lower = λ i a h. absurd (omega arith);
            filled = λ i h. absurd (omega arith);
            apart = λ i h. absurd (omega arith);
            formed = λ r i h. absurd (omega arith);
            numbered = λ r i h. absurd (omega arith);
          }
