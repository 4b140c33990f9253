-- Laws of the flags: what one node changes in them, and what they say in the end.
-- Assumes nothing.
use mathlib.Core.Path.{◌≡◌, refl, sym, ◌∙◌, ap}
use mathlib.Core.Bool.{Bool, true, false, ◌&&◌, ◌||◌, or-true, or-false}
use mathlib.Core.List.{List}
use Prim.Native.Nat.{ℕ, ◌+◌, ◌≤◌, ◌<◌}
use native.Mathlib.Omega.{arith}
use lib.Dec.{eqb, ltb}
use lib.ListN.{length, get_or, set, replicate, length-set, length-replicate, get_or-eq_default}
use lib.Seq.{set-get_or}
use borrow.Author.Tests.{eqb-true, eq-eqb, ne_eqb, ltb-true, ltb-false}
use Rattle.lists.specs.Choice.{pick, pick_no, Is, is_true, is_false, look, clash, absent, and_left, and_right, or_neither}
use Rattle.lists.specs.Parts.{sum}
use Rattle.lists.proofs.Search.{some_none, some_next}
use Rattle.lists.proofs.Parts.{sum_cong, sum_add, sum_zero}
use Rattle.lists.proofs.Sums.{sum_single, ones_le}
use Rattle.lists.proofs.Passing.{passing_length, passing_lists, one_list}
use Rattle.lists.proofs.Stores.{get_or-filled, get_d_set}
use Rattle.formula.specs.Node.{variable, Table}
use Rattle.formula.specs.Words.{node_count, field, node_at, table_of}
use Rattle.formula.specs.Truth.{free}
use Rattle.formula.specs.FreeVariables.{stands_at, free_variables}
use Rattle.formula.specs.Tree.{Tree, Proper}
use Rattle.formula.proofs.Nodes.{Kind, kind_constant, kind_variable, kind_negation, kind_operator, kind_exists, kind_for_all, kind_none, kind_of_lem, node_constant, node_variable, node_negation, node_operator, node_exists, node_for_all, node_none}
use Rattle.formula.proofs.FreeVariables.{free_listed}
use Rattle.prenex_form.specs.Scope.{binder}
use Rattle.prenex_form.specs.Names.{highest_number}
use Rattle.prenex_form.specs.FreeVariables.{unbound_at, stands_unbound}
use Rattle.prenex_form.proofs.Paths.{binder_le}
use Rattle.prenex_form.proofs.NameLaws.{variable_le}
use Rattle.prenex_form.proofs.FreeNames.{free_unbound}
use Rattle.arrays.specs.Held.{bound_entry, Bindings}
use Rattle.arrays.proofs.Bound.{entry_free, entry_bound}
use Rattle.free_variables.specs.Steps.{unbound_below, flagged, AreSet, Flagged, Clear}
use Rattle.free_variables.specs.declared.FlagsSet.{FlagsSet}

-- Setting a flag.

pick_or : (a b : Bool) → pick a true b ≡ (b || a)
unfolding pick
pick_or true b = sym (or-true b)
pick_or false b = sym (or-false b)

count_or : (a b : Bool) → (b ≡ true → a ≡ false) → pick (pick b true a) 1 0 ≡ pick a 1 0 + pick b 1 0
unfolding pick
count_or true true h = clash refl (h refl)
count_or false true h = refl
count_or true false h = refl
count_or false false h = refl

module _ (flags : List Bool) (y : ℕ) where
  set_flag : y < length flags → (x : ℕ) → get_or (set flags y true) x false ≡ (get_or flags x false || eqb x y)
  set_flag h x = get_d_set flags y true false h x ∙ pick_or (eqb x y) (get_or flags x false)

  -- one that is not set
  flag_new : y < length flags → get_or flags y false ≡ false → length (flagged flags) + 1 ≡ length (flagged (set flags y true))
  unfolding flagged
  flag_new h e =
      let n : ℕ = length flags in
      let was : ℕ → ℕ = λ x. pick (get_or flags x false) 1 0 in
      let is : ℕ → ℕ = λ x. pick (get_or (set flags y true) x false) 1 0 in
      let before : length (flagged flags) ≡ sum was n = passing_length (λ x. get_or flags x false) n in
      let wide : length (set flags y true) ≡ n = length-set flags y true in
      let after : length (flagged (set flags y true)) ≡ sum is n =
      passing_length (λ x. get_or (set flags y true) x false) (length (set flags y true)) ∙ ap (sum is) wide in
      let each : sum is n ≡ sum (λ x. was x + pick (eqb x y) 1 0) n =
      sum_cong is (λ x. was x + pick (eqb x y) 1 0) n (λ x l.
      ap (λ b. pick b 1 0) (get_d_set flags y true false h x)
      ∙ count_or (get_or flags x false) (eqb x y) (λ q. ap (λ (z : ℕ). get_or flags z false) (eqb-true x y q) ∙ e)) in
      let both : sum (λ x. was x + pick (eqb x y) 1 0) n ≡ sum was n + sum (λ x. pick (eqb x y) 1 0) n = sum_add was (λ x. pick (eqb x y) 1 0) n in
      let one : sum (λ x. pick (eqb x y) 1 0) n ≡ 1 = sum_single y 1 n h in omega arith

  -- what is set then
  pub set_again : (found : FlagsSet) → AreSet flags found → get_or flags y false ≡ true → AreSet (set flags y true) found
  set_again found a e =
      let same : set flags y true ≡ flags = ap (set flags y) (sym e) ∙ set-get_or flags y false in rw same a

  pub set_new : (found r : FlagsSet) → AreSet flags found → y < length flags → get_or flags y false ≡ false
      → r.count ≡ found.count + 1 → r.lowest ≤ found.lowest → r.lowest ≤ y → AreSet (set flags y true) r
  set_new found r a h e c l k =
      record {
        count_is = omega (arith, a.count_is, flag_new h e);
        lowest_le = omega (arith, a.lowest_le, length-set flags y true);
        none_below = λ x q. set_flag h x ∙ or_neither (get_or flags x false) (eqb x y) (a.none_below x (omega arith)) (ne_eqb x y (λ z. omega arith));
      }

-- no flag is set beyond the last
flag_within : (flags : List Bool) (x : ℕ) → get_or flags x false ≡ true → x < length flags
flag_within flags x e = go (look (ltb x (length flags)))
  where
    go : Is (ltb x (length flags)) → x < length flags
    go (is_true t) = ltb-true x (length flags) t
    go (is_false t) = clash e (get_or-eq_default flags false (ltb-false x (length flags) t))

pub flagged_low : (flags : List Bool) → length (flagged flags) ≤ length flags
unfolding flagged
flagged_low flags = omega (arith, passing_length (λ x. get_or flags x false) (length flags), ones_le (λ x. get_or flags x false) (length flags))

-- Flagging node by node.

module _ (t : Table) where
  unbound_none : (x : ℕ) → unbound_below t 0 x ≡ false
  unfolding unbound_below
  unbound_none x = some_none _

  unbound_next : (i x : ℕ) → unbound_below t (i + 1) x ≡ (unbound_below t i x || unbound_at t x i)
  unfolding unbound_below
  unbound_next i x = some_next _ i

  pub flags_none : (n : ℕ) → highest_number t < n → n ≤ 65536 → Clear t (replicate n false)
  unfolding flagged
  flags_none n h l =
      let wide : length (replicate n false) ≡ n = length-replicate {A = Bool} n false in
      let none : sum (λ x. pick (get_or (replicate n false) x false) 1 0) (length (replicate n false)) ≡ 0 =
      sum_zero _ (length (replicate n false)) (λ x k. pick_no {A = ℕ} _ _ _ (get_or-filled n x false)) in
      record {
        wide = omega arith;
        low = omega arith;
        flag_is = λ x. get_or-filled n x false ∙ sym (unbound_none x);
        are_set = record {
          count_is = sym (passing_length (λ x. get_or (replicate n false) x false) (length (replicate n false)) ∙ none);
          lowest_le = omega arith;
          none_below = λ x k. get_or-filled n x false;
        };
      }

  module _ (flags : List Bool) (i : ℕ) (found : FlagsSet) (m : Flagged t flags i found) where
    pub flags_few : found.count ≤ 65536
    flags_few = omega (arith, m.low, m.are_set.count_is, flagged_low flags)

    -- a node that stands for no free number
    pub flags_pass : ((x : ℕ) → unbound_at t x i ≡ true → ⊥) → Flagged t flags (i + 1) found
    flags_pass n =
        record {
          wide = m.wide;
          low = m.low;
          flag_is = λ x. m.flag_is x ∙ sym (unbound_next i x ∙ ap (λ b. unbound_below t i x || b) (absent _ (n x)) ∙ or-false (unbound_below t i x));
          are_set = m.are_set;
        }

    module _ (y : ℕ) (h : i < t.size) (v : t.node i ≡ variable y) where
      pub number_within : y < length flags
      number_within = omega (arith, m.wide, variable_le t i y h v)

      -- its number, if it has no binder
      stands_here : binder t i y ≡ t.size → (x : ℕ) → unbound_at t x i ≡ eqb x y
      unfolding stands_at
      stands_here b x = ap (λ nd. stands_at x nd && eqb (binder t i x) t.size) v ∙ go (look (eqb x y))
        where
          go : Is (eqb x y) → (eqb x y && eqb (binder t i x) t.size) ≡ eqb x y
          go (is_true e) = rw e (eq-eqb (binder t i x) t.size (ap (binder t i) (eqb-true x y e) ∙ b))
          go (is_false e) = rw e

      pub flags_free : binder t i y ≡ t.size → (r : FlagsSet) → AreSet (set flags y true) r → Flagged t (set flags y true) (i + 1) r
      flags_free b r c =
          let wide : length (set flags y true) ≡ length flags = length-set flags y true in
          record {
            wide = omega (arith, m.wide);
            low = omega (arith, m.low);
            flag_is = λ x.
                set_flag flags y number_within x
                ∙ ap (λ b. b || eqb x y) (m.flag_is x)
                ∙ sym (unbound_next i x ∙ ap (λ c. unbound_below t i x || c) (stands_here b x));
            are_set = c;
          }

      pub flags_bound : (binder t i y ≡ t.size → ⊥) → Flagged t flags (i + 1) found
      unfolding stands_at
      flags_bound n =
          flags_pass (λ x q.
          let a : stands_at x (t.node i) ≡ true = and_left _ _ q in
          let s : x ≡ y = eqb-true x y (sym (ap (stands_at x) v) ∙ a) in
          n (ap (binder t i) (sym s) ∙ eqb-true _ _ (and_right (stands_at x (t.node i)) _ q)))

  -- What is flagged in the end is free.
  pub flagged_free : (tree : Tree t) (flags : List Bool) (found : FlagsSet) → Flagged t flags t.size found → flagged flags ≡ free_variables t
  unfolding flagged unbound_below stands_unbound
  flagged_free tree flags found m =
      let flag : ℕ → Bool = λ x. get_or flags x false in
      let listed = passing_lists flag (length flags) (flag_within flags) in
      one_list (free t) (flagged flags) (free_variables t)
      (record { members = λ x. listed.members x ∙ m.flag_is x ∙ sym (free_unbound t tree x); ascending = listed.ascending })
      (free_listed t tree)

-- From the words and the bindings.

module _ (ws ls : List ℕ) where
  stands_is : (j x : ℕ) → stands_at x (node_at ws ls j) ≡ (eqb (field ws j 0) 2 && eqb x (field ws j 1))
  unfolding stands_at
  stands_is j x = go (kind_of_lem (field ws j 0))
    where
      go : Kind (field ws j 0) → stands_at x (node_at ws ls j) ≡ (eqb (field ws j 0) 2 && eqb x (field ws j 1))
      go (kind_constant e) = rw (node_constant ws ls j e, e)
      go (kind_variable e) = rw (node_variable ws ls j e, e)
      go (kind_negation e) = rw (node_negation ws ls j e, e)
      go (kind_operator e) = rw (node_operator ws ls j e, e)
      go (kind_exists e) = rw (node_exists ws ls j e, e)
      go (kind_for_all e) = rw (node_for_all ws ls j e, e)
      go (kind_none e1 e2 e3 e4 e5 e6) = rw (node_none ws ls j e1 e2 e3 e4 e5 e6, e2)

  pub plain_flags : (flags : List Bool) (i : ℕ) (found : FlagsSet) → (field ws i 0 ≡ 2 → ⊥) → Flagged (table_of ws ls) flags i found
      → Flagged (table_of ws ls) flags (i + 1) found
  unfolding table_of
  plain_flags flags i found n m =
      flags_pass (table_of ws ls) flags i found m (λ x q.
      n (eqb-true _ _ (and_left (eqb (field ws i 0) 2) _ (sym (stands_is i x) ∙ and_left (stands_at x (node_at ws ls i)) _ q))))

  module _ (proper : Proper (table_of ws ls)) (bindings : List ℕ) (b : Bindings (table_of ws ls) bindings) (i : ℕ) (h : i < node_count ws) (k : field ws i 0 ≡ 2) where
    variable_here : (table_of ws ls).node i ≡ variable (field ws i 1)
    unfolding table_of
    variable_here = node_variable ws ls i k

    entry_here : get_or bindings i 0 ≡ bound_entry (table_of ws ls) i (field ws i 1)
    unfolding table_of
    entry_here = b.binding_is i (field ws i 1) h variable_here

    bound_here : 0 < get_or bindings i 0 → binder (table_of ws ls) i (field ws i 1) ≡ node_count ws → ⊥
    unfolding table_of
    bound_here p e = omega (arith, entry_here, entry_free (table_of ws ls) proper i (field ws i 1) (omega arith))

    free_here : get_or bindings i 0 ≡ 0 → binder (table_of ws ls) i (field ws i 1) ≡ node_count ws
    unfolding table_of
    free_here z = go (look (ltb (binder (table_of ws ls) i (field ws i 1)) (node_count ws)))
      where
        x : ℕ
        x = field ws i 1

        go : Is (ltb (binder (table_of ws ls) i x) (node_count ws)) → binder (table_of ws ls) i x ≡ node_count ws
        go (is_true l) = absurd (omega (arith, z, entry_here, entry_bound (table_of ws ls) proper i x (ltb-true _ _ l)))
        go (is_false l) =
            let g : node_count ws ≤ binder (table_of ws ls) i x = ltb-false (binder (table_of ws ls) i x) (node_count ws) l in
            let u : binder (table_of ws ls) i x ≤ node_count ws = binder_le (table_of ws ls) i x in omega arith

    module _ (flags : List Bool) (found : FlagsSet) (m : Flagged (table_of ws ls) flags i found) where
      pub number_flag : field ws i 1 < length flags
      unfolding table_of
      number_flag = number_within (table_of ws ls) flags i found m (field ws i 1) h variable_here

      pub bound_flags : 0 < get_or bindings i 0 → Flagged (table_of ws ls) flags (i + 1) found
      unfolding table_of
      bound_flags p = flags_bound (table_of ws ls) flags i found m (field ws i 1) h variable_here (bound_here p)

      pub free_flags : get_or bindings i 0 ≡ 0 → (r : FlagsSet) → AreSet (set flags (field ws i 1) true) r
          → Flagged (table_of ws ls) (set flags (field ws i 1) true) (i + 1) r
      unfolding table_of
      free_flags z r e = flags_free (table_of ws ls) flags i found m (field ws i 1) h variable_here (free_here z) r e
