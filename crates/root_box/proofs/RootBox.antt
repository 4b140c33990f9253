-- What values of the first block of a prenex form say of the body of a root block (request S-10).
-- Assumes nothing.
use mathlib.Core.Path.{◌≡◌, refl, sym, ◌∙◌, ap, fun_ext}
use mathlib.Core.Bool.{Bool, true, false}
use mathlib.Core.List.{List, [], ◌∷◌, ◌++◌, head_d}
use Prim.Native.Nat.{ℕ, zero, suc, ◌-◌, ◌<◌}
use native.Mathlib.Omega.{arith}
use lib.ListN.{length, get_or, drop, length-append, get_or-append}
use Rattle.lists.specs.Choice.{pick, pick_yes, pick_no, Is, is_true, is_false, look, or_neither_left, or_neither_right, absent}
use Rattle.lists.specs.Members.{mem, distinct}
use Rattle.lists.proofs.Members.{mem_append, mem_neither, mem_head, mem-get_or, place-get_or, mem_flat_map_from}
use Rattle.formula.specs.Node.{Quantifier, exists, for_all, block, Table, operands, is_block, bound}
use Rattle.formula.specs.Words.{table_of}
use Rattle.formula.specs.Tree.{Proper, NoEmptyBlocks, count}
use Rattle.formula.specs.Valuation.{Valuation, quant}
use Rattle.formula.specs.Truth.{value}
use Rattle.formula.specs.Meaning.{DiffersAtMostAt}
use Rattle.formula.specs.Form.{Block, block_at, blocks_from, blocks_of, quantify, matrix_truth}
use Rattle.formula.proofs.Quantify.{decides, quant_reach, quant_attain}
use Rattle.acceptance.proofs.Accepted.{accepted_holds}
use Rattle.prenex_form.specs.Names.{copies}
use Rattle.prenex_form.specs.Levels.{levels, quantifier_at, level_quantifier}
use Rattle.prenex_form.specs.Matrix.{kept, body_of, written_nodes}
use Rattle.prenex_form.specs.Prefix.{leading, prefix_block, prefix_blocks, written_prefix, written_variables}
use Rattle.prenex_form.proofs.Cut.{value_at, matrix_at}
use Rattle.prenex_form.proofs.Paths.{root_body}
use Rattle.prenex_form.proofs.NameLaws.{length-new_names, distinct-new_names, new_names-le, copies_above}
use Rattle.prenex_form.proofs.Renaming.{renamed_body}
use Rattle.prenex_form.proofs.PrefixNames.{prefix_read}
use Rattle.prenex_form.proofs.WrittenOrder.{matrix_truth_lem}
use Rattle.prenex_form.proofs.Truth.{prefix_starts, rest_exchange}
use Rattle.root_box.specs.RootBox.{sought, rest_truth, given, root_names, first_copies, NoneBefore, RootBox, RootBoxes}

sought_is : (q : Quantifier) → sought q ≡ decides q
unfolding sought decides
sought_is exists = refl
sought_is for_all = refl

given_at : (xs ys : List ℕ) (u v : Valuation) (k : ℕ) → distinct xs ≡ true → k < length xs → given xs ys u v (get_or xs k 0) ≡ u (get_or ys k 0)
unfolding given
given_at xs ys u v k d l =
    pick_yes _ _ _ (mem-get_or xs k 0 l) ∙ ap (λ (j : ℕ). u (get_or ys j 0)) (place-get_or xs k 0 d l)

given_other : (xs ys : List ℕ) (u v : Valuation) → DiffersAtMostAt xs (given xs ys u v) v
unfolding given
given_other xs ys u v y m = pick_no _ _ _ m

-- what is not in two lists is in neither
mem_left_none : (y : ℕ) (xs ys : List ℕ) → mem y (xs ++ ys) ≡ false → mem y xs ≡ false
mem_left_none y xs ys m = or_neither_left (mem y xs) (mem y ys) (sym (mem_append y xs ys) ∙ m)

mem_right_none : (y : ℕ) (xs ys : List ℕ) → mem y (xs ++ ys) ≡ false → mem y ys ≡ false
mem_right_none y xs ys m = or_neither_right (mem y xs) (mem y ys) (sym (mem_append y xs ys) ∙ m)

-- the first block of a prefix that has one
first_from : (ps xs : List ℕ) (m : ℕ) (b : Block) (bs : List Block) → blocks_from ps xs 0 m ≡ b ∷ bs → block_at ps xs 0 ≡ b
unfolding blocks_from head_d
first_from ps xs zero b bs e = let z : ◌≡◌ {A = ℕ} 0 1 = cc in absurd (omega arith)
first_from ps xs (suc m) b bs e = ap (λ (cs : List Block). head_d cs b) e

first_of : (ps xs : List ℕ) (b : Block) (bs : List Block) → blocks_of ps xs ≡ b ∷ bs → block_at ps xs 0 ≡ b
unfolding blocks_of
first_of ps xs b bs e = first_from ps xs _ b bs e

module _ (t : Table) (proper : Proper t) (filled : NoEmptyBlocks t) (q : Quantifier) (xs : List ℕ) (a : ℕ) (root : t.node (t.size - 1) ≡ block q xs a) where
  rest : Valuation → Bool
  rest = rest_truth (written_nodes t) (written_prefix t) (written_variables t)

  in_range : t.size - 1 < t.size
  in_range = omega (arith, proper.tree.nonempty)

  last : suc (t.size - 1) ≡ t.size
  last = omega (arith, proper.tree.nonempty)

  is_a_block : is_block (t.node (t.size - 1)) ≡ true
  unfolding is_block
  is_a_block = ap is_block root

  bound_is : bound (t.node (t.size - 1)) ≡ xs
  unfolding bound
  bound_is = ap bound root

  body_is : kept t - 1 ≡ a
  unfolding body_of
  body_is = sym (root_body t proper.tree (t.size - 1) last is_a_block) ∙ ap body_of root

  quantifier_is : level_quantifier t 0 ≡ q
  unfolding level_quantifier quantifier_at
  quantifier_is = ap quantifier_at root

  named : mem a (operands (t.node (t.size - 1))) ≡ true
  unfolding operands
  named = rw root (mem_head a [])

  apart : distinct xs ≡ true
  apart = rw bound_is at (proper.apart (t.size - 1) in_range)

  same_length : length xs ≡ length (root_names t)
  unfolding count
  same_length = ap length (sym bound_is) ∙ sym (length-new_names t (t.size - 1))

  -- no name of the root is a copy
  not_copied : (y : ℕ) → mem y (root_names t) ≡ true → mem y (first_copies t) ≡ false
  not_copied y m =
      absent _ (λ c.
      let r = mem_flat_map_from (copies t) y _ c in
      omega (arith, new_names-le t (t.size - 1) y in_range m, copies_above t r.0 y r.2))

  -- the rest of the form under level 1's copies is the body's value in the renamed table
  body_value : (u : Valuation) → quant q (first_copies t) rest u ≡ value_at t 0 a u
  unfolding matrix_at rest_truth rest quantify
  body_value u =
      ap (λ f. quant q (first_copies t) f u) (fun_ext (λ w. rest_read w))
      ∙ ap (λ (k : Quantifier). quant k (first_copies t) (quantify (drop 1 (prefix_blocks t)) (matrix_at t (levels t) (levels t))) u) (sym quantifier_is)
      ∙ rest_exchange t proper.tree (t.size - 1) in_range is_a_block u
      ∙ ap (λ (k : ℕ). value_at t 0 k u) body_is
    where
      rest_read : (w : Valuation) → rest w ≡ quantify (drop 1 (prefix_blocks t)) (matrix_at t (levels t) (levels t)) w
      rest_read w =
          ap (λ (bs : List Block). quantify (drop 1 bs) (matrix_truth (written_nodes t)) w) (prefix_read t)
          ∙ ap (λ f. quantify (drop 1 (prefix_blocks t)) f w) (fun_ext (matrix_truth_lem t proper.tree filled))

  -- and so in the table itself, its variables being given what their names are
  body_same : (v v' w : Valuation) → ((k : ℕ) → k < length xs → v' (get_or xs k 0) ≡ w (get_or (root_names t) k 0))
      → DiffersAtMostAt xs v' v → DiffersAtMostAt (root_names t) w v → value t.size t a v' ≡ quant q (first_copies t) rest w
  body_same v v' w same ov ow =
      renamed_body t proper (t.size - 1) last is_a_block a named v v' w
      (rw bound_is same) (rw bound_is ov) ow
      ∙ sym (body_value w)

  root_shown : (v u : Valuation) → DiffersAtMostAt (root_names t ++ first_copies t) v u → rest u ≡ sought q
      → value t.size t a (given xs (root_names t) u v) ≡ sought q
  root_shown v u out e =
      let w : Valuation = λ y. pick (mem y (root_names t)) (u y) (v y) in
      body_same v (given xs (root_names t) u v) w
      (λ k l. given_at xs (root_names t) u v k apart l ∙ sym (pick_yes _ _ _ (mem-get_or (root_names t) k 0 (omega (arith, same_length)))))
      (given_other xs (root_names t) u v)
      (λ y m. pick_no _ _ _ m)
      ∙ quant_reach q (first_copies t) rest w u (λ y m. near y m (look (mem y (root_names t)))) (e ∙ sought_is q)
      ∙ sym (sought_is q)
    where
      near : (y : ℕ) → mem y (first_copies t) ≡ false → Is (mem y (root_names t)) → pick (mem y (root_names t)) (u y) (v y) ≡ u y
      near y m (is_true n) = pick_yes _ _ _ n
      near y m (is_false n) = pick_no _ _ _ n ∙ out y (mem_neither y (root_names t) (first_copies t) n m)

  root_extended : (v w : Valuation) → DiffersAtMostAt xs v w → value t.size t a w ≡ sought q
      → (u : Valuation) × DiffersAtMostAt (root_names t ++ first_copies t) v u
      × ((k : ℕ) → k < length xs → u (get_or (root_names t) k 0) ≡ w (get_or xs k 0)) × (rest u ≡ sought q)
  root_extended v w out e =
      let n : Valuation = given (root_names t) xs w v in
      let at : (k : ℕ) → k < length xs → n (get_or (root_names t) k 0) ≡ w (get_or xs k 0) =
      λ k l. given_at (root_names t) xs w v k (distinct-new_names t (t.size - 1)) (omega (arith, same_length)) in
      let b : value t.size t a w ≡ quant q (first_copies t) rest n =
      body_same v w n (λ k l. sym (at k l)) (λ y m. sym (out y m)) (given_other (root_names t) xs w v) in
      let r = quant_attain q (first_copies t) rest n in (
        r.0,
        (λ y m. sym (given_other (root_names t) xs w v y (mem_left_none y (root_names t) (first_copies t) m)) ∙ r.1 y (mem_right_none y (root_names t) (first_copies t) m)),
        (λ k l. sym (r.1 (get_or (root_names t) k 0) (not_copied _ (mem-get_or (root_names t) k 0 (omega (arith, same_length))))) ∙ at k l),
        sym r.2 ∙ sym b ∙ e,
      )

  root_first : (v u : Valuation) → NoneBefore q (root_names t ++ first_copies t) rest v u
      → NoneBefore q xs (value t.size t a) v (given xs (root_names t) u v)
  root_first v u none w out e b =
      let r = root_extended v w out e in
      let l = b.within in
      none r.0 r.1 r.3
      (record {
        at = b.at;
        within = omega (arith, same_length, length-append (root_names t) (first_copies t));
        same_left = λ j h. reads r.0 j (omega arith) ∙ r.2 j (omega arith) ∙ b.same_left j h ∙ shown_at j (omega arith) ∙ sym (reads u j (omega arith));
        first_false = reads r.0 b.at l ∙ r.2 b.at l ∙ b.first_false;
        second_true = reads u b.at l ∙ sym (shown_at b.at l) ∙ b.second_true;
      })
    where
      reads : (z : Valuation) (j : ℕ) → j < length xs → z (get_or (root_names t ++ first_copies t) j 0) ≡ z (get_or (root_names t) j 0)
      reads z j h = ap z (get_or-append (root_names t) (first_copies t) 0 j (omega (arith, same_length)))

      shown_at : (j : ℕ) → j < length xs → given xs (root_names t) u v (get_or xs j 0) ≡ u (get_or (root_names t) j 0)
      shown_at j h = given_at xs (root_names t) u v j apart h

  root_block : block_at (written_prefix t) (written_variables t) 0 ≡ record { quantifier = q; variables = root_names t ++ first_copies t }
  unfolding prefix_block leading
  root_block =
      first_of (written_prefix t) (written_variables t) (prefix_block t 0) _
      (prefix_read t ∙ prefix_starts t proper.tree (t.size - 1) in_range is_a_block)
      ∙ ap (λ (k : Quantifier). record { quantifier = k; variables = root_names t ++ first_copies t }) quantifier_is

-- of any table that is a tree without empty blocks
box_of : (t : Table) → Proper t → NoEmptyBlocks t
    → (q : Quantifier) (xs : List ℕ) (a : ℕ) → t.node (t.size - 1) ≡ block q xs a
    → RootBox t q xs a (written_nodes t) (written_prefix t) (written_variables t)
unfolding rest
box_of t proper filled q xs a root =
    record {
      first_block = root_block t proper filled q xs a root;
      shown = root_shown t proper filled q xs a root;
      extended = root_extended t proper filled q xs a root;
      first_shown = root_first t proper filled q xs a root;
    }

pub root_box : RootBoxes
root_box ws ls h q xs a root = let c = accepted_holds ws ls h in box_of (table_of ws ls) c.proper (c.filled refl) q xs a root
