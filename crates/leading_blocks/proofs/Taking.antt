-- Laws of a step: node k from the root down is no block, repeats a name, or is taken off.
-- Assumes nothing.
use mathlib.Core.Path.{◌≡◌, refl, sym, ◌∙◌, ap, subst}
use mathlib.Core.Bool.{Bool, true, false, not}
use mathlib.Core.List.{List, ◌++◌, flat_map}
use Prim.Native.Nat.{ℕ, suc, ◌+◌, ◌-◌, ◌≤◌, ◌<◌}
use native.Mathlib.Omega.{arith}
use lib.Dec.{ltb}
use lib.ListN.{length, get_or, take, drop, length-drop}
use lib.Seq.{length-take-le}
use mir.Val.{bool_byte}
use Rattle.lists.specs.Choice.{or_left, or_right, or_neither}
use Rattle.lists.specs.Search.{lowest}
use Rattle.lists.specs.Members.{mem, distinct}
use Rattle.kept_prefix.specs.Blocks.{keep, prefix_names}
use Rattle.lists.specs.Parts.{up_to}
use Rattle.lists.proofs.Search.{lowest_is, lowest_none}
use Rattle.lists.proofs.Members.{mem-get_or}
use Rattle.kept_prefix.proofs.Keep.{keep_cong, length_keep}
use Rattle.formula.specs.Node.{Table, is_block, bound}
use Rattle.formula.specs.Words.{node_count, is_block_kind, range, words_at, node_at, table_of}
use Rattle.formula.specs.declared.NodeWords.{NodeWords}
use Rattle.formula.proofs.Nodes.{is_block_lem, node_block}
use Rattle.acceptance.specs.Accepted.{Accepted}
use Rattle.prenex_form.proofs.Limits.{highest_limit}
use Rattle.prenex_form.proofs.NameLaws.{bound_le}
use Rattle.kept_prefix.specs.Leading.{from_root, outermost, stops, leading_count}
use Rattle.kept_prefix.specs.Kept.{stands}
use Rattle.kept_prefix.proofs.Leading.{names_next, names_one_more}
use Rattle.leading_blocks.specs.Flags.{Flags, none}
use Rattle.leading_blocks.specs.Front.{FrontTo, Taken, Numbered, Fresh}
use Rattle.leading_blocks.specs.declared.Front.{Front}
use Rattle.leading_blocks.proofs.Fronts.{front_none, front_more}

-- A block's range, as the code lends it.
abbrev pub lent : List ℕ → NodeWords → List ℕ
lent ls w = take (w.a + w.b - w.a) (drop w.a ls)

module _ (t : Table) (k : ℕ) where
  plain_stops : is_block (from_root t k) ≡ false → stops t k ≡ true
  unfolding stops
  plain_stops e = or_left _ _ (ap not e)

  repeat_stops : distinct (prefix_names (outermost t k) ++ bound (from_root t k)) ≡ false → stops t k ≡ true
  unfolding stops
  repeat_stops e = or_right (not (is_block (from_root t k))) _ (ap not (ap distinct (names_next t k) ∙ e))

  goes : is_block (from_root t k) ≡ true → distinct (prefix_names (outermost t k) ++ bound (from_root t k)) ≡ true → stops t k ≡ false
  unfolding stops
  goes b e = or_neither _ _ (ap not b) (ap not (ap distinct (names_next t k) ∙ e))

  -- what the search comes to: it stops at node k, or nowhere
  pub leading_stops : k < t.size → ((j : ℕ) → j < k → stops t j ≡ false) → stops t k ≡ true → (f : Front) → FrontTo t k f → FrontTo t (leading_count t) f
  unfolding leading_count
  leading_stops h below e f r = rw (lowest_is (stops t) t.size k h e below) r

  pub leading_all : t.size ≡ k → ((j : ℕ) → j < k → stops t j ≡ false) → (f : Front) → FrontTo t k f → FrontTo t (leading_count t) f
  unfolding leading_count
  leading_all q below f r = subst (λ n. FrontTo t n f) (sym (ap (lowest (stops t)) q ∙ lowest_none (stops t) k below)) r

pub taken_none : (t : Table) (used : List Bool) → Flags none used → Taken t 0 (record { taken = 0; bound = 0; blocks = 0; names = 0 }) used
unfolding outermost up_to prefix_names flat_map distinct mem
taken_none t used f = record { front_is = front_none t; used_are = record { size = f.size; flag_is = f.flag_is }; apart = refl }

module _ (ws ls : List ℕ) (a : Accepted ws ls) (k : ℕ) (h : k < node_count ws) (w : NodeWords) (e : w ≡ words_at ws (node_count ws - 1 - k)) where
  here : from_root (table_of ws ls) k ≡ node_at ws ls (node_count ws - 1 - k)
  unfolding from_root table_of
  here = ap (node_at ws ls) (omega arith)

  block_here : is_block (from_root (table_of ws ls) k) ≡ is_block_kind w.kind
  block_here = ap is_block here ∙ is_block_lem ws ls (node_count ws - 1 - k) ∙ sym (ap (λ (v : NodeWords). is_block_kind v.kind) e)

  -- a node that is no block
  pub step_plain : is_block_kind w.kind ≡ false → stops (table_of ws ls) k ≡ true
  step_plain n = plain_stops (table_of ws ls) k (block_here ∙ n)

  module _ (b : is_block_kind w.kind ≡ true) where
    -- its range in the list
    pub part_fits : w.a + w.b ≤ length ls
    part_fits =
        let i : ℕ = node_count ws - 1 - k in
        let l : i < node_count ws = omega arith in
        let f = a.fits i l (sym (ap (λ (v : NodeWords). is_block_kind v.kind) e) ∙ b) in
        omega (arith, ap (λ (v : NodeWords). v.a) e, ap (λ (v : NodeWords). v.b) e)

    pub part_is : lent ls w ≡ bound (from_root (table_of ws ls) k)
    unfolding range bound
    part_is =
        let i : ℕ = node_count ws - 1 - k in
        let n : w.a + w.b - w.a ≡ w.b = omega arith in
        ap (λ m. take m (drop w.a ls)) n
        ∙ ap (λ (v : NodeWords). range ls v.a v.b) e
        ∙ sym (ap bound (here ∙ node_block ws ls i (ap is_block (sym here) ∙ block_here ∙ b)))

    count_is : w.b ≡ length (bound (from_root (table_of ws ls) k))
    count_is =
        let f = part_fits in
        omega (arith, ap length part_is, length-take-le (w.a + w.b - w.a) (drop w.a ls) (simp length-drop (omega arith)))

    pub part_numbered : Numbered (lent ls w)
    unfolding from_root table_of
    part_numbered j l =
        let xs : List ℕ = lent ls w in
        let m : mem (get_or xs j 0) (bound (from_root (table_of ws ls) k)) ≡ true = ap (mem (get_or xs j 0)) (sym part_is) ∙ mem-get_or xs j 0 l in
        omega (arith, highest_limit ws ls a, bound_le (table_of ws ls) (node_count ws - suc k) (get_or xs j 0) (omega arith) m)

    joined_is : distinct (prefix_names (outermost (table_of ws ls) k) ++ lent ls w) ≡ distinct (prefix_names (outermost (table_of ws ls) k) ++ bound (from_root (table_of ws ls) k))
    joined_is = ap (λ xs. distinct (prefix_names (outermost (table_of ws ls) k) ++ xs)) part_is

    -- a name repeats
    pub step_repeats : distinct (prefix_names (outermost (table_of ws ls) k) ++ lent ls w) ≡ false → stops (table_of ws ls) k ≡ true
    step_repeats n = repeat_stops (table_of ws ls) k (sym joined_is ∙ n)

    module _ (standing used used' : List Bool) (front : Front) (kept : ℕ) (s : Flags (stands (table_of ws ls)) standing) (p : Taken (table_of ws ls) k front used)
        (d : Fresh (prefix_names (outermost (table_of ws ls) k)) (lent ls w) standing used' kept) where
      kept_is : kept ≡ length (keep (stands (table_of ws ls)) (bound (from_root (table_of ws ls) k)))
      kept_is = d.standing_is ∙ ap length (keep_cong _ _ _ s.flag_is ∙ ap (keep (stands (table_of ws ls))) part_is)

      pub kept_low : kept ≤ w.b
      kept_low = omega (arith, kept_is, count_is, length_keep (stands (table_of ws ls)) (bound (from_root (table_of ws ls) k)))

      -- none does
      pub step_taken : (stops (table_of ws ls) k ≡ false) × Taken (table_of ws ls) (k + 1)
          (record { taken = front.taken + 1; bound = front.bound + w.b; blocks = front.blocks + bool_byte (ltb 0 kept); names = front.names + kept }) used'
      step_taken =
          let t : Table = table_of ws ls in
          let q : prefix_names (outermost t k) ++ lent ls w ≡ prefix_names (outermost t (k + 1)) = ap (λ xs. prefix_names (outermost t k) ++ xs) part_is ∙ sym (names_one_more t k) in (
            goes t k (block_here ∙ b) (sym joined_is ∙ d.apart),
            record {
              front_is = front_more t k w.b kept front p.front_is count_is kept_is;
              used_are = rw q at d.used_are;
              apart = ap distinct (sym q) ∙ d.apart;
            },
          )
