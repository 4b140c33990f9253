-- Laws of the check's steps: a node's tests by its kind, how often nodes are named, and the verdict by its passes.
-- Assumes nothing.
use mathlib.Core.Path.{◌≡◌, refl, sym, ◌∙◌, ap}
use mathlib.Core.Bool.{Bool, true, false, not, ◌&&◌, ◌||◌, or-false}
use mathlib.Core.List.{List, [], ◌∷◌}
use Prim.Native.Nat.{ℕ, ◌+◌, ◌-◌, ◌%◌, ◌≤◌, ◌<◌, min}
use native.Mathlib.Numerals.{add-one}
use native.Mathlib.Omega.{arith}
use lib.Dec.{eqb, leb, ltb}
use lib.ListN.{length, get_or, set, replicate, length-replicate}
use borrow.Author.Tests.{eqb-true, eqb-false, eq-eqb, ne_eqb, ltb-false, lt-ltb, le-ltb, not-true, not-false}
use Rattle.lists.specs.Choice.{pick, pick_yes, pick_no, Is, is_true, is_false, look, clash, and_left, or_left, or_neither, or_neither_left, or_neither_right}
use Rattle.lists.specs.Search.{lowest}
use Rattle.lists.specs.Members.{times}
use Rattle.lists.specs.Parts.{sum}
use Rattle.lists.proofs.Search.{lowest_none, lowest_holds, lowest_cong}
use Rattle.lists.proofs.Stores.{get_or-filled, set_cases}
use Rattle.formula.specs.Words.{width, node_count, field, is_block_kind, is_empty_block, words_at}
use Rattle.formula.specs.declared.NodeWords.{NodeWords}
use Rattle.formula.proofs.Nodes.{Kind, kind_of_lem, kind_constant, kind_variable, kind_negation, kind_operator, kind_exists, kind_for_all, kind_none}
use Rattle.refusals.specs.Verdict.{refusal, not_a_tree, accepted}
use Rattle.refusals.specs.declared.Verdict.{Verdict}
use Rattle.acceptance.specs.Verdict.{is_number_to, partial_node, too_large, well_formed, forward_reference, range_past_end, empty_block, too_many_variables, bad_variable, node_fault, not_named_once, tree_refusal, verdict_within}
use Rattle.tree_check.specs.Named.{named_by, named_below}
use Rattle.tree_check.proofs.Named.{times_two, names_none, names_negation, names_operator, not_once_is}
use Rattle.matrix_check.specs.Steps.{node_limits, sound_node, Tally, Tallied}

lone_first : (t : Bool) → (((((t || false) || false) || false) || false) && true) ≡ t
lone_first true = refl
lone_first false = refl

-- The tests of a node's words, by its kind.
module _ (i : ℕ) (w : NodeWords) where
  pub sound_operator : w.kind ≡ 4 → sound_node i w ≡ (leb w.a 15 && not (leb i w.b || leb i w.c))
  unfolding sound_node well_formed forward_reference is_block_kind
  sound_operator k = rw (k, or-false (leb w.a 15), or-false (leb i w.b || leb i w.c))

  pub sound_negation : w.kind ≡ 3 → sound_node i w ≡ ((eqb w.b 0 && eqb w.c 0) && not (leb i w.a))
  unfolding sound_node well_formed forward_reference is_block_kind
  sound_negation k = rw (k, or-false (eqb w.b 0 && eqb w.c 0), or-false (eqb w.b 0 && eqb w.c 0), or-false (leb i w.a), or-false (leb i w.a))

  pub sound_variable : w.kind ≡ 2 → sound_node i w ≡ ((is_number_to node_limits.highest w.a && eqb w.b 0) && eqb w.c 0)
  unfolding sound_node well_formed forward_reference is_block_kind
  sound_variable k = let t = (is_number_to node_limits.highest w.a && eqb w.b 0) && eqb w.c 0 in rw k (lone t)
    where
      lone : (t : Bool) → ((((t || false) || false) || false) && true) ≡ t
      lone true = refl
      lone false = refl

  pub sound_other : (w.kind ≡ 2 → ⊥) → eqb w.kind 3 ≡ false → eqb w.kind 4 ≡ false
      → sound_node i w ≡ (((eqb w.kind 1 && leb w.a 1) && eqb w.b 0) && eqb w.c 0)
  unfolding sound_node well_formed forward_reference is_block_kind
  sound_other d2 d3 d4 = go (kind_of_lem w.kind)
    where
      go : Kind w.kind → sound_node i w ≡ (((eqb w.kind 1 && leb w.a 1) && eqb w.b 0) && eqb w.c 0)
      go (kind_constant e) = rw e (lone_first ((leb w.a 1 && eqb w.b 0) && eqb w.c 0))
      go (kind_variable e) = absurd (d2 e)
      go (kind_negation e) = clash (eq-eqb _ 3 e) d3
      go (kind_operator e) = clash (eq-eqb _ 4 e) d4
      go (kind_exists e) = rw e
      go (kind_for_all e) = rw e
      go (kind_none e1 e2 e3 e4 e5 e6) = rw (e1, e2, e3, e4, e5, e6)

  -- no block is well formed
  formed_no_block : well_formed node_limits w ≡ true → is_block_kind w.kind ≡ false
  unfolding well_formed is_block_kind
  formed_no_block f = go (kind_of_lem w.kind)
    where
      go : Kind w.kind → is_block_kind w.kind ≡ false
      go (kind_constant e) = rw e
      go (kind_variable e) = rw e
      go (kind_negation e) = rw e
      go (kind_operator e) = rw e
      go (kind_exists e) = clash f (rw e)
      go (kind_for_all e) = clash f (rw e)
      go (kind_none e1 e2 e3 e4 e5 e6) = rw (e5, e6)

two_tests : (formed forward : Bool) → eqb (pick (not formed) 3 (pick forward 4 0)) 0 ≡ (formed && not forward)
unfolding pick
two_tests true true = refl
two_tests true false = refl
two_tests false forward = refl

-- Of a matrix, refusals 3 and 4 are the only ones of a node.
pub fault_sound : (ns : List ℕ) (i : ℕ) → eqb (node_fault node_limits ns [] i) 0 ≡ sound_node i (words_at ns i)
unfolding sound_node node_fault range_past_end empty_block is_empty_block too_many_variables bad_variable pick
fault_sound ns i = go (look (well_formed node_limits (words_at ns i)))
  where
    go : Is (well_formed node_limits (words_at ns i)) → eqb (node_fault node_limits ns [] i) 0 ≡ sound_node i (words_at ns i)
    go (is_true f) =
        let k : is_block_kind (field ns i 0) ≡ false = formed_no_block i (words_at ns i) f in
        rw k (two_tests (well_formed node_limits (words_at ns i)) (forward_reference i (words_at ns i)))
    go (is_false f) = ap (λ v. eqb v 0) (pick_yes {A = ℕ} _ _ _ (ap not f)) ∙ rw f refl

-- Counting up to two.

pub tally_same : (named : List ℕ) (f g : ℕ → ℕ) → ((x : ℕ) → f x ≡ g x) → Tally named f → Tally named g
tally_same named f g e t x = t x ∙ ap (min 2) (e x)

pub tally_one : (named : List ℕ) (x v : ℕ) (f : ℕ → ℕ) → x < length named → Tally named f → v ≡ min 2 (f x + 1)
    → Tally (set named x v) (λ y. f y + times y (x ∷ []))
unfolding times
tally_one named x v f h t e y =
    set_cases named x v 0 h (λ c. c ≡ min 2 (f y + (pick (eqb y x) 1 0 + 0))) y
    (λ q. omega (arith, e, ap f q, pick_yes {A = ℕ} (eqb y x) 1 0 (eq-eqb y x q)))
    (λ n. omega (arith, t y, pick_no {A = ℕ} (eqb y x) 1 0 (ne_eqb y x n)))

-- the node is counted with its names
module _ (named : List ℕ) (f : ℕ → ℕ) (w : NodeWords) where
  pub tally_negation : w.kind ≡ 3 → Tally named (λ x. f x + times x (w.a ∷ [])) → Tally named (λ x. f x + times x (named_by w))
  tally_negation k = tally_same named _ _ (λ x. ap (λ os. f x + times x os) (sym (names_negation w k)))

  pub tally_operator : w.kind ≡ 4 → Tally named (λ x. (f x + times x (w.b ∷ [])) + times x (w.c ∷ []))
      → Tally named (λ x. f x + times x (named_by w))
  tally_operator k =
      tally_same named _ _ (λ x. rw (names_operator w k) (omega (arith, times_two x w.b w.c)))

module _ (ns : List ℕ) where
  named_none : (x : ℕ) → named_below ns x 0 ≡ 0
  unfolding named_below sum
  named_none x = refl

  named_more : (x i : ℕ) → named_below ns x (i + 1) ≡ named_below ns x i + times x (named_by (words_at ns i))
  unfolding named_below sum
  named_more x i = rw add-one

  pub tallied_new : Tallied ns (replicate {A = ℕ} 40960 0) 0
  tallied_new =
      record { wide = length-replicate {A = ℕ} 40960 0; tally = λ x. omega (arith, get_or-filled {A = ℕ} 40960 x 0, named_none x) }

  pub tallied_more : (named after : List ℕ) (i : ℕ) → length after ≡ length named → Tallied ns named i
      → ((f : ℕ → ℕ) → Tally named f → Tally after (λ x. f x + times x (named_by (words_at ns i)))) → Tallied ns after (i + 1)
  tallied_more named after i l p h =
      record { wide = l ∙ p.wide; tally = tally_same after _ _ (λ x. sym (named_more x i)) (h _ p.tally) }

  -- after a node that names none
  tallied_still : (named : List ℕ) (i : ℕ) → named_by (words_at ns i) ≡ [] → Tallied ns named i → Tallied ns named (i + 1)
  unfolding times
  tallied_still named i n p =
      tallied_more named named i refl p (λ f t. tally_same named f _ (λ x. rw n (omega arith)) t)

-- after a sound node that is neither an operator nor a not node
pub leaf_counted : (ns named : List ℕ) (i : ℕ) → sound_node i (words_at ns i) ≡ true → (field ns i 0 ≡ 3 → ⊥) → (field ns i 0 ≡ 4 → ⊥)
    → Tallied ns named i → Tallied ns named (i + 1)
unfolding sound_node
leaf_counted ns named i s d3 d4 =
    tallied_still ns named i
    (names_none (words_at ns i) (formed_no_block i (words_at ns i) (and_left _ _ s)) (ne_eqb _ 3 d3) (ne_eqb _ 4 d4))

once_capped : (v : ℕ) → eqb (min 2 v) 1 ≡ eqb v 1
once_capped v = go (look (eqb v 1))
  where
    go : Is (eqb v 1) → eqb (min 2 v) 1 ≡ eqb v 1
    go (is_true t) = let e : v ≡ 1 = eqb-true v 1 t in eq-eqb (min 2 v) 1 (omega arith) ∙ sym t
    go (is_false t) = let n : v ≡ 1 → ⊥ = eqb-false v 1 t in ne_eqb (min 2 v) 1 (λ q. n (omega arith)) ∙ sym t

-- refusal 8's node, by the array
not_once : (ns named : List ℕ) (k : ℕ) → Tallied ns named (node_count ns)
    → lowest (λ j. not (eqb (get_or named j 0) 1)) k ≡ lowest (not_named_once ns []) k
not_once ns named k p =
    lowest_cong _ _ k (λ j h. ap (λ v. not (eqb v 1)) (p.tally j) ∙ ap not (once_capped (named_below ns j (node_count ns))))
    ∙ sym (not_once_is ns [] k)

-- The verdict on a matrix, by its passes.
module _ (ns : List ℕ) where
  abbrev faulty : ℕ → Bool
  faulty i = not (eqb (node_fault node_limits ns [] i) 0)

  abbrev bad_length : Bool
  bad_length = partial_node ns || ltb node_limits.nodes (node_count ns)

  -- the table checker refuses the nodes, at this position
  abbrev RefusedAt : ℕ → Type 0
  RefusedAt p = (eqb (verdict_within node_limits ns []).number 0 ≡ false) × (p ≡ (verdict_within node_limits ns []).position)

  refused_by : (v : Verdict) → verdict_within node_limits ns [] ≡ v → eqb v.number 0 ≡ false → RefusedAt v.position
  refused_by v e n = (ap (λ v. eqb v.number 0) e ∙ n, ap (λ v. v.position) (sym e))

  large : ltb node_limits.nodes (node_count ns) ≡ true → too_large node_limits ns [] ≡ true
  unfolding too_large
  large h = or_left _ _ h

  not_large : ltb node_limits.nodes (node_count ns) ≡ false → too_large node_limits ns [] ≡ false
  unfolding too_large
  not_large h = or_neither _ _ h refl

  pub matrix_length : bad_length ≡ true → RefusedAt 0
  unfolding verdict_within refusal
  matrix_length h = go (look (partial_node ns))
    where
      go : Is (partial_node ns) → RefusedAt 0
      go (is_true p) = refused_by (refusal 1 0) (pick_yes _ _ _ p) refl
      go (is_false p) =
          let l : ltb node_limits.nodes (node_count ns) ≡ true = rw p at h in
          refused_by (refusal 2 0) (pick_no _ _ _ p ∙ pick_yes _ _ _ (large l)) refl

  module _ (long : bad_length ≡ false) where
    whole : partial_node ns ≡ false
    whole = or_neither_left (partial_node ns) _ long

    small : too_large node_limits ns [] ≡ false
    small = not_large (or_neither_right (partial_node ns) (ltb node_limits.nodes (node_count ns)) long)

    -- there are nodes, and not too many
    pub some_node_lem : 0 < node_count ns
    unfolding partial_node
    some_node_lem =
        let n : length ns ≡ 0 → ⊥ = eqb-false _ _ (or_neither_left (eqb (length ns) 0) _ whole) in
        let m : length ns % width ≡ 0 = eqb-true _ _ (not-false _ (or_neither_right (eqb (length ns) 0) (not (eqb (length ns % width) 0)) whole)) in
        omega arith

    pub few_nodes : node_count ns ≤ node_limits.nodes
    few_nodes = ltb-false _ _ (or_neither_right (partial_node ns) (ltb node_limits.nodes (node_count ns)) long)

    -- the first pass ends at node i
    pub matrix_node : (i : ℕ) → i ≡ lowest faulty (node_count ns) → i < node_count ns → RefusedAt i
    unfolding verdict_within refusal
    matrix_node i first_is h =
        let l : lowest faulty (node_count ns) < node_count ns = rw first_is at h in
        rw first_is
        (refused_by (refusal (node_fault node_limits ns [] (lowest faulty (node_count ns))) (lowest faulty (node_count ns)))
        (pick_no _ _ _ whole ∙ pick_no _ _ _ small ∙ pick_yes _ _ _ (lt-ltb _ _ l))
        (not-true _ (lowest_holds faulty (node_count ns) l)))

    -- .. or passes all, and the second ends at node j, the lowest that the array does not hold 1 for
    module _ (sound : (i : ℕ) → i < node_count ns → eqb (node_fault node_limits ns [] i) 0 ≡ true)
        (named : List ℕ) (tallied : Tallied ns named (node_count ns))
        (j : ℕ) (lone_is : j ≡ lowest (λ j. not (eqb (get_or named j 0) 1)) (node_count ns - 1)) where
      lone : j ≡ lowest (not_named_once ns []) (node_count ns - 1)
      lone = lone_is ∙ not_once ns named (node_count ns - 1) tallied

      past : ltb (lowest faulty (node_count ns)) (node_count ns) ≡ false
      past = le-ltb _ _ (omega (arith, lowest_none faulty (node_count ns) (λ i h. ap not (sound i h))))

      pub matrix_tree : j < node_count ns - 1 → RefusedAt j
      unfolding verdict_within tree_refusal not_a_tree
      matrix_tree h =
          let l : lowest (not_named_once ns []) (node_count ns - 1) < node_count ns - 1 = rw lone at h in
          rw lone
          (refused_by (tree_refusal ns [] (lowest (not_named_once ns []) (node_count ns - 1)))
          (pick_no _ _ _ whole ∙ pick_no _ _ _ small ∙ pick_no _ _ _ past ∙ pick_yes _ _ _ (lt-ltb _ _ l)) refl)

      pub matrix_passed : node_count ns - 1 ≤ j → verdict_within node_limits ns [] ≡ accepted
      unfolding verdict_within
      matrix_passed h =
          let l : node_count ns - 1 ≤ lowest (not_named_once ns []) (node_count ns - 1) = rw lone at h in
          pick_no _ _ _ whole ∙ pick_no _ _ _ small ∙ pick_no _ _ _ past ∙ pick_no _ _ _ (le-ltb _ _ l)
