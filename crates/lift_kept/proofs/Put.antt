-- The front put before lifted blocks, which are moved.
-- Assumes nothing.
use mathlib.Core.Path.{◌≡◌, refl, sym, ◌∙◌, ap, subst}
use mathlib.Core.List.{List, ◌++◌}
use Prim.Native.Nat.{ℕ, ◌+◌, ◌-◌, ◌*◌}
use native.Mathlib.Omega.{arith}
use lib.ListN.{length, take, drop, length-drop}
use lib.Seq.{take_all}
use Rattle.lists.specs.Parts.{overwrite}
use Rattle.lists.proofs.Overwrite.{length_overwrite, drop_overwrite, overwrite_append, lent_tail}
use Rattle.formula.specs.Node.{Table}
use Rattle.formula.specs.Form.{prefix_width}
use Rattle.kept_prefix.specs.Leading.{leading_count}
use Rattle.leading_blocks.specs.declared.Front.{Front}
use Rattle.front_writer.specs.Written.{front_words, WrittenTo, moved, Movable}
use Rattle.front_writer.proofs.Laws.{length_moved}
use Rattle.leading_blocks.specs.Front.{FrontTo}
use Rattle.lift_kept.specs.declared.Task.{Task}
use Rattle.lift_kept.specs.declared.Task.TheVariants.{Count, Put}
use Rattle.lift_kept.specs.Steps.{FrontRoom, PrefixPut, Doable, Does}

-- A lent tail is all that follows.
pub tail_whole : (l : List ℕ) (at : ℕ) → take (length l - at) (drop at l) ≡ drop at l
tail_whole l at = take_all (length l - at) (drop at l) (omega (arith, length-drop at l))

module _ (t : Table) (front : Front) (words : length (front_words t (leading_count t)) ≡ prefix_width * front.blocks) (blocks : ℕ)
    (prefix variables prefix₁ variables₁ : List ℕ) (room : FrontRoom front prefix variables)
    (movable : Movable blocks front.names (drop (prefix_width * front.blocks) prefix))
    (w : WrittenTo t (leading_count t) prefix variables prefix₁ variables₁) where
  abbrev at : ℕ
  at = prefix_width * front.blocks

  length_same : length prefix₁ ≡ length prefix
  length_same = ap length w.words_are ∙ length_overwrite prefix 0 _ (omega (arith, words, room.blocks_fit))

  tail_same : drop at prefix₁ ≡ drop at prefix
  tail_same = ap (drop at) w.words_are ∙ drop_overwrite prefix 0 _ (omega (arith, words, room.blocks_fit)) at (omega (arith, words))

  pub still_movable : Movable blocks front.names (take (length prefix₁ - at) (drop at prefix₁))
  still_movable = rw (tail_whole prefix₁ at, tail_same) movable

  pub put_done : (part : List ℕ) → part ≡ overwrite (take (length prefix₁ - at) (drop at prefix₁)) 0 (moved blocks front.names (take (length prefix₁ - at) (drop at prefix₁)))
      → PrefixPut t front blocks prefix variables (take at prefix₁ ++ (part ++ drop (length prefix₁ - at) (drop at prefix₁))) variables₁
  put_done part e =
      let m = moved blocks front.names (drop at prefix) in
      let p : part ≡ overwrite (drop at prefix₁) 0 m =
      e ∙ (ap (λ (l : List ℕ). overwrite l 0 (moved blocks front.names l)) (tail_whole prefix₁ at)
      ∙ ap (λ (l : List ℕ). overwrite (drop at prefix₁) 0 (moved blocks front.names l)) tail_same) in
      let z : at ≡ 0 + length (front_words t (leading_count t)) = omega (arith, words) in
      record {
        prefix_is =
            lent_tail prefix₁ part at m (omega (arith, length_same, room.blocks_fit)) p
            ∙ (ap (λ (l : List ℕ). overwrite l at m) w.words_are
            ∙ (ap (λ (n : ℕ). overwrite (overwrite prefix 0 (front_words t (leading_count t))) n m) z
            ∙ overwrite_append prefix 0 (front_words t (leading_count t)) m
            (omega (arith, words, room.blocks_fit, movable.blocks_there, length_moved blocks front.names (drop at prefix), length-drop at prefix))));
        variables_are = w.names_are;
      }

-- A task by its kind.
module _ (t : Table) (task : Task) (prefix variables : List ℕ) where
  pub counted : (front : Front) → task ≡ Count → FrontTo t (leading_count t) front → Does t task prefix variables prefix variables front
  unfolding Does
  counted front e f = subst (λ (k : Task). Does t k prefix variables prefix variables front) (sym e) (f, (refl, refl))

  module _ (front : Front) (blocks : ℕ) where
    pub put_asks : task ≡ Put front blocks → Doable t task prefix variables
        → FrontTo t (leading_count t) front
        × (FrontRoom front prefix variables × Movable blocks front.names (drop (prefix_width * front.blocks) prefix))
    unfolding Doable
    put_asks e d = subst (λ (k : Task). Doable t k prefix variables) e d

    pub put_does : (prefix' variables' : List ℕ) (r : Front) → task ≡ Put front blocks → PrefixPut t front blocks prefix variables prefix' variables'
        → Does t task prefix variables prefix' variables' r
    unfolding Does
    put_does prefix' variables' r e w = subst (λ (k : Task). Does t k prefix variables prefix' variables' r) (sym e) w
