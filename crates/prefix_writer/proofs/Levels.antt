-- A level's blocks walked along its chain, each block's part written after the parts before it.
-- Assumes nothing.
use mathlib.Core.Path.{◌≡◌, refl, ap}
use mathlib.Core.List.{List, ◌++◌, flat_map}
use Prim.Native.Nat.{ℕ, suc, ◌+◌, ◌-◌, ◌≤◌, ◌<◌}
use native.Mathlib.Omega.{arith}
use lib.ListN.{length, take, drop}
use Rattle.std.proofs.Common.{Option, Some, None, IfSome}
use Rattle.lists.specs.Parts.{overwrite}
use Rattle.formula.specs.Node.{Table}
use Rattle.prenex_form.specs.Levels.{blocks_at}
use Rattle.arrays.specs.Chains.{blocks_from, linked, BlockOf}
use Rattle.prefix_writer.proofs.Writing.{Left, left_start, left_room, left_step, left_end, tail_room, tail_back, flat_map_end, flat_map_next}

-- The parts g of the blocks of level l before the one that is left are written, and end at index at.
pub record Walked (t : Table) (l : ℕ) (g : ℕ → List ℕ) (out₀ out : List ℕ) (at : ℕ) (block : Option ℕ) : Type 0 where
  pub of_level : IfSome block (BlockOf t l)
  pub left : Left out₀ out at (flat_map g (blocks_at t l)) (flat_map g (linked t l block))

module _ (t : Table) (l : ℕ) (g : ℕ → List ℕ) where
  pub walk_start : (out : List ℕ) (block : Option ℕ) → IfSome block (BlockOf t l) → linked t l block ≡ blocks_at t l → Walked t l g out out 0 block
  walk_start out block o e = record { of_level = o; left = left_start out _ _ (ap (flat_map g) e) }

  module _ (out₀ out : List ℕ) (at : ℕ) (block : Option ℕ) (w : Walked t l g out₀ out at block) where
    pub walk_end : block ≡ None → (out ≡ overwrite out₀ 0 (flat_map g (blocks_at t l))) × (at ≡ length (flat_map g (blocks_at t l)))
    walk_end e = left_end out₀ out at _ _ w.left (flat_map_end g _ (ap (linked t l) e))

    module _ (b : ℕ) (e : block ≡ Some b) where
      pub walk_block : BlockOf t l b
      walk_block = rw e at w.of_level

      part_here : flat_map g (linked t l block) ≡ g b ++ flat_map g (blocks_from t l (suc b))
      part_here = flat_map_next g _ _ b (ap (linked t l) e)

      module _ (fits : length (flat_map g (blocks_at t l)) ≤ length out₀) where
        pub walk_room : at + length (g b) ≤ length out
        walk_room = left_room out₀ out at _ _ w.left (g b) _ part_here fits

        pub walk_tail : length (g b) ≤ length (take (length out - at) (drop at out))
        walk_tail = tail_room out at _ _ refl walk_room

        -- the block's part, written into the lent tail
        pub walk_step : (part : List ℕ) (n : ℕ) (after : Option ℕ) → part ≡ overwrite (take (length out - at) (drop at out)) 0 (g b) → n ≡ length (g b)
            → (IfSome after (BlockOf t l)) × (linked t l after ≡ blocks_from t l (suc b))
            → Walked t l g out₀ (take at out ++ (part ++ drop (length out - at) (drop at out))) (at + n) after
        walk_step part n after p k next =
            record {
              of_level = next.0;
              left = rw (k, next.1) (left_step out₀ out at _ _ w.left (g b) _ _ part_here fits
                  (tail_back out at part (g b) (omega (arith, walk_room)) p));
            }

-- fewer blocks are left
pub walk_less : (t : Table) (l : ℕ) (block after : Option ℕ) (b : ℕ) → block ≡ Some b → linked t l after ≡ blocks_from t l (suc b)
    → length (linked t l after) < length (linked t l block)
walk_less t l block after b e f = omega (arith, ap length (ap (linked t l) e), ap length f)
