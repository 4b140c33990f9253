-- What the functions of this crate compute. The public contract cites none of these definitions.
-- Assumes nothing.
use Rattle.std.specs.Prelude.{List, ◌++◌, ◌≡◌, ℕ, ◌+◌, ◌*◌, ◌≤◌, length, drop}
use Rattle.lists.specs.Parts.{overwrite}
use Rattle.formula.specs.Node.{Table}
use Rattle.formula.specs.Form.{prefix_width}
use Rattle.prenex_form.specs.declared.Sizes.{Sizes}
use Rattle.leading_blocks.specs.declared.Front.{Front}
use Rattle.kept_prefix.specs.Leading.{leading_count}
use Rattle.leading_blocks.specs.Front.{FrontTo}
use Rattle.front_writer.specs.Written.{front_words, front_names, moved, Movable}
use Rattle.lift_kept.specs.declared.Task.{Task}
use Rattle.lift_kept.specs.declared.Task.TheVariants.{Count, Put}

-- There is room for the front.
pub record FrontRoom (front : Front) (prefix variables : List ℕ) : Type 0 where
  pub blocks_fit : prefix_width * front.blocks ≤ length prefix
  pub names_fit : front.names ≤ length variables

-- The front stands at the starts of the two buffers, and so many blocks behind it are moved.
pub record PrefixPut (t : Table) (front : Front) (blocks : ℕ) (prefix variables prefix' variables' : List ℕ) : Type 0 where
  pub prefix_is : prefix' ≡ overwrite prefix 0 (front_words t (leading_count t) ++ moved blocks front.names (drop (prefix_width * front.blocks) prefix))
  pub variables_are : variables' ≡ overwrite variables 0 (front_names t (leading_count t))

-- The sizes of a form by those of the lift of what is below its front.
unfoldable pub with_front : Sizes → Front → Sizes
with_front s front =
    record {
      n = s.n + front.taken;
      b = s.b + front.taken;
      q = s.q + front.bound;
      depth = s.depth + front.taken;
      nodes = s.nodes;
      blocks = s.blocks + front.blocks;
      entries = s.entries + front.names;
    }

-- What a task asks of the two buffers, and what it does.
unfoldable pub Doable : Table → Task → List ℕ → List ℕ → Type 0
Doable t Count prefix variables = Unit {0}
Doable t (Put front blocks) prefix variables =
    FrontTo t (leading_count t) front
    × (FrontRoom front prefix variables × Movable blocks front.names (drop (prefix_width * front.blocks) prefix))

unfoldable pub Does : Table → Task → List ℕ → List ℕ → List ℕ → List ℕ → Front → Type 0
Does t Count prefix variables prefix' variables' front = FrontTo t (leading_count t) front × ((prefix' ≡ prefix) × (variables' ≡ variables))
Does t (Put front blocks) prefix variables prefix' variables' _ = PrefixPut t front blocks prefix variables prefix' variables'
