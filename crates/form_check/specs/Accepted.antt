-- What holds of every form that neither 14 nor 15 refuses. Crates above cite this record (proofs/Accepted.antt makes it of the verdict,
-- and the verdict of it) and never the verdict's text.
-- Assumes nothing.
use Rattle.std.specs.Prelude.{true, ◌≡◌, ℕ, ◌+◌, ◌*◌, ◌/◌, ◌<◌, ◌≤◌, length, get_or}
use mathlib.Core.List.{List, [], flat_map}
use Rattle.lists.specs.Members.{all, distinct}
use Rattle.formula.specs.Words.{is_block_kind}
use Rattle.formula.specs.Form.{Block, prefix_width, blocks_of}
use Rattle.acceptance.specs.Limits.{TableLimits}
use Rattle.acceptance.specs.Verdict.{is_number_to}
use Rattle.acceptance.specs.Accepted.{AcceptedWithin}
use Rattle.form_check.specs.Verdict.{form_limits}

-- The variables of prefix blocks, in the prefix's order.
unfoldable pub prefix_names : List Block → List ℕ
prefix_names bs = flat_map (λ (b : Block). b.variables) bs

pub record AcceptedFormWithin (lim : TableLimits) (ns ps xs : List ℕ) : Type 0 where
  -- the nodes are a tree of constants, variables, not nodes and operators within their ranges
  pub matrix : AcceptedWithin lim ns []
  -- the prefix is whole blocks of kind 5 or 6, whose ranges fit
  pub whole : length ps ≡ prefix_width * (length ps / prefix_width)
  pub kinds : (j : ℕ) → j < length ps / prefix_width → is_block_kind (get_or ps (prefix_width * j) 0) ≡ true
  pub fits : (j : ℕ) → j < length ps / prefix_width → get_or ps (prefix_width * j + 1) 0 + get_or ps (prefix_width * j + 2) 0 ≤ length xs
  -- its names are variables, none of them twice
  pub numbered : all (is_number_to lim.highest) (prefix_names (blocks_of ps xs)) ≡ true
  pub apart : distinct (prefix_names (blocks_of ps xs)) ≡ true

abbrev pub AcceptedForm : List ℕ → List ℕ → List ℕ → Type 0
AcceptedForm = AcceptedFormWithin form_limits
