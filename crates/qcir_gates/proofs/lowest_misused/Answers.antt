-- `qcir_gates::lowest_misused` meets its contract: two uses at most are enough to see which gates are not used once.
-- Assumes nothing.
use mathlib.Core.Path.{◌∙◌, ap}
use Prim.Native.Nat.{ℕ}
use borrow.Author.Rules.{rules}
use Rattle.lists.proofs.Stores.{get_or-filled}
use Rattle.qcir_tokens.specs.Held.{found_of}
use Rattle.qcir_gates.proofs.Files.{file_misused}
use Rattle.qcir_gates.proofs.lowest_misused.Goals as goal

pub count_uses-requires : goal.count_uses-requires
count_uses-requires c =
    record {
      uses_len = search rules;
      by_index = λ x. get_or-filled {A = ℕ} 65536 x 0;
    }

pub returns : goal.returns
returns c f (ps, h) = c.lowest_not_once.ensures ps ∙ ap found_of (file_misused f _ _ h.tokens (λ x. c.count_uses.ensures ps x))
