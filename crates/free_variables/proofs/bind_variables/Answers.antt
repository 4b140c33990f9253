-- `free_variables::bind_variables` meets its contract.
-- Assumes nothing.
use mathlib.Core.Path.{refl}
use Rattle.free_variables.proofs.bind_variables.Goals as goal

pub find_bindings-requires : goal.find_bindings-requires
find_bindings-requires c =
    record {
      list_value = c.requires.list_value;
      parents_len = (c.fill_scopes-pass.auto.parents, c.fill_scopes-pass.ensures.parents);
      bound_value = c.fill_scopes-pass.ensures.counts.bound_is;
      starts_len = (refl, c.requires.bindings_len);
    }

pub returns : goal.returns
returns c = let f = c.find_bindings.ensures in (f.bound, f.highest_is)
