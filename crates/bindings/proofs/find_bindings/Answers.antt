-- `bindings::find_bindings` meets its contract.
-- Assumes nothing.
use mathlib.Core.Path.{refl, ◌∙◌}
use Rattle.lists.proofs.Stores.{get_or-filled}
use Rattle.bindings.proofs.find_bindings.Goals as goal

pub chain_members-highest-requires : goal.chain_members-highest-requires
chain_members-highest-requires c =
    let p = c.requires in record {
      list_value = p.list_value;
      parents_len = p.parents_len;
      bound_value = p.bound_value;
      cleared = (record { firsts_length = refl; nexts_length = refl; firsts_clear = λ k. get_or-filled 4097 k 0 }, p.starts_len.0);
    }

pub returns : goal.returns
returns c =
    let p = c.requires in
    let e = c.chain_members-highest.ensures in
    let k = c.chain_members-highest.auto in
    record {
      started = record { checked = p.list_value; started = e.starts; starts_long = k.starts ∙ p.starts_len.0 };
      bound = record { bindings_length = c.find_binders.auto.bindings ∙ p.starts_len.1; bindings_hold = c.find_binders.ensures.bindings };
      highest_is = e.highest.0;
      highest_limit = e.highest.1;
    }
