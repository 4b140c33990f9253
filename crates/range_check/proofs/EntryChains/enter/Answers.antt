-- `range_check::EntryChains::enter` meets its contract: the walk starts at the head of the variable's chain, and meets the variable exactly if an entry of the block before it is
-- the same; the push is the one that `chains_more` speaks of.
-- Assumes nothing.
use mathlib.Core.Bool.{true, false, not}
use mathlib.Core.Path.{◌≡◌, refl, sym, ◌∙◌, ap}
use Prim.Native.Nat.{◌+◌}
use lib.ListN.{get_or}
use native.Mathlib.Omega.{arith}
use Rattle.lists.specs.Choice.{clash}
use Rattle.acceptance.specs.Verdict.{is_number}
use Rattle.range_check.proofs.Chains.{chain_of, new_is, chains_more}
use Rattle.range_check.proofs.EntryChains.enter.Goals.{Else-not-is_number}
use Rattle.range_check.proofs.EntryChains.enter.Goals as goal

pub returns-then-not-is_number : goal.returns-then-not-is_number
returns-then-not-is_number c =
    let a = c.args in
    let no : is_number (get_or a.list.now (a.first + a.k) 0) ≡ false = sym c.is_number.ensures ∙ c.if-not-is_number.true in record {
      value = rw no;
      chains_2 = λ t. clash t refl;
      entries = refl;
    }

-- Past the first test, the entry is a variable number.
number : (c : Else-not-is_number) → let a = c.args in is_number (get_or a.list.now (a.first + a.k) 0) ≡ true
number c = sym c.is_number.ensures ∙ c.if-not-is_number.false

pub overflow_cast-head : goal.overflow_cast-head
overflow_cast-head c =
    let a = c.args in
    omega (arith, c.type_inv.list (a.first + a.k))

pub in_chain-requires : goal.in_chain-requires
in_chain-requires c = let p = c.requires in chain_of _ _ _ _ _ _ p.k_bound.0 p.k_bound.1 p.chains

pub returns-then-in_chain : goal.returns-then-in_chain
returns-then-in_chain c =
    let p = c.requires in record {
      value = sym (ap not c.if-in_chain.true) ∙ new_is _ _ _ _ _ _ p.k_bound.0 p.k_bound.1 p.chains _ (number (goal.at.returns-then-in_chain c).Else-not-is_number) c.in_chain.ensures;
      chains_2 = λ t. clash t refl;
      entries = refl;
    }

pub returns : goal.returns
returns c =
    let p = c.requires in
    let r = c.push.ensures in record {
      value = sym (ap not c.if-in_chain.false) ∙ new_is _ _ _ _ _ _ p.k_bound.0 p.k_bound.1 p.chains _ (number (goal.at.returns c).Else-not-is_number) c.in_chain.ensures;
      chains_2 = λ t. rw (r.heads_after, r.prevs_after) (chains_more _ _ _ _ _ _ p.k_bound.0 p.k_bound.1 p.chains);
      entries = r.entries;
    }
