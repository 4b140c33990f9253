-- `qcir_scan::skip_word` meets its contract.
-- Assumes nothing.
use Rattle.qcir_scan.proofs.Words.{leads_and, leads_xor, leads_exists, leads_exists_on, leads_forall, leads_forall_on, goes_further}
use Rattle.qcir_scan.proofs.skip_word.Goals as goal

pub skip_two-q-requires : goal.skip_two-q-requires
skip_two-q-requires c =
    record {
      text_len_bound = c.requires.text_len_bound;
      at_in_bounds = c.requires.at_in_bounds;
      leads = leads_and;
    }

pub skip_two-q-requires-2 : goal.skip_two-q-requires-2
skip_two-q-requires-2 c =
    record {
      text_len_bound = c.requires.text_len_bound;
      at_in_bounds = c.skip_two-q.ensures.1;
      leads = leads_xor;
    }

pub skip_two-q-requires-3 : goal.skip_two-q-requires-3
skip_two-q-requires-3 c =
    record {
      text_len_bound = c.requires.text_len_bound;
      at_in_bounds = c.skip_two-q-2.ensures.1;
      leads = leads_exists;
    }

pub skip_two-q-requires-4 : goal.skip_two-q-requires-4
skip_two-q-requires-4 c =
    record {
      text_len_bound = c.requires.text_len_bound;
      at_in_bounds = c.skip_two-q-3.ensures.1;
      leads = leads_exists_on;
    }

pub skip_two-q-requires-5 : goal.skip_two-q-requires-5
skip_two-q-requires-5 c =
    record {
      text_len_bound = c.requires.text_len_bound;
      at_in_bounds = c.skip_two-q-4.ensures.1;
      leads = leads_forall;
    }

pub skip_two-requires : goal.skip_two-requires
skip_two-requires c =
    record {
      text_len_bound = c.requires.text_len_bound;
      at_in_bounds = c.skip_two-q-5.ensures.1;
      leads = leads_forall_on;
    }

pub returns : goal.returns
returns c =
    let text = c.args.text.now in
    let to₁ = c.skip_two-q.ensures.0 in
    let to₂ = goes_further text c.args.q c.skip_two-q.result c.skip_two-q-2.result to₁ c.skip_two-q-2.ensures.0 in
    let to₃ = goes_further text c.args.q c.skip_two-q-2.result c.skip_two-q-3.result to₂ c.skip_two-q-3.ensures.0 in
    let to₄ = goes_further text c.args.q c.skip_two-q-3.result c.skip_two-q-4.result to₃ c.skip_two-q-4.ensures.0 in
    let to₅ = goes_further text c.args.q c.skip_two-q-4.result c.skip_two-q-5.result to₄ c.skip_two-q-5.ensures.0 in
    let to₆ = goes_further text c.args.q c.skip_two-q-5.result c.skip_two.result to₅ c.skip_two.ensures.0 in
    to₆
