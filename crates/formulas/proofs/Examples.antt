-- The claim about document 01's "Formulas to try" that are to be proved.
-- Assumes nothing.
use mathlib.Core.Path.{◌≡◌, refl, ap}
use mathlib.Core.List.{List, head_d, tail, map, flat_map, Memᴰ}
use Rattle.lists.specs.Choice.{pick}
use Rattle.lists.specs.Search.{lowest}
use Rattle.lists.specs.Members.{mem, all, distinct, times, place, maximum}
use Rattle.lists.specs.Parts.{up_to, numbers, sum, highest, overwrite}
use Rattle.formula.specs.Node.{dual, operands, is_block, bound}
use Rattle.formula.specs.Words.{field, is_block_kind, is_empty_block, range, node_of, words_of, word_list, node_words, node_at, table_of}
use Rattle.formula.specs.Valuation.{update, join, quant}
use Rattle.formula.specs.Truth.{bit, digit, operator_value, node_value, value, truth}
use Rattle.formula.specs.Tree.{users, times_named, count, bound_below}
use Rattle.refusals.specs.Verdict.{first_two, refusal, not_a_tree, accepted}
use Rattle.refusals.specs.Outcome.{refused, done, unless_refused, unless_short}
use Rattle.acceptance.specs.Verdict.{is_number_to, partial_node, too_large, well_formed, forward_reference, range_past_end, empty_block, count_at, too_many_variables, bad_variable, node_fault, not_named_once, tree_refusal, verdict_within}
use Rattle.prenex_form.specs.Scope.{parent, path_up, path, above, binder, inner, how_many, level, depth}
use Rattle.prenex_form.specs.Names.{highest_at, highest_number, bound_count, first_name, new_names, new_name, inner_bound_below, inner_below, copies, definition_variable}
use Rattle.prenex_form.specs.Levels.{blocks_at, levels, quantifier_at, level_quantifier}
use Rattle.prenex_form.specs.Matrix.{kept, renamed, first_nodes, body_of, equation, guard, constraint, further, constraints, level_join, level_nodes, nodes_to, prenex_nodes, written_nodes}
use Rattle.prenex_form.specs.Prefix.{block_count, leading, prefix_block, prefix_blocks, written_prefix, written_variables}
use Rattle.formula.specs.Form.{kind_of, prefix_words}
use Rattle.prenex_form.specs.Sizes.{sizes}
use Rattle.prenex.specs.Outcome.{no_sizes, too_short, written, lifted}
use Rattle.formulas.specs.Rows.{holding, Row, nodes_of, filled, answer_words, left, leaves, should_leave, truths, should_be, refused_row, done_row, below_xor, below_xor_row, examples}

-- What all rows leave, and their truth values, in one computation each.
all_leave : map leaves examples ≡ map should_leave examples
unfolding accepted refusal not_a_tree first_two tree_refusal users leaves should_leave left filled examples refused_row done_row below_xor below_xor_row nodes_of answer_words no_sizes refused done unless_refused unless_short too_short written lifted verdict_within partial_node too_large node_fault well_formed forward_reference range_past_end empty_block too_many_variables count_at bad_variable not_named_once is_number_to is_block_kind is_empty_block field range node_of node_at table_of digit times_named operands is_block bound dual lowest pick sum all distinct mem times place up_to numbers highest overwrite count bound_below parent path_up path above binder inner how_many level depth maximum highest_at highest_number bound_count first_name new_names new_name inner_bound_below inner_below copies definition_variable blocks_at levels quantifier_at level_quantifier kept renamed first_nodes body_of equation guard constraint further constraints level_join level_nodes nodes_to prenex_nodes node_words words_of word_list written_nodes block_count leading prefix_block prefix_blocks kind_of prefix_words written_prefix written_variables sizes flat_map
all_leave = refl

all_truths : map truths examples ≡ map should_be examples
unfolding truths should_be holding examples refused_row done_row below_xor below_xor_row nodes_of is_block_kind field range node_of node_at table_of pick mem up_to numbers update join quant bit digit operator_value node_value value truth
all_truths = refl

-- two functions that agree on a list agree at each member
map_member : {A B : Type 0} (f g : A → B) {x : A} {xs : List A} → Memᴰ x xs → map f xs ≡ map g xs → f x ≡ g x
unfolding head_d
map_member {B = B} f g (Memᴰ.head {x = y} {xs = ys} e) h = rw e (ap (λ (zs : List B). head_d zs (f y)) h)
map_member f g (Memᴰ.tail {x = y} {xs = ys} m) h = map_member f g m (ap tail h)

-- The claim about all rows: a lift of the row's table answers and leaves what the row says, and the table has the row's truth values.
pub examples_hold : (r : Row) → Memᴰ r examples → (leaves r ≡ should_leave r) × (truths r ≡ should_be r)
examples_hold r m = (map_member leaves should_leave m all_leave, map_member truths should_be m all_truths)
