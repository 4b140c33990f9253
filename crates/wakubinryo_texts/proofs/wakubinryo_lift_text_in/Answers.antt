-- `wakubinryo_texts::wakubinryo_lift_text_in` meets its contract.
-- Assumes nothing.
use Rattle.lift_text.specs.Memory.{lent, LiftsTextIn}
use Rattle.lift_text.proofs.Plain.{lifting_in_plain}
use Rattle.wakubinryo_texts.proofs.Answers.{unknown_plain, in_format, in_none}
use Rattle.wakubinryo_texts.proofs.wakubinryo_lift_text_in.Goals as goal

pub put_lift-requires : goal.put_lift-requires
put_lift-requires c = lifting_in_plain _ _ _ _ c.lift_text_in.ensures.outcome

pub put_lift-requires-in-None : goal.put_lift-requires-in-None
put_lift-requires-in-None c = unknown_plain _ c.unknown_format.ensures

pub returns-in-Some : goal.returns-in-Some
returns-in-Some c =
    in_format c.args.format _ c.format_of-asked.ensures _ c.lift_text_in.result _ c.put_lift.ensures _ c.in-Some.is
    (λ f o. LiftsTextIn f c.args.text.now (lent c.args.nodes.now c.args.out.now) o) _ c.lift_text_in.ensures

pub returns-in-None : goal.returns-in-None
returns-in-None c = in_none c.args.format _ c.format_of-asked.ensures (lent c.args.nodes.now c.args.out.now) c.unknown_format.result _ c.put_lift-in-None.ensures c.in-None.is _ c.unknown_format.ensures
