use Rattle.std.proofs.Common.{◌∙◌, List, ap, set}
use Rattle.mk_model.specs.declared.template.Slot.{Slot}
use Rattle.mk_choice.proofs.SlotListLemmas.{put_is}
use Rattle.mk_choice.proofs.slot_list.SlotList.put.Goals as goal

pub returns : goal.returns
returns c = put_is c.self.inside.items.items c.args.place c.args.slot ∙ ap (λ (xs : List Slot). set xs c.args.place c.args.slot.now) c.self.view_is
