use Rattle.vbm_media.proofs.Asks.{lists}
use Rattle.vbm_media.proofs.ask.answer_list.Goals as goal

pub returns : goal.returns
returns c files = lists c.args.store.now files c.in_ok-media_names.field-0 c.in_ok-media_names.ensures
