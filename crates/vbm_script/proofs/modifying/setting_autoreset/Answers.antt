use Rattle.vbm_world.specs.declared.command.PlaceName.TheVariants.{Slot}
use Rattle.vbm_world.specs.Texts.{place_text, switch_text}
use Rattle.vbm_script.proofs.modifying.setting_autoreset.Goals as goal

pub returns-in_default : goal.returns-in_default
returns-in_default c = λ vm port on form. c.in_default.ensures (place_text (Slot vm port)) (switch_text on) (cc form.is)
