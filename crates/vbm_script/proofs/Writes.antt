-- The words behind `write`.
use Rattle.std.proofs.Common.{ℕ, List, [], ◌∷◌}
use Rattle.std.specs.Prelude.{codes}
use Rattle.hex.specs.Hex.{encode_lower}
use Rattle.vbm_lines.specs.Lines.{Words}
use Rattle.vbm_world.specs.declared.command.Command.{Command}
use Rattle.vbm_world.specs.declared.command.Command.TheVariants.{Write}
use Rattle.vbm_world.specs.Texts.{IsForm}
use Rattle.vbm_world.proofs.Verbs.{writes}
use Rattle.vbm_script.specs.Guests.{IsAtSector, SpellsSectors}
use Rattle.vbm_script.proofs.Forms.{formed_as}

pub write_form : (tail : Words) (vm : List ℕ) (port lba : ℕ) (word bytes : List ℕ) → IsAtSector tail vm port lba (word ∷ [])
    → SpellsSectors word bytes → IsForm (codes "write" ∷ tail) (Write vm port lba bytes)
write_form tail vm port lba word bytes at spells = record {
  is = cc (at.is, spells.spelled);
  spelled = (at.is_short, at.is_port, at.fits, spells.are_sectors);
}

pub written_word : (tail : Words) (vm : List ℕ) (port lba : ℕ) (bytes : List ℕ) → IsForm (codes "write" ∷ tail) (Write vm port lba bytes)
    → IsAtSector tail vm port lba (encode_lower bytes ∷ [])
written_word tail vm port lba bytes form = record {
  is = cc form.is;
  is_short = form.spelled.0;
  is_port = form.spelled.1;
  fits = form.spelled.2;
}

pub written_bytes : (tail : Words) (vm : List ℕ) (port lba : ℕ) (word : List ℕ) → IsAtSector tail vm port lba (word ∷ []) → (c : Command)
    → IsForm (codes "write" ∷ tail) c → (bytes : List ℕ) × SpellsSectors word bytes
written_bytes tail vm port lba word at c form =
    let k = formed_as writes tail c form in
    (k.0.3, record { spelled = cc (k.1.is, at.is); are_sectors = k.1.spelled.3 })
