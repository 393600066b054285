use Rattle.std.proofs.Common.{◌≡◌, ◌<◌, ◌∙◌, Some, ap, length, subst, sym}
use Rattle.std.specs.List.{slice_get}
use Rattle.vbm_machines.specs.Slots.{new_slot, slot_entered}
use Rattle.vbm_slots.proofs.SlotsSeen.{medium_there, place_within}
use Rattle.vbm_slots.proofs.slots.attached.Goals as goal

pub get-requires : goal.get-requires
get-requires c =
    let l = c.args.library.now in
    subst (λ p. p < length l.media) (sym c.place_of-place.ensures.place) (place_within l c.args.name.now c.requires.there)

pub returns : goal.returns
returns c medium found =
    let l = c.args.library.now in
    let place = c.place_of-place.ensures.place in
    let both : Some c.get.result.now ≡ Some medium =
    sym c.get.ensures ∙ ap (slice_get l.media) place ∙ medium_there l c.requires.rules c.args.name.now medium found in
    let medium_is : c.get.result.now ≡ medium = cc in
    c.in_ok-attach.ensures.ok
    ∙ (λ i. let m = c.in_ok-machine.ensures i in record m
    { slots = slot_entered (new_slot c.args.port (place i) (medium_is i).mode l.inner) m.slots })
