use Rattle.std.proofs.Common.{length, is_some, ap, sym, ◌∙◌}
use Rattle.std.specs.Prelude.{nat_le}
use Rattle.std.proofs.lemmas.Bool.{leb-false}
use Rattle.vbm_ids.specs.declared.TheConstants.{NUMBER_LIMIT}
use Rattle.vbm_world.specs.declared.limits.TheConstants.{MEDIA_LIMIT}
use Rattle.vbm_world.specs.Refusals.{capacity_of, is_bad_size}
use Rattle.vbm_named.proofs.Lists.{has_found}
use Rattle.vbm_registry.specs.Library.{medium_entry_name}
use Rattle.vbm_media.specs.Creates.{first_check}
use Rattle.vbm_media.proofs.Creating.{none_holds, some_map, some_copied, refusal_is}
use Rattle.vbm_media.proofs.create.create_refusal.Goals as goal

pub returns-clause-answer : goal.returns-clause-answer
returns-clause-answer g c = λ told.
    let l = c.args.store.now.library in
    let name = c.args.name.now in
    let files = (g.D.Disk.state c.args.disk.now).files in
    let taken = c.is_some.ensures ∙ some_copied c.find.result ∙ ap is_some c.find.ensures ∙ sym (has_found medium_entry_name name l.media) in
    let there = c.is_some-2.ensures ∙ ap is_some (c.in_ok-len.ensures.answer told) ∙ some_map length (files name) in
    let size = c.is_bad_size.ensures ∙ ap is_bad_size c.capacity.ensures in
    let full = ap (nat_le MEDIA_LIMIT) c.len.ensures in
    c.first_that_holds.ensures
    ∙ (λ i. first_check (taken i) (there i) (size i) (full i) (nat_le NUMBER_LIMIT l.next))
    ∙ refusal_is c.args.store.now files name (capacity_of c.args.size) c.requires.sound c.requires.name

pub returns-clause-can : goal.returns-clause-can
returns-clause-can g c = λ none.
    let l = c.args.store.now.library in
    let name = c.args.name.now in
    let all = none_holds _ _ _ _ _ (sym c.first_that_holds.ensures ∙ none) in
    let taken = c.is_some.ensures ∙ some_copied c.find.result ∙ ap is_some c.find.ensures ∙ sym (has_found medium_entry_name name l.media) in
    let size = c.is_bad_size.ensures ∙ ap is_bad_size c.capacity.ensures in
    record {
      new = sym taken ∙ all.0;
      size = sym size ∙ all.2;
      room = leb-false _ _ (sym (ap (nat_le MEDIA_LIMIT) c.len.ensures) ∙ all.3);
      next = leb-false _ _ all.4;
    }
