use Rattle.std.proofs.Common.{◌≡◌, ◌∙◌, ◌+◌, ◌<◌, ℕ, List, length, take, drop, sym, subst, arith}
use Rattle.std.specs.Prelude.{reverse}
use Rattle.vbm_memdisk.specs.Events.{effect_of, since_sync, replays, files_after}
use Rattle.vbm_memdisk.proofs.Replays.{no_sync, new_sync}
use Rattle.vbm_memdisk.proofs.replay.last_sync.Goals as goal
use Rattle.vbm_memdisk.proofs.replay.last_sync.Goals.{then-settles, else-settles}

pub loop-i-preserved : goal.loop-i-preserved
loop-i-preserved c =
    let i : ℕ = c.loop-i.i in
    let events : List _ = c.args.events.now in
    let inside : i < length events = omega arith in
    elim c.if-settles.branch [
      | then-settles w ↦ record {
        within = omega arith;
        parts = λ pick first.
            subst (λ (start : ℕ). since_sync (effect_of pick) first (reverse (take (i + 1) events)) ≡ replays (effect_of pick) (files_after first (reverse (take start events))) (reverse (drop start (take (i + 1) events))))
            (sym w.start-is) (new_sync (effect_of pick) first events i c.index-events-i.result inside c.index-events-i.is (sym c.settles.ensures ∙ w.if-settles.true));
      }
      | else-settles w ↦ record {
        within = omega arith;
        parts = λ pick first.
            subst (λ (start : ℕ). since_sync (effect_of pick) first (reverse (take (i + 1) events)) ≡ replays (effect_of pick) (files_after first (reverse (take start events))) (reverse (drop start (take (i + 1) events))))
            (sym w.start-is) (no_sync (effect_of pick) first events i c.loop-i.start c.index-events-i.result c.loop-i.invariant.within inside c.index-events-i.is (sym c.settles.ensures ∙ w.if-settles.false) (c.loop-i.invariant.parts pick first));
      }
    ]
