-- Two libraries in the middle of a merging keep the rules, and what one of them stands for.
use Rattle.std.proofs.Common.{◌≡◌, ℕ, ◌<◌, Bool, true, false, cond, List, [], ◌∷◌, map, replicate, Option, Some, None, refl, arith}
use Rattle.std.specs.Prelude.{codes}
use Rattle.std.specs.Str.{bytes_eq}
use Rattle.std.proofs.lemmas.List.Elements.{All-from_recursion}
use Rattle.vbm_ports.specs.Files.{Files}
use Rattle.vbm_ports.specs.Names.{is_medium_name, is_short_name}
use Rattle.vbm_modes.specs.declared.Mode.TheVariants.{Normal}
use Rattle.vbm_machines.specs.declared.Held.{Held}
use Rattle.vbm_machines.specs.declared.Held.TheVariants.{Own, Base}
use Rattle.vbm_ids.specs.declared.Kind.TheVariants.{Modify}
use Rattle.vbm_ids.specs.Identifier.{identifier_of, IsSeed}
use Rattle.vbm_named.specs.Names.{Name}
use Rattle.vbm_world.specs.Tree.{IsTree}
use Rattle.vbm_registry.specs.declared.media.Medium.{Medium}
use Rattle.vbm_registry.specs.Named.{ImageName, OfMedium, OfInner, NamedInner, NamedSlot, NamedSnapshot, NamedMachine, NamedLibrary, images_of, named_branch}
use Rattle.vbm_registry.specs.Chains.{inner_down}
use Rattle.vbm_registry.specs.Rules.{IsOwnOf, IsNamedSlot, AreNamedSlots, IsLibrary}
use Rattle.vbm_standing.specs.ChainDisks.{disk_by}
use Rattle.vbm_standing.specs.Meaning.{slot_in, medium_in}

abbrev disk_name : Name
disk_name = codes "a.vdi"

abbrev disk : Medium
disk = record { name = disk_name; mode = Normal }

abbrev slot_holding : Held → NamedSlot
slot_holding held = record { port = 0; medium = disk_name; autoreset = false; held = held }

abbrev image_over : ℕ → ImageName → NamedInner
image_over n parent = record { number = n; parent = parent }

abbrev zero_seed : List ℕ
zero_seed = replicate 16 0

good_seed : IsSeed zero_seed
good_seed = record {
  long = refl;
  bytes = All-from_recursion (λ b. b < 256) zero_seed (
    omega arith,
    (
      omega arith,
      (
        omega arith,
        (
          omega arith,
          (
            omega arith,
            (
              omega arith,
              (
                omega arith,
                (
                  omega arith,
                  (
                    omega arith,
                    (
                      omega arith,
                      (omega arith, (omega arith, (omega arith, (omega arith, (omega arith, (omega arith, tt)))))),
                    ),
                  ),
                ),
              ),
            ),
          ),
        ),
      ),
    ),
  );
}

-- ---- the image of a deleted snapshot is merged into another snapshot's

abbrev snapshot_holding : Name → Option Name → Held → NamedSnapshot
snapshot_holding name parent held = record { name = name; parent = parent; slots = slot_holding held ∷ [] }

-- one was deleted below S2
abbrev tree_machine : NamedMachine
tree_machine = record {
  name = codes "v";
  slots = slot_holding (Own 6) ∷ [];
  snapshots = snapshot_holding (codes "S0") None Base ∷ snapshot_holding (codes "S2") (Some (codes "S0")) (Own 1)
      ∷ snapshot_holding (codes "S3") (Some (codes "S2")) (Own 2) ∷ snapshot_holding (codes "S4") (Some (codes "S2")) (Own 4) ∷ [];
  current = Some (codes "S2");
}

abbrev merging_up : NamedLibrary
merging_up = record {
  seed = zero_seed;
  next = 1;
  inner = 8;
  media = disk ∷ [];
  inners = image_over 0 (OfMedium disk_name) ∷ image_over 1 (OfInner 0) ∷ image_over 2 (OfInner 1) ∷ image_over 4 (OfInner 1) ∷ image_over 6
      (OfInner 1) ∷ [];
  machines = tree_machine ∷ [];
  making = None;
  merging = record { parent = OfInner 0; child = 1; number = 7 } ∷ [];
}

slots_of_one : (l : NamedLibrary) (of_snapshot : Bool) (h : Held) → IsNamedSlot (images_of l) of_snapshot (slot_holding h)
    → AreNamedSlots (images_of l) of_snapshot (slot_holding h ∷ [])
slots_of_one l of_snapshot h is = record { ports = (omega arith, omega arith); different = (tt, tt); each = (is, tt) }

own_slot_up : (of_snapshot : Bool) (n : ℕ) → IsOwnOf merging_up.inners disk_name (Own n)
    → IsNamedSlot (images_of merging_up) of_snapshot (slot_holding (Own n))
own_slot_up of_snapshot n own = record { medium = disk; there = refl; held = refl; own = own; autoreset = λ e. absurd cc }

base_place_up : IsNamedSlot (images_of merging_up) true (slot_holding Base)
base_place_up = record { medium = disk; there = refl; held = refl; own = tt; autoreset = λ e. absurd cc }

depth_up : Name → ℕ
depth_up name = cond (bytes_eq name (codes "S0")) 0 (cond (bytes_eq name (codes "S2")) 1 2)

tree_up : IsTree (map named_branch tree_machine.snapshots) tree_machine.current
unfolding depth_up
tree_up = record {
  names = ((refl, (refl, (refl, tt))), ((refl, (refl, tt)), ((refl, tt), (tt, tt))));
  parents = (tt, (refl, (refl, (refl, tt))));
  depth = depth_up;
  below = (tt, (omega arith, (omega arith, (omega arith, tt))));
  root = omega arith;
  there = refl;
  none = refl;
}

keeps_rules_up : IsLibrary merging_up
unfolding inner_down is_short_name
keeps_rules_up = record {
  seed = good_seed;
  next = omega arith;
  inner = omega arith;
  few_media = omega arith;
  few_machines = omega arith;
  few_snapshots = omega arith;
  few_places = omega arith;
  few_mergings = omega arith;
  media_rise = (tt, tt);
  media = ((unfold is_medium_name in refl), tt);
  inners = (omega arith, refl, (omega arith, refl, (omega arith, refl, (omega arith, refl, (omega arith, refl, tt)))));
  machines_rise = (tt, tt);
  machines = (
    record {
      name = refl;
      tree = tree_up;
      slots = record { valid = slots_of_one merging_up false (Own 6) (own_slot_up false 6 refl); stacked = (refl, tt); inherits = ((λ e. refl), tt) };
      snapshots = (
        record { name = refl; places = record { valid = slots_of_one merging_up true Base base_place_up; stacked = (refl, tt); inherits = tt } },
        (
          record {
            name = refl;
            places = record
                { valid = slots_of_one merging_up true (Own 1) (own_slot_up true 1 refl); stacked = (refl, tt); inherits = ((λ e. refl), tt) };
          },
          (
            record {
              name = refl;
              places = record
                  { valid = slots_of_one merging_up true (Own 2) (own_slot_up true 2 refl); stacked = (refl, tt); inherits = ((λ e. refl), tt) };
            },
            (
              record {
                name = refl;
                places = record
                    { valid = slots_of_one merging_up true (Own 4) (own_slot_up true 4 refl); stacked = (refl, tt); inherits = ((λ e. refl), tt) };
              },
              tt,
            ),
          ),
        ),
      );
    },
    tt,
  );
  making = tt;
  held = (refl, (refl, (refl, (refl, (refl, tt)))));
  based = ((λ normal based. record { nowhere = refl; once = refl }), tt);
  merging = (record { parent = refl; normal = tt; only = refl; held = refl; once = refl }, tt);
  drawn = (omega arith, tt);
}

-- ---- the only snapshot is deleted: the machine's image is merged into the medium's own

abbrev plain_machine : NamedMachine
plain_machine = record { name = codes "v"; slots = slot_holding (Own 0) ∷ []; snapshots = []; current = None }

abbrev merging_down : NamedLibrary
merging_down = record {
  seed = zero_seed;
  next = 3;
  inner = 1;
  media = disk ∷ [];
  inners = image_over 0 (OfMedium disk_name) ∷ [];
  machines = plain_machine ∷ [];
  making = None;
  merging = record { parent = OfMedium disk_name; child = 0; number = 2 } ∷ [];
}

keeps_rules_down : IsLibrary merging_down
unfolding inner_down is_short_name
keeps_rules_down = record {
  seed = good_seed;
  next = omega arith;
  inner = omega arith;
  few_media = omega arith;
  few_machines = omega arith;
  few_snapshots = omega arith;
  few_places = omega arith;
  few_mergings = omega arith;
  media_rise = (tt, tt);
  media = ((unfold is_medium_name in refl), tt);
  inners = (omega arith, refl, tt);
  machines_rise = (tt, tt);
  machines = (
    record {
      name = refl;
      tree = record { names = tt; parents = tt; depth = λ name. 0; below = tt; root = omega arith; there = tt; none = refl };
      slots = record {
        valid = slots_of_one merging_down false (Own 0) (record { medium = disk; there = refl; held = refl; own = refl; autoreset = λ e. absurd cc });
        stacked = (refl, tt);
        inherits = tt;
      };
      snapshots = tt;
    },
    tt,
  );
  making = tt;
  held = (refl, tt);
  based = ((λ normal based. record { nowhere = refl; once = refl }), tt);
  merging = (record { parent = refl; normal = refl; only = refl; held = refl; once = refl }, tt);
  drawn = (omega arith, tt);
}

-- It stands for the end: the slot shares the medium's disk, which is that of the image, and the modification identifier is the drawn one.
slot_at_end : (files : Files)
    → slot_in merging_down files (slot_holding (Own 0)) ≡ (record { port = 0; medium = disk_name; autoreset = false; own = None })
slot_at_end files = refl

disk_at_end : (files : Files) → (medium_in (λ name. false) merging_down files disk).flat ≡ Some (disk_by merging_down files (OfInner 0))
unfolding medium_in
disk_at_end files = refl

identifier_at_end : (files : Files) → (medium_in (λ name. false) merging_down files disk).modify ≡ identifier_of zero_seed Modify 2
unfolding medium_in
identifier_at_end files = refl
