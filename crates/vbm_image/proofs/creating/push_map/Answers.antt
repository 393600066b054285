use Rattle.std.proofs.Common.{length, ap, ◌∙◌, arith}
use Rattle.vbm_intent.specs.Plan.{body_size}
use Rattle.vbm_ports.proofs.NameLemmas.{store_name_short}
use Rattle.vbm_volume.proofs.NewHeaders.{length-header_bytes}
use Rattle.vbm_image.proofs.SettlingPlans.{body_size-append}
use Rattle.vbm_image.proofs.creating.push_map.Goals as goal

pub push_write-requires-clause-small : goal.push_write-requires-clause-small
push_write-requires-clause-small c =
    let start = ap length c.write_header.ensures.written ∙ length-header_bytes c.args.header.now in
    omega (arith, c.requires.small, store_name_short c.args.name.now c.requires.name, start)

pub push_write-requires-clause-room : goal.push_write-requires-clause-room
push_write-requires-clause-room c =
    let start = ap length c.write_header.ensures.written ∙ length-header_bytes c.args.header.now in
    omega (arith, c.requires.room, store_name_short c.args.name.now c.requires.name, start)

pub push_fill-requires-clause-small : goal.push_fill-requires-clause-small
push_fill-requires-clause-small c =
    let start = ap length c.write_header.ensures.written ∙ length-header_bytes c.args.header.now in
    let first = ap body_size c.push_write.ensures.changes ∙ body_size-append c.args.plan.now.changes _ in
    omega (arith, c.requires.small, store_name_short c.args.name.now c.requires.name, start, first)

pub push_fill-requires-clause-room : goal.push_fill-requires-clause-room
push_fill-requires-clause-room c =
    let start = ap length c.write_header.ensures.written ∙ length-header_bytes c.args.header.now in
    omega (arith, c.requires.room, store_name_short c.args.name.now c.requires.name, start, c.push_write.ensures.spare)

pub push_fill-requires-2-clause-small : goal.push_fill-requires-2-clause-small
push_fill-requires-2-clause-small c =
    let start = ap length c.write_header.ensures.written ∙ length-header_bytes c.args.header.now in
    let first = ap body_size c.push_write.ensures.changes ∙ body_size-append c.args.plan.now.changes _ in
    let second = ap body_size c.push_fill.ensures.changes ∙ body_size-append c.push_write.new.self.changes _ in
    omega (arith, c.requires.small, store_name_short c.args.name.now c.requires.name, start, first, second)

pub push_fill-requires-2-clause-room : goal.push_fill-requires-2-clause-room
push_fill-requires-2-clause-room c =
    let start = ap length c.write_header.ensures.written ∙ length-header_bytes c.args.header.now in
    omega (arith, c.requires.room, store_name_short c.args.name.now c.requires.name, start, c.push_write.ensures.spare, c.push_fill.ensures.spare)

pub returns-clause-size : goal.returns-clause-size
returns-clause-size c =
    let start = ap length c.write_header.ensures.written ∙ length-header_bytes c.args.header.now in
    let first = ap body_size c.push_write.ensures.changes ∙ body_size-append c.args.plan.now.changes _ in
    let second = ap body_size c.push_fill.ensures.changes ∙ body_size-append c.push_write.new.self.changes _ in
    let third = ap body_size c.push_fill-2.ensures.changes ∙ body_size-append c.push_fill.new.self.changes _ in
    omega (arith, store_name_short c.args.name.now c.requires.name, start, first, second, third)

pub returns-clause-spare : goal.returns-clause-spare
returns-clause-spare c =
    let start = ap length c.write_header.ensures.written ∙ length-header_bytes c.args.header.now in
    omega (
      arith,
      store_name_short c.args.name.now c.requires.name,
      start,
      c.push_write.ensures.spare,
      c.push_fill.ensures.spare,
      c.push_fill-2.ensures.spare,
    )
