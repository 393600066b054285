use Rattle.std.proofs.Common.{[], ap, ◌∙◌, arith}
use Rattle.vbm_header.specs.Header.{unless}
use Rattle.vbm_header.proofs.Headers.{accepted}
use Rattle.vbm_volume.specs.declared.tally.Limits.{Limits}
use Rattle.vbm_volume.proofs.TallyLemmas.{image_of-tally}
use Rattle.vbm_volume.proofs.map.read_map.Goals as goal

pub returns-in-None-clause-exact : goal.returns-in-None-clause-exact
returns-in-None-clause-exact g c = λ told f is.
    let has = c.requires.told told f is in
    let facts = accepted f c.args.file_len c.args.header.now has.is in
    let tally = c.in_ok-word.ensures.tally told f [] is (omega (arith, facts.map_end, has.size)) c.in_ok-tally.ensures.none in
    image_of-tally f c.args.header.now c.args.file_len c.scan.new.tally c.fault.result has tally
    (ap (λ (l : Limits). l.allocated) c.scan.ensures.limits ∙ c.in_ok-tally.ensures.allocated)
    (ap (λ (l : Limits). l.off_data) c.scan.ensures.limits ∙ c.in_ok-tally.ensures.off_data)
    (ap (λ (l : Limits). l.file_len) c.scan.ensures.limits ∙ c.in_ok-tally.ensures.file_len)
    c.fault.ensures
    ∙ ap (λ fault. unless fault c.args.header.now) c.in-None.is

pub returns-in-None-clause-word : goal.returns-in-None-clause-word
returns-in-None-clause-word g c = λ told f is inside.
    let has = c.requires.told told f is in
    let facts = accepted f c.args.file_len c.args.header.now has.is in
    c.in_ok-word.ensures.word told f is (omega (arith, facts.map_end, has.size)) inside

pub returns-clause-exact : goal.returns-clause-exact
returns-clause-exact g c = λ told f is.
    let has = c.requires.told told f is in
    let facts = accepted f c.args.file_len c.args.header.now has.is in
    let tally = c.in_ok-word.ensures.tally told f [] is (omega (arith, facts.map_end, has.size)) c.in_ok-tally.ensures.none in
    image_of-tally f c.args.header.now c.args.file_len c.scan.new.tally c.fault.result has tally
    (ap (λ (l : Limits). l.allocated) c.scan.ensures.limits ∙ c.in_ok-tally.ensures.allocated)
    (ap (λ (l : Limits). l.off_data) c.scan.ensures.limits ∙ c.in_ok-tally.ensures.off_data)
    (ap (λ (l : Limits). l.file_len) c.scan.ensures.limits ∙ c.in_ok-tally.ensures.file_len)
    c.fault.ensures
    ∙ ap (λ fault. unless fault c.args.header.now) c.in-Some.is
