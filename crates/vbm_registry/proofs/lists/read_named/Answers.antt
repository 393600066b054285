use Rattle.std.proofs.Common.{◌≡◌, ◌∙◌, ap, subst, List, [], ◌∷◌, ◌++◌, Ok, arith}
use Rattle.std.proofs.lemmas.List.{length-append}
use Rattle.std.proofs.lemmas.Result.{err_from_is_err_and}
use Rattle.vbm_registry.specs.Parts.{FilePart, items, read_items}
use Rattle.vbm_registry.specs.Given.{Stops}
use Rattle.vbm_registry.proofs.ListLoops.{goes_on, stops_too, is_done}
use Rattle.vbm_registry.proofs.lists.read_named.Goals as goal

pub returns-in_err-item-clause-gives : goal.returns-in_err-item-clause-gives
unfolding items
returns-in_err-item-clause-gives g c =
    let item = g.R.Reader.item in
    let p = err_from_is_err_and c.from_residual.result c.from_residual.ensures.1 in
    let is : item c.loop.reader c.as_slice.result.now ≡ item c.args.reader.now c.loop.list =
    ap (item c.loop.reader) c.as_slice.ensures ∙ ap (λ f. f c.loop.list) c.loop.invariant.same in
    let all = read_items (item c.args.reader.now) c.args.count [] c.args.fields.now in
    let stop = c.in_err-item.field-0.0 in
    let gives = subst (λ (part : FilePart g.row.R-Item.Denot). Stops stop (part.read c.loop.fields)) is c.in_err-item.ensures.gives in
    rw (p.1, p.2) (stops_too (item c.args.reader.now) c.loop.list c.args.count c.loop.counter c.loop.fields all
    stop c.loop-test.true gives c.loop.invariant.so_far)

pub loop-preserved : goal.loop-preserved
loop-preserved g c =
    let item = g.R.Reader.item in
    let is : item c.loop.reader c.as_slice.result.now ≡ item c.args.reader.now c.loop.list =
    ap (item c.loop.reader) c.as_slice.ensures ∙ ap (λ f. f c.loop.list) c.loop.invariant.same in
    let x = c.in_ok-item.item in
    let rest = c.next.new.fields in
    let all = read_items (item c.args.reader.now) c.args.count [] c.args.fields.now in
    let gives = subst (λ (part : FilePart g.row.R-Item.Denot). part.read c.loop.fields ≡ Ok (x, rest)) is c.in_ok-item.ensures.gives in
    rw c.in_ok-push.ensures.ok (record {
      so_far = goes_on (item c.args.reader.now) c.loop.list c.args.count c.loop.counter c.loop.fields all
          x rest c.loop-test.true gives c.loop.invariant.so_far;
      same = c.in_ok-item.ensures.same ∙ c.loop.invariant.same;
      count = omega (arith, length-append c.loop.list (x ∷ []), c.loop.invariant.count);
      fixed = c.in_ok-item.ensures.fixed ∙ c.loop.invariant.fixed;
      follows = subst (λ (xs : List g.row.R-Item.Denot). g.R.Reader.follows c.next.new.self (xs ++ x ∷ []))
          c.as_slice.ensures c.in_ok-item.ensures.follows;
    })

pub returns-clause-gives : goal.returns-clause-gives
unfolding items
returns-clause-gives g c = is_done (g.R.Reader.item c.args.reader.now) c.loop.list c.args.count c.loop.counter c.loop.fields
    (read_items (g.R.Reader.item c.args.reader.now) c.args.count [] c.args.fields.now) c.loop-test.false c.loop.invariant.so_far

pub push-requires : goal.push-requires
push-requires g c = c.requires.apart c.loop.list c.in_ok-item.item
    (subst (λ (xs : List g.row.R-Item.Denot). g.R.Reader.apart xs c.in_ok-item.item) c.as_slice.ensures c.in_ok-item.ensures.apart)
