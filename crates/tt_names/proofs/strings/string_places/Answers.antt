use Rattle.std.proofs.Common.{◌≡◌, ◌≤◌, ◌<◌, ◌∙◌, ◌++◌, ◌∷◌, [], length, sym, subst, ap, arith}
use Rattle.tt_names.specs.Post.{string_end, string_place}
use Rattle.tt_names.specs.Representation.StringPlaces.{ListsPlaces}
use Rattle.std.proofs.Math.ListN.{length-append}
use Rattle.tt_names.proofs.StringLemmas.{first_place, list_ends, next_place, none_yet, one_more}
use Rattle.tt_names.proofs.strings.string_places.Goals as goal

pub loop-init : goal.loop-init
loop-init c =
    let none = ap length c.new-places.ensures.items in
    record {
      listed = none_yet c.args.post.now c.new-places.result.items none;
      counted = none;
      at = c.strings_start-place.ensures.start ∙ first_place c.args.post.now;
    }

pub returns-in_default-clause-all : goal.returns-in_default-clause-all
returns-in_default-clause-all c =
    let at : c.loop.place ≡ string_place c.args.post.now (length c.loop.places.items) =
    c.loop.invariant.at ∙ ap (string_place c.args.post.now) (sym c.loop.invariant.counted) in
    list_ends c.args.post.now c.loop.places.items
    (subst (λ place. length c.args.post.now < string_end c.args.post.now place) at c.in_default.ensures.none)

pub loop-preserved : goal.loop-preserved
loop-preserved c =
    let at : c.loop.place ≡ string_place c.args.post.now (length c.loop.places.items) =
    c.loop.invariant.at ∙ ap (string_place c.args.post.now) (sym c.loop.invariant.counted) in
    let there : c.in-Some.end ≡ string_end c.args.post.now c.loop.place = c.in-Some.ensures.there in
    let within = c.in-Some.ensures.within in
    let whole : string_end c.args.post.now c.loop.place ≤ length c.args.post.now = omega arith in
    let pushed : c.push.new.self.items ≡ c.loop.places.items ++ c.loop.place ∷ [] = c.in_ok-push.ensures.items in
    let len = length-append c.loop.places.items (c.loop.place ∷ []) in
    let counted = c.loop.invariant.counted in
    record {
      listed = subst (ListsPlaces c.args.post.now) (sym pushed)
          (one_more c.args.post.now c.loop.places.items c.loop.place c.loop.invariant.listed at whole);
      counted = let same = ap length pushed in omega arith;
      at = there ∙ next_place c.args.post.now c.loop.place c.loop.counter c.loop.invariant.at;
    }
