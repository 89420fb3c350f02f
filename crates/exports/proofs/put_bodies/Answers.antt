-- The place for bodies begins with those of the first words.
use Rattle.std.proofs.Common.{◌≡◌, ℕ, ◌<◌, List, length, ap, ◌∙◌, arith, length-take-le, rules, slice_index, slice_index_or}
use Rattle.std.proofs.lemmas.List.{get_or_append_left, get_or-take}
use Rattle.words.specs.Raw.{body}
use Rattle.words.specs.Words.{raw}
use Rattle.words.specs.declared.word.Word.TheVariants.{Data}
use Rattle.exports.proofs.put_bodies.Goals as goal

pub returns : goal.returns
returns c k h l =
    let is : slice_index c.map-all.result k ≡ body (raw (slice_index_or c.args.words.now k (Data 0))) = let w = c.map-all.ensures.items.at k (Data 0) 0 l in search rules in
    let part = c.copy_from_slice.ensures in
    let room : k < c.min-room.result = omega arith in
    let long : length c.copy_from_slice.new.self ≡ c.min-room.result = part.len ∙ length-take-le c.min-room.result c.args.bodies.now (omega arith) in
    get_or_append_left c.copy_from_slice.new.self _ 0 k (omega arith)
    ∙ ap (λ (xs : List ℕ). slice_index xs k) part.after ∙ get_or-take c.min-room.result c.map-all.result k 0 room ∙ is
