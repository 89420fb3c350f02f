-- What is left to show of `dot_with`.
use Rattle.std.proofs.lemmas.Slice.Zip.{Zip-more, either_empty_from_Zip}
use Rattle.reed_solomon_decoder.proofs.Turns.{dot_turn, dot_end}
use Rattle.reed_solomon_decoder.proofs.elimination.dot_with.Goals as goal

pub loop-c-preserved : goal.loop-c-preserved
loop-c-preserved c =
    let more = Zip-more c.loop-c.c-iterator c.next.new.self c.next.result (c.in-Some.c, c.in-Some.b) c.in-Some.is c.next.ensures.steps in
    dot_turn _ _ _ _ _ _ _ _ _ more.0 more.1 c.product-sum.ensures.value c.loop-c.invariant

pub returns : goal.returns
returns c = dot_end _ _ _ _ (either_empty_from_Zip c.loop-c.c-iterator c.next.new.self c.next.result c.in-None.is c.next.ensures.steps) c.loop-c.invariant
