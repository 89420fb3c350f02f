-- What the turns of reading leave at the front of a place.
use Rattle.std.proofs.Common.{◌≡◌, ◌≤◌, ◌+◌, ◌++◌, ℕ, List, [], length, take, Option, Some, None, IfSome, sym, ap, ◌∙◌, subst, take_all, append-nil, length-take-le}
use Rattle.std.proofs.Math.Seq.{take-append-add, take-append_seam}
use Rattle.std.proofs.lemmas.List.{take-append-le}
use Rattle.std.specs.Io.KnownBytes.{Consumes, IsAtEnd}
use Rattle.std.proofs.KnownBytes.{Consumes-trans, Consumes-whole}
use borrow.Rule.Slice.PartMut.{put_mid, post_of, take_put}

-- what one more read gave lies behind what was there
pub joined : (filled room n : ℕ) (old got : List ℕ) → filled ≤ length old → n ≤ length got → take (filled + n) (put_mid filled room old got) ≡ take filled old ++ take n got
joined filled room n old got within fits =
    let after = post_of filled room old in
    ap (λ k. take (k + n) (put_mid filled room old got)) (sym (length-take-le filled old within)) ∙ take-append-add (take filled old) (got ++ after) n
    ∙ ap (λ l. take filled old ++ l) (take-append-le n got after fits)

-- two reads in turn took of the input what lies at the front of the place
pub more : (input before after : Option (List ℕ)) (filled room n : ℕ) (old got : List ℕ) → filled ≤ length old → n ≤ length got
    → Consumes input before (take filled old) → Consumes before after (take n got) → Consumes input after (take (filled + n) (put_mid filled room old got))
more input before after filled room n old got within fits first next =
    subst (Consumes input after) (sym (joined filled room n old got within fits)) (Consumes-trans input before after (take filled old) (take n got) first next)

-- a text as long as the place is the front of the input
pub full : (input rest : Option (List ℕ)) (text : List ℕ) → Consumes input rest text → length text ≡ 1531 → IfSome input (λ bytes. text ≡ take 1531 bytes)
full None rest text taken long = tt
full (Some bytes) None text taken long = absurd taken
full (Some bytes) (Some left) text taken long = sym (ap (take 1531) taken ∙ ap (λ k. take k (text ++ left)) (sym long) ∙ take-append_seam text left)

-- a text behind which a read met the end is the whole input
pub last : (input before after : Option (List ℕ)) (filled room n : ℕ) (old got : List ℕ) → filled ≤ 1531 → filled ≤ length old → n ≡ 0
    → Consumes input before (take filled old) → Consumes before after (take n got) → IsAtEnd after → IfSome input (λ bytes. take filled (put_mid filled room old got) ≡ take 1531 bytes)
last input before after filled room n old got few within none first next end =
    let text = take filled old in
    let taken = subst (Consumes input after) (append-nil text) (Consumes-trans input before after text [] first (subst (λ k. Consumes before after (take k got)) none next)) in
    let short : length text ≤ 1531 = subst (λ k. k ≤ 1531) (sym (length-take-le filled old within)) few in
    let is_text : List ℕ → Type 0 = λ bytes. take filled (put_mid filled room old got) ≡ take 1531 bytes in
    Consumes-whole input after text is_text taken end (take_put filled room old got within ∙ sym (take_all 1531 text short))
