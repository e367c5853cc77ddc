use Rattle.std.proofs.Common.{◌≡◌, ◌≤◌, ◌<◌, ◌+◌, ◌++◌, List, ℕ, arith, take, length, subst}
use Rattle.std.proofs.lemmas.List.{length-take-le}
use Rattle.http_message.specs.Views.{IsAfterHead, HasReadAt}
use Rattle.http_message.proofs.ReadingLemmas.{head_over, head_sound, head_after}
use Rattle.http_message.proofs.BodyLemmas.{take_take}
use Rattle.http_message.proofs.reading.after_piece.Goals as goal

pub returns-then-seen-ge-HEAD_LIMIT-clause-next : goal.returns-then-seen-ge-HEAD_LIMIT-clause-next
returns-then-seen-ge-HEAD_LIMIT-clause-next c = λ fed has.
    let one : 0 < length (take 1 c.args.piece.now) = omega (arith, length-take-le 1 c.args.piece.now c.requires.some) in
    head_over c.args.limit c.args.seen c.args.place c.args.head.now.items fed (take 1 c.args.piece.now) c.malformed.result c.if-seen-ge-HEAD_LIMIT.true one c.malformed.ensures.limit c.malformed.ensures.next c.requires.sound has

pub returns-in_ok-extend_from_slice-in-At-clause-sound : goal.returns-in_ok-extend_from_slice-in-At-clause-sound
returns-in_ok-extend_from_slice-in-At-clause-sound c =
    let most = c.min-most.result in
    let within : most ≤ length c.args.piece.now = omega arith in
    let fits : c.args.seen + most ≤ 65536 = omega arith in
    rw c.in_ok-extend_from_slice-in-At.ensures.items
    (head_sound c.args.place c.in-At.next c.args.seen most c.args.head.now.items (take most c.args.piece.now) (length-take-le most c.args.piece.now within) fits c.requires.sound c.in-At.ensures.0 c.in-At.ensures.1)

pub returns-in-Ok-clause-next : goal.returns-in-Ok-clause-next
returns-in-Ok-clause-next c = λ fed has.
    let most = c.min-most.result in
    let n = c.in-End.n in
    let part : List ℕ = take most c.args.piece.now in
    let within : most ≤ length c.args.piece.now = omega arith in
    let long : length part ≡ most = length-take-le most c.args.piece.now within in
    let less : n ≤ most = omega (arith, c.in-End.ensures.2, long) in
    let fits : c.args.seen + n ≤ 65536 = omega arith in
    let same : take n part ≡ take n c.args.piece.now = take_take n most c.args.piece.now within less in
    let after : IsAfterHead c.args.limit (c.args.head.now.items ++ take n part) c.in-Ok.next c.after_end.new.head.items =
    subst (λ h. IsAfterHead c.args.limit h c.in-Ok.next c.after_end.new.head.items) c.in_ok-extend_from_slice-in-End.ensures.items c.in-Ok.ensures.ok in
    subst (λ xs. HasReadAt c.in-Ok.next c.args.limit (c.args.seen + n) c.after_end.new.head.items (fed ++ xs)) same
    (head_after c.args.limit c.args.place c.args.seen n c.args.head.now.items part fed c.after_end.new.head.items c.in-Ok.next fits c.requires.sound c.in-End.ensures.0 after has)
