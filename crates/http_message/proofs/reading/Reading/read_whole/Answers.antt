use Rattle.std.proofs.Common.{length, subst, refl}
use Rattle.http_message.specs.Views.{IsSound}
use Rattle.http_message.proofs.ReadingLemmas.{head_sound}
use Rattle.http_message.proofs.reading.Reading.read_whole.Goals as goal

pub invariant_of-self-in-Some : goal.invariant_of-self-in-Some
invariant_of-self-in-Some c =
    let sound = subst (λ p. IsSound p c.self.inside.seen c.self.inside.head.items) c.in-Head.is c.self.invariant in
    rw c.in_ok-extend_from_slice-in-Head.ensures.items
    (head_sound c.in-Head.place c.in-Some.next c.self.inside.seen (length c.args.piece.now) c.self.inside.head.items c.args.piece.now refl
    c.in-Some.ensures.fits sound c.in-Some.ensures.none c.in-Some.ensures.place)
