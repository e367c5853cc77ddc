use Rattle.std.proofs.Common.{◌≡◌, ◌++◌, subst, sym, ap, ◌∙◌, refl}
use Rattle.http_message.specs.declared.reading.Phase.TheVariants as phase
use Rattle.http_message.specs.Views.{ReadingState, HasRead, HasReadAt}
use Rattle.http_message.proofs.ReadingLemmas.{gives_outside, gives_body}
use Rattle.http_message.proofs.reading.Reading.feed.Goals as goal

pub returns-in-Blank-clause-gives : goal.returns-in-Blank-clause-gives
returns-in-Blank-clause-gives c = λ fed has.
    let bytes = fed ++ c.args.piece.now in
    let now : ReadingState = record { limit = c.self.inside.limit; seen = c.self.inside.seen; phase = c.self.inside.phase; head = c.self.inside.head.items } in
    let same = ap (λ (s : ReadingState). s.limit) c.self.view_is ∙ c.in_ok-read_whole.ensures.limit in
    let read : HasRead now bytes = subst (λ (s : ReadingState). HasRead s bytes) (sym c.self.view_is) (c.in_ok-read_whole.ensures.next fed has) in
    gives_outside c.args.self.now.limit now bytes same c.self.invariant (λ body e. let q : phase.Blank c.in-Blank.field-0 ≡ phase.Body body = sym c.in-Blank.is ∙ e in cc) read

pub returns-in-Head-clause-gives : goal.returns-in-Head-clause-gives
returns-in-Head-clause-gives c = λ fed has.
    let bytes = fed ++ c.args.piece.now in
    let now : ReadingState = record { limit = c.self.inside.limit; seen = c.self.inside.seen; phase = c.self.inside.phase; head = c.self.inside.head.items } in
    let same = ap (λ (s : ReadingState). s.limit) c.self.view_is ∙ c.in_ok-read_whole.ensures.limit in
    let read : HasRead now bytes = subst (λ (s : ReadingState). HasRead s bytes) (sym c.self.view_is) (c.in_ok-read_whole.ensures.next fed has) in
    gives_outside c.args.self.now.limit now bytes same c.self.invariant (λ body e. let q : phase.Head c.in-Head.field-0 ≡ phase.Body body = sym c.in-Head.is ∙ e in cc) read

pub returns-in-None-clause-gives : goal.returns-in-None-clause-gives
returns-in-None-clause-gives c = λ fed has.
    let bytes = fed ++ c.args.piece.now in
    let now : ReadingState = record { limit = c.self.inside.limit; seen = c.self.inside.seen; phase = c.self.inside.phase; head = c.self.inside.head.items } in
    let new : ReadingState = record { limit = c.self.inside.limit; seen = c.self.inside.seen; phase = phase.Body c.in-Body.body; head = c.self.inside.head.items } in
    let same = ap (λ (s : ReadingState). s.limit) c.self.view_is ∙ c.in_ok-read_whole.ensures.limit in
    let read : HasRead now bytes = subst (λ (s : ReadingState). HasRead s bytes) (sym c.self.view_is) (c.in_ok-read_whole.ensures.next fed has) in
    let here : HasRead new bytes = subst (λ p. HasReadAt p c.self.inside.limit c.self.inside.seen c.self.inside.head.items bytes) c.in-Body.is read in
    gives_body c.args.self.now.limit new bytes c.in-Body.body c.in-None.ensures.no.0 same refl c.in-None.ensures.stage c.in-None.ensures.no.1 here
