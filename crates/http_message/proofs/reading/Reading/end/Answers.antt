use Rattle.std.proofs.Common.{◌≡◌, subst, sym, ◌∙◌}
use Rattle.std.specs.Prelude.{None}
use Rattle.http_message.specs.declared.reading.Phase.TheVariants as phase
use Rattle.http_message.specs.Views.{ReadingState, HasRead}
use Rattle.http_message.specs.Body.{undecided}
use Rattle.http_message.specs.Reading.{Reads}
use Rattle.http_message.proofs.ReadingLemmas.{ends_outside}
use Rattle.http_message.proofs.reading.Reading.end.Goals as goal

pub returns-in-Blank-clause-ends : goal.returns-in-Blank-clause-ends
returns-in-Blank-clause-ends c = λ fed has.
    let now : ReadingState = record { limit = c.self.inside.limit; seen = c.self.inside.seen; phase = c.self.inside.phase; head = c.self.inside.head.items } in
    let read : HasRead now fed = subst (λ (s : ReadingState). HasRead s fed) (sym c.self.view_is) has in
    subst (λ (s : ReadingState). Reads s.limit fed (undecided None)) c.self.view_is
    (ends_outside now fed c.self.invariant (λ body e. let q : phase.Blank c.in-Blank.field-0 ≡ phase.Body body = sym c.in-Blank.is ∙ e in cc) read)

pub returns-in-Head-clause-ends : goal.returns-in-Head-clause-ends
returns-in-Head-clause-ends c = λ fed has.
    let now : ReadingState = record { limit = c.self.inside.limit; seen = c.self.inside.seen; phase = c.self.inside.phase; head = c.self.inside.head.items } in
    let read : HasRead now fed = subst (λ (s : ReadingState). HasRead s fed) (sym c.self.view_is) has in
    subst (λ (s : ReadingState). Reads s.limit fed (undecided None)) c.self.view_is
    (ends_outside now fed c.self.invariant (λ body e. let q : phase.Head c.in-Head.field-0 ≡ phase.Body body = sym c.in-Head.is ∙ e in cc) read)
