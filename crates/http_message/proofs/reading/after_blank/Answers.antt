use Rattle.std.proofs.Common.{[], ◌∷◌, ◌++◌, ap, ◌∙◌}
use Rattle.http_message.specs.Lines.{held}
use Rattle.http_message.proofs.ReadingLemmas.{blank_over, blank_head}
use Rattle.http_message.proofs.reading.after_blank.Goals as goal

pub returns-then-seen-ge-HEAD_LIMIT-clause-next : goal.returns-then-seen-ge-HEAD_LIMIT-clause-next
returns-then-seen-ge-HEAD_LIMIT-clause-next c = λ fed has.
    blank_over c.args.limit c.args.cr c.args.seen c.args.b fed c.malformed.result c.if-seen-ge-HEAD_LIMIT.true c.requires.seen c.malformed.ensures.limit c.malformed.ensures.next has

pub returns-in_ok-start_head-in-None-clause-next : goal.returns-in_ok-start_head-in-None-clause-next
returns-in_ok-start_head-in-None-clause-next c = λ fed has.
    blank_head c.args.cr c.args.seen c.args.b c.start_head.new.head.items fed
    (c.in_ok-start_head-in-None.ensures.ok ∙ ap (λ xs. xs ++ (held c.args.cr ++ c.args.b ∷ [])) c.requires.head)
    c.in-None.ensures.head has
