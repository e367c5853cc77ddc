use Rattle.std.proofs.Common.{◌≡◌, sym, subst}
use Rattle.answer_core.specs.Task.{OverGenerated, Asks, IsTaskOf, generated_settings}
use Rattle.answer_core.specs.Headline.{IsWebOfSite, IsWebOfGenerated, WebRead}
use Rattle.answer_core.specs.Running.{BeforeReport}
use Rattle.answer_core.proofs.Evidence.{evidence_as, shows_of}
use Rattle.answer_core.proofs.Reading.{generated_read}
use Rattle.answer_core.proofs.answering.answer_generated.Goals as goal

pub returns-in-Ok-make_site : goal.returns-in-Ok-make_site
returns-in-Ok-make_site g c =
    let n = c.args.n in
    let a = generated_settings c.args.workers in
    let s = c.in-Ok.settings in
    let site = c.in-Ok-make_site.site in
    let end = c.answer_query.result in
    let same : s ≡ a = c.in-Ok.ensures.value in
    evidence_as (shows_of g.S.Sink.content g.S.Sink.faults) (IsTaskOf s) (Asks (OverGenerated n a)) (BeforeReport (WebRead s (IsWebOfSite site))) (BeforeReport (WebRead a (IsWebOfGenerated n))) end.trace c.args.out end.out end.status
    (λ d is. subst (λ z. IsTaskOf z d) (sym same) is) (λ m x. generated_read a n site end.status end.trace c.in-Ok-make_site.ensures.value (subst (λ z. BeforeReport (WebRead z (IsWebOfSite site)) end.status end.trace) same x)) c.answer_query.ensures
