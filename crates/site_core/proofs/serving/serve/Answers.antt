use Rattle.std.proofs.Common.{◌≡◌, Some, ◌∙◌, ap, map, refl}
use Rattle.std.specs.Option.{option_copied}
use Rattle.httparse.specs.Spans.{name_and_value}
use Rattle.site_core.specs.Serving.{served, answer_to, only, hosts}
use Rattle.site_core.proofs.ServedLemmas.{served_by}
use Rattle.site_core.proofs.serving.serve.Goals as goal

pub returns-in-Some : goal.returns-in-Some
returns-in-Some c =
    let k = c.in-Some.ensures.known in
    let site = c.args.site.now in
    let host : option_copied c.only_host.result ≡ only (hosts (map name_and_value k.0.fields)) = c.only_host.ensures ∙ ap (λ fs. only (hosts fs)) k.4.fields in
    let method : c.of.result.now ≡ k.0.method = c.of.ensures ∙ k.4.method in
    let target : c.of-in-Some.result.now ≡ k.0.target = c.of-in-Some.ensures ∙ k.4.path in
    let whole : answer_to site c.of.result.now c.of-in-Some.result.now (option_copied c.only_host.result) ≡ served site (Some k.0) = rw (host, method, target) refl in
    served_by site c.args.request.now k.0 k.1 c.answer_to.result k.2 k.3 (rw (← whole) c.answer_to.ensures)
