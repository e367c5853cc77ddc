use Rattle.std.proofs.Common.{◌≡◌, sym}
use Rattle.link_uri.specs.Links.{link_of}
use Rattle.site_core.specs.Serving.{link_of_bytes}
use Rattle.site_core.proofs.LinksOfBytes.{link_of_text, link_of_others}
use Rattle.site_core.proofs.request.link_of_bytes.Goals as goal

pub returns-in-Ok : goal.returns-in-Ok
returns-in-Ok c =
    let e : link_of_bytes c.args.bytes.now ≡ link_of c.args.bytes.now = link_of_text c.args.bytes.now c.in-Ok.ensures.cases.1 in
    rw (e, ← c.in-Ok.ensures.cases.0) c.link_of.ensures.value

pub returns-in-Err : goal.returns-in-Err
returns-in-Err c = sym (link_of_others c.args.bytes.now c.in-Err.ensures.cases.0)
