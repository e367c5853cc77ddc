use Rattle.std.proofs.Common.{◌∙◌, ap}
use Rattle.link_uri.specs.declared.heard.Heard.TheVariants.{Reply}
use Rattle.web_port.proofs.SiteWebLemmas.{heard_some, heard_none}
use Rattle.web_port.proofs.site_links.site_answer.Goals as goal

pub returns-in_ok-copy-in-Some : goal.returns-in_ok-copy-in-Some
returns-in_ok-copy-in-Some c = ap Reply c.in_ok-copy-in-Some.ensures ∙ heard_some c.args.site.now c.args.link.now _ c.in-Some.ensures

pub returns-in-None : goal.returns-in-None
returns-in-None c = ap Reply c.not_found.ensures ∙ heard_none c.args.site.now c.args.link.now c.in-None.ensures
