use Rattle.link_uri.specs.Links.{AreLinks}
use Rattle.alone_rows.proofs.webs.links.Given as goal

abbrev pub invariant-loop-text : goal.invariant-loop-text
invariant-loop-text l = AreLinks l.links.items
