use Rattle.std.proofs.Common.{◌≡◌, Some, take, map}
use Rattle.link_uri.specs.Links.{AreLinks}
use Rattle.command_words.specs.Values.{links_of}
use Rattle.command_words.proofs.seeds.links_of.Given as goal

abbrev pub invariant-loop-text : goal.invariant-loop-text
invariant-loop-text l = (links_of (map (λ t. t.now) (take l.text-index l.texts)) ≡ Some l.links) × AreLinks l.links
