use Rattle.std.proofs.Common.{rules, ◌≡◌, [], ◌∷◌, ◌++◌}
use Rattle.link_uri.specs.Links.{IsLink}
use Rattle.alone_rows.proofs.Seeds.{own_push}
use Rattle.alone_rows.proofs.webs.push_link.Goals as goal

pub returns : goal.returns
returns c =
    let pushed : c.push.new.self.items ≡ c.args.links.now.items ++ c.in-Some.link ∷ [] = search rules in
    let one : IsLink c.in-Some.link = rw c.in-Some.is at c.in_ok-link.ensures.valid_links in
    own_push _ _ _ pushed c.requires one
