use Rattle.std.proofs.Common.{◌∙◌, ap, sym}
use Rattle.std.specs.Option.{option_copied}
use Rattle.site_core.proofs.LinkGrowth.{link_told, word_goes}
use Rattle.site_core.proofs.viable.link_line_is_viable.Goals as goal

pub returns-then-begins : goal.returns-then-begins
returns-then-begins c = word_goes c.args.entries.now c.args.part.now c.requires.site (sym c.begins.ensures ∙ c.if-begins.true)

pub returns-in-Some : goal.returns-in-Some
returns-in-Some c =
    link_told c.link_grows.result c.args.entries.now c.args.part.now c.in-Some.text.now c.requires.site (sym c.behind.ensures ∙ ap option_copied c.in-Some.is) c.link_grows.ensures
