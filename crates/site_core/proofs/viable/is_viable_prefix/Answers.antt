use Rattle.std.proofs.Common.{◌∙◌, Bool, subst, sym}
use Rattle.std.specs.Prelude.{IfOk, MatchBool}
use Rattle.site_core.specs.declared.expected.Expected.{Expected}
use Rattle.site_core.specs.declared.expected.Expected.TheVariants.{First, Headed, Named}
use Rattle.site_core.specs.Growth.{CanGrow, CannotGrow}
use Rattle.site_core.proofs.Growing.{Tells, end_grows, field_tells, first_tells, status_tells}
use Rattle.site_core.proofs.viable.is_viable_prefix.Goals as goal

pub returns-in-First : goal.returns-in-First
returns-in-First c =
    let P : Bool → Type 0 = Tells c.args.entries.now First c.args.part.now in
    let Q : Expected → Type 0 = λ s. Tells c.args.entries.now s c.args.part.now c.begins.result in
    subst Q (sym c.in-First.is) (subst P (sym c.begins.ensures) (first_tells c.args.entries.now c.args.part.now))

pub returns-then-begins : goal.returns-then-begins
returns-then-begins c =
    let Q : Expected → Type 0 = λ s. CanGrow c.args.entries.now s c.args.part.now in
    subst Q (sym c.in-Between.is) (end_grows c.args.entries.now c.args.part.now (sym c.begins-in-Between.ensures ∙ c.if-begins.true))

pub returns-in-Named : goal.returns-in-Named
returns-in-Named c =
    let P : Bool → Type 0 = Tells c.args.entries.now (Named c.in-Named.field-0) c.args.part.now in
    let Q : Expected → Type 0 = λ s. Tells c.args.entries.now s c.args.part.now c.status_line_grows.result in
    subst Q (sym c.in-Named.is) (subst P (sym c.status_line_grows.ensures) (status_tells c.args.entries.now c.in-Named.field-0 c.args.part.now))

pub returns-in-Headed : goal.returns-in-Headed
returns-in-Headed c =
    let P : Bool → Type 0 = Tells c.args.entries.now (Headed c.in-Headed.field-0 c.in-Headed.reply) c.args.part.now in
    let Q : Expected → Type 0 = λ s. Tells c.args.entries.now s c.args.part.now c.field_grows.result in
    subst Q (sym c.in-Headed.is) (subst P (sym c.field_grows.ensures) (field_tells c.args.entries.now c.in-Headed.field-0 c.args.part.now c.in-Headed.reply))

pub returns-else-begins : goal.returns-else-begins
returns-else-begins c =
    let P : Expected → Type 0 = λ s. IfOk c.link_line_is_viable.result (λ grows. MatchBool grows (CanGrow c.args.entries.now s c.args.part.now) (CannotGrow c.args.entries.now s c.args.part.now)) in
    subst P (sym c.in-Between.is) c.link_line_is_viable.ensures
