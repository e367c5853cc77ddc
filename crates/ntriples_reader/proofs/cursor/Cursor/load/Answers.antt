use Rattle.std.proofs.Common.{◌≡◌, sym, subst, ◌∙◌}
use Rattle.std.specs.Prelude.{OnOk}
use Rattle.ntriples_reader.specs.Lines.{Lines}
use Rattle.ntriples_reader.specs.Cursor.{view}
use Rattle.ntriples_reader.proofs.Loading.{load_end, load_line_end, load_token}
use Rattle.ntriples_reader.proofs.cursor.Cursor.load.Goals as goal

pub returns-in_default : goal.returns-in_default
returns-in_default c = load_end c.args.self.now.bytes.now c.args.self.now.at c.args.self.now.tokens.now c.in_default.ensures.cases

pub returns-in-Some-line_end_between : goal.returns-in-Some-line_end_between
returns-in-Some-line_end_between c =
    load_line_end c.args.self.now.bytes.now c.args.self.now.at c.in-Some.token.now c.in-Some.behind.now c.args.self.now.tokens.now c.in-Some.ensures.cases.0
    c.in-Some-line_end_between.end (sym c.line_end_between.ensures ∙ c.in-Some-line_end_between.is)

pub returns-in-None : goal.returns-in-None
returns-in-None c =
    subst (λ (ls : Lines). OnOk c.load_token.result (view c.load_token.new.self ≡ ls))
    (load_token c.args.self.now.bytes.now c.args.self.now.at c.in-Some.token.now c.in-Some.behind.now c.args.self.now.tokens.now c.in-Some.ensures.cases.0 (sym c.line_end_between.ensures ∙ c.in-None.is))
    c.load_token.ensures
