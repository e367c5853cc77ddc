use Rattle.std.proofs.Common.{◌≡◌, sym, ◌∙◌, false}
use Rattle.iri_core.specs.Reference.{has_scheme}
use Rattle.iri_core.proofs.Resolving.{kept_as_written, together, some_scheme}
use Rattle.iri_core.proofs.resolution.resolve.Goals as goal

kept : goal.returns-then-is_some-clause-value
kept c = c.in_ok-from_str.ensures ∙ sym (kept_as_written c.args.base.now c.args.text.now (sym c.pieces_of-reference.ensures.scheme ∙ sym c.if-is_some.ensures))

made : goal.returns-clause-value
made c =
    together c.args.base.now c.args.text.now _ _ _ _ (sym c.pieces_of-reference.ensures.scheme ∙ sym c.if-is_some.ensures) c.pieces_of.ensures.value c.pieces_of-reference.ensures.value c.in_ok-out.ensures c.in_ok-from_string.ensures

pub returns-then-is_some-clause-value : goal.returns-then-is_some-clause-value
returns-then-is_some-clause-value c = kept c

pub returns-then-is_some-clause-scheme : goal.returns-then-is_some-clause-scheme
returns-then-is_some-clause-scheme c = some_scheme c.args.base.now c.args.text.now c.in_ok-from_str.field-0 (kept c)

pub returns-clause-value : goal.returns-clause-value
returns-clause-value c = made c

pub returns-clause-as_written : goal.returns-clause-as_written
returns-clause-as_written c = λ some. let none : has_scheme c.args.text.now ≡ false = sym c.pieces_of-reference.ensures.scheme ∙ sym c.if-is_some.ensures in absurd (cc)

pub returns-clause-scheme : goal.returns-clause-scheme
returns-clause-scheme c = some_scheme c.args.base.now c.args.text.now c.in_ok-from_string.field-0 (made c)
