use Rattle.std.proofs.Common.{◌≡◌, ◌∙◌, sym, ap}
use Rattle.std.specs.declared.cmp.Ordering.{Ordering}
use Rattle.std.specs.Ordering.{int_cmp, ordering_then}
use Rattle.expr_eval.specs.declared.ordering.Kind.TheVariants.{Number as NumberKind, Boolean, Text}
use Rattle.expr_eval.specs.Order.{kind_of, truth_value}
use Rattle.expr_eval.proofs.OrderLemmas.{numbers_order, booleans_order, texts_order}
use Rattle.expr_eval.proofs.ordering.order_literals.Goals as goal

pub returns-in-Number-Number : goal.returns-in-Number-Number
returns-in-Number-Number c =
    let a = c.args.a in
    let b = c.args.b in
    let m = c.in-Number-Number.m in
    let n = c.in-Number-Number.n in
    let p : kind_of a.lexical.now a.datatype.now ≡ NumberKind m = rw (← c.as_str.ensures, ← c.as_str-2.ensures) (sym c.kind_of-first.ensures ∙ c.in-Number-Number.is-0) in
    let q : kind_of b.lexical.now b.datatype.now ≡ NumberKind n = rw (← c.as_str-3.ensures, ← c.as_str-4.ensures) (sym c.kind_of-second.ensures ∙ c.in-Number-Number.is-1) in
    c.then.ensures
    ∙ ap (λ (o : Ordering). ordering_then o c.order_by_form.result) c.compare.ensures
    ∙ ap (λ (o : Ordering). ordering_then (int_cmp m.scaled n.scaled) o) c.order_by_form.ensures
    ∙ sym (numbers_order _ _ _ _ _ _ m n p q)

pub returns-in-Boolean-Boolean : goal.returns-in-Boolean-Boolean
returns-in-Boolean-Boolean c =
    let a = c.args.a in
    let b = c.args.b in
    let m = c.in-Boolean-Boolean.p in
    let n = c.in-Boolean-Boolean.q in
    let p : kind_of a.lexical.now a.datatype.now ≡ Boolean m = rw (← c.as_str.ensures, ← c.as_str-2.ensures) (sym c.kind_of-first.ensures ∙ c.in-Boolean-Boolean.is-0) in
    let q : kind_of b.lexical.now b.datatype.now ≡ Boolean n = rw (← c.as_str-3.ensures, ← c.as_str-4.ensures) (sym c.kind_of-second.ensures ∙ c.in-Boolean-Boolean.is-1) in
    c.then-in-Boolean-Boolean.ensures
    ∙ ap (λ (o : Ordering). ordering_then o c.order_by_form-in-Boolean-Boolean.result) c.order_truths.ensures
    ∙ ap (λ (o : Ordering). ordering_then (int_cmp (truth_value m) (truth_value n)) o) c.order_by_form-in-Boolean-Boolean.ensures
    ∙ sym (booleans_order _ _ _ _ _ _ m n p q)

pub returns-in-Text-Text : goal.returns-in-Text-Text
returns-in-Text-Text c =
    let a = c.args.a in
    let b = c.args.b in
    let p : kind_of a.lexical.now a.datatype.now ≡ Text = rw (← c.as_str.ensures, ← c.as_str-2.ensures) (sym c.kind_of-first.ensures ∙ c.in-Text-Text.is-0) in
    let q : kind_of b.lexical.now b.datatype.now ≡ Text = rw (← c.as_str-3.ensures, ← c.as_str-4.ensures) (sym c.kind_of-second.ensures ∙ c.in-Text-Text.is-1) in
    c.order_by_form-in-Text-Text.ensures ∙ sym (texts_order _ _ _ _ _ _ p q)
