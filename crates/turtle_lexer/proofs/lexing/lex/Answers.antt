use Rattle.std.proofs.Common.{◌≡◌, length, false}
use Rattle.terminals.proofs.Reading.{all_more, list_more}
use Rattle.turtle_lexer.specs.Tokens.{HasSpan, IsPlain, TokensIn, is_last}
use Rattle.turtle_lexer.proofs.lexing.lex.Goals as goal

pub loop-token-preserved : goal.loop-token-preserved
loop-token-preserved c =
    let next = rw c.in-Token.is at c.read-next.ensures.next in
    let within = rw c.in-Token.is at c.read-next.ensures.within in
    let placed = rw c.in-Token.is at c.read-next.ensures.placed in
    let plain = rw c.in-Token.is at c.read-next.ensures.plain in
    let nameless = rw c.in-Token.is at c.read-next.ensures.nameless in
    let items = c.in_ok-push-in-Token.ensures.items in
    record {
      within = within.1.1;
      nameless = nameless;
      spans = all_more (HasSpan (length c.args.bytes.now)) c.loop-token.tokens.items _ c.in-Token.token items c.loop-token.invariant.spans within.1;
      plain = all_more (IsPlain c.args.bytes.now) c.loop-token.tokens.items _ c.in-Token.token items c.loop-token.invariant.plain plain;
      unended = all_more (λ t. is_last t.kind ≡ false) c.loop-token.tokens.items _ c.in-Token.token items c.loop-token.invariant.unended placed;
      so_far = λ ts r. list_more (TokensIn c.args.dialect c.args.bytes.now) c.loop-token.tokens.items _ ts c.in-Token.token items (c.loop-token.invariant.so_far _ (next ts r));
    }

pub returns-in-Last-clause-spans : goal.returns-in-Last-clause-spans
returns-in-Last-clause-spans c =
    let within = rw c.in-Last.is at c.read-next.ensures.within in
    all_more (HasSpan (length c.args.bytes.now)) c.loop-token.tokens.items _ c.in-Last.token c.in_ok-push-in-Last.ensures.items c.loop-token.invariant.spans within

pub returns-in-Last-clause-plain : goal.returns-in-Last-clause-plain
returns-in-Last-clause-plain c =
    let plain = rw c.in-Last.is at c.read-next.ensures.plain in
    all_more (IsPlain c.args.bytes.now) c.loop-token.tokens.items _ c.in-Last.token c.in_ok-push-in-Last.ensures.items c.loop-token.invariant.plain plain
